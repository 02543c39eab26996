-- Each reply and each order of a lawful trace is one line.
use Rattle.std.proofs.Common.{◌≡◌, ℕ, ◌+◌, ◌-◌, ◌<◌, ◌≤◌, List, [], ◌∷◌, ◌++◌, length, map, take, Bool, true, false, not, cond, ◌&&◌, nat_le, nat_lt, codes, Option, Some, None, Result, Ok, Err, refl, sym, ap, subst, ◌∙◌, arith, length-append}
use Rattle.std.specs.List.{AllByRecursion}
use Rattle.std.proofs.lemmas.Bool.Decides.{nat_tests}
use Rattle.std.proofs.lemmas.List.{length-take}
use Rattle.std.proofs.lemmas.Bool.{or_parts}
use Rattle.line_io.specs.Event.{Event, is_line}
use Rattle.line_io.specs.Event as events
use Rattle.chess_board.specs.declared.board.Move.{Move}
use Rattle.chess_board.specs.Position.{Position as Place}
use Rattle.chess_board.specs.Place.{legal}
use Rattle.protocol_tokens.specs.declared.kinds.GoKind.{GoKind}
use Rattle.protocol_tokens.specs.declared.kinds.GoKind.TheVariants as kinds
use Rattle.fen_text.specs.declared.fault.FenFault.{FenFault}
use Rattle.fen_text.specs.Fen.{position_of}
use Rattle.cecp_lines.specs.Messages.{IfaceMsg}
use Rattle.cecp_lines.specs.Messages as says
use Rattle.cecp_lines.specs.Reading.{message_or_fault}
use Rattle.cecp_lines.specs.Replies.{Reply, reply_text}
use Rattle.uci_lines.specs.Info.{Info}
use Rattle.uci_lines.specs.Messages.{EngineMsg, OptionKind}
use Rattle.uci_lines.specs.Messages as hears
use Rattle.uci_lines.specs.Engine.{answer_text, engine_message}
use Rattle.uci_lines.specs.Spells.{HasForm}
use Rattle.uci_lines.specs.Orders.{Order, uci_order_text}
use Rattle.uci_lines.specs.Orders as orders
use Rattle.uci_lines.proofs.Rows.{read_spells}
use Rattle.game_record.specs.Game.{Game, Ply, ply_of, current_position}
use Rattle.option_map.specs.declared.declared_options.declared.Declared.TheVariants as outcome
use Rattle.option_map.specs.declared.declared_options.style.FeatureStyle.{FeatureStyle}
use Rattle.option_map.specs.DeclaredOptions.Styles.{name_in_style}
use Rattle.option_map.specs.DeclaredOptions.Settings.{OptionSetting, text_size, shown_length, setting_from_option, option_by_name, is_combo_full, is_unshowable, declared_beside, grown_by, after_declared}
use Rattle.option_map.specs.DeclaredOptions.Spelled.{OrderIsSpelled}
use Rattle.option_map.proofs.DeclaredOptions.Values.{no_feed, line_part, rest_part}
use Rattle.option_map.proofs.FeatureLists.Measured.{more_text}
use Rattle.option_map.specs.FeatureLists.Features.{is_unfit}
use Rattle.think_text.specs.Last.{ThinkingLine}
use Rattle.policy_rules.specs.declared.setting_rules.settings.Settings.{Settings}
use Rattle.search_epochs.specs.declared.words.EngineState.{EngineState}
use Rattle.search_epochs.specs.declared.words.EngineState.TheVariants as states
use Rattle.search_epochs.specs.Tickets.{Word, Stop, PonderHit, Position, Go, only, orders_stop, is_due, is_ponder_hit, is_move_now, is_engine_idle, is_move, is_no_call, has_go, kind_of}
use Rattle.search_epochs.proofs.Same.{only_orders}
use Rattle.desk_rules.specs.declared.desk.Desk.{Desk}
use Rattle.desk_rules.specs.Desk.{Situation, is_boot, is_getting, is_gone, is_full as is_full_game, plies, game_played, current}
use Rattle.desk_rules.specs.Lines.{Verdict, Refused, Accepted, Early, line_verdict, refusal, change, desk_at_position}
use Rattle.desk_rules.specs.Steps.{Effect, Nothing, LongLine, Names, Accepts, Declares, Boots, Readies, Thinks, Shows, Forfeits, Dies, classify, line_effect, engine_says, search_reports, shows, answers, searched_by, shows_thinking, named_hint, spelling_of, begins_epoch, clears_seen, feature_style, desk_after_effect}
use Rattle.desk_rules.specs.Orders.{orders_waiting, dialogue_word_of}
use Rattle.desk_rules.specs.Fits.{EffectFitsDesk, IsServed, IsLineEvent}
use Rattle.desk_rules.proofs.Passes.{passes, served_few}
use Rattle.desk_rules.specs.declared.effect.Refusal.{Refusal}
use Rattle.desk_rules.specs.declared.effect.Refusal.TheVariants as refusals
use Rattle.adapter_core.specs.Ends.{is_open}
use Rattle.adapter_core.specs.Trace.{State, Step, IsLawfulStep, LawfulTrace, AreSettled, state, trace_state_after, situation_of_state, effect, turn_of_event, mid, owed_after, closed_after, step_hits, desk_of, is_gone_after, closing_step_orders, has_ready}
use Rattle.adapter_core.proofs.Closing.{line_event}
use Rattle.adapter_core.proofs.Traces.{Lasts, lasts, fits}
use Rattle.trace_laws.specs.OneLine.{IsOneLogLine, TracesWriteLines}
use Rattle.trace_laws.proofs.Pieces.{one_line, all_both}
use Rattle.trace_laws.proofs.OptionTexts.{begun_part, styled_bare}
use Rattle.trace_laws.proofs.Games.{game_is}
use Rattle.trace_laws.proofs.ReplyLines.{AreShown, IsLastShown, kept_shown, replies_shown}
use Rattle.trace_laws.proofs.OrderLines.{IsOrdered, AreOrdered, spelled_ordered, waiting_spelled, search_ordered}

-- THE NAME THAT AN ENGINE SAYS

-- a name that is said has no line feed
abbrev IsBareName : Effect → Type 0
IsBareName (Names text) = no_feed text ≡ true
IsBareName d = Unit {0}

name_bare : (line text : List ℕ) → engine_message line ≡ hears.Name text → is_line line ≡ true → no_feed text ≡ true
name_bare line text e l =
    let form : HasForm line (hears.Name text) = read_spells line (hears.Name text) e in
    let part = rest_part form.0 (begun_part line (codes "id") form.0 form.1 (line_part line l)) in
    ap no_feed form.3 ∙ part.line

bare_where : (b : Bool) (d : Effect) → IsBareName d → IsBareName (cond b d Nothing)
bare_where true d h = h
bare_where false d h = tt

bare_unless : (b : Bool) (d : Effect) → IsBareName d → IsBareName (cond b Nothing d)
bare_unless true d h = tt
bare_unless false d h = h

thinks_bare : (k : Option GoKind) (facts : Info) → IsBareName (search_reports k facts)
thinks_bare None facts = tt
thinks_bare (Some k) facts = tt

shows_bare : (g : Game) (line : List ℕ) (best hint : Option Move) → IsBareName (shows g line best hint)
shows_bare g line None hint = tt
shows_bare g line (Some m) hint = by (legal (current_position g) m) where
  by : (b : Bool) → IsBareName (cond b (Shows m hint) (Forfeits (answer_text line)))
  by true = tt
  by false = tt

answers_bare : (e : EngineState) (g : Game) (line : List ℕ) (best hint : Option Move) → IsBareName (answers e g line best hint)
answers_bare (states.Search kinds.Move false stopped) g line best hint = shows_bare g line best hint
answers_bare (states.Search x true stopped) g line best hint = tt
answers_bare e g line best hint = tt

says_bare : (h : Situation) (line : List ℕ) (m : EngineMsg) → is_line line ≡ true → engine_message line ≡ m → IsBareName (engine_says h line m)
says_bare h line (hears.Name text) l e = bare_where (is_boot h.engine) (Names text) (name_bare line text e l)
says_bare h line (hears.OptionLine name shape) l e = bare_where (is_boot h.engine) (Declares name shape) tt
says_bare h line hears.UciOk l e = bare_where (is_boot h.engine) Boots tt
says_bare h line hears.ReadyOk l e = bare_where (is_getting h.engine) Readies tt
says_bare h line (hears.Info facts) l e = thinks_bare (current h.engine) facts
says_bare h line (hears.Best best hint) l e = answers_bare h.engine h.desk.game line best hint
says_bare h line hears.Nothing l e = tt

verdict_bare : (v : Verdict) (line : List ℕ) → IsBareName (line_effect v line)
verdict_bare (Refused r) line = tt
verdict_bare (Accepted m) line = tt
verdict_bare Early line = tt

comes_bare : (h : Situation) (held : List Order) (e : Event) → IsLineEvent e → IsBareName (classify h held e)
unfolding classify
comes_bare h held (events.Iface line) l = bare_unless h.closed (line_effect (line_verdict h held line (message_or_fault line)) line) (verdict_bare (line_verdict h held line (message_or_fault line)) line)
comes_bare h held events.IfaceLong l = bare_unless h.closed LongLine tt
comes_bare h held (events.Engine line) l = bare_unless h.closed (engine_says h line (engine_message line)) (says_bare h line (engine_message line) l refl)
comes_bare h held events.EngineEnd l = bare_unless (is_gone h.engine) Dies tt
comes_bare h held events.EngineLost l = bare_unless (is_gone h.engine) Dies tt
comes_bare h held e l = tt

-- WHAT THE LINES SAY OF THE DESK

-- few options, and few moves
record IsFew (d : Desk) : Type 0 where
  size : text_size d.options ≤ 65536
  count : length d.options ≤ 256
  name : no_feed d.name ≡ true
  plies : plies d.game ≤ 12000
  last : IsLastShown d.last_thinking

-- the parts that a message leaves as they are
pub record Leaves (old new : Desk) : Type 0 where
  pub options : new.options ≡ old.options
  pub name : new.name ≡ old.name
  pub last : new.last_thinking ≡ old.last_thinking

placed_leaves : (d : Desk) (r : Result Place FenFault) → Leaves d (desk_at_position d r)
placed_leaves d (Ok p) = record { options = refl; name = refl; last = refl }
placed_leaves d (Err fault) = record { options = refl; name = refl; last = refl }

pub change_leaves : (boot : Bool) (d : Desk) (m : IfaceMsg) → Leaves d (change boot d m)
unfolding change
change_leaves boot d (says.SetBoard text) = placed_leaves d (position_of text)
change_leaves boot d m = record { options = refl; name = refl; last = refl }

placed_plies : (d : Desk) (r : Result Place FenFault) → plies d.game ≤ 12000 → plies (desk_at_position d r).game ≤ 12000
placed_plies d (Ok p) l = omega arith
placed_plies d (Err fault) l = l

taken_plies : (ms : List Ply) (n : ℕ) → length ms ≤ 12000 → length (take n ms) ≤ 12000
taken_plies ms n l = omega (arith, l, length-take n ms)

played_plies : (g : Game) (m : Move) → plies g < 12000 → plies (game_played g m) ≤ 12000
played_plies g m l = omega (arith, l, length-append g.moves (ply_of m ∷ []))

-- a message that is not refused leaves room for its move
abbrev HasRoom : Game → IfaceMsg → Type 0
HasRoom g (says.UserMove m) = plies g < 12000
HasRoom g m = Unit {0}

room_by : (n : ℕ) (b : Bool) (r : Refusal) → nat_le 12000 n ≡ b → cond b (Some r) None ≡ None → n < 12000
room_by n true r e h = cc
room_by n false r e h = grind (arith, nat_tests)

has_room : (h : Situation) (held : List Order) (m : IfaceMsg) → refusal h held m ≡ None → HasRoom h.desk.game m
has_room h held (says.UserMove m) e = room_by (plies h.desk.game) (is_full_game h.desk.game) (refusals.GameTooLong m) refl (passes h held (says.UserMove m) e).few
has_room h held m e = tt

change_plies : (boot : Bool) (d : Desk) (m : IfaceMsg) → HasRoom d.game m → plies d.game ≤ 12000 → plies (change boot d m).game ≤ 12000
unfolding change
change_plies boot d says.New c l = omega arith
change_plies boot d (says.UserMove m) c l = played_plies d.game m c
change_plies boot d says.Undo c l = taken_plies d.game.moves (length d.game.moves - 1) l
change_plies boot d says.Remove c l = taken_plies d.game.moves (length d.game.moves - 2) l
change_plies boot d (says.SetBoard text) c l = placed_plies d (position_of text) l
change_plies boot d m c l = l

-- OPTIONS

record AreFewOptions (os : List OptionSetting) : Type 0 where
  size : text_size os ≤ 65536
  count : length os ≤ 256

one_more : (os : List OptionSetting) (o : OptionSetting) → is_combo_full os o ≡ false → AreFewOptions (os ++ o ∷ [])
one_more os o e =
    let n = or_parts (nat_le 256 (length os)) (nat_lt 65536 (text_size os + shown_length o)) e in
    let few : length os < 256 = grind (arith, nat_tests, n.0) in
    let small : text_size os + shown_length o ≤ 65536 = grind (arith, nat_tests, n.1) in
    record { size = omega (arith, small, more_text os o); count = omega (arith, few, length-append os (o ∷ [])) }

full_step : (w : Bool) (os : List OptionSetting) (o : OptionSetting) → is_combo_full os o ≡ w → AreFewOptions os → AreFewOptions (grown_by (cond w outcome.Full outcome.Done) os o)
full_step true os o e f = f
full_step false os o e f = one_more os o e

beside_step : (other : Option OptionSetting) (os : List OptionSetting) (o : OptionSetting) → AreFewOptions os → AreFewOptions (grown_by (declared_beside other os o) os o)
beside_step (Some other) os o f = f
beside_step None os o f = full_step (is_combo_full os o) os o refl f

shown_step : (w : Bool) (os : List OptionSetting) (name : List ℕ) (o : OptionSetting) → AreFewOptions os → AreFewOptions (grown_by (cond w outcome.Unshowable (declared_beside (option_by_name name os) os o)) os o)
shown_step true os name o f = f
shown_step false os name o f = beside_step (option_by_name name os) os o f

declared_few : (style : FeatureStyle) (os : List OptionSetting) (name : List ℕ) (shape : OptionKind) → AreFewOptions os → AreFewOptions (after_declared style os name shape)
declared_few style os name shape f = shown_step (is_unshowable style name shape) os name (setting_from_option style name shape) f

-- AFTER AN EFFECT

shown_bare : (b : Bool) (said : List ℕ) → no_feed said ≡ true → no_feed (cond b (codes "UCI engine") said) ≡ true
shown_bare true said h = refl
shown_bare false said h = h

left_few : (old new : Desk) → Leaves old new → plies new.game ≤ 12000 → IsFew old → IsFew new
left_few old new l p f = record {
  size = omega (arith, f.size, ap text_size l.options);
  count = omega (arith, f.count, ap length l.options);
  name = ap no_feed l.name ∙ f.name;
  plies = p;
  last = subst IsLastShown (sym l.last) f.last;
}

few_after : (h : Situation) (held : List Order) (d : Effect) → IsServed h → EffectFitsDesk h held d → IsBareName d → IsFew h.desk → IsFew (desk_after_effect h d)
unfolding desk_after_effect
few_after h held (Accepts m) s f n k =
    let new = change (is_boot h.engine) h.desk m in
    left_few h.desk new (change_leaves (is_boot h.engine) h.desk m) (change_plies (is_boot h.engine) h.desk m (has_room h held m f.passes) k.plies) k
few_after h held (Names text) s f n k =
    let name = name_in_style (feature_style h.settings) text in
    record { size = k.size; count = k.count; name = shown_bare (is_unfit name) name (styled_bare (feature_style h.settings) text n); plies = k.plies; last = k.last }
few_after h held (Declares name shape) s f n k =
    let o = declared_few (feature_style h.settings) h.desk.options name shape (record { size = k.size; count = k.count }) in
    record { size = o.size; count = o.count; name = k.name; plies = k.plies; last = k.last }
few_after h held (Thinks kind facts) s f n k = record {
  size = k.size;
  count = k.count;
  name = k.name;
  plies = k.plies;
  last = kept_shown (shows_thinking h kind) (spelling_of h.settings) facts (current_position (searched_by kind h.desk.game h.desk.hint)) (named_hint kind h.desk.game h.desk.hint) h.desk.last_thinking f.2 k.last;
}
few_after h held (Shows best hint) s f n k =
    record { size = k.size; count = k.count; name = k.name; plies = played_plies h.desk.game best (served_few h kinds.Move s f.0 f.1); last = k.last }
few_after h held d s f n k = record { size = k.size; count = k.count; name = k.name; plies = k.plies; last = k.last }

last_left : (b : Bool) (last : Option ThinkingLine) → IsLastShown last → IsLastShown (cond b None last)
last_left true last l = tt
last_left false last l = l

-- AFTER EACH STEP

record Waits (s : State) : Type 0 where
  few : IsFew s.desk
  held : AllByRecursion (OrderIsSpelled 65700) s.held

left_held : (b : Bool) (held : List Order) → AllByRecursion (OrderIsSpelled 65700) held → AllByRecursion (OrderIsSpelled 65700) (cond b [] held)
left_held true held h = tt
left_held false held h = h

waits_after : (s : State) (step : Step) → Lasts s → IsLawfulStep s step → Waits s → Waits (trace_state_after s step)
waits_after s step last l w =
    let h = situation_of_state s in
    let d = effect s step.event in
    let f = fits s step last l in
    let k = few_after h s.held d last.served f (comes_bare h s.held step.event (line_event s.ends step.event l.may_come)) w.few in
    record {
      few = record { size = k.size; count = k.count; name = k.name; plies = k.plies; last = last_left (clears_seen (begins_epoch h d) (step_hits s step.event)) (desk_after_effect h d).last_thinking k.last };
      held = left_held (has_ready (map dialogue_word_of step.orders)) (orders_waiting h s.held d) (waiting_spelled h s.held d last.sound f w.held);
    }

waits_in : (o : Settings) (t : List Step) → LawfulTrace o t → Waits (state o t)
waits_in o [] l = record { few = record { size = omega arith; count = omega arith; name = refl; plies = omega arith; last = tt }; held = tt }
waits_in o (step ∷ t) l = waits_after (state o t) step (lasts o t l.0) l.1 (waits_in o t l.0)

-- THE ORDERS OF A STEP

-- `stop` and `ponderhit` alone
abbrev is_plain : List Word → Bool
is_plain [] = true
is_plain (Stop ∷ ws) = is_plain ws
is_plain (PonderHit ∷ ws) = is_plain ws
is_plain ws = false

plain_ordered : (os : List Order) → is_plain (map dialogue_word_of os) ≡ true → AreOrdered os
unfolding uci_order_text
plain_ordered [] e = tt
plain_ordered (orders.Stop ∷ os) e = (record { line = refl; short = omega arith }, plain_ordered os e)
plain_ordered (orders.PonderHit ∷ os) e = (record { line = refl; short = omega arith }, plain_ordered os e)
plain_ordered x e = cc

-- an order that is chosen without a batch and without a search is plain
plain_by : (hits orders_stop begins : Bool) (k : GoKind) → has_go (cond hits (PonderHit ∷ []) (cond orders_stop (Stop ∷ []) (cond begins (Position ∷ Go k ∷ []) []))) ≡ false
    → is_plain (cond hits (PonderHit ∷ []) (cond orders_stop (Stop ∷ []) (cond begins (Position ∷ Go k ∷ []) []))) ≡ true
plain_by true orders_stop begins k e = refl
plain_by false true begins k e = refl
plain_by false false true k e = cc
plain_by false false false k e = refl

uci_ordered : IsOrdered orders.Uci
unfolding uci_order_text
uci_ordered = record { line = refl; short = omega arith }

ready_ordered : IsOrdered orders.IsReady
unfolding uci_order_text
ready_ordered = record { line = refl; short = omega arith }

last_ordered : (gone : Bool) → AreOrdered (closing_step_orders gone)
unfolding uci_order_text
last_ordered true = tt
last_ordered false = (record { line = refl; short = omega arith }, tt)

module _ (o : Settings) (step : Step) (t : List Step) (l : LawfulTrace o (step ∷ t)) where
  abbrev s : State
  s = state o t

  abbrev ev : Event
  ev = step.event

  settled_ordered : AreSettled s ev step.orders → AreOrdered step.orders
  settled_ordered a = by_go (is_due s.dialogue (turn_of_event s ev)) (has_go (map dialogue_word_of step.orders)) refl refl where
    chosen : is_due s.dialogue (turn_of_event s ev) ≡ false
        → map dialogue_word_of step.orders ≡ only (mid s ev).engine (mid s ev).epoch (owed_after s ev) (turn_of_event s ev).waiting false (is_ponder_hit s.dialogue (turn_of_event s ev)) (is_move_now (turn_of_event s ev).what)
    chosen d =
        only_orders (mid s ev).engine (mid s ev).epoch (owed_after s ev) (turn_of_event s ev).waiting (is_due s.dialogue (turn_of_event s ev)) (is_ponder_hit s.dialogue (turn_of_event s ev)) (is_move_now (turn_of_event s ev).what) (map dialogue_word_of step.orders) a.words
        ∙ ap (λ b. only (mid s ev).engine (mid s ev).epoch (owed_after s ev) (turn_of_event s ev).waiting b (is_ponder_hit s.dialogue (turn_of_event s ev)) (is_move_now (turn_of_event s ev).what)) d

    by_go : (due go : Bool) → is_due s.dialogue (turn_of_event s ev) ≡ due → has_go (map dialogue_word_of step.orders) ≡ go → AreOrdered step.orders
    by_go true go d g =
        let waits = orders_waiting (situation_of_state s) s.held (effect s ev) in
        let last = lasts o t l.0 in
        subst AreOrdered (sym (a.batch d))
        (all_both IsOrdered waits (orders.IsReady ∷ [])
        (spelled_ordered waits (waiting_spelled (situation_of_state s) s.held (effect s ev) last.sound (fits s step last l.1) (waits_in o t l.0).held)) (ready_ordered, tt))
    by_go false true d g =
        subst AreOrdered (sym (a.search g)) (search_ordered s.settings (desk_of s ev) (owed_after s ev) (game_is o (step ∷ t) l) (waits_in o (step ∷ t) l).few.plies)
    by_go false false d g =
        let same = chosen d in
        plain_ordered step.orders
        (ap is_plain same
        ∙ plain_by (is_ponder_hit s.dialogue (turn_of_event s ev)) (orders_stop (is_ponder_hit s.dialogue (turn_of_event s ev)) (mid s ev).epoch (is_move_now (turn_of_event s ev).what) (mid s ev).engine)
        (is_engine_idle (mid s ev).engine && not (is_no_call (owed_after s ev))) (kind_of (owed_after s ev)) (sym (ap has_go same) ∙ g))

  orders_ordered : (opens before after : Bool) → is_open ev ≡ opens → s.ends.closed ≡ before → closed_after s ev ≡ after → AreOrdered step.orders
  orders_ordered true before after n c e = subst AreOrdered (sym (l.1.opens n)) (uci_ordered, tt)
  orders_ordered false true after n c e = subst AreOrdered (sym (l.1.closed n c)) tt
  orders_ordered false false true n c e = subst AreOrdered (sym (l.1.closes c e)) (last_ordered (is_gone_after s ev))
  orders_ordered false false false n c e = settled_ordered (l.1.settled n e)

  replies_ordered : AreShown step.replies
  replies_ordered =
      let last = lasts o t l.0 in
      let few = (waits_in o t l.0).few in
      let k = few_after (situation_of_state s) s.held (effect s ev) last.served (fits s step last l.1) (comes_bare (situation_of_state s) s.held ev (line_event s.ends ev l.1.may_come)) few in
      subst AreShown (sym l.1.replies)
      (replies_shown (closed_after s ev) (is_move (owed_after s ev)) (step_hits s ev) (situation_of_state s) s.held (effect s ev)
      (record { options = last.sound.options; early = last.sound.early.lines; size = few.size; count = few.count; name = few.name; last = few.last }) k.last last.sound (fits s step last l.1))

-- LINES

shown_lines : (rs : List Reply) → AreShown rs → AllByRecursion (λ (r : Reply). IsOneLogLine (reply_text r)) rs
shown_lines [] a = tt
shown_lines (r ∷ rs) a = (one_line (reply_text r) a.0 (omega arith), shown_lines rs a.1)

ordered_lines : (os : List Order) → AreOrdered os → AllByRecursion (λ (c : Order). IsOneLogLine (uci_order_text c)) os
ordered_lines [] a = tt
ordered_lines (c ∷ os) a = (one_line (uci_order_text c) a.0 (omega arith), ordered_lines os a.1)

pub write_lines : (o : Settings) → TracesWriteLines o
write_lines o [] l = tt
write_lines o (step ∷ t) l = (
  record {
    replies = shown_lines step.replies (replies_ordered o step t l);
    orders = ordered_lines step.orders (orders_ordered o step t l (is_open step.event) (state o t).ends.closed (closed_after (state o t) step.event) refl refl refl);
  },
  write_lines o t l.0,
)
