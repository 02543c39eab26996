-- A refused line changes nothing.
use Rattle.std.proofs.Common.{◌≡◌, ℕ, List, [], ◌∷◌, map, Bool, true, false, not, cond, ◌&&◌, ◌||◌, ◌==◌, Option, Some, None, Result, Ok, Err, refl, sym, ap, ◌∙◌, arith}
use Rattle.std.proofs.lemmas.Bool.Decides.{nat_tests}
use Rattle.chess_board.specs.declared.board.Move.{Move}
use Rattle.line_io.specs.Event.{Event}
use Rattle.line_io.specs.Event as events
use Rattle.protocol_tokens.specs.declared.kinds.GoKind.{GoKind}
use Rattle.protocol_tokens.specs.declared.kinds.GoKind.TheVariants as kinds
use Rattle.cecp_lines.specs.Messages.{IfaceMsg}
use Rattle.cecp_lines.specs.Messages as says
use Rattle.cecp_lines.specs.Reading.{message_or_fault}
use Rattle.cecp_lines.specs.declared.reply.Reason.TheVariants as reasons
use Rattle.cecp_lines.specs.declared.iface.IfaceFault.{IfaceFault}
use Rattle.cecp_lines.specs.declared.iface.IfaceFault.TheVariants as faults
use Rattle.uci_lines.specs.Info.{Info}
use Rattle.uci_lines.specs.Messages.{EngineMsg}
use Rattle.uci_lines.specs.Messages as hears
use Rattle.uci_lines.specs.Engine.{answer_text, engine_message}
use Rattle.uci_lines.specs.Orders.{Order}
use Rattle.game_record.specs.Game.{Game, current_position}
use Rattle.chess_board.specs.Place.{legal}
use Rattle.policy_rules.specs.declared.setting_rules.settings.Settings.{Settings}
use Rattle.policy_rules.specs.ScoreRules.Scores.{Score}
use Rattle.search_epochs.specs.declared.words.Call.{Call}
use Rattle.search_epochs.specs.declared.words.EngineState.{EngineState}
use Rattle.search_epochs.specs.declared.words.EngineState.TheVariants as states
use Rattle.search_epochs.specs.Tickets.{DialogueTurn, Engine, Boot, Getting, Idle, Search, Gone, Word, Ticketed, Quiet, IsLiveOnlyAt, owed, before_orders, engine_after_orders, is_move, is_no_call, is_engine_idle, has_no_order, is_hint_played, is_move_now, is_due, is_ponder_hit, orders_stop, ticket_ponders, leaves_boot, only, unfenced_after}
use Rattle.search_epochs.proofs.Turns.{none_fenced}
use Rattle.search_epochs.proofs.Same.{only_orders}
use Rattle.search_epochs.proofs.Whole.{no_hint_quiet}
use Rattle.desk_rules.specs.declared.effect.Refusal.{Refusal}
use Rattle.desk_rules.specs.declared.desk.Desk.{Desk}
use Rattle.desk_rules.specs.Desk.{Situation, current, call_of_desk, call_before, is_gone, is_boot, is_getting}
use Rattle.desk_rules.specs.Lines.{line_verdict, verdict_on, refusal, or_else, reason_where, does_not_fit, asks}
use Rattle.desk_rules.specs.Steps.{Effect, Nothing, LongLine, Refuses, Names, Declares, Boots, Readies, Shows, Forfeits, Dies, classify, line_effect, engine_says, answers, shows, search_reports, begins_epoch, call_after, desk_after, desk_after_effect, answers_pings, scores_after, what_of, over_where, resigns_when_gone}
use Rattle.desk_rules.specs.Orders.{dialogue_word_of, orders_waiting, asked_by_effect}
use Rattle.adapter_core.specs.declared.ends.Ends.{Ends}
use Rattle.adapter_core.specs.Ends.{ends_after, is_open}
use Rattle.protocol_tokens.specs.Quit.{is_quit}
use Rattle.cecp_lines.specs.Quit.{is_quit_message}
use Rattle.cecp_lines.proofs.Quits.{quit_first}
use Rattle.adapter_core.specs.Trace.{State, Step, IsLawfulStep, state, trace_state_after, situation_of_state, effect, turn_of_event, mid, owed_after, closed_after, desk_of, still_held}
use Rattle.adapter_core.specs.Shown.{RefusedLinesChangeNothing}
use Rattle.adapter_core.proofs.Traces.{Lasts, lasts, other_ticket, owed_is}

-- THE EVENT OF A REFUSED LINE

-- nothing but a line of the interface is refused, and that does not spell `quit`
record IsLine (s : State) (e : Event) : Type 0 where
  line : List ℕ
  event : e ≡ events.Iface line
  is_open : s.ends.closed ≡ false
  stays : is_quit line ≡ false

-- `quit` is never refused
quit_passes : (h : Situation) (held : List Order) → refusal h held says.Quit ≡ None
unfolding refusal asks
quit_passes h held = by_gone (is_gone h.engine) where
  by_gone : (b : Bool) → or_else (reason_where (does_not_fit held (cond b None None)) reasons.TooManySettings) None ≡ None
  by_gone true = refl
  by_gone false = refl

judged_back : (m : IfaceMsg) (o : Option Refusal) (line : List ℕ) (r : Refusal) (text : List ℕ) → line_effect (verdict_on m o) line ≡ Refuses r text → o ≡ Some r
judged_back m None line r text e = absurd (cc)
judged_back m (Some x) line r text e = cc

refused_stays : (h : Situation) (held : List Order) (line : List ℕ) (a : Result IfaceMsg IfaceFault) (r : Refusal) (text : List ℕ) → line_effect (line_verdict h held line a) line ≡ Refuses r text → is_quit_message a ≡ false
unfolding line_verdict
refused_stays h held line (Err faults.UnknownCommand) r text e = refl
refused_stays h held line (Err faults.BadArgument) r text e = refl
refused_stays h held line (Ok says.Quit) r text e = let p = judged_back says.Quit (refusal h held says.Quit) line r text e in let q = quit_passes h held in cc
refused_stays h held line (Ok m) r text e = refl

open_back : (b : Bool) (d : Effect) (r : Refusal) (text : List ℕ) → cond b Nothing d ≡ Refuses r text → (b ≡ false) × (d ≡ Refuses r text)
open_back true d r text e = absurd (cc)
open_back false d r text e = (refl, e)

only_where : (b : Bool) (d : Effect) (r : Refusal) (text : List ℕ) → (d ≡ Refuses r text → ⊥) → cond b d Nothing ≡ Refuses r text → ⊥
only_where true d r text n e = n e
only_where false d r text n e = cc

not_where : (b : Bool) (d : Effect) (r : Refusal) (text : List ℕ) → (d ≡ Refuses r text → ⊥) → cond b Nothing d ≡ Refuses r text → ⊥
not_where true d r text n e = cc
not_where false d r text n e = n e

shows_not : (g : Game) (line : List ℕ) (best hint : Option Move) (r : Refusal) (text : List ℕ) → shows g line best hint ≡ Refuses r text → ⊥
shows_not g line None hint r text e = cc
shows_not g line (Some m) hint r text e = by_legal (legal (current_position g) m) e where
  by_legal : (b : Bool) → cond b (Shows m hint) (Forfeits (answer_text line)) ≡ Refuses r text → ⊥
  by_legal true e = cc
  by_legal false e = cc

answers_not : (x : EngineState) (g : Game) (line : List ℕ) (best hint : Option Move) (r : Refusal) (text : List ℕ) → answers x g line best hint ≡ Refuses r text → ⊥
answers_not (states.Search kinds.Move false stopped) g line best hint r text e = shows_not g line best hint r text e
answers_not x g line best hint r text e = cc

thinks_not : (k : Option GoKind) (facts : Info) (r : Refusal) (text : List ℕ) → search_reports k facts ≡ Refuses r text → ⊥
thinks_not None facts r text e = cc
thinks_not (Some k) facts r text e = cc

says_not : (h : Situation) (line : List ℕ) (message : EngineMsg) (r : Refusal) (text : List ℕ) → engine_says h line message ≡ Refuses r text → ⊥
says_not h line (hears.Best best hint) r text e = answers_not h.engine h.desk.game line best hint r text e
says_not h line (hears.Name name) r text e = only_where (is_boot h.engine) (Names name) r text (λ x. cc) e
says_not h line (hears.OptionLine name shape) r text e = only_where (is_boot h.engine) (Declares name shape) r text (λ x. cc) e
says_not h line hears.UciOk r text e = only_where (is_boot h.engine) Boots r text (λ x. cc) e
says_not h line hears.ReadyOk r text e = only_where (is_getting h.engine) Readies r text (λ x. cc) e
says_not h line (hears.Info facts) r text e = thinks_not (current h.engine) facts r text e
says_not h line hears.Nothing r text e = cc

refused_line : (s : State) (e : Event) (r : Refusal) (text : List ℕ) → effect s e ≡ Refuses r text → IsLine s e
unfolding classify
refused_line s (events.Iface line) r text e =
    let o = open_back s.ends.closed _ r text e in
    record { line = line; event = refl; is_open = o.0; stays = quit_first line ∙ refused_stays (situation_of_state s) s.held line (message_or_fault line) r text o.1 }
refused_line s events.IfaceLong r text e = absurd (not_where s.ends.closed LongLine r text (λ x. cc) e)
refused_line s (events.Engine line) r text e = absurd (not_where s.ends.closed (engine_says (situation_of_state s) line (engine_message line)) r text (says_not (situation_of_state s) line (engine_message line) r text) e)
refused_line s events.EngineEnd r text e = absurd (not_where (is_gone (situation_of_state s).engine) Dies r text (λ x. cc) e)
refused_line s events.EngineLost r text e = absurd (not_where (is_gone (situation_of_state s).engine) Dies r text (λ x. cc) e)
refused_line s x r text e = absurd (cc)

or_no : (a b : Bool) → b ≡ false → (a || b) ≡ a
or_no true b e = refl
or_no false b e = e

line_ends : (ends : Ends) (line : List ℕ) → is_quit line ≡ false → ends_after ends (events.Iface line) ≡ ends
line_ends ends line q =
    ap (λ (x : Bool). let y : Ends = record ends { iface = x; closed = ends.closed || is_quit line } in y) (or_no ends.iface (is_quit line) q)
    ∙ ap (λ (x : Bool). let y : Ends = record ends { closed = x } in y) (or_no ends.closed (is_quit line) q)

-- THE ORDERS

quiet_boot : (e : Engine) → leaves_boot e Quiet ≡ false
quiet_boot Boot = refl
quiet_boot Getting = refl
quiet_boot Idle = refl
quiet_boot (Search k t s) = refl
quiet_boot Gone = refl

no_hit : (a b c : Bool) → b ≡ false → (a && b && c) ≡ false
no_hit true b c e = ap (λ (x : Bool). x && c) e
no_hit false b c e = refl

no_fence : (fences unfenced nothing : Bool) → nothing ≡ true → (fences && (unfenced && not nothing)) ≡ false
no_fence false unfenced nothing e = refl
no_fence true false nothing e = refl
no_fence true true true e = refl
no_fence true true false e = cc

not_due : (idle boot : Bool) (held : List Order) (fences unfenced nothing : Bool) → boot ≡ false → (idle ≡ true → held ≡ []) → (idle ≡ true → nothing ≡ true)
    → (idle && ((boot || not (has_no_order (map dialogue_word_of held))) || (fences && (unfenced && not nothing)))) ≡ false
not_due false boot held fences unfenced nothing b f g = refl
not_due true true held fences unfenced nothing b f g = cc
not_due true false held fences unfenced nothing b f g =
    ap (λ (os : List Order). not (has_no_order (map dialogue_word_of os)) || (fences && (unfenced && not nothing))) (f refl)
    ∙ no_fence fences unfenced nothing (g refl)

not_begun : (idle nothing : Bool) → (idle ≡ true → nothing ≡ true) → (idle && not nothing) ≡ false
not_begun false nothing f = refl
not_begun true true f = refl
not_begun true false f = cc (f refl)

same_ticket : (t epoch : ℕ) → t ≡ epoch → not (t == epoch) ≡ false
same_ticket t epoch e = grind (arith, nat_tests)

not_stopped : (epoch : ℕ) (e : Engine) → IsLiveOnlyAt epoch e → orders_stop false epoch false e ≡ false
not_stopped epoch (Search kinds.Move t false) i = ap (λ (b : Bool). b || false) (same_ticket t epoch i)
not_stopped epoch (Search k t true) i = refl
not_stopped epoch (Search k t x) i = same_ticket t epoch i
not_stopped epoch e i = refl

chosen_none : (d h s i : Bool) (a b c f : List Word) → d ≡ false → h ≡ false → s ≡ false → i ≡ false → cond d a (cond h b (cond s c (cond i f []))) ≡ []
chosen_none true h s i a b c f p q r t = cc
chosen_none false true s i a b c f p q r t = cc
chosen_none false false true i a b c f p q r t = cc
chosen_none false false false true a b c f p q r t = cc
chosen_none false false false false a b c f p q r t = refl

none_only : (e : Engine) (epoch : ℕ) (o : Call) (waits : List Word) (due hits : Bool) → due ≡ false → hits ≡ false → orders_stop false epoch false e ≡ false → (is_engine_idle e && not (is_no_call o)) ≡ false
    → only e epoch o waits due hits false ≡ []
none_only e epoch o waits due hits d h s i = chosen_none due hits (orders_stop hits epoch false e) (is_engine_idle e && not (is_no_call o)) _ _ _ _ d h (ap (λ (b : Bool). orders_stop b epoch false e) h ∙ s) i

no_orders : (os : List Order) → map dialogue_word_of os ≡ [] → os ≡ []
no_orders [] e = refl
no_orders (o ∷ os) e = cc

kept_pings : (closed owes : Bool) (ps : List ℕ) → (owes ≡ false → ps ≡ []) → cond (answers_pings closed owes) [] ps ≡ ps
kept_pings true owes ps f = refl
kept_pings false true ps f = refl
kept_pings false false ps f = sym (f refl)

module _ (s : State) (step : Step) (holds : Lasts s) (l : IsLawfulStep s step) (r : Refusal) (line : List ℕ) (q : effect s step.event ≡ Refuses r line) where
  abbrev e : Event
  e = step.event

  abbrev h : Situation
  h = situation_of_state s

  abbrev ws : List Word
  ws = map dialogue_word_of step.orders

  spelled : IsLine s e
  spelled = refused_line s e r line q

  ends_stay : ends_after s.ends e ≡ s.ends
  ends_stay = ap (ends_after s.ends) spelled.event ∙ line_ends s.ends spelled.line spelled.stays

  closed_now : closed_after s e ≡ false
  closed_now = ap (λ (x : Ends). x.closed) ends_stay ∙ spelled.is_open

  not_open : is_open e ≡ false
  not_open = ap is_open spelled.event

  abbrev turn_by : Effect → DialogueTurn
  turn_by d = record { what = what_of d; hint = s.desk.hint; begins_epoch = begins_epoch h d; call = call_after (closed_after s e) h d; waiting = map dialogue_word_of (orders_waiting h s.held d); fences = s.settings.fence_stops }

  -- what it is to the dialogue
  abbrev quiet : DialogueTurn
  quiet = record { what = Quiet; hint = s.desk.hint; begins_epoch = false; call = call_before h; waiting = map dialogue_word_of s.held; fences = s.settings.fence_stops }

  same_call : call_after (closed_after s e) h (Refuses r line) ≡ call_before h
  unfolding desk_after_effect
  same_call =
      ap (λ (x : Ends). call_of_desk x.closed (is_gone h.engine || false) s.desk) ends_stay
      ∙ ap (λ (b : Bool). call_of_desk s.ends.closed b s.desk) (or_no (is_gone h.engine) false refl)

  turn_is : turn_of_event s e ≡ quiet
  unfolding asked_by_effect
  turn_is = ap turn_by q ∙ ap (λ (c : Call). let t : DialogueTurn = record { what = Quiet; hint = s.desk.hint; begins_epoch = false; call = c; waiting = map dialogue_word_of s.held; fences = s.settings.fence_stops } in t) same_call

  quiet_mid : before_orders s.dialogue quiet ≡ s.dialogue
  quiet_mid =
      ap (λ (o : Option ℕ). let t : Ticketed = record { engine = s.dialogue.engine; epoch = s.dialogue.epoch; last = o; unfenced = unfenced_after s.dialogue.engine None s.dialogue.unfenced } in t) (other_ticket s.dialogue.engine None s.dialogue.last refl)
      ∙ ap (λ (b : Bool). let t : Ticketed = record { engine = s.dialogue.engine; epoch = s.dialogue.epoch; last = s.dialogue.last; unfenced = b } in t) (none_fenced s.dialogue.engine s.dialogue.unfenced)

  mid_is : mid s e ≡ s.dialogue
  mid_is = ap (before_orders s.dialogue) turn_is ∙ quiet_mid

  abbrev only_by : Ticketed → DialogueTurn → List Word
  only_by m u = only m.engine m.epoch (owed m u.call) u.waiting (is_due s.dialogue u) (is_ponder_hit s.dialogue u) (is_move_now u.what)

  none_is_only : only_by s.dialogue quiet ≡ []
  none_is_only =
      none_only s.dialogue.engine s.dialogue.epoch (owed s.dialogue (call_before h)) (map dialogue_word_of s.held) (is_due s.dialogue quiet) (is_ponder_hit s.dialogue quiet)
      (not_due (is_engine_idle s.dialogue.engine) (leaves_boot s.dialogue.engine Quiet) s.held s.settings.fence_stops (before_orders s.dialogue quiet).unfenced (is_no_call (owed (before_orders s.dialogue quiet) (call_before h))) (quiet_boot s.dialogue.engine)
      (λ i. (holds.rests spelled.is_open i).0) (λ i. ap (λ (m : Ticketed). is_no_call (owed m (call_before h))) quiet_mid ∙ (holds.rests spelled.is_open i).1))
      (no_hit (ticket_ponders s.dialogue) (is_hint_played s.desk.hint Quiet) _ (no_hint_quiet s.desk.hint))
      (not_stopped s.dialogue.epoch s.dialogue.engine (holds.live spelled.is_open))
      (not_begun (is_engine_idle s.dialogue.engine) (is_no_call (owed s.dialogue (call_before h))) (λ i. (holds.rests spelled.is_open i).1))

  no_words : ws ≡ []
  no_words =
      only_orders (mid s e).engine (mid s e).epoch (owed_after s e) (turn_of_event s e).waiting (is_due s.dialogue (turn_of_event s e)) (is_ponder_hit s.dialogue (turn_of_event s e)) (is_move_now (turn_of_event s e).what) ws (l.settled not_open closed_now).words
      ∙ ap (λ (m : Ticketed). only_by m (turn_of_event s e)) mid_is
      ∙ ap (only_by s.dialogue) turn_is
      ∙ none_is_only

  -- THE STATE

  pings_stay : cond (answers_pings (closed_after s e) (is_move (owed_after s e))) [] s.desk.pings ≡ s.desk.pings
  pings_stay =
      kept_pings (closed_after s e) (is_move (owed_after s e)) s.desk.pings
      (λ n. holds.pings spelled.is_open (ap (λ (u : DialogueTurn). is_move u.call) (sym turn_is) ∙ sym (owed_is s step holds l) ∙ n))

  -- what resigns for being gone has resigned before
  not_again : (wants gone owes : Bool) → (wants ≡ true → gone ≡ true → owes ≡ false) → (wants && ((gone || false) && owes)) ≡ false
  not_again false gone owes f = refl
  not_again true false owes f = refl
  not_again true true owes f = f refl refl

  none_resigns : resigns_when_gone (closed_after s e) h (Refuses r line) ≡ false
  unfolding desk_after_effect
  none_resigns =
      not_again s.settings.resign_when_gone (is_gone h.engine) (is_move (call_of_desk (closed_after s e) false s.desk))
      (λ w g. ap (λ (x : Ends). is_move (call_of_desk x.closed false s.desk)) ends_stay ∙ holds.resigned w g)

  desk_stays : desk_of s e ≡ s.desk
  unfolding desk_after_effect
  desk_stays =
      ap (λ (d : Effect). desk_after (closed_after s e) (is_move (owed_after s e)) (is_ponder_hit s.dialogue (turn_of_event s e)) h d) q
      ∙ ap (λ (b : Bool). let d : Desk = record s.desk {
        mode = over_where b s.desk.mode;
        pings = cond (answers_pings (closed_after s e) (is_move (owed_after s e))) [] s.desk.pings;
        early = cond (closed_after s e) [] s.desk.early;
      } in d) none_resigns
      ∙ ap (λ (b : Bool). let d : Desk = record s.desk {
        pings = cond (answers_pings (closed_after s e) (is_move (owed_after s e))) [] s.desk.pings;
        early = cond b [] s.desk.early;
      } in d) closed_now
      ∙ ap (λ (ps : List ℕ). let d : Desk = record s.desk { pings = ps } in d) pings_stay

  held_stays : still_held (orders_waiting h s.held (effect s e)) ws ≡ s.held
  unfolding asked_by_effect
  held_stays = ap (λ (d : Effect). still_held (orders_waiting h s.held d) ws) q ∙ ap (λ (xs : List Word). still_held s.held xs) no_words

  dialogue_stays : engine_after_orders (mid s e) ws ≡ s.dialogue
  dialogue_stays = ap (λ (m : Ticketed). engine_after_orders m ws) mid_is ∙ ap (engine_after_orders s.dialogue) no_words

  scores_stay : scores_after h (effect s e) s.scores ≡ s.scores
  scores_stay = ap (λ (d : Effect). scores_after h d s.scores) q

  abbrev parts : Ends → Desk → List Score → List Order → Ticketed → State
  parts ends desk scores held dialogue = record { settings = s.settings; ends = ends; desk = desk; scores = scores; held = held; dialogue = dialogue }

  pub all_stays : (trace_state_after s step ≡ s) × (step.orders ≡ [])
  all_stays = (
    ap (λ (x : Ends). parts x (desk_of s e) (scores_after h (effect s e) s.scores) (still_held (orders_waiting h s.held (effect s e)) ws) (engine_after_orders (mid s e) ws)) ends_stay
        ∙ ap (λ (x : Desk). parts s.ends x (scores_after h (effect s e) s.scores) (still_held (orders_waiting h s.held (effect s e)) ws) (engine_after_orders (mid s e) ws)) desk_stays
        ∙ ap (λ (x : List Score). parts s.ends s.desk x (still_held (orders_waiting h s.held (effect s e)) ws) (engine_after_orders (mid s e) ws)) scores_stay
        ∙ ap (λ (x : List Order). parts s.ends s.desk s.scores x (engine_after_orders (mid s e) ws)) held_stays
        ∙ ap (λ (x : Ticketed). parts s.ends s.desk s.scores s.held x) dialogue_stays,
    no_orders step.orders no_words,
  )

pub nothing_changes : (o : Settings) → RefusedLinesChangeNothing o
nothing_changes o step t l r line q = all_stays (state o t) step (lasts o t l.0) l.1 r line q
