-- A move is shown exactly where a current search for a move answers with a legal one.
use Rattle.std.proofs.Common.{◌≡◌, ◌⊎◌, inl, inr, ℕ, ◌≤◌, List, [], ◌∷◌, ◌++◌, length, map, codes, Bool, true, false, not, cond, ◌&&◌, ◌==◌, Option, Some, None, Result, Ok, Err, refl, sym, ap, subst, ◌∙◌, arith}
use Rattle.std.specs.Prelude.{Contains}
use Rattle.std.specs.Option.{option_to_list}
use Rattle.std.proofs.lemmas.Bool.Decides.{nat_tests}
use Rattle.std.proofs.lemmas.List.Elements.{Contains-append_cases, Contains-append_left, Contains-append_right, Contains-push_cases, Contains-push}
use Rattle.chess_board.specs.declared.board.Move.{Move as AnyMove}
use Rattle.chess_board.specs.declared.board.Side.{Side}
use Rattle.chess_board.specs.Place.{legal}
use Rattle.protocol_tokens.specs.declared.kinds.GoKind.{GoKind}
use Rattle.protocol_tokens.specs.declared.kinds.GoKind.TheVariants as kinds
use Rattle.line_io.specs.Event.{Event}
use Rattle.line_io.specs.Event as events
use Rattle.cecp_lines.specs.Messages.{IfaceMsg}
use Rattle.cecp_lines.specs.Messages as says
use Rattle.cecp_lines.specs.Reading.{message_or_fault}
use Rattle.cecp_lines.specs.declared.reply.Spelling.{Spelling}
use Rattle.cecp_lines.specs.Replies.{Reply}
use Rattle.cecp_lines.specs.Losses.{Loss, quoted}
use Rattle.cecp_lines.specs.Losses as losses
use Rattle.cecp_lines.specs.Replies as reply
use Rattle.cecp_lines.specs.declared.iface.IfaceFault.{IfaceFault}
use Rattle.cecp_lines.specs.declared.iface.IfaceFault.TheVariants as faults
use Rattle.uci_lines.specs.Orders.{Order}
use Rattle.uci_lines.specs.Info.{Info}
use Rattle.uci_lines.specs.Messages.{EngineMsg}
use Rattle.uci_lines.specs.Messages as hears
use Rattle.uci_lines.specs.Engine.{answer_text, engine_message}
use Rattle.game_record.specs.declared.ending.GameEnd.{GameEnd}
use Rattle.game_record.specs.Game.{Game, current_position}
use Rattle.game_record.specs.Ending.{ended_of}
use Rattle.option_map.specs.DeclaredOptions.Settings.{OptionSetting}
use Rattle.option_map.specs.DeclaredOptions.Shown.{takes_tables}
use Rattle.uci_lines.specs.declared.messages.Score.{Score}
use Rattle.think_text.specs.Line.{thinking_line, line_with, legal_run, run_texts, hint_text}
use Rattle.think_text.specs.Last.{ThinkingLine}
use Rattle.option_map.specs.declared.feature_lists.negotiation.ProtoverAnswer.{ProtoverAnswer}
use Rattle.option_map.specs.declared.feature_lists.negotiation.ProtoverAnswer.TheVariants as say
use Rattle.option_map.specs.WaitingOrders.Due.{protover_answer}
use Rattle.option_map.specs.FeatureLists.Features.{feature_list, tables, option_feature, shown_options}
use Rattle.policy_rules.specs.declared.setting_rules.settings.Settings.{Settings}
use Rattle.search_epochs.specs.declared.words.EngineState.{EngineState}
use Rattle.search_epochs.specs.declared.words.EngineState.TheVariants as states
use Rattle.search_epochs.specs.Tickets.{Engine, Boot, Getting, Idle, Search, Gone, is_move}
use Rattle.search_epochs.specs.Dialogue.{forget}
use Rattle.desk_rules.specs.declared.effect.Refusal.{Refusal}
use Rattle.desk_rules.specs.declared.effect.Refusal.TheVariants as refusals
use Rattle.desk_rules.specs.declared.desk.Desk.{Desk}
use Rattle.desk_rules.specs.Desk.{Situation, is_boot, is_getting, is_gone, current, table, on_move, game_played, plays}
use Rattle.desk_rules.specs.Lines.{Verdict, Refused, Accepted, Early, line_verdict, change, refused_option, early_answer}
use Rattle.desk_rules.specs.Steps.{Effect, Nothing, LongLine, Refuses, Accepts, Names, Declares, Boots, Readies, Thinks, Shows, Forfeits, Dies, classify, line_effect, engine_says, answers, shows, search_reports, searched_by, shows_thinking, named_hint, spelling_of, resigns_after, resigns_at_end, resigns_when_gone, desk_after_effect}
use Rattle.desk_rules.specs.Replies.{refused, result_reply_by, result_reply_of, protover_row, offer_where, hint_row, row_accepted, list_where, resign_where, giving_up, given_up_where, early_refusal, early_refusals, reply_row, repeated_thinking, replies_of}
use Rattle.adapter_core.specs.Trace.{State, state, situation_of_state, effect, step_replies, owed_after, closed_after, step_hits}
use Rattle.adapter_core.specs.Shown.{AnswersWithMove, MovesAreShownInTime, MovesAreShownOnce, moves_shown}

-- LINES THAT SHOW A MOVE

none_in : {X : Type 0} (x : X) → Contains [] x → ⊥
none_in x c = absurd (omega (arith, c.1))

first_or_later : {X : Type 0} (y : X) (xs : List X) (x : X) → Contains (y ∷ xs) x → (y ≡ x) ⊎ Contains xs x
first_or_later y xs x c = by_part (Contains-append_cases (y ∷ []) xs x c) where
  by_push : Contains [] x ⊎ (y ≡ x) → (y ≡ x) ⊎ Contains xs x
  by_push (inl n) = absurd (none_in x n)
  by_push (inr e) = inl e

  by_part : Contains (y ∷ []) x ⊎ Contains xs x → (y ≡ x) ⊎ Contains xs x
  by_part (inl f) = by_push (Contains-push_cases [] y x f)
  by_part (inr l) = inr l

is_first : {X : Type 0} (x : X) (xs : List X) → Contains (x ∷ xs) x
is_first x xs = Contains-append_left (x ∷ []) xs x (Contains-push [] x)

named : (a b : AnyMove) → reply.Move a ≡ reply.Move b → a ≡ b
named a b e = cc

shown_first : (b m : AnyMove) (lines : List Reply) → (reply.Move b ≡ reply.Move m) ⊎ Contains lines (reply.Move m) → (Contains lines (reply.Move m) → Contains (moves_shown lines) m) → Contains (b ∷ moves_shown lines) m
shown_first b m lines (inl e) f = subst (λ (x : AnyMove). Contains (b ∷ moves_shown lines) x) (named b m e) (is_first b (moves_shown lines))
shown_first b m lines (inr c) f = Contains-append_right (b ∷ []) (moves_shown lines) m (f c)

later : (A B C : Type 0) → A ⊎ B → (A → ⊥) → (B → C) → C
later A B C (inl a) n f = absurd (n a)
later A B C (inr b) n f = f b

-- a line that shows a move shows one of the moves shown
is_shown_in : (lines : List Reply) (m : AnyMove) → Contains lines (reply.Move m) → Contains (moves_shown lines) m
is_shown_in [] m c = absurd (none_in (reply.Move m) c)
is_shown_in (reply.Move b ∷ lines) m c = shown_first b m lines (first_or_later (reply.Move b) lines (reply.Move m) c) (is_shown_in lines m)
is_shown_in (line ∷ lines) m c = later (line ≡ reply.Move m) (Contains lines (reply.Move m)) (Contains (moves_shown lines) m) (first_or_later line lines (reply.Move m) c) (λ e. cc) (is_shown_in lines m)

-- the moves of lines that stand one after the other
joined : (xs ys : List Reply) → moves_shown (xs ++ ys) ≡ moves_shown xs ++ moves_shown ys
joined [] ys = refl
joined (reply.Move m ∷ xs) ys = ap (λ (l : List AnyMove). m ∷ l) (joined xs ys)
joined (x ∷ xs) ys = joined xs ys

none_joined : (xs ys : List Reply) → moves_shown xs ≡ [] → moves_shown ys ≡ [] → moves_shown (xs ++ ys) ≡ []
none_joined xs ys a b = joined xs ys ∙ ap (λ (l : List AnyMove). l ++ moves_shown ys) a ∙ b

-- ROWS WITHOUT A MOVE

no_pongs : (b : Bool) (ns : List ℕ) → moves_shown (cond b [] (map reply.Pong ns)) ≡ []
no_pongs true ns = refl
no_pongs false [] = refl
no_pongs false (n ∷ ns) = no_pongs false ns

no_options : (os : List OptionSetting) → moves_shown (map option_feature os) ≡ []
no_options [] = refl
no_options (o ∷ os) = no_options os

no_tables : (b : Bool) → moves_shown (tables b) ≡ []
no_tables true = refl
no_tables false = refl

no_features : (os : List OptionSetting) (said : List ℕ) → moves_shown (feature_list os said) ≡ []
no_features os said =
    let last = reply.Feature (codes "done") (codes "1") ∷ [] in
    none_joined (tables (takes_tables os) ++ map option_feature (shown_options os)) last
    (none_joined (tables (takes_tables os)) (map option_feature (shown_options os)) (no_tables (takes_tables os)) (no_options (shown_options os))) refl

no_list : (b : Bool) (d : Desk) → moves_shown (list_where b d) ≡ []
no_list true d = no_features (table d) d.name
no_list false d = refl

no_resign : (b : Bool) → moves_shown (resign_where b) ≡ []
no_resign true = refl
no_resign false = refl

no_reason : (reasons : Bool) (side : Side) (loss : Loss) → moves_shown (giving_up reasons side loss ∷ []) ≡ []
no_reason true side loss = refl
no_reason false side loss = refl

no_given_up : (b : Bool) (o : Settings) (g : Game) → moves_shown (given_up_where b o g) ≡ []
no_given_up true o g = no_reason o.result_reasons (on_move g) losses.Ended
no_given_up false o g = refl

no_offer : (b : Bool) → moves_shown (offer_where b) ≡ []
no_offer true = refl
no_offer false = refl

no_result : (side : Side) (end : Option GameEnd) → moves_shown (result_reply_by side end) ≡ []
no_result side None = refl
no_result side (Some end) = refl

no_result_at : (b : Bool) (g : Game) → moves_shown (cond b (result_reply_of g) []) ≡ []
no_result_at true g = no_result (on_move g) (ended_of g)
no_result_at false g = refl

no_hint : (hint : Option AnyMove) → moves_shown (hint_row hint) ≡ []
no_hint None = refl
no_hint (Some m) = refl

no_wait : (s : ProtoverAnswer) (d : Desk) → moves_shown (protover_row s d) ≡ []
no_wait say.Wait d = refl
no_wait say.List d = no_features (table d) d.name

no_refusal : (r : Refusal) (line : List ℕ) → moves_shown (refused r line ∷ []) ≡ []
no_refusal (refusals.Because reason) line = refl
no_refusal (refusals.IllegalMove m) line = refl
no_refusal (refusals.GameTooLong m) line = refl
no_refusal refusals.IllegalPosition line = refl

no_line : (depth : Option ℕ) (score : Option Score) (texts : List (List ℕ)) (facts : Info) (s : Spelling) (hint : Option (List ℕ)) → moves_shown (option_to_list (line_with depth score texts facts s hint)) ≡ []
no_line (Some depth) (Some score) (text ∷ texts) facts s hint = refl
no_line (Some depth) (Some score) [] facts s hint = refl
no_line (Some depth) None texts facts s hint = refl
no_line None score texts facts s hint = refl

no_thinking : (b : Bool) (x : Option Reply) → moves_shown (option_to_list x) ≡ [] → moves_shown (option_to_list (cond b x None)) ≡ []
no_thinking true x e = e
no_thinking false x e = refl

no_repeated : (b : Bool) (last : Option ThinkingLine) → moves_shown (repeated_thinking b last) ≡ []
no_repeated true None = refl
no_repeated true (Some line) = refl
no_repeated false last = refl

no_answer : (h : Situation) (m : IfaceMsg) → moves_shown (row_accepted h m) ≡ []
unfolding row_accepted
no_answer h (says.Protover n) = no_wait (protover_answer (is_boot h.engine)) h.desk
no_answer h (says.UserMove m) = no_result_at (plays (change false h.desk (says.UserMove m)).mode) (change false h.desk (says.UserMove m)).game
no_answer h says.Go = no_result_at (plays (change false h.desk says.Go).mode) (change false h.desk says.Go).game
no_answer h says.PlayOther = no_result_at (plays (change false h.desk says.PlayOther).mode) (change false h.desk says.PlayOther).game
no_answer h says.Draw = no_offer _
no_answer h says.Hint = no_hint h.desk.hint
no_answer h m = refl

no_early_line : (o : Option Refusal) (line : List ℕ) → moves_shown (early_refusal o line) ≡ []
no_early_line None line = refl
no_early_line (Some r) line = no_refusal r line

no_early : (os : List OptionSetting) (lines : List (List ℕ)) → moves_shown (early_refusals os lines) ≡ []
no_early os [] = refl
no_early os (line ∷ lines) =
    let first = refused_option (early_answer os line) in
    none_joined (early_refusal first line) (early_refusals os lines) (no_early_line first line) (no_early os lines)

-- THE MOVES OF A STEP

-- the move that an effect shows
abbrev pub shown_by : Effect → List AnyMove
shown_by (Shows best hint) = best ∷ []
shown_by d = []

row_shows : (h : Situation) (d : Effect) → moves_shown (reply_row h d) ≡ shown_by d
unfolding reply_row
row_shows h (Refuses r line) = no_refusal r line
row_shows h (Accepts m) = no_answer h m
row_shows h Boots =
    none_joined (list_where h.desk.due (record h.desk { booted = true })) (early_refusals h.desk.options h.desk.early) (no_list h.desk.due (record h.desk { booted = true })) (no_early h.desk.options h.desk.early)
row_shows h (Thinks k facts) =
    let p = current_position (searched_by k h.desk.game h.desk.hint) in
    let s = spelling_of h.settings in
    let hint = named_hint k h.desk.game h.desk.hint in
    no_thinking (shows_thinking h k) (thinking_line s facts p hint) (no_line facts.depth facts.score (run_texts s p (legal_run p facts.pv)) facts s (hint_text s hint))
row_shows h (Shows best hint) =
    ap (λ (l : List AnyMove). best ∷ l) (none_joined (result_reply_of (game_played h.desk.game best)) (resign_where (resigns_after h best)) (no_result (on_move (game_played h.desk.game best)) (ended_of (game_played h.desk.game best))) (no_resign (resigns_after h best)))
row_shows h (Forfeits answer) = no_reason h.settings.result_reasons (on_move h.desk.game) (losses.IllegalMove (quoted answer))
row_shows h Dies =
    let gone = given_up_where (resigns_at_end h) h.settings h.desk.game in
    none_joined (list_where h.desk.due h.desk) (reply.TellError _ ∷ gone) (no_list h.desk.due h.desk) (no_given_up (resigns_at_end h) h.settings h.desk.game)
row_shows h d = refl

-- the moves that are told in an open session
pub open_shows : (owes hits : Bool) (h : Situation) (d : Effect) → moves_shown (replies_of false owes hits h d) ≡ shown_by d
open_shows owes hits h d =
    let pongs = cond owes [] (map reply.Pong (desk_after_effect h d).pings) in
    let resign = given_up_where (resigns_when_gone false h d) h.settings (desk_after_effect h d).game in
    let again = repeated_thinking (h.settings.repeat_thinking && hits) (desk_after_effect h d).last_thinking in
    joined (reply_row h d ++ resign ++ again) pongs ∙ ap (λ (l : List AnyMove). moves_shown (reply_row h d ++ resign ++ again) ++ l) (no_pongs owes (desk_after_effect h d).pings) ∙ append_none (moves_shown (reply_row h d ++ resign ++ again))
    ∙ joined (reply_row h d ++ resign) again ∙ ap (λ (l : List AnyMove). moves_shown (reply_row h d ++ resign) ++ l) (no_repeated (h.settings.repeat_thinking && hits) (desk_after_effect h d).last_thinking) ∙ append_none (moves_shown (reply_row h d ++ resign))
    ∙ joined (reply_row h d) resign ∙ ap (λ (l : List AnyMove). moves_shown (reply_row h d) ++ l) (no_given_up (resigns_when_gone false h d) h.settings (desk_after_effect h d).game) ∙ append_none (moves_shown (reply_row h d)) ∙ row_shows h d where
      append_none : (l : List AnyMove) → l ++ [] ≡ l
      append_none [] = refl
      append_none (m ∷ l) = ap (λ (xs : List AnyMove). m ∷ xs) (append_none l)

shown_few : (d : Effect) → length (shown_by d) ≤ 1
shown_few (Shows best hint) = omega arith
shown_few d = omega arith

few_by : (closed owes hits : Bool) (h : Situation) (d : Effect) → length (moves_shown (replies_of closed owes hits h d)) ≤ 1
few_by true owes hits h d = omega arith
few_by false owes hits h d = subst (λ (l : List AnyMove). length l ≤ 1) (sym (open_shows owes hits h d)) (shown_few d)

pub once : (o : Settings) → MovesAreShownOnce o
once o step t l =
    let s = state o t in
    subst (λ (rs : List Reply). length (moves_shown rs) ≤ 1) (sym l.1.replies) (few_by (closed_after s step.event) (is_move (owed_after s step.event)) (step_hits s step.event) (situation_of_state s) (effect s step.event))

-- FROM THE MOVE TO THE ANSWER

not_shown : (b : Bool) (d : Effect) (m : AnyMove) (hint : Option AnyMove) → (d ≡ Shows m hint → ⊥) → cond b d Nothing ≡ Shows m hint → ⊥
not_shown true d m hint n e = n e
not_shown false d m hint n e = cc

-- an effect that shows m, by what the engine says
record SaysIt (h : Situation) (message : EngineMsg) (m : AnyMove) : Type 0 where
  hint : Option AnyMove
  stopped : Bool
  best : message ≡ hears.Best (Some m) hint
  engine : h.engine ≡ states.Search kinds.Move false stopped
  is_legal : legal (current_position h.desk.game) m ≡ true

legal_back : (g : Game) (line : List ℕ) (b : AnyMove) (hint : Option AnyMove) (m : AnyMove) (hint' : Option AnyMove) (x : Bool) → legal (current_position g) b ≡ x → cond x (Shows b hint) (Forfeits (answer_text line)) ≡ Shows m hint'
    → (b ≡ m) × (legal (current_position g) m ≡ true)
legal_back g line b hint m hint' true l e = let same : b ≡ m = cc in (same, subst (λ (y : AnyMove). legal (current_position g) y ≡ true) same l)
legal_back g line b hint m hint' false l e = absurd (cc)

shows_back : (h : Situation) (line : List ℕ) (message : EngineMsg) (stopped : Bool) (best hint : Option AnyMove) (m : AnyMove) (hint' : Option AnyMove) → message ≡ hears.Best best hint
    → h.engine ≡ states.Search kinds.Move false stopped → shows h.desk.game line best hint ≡ Shows m hint' → SaysIt h message m
shows_back h line message stopped None hint m hint' i n e = absurd (cc)
shows_back h line message stopped (Some b) hint m hint' i n e =
    let back = legal_back h.desk.game line b hint m hint' (legal (current_position h.desk.game) b) refl e in
    record { hint = hint; stopped = stopped; best = i ∙ ap (λ (x : AnyMove). hears.Best (Some x) hint) back.0; engine = n; is_legal = back.1 }

answers_back : (h : Situation) (line : List ℕ) (message : EngineMsg) (x : EngineState) (best hint : Option AnyMove) (m : AnyMove) (hint' : Option AnyMove) → message ≡ hears.Best best hint
    → h.engine ≡ x → answers x h.desk.game line best hint ≡ Shows m hint' → SaysIt h message m
answers_back h line message (states.Search kinds.Move false stopped) best hint m hint' i n e = shows_back h line message stopped best hint m hint' i n e
answers_back h line message x best hint m hint' i n e = absurd (cc)

thinks_not : (k : Option GoKind) (facts : Info) (m : AnyMove) (hint : Option AnyMove) → search_reports k facts ≡ Shows m hint → ⊥
thinks_not None facts m hint e = cc
thinks_not (Some k) facts m hint e = cc

says_back : (h : Situation) (line : List ℕ) (message : EngineMsg) (m : AnyMove) (hint : Option AnyMove) → engine_says h line message ≡ Shows m hint → SaysIt h message m
says_back h line (hears.Best best hint) m hint' e = answers_back h line (hears.Best best hint) h.engine best hint m hint' refl refl e
says_back h line (hears.Name text) m hint e = absurd (not_shown (is_boot h.engine) (Names text) m hint (λ x. cc) e)
says_back h line (hears.OptionLine name shape) m hint e = absurd (not_shown (is_boot h.engine) (Declares name shape) m hint (λ x. cc) e)
says_back h line hears.UciOk m hint e = absurd (not_shown (is_boot h.engine) Boots m hint (λ x. cc) e)
says_back h line hears.ReadyOk m hint e = absurd (not_shown (is_getting h.engine) Readies m hint (λ x. cc) e)
says_back h line (hears.Info facts) m hint e = absurd (thinks_not (current h.engine) facts m hint e)
says_back h line hears.Nothing m hint e = absurd (cc)

open_back : (b : Bool) (d : Effect) (m : AnyMove) (hint : Option AnyMove) → cond b Nothing d ≡ Shows m hint → (b ≡ false) × (d ≡ Shows m hint)
open_back true d m hint e = absurd (cc)
open_back false d m hint e = (refl, e)

line_not : (v : Verdict) (line : List ℕ) (m : AnyMove) (hint : Option AnyMove) → line_effect v line ≡ Shows m hint → ⊥
line_not (Refused r) line m hint e = cc
line_not (Accepted message) line m hint e = cc
line_not Early line m hint e = cc

ticket_back : (t epoch : ℕ) → not (t == epoch) ≡ false → t ≡ epoch
ticket_back t epoch e = grind (arith, nat_tests)

engine_back : (epoch : ℕ) (e : Engine) (s : Bool) → forget epoch e ≡ states.Search kinds.Move false s → e ≡ Search kinds.Move epoch s
engine_back epoch Boot s e = absurd (cc)
engine_back epoch Getting s e = absurd (cc)
engine_back epoch Idle s e = absurd (cc)
engine_back epoch Gone s e = absurd (cc)
engine_back epoch (Search k t s') s e =
    let same : t ≡ epoch = ticket_back t epoch (cc) in
    let kind : k ≡ kinds.Move = cc in
    let stop : s' ≡ s = cc in
    ap (λ (x : GoKind). Search x t s') kind ∙ ap (λ (x : ℕ). Search kinds.Move x s') same ∙ ap (λ (x : Bool). Search kinds.Move epoch x) stop

-- an event whose effect shows m answers with m
answer_back : (s : State) (e : Event) (m : AnyMove) (hint : Option AnyMove) → effect s e ≡ Shows m hint → AnswersWithMove s e m
unfolding classify
answer_back s (events.Engine line) m hint e =
    let o = open_back s.ends.closed (engine_says (situation_of_state s) line (engine_message line)) m hint e in
    let said = says_back (situation_of_state s) line (engine_message line) m hint o.1 in
    record {
      line = line;
      hint = said.hint;
      stopped = said.stopped;
      event = refl;
      best = said.best;
      is_open = o.0;
      current = engine_back s.dialogue.epoch s.dialogue.engine said.stopped said.engine;
      is_legal = said.is_legal;
    }
answer_back s (events.Iface line) m hint e = absurd (line_not (line_verdict (situation_of_state s) s.held line (message_or_fault line)) line m hint (open_back s.ends.closed _ m hint e).1)
answer_back s events.IfaceLong m hint e = let o = open_back s.ends.closed LongLine m hint e in absurd (cc (o.1))
answer_back s events.EngineEnd m hint e = absurd (dies_not (is_gone (situation_of_state s).engine) e) where
  dies_not : (b : Bool) → cond b Nothing Dies ≡ Shows m hint → ⊥
  dies_not true e = cc
  dies_not false e = cc
answer_back s events.EngineLost m hint e = absurd (dies_not (is_gone (situation_of_state s).engine) e) where
  dies_not : (b : Bool) → cond b Nothing Dies ≡ Shows m hint → ⊥
  dies_not true e = cc
  dies_not false e = cc
answer_back s x m hint e = absurd (cc)

shown_is : (d : Effect) (m : AnyMove) → Contains (shown_by d) m → (hint : Option AnyMove) × (d ≡ Shows m hint)
shown_is (Shows best hint) m c = (hint, ap (λ (x : AnyMove). Shows x hint) (alone (first_or_later best [] m c))) where
  alone : (best ≡ m) ⊎ Contains [] m → best ≡ m
  alone (inl e) = e
  alone (inr n) = absurd (none_in m n)
shown_is d m c = absurd (none_in m c)

shown_reply_by : (closed owes hits : Bool) (h : Situation) (d : Effect) (m : AnyMove) → Contains (replies_of closed owes hits h d) (reply.Move m) → (hint : Option AnyMove) × (d ≡ Shows m hint)
shown_reply_by true owes hits h d m c = absurd (none_in (reply.Move m) c)
shown_reply_by false owes hits h d m c = shown_is d m (subst (λ (l : List AnyMove). Contains l m) (open_shows owes hits h d) (is_shown_in (replies_of false owes hits h d) m c))

-- FROM THE ANSWER TO THE MOVE

ticket_now : (epoch : ℕ) → not (epoch == epoch) ≡ false
ticket_now epoch = grind (arith, nat_tests)

answer_shows : (line : List ℕ) (m : AnyMove) (hint : Option AnyMove) (b : Bool) → b ≡ true → cond b (Shows m hint) (Forfeits (answer_text line)) ≡ Shows m hint
answer_shows line m hint true e = refl
answer_shows line m hint false e = cc

open_effect : (b : Bool) (d : Effect) → b ≡ false → cond b Nothing d ≡ d
open_effect true d e = cc
open_effect false d e = refl

event_shows : (s : State) (line : List ℕ) (m : AnyMove) (hint : Option AnyMove) (stopped : Bool) → engine_message line ≡ hears.Best (Some m) hint → s.ends.closed ≡ false
    → s.dialogue.engine ≡ Search kinds.Move s.dialogue.epoch stopped → legal (current_position s.desk.game) m ≡ true → effect s (events.Engine line) ≡ Shows m hint
unfolding classify
event_shows s line m hint stopped b c n l =
    open_effect s.ends.closed (engine_says (situation_of_state s) line (engine_message line)) c
    ∙ ap (λ (x : EngineMsg). engine_says (situation_of_state s) line x) b
    ∙ ap (λ (x : Engine). answers (forget s.dialogue.epoch x) s.desk.game line (Some m) hint) n
    ∙ ap (λ (x : Bool). answers (states.Search kinds.Move x stopped) s.desk.game line (Some m) hint) (ticket_now s.dialogue.epoch)
    ∙ answer_shows line m hint (legal (current_position s.desk.game) m) l

effect_shows : (s : State) (e : Event) (m : AnyMove) (a : AnswersWithMove s e m) → effect s e ≡ Shows m a.hint
effect_shows s e m a = ap (effect s) a.event ∙ event_shows s a.line m a.hint a.stopped a.best a.is_open a.current a.is_legal

row_first : (owes hits : Bool) (h : Situation) (m : AnyMove) (hint : Option AnyMove) → Contains (replies_of false owes hits h (Shows m hint)) (reply.Move m)
unfolding reply_row
row_first owes hits h m hint = is_first (reply.Move m) _

reports_it : (closed owes hits : Bool) (h : Situation) (d : Effect) (m : AnyMove) (hint : Option AnyMove) → closed ≡ false → d ≡ Shows m hint → Contains (replies_of closed owes hits h d) (reply.Move m)
reports_it true owes hits h d m hint c e = absurd (cc)
reports_it false owes hits h d m hint c e = subst (λ (x : Effect). Contains (replies_of false owes hits h x) (reply.Move m)) (sym e) (row_first owes hits h m hint)

closed_still : (s : State) (e : Event) (m : AnyMove) (a : AnswersWithMove s e m) → closed_after s e ≡ false
closed_still s e m a = ap (closed_after s) a.event ∙ a.is_open

pub shown : (o : Settings) → MovesAreShownInTime o
shown o step t l m = (there, back) where
  s : State
  s = state o t

  owes : Bool
  owes = is_move (owed_after s step.event)

  hits : Bool
  hits = step_hits s step.event

  there : Contains step.replies (reply.Move m) → AnswersWithMove s step.event m
  there c =
      let c' : Contains (step_replies s step.event) (reply.Move m) = subst (λ (rs : List Reply). Contains rs (reply.Move m)) l.1.replies c in
      let d = shown_reply_by (closed_after s step.event) owes hits (situation_of_state s) (effect s step.event) m c' in
      answer_back s step.event m d.0 d.1

  back : AnswersWithMove s step.event m → Contains step.replies (reply.Move m)
  back a =
      subst (λ (rs : List Reply). Contains rs (reply.Move m)) (sym l.1.replies)
      (reports_it (closed_after s step.event) owes hits (situation_of_state s) (effect s step.event) m a.hint (closed_still s step.event m a) (effect_shows s step.event m a))
