-- Events and replies that a judge hears.
use Rattle.std.proofs.Common.{◌≡◌, ℕ, List, [], ◌∷◌, map, Bool, true, false, cond, eqb, Option, Some, None, refl, sym, ap, subst, ◌∙◌, arith}
use Rattle.std.specs.Option.{option_eq}
use Rattle.std.proofs.lemmas.Bool.Decides.{nat_tests}
use Rattle.line_io.specs.Event.{Event}
use Rattle.line_io.specs.Event as events
use Rattle.chess_board.specs.declared.board.Kind.{Kind}
use Rattle.chess_board.specs.declared.board.Kind.TheVariants.{Pawn, Knight, Bishop, Rook, Queen, King}
use Rattle.chess_board.specs.declared.board.Move.{Move}
use Rattle.chess_board.specs.Place.{legal}
use Rattle.chess_board.specs.Position.{Position as Place}
use Rattle.chess_board.specs.Spelling.{move_spelled_by}
use Rattle.chess_board.specs.Text.{text_of_move}
use Rattle.chess_board.proofs.Spelled.{spells_move}
use Rattle.chess_board.proofs.Texts.{legal-written, reads-back}
use Rattle.protocol_tokens.specs.declared.kinds.GoKind.TheVariants as kinds
use Rattle.script_lines.specs.Marks.{Happens}
use Rattle.cecp_lines.specs.Replies.{Reply}
use Rattle.cecp_lines.specs.Replies as cecp
use Rattle.uci_lines.specs.Engine.{engine_message}
use Rattle.uci_lines.specs.Messages.{EngineMsg}
use Rattle.uci_lines.specs.Messages as says
use Rattle.uci_lines.specs.Written.{written_by}
use Rattle.uci_lines.proofs.Counts.{text_same}
use Rattle.chess_board.proofs.LegalMoves.{is_legal}
use Rattle.search_epochs.specs.Tickets as talks
use Rattle.search_epochs.specs.Tickets.{Engine, engine_after_heard, same_search_kind, same_move}
use Rattle.adapter_core.specs.Ends.{is_open}
use Rattle.adapter_core.specs.Shown.{moves_shown}
use Rattle.trace_laws.specs.Wire.{said_in_line, said_by_step}
use Rattle.session_judge.specs.declared.dialogue_event.DialogueEvent.{DialogueEvent}
use Rattle.session_judge.specs.declared.dialogue_event.DialogueEvent.TheVariants as dialogue_events
use Rattle.session_judge.specs.declared.talk.HeardAnswer.{HeardAnswer}
use Rattle.session_judge.specs.declared.engine.EnginePhase.{EnginePhase as Wire}
use Rattle.session_judge.specs.declared.engine.EnginePhase.TheVariants as wires
use Rattle.session_judge.specs.declared.talk.OrderStage.{OrderStage}
use Rattle.session_judge.specs.declared.talk.OrderStage.TheVariants as stages
use Rattle.session_judge.specs.declared.talk.JudgedTalk.{JudgedTalk}
use Rattle.session_judge.specs.DialogueEvents.{dialogue_event_of, answer_as_shown, shows_event}
use Rattle.session_judge.specs.Rules.{broken, is_heard_answer}
use Rattle.session_judge.specs.Engines.{engine_after, gone_after, event_unless_gone}
use Rattle.session_judge.specs.Talks.{judgement_after, stage_after, placed_after}
use Rattle.judge_and_driver_laws.specs.Judge.Logs.{event_marks, iface_mark}
use Rattle.judge_and_driver_laws.proofs.Judge.Runs.{Runs, first_runs}
use Rattle.judge_and_driver_laws.proofs.Judge.Texts.{shows_none, reply_action}
use Rattle.judge_and_driver_laws.proofs.Judge.Writes.{Is, Shows, Agrees}

-- WHAT IS NO ORDER

abbrev pub is_order : DialogueEvent → Bool
is_order (dialogue_events.Writes o) = true
is_order d = false

same_stage : (s : OrderStage) (d : DialogueEvent) → is_order d ≡ false → stage_after s d ≡ s
same_stage stages.Start (dialogue_events.Writes o) n = cc
same_stage stages.Placed (dialogue_events.Writes o) n = cc
same_stage stages.Open (dialogue_events.Writes o) n = cc
same_stage s d n = refl

same_place : (p : Place) (d : DialogueEvent) → is_order d ≡ false → placed_after p d ≡ p
same_place p (dialogue_events.Writes o) n = cc
same_place p d n = refl

-- an event that is no end
abbrev is_end : DialogueEvent → Bool
is_end dialogue_events.Ends = true
is_end d = false

not_end : (gone : Bool) (d : DialogueEvent) → is_end d ≡ false → gone_after gone d ≡ gone
not_end gone dialogue_events.Ends n = cc
not_end gone d n = refl

stays_gone : (d : DialogueEvent) → gone_after true d ≡ true
stays_gone dialogue_events.Ends = refl
stays_gone d = refl

-- all is heard of an engine that is there
all_heard : (d : DialogueEvent) → event_unless_gone d false ≡ d
all_heard dialogue_events.Boots = refl
all_heard dialogue_events.GetsReady = refl
all_heard (dialogue_events.Answers best) = refl
all_heard d = refl

still_no_order : (d : DialogueEvent) (gone : Bool) → is_order d ≡ false → is_order (event_unless_gone d gone) ≡ false
still_no_order (dialogue_events.Writes o) gone n = cc
still_no_order d true n = refl
still_no_order d false n = refl

heard_so : (t : JudgedTalk) (e e' : Engine) (p : Place) (d : DialogueEvent) (line : ℕ) → Agrees t e p → is_order d ≡ false → Shows (judgement_after t line d) e' → Agrees (judgement_after t line d) e' p
heard_so t e e' p d line a n h =
    let m = still_no_order d t.gone n in
    record {
      engine = h;
      stage = same_stage t.stage (event_unless_gone d t.gone) m ∙ a.stage;
      placed = same_place t.placed (event_unless_gone d t.gone) m ∙ a.placed;
    }

-- the engine as this one is, after an event
abbrev Hears : Engine → DialogueEvent → Engine → Type 0
Hears e d e' = (t : JudgedTalk) (line : ℕ) → Shows t e → Shows (judgement_after t line d) e'

now_is : (t : JudgedTalk) (line : ℕ) (w w' : Wire) (d : DialogueEvent) → is_end d ≡ false → engine_after w d ≡ w' → Is t w → Is (judgement_after t line d) w'
now_is t line w w' d n h i = record {
  engine = ap (λ (b : Bool). engine_after t.engine (event_unless_gone d b)) i.there ∙ ap (λ (x : DialogueEvent). engine_after t.engine x) (all_heard d) ∙ ap (λ (x : Wire). engine_after x d) i.engine ∙ h;
  there = ap (λ (b : Bool). gone_after b (event_unless_gone d b)) i.there ∙ ap (gone_after false) (all_heard d) ∙ not_end false d n;
}

still_gone : (d : DialogueEvent) → Hears talks.Gone d talks.Gone
still_gone d t line g = ap (λ (b : Bool). gone_after b (event_unless_gone d b)) g ∙ stays_gone (event_unless_gone d true)

nothing_heard : (e : Engine) → Hears e dialogue_events.Nothing e
nothing_heard talks.Boot t line i = now_is t line wires.Boot wires.Boot dialogue_events.Nothing refl refl i
nothing_heard talks.Getting t line i = now_is t line wires.Getting wires.Getting dialogue_events.Nothing refl refl i
nothing_heard talks.Idle t line i = now_is t line wires.Idle wires.Idle dialogue_events.Nothing refl refl i
nothing_heard (talks.Search k ticket s) t line i = now_is t line (wires.Search k s) (wires.Search k s) dialogue_events.Nothing refl refl i
nothing_heard talks.Gone t line i = still_gone dialogue_events.Nothing t line i

shows_heard : (e : Engine) (m : Move) → Hears e (dialogue_events.Shows m) e
shows_heard talks.Boot m t line i = now_is t line wires.Boot wires.Boot (dialogue_events.Shows m) refl refl i
shows_heard talks.Getting m t line i = now_is t line wires.Getting wires.Getting (dialogue_events.Shows m) refl refl i
shows_heard talks.Idle m t line i = now_is t line wires.Idle wires.Idle (dialogue_events.Shows m) refl refl i
shows_heard (talks.Search k ticket s) m t line i = now_is t line (wires.Search k s) (wires.Search k s) (dialogue_events.Shows m) refl refl i
shows_heard talks.Gone m t line i = still_gone (dialogue_events.Shows m) t line i

-- EVENTS

boots_heard : (e : Engine) → Hears e dialogue_events.Boots (engine_after_heard e (said_in_line says.UciOk))
boots_heard talks.Boot t line i = now_is t line wires.Boot wires.Idle dialogue_events.Boots refl refl i
boots_heard talks.Getting t line i = now_is t line wires.Getting wires.Getting dialogue_events.Boots refl refl i
boots_heard talks.Idle t line i = now_is t line wires.Idle wires.Idle dialogue_events.Boots refl refl i
boots_heard (talks.Search k ticket s) t line i = now_is t line (wires.Search k s) (wires.Search k s) dialogue_events.Boots refl refl i
boots_heard talks.Gone t line i = still_gone dialogue_events.Boots t line i

ready_heard : (e : Engine) → Hears e dialogue_events.GetsReady (engine_after_heard e (said_in_line says.ReadyOk))
ready_heard talks.Boot t line i = now_is t line wires.Boot wires.Boot dialogue_events.GetsReady refl refl i
ready_heard talks.Getting t line i = now_is t line wires.Getting wires.Idle dialogue_events.GetsReady refl refl i
ready_heard talks.Idle t line i = now_is t line wires.Idle wires.Idle dialogue_events.GetsReady refl refl i
ready_heard (talks.Search k ticket s) t line i = now_is t line (wires.Search k s) (wires.Search k s) dialogue_events.GetsReady refl refl i
ready_heard talks.Gone t line i = still_gone dialogue_events.GetsReady t line i

best_heard : (e : Engine) (best hint : Option Move) → Hears e (dialogue_events.Answers best) (engine_after_heard e (said_in_line (says.Best best hint)))
best_heard talks.Boot best hint t line i = now_is t line wires.Boot wires.Boot (dialogue_events.Answers best) refl refl i
best_heard talks.Getting best hint t line i = now_is t line wires.Getting wires.Getting (dialogue_events.Answers best) refl refl i
best_heard talks.Idle best hint t line i = now_is t line wires.Idle wires.Idle (dialogue_events.Answers best) refl refl i
best_heard (talks.Search k ticket s) best hint t line i = now_is t line (wires.Search k s) wires.Idle (dialogue_events.Answers best) refl refl i
best_heard talks.Gone best hint t line i = still_gone (dialogue_events.Answers best) t line i

line_heard : (e : Engine) (m : EngineMsg) → Hears e (answer_as_shown m) (engine_after_heard e (said_in_line m))
line_heard e (says.Name text) = nothing_heard e
line_heard e (says.OptionLine name shape) = nothing_heard e
line_heard e (says.Info facts) = nothing_heard e
line_heard e says.Nothing = nothing_heard e
line_heard e says.UciOk = boots_heard e
line_heard e says.ReadyOk = ready_heard e
line_heard e (says.Best best hint) = best_heard e best hint

line_quiet : (m : EngineMsg) → is_order (answer_as_shown m) ≡ false
line_quiet (says.Name text) = refl
line_quiet (says.OptionLine name shape) = refl
line_quiet (says.Info facts) = refl
line_quiet says.Nothing = refl
line_quiet says.UciOk = refl
line_quiet says.ReadyOk = refl
line_quiet (says.Best best hint) = refl

event_quiet : (ev : Event) → is_order (dialogue_event_of (Happens ev)) ≡ false
event_quiet (events.Engine line) = line_quiet (engine_message line)
event_quiet ev = refl

-- the engine is gone
ends_heard : (e : Engine) → Hears e dialogue_events.Ends (engine_after_heard e (said_by_step false events.EngineEnd))
ends_heard talks.Boot t line i = refl
ends_heard talks.Getting t line i = refl
ends_heard talks.Idle t line i = refl
ends_heard (talks.Search k ticket s) t line i = refl
ends_heard talks.Gone t line i = refl

event_heard : (e : Engine) (ev : Event) → Hears e (dialogue_event_of (Happens ev)) (engine_after_heard e (said_by_step false ev))
event_heard e (events.Engine line) = line_heard e (engine_message line)
event_heard e events.EngineEnd = ends_heard e
event_heard e events.EngineLost = ends_heard e
event_heard e ev = nothing_heard e

answer_passes : (t : JudgedTalk) (m : EngineMsg) → broken t (answer_as_shown m) ≡ None
answer_passes t (says.Name text) = refl
answer_passes t (says.OptionLine name shape) = refl
answer_passes t (says.Info facts) = refl
answer_passes t says.Nothing = refl
answer_passes t says.UciOk = refl
answer_passes t says.ReadyOk = refl
answer_passes t (says.Best best hint) = refl

-- an event breaks no rule
event_passes : (t : JudgedTalk) (ev : Event) → broken t (dialogue_event_of (Happens ev)) ≡ None
event_passes t (events.Engine line) = answer_passes t (engine_message line)
event_passes t ev = refl

one_mark : (ev : Event) → is_open ev ≡ false → event_marks ev ≡ Happens ev ∷ []
one_mark events.Open n = cc
one_mark ev n = refl

-- the marks of an event that is not Open
pub event_runs : (t : JudgedTalk) (ev : Event) (P : JudgedTalk → Type 0) → is_open ev ≡ false → ((line : ℕ) → P (judgement_after t line (dialogue_event_of (Happens ev)))) → Runs t (event_marks ev) P
event_runs t ev P n f = subst (λ ms. Runs t ms P) (sym (one_mark ev n)) (event_passes t ev, f)

pub event_agrees : (t : JudgedTalk) (e : Engine) (p : Place) (ev : Event) (line : ℕ) → Agrees t e p → Agrees (judgement_after t line (dialogue_event_of (Happens ev))) (engine_after_heard e (said_by_step false ev)) p
event_agrees t e p ev line a = heard_so t e (engine_after_heard e (said_by_step false ev)) p (dialogue_event_of (Happens ev)) line a (event_quiet ev) (event_heard e ev t line a.engine)

-- REPLIES

record Quiet (r : Reply) (rs : List Reply) : Type 0 where
  first : shows_none r ≡ true
  later : moves_shown rs ≡ []

reply_quiet : (r : Reply) (rs : List Reply) → moves_shown (r ∷ rs) ≡ [] → Quiet r rs
reply_quiet (cecp.Move m) rs e = absurd (cc)
reply_quiet r rs e = record { first = refl; later = e }

-- replies that show no move
pub quiet_runs : (rs : List Reply) (t : JudgedTalk) (P : JudgedTalk → Type 0) → moves_shown rs ≡ [] → ((u : JudgedTalk) → (line : ℕ) → P u → P (judgement_after u line dialogue_events.Nothing)) → P t → Runs t (map iface_mark rs) P
quiet_runs [] t P e f x = x
quiet_runs (r ∷ rs) t P e f x =
    let q = reply_quiet r rs e in
    first_runs t (iface_mark r) (map iface_mark rs) P dialogue_events.Nothing (reply_action r q.first) refl (λ line. quiet_runs rs (judgement_after t line dialogue_events.Nothing) P q.later f (f t line x))

pub still_agrees : (e : Engine) (p : Place) (u : JudgedTalk) (line : ℕ) → Agrees u e p → Agrees (judgement_after u line dialogue_events.Nothing) e p
still_agrees e p u line a = heard_so u e e p dialogue_events.Nothing line a refl (nothing_heard e u line a.engine)

-- THE MOVE THAT IS SHOWN

same_kinds : (k : Kind) → same_search_kind k k ≡ true
same_kinds Pawn = refl
same_kinds Knight = refl
same_kinds Bishop = refl
same_kinds Rook = refl
same_kinds Queen = refl
same_kinds King = refl

same_promotions : (o : Option Kind) → option_eq same_search_kind o o ≡ true
same_promotions None = refl
same_promotions (Some k) = same_kinds k

same_number : (n : ℕ) → eqb n n ≡ true
same_number n = grind (arith, nat_tests)

same_moves : (m : Move) → same_move m m ≡ true
same_moves m = rw (same_number m.from.index, same_number m.to.index, same_promotions m.promotion) refl

shown_action : (m : Move) (p : Place) → legal p m ≡ true → dialogue_event_of (iface_mark (cecp.Move m)) ≡ dialogue_events.Shows m
shown_action m p l =
    let read : move_spelled_by (text_of_move m) ≡ Some m = spells_move (text_of_move m) m (reads-back m (legal-written p m (is_legal p m l))) in
    ap (λ o. cond (written_by o (text_of_move m)) (shows_event o) dialogue_events.Nothing) read
    ∙ ap (λ b. cond b (dialogue_events.Shows m) dialogue_events.Nothing) (text_same (text_of_move m) (text_of_move m) refl)

-- the answer of a search for a move that was heard, with this move, in this place
abbrev pub answered : Move → Place → HeardAnswer
answered m p = record { kind = kinds.Move; best = Some m; at = p; was_shown = false }

answers_it : (o : Option HeardAnswer) (m : Move) (p : Place) → o ≡ Some (answered m p) → legal p m ≡ true → is_heard_answer o m ≡ true
answers_it o m p e l = rw e (rw (same_moves m, l) refl)

-- a reply that shows the move, or one before it
data Prefix : Reply → List Reply → Move → Type 0 where
  Here : {r : Reply} → {rs : List Reply} → {m : Move} → r ≡ cecp.Move m → moves_shown rs ≡ [] → Prefix r rs m
  Later : {r : Reply} → {rs : List Reply} → {m : Move} → shows_none r ≡ true → moves_shown rs ≡ m ∷ [] → Prefix r rs m

prefix : (r : Reply) (rs : List Reply) (m : Move) → moves_shown (r ∷ rs) ≡ m ∷ [] → Prefix r rs m
prefix (cecp.Move b) rs m e = let same : b ≡ m = cc in let none : moves_shown rs ≡ [] = cc in Prefix.Here (ap cecp.Move same) none
prefix r rs m e = Prefix.Later refl e

pub move_runs : (rs : List Reply) (t : JudgedTalk) (e : Engine) (p : Place) (m : Move) → moves_shown rs ≡ m ∷ [] → Agrees t e p → t.answer ≡ Some (answered m p) → legal p m ≡ true
    → Runs t (map iface_mark rs) (λ u. Agrees u e p)
move_runs [] t e p m x a w l = absurd (cc)
move_runs (r ∷ rs) t e p m x a w l = by (prefix r rs m x) (λ line y. move_runs rs (judgement_after t line dialogue_events.Nothing) e p m y (still_agrees e p t line a) w l) where
  by : Prefix r rs m → ((line : ℕ) → moves_shown rs ≡ m ∷ [] → Runs (judgement_after t line dialogue_events.Nothing) (map iface_mark rs) (λ u. Agrees u e p)) → Runs t (map iface_mark (r ∷ rs)) (λ u. Agrees u e p)
  by (Prefix.Here i n) others =
      first_runs t (iface_mark r) (map iface_mark rs) (λ u. Agrees u e p) (dialogue_events.Shows m) (ap (λ y. dialogue_event_of (iface_mark y)) i ∙ shown_action m p l) (rw (answers_it t.answer m p w l) refl)
      (λ line. quiet_runs rs (judgement_after t line (dialogue_events.Shows m)) (λ u. Agrees u e p) n (still_agrees e p) (heard_so t e e p (dialogue_events.Shows m) line a refl (shows_heard e m t line a.engine)))
  by (Prefix.Later n y) others =
      first_runs t (iface_mark r) (map iface_mark rs) (λ u. Agrees u e p) dialogue_events.Nothing (reply_action r n) refl (λ line. others line y)
