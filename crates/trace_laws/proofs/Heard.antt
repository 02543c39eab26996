-- The engine's state is what the wire shows.
use Rattle.std.proofs.Common.{◌≡◌, ℕ, List, [], ◌∷◌, map, Bool, true, false, cond, Option, Some, None, refl, ap, ◌∙◌}
use Rattle.line_io.specs.Event.{Event}
use Rattle.line_io.specs.Event as events
use Rattle.chess_board.specs.declared.board.Move.{Move}
use Rattle.chess_board.specs.Place.{legal}
use Rattle.protocol_tokens.specs.declared.kinds.GoKind.{GoKind}
use Rattle.protocol_tokens.specs.declared.kinds.GoKind.TheVariants as kinds
use Rattle.cecp_lines.specs.Messages as messages
use Rattle.cecp_lines.specs.Reading.{message_or_fault}
use Rattle.uci_lines.specs.Messages.{EngineMsg}
use Rattle.uci_lines.specs.Messages as says
use Rattle.uci_lines.specs.Engine.{answer_text, engine_message}
use Rattle.uci_lines.specs.Orders.{Order}
use Rattle.uci_lines.specs.Orders as orders
use Rattle.game_record.specs.Game.{Game, current_position}
use Rattle.policy_rules.specs.declared.setting_rules.settings.Settings.{Settings}
use Rattle.search_epochs.specs.declared.words.Said.{Said}
use Rattle.search_epochs.specs.declared.words.Said.TheVariants as said
use Rattle.search_epochs.specs.declared.words.EngineState.TheVariants as states
use Rattle.search_epochs.specs.Tickets.{Engine, Boot, Getting, Idle, Search, Gone, engine_after_heard, said_of_event, engine_after_word, sent_all}
use Rattle.search_epochs.specs.Dialogue.{forget}
use Rattle.desk_rules.specs.Desk.{Situation, is_boot, is_getting, is_gone, current}
use Rattle.desk_rules.specs.Lines.{Verdict, Refused, Accepted, Early, line_verdict}
use Rattle.desk_rules.specs.Steps.{Effect, Nothing, LongLine, Names, Declares, Boots, Readies, Shows, Forfeits, Dies, classify, line_effect, engine_says, search_reports, answers, what_of}
use Rattle.desk_rules.specs.Orders.{dialogue_word_of}
use Rattle.adapter_core.specs.Ends.{ends_after}
use Rattle.adapter_core.specs.Trace.{State, Step, state, situation_of_state, effect, mid}
use Rattle.adapter_core.proofs.Ended.{quiet_line}
use Rattle.trace_laws.specs.Wire.{Wire, said_in_line, said_by_step, wire_once_heard, wire_once_written, writing_all, ends, wire, on_wire, EngineIsOnWire, EndsAreOnWire}

-- WHAT IS HEARD AND WRITTEN

heard_on_wire : (e : Engine) (w : Option Said) → on_wire (engine_after_heard e w) ≡ wire_once_heard (on_wire e) w
heard_on_wire Boot (Some said.UciOk) = refl
heard_on_wire e (Some said.UciOk) = refl
heard_on_wire e w = refl

sent_on_wire : (n : ℕ) (e : Engine) (order : Order) → on_wire (engine_after_word n e (dialogue_word_of order)) ≡ wire_once_written (on_wire e) order
sent_on_wire n (Search kinds.Move t s) orders.Uci = refl
sent_on_wire n e orders.Uci = refl
sent_on_wire n e order = refl

pub all_on_wire : (n : ℕ) (e : Engine) (os : List Order) → on_wire (sent_all n e (map dialogue_word_of os)) ≡ writing_all (on_wire e) os
all_on_wire n e [] = refl
all_on_wire n e (order ∷ later) = all_on_wire n (engine_after_word n e (dialogue_word_of order)) later ∙ ap (λ (x : Wire). writing_all x later) (sent_on_wire n e order)

-- WHAT AN EVENT SAYS

abbrev check_order : Effect → Option Said
check_order d = said_of_event (what_of d)

silent_where : (b : Bool) (d : Effect) → check_order d ≡ None → check_order (cond b Nothing d) ≡ None
silent_where true d e = refl
silent_where false d e = e

silent_unless : (b : Bool) (d : Effect) → check_order d ≡ None → check_order (cond b d Nothing) ≡ None
silent_unless true d e = e
silent_unless false d e = refl

line_silent : (v : Verdict) (line : List ℕ) → check_order (line_effect v line) ≡ None
line_silent (Refused r) line = refl
line_silent (Accepted m) line = quiet_line m
line_silent Early line = refl

shown_best : (b : Bool) (line : List ℕ) (m : Move) (hint : Option Move) → check_order (cond b (Shows m hint) (Forfeits (answer_text line))) ≡ Some said.Best
shown_best true line m hint = refl
shown_best false line m hint = refl

answer_best : (k : GoKind) (stale s : Bool) (g : Game) (line : List ℕ) (best hint : Option Move) → check_order (answers (states.Search k stale s) g line best hint) ≡ Some said.Best
answer_best kinds.Move false s g line None hint = refl
answer_best kinds.Move false s g line (Some m) hint = shown_best (legal (current_position g) m) line m hint
answer_best kinds.Move true s g line best hint = refl
answer_best kinds.Ponder stale s g line best hint = refl
answer_best kinds.Analyse stale s g line best hint = refl

best_heard : (n : ℕ) (e : Engine) (g : Game) (line : List ℕ) (best hint : Option Move) → engine_after_heard e (check_order (answers (forget n e) g line best hint)) ≡ engine_after_heard e (Some said.Best)
best_heard n Boot g line best hint = refl
best_heard n Getting g line best hint = refl
best_heard n Idle g line best hint = refl
best_heard n (Search k t s) g line best hint = ap (engine_after_heard (Search k t s)) (answer_best k _ s g line best hint)
best_heard n Gone g line best hint = refl

uciok_heard : (n : ℕ) (e : Engine) → engine_after_heard e (check_order (cond (is_boot (forget n e)) Boots Nothing)) ≡ engine_after_heard e (Some said.UciOk)
uciok_heard n Boot = refl
uciok_heard n Getting = refl
uciok_heard n Idle = refl
uciok_heard n (Search k t s) = refl
uciok_heard n Gone = refl

readyok_heard : (n : ℕ) (e : Engine) → engine_after_heard e (check_order (cond (is_getting (forget n e)) Readies Nothing)) ≡ engine_after_heard e (Some said.ReadyOk)
readyok_heard n Boot = refl
readyok_heard n Getting = refl
readyok_heard n Idle = refl
readyok_heard n (Search k t s) = refl
readyok_heard n Gone = refl

end_heard : (n : ℕ) (e : Engine) → engine_after_heard e (check_order (cond (is_gone (forget n e)) Nothing Dies)) ≡ engine_after_heard e (Some said.Ended)
end_heard n Boot = refl
end_heard n Getting = refl
end_heard n Idle = refl
end_heard n (Search k t s) = refl
end_heard n Gone = refl

thinks_silent : (k : Option GoKind) (facts : _) → check_order (search_reports k facts) ≡ None
thinks_silent (Some k) facts = refl
thinks_silent None facts = refl

module _ (s : State) where
  abbrev h : Situation
  h = situation_of_state s

  abbrev engine : Engine
  engine = s.dialogue.engine

  says_heard : (line : List ℕ) (m : EngineMsg) → engine_after_heard engine (check_order (engine_says h line m)) ≡ engine_after_heard engine (said_in_line m)
  says_heard line (says.Name text) = ap (engine_after_heard engine) (silent_unless (is_boot h.engine) (Names text) refl)
  says_heard line (says.OptionLine name shape) = ap (engine_after_heard engine) (silent_unless (is_boot h.engine) (Declares name shape) refl)
  says_heard line says.UciOk = uciok_heard s.dialogue.epoch engine
  says_heard line says.ReadyOk = readyok_heard s.dialogue.epoch engine
  says_heard line (says.Info facts) = ap (engine_after_heard engine) (thinks_silent (current h.engine) facts)
  says_heard line (says.Best best hint) = best_heard s.dialogue.epoch engine s.desk.game line best hint
  says_heard line says.Nothing = refl

  line_heard : (closed : Bool) (line : List ℕ) (m : EngineMsg) → engine_after_heard engine (check_order (cond closed Nothing (engine_says h line m))) ≡ engine_after_heard engine (cond closed None (said_in_line m))
  line_heard true line m = refl
  line_heard false line m = says_heard line m

  -- the engine after the event is as the event says
  pub event_heard : (e : Event) → engine_after_heard engine (check_order (effect s e)) ≡ engine_after_heard engine (said_by_step s.ends.closed e)
  unfolding classify
  event_heard (events.Iface line) = ap (engine_after_heard engine) (silent_where s.ends.closed _ (line_silent (line_verdict h s.held line (message_or_fault line)) line))
  event_heard events.IfaceLong = ap (engine_after_heard engine) (silent_where s.ends.closed LongLine refl)
  event_heard (events.Engine line) = line_heard s.ends.closed line (engine_message line)
  event_heard events.EngineEnd = end_heard s.dialogue.epoch engine
  event_heard events.EngineLost = end_heard s.dialogue.epoch engine
  event_heard e = refl

-- THE LAW

pub ends_on_wire : (o : Settings) → EndsAreOnWire o
ends_on_wire o [] = refl
ends_on_wire o (step ∷ t) = ap (λ x. ends_after x step.event) (ends_on_wire o t)

-- the engine after an event, before the orders
pub mid_on_wire : (o : Settings) (t : List Step) (e : Event) → on_wire (state o t).dialogue.engine ≡ wire t
    → on_wire (mid (state o t) e).engine ≡ wire_once_heard (wire t) (said_by_step (ends t).closed e)
mid_on_wire o t e w =
    let s = state o t in
    ap on_wire (event_heard s e) ∙ heard_on_wire s.dialogue.engine (said_by_step s.ends.closed e)
    ∙ ap (λ (x : Wire). wire_once_heard x (said_by_step s.ends.closed e)) w
    ∙ ap (λ x. wire_once_heard (wire t) (said_by_step x.closed e)) (ends_on_wire o t)

pub engine_on_wire : (o : Settings) → EngineIsOnWire o
engine_on_wire o [] = refl
engine_on_wire o (step ∷ t) =
    let m = mid (state o t) step.event in
    all_on_wire m.epoch m.engine step.orders ∙ ap (λ (x : Wire). writing_all x step.orders) (mid_on_wire o t step.event (engine_on_wire o t))
