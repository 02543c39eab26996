-- The rules of the dialogue with an engine, each a test of what was written and heard before
-- and of an order or a move.
use Rattle.std.specs.Prelude.{Bool, true, false, not, ◌&&◌, if◌then◌else◌, Option, Some, None}
use Rattle.chess_board.specs.declared.board.Move.{Move}
use Rattle.chess_board.specs.Place.{legal}
use Rattle.protocol_tokens.specs.declared.kinds.GoKind.{GoKind}
use Rattle.protocol_tokens.specs.declared.kinds.GoKind.TheVariants as kinds
use Rattle.search_epochs.specs.Tickets.{same_move}
use Rattle.session_judge.specs.declared.dialogue_event.OrderKind.{OrderKind}
use Rattle.session_judge.specs.declared.dialogue_event.OrderKind.TheVariants as orders
use Rattle.session_judge.specs.declared.dialogue_event.DialogueEvent.{DialogueEvent}
use Rattle.session_judge.specs.declared.dialogue_event.DialogueEvent.TheVariants as dialogue_events
use Rattle.session_judge.specs.declared.engine.EnginePhase.{EnginePhase}
use Rattle.session_judge.specs.declared.listener.Listener.{Listener}
use Rattle.session_judge.specs.declared.listener.Listener.TheVariants as listeners
use Rattle.session_judge.specs.declared.rule.Rule.{Rule}
use Rattle.session_judge.specs.declared.rule.Rule.TheVariants as rules
use Rattle.session_judge.specs.declared.talk.HeardAnswer.{HeardAnswer}
use Rattle.session_judge.specs.declared.talk.OrderStage.{OrderStage}
use Rattle.session_judge.specs.declared.talk.OrderStage.TheVariants as stages
use Rattle.session_judge.specs.declared.talk.JudgedTalk.{JudgedTalk}
use Rattle.session_judge.specs.Engines.{is_idle, is_phase_pondering, is_running}
use Rattle.session_judge.specs.Crossings.{taken}

-- First: the first order is not `uci`, or a later one is.
abbrev pub breaks_first : OrderStage → OrderKind → Bool
breaks_first stages.Start orders.Uci = false
breaks_first stages.Start order = true
breaks_first stage orders.Uci = true
breaks_first stage order = false

-- Gone: an order is written to an engine that is gone, and the bridge knew it.
abbrev pub breaks_gone : Bool → Listener → Bool
breaks_gone true listeners.Bridge = true
breaks_gone gone listener = false

-- Quit: an order comes after `quit`.
abbrev pub breaks_quit : OrderStage → Bool
breaks_quit stages.Over = true
breaks_quit stage = false

-- Order: a `go` does not come directly after a `position`, or another order
-- comes directly after one.
abbrev pub breaks_order : OrderStage → OrderKind → Bool
breaks_order stages.Placed (orders.Go kind) = false
breaks_order stages.Placed order = true
breaks_order stage (orders.Go kind) = true
breaks_order stage order = false

abbrev pub kind_needs_idle : OrderKind → Bool
kind_needs_idle orders.Setup = true
kind_needs_idle orders.IsReady = true
kind_needs_idle (orders.Position p) = true
kind_needs_idle (orders.Go kind) = true
kind_needs_idle order = false

-- Busy: settings, `isready`, `position` or `go` for an engine that is not idle.
abbrev pub breaks_busy : EnginePhase → OrderKind → Bool
breaks_busy engine order = not (is_idle engine) && kind_needs_idle order

abbrev pub is_stop_kind : OrderKind → Bool
is_stop_kind orders.Stop = true
is_stop_kind order = false

-- Stop: `stop` outside a search that is not stopped.
abbrev pub breaks_stop : EnginePhase → OrderKind → Bool
breaks_stop engine order = is_stop_kind order && not (is_running engine)

abbrev pub is_ponderhit_order : OrderKind → Bool
is_ponderhit_order orders.PonderHit = true
is_ponderhit_order order = false

-- Hit: `ponderhit` outside a Ponder search that is not stopped.
abbrev pub breaks_hit : EnginePhase → OrderKind → Bool
breaks_hit engine order = is_ponderhit_order order && not (is_phase_pondering engine)

-- Position: a `position` line that cannot be read.
abbrev pub breaks_position : OrderKind → Bool
breaks_position (orders.Position None) = true
breaks_position order = false

-- the first rule that an order breaks
abbrev pub broken_by : JudgedTalk → OrderKind → Option Rule
broken_by t order =
    if breaks_first t.stage order then Some rules.First
    else (if breaks_gone t.gone t.listener then Some rules.Gone
    else (if breaks_quit t.stage then Some rules.Quit
    else (if breaks_order t.stage order then Some rules.Order
    else (if breaks_busy t.engine order then Some rules.Busy
    else (if breaks_stop (taken t) order then Some rules.Stop
    else (if breaks_hit (taken t) order then Some rules.Hit
    else (if breaks_position order then Some rules.Position else None)))))))

abbrev pub is_best : Option Move → Move → Bool
is_best None m = false
is_best (Some best) m = same_move best m

abbrev pub is_move_search : GoKind → Bool
is_move_search kinds.Move = true
is_move_search kind = false

-- the move is the answer of a search for a move, was not shown since, and is legal in its position
abbrev pub is_shown_by : HeardAnswer → Move → Bool
is_shown_by a m = (is_move_search a.kind && not a.was_shown) && (is_best a.best m && legal a.at m)

abbrev pub is_heard_answer : Option HeardAnswer → Move → Bool
is_heard_answer None m = false
is_heard_answer (Some a) m = is_shown_by a m

-- The first rule that a mark breaks. Move: a move is shown that is not the
-- last answer, in its time.
abbrev pub broken : JudgedTalk → DialogueEvent → Option Rule
broken t (dialogue_events.Writes order) = broken_by t order
broken t (dialogue_events.Shows m) = if is_heard_answer t.answer m then None else Some rules.Move
broken t dialogue_event = None
