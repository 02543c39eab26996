-- The marks of a trace, and the logs that have them.
use Rattle.std.specs.Prelude.{◌≡◌, Bool, false, List, [], ◌∷◌, ◌++◌, map}
use Rattle.line_io.specs.Event.{Event}
use Rattle.line_io.specs.Event as events
use Rattle.chess_board.specs.Position.{Position}
use Rattle.protocol_tokens.specs.declared.kinds.GoKind.{GoKind}
use Rattle.cecp_lines.specs.Replies.{Reply, reply_text}
use Rattle.uci_lines.specs.Orders.{Order, uci_order_text}
use Rattle.game_record.specs.Game.{current_position}
use Rattle.policy_rules.specs.declared.setting_rules.settings.Settings.{Settings}
use Rattle.search_epochs.specs.Tickets.{Search}
use Rattle.desk_rules.specs.Steps.{searched_by}
use Rattle.script_lines.specs.Marks.{Mark, Happens, ToIface, ToEngine}
use Rattle.adapter_core.specs.Trace.{State, Step, LawfulTrace, state}
use Rattle.session_judge.specs.declared.listener.Listener.{Listener}
use Rattle.session_judge.specs.Clean.{Entry, IsClean, crossings, talk}

-- Open has no mark
abbrev pub event_marks : Event → List Mark
event_marks events.Open = []
event_marks e = Happens e ∷ []

abbrev pub iface_mark : Reply → Mark
iface_mark reply = ToIface (reply_text reply)

abbrev pub engine_mark : Order → Mark
engine_mark order = ToEngine (uci_order_text order)

-- the event, then the lines to the interface, then the orders to the engine
abbrev pub marks_of_log_step : Step → List Mark
marks_of_log_step step =
    event_marks step.event ++ (map iface_mark step.replies ++ map engine_mark step.orders)

-- the marks of a trace, the oldest first
abbrev pub trace_marks : List Step → List Mark
trace_marks [] = []
trace_marks (step ∷ trace) = trace_marks trace ++ marks_of_log_step step

-- the marks of a log, the oldest first
abbrev pub marks_in : List Entry → List Mark
marks_in [] = []
marks_in (entry ∷ log) = marks_in log ++ entry.mark ∷ []

-- In a log of a lawful trace no mark breaks a rule of the dialogue with the engine, whoever is said
-- to have written it and whatever the numbers of its lines.
abbrev pub LogsAreClean : Settings → Type 0
LogsAreClean o =
    (listener : Listener) (trace : List Step) (log : List Entry) → LawfulTrace o trace
    → marks_in log ≡ trace_marks trace
    → IsClean listener log

-- No order of it crosses a line of the engine.
abbrev pub NoOrderCrosses : Settings → Type 0
NoOrderCrosses o =
    (trace : List Step) (log : List Entry) → LawfulTrace o trace → marks_in log ≡ trace_marks trace
    → crossings log ≡ 0

-- If a current search is open, it stands where the desk's game stands, with the hint if it ponders.
abbrev pub OpenSearchIsAt : State → Position → Type 0
OpenSearchIsAt s p =
    (kind : GoKind) (stopped : Bool) → s.dialogue.engine ≡ Search kind s.dialogue.epoch stopped
    → p ≡ current_position (searched_by kind s.desk.game s.desk.hint)

-- So does the last `position` line of a log of a lawful trace, while the session is open.
abbrev pub SearchesTheDesk : Settings → Type 0
SearchesTheDesk o =
    (listener : Listener) (trace : List Step) (log : List Entry) → LawfulTrace o trace
    → marks_in log ≡ trace_marks trace
    → (state o trace).ends.closed ≡ false → OpenSearchIsAt (state o trace) (talk listener log).placed
