-- The engine, as the marks of a log show it.
use Rattle.std.specs.Prelude.{Bool, true, false, not}
use Rattle.protocol_tokens.specs.declared.kinds.GoKind.TheVariants as kinds
use Rattle.session_judge.specs.declared.dialogue_event.OrderKind.TheVariants as orders
use Rattle.session_judge.specs.declared.dialogue_event.DialogueEvent.{DialogueEvent}
use Rattle.session_judge.specs.declared.dialogue_event.DialogueEvent.TheVariants as dialogue_events
use Rattle.session_judge.specs.declared.engine.EnginePhase.{EnginePhase}
use Rattle.session_judge.specs.declared.engine.EnginePhase.TheVariants as engines

-- by its lines and the orders to it alone
abbrev pub engine_after : EnginePhase → DialogueEvent → EnginePhase
engine_after engine (dialogue_events.Writes orders.Uci) = engines.Boot
engine_after engine (dialogue_events.Writes orders.IsReady) = engines.Getting
engine_after engine (dialogue_events.Writes (orders.Go kind)) = engines.Search kind false
engine_after (engines.Search kind stopped) (dialogue_events.Writes orders.Stop) = engines.Search kind true
engine_after (engines.Search kinds.Ponder stopped) (dialogue_events.Writes orders.PonderHit) =
    engines.Search kinds.Move false
engine_after engines.Boot dialogue_events.Boots = engines.Idle
engine_after engines.Getting dialogue_events.GetsReady = engines.Idle
engine_after (engines.Search kind stopped) (dialogue_events.Answers best) = engines.Idle
engine_after engine dialogue_event = engine

-- An engine that is gone says nothing more.
abbrev pub event_unless_gone : DialogueEvent → Bool → DialogueEvent
event_unless_gone dialogue_events.Boots true = dialogue_events.Nothing
event_unless_gone dialogue_events.GetsReady true = dialogue_events.Nothing
event_unless_gone (dialogue_events.Answers best) true = dialogue_events.Nothing
event_unless_gone dialogue_event gone = dialogue_event

abbrev pub gone_after : Bool → DialogueEvent → Bool
gone_after gone dialogue_events.Ends = true
gone_after gone dialogue_event = gone

abbrev pub is_idle : EnginePhase → Bool
is_idle engines.Idle = true
is_idle engine = false

-- an open search
abbrev pub is_searching : EnginePhase → Bool
is_searching (engines.Search kind stopped) = true
is_searching engine = false

-- one that is not stopped
abbrev pub is_running : EnginePhase → Bool
is_running (engines.Search kind stopped) = not stopped
is_running engine = false

-- an open Ponder search that is not stopped
abbrev pub is_phase_pondering : EnginePhase → Bool
is_phase_pondering (engines.Search kinds.Ponder stopped) = not stopped
is_phase_pondering engine = false
