-- Crossings. A tap logs a line of the engine before the bridge has read it. So an order that the
-- bridge wrote before it read the line can come after it.
use Rattle.std.specs.Prelude.{Bool, true, false, ℕ, ◌+◌, ◌&&◌, ◌||◌, nat_lt, if◌then◌else◌}
use Rattle.session_judge.specs.declared.dialogue_event.OrderKind.{OrderKind}
use Rattle.session_judge.specs.declared.dialogue_event.OrderKind.TheVariants as orders
use Rattle.session_judge.specs.declared.dialogue_event.DialogueEvent.{DialogueEvent}
use Rattle.session_judge.specs.declared.dialogue_event.DialogueEvent.TheVariants as dialogue_events
use Rattle.session_judge.specs.declared.engine.EnginePhase.{EnginePhase}
use Rattle.session_judge.specs.declared.engine.EnginePhase.TheVariants as engines
use Rattle.session_judge.specs.declared.listener.Listener.{Listener}
use Rattle.session_judge.specs.declared.listener.Listener.TheVariants as listeners
use Rattle.session_judge.specs.declared.talk.JudgedTalk.{JudgedTalk}
use Rattle.session_judge.specs.Engines.{engine_after, is_idle}
use Rattle.session_judge.specs.declared.talk.TheConstants.{LAST_NUMBER}

-- `stop` or `ponderhit`
abbrev pub is_to_search : OrderKind → Bool
is_to_search orders.Stop = true
is_to_search orders.PonderHit = true
is_to_search order = false

-- A crossing: an order to an engine that is gone, or `stop` or `ponderhit`
-- to one that has answered.
abbrev pub is_crossing : Bool → EnginePhase → OrderKind → Bool
is_crossing gone engine order = gone || (is_idle engine && is_to_search order)

-- The engine as it would be if its last `bestmove` had not come: in the search that this ended,
-- until an order other than `stop` and `ponderhit` is written.
abbrev pub unanswered_after : EnginePhase → EnginePhase → DialogueEvent → EnginePhase
unanswered_after engine unanswered (dialogue_events.Writes order) =
    if is_to_search order then engine_after unanswered (dialogue_events.Writes order) else engines.Idle
unanswered_after (engines.Search kind stopped) unanswered (dialogue_events.Answers best) =
    engines.Search kind stopped
unanswered_after engine unanswered dialogue_event = unanswered

-- The engine as the bridge may take it to be: it may not know yet of a
-- `bestmove` that a tap has logged.
abbrev pub taken_as : EnginePhase → Listener → EnginePhase → EnginePhase
taken_as engines.Idle listeners.Tap unanswered = unanswered
taken_as engine listener unanswered = engine

abbrev pub taken : JudgedTalk → EnginePhase
taken t = taken_as t.engine t.listener t.unanswered

-- the next number, which stays at the last
abbrev pub next_search_number : ℕ → ℕ
next_search_number n = if nat_lt n LAST_NUMBER then n + 1 else LAST_NUMBER

-- how many orders crossed
abbrev pub crossings_after : ℕ → Bool → EnginePhase → DialogueEvent → ℕ
crossings_after n gone engine (dialogue_events.Writes order) =
    if is_crossing gone engine order then next_search_number n else n
crossings_after n gone engine dialogue_event = n
