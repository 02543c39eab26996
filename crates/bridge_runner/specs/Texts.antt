-- The events and the texts of a trace, whose newest step stands first.
use Rattle.std.specs.Prelude.{ℕ, List, [], ◌∷◌, ◌++◌, Bool, true, false, if◌then◌else◌}
use Rattle.std.specs.List.{list_any}
use Rattle.line_io.specs.Event.{Event, Open, IfaceLost, EngineLost}
use Rattle.adapter_core.specs.Trace.{Step}
use Rattle.event_pipe.specs.declared.message.Peer.{Peer}
use Rattle.event_loop.specs.Turns.{is_loss}

-- the loop's own events
abbrev pub is_own_step : Event → Bool
is_own_step Open = true
is_own_step IfaceLost = true
is_own_step EngineLost = true
is_own_step e = false

-- the events that were received, the oldest first
abbrev pub events_of_steps : List Step → List Event
events_of_steps [] = []
events_of_steps (s ∷ t) = events_of_steps t ++ (if is_own_step s.event then [] else s.event ∷ [])

-- a step is that of this peer's loss
abbrev pub steps_have_loss : Peer → List Step → Bool
steps_have_loss p trace = list_any (λ s. is_loss p s.event) trace

-- the texts of the steps, in order
abbrev pub step_texts : (Step → List ℕ) → List Step → List ℕ
step_texts text [] = []
step_texts text (s ∷ t) = step_texts text t ++ text s
