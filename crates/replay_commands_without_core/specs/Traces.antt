-- Traces whose script of version 1 can be migrated.
use Rattle.std.specs.Prelude.{◌≡◌, List, [], ◌∷◌}
use Rattle.std.specs.List.{AllByRecursion}
use Rattle.line_io.specs.Event.{Open}
use Rattle.line_io.specs.Lines.{parts_by_feed}
use Rattle.script_lines.specs.Marks.{Happens, ToIface, ToEngine, IsMarkSpelled}
use Rattle.adapter_core.specs.Trace.{Step, iface_text, engine_text}

-- Open is the event of the first step and of no other, and each other event has a mark. The
-- newest step stands first.
abbrev pub AreEventsMarked : List Step → Type 0
AreEventsMarked [] = ⊥
AreEventsMarked (first ∷ []) = first.event ≡ Open
AreEventsMarked (step ∷ earlier ∷ steps) =
    IsMarkSpelled (Happens step.event) × AreEventsMarked (earlier ∷ steps)

-- each line that the step wrote has a mark
pub record IsWrittenMarked (step : Step) : Type 0 where
  pub iface : AllByRecursion (λ line. IsMarkSpelled (ToIface line)) (parts_by_feed (iface_text step))
  pub engine : AllByRecursion (λ line. IsMarkSpelled (ToEngine line)) (parts_by_feed (engine_text step))

-- Lawful or not, its events and its written lines have marks, except Open, which begins it.
pub record IsMarked (trace : List Step) : Type 0 where
  pub events : AreEventsMarked trace
  pub written : AllByRecursion IsWrittenMarked trace
