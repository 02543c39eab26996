-- The log of a tap. It has a line of the engine where the tap heard it: perhaps before an order that
-- the bridge wrote before it read the line.
use Rattle.std.specs.Prelude.{◌≡◌, ℕ, zero, suc, List, ◌∷◌, ◌++◌, filter, Bool, true, false}
use Rattle.line_io.specs.Event.{Event}
use Rattle.line_io.specs.Event as events
use Rattle.policy_rules.specs.declared.setting_rules.settings.Settings.{Settings}
use Rattle.script_lines.specs.Marks.{Mark, Happens, ToEngine}
use Rattle.adapter_core.specs.Trace.{Step, LawfulTrace}
use Rattle.session_judge.specs.declared.dialogue_event.OrderKind.{OrderKind}
use Rattle.session_judge.specs.declared.dialogue_event.OrderKind.TheVariants as orders
use Rattle.session_judge.specs.declared.dialogue_event.DialogueEvent.{DialogueEvent}
use Rattle.session_judge.specs.declared.dialogue_event.DialogueEvent.TheVariants as dialogue_events
use Rattle.session_judge.specs.declared.listener.Listener.TheVariants as listeners
use Rattle.session_judge.specs.Clean.{Entry, IsClean}
use Rattle.session_judge.specs.DialogueEvents.{dialogue_event_of}
use Rattle.judge_and_driver_laws.specs.Judge.Logs.{marks_in, trace_marks}

-- a mark of the engine's side, as a tap writes them
abbrev pub is_tapped : Mark → Bool
is_tapped (ToEngine order) = true
is_tapped (Happens (events.Engine line)) = true
is_tapped (Happens events.EngineLong) = true
is_tapped (Happens events.EngineEnd) = true
is_tapped (Happens events.EngineLost) = true
is_tapped mark = false

-- the orders that are written while the engine owes an answer
abbrev pub is_written_meanwhile : OrderKind → Bool
is_written_meanwhile orders.Stop = true
is_written_meanwhile orders.PonderHit = true
is_written_meanwhile orders.Quit = true
is_written_meanwhile order = false

-- What the engine says may be heard before an order that was written first: an answer only before
-- one that is written meanwhile, since it comes behind what it answers; the engine's end and what
-- answers nothing before each.
abbrev pub MayCross : OrderKind → DialogueEvent → Type 0
MayCross order dialogue_events.Boots = is_written_meanwhile order ≡ true
MayCross order dialogue_events.GetsReady = is_written_meanwhile order ≡ true
MayCross order (dialogue_events.Answers best) = is_written_meanwhile order ≡ true
MayCross order dialogue_events.Ends = Unit {0}
MayCross order dialogue_events.Nothing = Unit {0}
MayCross order heard = ⊥

-- one event of the engine is heard before the order that stands before it
pub record IsHeardSooner (marks heard : List Mark) : Type 0 where
  pub before : List Mark
  pub behind : List Mark
  pub order : List ℕ
  pub kind : OrderKind
  pub event : Event
  pub marks_are : marks ≡ before ++ ToEngine order ∷ Happens event ∷ behind
  pub heard_are : heard ≡ before ++ Happens event ∷ ToEngine order ∷ behind
  pub is_order : dialogue_event_of (ToEngine order) ≡ dialogue_events.Writes kind
  pub crosses : MayCross kind (dialogue_event_of (Happens event))

-- so, one after the other, this number of times
abbrev pub HeardSooner : ℕ → List Mark → List Mark → Type 0
HeardSooner zero marks heard = marks ≡ heard
HeardSooner (suc n) marks heard =
    (between : List Mark) × IsHeardSooner marks between × HeardSooner n between heard

-- In the log of a tap beside a lawful trace, wherever it heard the engine, no mark breaks a rule.
abbrev pub TapsAreClean : Settings → Type 0
TapsAreClean o =
    (trace : List Step) (n : ℕ) (heard : List Mark) (log : List Entry) → LawfulTrace o trace
    → HeardSooner n (filter is_tapped (trace_marks trace)) heard → marks_in log ≡ heard
    → IsClean listeners.Tap log

-- So it is whatever the settings are.
abbrev pub AllTapsAreClean : Type 0
AllTapsAreClean = (o : Settings) → TapsAreClean o
