-- The input that was sent to the core.
use Rattle.std.specs.Prelude.{◌≡◌, ℕ, ◌+◌, ◌*◌, ◌≤◌, List, [], ◌∷◌, Bool}
use Rattle.std.specs.Prelude.{true, false, if◌then◌else◌, codes, length, eqb}
use Rattle.std.specs.List.{starts_with}
use Rattle.line_io.specs.Event.{Event, is_line}
use Rattle.line_io.specs.Lines.{parts_by_feed}
use Rattle.policy_rules.specs.declared.setting_rules.settings.Settings.{Settings}
use Rattle.policy_rules.specs.SettingRules.Policy.{usual}
use Rattle.adapter_core.specs.declared.ends.Ends.{Ends}
use Rattle.protocol_tokens.specs.Quit.{is_quit}
use Rattle.adapter_core.specs.Trace.{Step, LawfulTrace}
use Rattle.adapter_core.specs.Parts.{CoreParts}
use Rattle.adapter_core.specs.Represents.{Represents}
use Rattle.random_games.specs.declared.tally.Tally.{Tally}
use Rattle.random_games.specs.Tally.{games_tally_after}
use Rattle.line_io.specs.declared.limits.TheConstants.{SCRIPT_LINE}
use Rattle.random_games.specs.declared.tally.TheConstants.{MOST_STEPS}

-- the counts are small beside the number of steps
pub record CountsAreFew (t : Tally) : Type 0 where
  pub to_iface : t.to_iface ≤ SCRIPT_LINE * t.steps
  pub to_engine : t.to_engine ≤ SCRIPT_LINE * t.steps
  pub shown : t.shown ≤ t.steps

-- the core, and what was counted of its steps
pub record DrillSession : Type 0 where
  pub core : CoreParts
  pub tally : Tally

-- a step of this event extends each lawful trace for which the core stood, and is counted
pub record DrillSends (old new : DrillSession) (e : Event) : Type 0 where
  pub step : Step
  pub event : step.event ≡ e
  pub extends : (o : Settings) (t : List Step) → LawfulTrace o t → Represents o old.core t
      → LawfulTrace o (step ∷ t) × Represents o new.core (step ∷ t)
  pub tally_is : new.tally ≡ games_tally_after old.tally step

-- the text begins with a move
abbrev pub shows_move : List ℕ → Bool
shows_move text = starts_with eqb text (codes "move ")

-- one step more, by what it wrote
abbrev pub counted_texts : Tally → List ℕ → List ℕ → Tally
counted_texts t iface engine = record {
  steps = t.steps + 1;
  to_iface = t.to_iface + length (parts_by_feed iface);
  to_engine = t.to_engine + length (parts_by_feed engine);
  shown = (if shows_move iface then t.shown + 1 else t.shown);
}

-- a step of this event was taken; if it is lawful, it was counted
pub record DrillSteps (old new : CoreParts) (e : Event) (tally_old tally_new : Tally) : Type 0 where
  pub step : Step
  pub event : step.event ≡ e
  pub extends : (o : Settings) (t : List Step) → LawfulTrace o t → Represents o old t
      → LawfulTrace o (step ∷ t) × Represents o new (step ∷ t)
  pub tally_is : (o : Settings) (t : List Step) → LawfulTrace o (step ∷ t)
      → tally_new ≡ games_tally_after tally_old step
  pub few : CountsAreFew tally_new

-- the events were sent, the first one first
abbrev pub Sent : DrillSession → DrillSession → List Event → Type 0
Sent old new [] = new ≡ old
Sent old new (e ∷ es) = (between : DrillSession) × DrillSends old between e × Sent between new es

-- both sides talk
abbrev pub both_sides_open : Ends
both_sides_open = record {
  opened = true;
  iface = false;
  engine = false;
  iface_lost = false;
  engine_lost = false;
  closed = false;
}

-- so many steps more may be counted
abbrev pub DrillHasRoom : ℕ → DrillSession → Type 0
DrillHasRoom n p = p.tally.steps + n ≤ MOST_STEPS

-- a line of the interface that does not end the session
abbrev pub IsSpeech : List ℕ → Type 0
IsSpeech line = (is_line line ≡ true) × (is_quit line ≡ false)

-- the core stands for a lawful trace, and the counts are small
pub record DrillInvariant (p : DrillSession) : Type 0 where
  pub trace : List Step
  pub lawful : LawfulTrace usual trace
  pub stands : Represents usual p.core trace
  pub few : CountsAreFew p.tally
