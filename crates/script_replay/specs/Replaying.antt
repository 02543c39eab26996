-- A replay's reading of lines.
use Rattle.std.specs.Prelude.{◌≡◌, ◌⊎◌, ℕ, List, [], ◌++◌, take}
use Rattle.std.specs.Prelude.{Bool, true, false, Option, Some, None}
use Rattle.std.specs.Io.KnownBytes.{Appends}
use Rattle.line_io.specs.Causes.{Rose}
use Rattle.line_io.specs.Lines.{Piece}
use Rattle.line_io.specs.Out.{Text, empty}
use Rattle.line_io.specs.Source.{Received}
use Rattle.line_io.specs.LineConsumers.{ConsumerMeaning}
use Rattle.policy_rules.specs.declared.setting_rules.settings.Settings.{Settings}
use Rattle.adapter_core.specs.Trace.{Step, LawfulTrace}
use Rattle.adapter_core.specs.Represents.{Represents}
use Rattle.trace_scripts.specs.Script.{events}
use Rattle.replay_command_base.specs.declared.ending.Ending.{Ending}
use Rattle.replay_command_base.specs.declared.ending.Ending.TheVariants as endings
use Rattle.script_replay.specs.declared.player.Player.{Player}
use Rattle.script_replay.specs.declared.stage.ScriptStage.TheVariants as stages
use Rattle.script_replay.specs.Playing.{ReplayMayTake, OutputIsScript, ReplayTook}
use Rattle.script_replay.specs.Versions.{script_by, script_events}
use Rattle.script_replay.specs.Versions.{script_fault, settings_by, version_in}
use Rattle.replay_command_base.specs.declared.limits.TheConstants.{TEXT_ROOM}

-- a session before its first line
pub record IsFresh (o : Settings) (player : Player) : Type 0 where
  pub is_start : player.stage ≡ stages.Start
  pub stands : Represents o player.core []
  pub text : player.text ≡ empty TEXT_ROOM

abbrev pub player_with_text : Player → Text → Player
player_with_text player text = record player { text = text }

abbrev pub ReplayMayGoOn : Player → Type 0
ReplayMayGoOn player = ReplayMayTake player.core player.stage player.text

-- these lines were replayed
pub record ReplayStood (o : Settings) (lines : List Piece) (player : Player)
    (before after : Received) : Type 0 where
  pub took : ReplayTook o lines player.core player.stage player.text.text before after
  pub may : ReplayMayGoOn player
  pub no_failure : after.faults ≡ before.faults

-- A write failed, and the output got a prefix of the script of a lawful trace. Its events are those
-- of the first of these lines.
pub record ReplayBroke (o : Settings) (pieces : List Piece) (before after : Received) : Type 0 where
  pub lines : List Piece
  pub more : List Piece
  pub first : pieces ≡ lines ++ more
  pub trace : List Step
  pub lawful : LawfulTrace (settings_by (version_in lines) o) trace
  pub events_are : events trace ≡ script_events lines
  pub prefix : ℕ
  pub appended : Appends before.taken after.taken (take prefix (script_by (version_in lines) trace))
  pub failure : Rose before.faults after.faults

-- the lines have this first fault, and were replayed up to it
pub record ReplayFaulted (o : Settings) (fault : Ending) (lines : List Piece) (text : List ℕ)
    (before after : Received) : Type 0 where
  pub is_fault : script_fault lines ≡ Some fault
  pub scripted : OutputIsScript o lines text before after
  pub no_failure : after.faults ≡ before.faults

-- no more lines are taken
pub record ReplayHalted (o : Settings) (ending : Ending) (lines : List Piece) (player : Player)
    (before after : Received) : Type 0 where
  pub halts : ((ending ≡ endings.WritingFailed) × ReplayBroke o lines before after)
      ⊎ ReplayFaulted o ending lines player.text.text before after
  pub may : ReplayMayGoOn player

-- the outcome of a line
abbrev pub ReplayAfterLine : Settings → List Piece → Option Ending → Player → Received → Received → Type 0
ReplayAfterLine o lines None player before after = ReplayStood o lines player before after
ReplayAfterLine o lines (Some ending) player before after = ReplayHalted o ending lines player before after

-- the rest was written, and this is the ending, or writing failed
abbrev pub ReplayFinished : Settings → List Piece → Ending → Ending → Received → Received → Type 0
ReplayFinished o lines ending answer before after =
    ((answer ≡ ending) × OutputIsScript o lines [] before after × (after.faults ≡ before.faults))
    ⊎ ((answer ≡ endings.WritingFailed) × ReplayBroke o lines before after)

-- a fault ended the lines, and what is left was written, or writing failed
abbrev pub ReplayLeft : Settings → List Piece → Ending → Ending → Received → Received → Type 0
ReplayLeft o lines ending answer before after =
    ((answer ≡ ending) × ReplayFaulted o ending lines [] before after)
    ⊎ ((answer ≡ endings.WritingFailed) × ReplayBroke o lines before after)

-- writing failed
abbrev pub is_cut : Ending → Bool
is_cut endings.WritingFailed = true
is_cut e = false

-- the meaning of a replay of lines
abbrev pub replays : {O : Type 0} → (O → Received) → ConsumerMeaning Player O Ending
replays {O} see = record {
  took =
      λ player0 output0 lines player output. (o : Settings) → IsFresh o player0
      → ReplayStood o lines player (see output0) (see output);
  stopped = λ player0 output0 lines ending player output. (o : Settings) → IsFresh o player0
      → ReplayHalted o ending lines player (see output0) (see output);
  may = λ player. ReplayMayGoOn player;
  is_written = λ player. player.text.text ≡ [];
}
