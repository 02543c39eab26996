-- The result of a replay.
use Rattle.std.specs.Prelude.{◌≡◌, ℕ, ◌^◌, ◌≤◌, List, [], length, take, Some, None}
use Rattle.std.specs.Io.KnownBytes.{Appends}
use Rattle.line_io.specs.Lines.{Piece, items}
use Rattle.line_io.specs.Runs.{whole}
use Rattle.policy_rules.specs.declared.setting_rules.settings.Settings.{Settings}
use Rattle.adapter_core.specs.Trace.{Step, LawfulTrace}
use Rattle.trace_scripts.specs.Script.{events}
use Rattle.replay_command_base.specs.Reads.{Got, IsAll, AreFirst, AreRead}
use Rattle.replay_command_base.specs.Streams.{FilterStreams}
use Rattle.script_replay.specs.Playing.{OutputIsScript}
use Rattle.script_replay.specs.Versions.{script_by, script_events}
use Rattle.script_replay.specs.Versions.{script_fault, settings_by, version_in}
use Rattle.replay_command_base.specs.declared.ending.Ending.{Ending}
use Rattle.replay_command_base.specs.declared.ending.Ending.TheVariants as endings
use Rattle.line_io.specs.declared.limits.TheConstants.{SCRIPT_LINE}

-- the output got the script of a lawful trace whose events are those of the lines
abbrev pub IsScripted : Settings → FilterStreams → FilterStreams → List Piece → Type 0
IsScripted o start now lines = OutputIsScript o lines [] start.output now.output

-- all of the input was replayed
pub record ReplaysAll (o : Settings) (start now : FilterStreams) : Type 0 where
  pub got : List ℕ
  pub reads : Got start now got
  pub all : IsAll start.input.left got
  pub fine : script_fault (items SCRIPT_LINE got) ≡ None
  pub scripted : IsScripted o start now (items SCRIPT_LINE got)

-- the first lines of the input were replayed, up to a fault
pub record ReplaysTo (o : Settings) (fault : Ending) (start now : FilterStreams) : Type 0 where
  pub lines : List Piece
  pub read : AreRead start now lines
  pub is_fault : script_fault lines ≡ Some fault
  pub scripted : IsScripted o start now lines

-- all whole lines that were got were replayed
pub record ReplaysWhole (o : Settings) (least : ℕ) (start now : FilterStreams) : Type 0 where
  pub got : List ℕ
  pub reads : Got start now got
  pub least_is : least ≤ length got
  pub first : AreFirst start.input.left (whole SCRIPT_LINE got)
  pub fine : script_fault (whole SCRIPT_LINE got) ≡ None
  pub scripted : IsScripted o start now (whole SCRIPT_LINE got)

-- the input is too long: all whole lines of 2^32 bytes or more were replayed
pub record ReplaysMuch (o : Settings) (start now : FilterStreams) : Type 0 where
  pub replays : ReplaysWhole o (2 ^ 32) start now

-- The output got a prefix of the script of a lawful trace. Its events are those of the
-- first lines of the input.
pub record ReplayCutShort (o : Settings) (start now : FilterStreams) : Type 0 where
  pub lines : List Piece
  pub read : AreRead start now lines
  pub trace : List Step
  pub lawful : LawfulTrace (settings_by (version_in lines) o) trace
  pub events_are : events trace ≡ script_events lines
  pub prefix : ℕ
  pub appended :
      Appends start.output.taken now.output.taken (take prefix (script_by (version_in lines) trace))

-- how a run stopped
abbrev pub Stopped : Settings → Ending → FilterStreams → FilterStreams → Type 0
Stopped o endings.Done start now = ReplaysAll o start now
Stopped o (endings.NoMark n) start now = ReplaysTo o (endings.NoMark n) start now
Stopped o (endings.OutOfStep n) start now = ReplaysTo o (endings.OutOfStep n) start now
Stopped o (endings.MayNotCome n) start now = ReplaysTo o (endings.MayNotCome n) start now
Stopped o endings.ReadingFailed start now = ReplaysWhole o 0 start now
-- the input is too long
Stopped o endings.TooLong start now = ReplaysMuch o start now
Stopped o endings.WritingFailed start now = ReplayCutShort o start now
Stopped o ending start now = ⊥

-- how a replay ended: lack of memory leaves the input and the output untouched
abbrev pub EndsAs : Settings → Type 0 → Ending → FilterStreams → FilterStreams → Type 0
EndsAs o untouched endings.NoMemory start now = untouched
EndsAs o untouched ending start now = Stopped o ending start now
