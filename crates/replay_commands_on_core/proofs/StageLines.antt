-- The lines that a stage lets come.
use Rattle.std.proofs.Common.{◌≡◌, ℕ, ◌+◌, Bool, true, false, not, ◌&&◌, refl, sym, ap, subst, ◌∙◌, []}
use Rattle.line_io.specs.Event.{Event, is_line}
use Rattle.line_io.specs.Event as events
use Rattle.adapter_core.specs.declared.ends.Ends.{Ends}
use Rattle.adapter_core.specs.Ends.{may, are_both_ended}
use Rattle.adapter_core.specs.Parts.{CoreParts}
use Rattle.adapter_core.specs.Represents.{Represents}
use Rattle.script_replay.specs.declared.stage.ScriptStage.{ScriptStage}
use Rattle.script_replay.specs.declared.stage.ScriptStage.TheVariants as stages
use Rattle.replay_commands_on_core.specs.Walked.{StageIsOpen, CheckMayTake}
use Rattle.script_replay.specs.Versions.{LineKind, MarksEvent, Writes, Numbers, HasNone, Starts, kind_says, stage_started}
use Rattle.script_replay.proofs.Plays.{no_event, due_below}

-- the number of a step has at most 18 digits
pub starts_open : (stage : ScriptStage) (ends : Ends) (kind : LineKind) (m : ℕ) → StageIsOpen stage → kind_says stage ends kind ≡ Starts m → StageIsOpen (stage_started stage m)
starts_open stages.Start ends kind m o h = absurd o
starts_open stages.Headed ends kind m o h = absurd o
starts_open stages.Plain ends (MarksEvent x) m o h = absurd (no_event ends x m h)
starts_open (stages.AfterEvent last) ends (Numbers n) m o h = due_below (last + 1) n m h
starts_open (stages.Numbered n) ends (MarksEvent x) m o h = absurd (no_event ends x m h)
starts_open stage ends kind m o h = cc

-- a line may be taken in a session that was opened
pub open_takes : (core : CoreParts) (stage : ScriptStage) → StageIsOpen stage → CheckMayTake core stage
open_takes core stages.Start o = absurd o
open_takes core stages.Plain o = o
open_takes core stages.Headed o = o
open_takes core (stages.AfterEvent n) o = o
open_takes core (stages.Numbered n) o = o

pub unread_takes : (core : CoreParts) (stage : ScriptStage) → Represents core.settings core [] → stage ≡ stages.Start → CheckMayTake core stage
unread_takes core stage st e = subst (CheckMayTake core) (sym e) st

-- WHERE BOTH SIDES HAVE ENDED

over_by : (iface engine a b : Bool) → (iface && engine) ≡ true → (a && not iface && b) ≡ true → ⊥
over_by true true true b e m = cc
over_by true true false b e m = cc
over_by true false a b e m = cc
over_by false engine a b e m = cc

over_short : (iface engine a : Bool) → (iface && engine) ≡ true → (a && not iface) ≡ true → ⊥
over_short true true true e m = cc
over_short true true false e m = cc
over_short true false a e m = cc
over_short false engine a e m = cc

swap : (a b : Bool) → (a && b) ≡ true → (b && a) ≡ true
swap true true e = refl
swap true false e = cc
swap false b e = cc

-- no event may come
pub over_may : (ends : Ends) (e : Event) → ends.opened ≡ true → are_both_ended ends ≡ true → may ends e ≡ true → ⊥
over_may ends events.Open o v m = let n = sym (ap not o) ∙ m in cc
over_may ends (events.Iface line) o v m = over_by ends.iface ends.engine ends.opened (is_line line) v m
over_may ends events.IfaceLost o v m = over_by ends.iface ends.engine ends.opened (not ends.iface_lost) v m
over_may ends (events.Engine line) o v m = over_by ends.engine ends.iface ends.opened (is_line line) (swap ends.iface ends.engine v) m
over_may ends events.EngineLong o v m = over_short ends.engine ends.iface ends.opened (swap ends.iface ends.engine v) m
over_may ends events.EngineEnd o v m = over_short ends.engine ends.iface ends.opened (swap ends.iface ends.engine v) m
over_may ends events.EngineLost o v m = over_by ends.engine ends.iface ends.opened (not ends.engine_lost) (swap ends.iface ends.engine v) m
over_may ends e o v m = over_short ends.iface ends.engine ends.opened v m

-- else an event may come
pub some_may : (ends : Ends) → ends.opened ≡ true → are_both_ended ends ≡ false → (e : Event) × (may ends e ≡ true)
some_may ends o v = by ends.iface ends.engine refl refl v where
  by : (iface engine : Bool) → ends.iface ≡ iface → ends.engine ≡ engine → (iface && engine) ≡ false → (e : Event) × (may ends e ≡ true)
  by false engine i g n = (events.IfaceEnd, ap (λ (b : Bool). ends.opened && not b) i ∙ ap (λ (b : Bool). b && true) o)
  by true false i g n = (events.EngineEnd, ap (λ (b : Bool). ends.opened && not b) g ∙ ap (λ (b : Bool). b && true) o)
  by true true i g n = cc
