-- The stopping of a replay.
use Rattle.std.proofs.Common.{◌≡◌, ◌≢◌, inl, inr, ℕ, ◌≤◌, List, [], ◌∷◌, length, None, refl, sym, ap, subst, ◌∙◌, arith}
use Rattle.line_io.specs.Causes.{Rose}
use Rattle.line_io.specs.Lines.{Piece, SourceGave}
use Rattle.line_io.specs.Runs.{whole}
use Rattle.line_io.specs.Source.{Received, Supplied}
use Rattle.line_io.specs.Taken.{Place, Taken}
use Rattle.line_io.specs.declared.consumer.LinesEnd.TheVariants as ends
use Rattle.policy_rules.specs.declared.setting_rules.settings.Settings.{Settings}
use Rattle.adapter_core.specs.Parts.{CoreParts}
use Rattle.replay_command_base.specs.declared.ending.Ending.{Ending}
use Rattle.replay_command_base.specs.declared.ending.Ending.TheVariants as endings
use Rattle.script_replay.specs.declared.player.Player.{Player}
use Rattle.script_replay.specs.declared.stage.ScriptStage.{ScriptStage}
use Rattle.replay_command_base.specs.Streams.{FilterStreams, filter_streams}
use Rattle.script_replay.specs.Versions.{script_fault}
use Rattle.script_replay.specs.Playing.{OutputIsScript, ReplayTook}
use Rattle.script_replay.specs.Replaying.{IsFresh, ReplayBroke, ReplayFinished, ReplayLeft, replays}
use Rattle.replay_command_base.specs.Reads.{AreFirst, AreRead, IsAll}
use Rattle.replay_command_base.specs.Ran.{Causes}
use Rattle.replay_commands_on_core.specs.Replay.{ReplaysTo, ReplaysWhole, Stopped}
use Rattle.replay_command_base.proofs.Readings.{ended_all, ended_read, read_prefix, stopped_read, whole_read}
use Rattle.script_replay.proofs.LineFaults.{IsLineFault, no_cut, no_reading, script_has}

to_fault : (o : Settings) (start now : FilterStreams) (f : Ending) → IsLineFault f → ReplaysTo o f start now → Stopped o f start now
to_fault o start now (endings.NoMark n) i r = r
to_fault o start now (endings.OutOfStep n) i r = r
to_fault o start now (endings.MayNotCome n) i r = r
to_fault o start now f i r = absurd i

took_fine : (o : Settings) (lines : List Piece) (core : CoreParts) (stage : ScriptStage) (text : List ℕ) (before after : Received) → ReplayTook o lines core stage text before after → script_fault lines ≡ None
took_fine o [] core stage text before after t = refl
took_fine o (l ∷ ls) core stage text before after t = t.fine

-- A RUN

stopped_cut : (o : Settings) (answer : Ending) (pieces : List Piece) (start now : FilterStreams) → answer ≡ endings.WritingFailed → AreRead start now pieces → ReplayBroke o pieces start.output now.output → Stopped o answer start now
stopped_cut o answer pieces start now e r b = subst (λ (x : Ending). Stopped o x start now) (sym e) (record {
  lines = b.lines;
  read = read_prefix start now pieces b.lines b.more b.first r;
  trace = b.trace;
  lawful = b.lawful;
  events_are = b.events_are;
  prefix = b.prefix;
  appended = b.appended;
})

module _ {O : Type 0} (see : O → Received) (old new : Place Player O) (o : Settings) (fresh : IsFresh o old.consumer) (output diag diag_now : Received) where
  abbrev start : FilterStreams
  start = filter_streams old.input (see old.output) diag

  abbrev now : FilterStreams
  now = filter_streams new.input output diag_now

  abbrev Ends : List Piece → Ending → Ending → Type 0
  Ends pieces ending answer = ReplayFinished o pieces ending answer (see old.output) output

  pub go_ended : (answer : Ending) (t : Taken (replays see) 131072 ends.Ended old new) → Ends t.pieces endings.Done answer → Stopped o answer start now
  go_ended answer t f = by (ended_all (replays see) old new (see old.output) output diag diag_now t) f where
    by : IsAll old.input.left t.given → Ends t.pieces endings.Done answer → Stopped o answer start now
    by all (inr b) = stopped_cut o answer t.pieces start now b.0 (ended_read (replays see) old new (see old.output) output diag diag_now t) b.1
    by all (inl d) = subst (λ (x : Ending). Stopped o x start now) (sym d.0) (record {
      got = t.given;
      reads = record { given = t.gave.given; left = t.gave.left };
      all = all;
      fine = ap script_fault (sym t.ends.all) ∙ took_fine o t.pieces new.consumer.core new.consumer.stage new.consumer.text.text (see old.output) (see new.output) (t.ends.took o fresh).took;
      scripted = subst (λ (ls : List Piece). OutputIsScript o ls [] (see old.output) output) t.ends.all d.1;
    })

  -- all whole lines were taken
  abbrev read_of : (given : List ℕ) (pieces : List Piece) → SourceGave old.input new.input given → pieces ≡ whole 131072 given → AreRead start now pieces
  read_of given pieces gave all = whole_read (replays see) old new (see old.output) output diag diag_now given pieces gave all

  whole_replayed : (least : ℕ) (given : List ℕ) (pieces : List Piece) → SourceGave old.input new.input given → pieces ≡ whole 131072 given → least ≤ length given → script_fault pieces ≡ None
      → OutputIsScript o pieces [] (see old.output) output → ReplaysWhole o least start now
  whole_replayed least given pieces gave all l fine s = record {
    got = given;
    reads = record { given = gave.given; left = gave.left };
    least_is = l;
    first = subst (AreFirst old.input.left) all (read_of given pieces gave all).of_left;
    fine = ap script_fault (sym all) ∙ fine;
    scripted = subst (λ (ls : List Piece). OutputIsScript o ls [] (see old.output) output) all s;
  }

  pub go_failed : (answer : Ending) (t : Taken (replays see) 131072 ends.ReadFailed old new) → Ends t.pieces endings.ReadingFailed answer → Stopped o answer start now
  go_failed answer t (inr b) = stopped_cut o answer t.pieces start now b.0 (read_of t.given t.pieces t.gave t.ends.all) b.1
  go_failed answer t (inl d) = subst (λ (x : Ending). Stopped o x start now) (sym d.0)
      (whole_replayed 0 t.given t.pieces t.gave t.ends.all (omega arith) (took_fine o t.pieces new.consumer.core new.consumer.stage new.consumer.text.text (see old.output) (see new.output) (t.ends.took o fresh).took) d.1)

  pub go_endless : (answer : Ending) (t : Taken (replays see) 131072 ends.Endless old new) → Ends t.pieces endings.TooLong answer → Stopped o answer start now
  go_endless answer t (inr b) = stopped_cut o answer t.pieces start now b.0 (read_of t.given t.pieces t.gave t.ends.all) b.1
  go_endless answer t (inl d) = subst (λ (x : Ending). Stopped o x start now) (sym d.0)
      (record {
        replays = record {
          got = t.given;
          reads = record { given = t.gave.given; left = t.gave.left };
          least_is = t.ends.many;
          first = subst (AreFirst old.input.left) t.ends.all (read_of t.given t.pieces t.gave t.ends.all).of_left;
          fine = ap script_fault (sym t.ends.all) ∙ took_fine o t.pieces new.consumer.core new.consumer.stage new.consumer.text.text (see old.output) (see new.output) (t.ends.took o fresh).took;
          scripted = subst (λ (ls : List Piece). OutputIsScript o ls [] (see old.output) output) t.ends.all d.1;
        };
      })

  -- no more lines were taken
  pub go_left : (ending answer : Ending) (t : Taken (replays see) 131072 (ends.Stopped ending) old new) → ReplayLeft o t.pieces ending answer (see old.output) output → Stopped o answer start now
  go_left ending answer t (inr b) = stopped_cut o answer t.pieces start now b.0 (stopped_read (replays see) old new (see old.output) output diag diag_now ending t) b.1
  go_left ending answer t (inl d) = subst (λ (x : Ending). Stopped o x start now) (sym d.0)
      (to_fault o start now ending (script_has t.pieces ending d.1.is_fault) (record { lines = t.pieces; read = stopped_read (replays see) old new (see old.output) output diag diag_now ending t; is_fault = d.1.is_fault; scripted = d.1.scripted }))

pub causes_left : (o : Settings) (pieces : List Piece) (ending answer : Ending) (input input_now : Supplied) (output output_now : Received) → ReplayLeft o pieces ending answer output output_now → input_now.faults ≡ input.faults → Causes answer input input_now output output_now
causes_left o pieces ending answer input input_now output output_now (inl d) s =
    let i = script_has pieces ending d.1.is_fault in
    record {
      reading = λ x. absurd (no_reading ending i (sym d.0 ∙ x));
      writing = λ x. absurd (no_cut ending i (sym d.0 ∙ x));
      read = λ a b. s;
      written = λ a. d.1.no_failure;
    }
causes_left o pieces ending answer input input_now output output_now (inr b) s = record {
  reading = λ x. let y = sym b.0 ∙ x in cc;
  writing = λ x. b.1.failure;
  read = λ a c. absurd (c b.0);
  written = λ a. absurd (a b.0);
}

-- why it stopped
pub causes_by : (o : Settings) (pieces : List Piece) (ending answer : Ending) (input input_now : Supplied) (output output_now : Received) → ReplayFinished o pieces ending answer output output_now → (ending ≡ endings.ReadingFailed → Rose input.faults input_now.faults)
    → (ending ≢ endings.ReadingFailed → input_now.faults ≡ input.faults) → ending ≢ endings.WritingFailed → Causes answer input input_now output output_now
causes_by o pieces ending answer input input_now output output_now (inl d) r s n = record {
  reading = λ x. r (sym d.0 ∙ x);
  writing = λ x. absurd (n (sym d.0 ∙ x));
  read = λ a b. s (λ x. a (d.0 ∙ x));
  written = λ a. d.2;
}
causes_by o pieces ending answer input input_now output output_now (inr b) r s n = record {
  reading = λ x. let y = sym b.0 ∙ x in cc;
  writing = λ x. b.1.failure;
  read = λ a c. absurd (c b.0);
  written = λ a. absurd (a b.0);
}
