-- The meaning of the status of a run.
use Rattle.std.proofs.Common.{◌≡◌, ◌⊎◌, inl, inr, ℕ, List, length, refl, sym, ap, subst, ◌∙◌}
use Rattle.std.proofs.Math.Seq.{take-length}
use Rattle.std.specs.Io.KnownBytes.{Appends}
use Rattle.line_io.specs.Lines.{Piece, items}
use Rattle.line_io.specs.Source.{Received, Supplied}
use Rattle.replay_command_base.specs.declared.ending.Ending.{Ending}
use Rattle.replay_command_base.specs.declared.ending.Ending.TheVariants as endings
use Rattle.replay_command_base.specs.Diagnostics.{command_status, tail_of}
use Rattle.replay_command_base.proofs.Readings.{all_of, first_of}
use Rattle.replay_command_base.specs.Ran.{FilterRan}
use Rattle.replay_command_base.specs.Streams.{FilterStreams}
use Rattle.replay_command_base.specs.DiagnosticWritten.{DiagnosticWritten}
use Rattle.replay_command_base.specs.Putting.{IsOfLine}
use Rattle.replay_command_base.specs.Filtered.{FilterEndsBy, IsText, WroteAll, WrotePrefix, WroteWhole}
use Rattle.replay_command_base.proofs.Outcomes.{outcome}
use Rattle.replay_command_base.specs.Outcomes.{LineReported, Outcome, WroteLast}
use Rattle.cecp_driver.specs.declared.driver.DriverParts.{DriverParts}
use Rattle.cecp_driver.specs.Driver.{opening_driver}
use Rattle.cecp_driver.proofs.OneRun.{one_script}
use Rattle.replay_commands_without_core.specs.Scripts.{IsDriven, IsFirstUndriven, DriveEndsWith, drive_filter_meaning, driven_events}
use Rattle.replay_commands_without_core.specs.Driven.{AllDriven, CompletesDrive, DriveCommandIs, DriveFaultReported, PrefixDriven, DrivesAll, WholeDriven}
use Rattle.replay_commands_without_core.proofs.DrivenAgain.{no_fault, script_again}

-- WHY IT ENDED

fault_of : (lines : List Piece) (ending : Ending) (text : List ℕ) → IsOfLine ending → DriveEndsWith lines ending text → IsFirstUndriven lines ending text
fault_of lines (endings.NoMark n) text i s = s
fault_of lines (endings.MayNotCome n) text i s = s
fault_of lines (endings.OutOfStep n) text i s = absurd s
fault_of lines (endings.Differs n) text i s = absurd s
fault_of lines (endings.Unlawful n) text i s = absurd s
fault_of lines ending text i s = absurd i

fault_code : (lines : List Piece) (ending : Ending) (text : List ℕ) → IsFirstUndriven lines ending text → command_status ending ≡ 2
fault_code lines (endings.NoMark n) text f = refl
fault_code lines (endings.MayNotCome n) text f = refl
fault_code lines ending text f = absurd f.wrong

abbrev IsAnyText : List Piece → List ℕ → Type 0
IsAnyText lines text = IsDriven lines text ⊎ ((fault : Ending) × IsFirstUndriven lines fault text)

any_said : (lines : List Piece) (ending : Ending) (text : List ℕ) → DriveEndsWith lines ending text → IsAnyText lines text
any_said lines (endings.NoMark n) text s = inr (endings.NoMark n, s)
any_said lines (endings.MayNotCome n) text s = inr (endings.MayNotCome n, s)
any_said lines (endings.OutOfStep n) text s = absurd s
any_said lines (endings.Differs n) text s = absurd s
any_said lines (endings.Unlawful n) text s = absurd s
any_said lines ending text s = inl s

-- WHAT THE STATUS SAYS

module _ (U : Type 0) (v0 : DriverParts) (first : v0 ≡ opening_driver) (start now : FilterStreams) (code : ℕ) where
  all_driven : WroteAll drive_filter_meaning v0 start now → AllDriven start now
  all_driven w = record { got = w.got; reads = w.reads; all_read = w.all; text = w.text; driven = w.says first; written = w.written }

  reading : WroteWhole drive_filter_meaning v0 endings.ReadingFailed 0 start now → WholeDriven 0 start now
  reading w = record { got = w.got; reads = w.reads; least_is = w.least_is; first = w.first; text = w.text; driven = w.says first; written = w.written }

  too_long : WroteWhole drive_filter_meaning v0 endings.TooLong 4294967296 start now → WholeDriven 4294967296 start now
  too_long w = record { got = w.got; reads = w.reads; least_is = w.least_is; first = w.first; text = w.text; driven = w.says first; written = w.written }

  fault_in : (n : ℕ) (r : LineReported drive_filter_meaning v0 start now n) → IsFirstUndriven r.wrote.lines r.ending r.wrote.text
  fault_in n r = fault_of r.wrote.lines r.ending r.wrote.text r.of_line (r.wrote.says first)

  reported : (n : ℕ) → LineReported drive_filter_meaning v0 start now n → DriveFaultReported start now
  reported n r = record { fault = r.ending; announced = r.announced; lines = r.wrote.lines; read = r.wrote.read; text = r.wrote.text; is_fault = fault_in n r; written = r.wrote.written }

  reported_code : (n : ℕ) → LineReported drive_filter_meaning v0 start now n → n ≡ 2
  reported_code n r = r.code_is ∙ fault_code r.wrote.lines r.ending r.wrote.text (fault_in n r)

  any_text : (lines : List Piece) (text : List ℕ) → IsText drive_filter_meaning v0 lines text → IsAnyText lines text
  any_text lines text (inl p) = inl (p.1 first).driven
  any_text lines text (inr p) = any_said lines p.0 text (p.1 first)

  prefix : WrotePrefix drive_filter_meaning v0 start now ⊎ WroteLast drive_filter_meaning v0 start now → PrefixDriven start now
  prefix (inl w) = record { lines = w.lines; read = w.read; text = w.text; driven = any_text w.lines w.text w.is_text; prefix = w.prefix; written = w.written }
  prefix (inr w) = record {
    lines = w.lines;
    read = w.read;
    text = w.text;
    driven = any_said w.lines w.ending w.text (w.says first);
    prefix = length w.text;
    written = subst (λ (t : List ℕ). Appends start.output.taken now.output.taken t) (sym (take-length w.text)) w.written;
  }

  broken : U ⊎ WrotePrefix drive_filter_meaning v0 start now ⊎ WroteLast drive_filter_meaning v0 start now → U ⊎ PrefixDriven start now
  broken (inl u) = inl u
  broken (inr p) = inr (prefix p)

  completed : ((code ≡ 0) × WroteAll drive_filter_meaning v0 start now) ⊎ LineReported drive_filter_meaning v0 start now code ⊎ (code ≡ 3)
      → ((code ≡ 0) × AllDriven start now) ⊎ ((code ≡ 2) × DriveFaultReported start now) ⊎ (code ≡ 3)
  completed (inl p) = inl (p.0, all_driven p.1)
  completed (inr (inl r)) = inr (inl (reported_code code r, reported code r))
  completed (inr (inr m)) = inr (inr m)

  complete : Outcome drive_filter_meaning v0 U start now code → CompletesDrive start now code
  complete o x e l s = completed (o.complete x e l s)

  plays_all : Outcome drive_filter_meaning v0 U start now code → DrivesAll start now code
  plays_all o x text e l d s = of (complete o x e l s) where
    of : ((code ≡ 0) × AllDriven start now) ⊎ ((code ≡ 2) × DriveFaultReported start now) ⊎ (code ≡ 3) → ((code ≡ 0) × Appends start.output.taken now.output.taken text) ⊎ (code ≡ 3)
    of (inl p) =
        let same = all_of start.input.left p.1.got x p.1.all_read e in
        let there : IsDriven (items 131072 p.1.got) text = subst (λ (t : List ℕ). IsDriven (items 131072 t) text) same d in
        let one = one_script (driven_events (items 131072 p.1.got)) p.1.text text p.1.driven.script there.script in
        inl (p.0, subst (λ (t : List ℕ). Appends start.output.taken now.output.taken t) one p.1.written)
    of (inr (inl r)) =
        let f = first_of start.input.left r.1.lines x r.1.read.of_left e in
        absurd (no_fault r.1.lines f.0 (items 131072 x) r.1.fault r.1.text text f.1 r.1.is_fault d)
    of (inr (inr z)) = inr z

  pub driven : FilterRan (λ e. FilterEndsBy drive_filter_meaning opening_driver U e start now) start now code → Outcome drive_filter_meaning v0 U start now code → DriveCommandIs U start now code
  driven ran o = record {
    ended = ran;
    all_driven = λ z. let d = o.done z in (all_driven d.0, d.1);
    no_other = λ z. let n = reported_code 1 (o.found z) in cc;
    fault_reported = λ z. reported 2 (o.fault z);
    memory = o.memory;
    reading_failed = λ z. let d = o.reading z in (d.0, reading d.1);
    writing_failed = λ z. let d = o.writing z in (d.0, broken d.1);
    too_long = λ z. too_long (o.too_long z);
    complete = complete o;
    plays_all = plays_all o;
    again = λ events text script e l s. plays_all o text text e l (script_again events text script) s;
  }

-- WANT OF MEMORY

memory_ran : (U : Type 0) (start now : FilterStreams) (code : ℕ) → U → now.input ≡ start.input → now.output ≡ start.output → DiagnosticWritten code 3 (tail_of endings.NoMemory) start.diag now.diag
    → FilterRan (λ e. FilterEndsBy drive_filter_meaning opening_driver U e start now) start now code
memory_ran U start now code u i o t = record {
  ending = endings.NoMemory;
  ends = u;
  announces = t;
  reading = λ z. cc;
  writing = λ z. cc;
  read = λ a b. ap (λ (x : Supplied). x.faults) i;
  written = λ a. ap (λ (x : Received). x.faults) o;
}

pub want_of_memory : (U : Type 0) (start now : FilterStreams) (code : ℕ) → U → now.input ≡ start.input → now.output ≡ start.output → DiagnosticWritten code (command_status endings.NoMemory) (tail_of endings.NoMemory) start.diag now.diag → DriveCommandIs U start now code
want_of_memory U start now code u i o announced = driven U opening_driver refl start now code r (outcome drive_filter_meaning opening_driver U start now code r)
  where
    r : FilterRan (λ e. FilterEndsBy drive_filter_meaning opening_driver U e start now) start now code
    r = memory_ran U start now code u i o announced
