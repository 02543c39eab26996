-- The meaning of the status of a run.
use Rattle.std.proofs.Common.{◌≡◌, ◌≢◌, ◌⊎◌, inl, inr, ℕ, ◌^◌, ◌<◌, List, length, Some, refl, sym, ap, subst, ◌∙◌, arith}
use Rattle.std.specs.Io.KnownBytes.{Appends}
use Rattle.line_io.specs.Causes.{Rose}
use Rattle.line_io.specs.Lines.{Piece, items}
use Rattle.line_io.specs.Runs.{whole}
use Rattle.line_io.specs.Source.{Received, Supplied}
use Rattle.replay_command_base.specs.declared.ending.Ending.{Ending}
use Rattle.replay_command_base.specs.declared.ending.Ending.TheVariants as endings
use Rattle.replay_command_base.specs.Diagnostics.{command_status, command_diagnostic, tail_of}
use Rattle.replay_command_base.specs.Ran.{FilterRan, WritingBroke}
use Rattle.replay_command_base.specs.Reads.{AreRead}
use Rattle.replay_command_base.specs.Streams.{FilterStreams, AreSame, HasNoFault}
use Rattle.replay_command_base.specs.DiagnosticWritten.{DiagnosticWritten}
use Rattle.replay_command_base.proofs.Readings.{few_got, items_got, items_read, whole_lines_got, whole_lines_read}
use Rattle.replay_command_base.specs.Putting.{Putting, IsOfLine}
use Rattle.replay_command_base.specs.Filtered.{FilterEndsBy, EndsRightly, WroteAll, WrotePrefix, WroteTo, WroteWhole}
use Rattle.replay_command_base.specs.Outcomes.{LineReported, Outcome, WroteLast}

-- WHICH ENDING HAS A STATUS

is_done : (e : Ending) → command_status e ≡ 0 → e ≡ endings.Done
is_done endings.Done h = refl
is_done e h = cc

is_memory : (e : Ending) → command_status e ≡ 3 → e ≡ endings.NoMemory
is_memory endings.NoMemory h = refl
is_memory e h = cc

is_reading : (e : Ending) → command_status e ≡ 4 → e ≡ endings.ReadingFailed
is_reading endings.ReadingFailed h = refl
is_reading e h = cc

is_writing : (e : Ending) → command_status e ≡ 5 → e ≡ endings.WritingFailed
is_writing endings.WritingFailed h = refl
is_writing e h = cc

is_long : (e : Ending) → command_status e ≡ 6 → e ≡ endings.TooLong
is_long endings.TooLong h = refl
is_long e h = cc

module _ {S : Type 0} (means : Putting S) (s0 : S) (U : Type 0) (start now : FilterStreams) (code : ℕ) (r : FilterRan (λ e. FilterEndsBy means s0 U e start now) start now code) where
  abbrev By : Ending → Type 0
  By e = FilterEndsBy means s0 U e start now

  abbrev DiagnosticWritten' : Ending → Type 0
  DiagnosticWritten' e = DiagnosticWritten code (command_status e) (command_diagnostic e) start.diag now.diag

  same_by : (e : Ending) → r.ending ≡ e → e ≢ endings.ReadingFailed → e ≢ endings.WritingFailed → now.diag.faults ≡ start.diag.faults → AreSame start now
  same_by e is a b d = record { read = r.read (λ x. a (sym is ∙ x)) (λ x. b (sym is ∙ x)); written = r.written (λ x. b (sym is ∙ x)); announced = d }

  -- the status is another one, but for a diagnostic that could not be written
  code_by : (e : Ending) (n : ℕ) → DiagnosticWritten' e → code ≡ n → (n ≡ 5 → ⊥) → command_status e ≡ n
  code_by e n (inl t) z f = sym t.0 ∙ z
  code_by e n (inr t) z f = absurd (f (sym z ∙ t.0))

  announced_by : (e : Ending) (n : ℕ) → DiagnosticWritten' e → code ≡ n → (n ≡ 5 → ⊥) → Appends start.diag.taken now.diag.taken (command_diagnostic e) × (now.diag.faults ≡ start.diag.faults)
  announced_by e n (inl t) z f = (t.1, t.2)
  announced_by e n (inr t) z f = absurd (f (sym z ∙ t.0))

  abbrev Is : Ending → Type 0
  Is e = (r.ending ≡ e) × By e × DiagnosticWritten' e

  -- the ending of this status
  ending_is : (e : Ending) (n : ℕ) → (n ≡ 5 → ⊥) → ((x : Ending) → command_status x ≡ n → x ≡ e) → code ≡ n → Is e
  ending_is e n f only z = let same = only r.ending (code_by r.ending n r.announces z f) in (same, subst By same r.ends, subst DiagnosticWritten' same r.announces)

  done_of : code ≡ 0 → WroteAll means s0 start now × AreSame start now
  done_of z = let i = ending_is endings.Done 0 (λ a. cc) is_done z in (i.1, same_by endings.Done i.0 (λ a. cc) (λ a. cc) (announced_by endings.Done 0 i.2 z (λ a. cc)).1)

  reported : (e : Ending) (n : ℕ) → IsOfLine e → WroteTo means s0 e start now → DiagnosticWritten' e → code ≡ n → (n ≡ 5 → ⊥) → LineReported means s0 start now n
  reported e n i w t z f = record { ending = e; of_line = i; code_is = sym (code_by e n t z f); wrote = w; announced = (announced_by e n t z f).0 }

  line_of : (e : Ending) (n : ℕ) → (n ≡ 0 → ⊥) → (n ≡ 3 → ⊥) → (n ≡ 4 → ⊥) → (n ≡ 5 → ⊥) → (n ≡ 6 → ⊥) → By e → DiagnosticWritten' e → code ≡ n → LineReported means s0 start now n
  line_of endings.Done n a b c f d x t z = absurd (a (sym (code_by endings.Done n t z f)))
  line_of endings.Usage n a b c f d x t z = absurd x
  line_of (endings.NoPosition k) n a b c f d x t z = absurd x
  line_of endings.NoMemory n a b c f d x t z = absurd (b (sym (code_by endings.NoMemory n t z f)))
  line_of endings.ReadingFailed n a b c f d x t z = absurd (c (sym (code_by endings.ReadingFailed n t z f)))
  line_of endings.WritingFailed n a b c f d x t z = absurd (f (sym (code_by endings.WritingFailed n t z f)))
  line_of endings.TooLong n a b c f d x t z = absurd (d (sym (code_by endings.TooLong n t z f)))
  line_of e n a b c f d x t z = reported e n tt x t z f

  -- why the status is 5
  broke_by : (e : Ending) → r.ending ≡ e → DiagnosticWritten' e → code ≡ 5 → WritingBroke start now
  broke_by e is (inr t) z = inr t.1
  broke_by e is (inl t) z = inl (r.writing (is ∙ is_writing e (sym t.0 ∙ z)))

  abbrev Part : Type 0
  Part = U ⊎ WrotePrefix means s0 start now ⊎ WroteLast means s0 start now

  -- only the diagnostic of another ending could not be written
  unannounced : (e : Ending) → DiagnosticWritten' e → code ≡ 5 → (command_status e ≡ 5 → ⊥) → Rose start.diag.faults now.diag.faults
  unannounced e (inl t) z f = absurd (f (sym t.0 ∙ z))
  unannounced e (inr t) z f = t.1

  last_of : (e : Ending) → r.ending ≡ e → DiagnosticWritten' e → code ≡ 5 → (command_status e ≡ 5 → ⊥) → (lines : List Piece) (read : AreRead start now lines) (got : List ℕ) → read.got ≡ got → EndsRightly start now got lines e → (text : List ℕ) → means.says s0 lines e text
      → Appends start.output.taken now.output.taken text → Part
  last_of e is t z f lines read got same reason text says written = inr (inr (record {
    ending = e;
    lines = lines;
    read = read;
    reason = subst (λ (bytes : List ℕ). EndsRightly start now bytes lines e) (sym same) reason;
    text = text;
    says = says;
    written = written;
    no_failure = r.written (λ x. f (ap command_status (sym is ∙ x)));
    failure = unannounced e t z f;
  }))

  -- reading did not fail
  steady_input : (e : Ending) → r.ending ≡ e → e ≢ endings.ReadingFailed → (command_status e ≡ 5 → ⊥) → now.input.faults ≡ start.input.faults
  steady_input e is n f = r.read (λ x. n (sym is ∙ x)) (λ x. f (ap command_status (sym is ∙ x)))

  to_last : (e : Ending) → r.ending ≡ e → DiagnosticWritten' e → code ≡ 5 → (command_status e ≡ 5 → ⊥) → (w : WroteTo means s0 e start now) → EndsRightly start now w.read.got w.lines e → Part
  to_last e is t z f w reason = last_of e is t z f w.lines w.read w.read.got refl reason w.text w.says w.written

  whole_last : (e : Ending) → r.ending ≡ e → DiagnosticWritten' e → code ≡ 5 → (command_status e ≡ 5 → ⊥) → (least : ℕ) (w : WroteWhole means s0 e least start now) → EndsRightly start now w.got (whole 131072 w.got) e → Part
  whole_last e is t z f least w reason = last_of e is t z f (whole 131072 w.got) (whole_lines_read start now w.got w.reads) w.got (whole_lines_got start now w.got w.reads) reason w.text w.says w.written

  part_of : (e : Ending) → r.ending ≡ e → By e → DiagnosticWritten' e → code ≡ 5 → Part
  part_of endings.NoMemory is x t z = inl x
  part_of endings.WritingFailed is x t z = inr (inl x)
  part_of endings.Done is x t z =
      last_of endings.Done is t z (λ f. cc) (items 131072 x.got) (items_read start now x.got x.reads x.all) x.got (items_got start now x.got x.reads x.all) (record { last = (x.all, refl); count = steady_input endings.Done is (λ n. cc) (λ f. cc) }) x.text x.says x.written
  part_of endings.Usage is x t z = absurd x
  part_of (endings.NoPosition f) is x t z = absurd x
  part_of endings.ReadingFailed is x t z = whole_last endings.ReadingFailed is t z (λ f. cc) 0 x (record { last = refl; count = r.reading is })
  part_of endings.TooLong is x t z = whole_last endings.TooLong is t z (λ f. cc) 4294967296 x (record { last = (refl, x.least_is); count = steady_input endings.TooLong is (λ n. cc) (λ f. cc) })
  part_of (endings.Differs k) is x t z = to_last (endings.Differs k) is t z (λ f. cc) x (record { last = tt; count = steady_input (endings.Differs k) is (λ n. cc) (λ f. cc) })
  part_of (endings.Unlawful k) is x t z = to_last (endings.Unlawful k) is t z (λ f. cc) x (record { last = tt; count = steady_input (endings.Unlawful k) is (λ n. cc) (λ f. cc) })
  part_of (endings.NoMark k) is x t z = to_last (endings.NoMark k) is t z (λ f. cc) x (record { last = tt; count = steady_input (endings.NoMark k) is (λ n. cc) (λ f. cc) })
  part_of (endings.OutOfStep k) is x t z = to_last (endings.OutOfStep k) is t z (λ f. cc) x (record { last = tt; count = steady_input (endings.OutOfStep k) is (λ n. cc) (λ f. cc) })
  part_of (endings.MayNotCome k) is x t z = to_last (endings.MayNotCome k) is t z (λ f. cc) x (record { last = tt; count = steady_input (endings.MayNotCome k) is (λ n. cc) (λ f. cc) })

  abbrev Completed : Type 0
  Completed = ((code ≡ 0) × WroteAll means s0 start now) ⊎ LineReported means s0 start now code ⊎ (code ≡ 3)

  steady_announced : (e : Ending) → DiagnosticWritten' e → HasNoFault start now → (code ≡ command_status e) × Appends start.diag.taken now.diag.taken (command_diagnostic e)
  steady_announced e (inl t) s = (t.0, t.1)
  steady_announced e (inr t) s = absurd (s.announced t.1)

  line_complete : (e : Ending) → IsOfLine e → WroteTo means s0 e start now → DiagnosticWritten' e → HasNoFault start now → Completed
  line_complete e i w t s = let p = steady_announced e t s in inr (inl (record { ending = e; of_line = i; code_is = p.0; wrote = w; announced = p.1 }))

  complete_of : (e : Ending) → r.ending ≡ e → By e → DiagnosticWritten' e → (x : List ℕ) → start.input.left ≡ Some x → length x < 2 ^ 32 → HasNoFault start now → Completed
  complete_of endings.Done is b t x e l s = inl ((steady_announced endings.Done t s).0, b)
  complete_of endings.Usage is b t x e l s = absurd b
  complete_of (endings.NoPosition f) is b t x e l s = absurd b
  complete_of endings.NoMemory is b t x e l s = inr (inr (steady_announced endings.NoMemory t s).0)
  complete_of endings.ReadingFailed is b t x e l s = absurd (s.read (r.reading is))
  complete_of endings.WritingFailed is b t x e l s = absurd (s.written (r.writing is))
  complete_of endings.TooLong is b t x e l s = let few = few_got start.input.left now.input.left b.got x b.reads.left e in let many = b.least_is in absurd (let z : ⊥ = omega (arith, few, many, l) in z)
  complete_of y is b t x e l s = line_complete y tt b t s

  pub outcome : Outcome means s0 U start now code
  outcome = record {
    done = done_of;
    found = λ z. line_of r.ending 1 (λ a. cc) (λ a. cc) (λ a. cc) (λ a. cc) (λ a. cc) r.ends r.announces z;
    fault = λ z. line_of r.ending 2 (λ a. cc) (λ a. cc) (λ a. cc) (λ a. cc) (λ a. cc) r.ends r.announces z;
    memory = λ z. (ending_is endings.NoMemory 3 (λ a. cc) is_memory z).1;
    reading = λ z. let i = ending_is endings.ReadingFailed 4 (λ a. cc) is_reading z in (r.reading i.0, i.1);
    writing = λ z. (broke_by r.ending refl r.announces z, part_of r.ending refl r.ends r.announces z);
    too_long = λ z. (ending_is endings.TooLong 6 (λ a. cc) is_long z).1;
    complete = λ x e l s. complete_of r.ending refl r.ends r.announces x e l s;
  }

-- a run for which there was no memory
pub memory_ran : {S : Type 0} (means : Putting S) (s0 : S) (U : Type 0) (start now : FilterStreams) (code : ℕ) → U → now.input ≡ start.input → now.output ≡ start.output
    → DiagnosticWritten code 3 (tail_of endings.NoMemory) start.diag now.diag → FilterRan (λ e. FilterEndsBy means s0 U e start now) start now code
memory_ran means s0 U start now code u i o t = record {
  ending = endings.NoMemory;
  ends = u;
  announces = t;
  reading = λ z. cc;
  writing = λ z. cc;
  read = λ a b. ap (λ (x : Supplied). x.faults) i;
  written = λ a. ap (λ (x : Received). x.faults) o;
}
