-- The meaning of each status.
use Rattle.std.proofs.Common.{◌≡◌, ◌∙◌, ◌⊎◌, ℕ, List, Bool, true, false, if◌then◌else◌, nat_eq, refl, sym, ap, subst, inl, inr, Result, Err}
use Rattle.program_lifecycle.specs.declared.failures.Failures.{Failures}
use Rattle.program_lifecycle.specs.declared.ending.ProgramEnding.{ProgramEnding}
use Rattle.program_lifecycle.specs.declared.ending.ProgramEnding.TheVariants as endings
use Rattle.program_lifecycle.specs.Early.{no_failure}
use Rattle.program_lifecycle.specs.Endings.{first_failure, ending_for, program_status, program_diagnostic}
use Rattle.program_lifecycle.specs.Outside.{Outside, AreReported, HaveNotRisen, AreAsBefore}
use Rattle.line_io.specs.Source.{Received}
use Rattle.program_lifecycle.specs.Program.{DoesNothing, RunEnds, ProgramEnds, IsReportedTo, StatusIsReported, StatusSays}
use Rattle.program_command_line.specs.declared.arguments.refusal.ArgumentsRefusal.{ArgumentsRefusal}
use Rattle.program_command_line.specs.declared.arguments.refusal.ArgumentsRefusal.TheVariants as refusals

abbrev failures : Bool → Bool → Bool → Bool → Bool → Bool → Bool → Bool → Failures
failures a b c d e f g h =
    record { memory = a; iface_read = b; iface_write = c; engine_read = d; engine_write = e; engine_start = f; log = g; engine_wait = h }

-- the ending of a status
abbrev ending_with : ℕ → ProgramEnding
ending_with n =
    (if nat_eq n 0 then endings.Done
    else (if nat_eq n 2 then endings.Usage
    else (if nat_eq n 3 then endings.NoMemory
    else (if nat_eq n 4 then endings.ReadingFailed
    else (if nat_eq n 5 then endings.WritingFailed
    else (if nat_eq n 6 then endings.EngineReadingFailed
    else (if nat_eq n 7 then endings.EngineWritingFailed
    else (if nat_eq n 8 then endings.EngineStartFailed
    else (if nat_eq n 9 then endings.LogFailed
    else endings.EngineWaitFailed)))))))))

with_code : (e : ProgramEnding) → ending_with (program_status e) ≡ e
with_code endings.Done = refl
with_code endings.Usage = refl
with_code endings.NoMemory = refl
with_code endings.ReadingFailed = refl
with_code endings.WritingFailed = refl
with_code endings.EngineReadingFailed = refl
with_code endings.EngineWritingFailed = refl
with_code endings.EngineStartFailed = refl
with_code endings.LogFailed = refl
with_code endings.EngineWaitFailed = refl

coded : (e : ProgramEnding) (n : ℕ) → program_status e ≡ n → e ≡ ending_with n
coded e n z = sym (with_code e) ∙ ap ending_with z

-- true if the failure that an ending names is there
abbrev is_there : ProgramEnding → Failures → Bool
is_there endings.Done f = true
is_there endings.Usage f = false
is_there endings.NoMemory f = f.memory
is_there endings.ReadingFailed f = f.iface_read
is_there endings.WritingFailed f = f.iface_write
is_there endings.EngineReadingFailed f = f.engine_read
is_there endings.EngineWritingFailed f = f.engine_write
is_there endings.EngineStartFailed f = f.engine_start
is_there endings.LogFailed f = f.log
is_there endings.EngineWaitFailed f = f.engine_wait

first_is_there : (a b c d e f g h : Bool) → is_there (first_failure (failures a b c d e f g h)) (failures a b c d e f g h) ≡ true
first_is_there true b c d e f g h = refl
first_is_there false true c d e f g h = refl
first_is_there false false true d e f g h = refl
first_is_there false false false true e f g h = refl
first_is_there false false false false true f g h = refl
first_is_there false false false false false true g h = refl
first_is_there false false false false false false true h = refl
first_is_there false false false false false false false true = refl
first_is_there false false false false false false false false = refl

flag : (f : Failures) (e x : ProgramEnding) → e ≡ first_failure f → e ≡ x → is_there x f ≡ true
flag f e x first z =
    subst (λ y. is_there y f ≡ true) (sym first ∙ z) (first_is_there f.memory f.iface_read f.iface_write f.engine_read f.engine_write f.engine_start f.log f.engine_wait)

as_before : (before after : Outside) (a b c d e f g h : Bool) → AreReported before after (failures a b c d e f g h) → first_failure (failures a b c d e f g h) ≡ endings.Done
    → AreAsBefore before after
as_before before after true b c d e f g h t z = cc
as_before before after false true c d e f g h t z = cc
as_before before after false false true d e f g h t z = cc
as_before before after false false false true e f g h t z = cc
as_before before after false false false false true f g h t z = cc
as_before before after false false false false false true g h t z = cc
as_before before after false false false false false false true h t z = cc
as_before before after false false false false false false false true t z = cc
as_before before after false false false false false false false false t z =
    record {
      input = t.iface_read.same refl;
      output = t.iface_write.same refl;
      reads = t.engine_read.same refl;
      writes = t.engine_write.same refl;
      starts = t.engine_start.same refl;
      logs = t.log.same refl;
      waits = t.engine_wait.same refl;
    }

quiet : (before after : Outside) (a b c d e f g h : Bool) → AreReported before after (failures a b c d e f g h) → HaveNotRisen before after
    → (program_status (first_failure (failures a b c d e f g h)) ≡ 0) ⊎ (program_status (first_failure (failures a b c d e f g h)) ≡ 3)
quiet before after true b c d e f g h t n = inr refl
quiet before after false true c d e f g h t n = absurd (n.input (t.iface_read.rose refl))
quiet before after false false true d e f g h t n = absurd (n.output (t.iface_write.rose refl))
quiet before after false false false true e f g h t n = absurd (n.reads (t.engine_read.rose refl))
quiet before after false false false false true f g h t n = absurd (n.writes (t.engine_write.rose refl))
quiet before after false false false false false true g h t n = absurd (n.starts (t.engine_start.rose refl))
quiet before after false false false false false false true h t n = absurd (n.logs (t.log.rose refl))
quiet before after false false false false false false false true t n = absurd (n.waits (t.engine_wait.rose refl))
quiet before after false false false false false false false false t n = inl refl

none_failed : (a b c d e f g h : Bool) → first_failure (failures a b c d e f g h) ≡ endings.Done → failures a b c d e f g h ≡ no_failure
none_failed true b c d e f g h z = cc
none_failed false true c d e f g h z = cc
none_failed false false true d e f g h z = cc
none_failed false false false true e f g h z = cc
none_failed false false false false true f g h z = cc
none_failed false false false false false true g h z = cc
none_failed false false false false false false true h z = cc
none_failed false false false false false false false true z = cc
none_failed false false false false false false false false z = refl

-- no failure is that of the words
never_usage : (a b c d e f g h : Bool) → first_failure (failures a b c d e f g h) ≡ endings.Usage → ⊥
never_usage true b c d e f g h z = cc
never_usage false true c d e f g h z = cc
never_usage false false true d e f g h z = cc
never_usage false false false true e f g h z = cc
never_usage false false false false true f g h z = cc
never_usage false false false false false true g h z = cc
never_usage false false false false false false true h z = cc
never_usage false false false false false false false true z = cc
never_usage false false false false false false false false z = cc

-- the arguments were refused, and nothing was done
pub refused : {T : Type 0} (Taken : Type 0) (Left : Failures → Type 0) (before : Outside) (r : ArgumentsRefusal) (ending : ProgramEnding) → ending ≡ ending_for r
    → (◌≡◌ {A = Result T ArgumentsRefusal} (Err r) (Err refusals.Usage) → Taken → ⊥) → ProgramEnds Taken Left before before ending
refused Taken Left before refusals.Usage ending e not =
    record { usage = λ u t. not refl t; refused = λ n. inl e; did = inl (record { same = refl; why = inl e }) }
refused Taken Left before refusals.NoMemory ending e not =
    record { usage = λ u t. let z : endings.NoMemory ≡ endings.Usage = sym e ∙ u in cc; refused = λ n. inr e; did = inl (record { same = refl; why = inr e }) }

module _ (Taken : Type 0) (Left : Failures → Type 0) (before after : Outside) (ending : ProgramEnding) where
  -- a run was made, of words that were taken
  pub ran : Taken → RunEnds Left before after ending → ProgramEnds Taken Left before after ending
  ran taken run =
      let f = run.failures in
      record {
        usage = λ u t. never_usage f.memory f.iface_read f.iface_write f.engine_read f.engine_write f.engine_start f.log f.engine_wait (sym run.first ∙ u);
        refused = λ not. absurd (not taken);
        did = inr run;
      }

  -- the facts of a run, and of both ways to do nothing
  nothing_as : {P : Type 0} → ((ending ≡ endings.Usage) ⊎ (ending ≡ endings.NoMemory)) → (ending ≡ endings.Usage → P) → (ending ≡ endings.NoMemory → P) → P
  nothing_as (inl z) u m = u z
  nothing_as (inr z) u m = m z

  either : {P : Type 0} → (DoesNothing before after ending ⊎ RunEnds Left before after ending) → (ending ≡ endings.Usage → P) → (ending ≡ endings.NoMemory → P)
      → (RunEnds Left before after ending → P) → P
  either (inl nothing) u m r = nothing_as nothing.why u m
  either (inr run) u m r = r run

  -- an ending that is a failure, and no refusal
  failed : {P : Type 0} (x : ProgramEnding) → ((endings.Usage ≡ x) → ⊥) → ((endings.NoMemory ≡ x) → ⊥) → ProgramEnds Taken Left before after ending → ending ≡ x
      → (RunEnds Left before after ending → P) → P
  failed x nu nm ends e r = either ends.did (λ u. absurd (nu (sym u ∙ e))) (λ m. absurd (nm (sym m ∙ e))) r

  there : (x : ProgramEnding) (run : RunEnds Left before after ending) → ending ≡ x → is_there x run.failures ≡ true
  there x run e = flag run.failures ending x run.first e

  coded_as : ((ending ≡ endings.Usage) ⊎ (ending ≡ endings.NoMemory)) → (program_status ending ≡ 2) ⊎ (program_status ending ≡ 3)
  coded_as (inl z) = inl (ap program_status z)
  coded_as (inr z) = inr (ap program_status z)

  -- an engine that could not be started
  pub unstarted : {P : Type 0} → ProgramEnds Taken Left before after ending → program_status ending ≡ 8 → ((f : Failures) → Left f → f.engine_start ≡ true → P) → P
  unstarted ends z p =
      let e = coded ending 8 z in
      failed endings.EngineStartFailed (λ u. cc) (λ m. cc) ends e (λ r. p r.failures r.left (there endings.EngineStartFailed r e))

  -- a run in which nothing failed
  pub fine : {P : Type 0} → ProgramEnds Taken Left before after ending → program_status ending ≡ 0 → ((f : Failures) → Left f → f ≡ no_failure → P) → P
  fine ends z p =
      let e = coded ending 0 z in
      failed endings.Done (λ u. cc) (λ m. cc) ends e
      (λ r. let f = r.failures in
      p f r.left (none_failed f.memory f.iface_read f.iface_write f.engine_read f.engine_write f.engine_start f.log f.engine_wait (sym r.first ∙ e)))

  done : ProgramEnds Taken Left before after ending → program_status ending ≡ 0 → AreAsBefore before after
  done ends z =
      let e = coded ending 0 z in
      failed endings.Done (λ u. cc) (λ m. cc) ends e
      (λ r. let f = r.failures in as_before before after f.memory f.iface_read f.iface_write f.engine_read f.engine_write f.engine_start f.log f.engine_wait r.reported (sym r.first ∙ e))

  complete : ProgramEnds Taken Left before after ending → Taken → HaveNotRisen before after → (program_status ending ≡ 0) ⊎ (program_status ending ≡ 3)
  complete ends t n =
      either ends.did (λ u. absurd (ends.usage u t)) (λ m. inr (ap program_status m))
      (λ r. let f = r.failures in
      subst (λ (x : ProgramEnding). (program_status x ≡ 0) ⊎ (program_status x ≡ 3)) (sym r.first)
      (quiet before after f.memory f.iface_read f.iface_write f.engine_read f.engine_write f.engine_start f.log f.engine_wait r.reported n))

  said : ProgramEnds Taken Left before after ending → StatusSays Taken before after (program_status ending)
  said ends =
      record {
        done = done ends;
        usage = λ z. ends.usage (coded ending 2 z);
        refused = λ n. coded_as (ends.refused n);
        reading = λ z. let e = coded ending 4 z in failed endings.ReadingFailed (λ u. cc) (λ m. cc) ends e (λ r. r.reported.iface_read.rose (there endings.ReadingFailed r e));
        writing = λ z. let e = coded ending 5 z in failed endings.WritingFailed (λ u. cc) (λ m. cc) ends e (λ r. r.reported.iface_write.rose (there endings.WritingFailed r e));
        engine_reading = λ z. let e = coded ending 6 z in failed endings.EngineReadingFailed (λ u. cc) (λ m. cc) ends e (λ r. r.reported.engine_read.rose (there endings.EngineReadingFailed r e));
        engine_writing = λ z. let e = coded ending 7 z in failed endings.EngineWritingFailed (λ u. cc) (λ m. cc) ends e (λ r. r.reported.engine_write.rose (there endings.EngineWritingFailed r e));
        engine_start = λ z. let e = coded ending 8 z in failed endings.EngineStartFailed (λ u. cc) (λ m. cc) ends e (λ r. r.reported.engine_start.rose (there endings.EngineStartFailed r e));
        log = λ z. let e = coded ending 9 z in failed endings.LogFailed (λ u. cc) (λ m. cc) ends e (λ r. r.reported.log.rose (there endings.LogFailed r e));
        engine_wait = λ z. let e = coded ending 10 z in failed endings.EngineWaitFailed (λ u. cc) (λ m. cc) ends e (λ r. r.reported.engine_wait.rose (there endings.EngineWaitFailed r e));
        complete = complete ends;
      }

  pub status_says : (code : ℕ) → code ≡ program_status ending → ProgramEnds Taken Left before after ending → StatusSays Taken before after code
  status_says code e ends = subst (λ (k : ℕ). StatusSays Taken before after k) (sym e) (said ends)

  -- a program that ended so, and reported it
  pub answers : (program : List ℕ) (diag diag' : Received) (code : ℕ) → code ≡ program_status ending → IsReportedTo diag diag' (program_diagnostic program ending) → ProgramEnds Taken Left before after ending
      → StatusIsReported program Taken Left before after diag diag' code
  answers program diag diag' code e reported ends = record { ending = ending; ends = ends; code_is = e; diagnosed = reported }
