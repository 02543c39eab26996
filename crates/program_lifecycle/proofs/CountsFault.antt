-- A diagnostic in two pieces.
use Rattle.std.proofs.Common.{◌≡◌, ◌∙◌, ℕ, ◌+◌, min, true, false, List, ◌++◌, length, take, refl, sym, subst, inl, inr, Result, Ok, Err, OnOk, OnErr}
use Rattle.std.specs.Result.{is_ok}
use Rattle.std.proofs.lemmas.List.{take-append-le, take_min}
use Rattle.std.proofs.Math.Seq.{take-append-add}
use Rattle.std.proofs.Math.Nat.{min-le_right}
use Rattle.std.specs.Io.KnownBytes.{Appends}
use Rattle.std.proofs.KnownBytes.{Appends-trans}
use Rattle.line_io.specs.Causes.{ErrorIsCounted, Rose}
use Rattle.line_io.specs.Source.{Received, TakesPrefix}
use Rattle.program_lifecycle.specs.declared.ending.ProgramEnding.{ProgramEnding}
use Rattle.program_lifecycle.specs.declared.ending.ProgramEnding.TheVariants as endings
use Rattle.program_lifecycle.specs.Endings.{program_diagnostic, ending_text}
use Rattle.program_lifecycle.specs.Program.{IsReportedTo}

-- a prefix of the first piece is one of both
prefix_first : (xs ys : List ℕ) (n : ℕ) → take (min n (length xs)) (xs ++ ys) ≡ take n xs
prefix_first xs ys n = take-append-le (min n (length xs)) xs ys (min-le_right n (length xs)) ∙ take_min n xs

-- the first piece failed
pub reported_prefix : (a b : Received) (xs ys : List ℕ) {T E : Type 0} (r : Result T E) → is_ok r ≡ false → OnErr r (TakesPrefix a.taken b.taken xs) → ErrorIsCounted a.faults b.faults r
    → IsReportedTo a b (xs ++ ys)
reported_prefix a b xs ys (Ok x) wrong err cause = cc
reported_prefix a b xs ys (Err x) wrong err cause =
    inr ((min err.0 (length xs), subst (λ t. Appends a.taken b.taken t) (sym (prefix_first xs ys err.0)) err.1), cause.failed)

behind : (a b c : Received) (xs ys : List ℕ) → Appends a.taken b.taken xs → b.faults ≡ a.faults → {T E : Type 0} (r : Result T E) → OnOk r (Appends b.taken c.taken ys)
    → OnErr r (TakesPrefix b.taken c.taken ys) → ErrorIsCounted b.faults c.faults r → IsReportedTo a c (xs ++ ys)
behind a b c xs ys first same (Ok x) ok err cause = inl (Appends-trans a.taken b.taken c.taken xs ys first ok)
behind a b c xs ys first same (Err x) ok err cause =
    inr (
      (
        length xs + err.0,
        subst (λ t. Appends a.taken c.taken t) (sym (take-append-add xs ys err.0)) (Appends-trans a.taken b.taken c.taken xs (take err.0 ys) first err.1),
      ),
      subst (λ n. Rose n c.faults) same cause.failed,
    )

-- the first piece was written, and the second one was offered
pub reported_both : (a b c : Received) (xs ys : List ℕ) {T E T' E' : Type 0} (r : Result T E) (s : Result T' E') → is_ok r ≡ true → OnOk r (Appends a.taken b.taken xs) → ErrorIsCounted a.faults b.faults r
    → OnOk s (Appends b.taken c.taken ys) → OnErr s (TakesPrefix b.taken c.taken ys) → ErrorIsCounted b.faults c.faults s → IsReportedTo a c (xs ++ ys)
reported_both a b c xs ys (Ok x) s fine ok cause ok' err' cause' = behind a b c xs ys ok cause.same s ok' err' cause'
reported_both a b c xs ys (Err x) s fine ok cause ok' err' cause' = cc

-- an ending that is a failure
pub failing : (program : List ℕ) (e : ProgramEnding) → (e ≡ endings.Done → ⊥) → program_diagnostic program e ≡ program ++ ending_text e
failing program endings.Done other = absurd (other refl)
failing program endings.Usage other = refl
failing program endings.NoMemory other = refl
failing program endings.ReadingFailed other = refl
failing program endings.WritingFailed other = refl
failing program endings.EngineReadingFailed other = refl
failing program endings.EngineWritingFailed other = refl
failing program endings.EngineStartFailed other = refl
failing program endings.LogFailed other = refl
failing program endings.EngineWaitFailed other = refl
