-- The meaning of counts of faults, step by step.
use Rattle.std.proofs.Common.{◌≡◌, ◌∙◌, ℕ, zero, suc, ◌+◌, ◌<◌, List, [], ◌∷◌, ◌++◌, drop, length, Bool, true, false, refl, sym, ap, subst, ◌||◌, arith, Result, Ok, Err}
use Rattle.std.specs.Result.{is_err}
use Rattle.line_io.specs.Causes.{Rose, ErrorIsCounted}
use Rattle.line_io.specs.Source.{Supplied, Received}
use Rattle.event_pipe.specs.Counts.{CountsFault}
use Rattle.child_engine.specs.Hosts.{RisesBy}
use Rattle.reviver_runner.specs.declared.life.LifeRun.{LifeRun}
use Rattle.reviver_runner.specs.declared.lives.LivesTally.{LivesTally}
use Rattle.reviver_runner.specs.Closing.{run_source_faults, run_sink_faults}
use Rattle.reviver_runner.specs.Lives.{AreTallied}

-- of two parts
pub reports_sum : (a b : ℕ) (x y : Bool) → CountsFault 0 a x → CountsFault 0 b y → CountsFault 0 (a + b) (x || y)
reports_sum a b true y t u = let r = t.rose refl in record { later = omega arith; rose = λ _. omega (arith, r); same = λ f. cc }
reports_sum a b false true t u = let r = u.rose refl in record { later = omega arith; rose = λ _. omega (arith, r); same = λ f. cc }
reports_sum a b false false t u = let p = t.same refl in let q = u.same refl in record { later = omega arith; rose = λ f. cc; same = λ _. omega (arith, p, q) }

pub rises_none : (a : ℕ) → RisesBy 0 a a
rises_none a = record { later = omega arith; same = λ _. refl; rose = λ h. absurd (omega (arith, h)) }

rises_rose : (p q a b c : ℕ) → RisesBy p a b → RisesBy q b c → 0 < p + q → Rose a c
rises_rose zero q a b c x y h =
    let same = x.same refl in
    let up = y.rose (omega (arith, h)) in
    omega (arith, same, up)
rises_rose (suc p) q a b c x y h =
    let up = x.rose (omega arith) in
    let later = y.later in
    omega (arith, up, later)

pub rises_both : (p q a b c : ℕ) → RisesBy p a b → RisesBy q b c → RisesBy (p + q) a c
rises_both p q a b c x y =
    let one = x.later in
    let two = y.later in
    record {
      later = omega (arith, one, two);
      same = λ h. y.same (omega (arith, h)) ∙ x.same (omega (arith, h));
      rose = λ h. rises_rose p q a b c x y h;
    }

-- waiting failed before, or fails now
pub cause_more : {T E : Type 0} (a b c : ℕ) (x y : Bool) (r : Result T E) → CountsFault a b x → ErrorIsCounted b c r → y ≡ (x || is_err r) → CountsFault a c y
cause_more a b c true y r t h e =
    let up = t.rose refl in
    let later = h.later in
    record { later = omega (arith, t.later, later); rose = λ _. omega (arith, up, later); same = λ f. let z : true ≡ false = sym e ∙ f in cc }
cause_more a b c false y (Ok v) t h e =
    let one = t.same refl in
    let two = h.same in
    record { later = omega (arith, one, two); rose = λ f. let z : false ≡ true = sym e ∙ f in cc; same = λ _. two ∙ one }
cause_more a b c false y (Err v) t h e =
    let one = t.same refl in
    let up = h.failed in
    record { later = omega (arith, one, h.later); rose = λ _. omega (arith, one, up); same = λ f. let z : true ≡ false = sym e ∙ f in cc }

-- ONE MORE RUN

reads_last : {S K : Type 0} (source : S → Supplied) (runs : List (LifeRun S K)) (run : LifeRun S K) → run_source_faults source (runs ++ run ∷ []) ≡ run_source_faults source runs + (source run.source).faults
reads_last source [] run = omega arith
reads_last source (x ∷ runs) run = let more = reads_last source runs run in omega (arith, more)

writes_last : {S K : Type 0} (sink : K → Received) (runs : List (LifeRun S K)) (run : LifeRun S K) → run_sink_faults sink (runs ++ run ∷ []) ≡ run_sink_faults sink runs + (sink run.sink).faults
writes_last sink [] run = omega arith
writes_last sink (x ∷ runs) run = let more = writes_last sink runs run in omega (arith, more)

pub tallied_more : {S K : Type 0} (source : S → Supplied) (sink : K → Received) (runs runs' : List (LifeRun S K)) (run : LifeRun S K) (tally tally' : LivesTally) (read write : Bool)
    → runs' ≡ runs ++ run ∷ [] → CountsFault 0 (source run.source).faults read → CountsFault 0 (sink run.sink).faults write
    → tally'.engine_read ≡ (tally.engine_read || read) → tally'.engine_write ≡ (tally.engine_write || write)
    → AreTallied source sink runs tally → AreTallied source sink runs' tally'
tallied_more source sink runs runs' run tally tally' read write e r w er ew t =
    let rs : run_source_faults source runs' ≡ run_source_faults source runs + (source run.source).faults = ap (λ (x : List (LifeRun _ _)). run_source_faults source x) e ∙ reads_last source runs run in
    let ws : run_sink_faults sink runs' ≡ run_sink_faults sink runs + (sink run.sink).faults = ap (λ (x : List (LifeRun _ _)). run_sink_faults sink x) e ∙ writes_last sink runs run in
    record {
      reads = subst (λ b. CountsFault 0 (run_source_faults source runs') b) (sym er) (subst (λ n. CountsFault 0 n (tally.engine_read || read)) (sym rs) (reports_sum _ _ _ _ t.reads r));
      writes = subst (λ b. CountsFault 0 (run_sink_faults sink runs') b) (sym ew) (subst (λ n. CountsFault 0 n (tally.engine_write || write)) (sym ws) (reports_sum _ _ _ _ t.writes w));
    }

-- a list that is what is left of it without its first
pub none_left : {T : Type 0} (xs : List T) → xs ≡ drop 1 xs → xs ≡ []
none_left [] e = refl
none_left (x ∷ xs) e = let n = ap (λ (l : List _). length l) e in absurd (omega (arith, n))
