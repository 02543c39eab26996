-- Closing runs, one after the other.
use Rattle.std.proofs.Common.{◌≡◌, ◌∙◌, ℕ, ◌+◌, List, [], ◌∷◌, ◌++◌, length, refl, sym, ap, arith, append_assoc, append-nil}
use Rattle.line_io.specs.Source.{Supplied, Received}
use Rattle.child_engine.specs.Hosts.{Ledger, ShownRun, shown_run, with_closed_run}
use Rattle.reviver_runner.specs.declared.life.LifeRun.{LifeRun}
use Rattle.reviver_runner.specs.Closing.{HasClosed, shown_runs}

length_last : {T : Type 0} (xs : List T) (x : T) → length (xs ++ x ∷ []) ≡ length xs + 1
length_last [] x = refl
length_last (y ∷ xs) x = let more = length_last xs x in omega (arith, more)

pub closed_count : {T : Type 0} (b b' : Ledger) (source : Supplied) (sink : Received) (x : T) (xs ys : List T) → b' ≡ with_closed_run b source sink → xs ≡ x ∷ ys
    → length b.runs + length xs ≡ b.runs_out → length b'.runs + length ys ≡ b'.runs_out
closed_count b b' source sink x xs ys e h c =
    let runs : length b'.runs ≡ length b.runs + 1 = ap (λ (y : Ledger). length y.runs) e ∙ length_last b.runs (shown_run source sink) in
    let out : b'.runs_out ≡ b.runs_out = ap (λ (y : Ledger). y.runs_out) e in
    let more : length xs ≡ length ys + 1 = ap (λ (l : List _). length l) h ∙ omega arith in
    omega (arith, runs, out, more, c)

-- the host's answer for the next one
pub closed_reported : {S K : Type 0} (source : S → Supplied) (sink : K → Received) (b b' : Ledger) (xs ys : List (LifeRun S K)) (x : LifeRun S K)
    → b' ≡ with_closed_run b (source x.source) (sink x.sink) → xs ≡ x ∷ ys → b'.runs ++ shown_runs source sink ys ≡ b.runs ++ shown_runs source sink xs
closed_reported source sink b b' xs ys x e h =
    ap (λ (y : Ledger). y.runs ++ shown_runs source sink ys) e
    ∙ append_assoc b.runs (shown_run (source x.source) (sink x.sink) ∷ []) (shown_runs source sink ys)
    ∙ ap (λ (l : List (LifeRun _ _)). b.runs ++ shown_runs source sink l) (sym h)

pub none_reported : {S K : Type 0} (source : S → Supplied) (sink : K → Received) (reported reported' : List ShownRun) (xs : List (LifeRun S K)) → xs ≡ [] → reported ++ shown_runs source sink xs ≡ reported' → reported ≡ reported'
none_reported source sink reported reported' xs e h = sym (append-nil reported) ∙ ap (λ (l : List (LifeRun _ _)). reported ++ shown_runs source sink l) (sym e) ∙ h

pub all_closed : {T : Type 0} (m n : ℕ) (xs : List T) → xs ≡ [] → m + length xs ≡ n → m ≡ n
all_closed m n xs e h = let none = ap (λ (l : List _). length l) e in omega (arith, none, h)

-- each run has what it is waited for by
pub fewer_processes : {A B : Type 0} (xs xs' : List A) (ys ys' : List B) (x : A) (y : B) → length xs ≡ length ys → xs ≡ x ∷ xs' → ys ≡ y ∷ ys' → length xs' ≡ length ys'
fewer_processes xs xs' ys ys' x y e f g =
    let a = ap (λ (l : List _). length l) f in
    let b = ap (λ (l : List _). length l) g in
    omega (arith, e, a, b)

pub no_process : {A B : Type 0} (xs : List A) (ys ys' : List B) (y : B) → xs ≡ [] → length xs ≡ length ys → ys ≡ y ∷ ys' → ⊥
no_process xs ys ys' y e f g =
    let a = ap (λ (l : List _). length l) e in
    let b = ap (λ (l : List _). length l) g in
    absurd (omega (arith, a, b, f))

-- the log was not closed yet
pub log_still : (b b' : Ledger) (reported : List ShownRun) (count : ℕ) → HasClosed b b' reported → length b.logs + count ≡ b.logs_out → length b'.logs + count ≡ b'.logs_out
log_still b b' reported count x e =
    let logs = ap (λ (l : List _). length l) x.logs in
    let out = x.logs_out in
    omega (arith, logs, out, e)
