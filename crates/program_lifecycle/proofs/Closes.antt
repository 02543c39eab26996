-- The reports of a host's ledger on the parts that it closed.
use Rattle.std.proofs.Common.{◌≡◌, ◌∙◌, ◌⊎◌, ℕ, ◌≤◌, Bool, true, false, refl, sym, ap, arith, inl, inr, ◌||◌, List, [], ◌∷◌, ◌++◌, length, Option, Some, None}
use Rattle.std.specs.Prelude.{is_some}
use Rattle.std.proofs.lemmas.Bool.{or_cases, or_parts}
use Rattle.line_io.specs.Source.{Supplied, Received}
use Rattle.child_engine.specs.Hosts.{ShownRun, Ledger, IsStarted, with_closed_run, shown_run}
use Rattle.child_engine.specs.declared.host.HostFault.{HostFault}
use Rattle.child_engine.specs.declared.host.HostFault.TheVariants as faults
use Rattle.program_lifecycle.specs.Streams.{log_state}
use Rattle.program_lifecycle.specs.Logs.{log_count, closed_logs, shown_logs, is_failed, is_no_memory}
use Rattle.program_lifecycle.specs.Outside.{HostIsClosed}
use Rattle.program_lifecycle.specs.declared.failures.Failures.{Failures}

-- the ledger of the same host, with these counts and lists
abbrev pub ledger : Ledger → ℕ → ℕ → List ShownRun → List (Option (List ℕ)) → Ledger
ledger of a b rs ls = record of { runs_out = a; logs_out = b; runs = rs; logs = ls }

-- true if there is a log
pub same_count : {L : Type 0} (l l' : Option L) → is_some l' ≡ is_some l → log_count l' ≡ log_count l
same_count None None e = refl
same_count None (Some x) e = cc
same_count (Some x) None e = cc
same_count (Some x) (Some y) e = refl

pub length_reported : {L : Type 0} (f : L → Received) (l : Option L) → length (shown_logs f l) ≡ log_count l
length_reported f None = refl
length_reported f (Some x) = refl

pub few_logs : {L : Type 0} (l : Option L) → log_count l ≤ 1
few_logs None = omega arith
few_logs (Some x) = omega arith

-- the host's report of a log, by whether there is one
pub reported_as : {L : Type 0} (f : L → Received) (l : Option L) → shown_logs f l ≡ closed_logs (log_count l) (log_state f l)
reported_as f None = refl
reported_as f (Some x) = refl

pub reported_or_none : {L : Type 0} (f : L → Received) (l : Option L) (ls : List (Option (List ℕ))) → ls ≡ shown_logs f l → (ls ≡ (log_state f l).taken ∷ []) ⊎ (ls ≡ [])
reported_or_none f None ls e = inr e
reported_or_none f (Some x) ls e = inl e

-- the ledger at the end
pub all_closed : (b0 b1 b2 b3 : Ledger) (source : Supplied) (sink : Received) (n : ℕ) (ls : List (Option (List ℕ))) → IsStarted b0 → b1 ≡ record b0 { logs_out = n }
    → b2 ≡ with_closed_run b1 source sink → b3 ≡ record b2 { logs = b2.logs ++ ls } → b3 ≡ ledger b0 1 n (shown_run source sink ∷ []) ls
all_closed b0 b1 b2 b3 source sink n ls e0 e1 e2 e3 =
    e3 ∙ ap (λ (b : Ledger). record b { logs = b.logs ++ ls })
    (e2 ∙ ap (λ (b : Ledger). with_closed_run b source sink) (e1 ∙ ap (λ (b : Ledger). record b { logs_out = n }) e0))

fault_none : (o : Option HostFault) → is_failed o ≡ false → is_no_memory o ≡ false → o ≡ None
fault_none None e f = refl
fault_none (Some faults.Failed) e f = cc
fault_none (Some faults.NoMemory) e f = cc

pub left_of : (x a a' b : Bool) → x ≡ (a || b) → a ≡ a' → x ≡ false → a' ≡ false
left_of x a a' b e f z = sym f ∙ (or_parts a b (sym e ∙ z)).0

pub right_of : (x a b : Bool) → x ≡ (a || b) → x ≡ false → b ≡ false
right_of x a b e z = (or_parts a b (sym e ∙ z)).1

which_reader : {P : Type 0} (a a' b b' : Bool) → a ≡ a' → b ≡ b' → (a ≡ true) ⊎ (b ≡ true) → (a' ≡ true) ⊎ ((b' ≡ true) ⊎ P)
which_reader a a' b b' e f (inl z) = inl (sym e ∙ z)
which_reader a a' b b' e f (inr z) = inr (inl (sym f ∙ z))

which : {P : Type 0} (o o' r a a' b b' : Bool) → o ≡ o' → a ≡ a' → b ≡ b' → r ≡ (a || b) → (o' ≡ true → P) → (o ≡ true) ⊎ (r ≡ true) → (a' ≡ true) ⊎ ((b' ≡ true) ⊎ P)
which o o' r a a' b b' u e f z p (inl x) = inr (inr (p (sym u ∙ x)))
which o o' r a a' b b' u e f z p (inr x) = which_reader a a' b b' e f (or_cases a b (sym z ∙ x))

-- a log that was not opened for want of memory, or a reader that had none
pub lacked : {P : Type 0} (m o o' r a a' b b' : Bool) → m ≡ (o || r) → o ≡ o' → r ≡ (a || b) → a ≡ a' → b ≡ b' → (o' ≡ true → P) → m ≡ true
    → (a' ≡ true) ⊎ ((b' ≡ true) ⊎ P)
lacked m o o' r a a' b b' y u z e f p x = which o o' r a a' b b' u e f z p (or_cases o r (sym y ∙ x))

pub log_opened : {L : Type 0} (l : Option L) (o : Option HostFault) → (o ≡ None → log_count l ≡ 1) → is_failed o ≡ false → is_no_memory o ≡ false → log_count l ≡ 1
log_opened l o some e f = some (fault_none o e f)

pub is_closed : (b b0 : Ledger) (reported : ShownRun) (n : ℕ) (ls : List (Option (List ℕ))) (failures : Failures) → b ≡ ledger b0 1 n (reported ∷ []) ls → length ls ≡ n → n ≤ 1
    → (failures.memory ≡ false → failures.log ≡ false → n ≡ 1) → HostIsClosed b failures
is_closed b b0 reported n ls failures e k few one =
    let runs_out = ap (λ (x : Ledger). x.runs_out) e in
    let logs_out = ap (λ (x : Ledger). x.logs_out) e in
    record {
      runs = ap (λ (x : Ledger). length x.runs) e ∙ sym runs_out;
      logs = ap (λ (x : Ledger). length x.logs) e ∙ k ∙ sym logs_out;
      few_runs = omega (arith, runs_out);
      few_logs = omega (arith, logs_out, few);
      run = λ _ _. runs_out;
      log = λ m _ l. logs_out ∙ one m l;
      unlogged = λ none. absurd (omega (arith, runs_out, none));
    }

-- a run was handed out
pub some_run : {P : Type 0} (b b' : Ledger) → b ≡ b' → b'.runs_out ≡ 1 → b.runs_out ≡ 0 → P
some_run b b' e one z = let same = ap (λ (x : Ledger). x.runs_out) e in absurd (omega (arith, same, one, z))

pub never : {P : Type 0} → false ≡ true → P
never e = cc
