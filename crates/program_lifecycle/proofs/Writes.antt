-- The meaning for an offer of a write that succeeded or failed.
use Rattle.std.proofs.Common.{◌≡◌, ◌≢◌, ℕ, ◌<◌, List, [], length, take, drop, Bool, true, false, Option, Result, Ok, Err, OnOk, OnErr, refl, sym, subst, arith}
use Rattle.std.specs.Result.{is_err}
use Rattle.std.specs.Io.KnownBytes.{Appends}
use Rattle.std.proofs.lemmas.List.{take-append-drop}
use Rattle.line_io.specs.Source.{Received, TakesPrefix}
use Rattle.line_io.specs.Causes.{ErrorIsCounted}
use Rattle.event_pipe.specs.Counts.{CountsFault}
use Rattle.program_lifecycle.specs.Streams.{TookPrefix, Offered}

take_some : {A E : Type 0} (failed' : Bool) (old new : Option (List ℕ)) (piece : List ℕ) (r : Result A E) → failed' ≡ is_err r → OnOk r (Appends old new piece) → OnErr r (TakesPrefix old new piece) → OnErr r (0 < length piece)
    → (failed' ≡ false → Appends old new piece) × (failed' ≡ true → (piece ≢ []) × TookPrefix piece old new)
take_some failed' old new piece (Ok v) e ok err some = ((λ _. ok), λ t. cc)
take_some failed' old new piece (Err x) e ok err some = ((λ t. cc), λ _. ((λ n. let z : 0 < 0 = subst (λ (l : List ℕ). 0 < length l) n some in absurd (omega arith)), record { prefix = take err.0 piece; rest = drop err.0 piece; is = sym (take-append-drop err.0 piece); took = err.1 }))

reports_by : {A E : Type 0} (failed' : Bool) (a b : ℕ) (r : Result A E) → failed' ≡ is_err r → ErrorIsCounted a b r → CountsFault a b failed'
reports_by failed' a b (Ok v) e h = record { later = h.later; rose = λ x. cc; same = λ _. h.same }
reports_by failed' a b (Err x) e h = record { later = h.later; rose = λ _. h.failed; same = λ x. cc }

pub offered : {A E : Type 0} (failed failed' : Bool) (old new : Received) (piece : List ℕ) (r : Result A E) → failed ≡ false → failed' ≡ is_err r → OnOk r (Appends old.taken new.taken piece) → OnErr r (TakesPrefix old.taken new.taken piece) → OnErr r (0 < length piece) → ErrorIsCounted old.faults new.faults r
    → Offered failed failed' old new piece
offered failed failed' old new piece r f e ok err some cause =
    let t = take_some failed' old.taken new.taken piece r e ok err some in
    record { stays = λ s. cc; whole = t.0; prefix = λ _. t.1; count = λ _. reports_by failed' old.faults new.faults r e cause }
