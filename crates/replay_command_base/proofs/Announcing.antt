-- The meaning of the status for texts that were written whole or in part.
use Rattle.std.proofs.Common.{◌≡◌, ◌⊎◌, ℕ, List, ⊎_elim, inl, inr, sym, ◌∙◌, subst, arith}
use Rattle.std.specs.Io.KnownBytes.{Appends}
use Rattle.line_io.specs.Causes.{Rose}
use Rattle.line_io.specs.Source.{Received, TakesPrefix}
use Rattle.replay_command_base.specs.declared.ending.Ending.TheVariants as endings
use Rattle.replay_command_base.specs.Diagnostics.{tail_of}
use Rattle.replay_command_base.specs.DiagnosticWritten.{DiagnosticWritten, LinesWritten}

-- A DIAGNOSTIC

module _ (code : ℕ) (diag diag_now : Received) where
  abbrev T : ℕ → List ℕ → Type 0
  T status text = DiagnosticWritten code status text diag diag_now

  pub announced_as : (status : ℕ) (text piece : List ℕ) → text ≡ piece → T status text → T status piece
  announced_as status text piece e t = subst (λ (l : List ℕ). T status l) e t

  pub other_announced : (status : ℕ) (text : List ℕ) → T status text → (n : ℕ) → code ≡ n → ((status ≡ n) × Appends diag.taken diag_now.taken text) ⊎ (n ≡ 5)
  other_announced status text (inl t) n z = inl (sym t.0 ∙ z, t.1)
  other_announced status text (inr t) n z = inr (sym z ∙ t.0)

  pub no_announced : (status : ℕ) (text : List ℕ) (n : ℕ) → (status ≡ n → ⊥) → (n ≡ 5 → ⊥) → T status text → code ≡ n → ⊥
  no_announced status text n s f t z = ⊎_elim (λ p. s p.0) f (other_announced status text t n z)

  pub announced_rose : (status : ℕ) (text : List ℕ) → (status ≡ 5 → ⊥) → T status text → code ≡ 5 → Rose diag.faults diag_now.faults
  announced_rose status text s (inl t) z = absurd (s (sym t.0 ∙ z))
  announced_rose status text s (inr t) z = t.1

  pub announced_out : (status : ℕ) (text : List ℕ) → (Rose diag.faults diag_now.faults → ⊥) → T status text → (code ≡ status) × Appends diag.taken diag_now.taken text
  announced_out status text d (inl t) = (t.0, t.1)
  announced_out status text d (inr t) = absurd (d t.1)

-- LINES OF THE OUTPUT

module _ (silent : Type 0) (code : ℕ) (output output_now diag diag_now : Received) where
  abbrev W : List ℕ → Type 0
  W lines = LinesWritten lines silent code output output_now diag diag_now

  pub writes_as : (lines piece : List ℕ) → lines ≡ piece → W lines → W piece
  writes_as lines piece e w = subst W e w

  written : (lines : List ℕ) → W lines → (n : ℕ) → code ≡ n → (n ≡ 0) ⊎ (n ≡ 5)
  written lines (inl w) n z = inl (sym z ∙ w.0)
  written lines (inr (r, part, inl t)) n z = inr (sym z ∙ t.0)
  written lines (inr (r, part, inr t)) n z = inr (sym z ∙ t.0)

  pub no_written : (lines : List ℕ) (n : ℕ) → (n ≡ 0 → ⊥) → (n ≡ 5 → ⊥) → W lines → code ≡ n → ⊥
  no_written lines n s f w z = ⊎_elim s f (written lines w n z)

  pub written_zero : (lines : List ℕ) → W lines → code ≡ 0 → silent × Appends output.taken output_now.taken lines × (output_now.faults ≡ output.faults)
  written_zero lines (inl w) z = (w.1, w.2, w.3)
  written_zero lines (inr w) z = absurd (five w.2 z) where
    five : DiagnosticWritten code 5 (tail_of endings.WritingFailed) diag diag_now → code ≡ 0 → ⊥
    five (inl t) z = let e = t.0 in omega (arith, e, z)
    five (inr t) z = let e = t.0 in omega (arith, e, z)

  pub cut : (lines : List ℕ) → W lines → code ≡ 5 → Rose output.faults output_now.faults × TakesPrefix output.taken output_now.taken lines
  cut lines (inl w) z = let e = sym z ∙ w.0 in cc
  cut lines (inr w) z = (w.0, w.1)

  pub written_out : (lines : List ℕ) → (Rose output.faults output_now.faults → ⊥) → W lines → code ≡ 0
  written_out lines d (inl w) = w.0
  written_out lines d (inr w) = absurd (d w.0)
