-- The number that a value spells.
use Rattle.std.proofs.Common.{◌≡◌, ◌∙◌, refl, ℕ, Option, Some, None, subst, ap}
use Rattle.std.specs.Str.Parse.{ParsesUnsigned, ExplainsUnsignedError, HasUnsignedDigitsIfOk}
use Rattle.clap.specs.Words.{Text, ReadsOne}
use Rattle.bridge_command_line.specs.Values.{AsksNumber, setting_within}

number_read : (least most usual : ℕ) (o : Option Text) (read : Option ℕ) (n : ℕ) → (o ≡ None → read ≡ None)
    → ((t : Text) → o ≡ Some t → ReadsOne (λ t r. ParsesUnsigned 32 10 t r × ExplainsUnsignedError 10 t r × HasUnsignedDigitsIfOk t r) t read)
    → n ≡ setting_within least most usual read → AsksNumber least most usual o n
number_read least most usual None read n none reads number = number ∙ ap (setting_within least most usual) (none refl)
number_read least most usual (Some t) read n none reads number = record { read = read; reads = reads t refl; number = number }

pub number_of : (least most usual : ℕ) (o o' : Option Text) (read : Option ℕ) (n : ℕ) → o ≡ o' → (o ≡ None → read ≡ None)
    → ((t : Text) → o ≡ Some t → ReadsOne (λ t r. ParsesUnsigned 32 10 t r × ExplainsUnsignedError 10 t r × HasUnsignedDigitsIfOk t r) t read)
    → n ≡ setting_within least most usual read → AsksNumber least most usual o' n
number_of least most usual o o' read n same none reads number =
    subst (λ (x : Option Text). AsksNumber least most usual x n) same (number_read least most usual o read n none reads number)
