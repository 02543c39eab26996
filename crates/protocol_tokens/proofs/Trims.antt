-- The effect of trimming at the last byte, and that it does nothing a second time.
use Rattle.std.proofs.Common.{◌≡◌, ℕ, ◌+◌, List, [], ◌∷◌, ◌++◌, Bool, true, false, ◌&&◌, cond, length, take, get_or, refl, ◌∙◌, sym, ap, arith}
use Rattle.std.proofs.lemmas.List.{take_more, take_all}
use Rattle.std.proofs.lemmas.List.Folds.{list_all-append}
use Rattle.std.specs.List.{list_all}
use Rattle.std.proofs.lemmas.Bool.{and_parts}
use Rattle.protocol_tokens.specs.Tokens.{is_white, is_blank, trim_left, trim_right, trimmed}

chosen : (a b w : Bool) (x : ℕ) (prefix all : List ℕ) → w ≡ true → cond (a && (b && (w && true))) [] (x ∷ prefix) ≡ cond (a && b) [] (x ∷ prefix)
chosen true true w x prefix all e = rw e refl
chosen true false w x prefix all e = refl
chosen false b w x prefix all e = refl

kept : (a b w : Bool) (none some : List ℕ) → w ≡ false → cond (a && (b && (w && true))) none some ≡ some
kept true true w none some e = rw e refl
kept true false w none some e = refl
kept false b w none some e = refl

pub drops_white : (prefix : List ℕ) (c : ℕ) → is_white c ≡ true → trim_right (prefix ++ (c ∷ [])) ≡ trim_right prefix
drops_white [] c e = rw e refl
drops_white (x ∷ prefix) c e = ap (λ t. cond (is_white x && list_all is_white (prefix ++ (c ∷ []))) [] (x ∷ t)) (drops_white prefix c e) ∙ rw list_all-append (chosen (is_white x) (list_all is_white prefix) (is_white c) x (trim_right prefix) [] e)

pub keeps_black : (prefix : List ℕ) (c : ℕ) → is_white c ≡ false → trim_right (prefix ++ (c ∷ [])) ≡ prefix ++ (c ∷ [])
keeps_black [] c e = rw e refl
keeps_black (x ∷ prefix) c e = ap (λ t. cond (is_white x && list_all is_white (prefix ++ (c ∷ []))) [] (x ∷ t)) (keeps_black prefix c e) ∙ rw list_all-append (kept (is_white x) (list_all is_white prefix) (is_white c) [] (x ∷ (prefix ++ (c ∷ []))) e)

last_apart : (xs : List ℕ) (n : ℕ) → length xs ≡ n + 1 → take n xs ++ (get_or xs n 0 ∷ []) ≡ xs
last_apart xs n e = sym (take_more xs n 0 (omega arith)) ∙ take_all (n + 1) xs (omega arith)

pub last_white : (xs : List ℕ) (n : ℕ) → length xs ≡ n + 1 → is_white (get_or xs n 0) ≡ true → trim_right (take n xs) ≡ trim_right xs
last_white xs n e w = sym (drops_white (take n xs) (get_or xs n 0) w) ∙ ap trim_right (last_apart xs n e)

pub last_black : (xs : List ℕ) (n : ℕ) → length xs ≡ n + 1 → is_white (get_or xs n 0) ≡ false → trim_right xs ≡ xs
last_black xs n e w = sym (ap trim_right (last_apart xs n e)) ∙ keeps_black (take n xs) (get_or xs n 0) w ∙ last_apart xs n e

-- blanks alone are trimmed away, and trimming twice is trimming once
blank_step : (white blank : Bool) (x : ℕ) (xs : List ℕ) → is_white x ≡ white → is_blank xs ≡ blank → is_blank (cond (white && blank) [] (x ∷ xs)) ≡ (white && blank)
blank_step true true x xs e h = refl
blank_step true false x xs e h = rw (e, h) refl
blank_step false blank x xs e h = rw e refl

pub blank_trimmed : (xs : List ℕ) → is_blank (trim_right xs) ≡ is_blank xs
blank_trimmed [] = refl
blank_trimmed (x ∷ xs) = blank_step (is_white x) (is_blank xs) x (trim_right xs) refl (blank_trimmed xs)

again_step : (b : Bool) (x : ℕ) (xs : List ℕ) → is_blank (x ∷ xs) ≡ b → trim_right xs ≡ xs → trim_right (cond b [] (x ∷ xs)) ≡ cond b [] (x ∷ xs)
again_step true x xs e h = refl
again_step false x xs e h = rw (e, h) refl

pub trim_right_again : (xs : List ℕ) → trim_right (trim_right xs) ≡ trim_right xs
trim_right_again [] = refl
trim_right_again (x ∷ xs) = again_step (is_white x && is_blank xs) x (trim_right xs) (ap (λ b. is_white x && b) (blank_trimmed xs)) (trim_right_again xs)

left_step : (white blank : Bool) (x : ℕ) (xs rest : List ℕ) → is_white x ≡ white → trim_left rest ≡ rest → trim_left (cond white rest (cond (white && blank) [] (x ∷ xs))) ≡ cond white rest (cond (white && blank) [] (x ∷ xs))
left_step true blank x xs rest e h = h
left_step false blank x xs rest e h = rw e refl

right_of : (white : Bool) (x : ℕ) (xs rest : List ℕ) → trim_right (cond white rest (x ∷ xs)) ≡ cond white (trim_right rest) (trim_right (x ∷ xs))
right_of true x xs rest = refl
right_of false x xs rest = refl

pub trim_left_trimmed : (xs : List ℕ) → trim_left (trimmed xs) ≡ trimmed xs
trim_left_trimmed [] = refl
trim_left_trimmed (x ∷ xs) =
    let e = right_of (is_white x) x xs (trim_left xs) in
    ap trim_left e ∙ left_step (is_white x) (is_blank xs) x (trim_right xs) (trimmed xs) refl (trim_left_trimmed xs) ∙ sym e

pub trimmed_again : (xs : List ℕ) → trimmed (trimmed xs) ≡ trimmed xs
trimmed_again xs = ap trim_right (trim_left_trimmed xs) ∙ trim_right_again (trim_left xs)

left_again_step : (white : Bool) (x : ℕ) (xs rest : List ℕ) → is_white x ≡ white → trim_left rest ≡ rest → trim_left (cond white rest (x ∷ xs)) ≡ cond white rest (x ∷ xs)
left_again_step true x xs rest e h = h
left_again_step false x xs rest e h = rw e refl

pub trim_left_again : (xs : List ℕ) → trim_left (trim_left xs) ≡ trim_left xs
trim_left_again [] = refl
trim_left_again (x ∷ xs) = left_again_step (is_white x) x xs (trim_left xs) refl (trim_left_again xs)

pub trim_left_blank : (xs : List ℕ) → is_blank xs ≡ true → trim_left xs ≡ []
trim_left_blank [] h = refl
trim_left_blank (x ∷ xs) h = let both = and_parts (is_white x) (is_blank xs) h in rw both.0 (trim_left_blank xs both.1)

pub trimmed_blank : (xs : List ℕ) → is_blank xs ≡ true → trimmed xs ≡ []
trimmed_blank xs h = ap trim_right (trim_left_blank xs h)
