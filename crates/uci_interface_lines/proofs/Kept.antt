-- Texts that trimming keeps, and the tokens at the start of a text.
use Rattle.std.proofs.Common.{◌≡◌, ℕ, ◌<◌, List, [], ◌∷◌, ◌++◌, Bool, true, false, not, ◌&&◌, cond, ltb, length, refl, sym, ap, ◌∙◌, arith, length-append}
use Rattle.std.proofs.lemmas.Bool.Decides.{nat_tests}
use Rattle.std.proofs.lemmas.List.{append-nil}
use Rattle.std.proofs.lemmas.List.Folds.{list_all-append}
use Rattle.std.specs.List.{list_all}
use Rattle.std.proofs.lemmas.Bool.{and_parts}
use mathlib.Core.Bool.{and-false}
use Rattle.protocol_tokens.specs.Tokens.{is_white, is_blank, is_token, trim_left, trim_right, trimmed, tokens}
use Rattle.protocol_tokens.proofs.Trims.{trim_right_again, trim_left_trimmed, drops_white}
use Rattle.protocol_tokens.proofs.TokenLists.{tokens_more, tokens_alone, tokens_white, tokens_trim_right}
use Rattle.protocol_tokens.proofs.Runs.{black, black_kept}
use Rattle.uci_lines.specs.Spells.{ends_white}
use Rattle.uci_interface_lines.specs.Said.{spaced_text}
use Rattle.uci_lines.proofs.Prefixes.{BeginsWhite}

-- TEXTS THAT DO NOT END WITH WHITE SPACE

pub record Solid (xs : List ℕ) : Type 0 where
  pub some : 0 < length xs
  pub kept : trim_right xs ≡ xs

blank_by : (xs : List ℕ) (b : Bool) → is_blank xs ≡ b → Solid xs → is_blank xs ≡ false
blank_by xs false e s = e
blank_by [] true e s = absurd (omega (arith, s.some))
blank_by (x ∷ xs) true e s = absurd (cc (sym (ap (λ b. cond b [] (x ∷ trim_right xs)) e) ∙ s.kept))

not_blank : (xs : List ℕ) → Solid xs → is_blank xs ≡ false
not_blank xs s = blank_by xs (is_blank xs) refl s

blank_more : (xs ys : List ℕ) → is_blank ys ≡ false → is_blank (xs ++ ys) ≡ false
blank_more xs ys h = list_all-append is_white xs ys ∙ ap (λ b. is_blank xs && b) h ∙ and-false (is_blank xs)

kept_over : (xs ys : List ℕ) → Solid ys → trim_right (xs ++ ys) ≡ xs ++ ys
kept_over [] ys s = s.kept
kept_over (x ∷ xs) ys s = rw (ap (λ b. is_white x && b) (blank_more xs ys (not_blank ys s)) ∙ and-false (is_white x), kept_over xs ys s) refl

pub solid_over : (xs ys : List ℕ) → Solid ys → Solid (xs ++ ys)
solid_over xs ys s = record { some = omega (arith, s.some, length-append xs ys); kept = kept_over xs ys s }

above : (n : ℕ) → ltb 0 n ≡ true → 0 < n
above n h = grind (arith, nat_tests)

pub solid_token : (t : List ℕ) → is_token t ≡ true → Solid t
solid_token t h = record { some = above (length t) (and_parts (ltb 0 (length t)) (list_all (λ b. not (is_white b)) t) h).0; kept = black_kept t (black t h) }

-- TRIMMED TEXTS

pub trimmed_right : (xs : List ℕ) → trimmed xs ≡ xs → trim_right xs ≡ xs
trimmed_right xs h = sym (ap trim_right h) ∙ trim_right_again (trim_left xs) ∙ h

pub trimmed_left : (xs : List ℕ) → trimmed xs ≡ xs → trim_left xs ≡ xs
trimmed_left xs h = sym (ap trim_left h) ∙ trim_left_trimmed xs ∙ h

left_short_by : (w : Bool) (x : ℕ) (xs : List ℕ) → length (trim_left xs) < length (x ∷ xs) → cond w (trim_left xs) (x ∷ xs) ≡ x ∷ xs → w ≡ false
left_short_by true x xs l h = absurd (omega (arith, l, ap length h))
left_short_by false x xs l h = refl

left_short_step : (w : Bool) (x y : ℕ) (xs : List ℕ) → length (trim_left xs) < length (x ∷ xs) → length (cond w (trim_left xs) (x ∷ xs)) < length (y ∷ x ∷ xs)
left_short_step true x y xs h = omega (arith, h)
left_short_step false x y xs h = omega arith

left_short : (x : ℕ) (xs : List ℕ) → length (trim_left xs) < length (x ∷ xs)
left_short x [] = omega arith
left_short x (y ∷ xs) = left_short_step (is_white y) y x xs (left_short y xs)

-- a trimmed text begins with no white space
pub first_black : (x : ℕ) (xs : List ℕ) → trimmed (x ∷ xs) ≡ x ∷ xs → is_white x ≡ false
first_black x xs h = left_short_by (is_white x) x xs (left_short x xs) (trimmed_left (x ∷ xs) h)

pub solid_trimmed : (x : ℕ) (xs : List ℕ) → trimmed (x ∷ xs) ≡ x ∷ xs → Solid (x ∷ xs)
solid_trimmed x xs h = record { some = omega arith; kept = trimmed_right (x ∷ xs) h }

left_black : (w : Bool) (x : ℕ) (xs : List ℕ) → is_white x ≡ w → w ≡ false → trim_left (x ∷ xs) ≡ x ∷ xs
left_black true x xs e h = absurd (cc)
left_black false x xs e h = rw e refl

-- a text that begins with no white space and is kept at its end
pub trimmed_solid : (x : ℕ) (xs : List ℕ) → is_white x ≡ false → Solid (x ∷ xs) → trimmed (x ∷ xs) ≡ x ∷ xs
trimmed_solid x xs e s = ap trim_right (left_black (is_white x) x xs refl e) ∙ s.kept

pub spaced_trimmed : (xs : List ℕ) → trimmed (spaced_text xs) ≡ trimmed xs
spaced_trimmed [] = refl
spaced_trimmed (x ∷ xs) = refl

pub spaced_white : (xs : List ℕ) → BeginsWhite (spaced_text xs)
spaced_white [] = tt
spaced_white (x ∷ xs) = refl

pub spaced_tokens : (xs : List ℕ) → tokens (spaced_text xs) ≡ tokens xs
spaced_tokens [] = refl
spaced_tokens (x ∷ xs) = refl

pub white_over : (xs ys : List ℕ) → BeginsWhite xs → BeginsWhite ys → BeginsWhite (xs ++ ys)
white_over [] ys h k = k
white_over (x ∷ xs) ys h k = h

-- A BLANK BEHIND A TEXT

pub blank_ends : (fresh : Bool) (xs : List ℕ) → ends_white fresh (xs ++ (32 ∷ [])) ≡ true
blank_ends fresh [] = refl
blank_ends fresh (x ∷ xs) = blank_ends (is_white x) xs

pub blank_tokens : (xs : List ℕ) → tokens (xs ++ (32 ∷ [])) ≡ tokens xs
blank_tokens xs = sym (tokens_trim_right (xs ++ (32 ∷ []))) ∙ ap tokens (drops_white xs 32 refl) ∙ tokens_trim_right xs

pub blank_trimmed : (xs : List ℕ) → trimmed xs ≡ xs → trimmed (xs ++ (32 ∷ [])) ≡ xs
blank_trimmed [] h = refl
blank_trimmed (x ∷ xs) h =
    ap trim_right (left_black (is_white x) x (xs ++ (32 ∷ [])) refl (first_black x xs h)) ∙ drops_white (x ∷ xs) 32 refl ∙ trimmed_right (x ∷ xs) h

-- THE TOKENS AT THE FRONT

pub tokens_prefix : (t ys : List ℕ) → is_token t ≡ true → BeginsWhite ys → tokens (t ++ ys) ≡ t ∷ tokens ys
tokens_prefix t [] h k = ap tokens (append-nil t) ∙ tokens_alone t h
tokens_prefix t (y ∷ ys) h k = tokens_more t ys y h k ∙ ap (λ ts. t ∷ ts) (sym (tokens_white y ys k))
