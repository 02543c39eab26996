-- Rests are shorter, and the tokens of a text one by one.
use Rattle.std.proofs.Common.{◌≡◌, ℕ, suc, ◌<◌, ◌≤◌, List, [], ◌∷◌, Bool, true, false, ◌&&◌, cond, not, eqb, length, drop, sym, ap, ◌∙◌, arith}
use Rattle.std.proofs.lemmas.List.{length-drop}
use Rattle.std.proofs.lemmas.List.Folds.{length-prefix_len}
use Rattle.std.proofs.lemmas.List.Sums.{prefix_len-le-length}
use Rattle.std.proofs.lemmas.Bool.Decides.{nat_tests}
use Rattle.protocol_tokens.specs.Tokens.{is_white, is_blank, trim_left, trim_right, trimmed, token_end, first_token, rest_after_token, tokens}
use Rattle.protocol_tokens.proofs.TokenLists.{tokens_some, tokens_none}

left_step : (w : Bool) (x : ℕ) (xs t : List ℕ) → length t ≤ length xs → length (cond w t (x ∷ xs)) ≤ suc (length xs)
left_step true x xs t h = omega arith
left_step false x xs t h = omega arith

pub trim_left_length : (xs : List ℕ) → length (trim_left xs) ≤ length xs
trim_left_length [] = omega arith
trim_left_length (x ∷ xs) = left_step (is_white x) x xs (trim_left xs) (trim_left_length xs)

right_step : (w : Bool) (x : ℕ) (xs t : List ℕ) → length t ≤ length xs → length (cond w [] (x ∷ t)) ≤ suc (length xs)
right_step true x xs t h = omega arith
right_step false x xs t h = omega arith

pub trim_right_length : (xs : List ℕ) → length (trim_right xs) ≤ length xs
trim_right_length [] = omega arith
trim_right_length (x ∷ xs) = right_step (is_white x && is_blank xs) x xs (trim_right xs) (trim_right_length xs)

pub trimmed_length : (xs : List ℕ) → length (trimmed xs) ≤ length xs
trimmed_length xs = omega (arith, trim_right_length (trim_left xs), trim_left_length xs)

pub rest_shorter : (line : List ℕ) (c : ℕ) (cs : List ℕ) → first_token line ≡ c ∷ cs → length (rest_after_token line) < length line
rest_shorter line c cs e =
    let t = trim_left line in
    let end : length (first_token line) ≡ token_end t = length-prefix_len (λ b. not (is_white b)) t in
    let within : token_end t ≤ length t = prefix_len-le-length (λ b. not (is_white b)) t in
    let long : length (first_token line) ≡ suc (length cs) = ap length e in
    omega (arith, trimmed_length (drop (token_end t) t), length-drop (token_end t) t, trim_left_length line)

-- the same, as a call that reads a token knows it
pub none_first : (line word : List ℕ) → word ≡ first_token line → eqb (length word) 0 ≡ true → tokens line ≡ []
none_first line [] e h = tokens_none line (sym e)
none_first line (c ∷ cs) e h = absurd (grind (arith, nat_tests))

pub some_first : (line word others : List ℕ) → word ≡ first_token line → others ≡ rest_after_token line → eqb (length word) 0 ≡ false → tokens line ≡ word ∷ tokens others
some_first line [] others e f h = absurd (cc)
some_first line (c ∷ cs) others e f h = tokens_some line c cs (sym e) ∙ ap (λ t. (c ∷ cs) ∷ tokens t) (sym f)

pub some_shorter : (line word others : List ℕ) → word ≡ first_token line → others ≡ rest_after_token line → eqb (length word) 0 ≡ false → length others < length line
some_shorter line [] others e f h = absurd (cc)
some_shorter line (c ∷ cs) others e f h = let s : length (rest_after_token line) < length line = rest_shorter line c cs (sym e) in rw f s

pub rest_length : (line : List ℕ) → length (rest_after_token line) ≤ length line
rest_length line = let t = trim_left line in omega (arith, trimmed_length (drop (token_end t) t), length-drop (token_end t) t, trim_left_length line)
