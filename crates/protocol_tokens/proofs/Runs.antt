-- Runs of bytes: where a token ends, and what the list of tokens is.
use Rattle.std.proofs.Common.{◌≡◌, ℕ, ◌<◌, List, [], ◌∷◌, ◌++◌, Bool, true, false, not, ltb, leb, length, take, drop, refl, ◌∙◌, sym, ap, arith}
use Rattle.std.proofs.Math.Seq.{take-append_seam, drop-append_seam, take-length, drop-length}
use Rattle.std.proofs.lemmas.List.{append-nil}
use Rattle.std.specs.List.{list_all, prefix_len, before_first}
use Rattle.std.proofs.lemmas.Bool.{and_parts, not-true}
use Rattle.std.proofs.lemmas.Bool.Decides.{nat_tests}
use Rattle.protocol_tokens.specs.Tokens.{is_white, is_token, trim_left, trimmed, token_end, first_token, rest_after_token, trim_right}

pub all_of : (p q : ℕ → Bool) → ((c : ℕ) → p c ≡ true → q c ≡ true) → (xs : List ℕ) → list_all p xs ≡ true → list_all q xs ≡ true
all_of p q f [] h = refl
all_of p q f (x ∷ xs) h = let both = and_parts (p x) (list_all p xs) h in rw (f x both.0, all_of p q f xs both.1) refl

pub prefix_whole : (q : ℕ → Bool) (xs : List ℕ) → list_all q xs ≡ true → prefix_len q xs ≡ length xs
prefix_whole q [] h = refl
prefix_whole q (x ∷ xs) h = let both = and_parts (q x) (list_all q xs) h in rw (both.0, prefix_whole q xs both.1) (omega arith)

pub prefix_stops : (q : ℕ → Bool) (xs : List ℕ) (c : ℕ) (ys : List ℕ) → list_all q xs ≡ true → q c ≡ false → prefix_len q (xs ++ (c ∷ ys)) ≡ length xs
prefix_stops q [] c ys h e = rw e refl
prefix_stops q (x ∷ xs) c ys h e = let both = and_parts (q x) (list_all q xs) h in rw (both.0, prefix_stops q xs c ys both.1 e) (omega arith)

-- the bytes of a token
pub black : (t : List ℕ) → is_token t ≡ true → list_all (λ b. not (is_white b)) t ≡ true
black t h = (and_parts (ltb 0 (length t)) (list_all (λ b. not (is_white b)) t) h).1

black_high : (c : ℕ) → leb 49 c ≡ true → not (is_white c) ≡ true
black_high c h = grind (arith, nat_tests)

-- bytes from the digit 1 on are a token
pub high_token : (t : List ℕ) → 0 < length t → list_all (λ b. leb 49 b) t ≡ true → is_token t ≡ true
high_token t l h =
    let some : ltb 0 (length t) ≡ true = grind (arith, nat_tests) in
    rw (some, all_of (λ b. leb 49 b) (λ b. not (is_white b)) black_high t h) refl

pub starts_black : (t more : List ℕ) → is_token t ≡ true → trim_left (t ++ more) ≡ t ++ more
starts_black [] more h = absurd (cc)
starts_black (x ∷ t) more h = let w = not-true (is_white x) (and_parts (not (is_white x)) (list_all (λ b. not (is_white b)) t) (black (x ∷ t) h)).0 in rw w refl

-- a line that is a token, white space and more
pub token_first : (t more : List ℕ) (w : ℕ) → is_token t ≡ true → is_white w ≡ true → first_token (t ++ (w ∷ more)) ≡ t
token_first t more w h e =
    let stop : prefix_len (λ b. not (is_white b)) (t ++ (w ∷ more)) ≡ length t = prefix_stops (λ b. not (is_white b)) t w more (black t h) (rw e refl) in
    ap (before_first is_white) (starts_black t (w ∷ more) h) ∙ ap (λ n. take n (t ++ (w ∷ more))) stop ∙ take-append_seam t (w ∷ more)

pub token_rest : (t more : List ℕ) (w : ℕ) → is_token t ≡ true → is_white w ≡ true → rest_after_token (t ++ (w ∷ more)) ≡ trimmed more
token_rest t more w h e =
    let stop : prefix_len (λ b. not (is_white b)) (t ++ (w ∷ more)) ≡ length t = prefix_stops (λ b. not (is_white b)) t w more (black t h) (rw e refl) in
    ap (λ line. trimmed (drop (token_end line) line)) (starts_black t (w ∷ more) h)
    ∙ ap (λ n. trimmed (drop n (t ++ (w ∷ more)))) stop
    ∙ ap trimmed (drop-append_seam t (w ∷ more))
    ∙ rw e refl

-- a line that is one token
pub token_alone : (t : List ℕ) → is_token t ≡ true → first_token t ≡ t
token_alone t h =
    let whole : prefix_len (λ b. not (is_white b)) t ≡ length t = prefix_whole (λ b. not (is_white b)) t (black t h) in
    let left : trim_left t ≡ t = sym (ap trim_left (append-nil t)) ∙ starts_black t [] h ∙ append-nil t in
    ap (before_first is_white) left ∙ ap (λ n. take n t) whole ∙ take-length t

pub token_alone_rest : (t : List ℕ) → is_token t ≡ true → rest_after_token t ≡ []
token_alone_rest t h =
    let whole : prefix_len (λ b. not (is_white b)) t ≡ length t = prefix_whole (λ b. not (is_white b)) t (black t h) in
    let left : trim_left t ≡ t = sym (ap trim_left (append-nil t)) ∙ starts_black t [] h ∙ append-nil t in
    ap (λ line. trimmed (drop (token_end line) line)) left ∙ ap (λ n. trimmed (drop n t)) whole ∙ ap trimmed (drop-length t)

-- a text without white space is not trimmed
pub black_kept : (xs : List ℕ) → list_all (λ b. not (is_white b)) xs ≡ true → trim_right xs ≡ xs
black_kept [] h = refl
black_kept (x ∷ xs) h =
    let both = and_parts (not (is_white x)) (list_all (λ b. not (is_white b)) xs) h in
    rw (not-true (is_white x) both.0, black_kept xs both.1) refl
