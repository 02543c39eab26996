-- The list of the tokens of a line.
use Rattle.std.proofs.Common.{◌≡◌, ℕ, suc, List, [], ◌∷◌, ◌++◌, Bool, true, false, not, ◌&&◌, cond, ltb, length, take, drop, filter, ◌⊎◌, inl, inr, refl, ◌∙◌, sym, ap, subst, arith, add_comm, add-one}
use Rattle.std.proofs.Math.Seq.{take-append_seam, drop-append_seam, take-length, drop-length}
use Rattle.std.proofs.lemmas.Bool.Decides.{nat_tests}
use Rattle.std.specs.List.{list_all, slice_split, onto_first, join_with_byte, before_first}
use Rattle.std.proofs.lemmas.Bool.{and_parts, not-true}
use Rattle.protocol_tokens.specs.Tokens.{is_white, is_blank, is_token, trim_left, trim_right, trimmed, token_end, first_token, rest_after_token, tokens}
use Rattle.protocol_tokens.proofs.Runs.{black, prefix_stops, prefix_whole}

-- the tokens among the parts between white space
abbrev kept : List (List ℕ) → List (List ℕ)
kept parts = filter (λ part. ltb 0 (length part)) parts

-- the same first part, and the same tokens after it
abbrev Agree : List (List ℕ) → List (List ℕ) → Type 0
Agree [] qs = ⊥
Agree (p ∷ ps) [] = ⊥
Agree (p ∷ ps) (q ∷ qs) = (p ≡ q) × (kept ps ≡ kept qs)

agree_kept : (a b : List (List ℕ)) → Agree a b → kept a ≡ kept b
agree_kept [] b h = absurd h
agree_kept (p ∷ ps) [] h = absurd h
agree_kept (p ∷ ps) (q ∷ qs) h = rw (h.0, h.1) refl

agree_onto : (x : ℕ) (a b : List (List ℕ)) → Agree a b → Agree (onto_first x a) (onto_first x b)
agree_onto x [] b h = absurd h
agree_onto x (p ∷ ps) [] h = absurd h
agree_onto x (p ∷ ps) (q ∷ qs) h = (ap (λ t. x ∷ t) h.0, h.1)

blank_kept : (xs : List ℕ) → is_blank xs ≡ true → kept (slice_split is_white xs) ≡ []
blank_kept [] h = refl
blank_kept (x ∷ xs) h = let both = and_parts (is_white x) (is_blank xs) h in rw both.0 (blank_kept xs both.1)

split_step : (white blank : Bool) (x : ℕ) (xs ys : List ℕ) → is_white x ≡ white → is_blank xs ≡ blank → Agree (slice_split is_white ys) (slice_split is_white xs) → Agree (slice_split is_white (cond (white && blank) [] (x ∷ ys))) (slice_split is_white (x ∷ xs))
split_step true true x xs ys e f h = rw e (refl, sym (blank_kept xs f))
split_step true false x xs ys e f h = rw e (refl, agree_kept (slice_split is_white ys) (slice_split is_white xs) h)
split_step false blank x xs ys e f h = rw e (agree_onto x (slice_split is_white ys) (slice_split is_white xs) h)

split_trimmed : (xs : List ℕ) → Agree (slice_split is_white (trim_right xs)) (slice_split is_white xs)
split_trimmed [] = (refl, refl)
split_trimmed (x ∷ xs) = split_step (is_white x) (is_blank xs) x xs (trim_right xs) refl refl (split_trimmed xs)

-- trimming changes no token
pub tokens_trim_right : (xs : List ℕ) → tokens (trim_right xs) ≡ tokens xs
tokens_trim_right xs = agree_kept (slice_split is_white (trim_right xs)) (slice_split is_white xs) (split_trimmed xs)

pub tokens_white : (w : ℕ) (xs : List ℕ) → is_white w ≡ true → tokens (w ∷ xs) ≡ tokens xs
tokens_white w xs e = rw e refl

trim_step : (white : Bool) (x : ℕ) (xs ys : List ℕ) → is_white x ≡ white → tokens ys ≡ tokens xs → tokens (cond white ys (x ∷ xs)) ≡ tokens (x ∷ xs)
trim_step true x xs ys e h = h ∙ sym (tokens_white x xs e)
trim_step false x xs ys e h = refl

pub tokens_trim_left : (xs : List ℕ) → tokens (trim_left xs) ≡ tokens xs
tokens_trim_left [] = refl
tokens_trim_left (x ∷ xs) = trim_step (is_white x) x xs (trim_left xs) refl (tokens_trim_left xs)

pub tokens_trimmed : (xs : List ℕ) → tokens (trimmed xs) ≡ tokens xs
tokens_trimmed xs = tokens_trim_right (trim_left xs) ∙ tokens_trim_left xs

split_black : (xs : List ℕ) → list_all (λ b. not (is_white b)) xs ≡ true → slice_split is_white xs ≡ xs ∷ []
split_black [] h = refl
split_black (x ∷ xs) h = let both = and_parts (not (is_white x)) (list_all (λ b. not (is_white b)) xs) h in rw (not-true (is_white x) both.0, split_black xs both.1) refl

split_at_white : (xs more : List ℕ) (w : ℕ) → list_all (λ b. not (is_white b)) xs ≡ true → is_white w ≡ true → slice_split is_white (xs ++ (w ∷ more)) ≡ xs ∷ slice_split is_white more
split_at_white [] more w h e = rw e refl
split_at_white (x ∷ xs) more w h e = let both = and_parts (not (is_white x)) (list_all (λ b. not (is_white b)) xs) h in rw (not-true (is_white x) both.0, split_at_white xs more w both.1 e) refl

-- a token, white space and more
pub tokens_more : (t more : List ℕ) (w : ℕ) → is_token t ≡ true → is_white w ≡ true → tokens (t ++ (w ∷ more)) ≡ t ∷ tokens more
tokens_more t more w h e = ap kept (split_at_white t more w (black t h) e) ∙ rw (and_parts (ltb 0 (length t)) (list_all (λ b. not (is_white b)) t) h).0 refl

pub tokens_alone : (t : List ℕ) → is_token t ≡ true → tokens t ≡ t ∷ []
tokens_alone t h = ap kept (split_black t (black t h)) ∙ rw (and_parts (ltb 0 (length t)) (list_all (λ b. not (is_white b)) t) h).0 refl

-- Tokens written with one blank between are the tokens read.
abbrev pub all_tokens : List (List ℕ) → Bool
all_tokens ts = list_all is_token ts

pub tokens_joined : (ts : List (List ℕ)) → all_tokens ts ≡ true → tokens (join_with_byte 32 ts) ≡ ts
tokens_joined [] h = refl
tokens_joined (t ∷ []) h = tokens_alone t (and_parts (is_token t) true h).0
tokens_joined (t ∷ u ∷ ts) h =
    let both = and_parts (is_token t) (list_all is_token (u ∷ ts)) h in
    tokens_more t (join_with_byte 32 (u ∷ ts)) 32 both.0 refl ∙ ap (λ us. t ∷ us) (tokens_joined (u ∷ ts) both.1)

-- a line without white space, or cut at its first white space
record Cut (xs : List ℕ) : Type 0 where
  pub prefix : List ℕ
  pub white : ℕ
  pub more : List ℕ
  pub is : xs ≡ prefix ++ (white ∷ more)
  pub black : list_all (λ b. not (is_white b)) prefix ≡ true
  pub is_white : is_white white ≡ true

cut_step : (white : Bool) (x : ℕ) (xs : List ℕ) → is_white x ≡ white → (list_all (λ b. not (is_white b)) xs ≡ true) ⊎ Cut xs → (list_all (λ b. not (is_white b)) (x ∷ xs) ≡ true) ⊎ Cut (x ∷ xs)
cut_step true x xs e h = inr (record { prefix = []; white = x; more = xs; is = refl; black = refl; is_white = e })
cut_step false x xs e (inl h) = inl (rw (e, h) refl)
cut_step false x xs e (inr c) = inr (record { prefix = x ∷ c.prefix; white = c.white; more = c.more; is = ap (λ ys. x ∷ ys) c.is; black = rw (e, c.black) refl; is_white = c.is_white })

cut : (xs : List ℕ) → (list_all (λ b. not (is_white b)) xs ≡ true) ⊎ Cut xs
cut [] = inl refl
cut (x ∷ xs) = cut_step (is_white x) x xs refl (cut xs)

-- a line's first token t, and the tokens after it
pub record Begins (xs : List ℕ) (t : List ℕ) : Type 0 where
  pub token : is_token t ≡ true
  pub list : tokens xs ≡ t ∷ tokens (drop (token_end xs) xs)

prefix_of : (xs more : List ℕ) (w : ℕ) → list_all (λ b. not (is_white b)) xs ≡ true → is_white w ≡ true → token_end (xs ++ (w ∷ more)) ≡ length xs
prefix_of xs more w h e = prefix_stops (λ b. not (is_white b)) xs w more h (rw e refl)

above_zero : (n : ℕ) → ltb 0 (suc n) ≡ true
above_zero n = grind (arith, nat_tests)

some_token : (t : List ℕ) (c : ℕ) (cs : List ℕ) → t ≡ c ∷ cs → list_all (λ b. not (is_white b)) t ≡ true → is_token t ≡ true
some_token [] c cs e h = absurd (cc)
some_token (x ∷ t) c cs e h = rw (above_zero (length t), h) refl

begins_cut : (t more : List ℕ) (w c : ℕ) (cs : List ℕ) → list_all (λ b. not (is_white b)) t ≡ true → is_white w ≡ true → before_first is_white (t ++ (w ∷ more)) ≡ c ∷ cs → Begins (t ++ (w ∷ more)) (c ∷ cs)
begins_cut t more w c cs h e f =
    let end = prefix_of t more w h e in
    let same : t ≡ c ∷ cs = sym (ap (λ n. take n (t ++ (w ∷ more))) end ∙ take-append_seam t (w ∷ more)) ∙ f in
    let token : is_token t ≡ true = some_token t c cs same h in
    record {
      token = subst (λ (u : List ℕ). is_token u ≡ true) same token;
      list = tokens_more t more w token e ∙ ap (λ u. u ∷ tokens more) same ∙ ap (λ us. (c ∷ cs) ∷ us) (sym (ap (λ n. tokens (drop n (t ++ (w ∷ more)))) end ∙ ap tokens (drop-append_seam t (w ∷ more)) ∙ tokens_white w more e));
    }

begins_black : (xs : List ℕ) (c : ℕ) (cs : List ℕ) → list_all (λ b. not (is_white b)) xs ≡ true → before_first is_white xs ≡ c ∷ cs → Begins xs (c ∷ cs)
begins_black xs c cs h f =
    let whole : token_end xs ≡ length xs = prefix_whole (λ b. not (is_white b)) xs h in
    let same : xs ≡ c ∷ cs = sym (ap (λ n. take n xs) whole ∙ take-length xs) ∙ f in
    let token : is_token xs ≡ true = some_token xs c cs same h in
    record {
      token = subst (λ (u : List ℕ). is_token u ≡ true) same token;
      list = tokens_alone xs token ∙ ap (λ u. u ∷ []) same ∙ ap (λ us. (c ∷ cs) ∷ us) (sym (ap (λ n. tokens (drop n xs)) whole ∙ ap tokens (drop-length xs)));
    }

begins_at : (xs : List ℕ) (c : ℕ) (cs : List ℕ) → (list_all (λ b. not (is_white b)) xs ≡ true) ⊎ Cut xs → before_first is_white xs ≡ c ∷ cs → Begins xs (c ∷ cs)
begins_at xs c cs (inl h) f = begins_black xs c cs h f
begins_at xs c cs (inr k) f = subst (λ (ys : List ℕ). Begins ys (c ∷ cs)) (sym k.is) (begins_cut k.prefix k.more k.white c cs k.black k.is_white (sym (ap (before_first is_white) k.is) ∙ f))

-- A line's tokens are its first token, if it has one, and the tokens of the rest.
pub first_is_token : (line : List ℕ) (c : ℕ) (cs : List ℕ) → first_token line ≡ c ∷ cs → is_token (c ∷ cs) ≡ true
first_is_token line c cs e = (begins_at (trim_left line) c cs (cut (trim_left line)) e).token

pub tokens_some : (line : List ℕ) (c : ℕ) (cs : List ℕ) → first_token line ≡ c ∷ cs → tokens line ≡ (c ∷ cs) ∷ tokens (rest_after_token line)
tokens_some line c cs e =
    sym (tokens_trim_left line) ∙ (begins_at (trim_left line) c cs (cut (trim_left line)) e).list
    ∙ ap (λ us. (c ∷ cs) ∷ us) (sym (tokens_trimmed (drop (token_end (trim_left line)) (trim_left line))))

left_step : (white : Bool) (x y : ℕ) (xs ys rest_after_token : List ℕ) → is_white x ≡ white → cond white rest_after_token (x ∷ xs) ≡ y ∷ ys → (rest_after_token ≡ y ∷ ys → is_white y ≡ false) → is_white y ≡ false
left_step true x y xs ys rest_after_token e f h = h f
left_step false x y xs ys rest_after_token e f h = let same : x ≡ y = cc in sym (ap is_white same) ∙ e

left_black : (xs : List ℕ) (y : ℕ) (ys : List ℕ) → trim_left xs ≡ y ∷ ys → is_white y ≡ false
left_black [] y ys e = absurd (cc)
left_black (x ∷ xs) y ys e = left_step (is_white x) x y xs ys (trim_left xs) refl e (left_black xs y ys)

some_before : (y : ℕ) (ys : List ℕ) → is_white y ≡ false → before_first is_white (y ∷ ys) ≡ y ∷ before_first is_white ys
some_before y ys e = rw (e, add_comm 1 (token_end ys), add-one) refl

none_at : (xs : List ℕ) → ((y : ℕ) (ys : List ℕ) → xs ≡ y ∷ ys → is_white y ≡ false) → before_first is_white xs ≡ [] → xs ≡ []
none_at [] h e = refl
none_at (y ∷ ys) h e = let black = h y ys refl in absurd (cc (some_before y ys black))

-- a line without a first token is blank
pub no_first : (line : List ℕ) → first_token line ≡ [] → trim_left line ≡ []
no_first line e = none_at (trim_left line) (left_black line) e

pub tokens_none : (line : List ℕ) → first_token line ≡ [] → tokens line ≡ []
tokens_none line e = sym (tokens_trim_left line) ∙ ap tokens (no_first line e)
