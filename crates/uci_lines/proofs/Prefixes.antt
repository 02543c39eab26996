-- The token at the start of a text, and what follows it.
use Rattle.std.proofs.Common.{◌≡◌, ℕ, ◌+◌, List, [], ◌∷◌, ◌++◌, Bool, true, false, not, drop, refl, sym, ap, ◌∙◌, one-add}
use Rattle.std.specs.List.{before_first, list_all}
use Rattle.std.proofs.lemmas.Bool.{and_parts, not-true}
use Rattle.protocol_tokens.specs.Tokens.{is_white, is_token, token_end, first_token, rest_after_token, trimmed}
use Rattle.protocol_tokens.proofs.Runs.{starts_black, black}

-- nothing, or a text that begins with white space
abbrev pub BeginsWhite : List ℕ → Type 0
BeginsWhite [] = Unit {0}
BeginsWhite (b ∷ bs) = is_white b ≡ true

abbrev pub prefix : List ℕ → List ℕ
prefix bs = before_first is_white bs

abbrev pub behind : List ℕ → List ℕ
behind bs = drop (token_end bs) bs

pub prefix-white : (b : ℕ) (bs : List ℕ) → is_white b ≡ true → prefix (b ∷ bs) ≡ []
prefix-white b bs e = rw e refl

pub behind-white : (b : ℕ) (bs : List ℕ) → is_white b ≡ true → behind (b ∷ bs) ≡ b ∷ bs
behind-white b bs e = rw e refl

pub prefix-byte : (b : ℕ) (bs : List ℕ) → is_white b ≡ false → prefix (b ∷ bs) ≡ b ∷ prefix bs
prefix-byte b bs e = rw (e, one-add (token_end bs)) refl

pub behind-byte : (b : ℕ) (bs : List ℕ) → is_white b ≡ false → behind (b ∷ bs) ≡ behind bs
behind-byte b bs e = rw (e, one-add (token_end bs)) refl

-- both together are the text
joined_step : (w : Bool) (b : ℕ) (bs : List ℕ) → is_white b ≡ w → prefix bs ++ behind bs ≡ bs → prefix (b ∷ bs) ++ behind (b ∷ bs) ≡ b ∷ bs
joined_step true b bs e h = rw (prefix-white b bs e, behind-white b bs e) refl
joined_step false b bs e h = rw (prefix-byte b bs e, behind-byte b bs e) (ap (λ t. b ∷ t) h)

pub joined : (bs : List ℕ) → prefix bs ++ behind bs ≡ bs
joined [] = refl
joined (b ∷ bs) = joined_step (is_white b) b bs refl (joined bs)

begins_step : (w : Bool) (b : ℕ) (bs : List ℕ) → is_white b ≡ w → BeginsWhite (behind bs) → BeginsWhite (behind (b ∷ bs))
begins_step true b bs e h = rw (behind-white b bs e) e
begins_step false b bs e h = rw (behind-byte b bs e) h

pub begins : (bs : List ℕ) → BeginsWhite (behind bs)
begins [] = tt
begins (b ∷ bs) = begins_step (is_white b) b bs refl (begins bs)

black_step : (w : Bool) (b : ℕ) (bs : List ℕ) → is_white b ≡ w → list_all (λ c. not (is_white c)) (prefix bs) ≡ true → list_all (λ c. not (is_white c)) (prefix (b ∷ bs)) ≡ true
black_step true b bs e h = rw (prefix-white b bs e) refl
black_step false b bs e h = rw (prefix-byte b bs e) (rw (e, h) refl)

pub prefix_black : (bs : List ℕ) → list_all (λ c. not (is_white c)) (prefix bs) ≡ true
prefix_black [] = refl
prefix_black (b ∷ bs) = black_step (is_white b) b bs refl (prefix_black bs)

-- a text before one-add that begins with white space
pub white_prefix : (ys : List ℕ) → BeginsWhite ys → prefix ys ≡ []
white_prefix [] h = refl
white_prefix (b ∷ bs) h = prefix-white b bs h

pub white_behind : (ys : List ℕ) → BeginsWhite ys → behind ys ≡ ys
white_behind [] h = refl
white_behind (b ∷ bs) h = behind-white b bs h

append_step : (w : Bool) (b : ℕ) (bs ys : List ℕ) → is_white b ≡ w → prefix (bs ++ ys) ≡ prefix bs → prefix (b ∷ (bs ++ ys)) ≡ prefix (b ∷ bs)
append_step true b bs ys e h = prefix-white b (bs ++ ys) e ∙ sym (prefix-white b bs e)
append_step false b bs ys e h = prefix-byte b (bs ++ ys) e ∙ ap (λ t. b ∷ t) h ∙ sym (prefix-byte b bs e)

pub prefix_append : (a ys : List ℕ) → BeginsWhite ys → prefix (a ++ ys) ≡ prefix a
prefix_append [] ys h = white_prefix ys h
prefix_append (b ∷ bs) ys h = append_step (is_white b) b bs ys refl (prefix_append bs ys h)

behind_step : (w : Bool) (b : ℕ) (bs ys : List ℕ) → is_white b ≡ w → behind (bs ++ ys) ≡ behind bs ++ ys → behind (b ∷ (bs ++ ys)) ≡ behind (b ∷ bs) ++ ys
behind_step true b bs ys e h = behind-white b (bs ++ ys) e ∙ sym (ap (λ t. t ++ ys) (behind-white b bs e))
behind_step false b bs ys e h = behind-byte b (bs ++ ys) e ∙ h ∙ sym (ap (λ t. t ++ ys) (behind-byte b bs e))

pub behind_append : (a ys : List ℕ) → BeginsWhite ys → behind (a ++ ys) ≡ behind a ++ ys
behind_append [] ys h = white_behind ys h
behind_append (b ∷ bs) ys h = behind_step (is_white b) b bs ys refl (behind_append bs ys h)

-- a text without white space
pub all_prefix : (t : List ℕ) → list_all (λ c. not (is_white c)) t ≡ true → prefix t ≡ t
all_prefix [] h = refl
all_prefix (b ∷ bs) h =
    let both = and_parts (not (is_white b)) (list_all (λ c. not (is_white c)) bs) h in
    prefix-byte b bs (not-true (is_white b) both.0) ∙ ap (λ t. b ∷ t) (all_prefix bs both.1)

pub none_behind : (t : List ℕ) → list_all (λ c. not (is_white c)) t ≡ true → behind t ≡ []
none_behind [] h = refl
none_behind (b ∷ bs) h =
    let both = and_parts (not (is_white b)) (list_all (λ c. not (is_white c)) bs) h in
    behind-byte b bs (not-true (is_white b) both.0) ∙ none_behind bs both.1

-- a text without white space, before one-add that begins with some
pub prefix_is : (t ys : List ℕ) → list_all (λ c. not (is_white c)) t ≡ true → BeginsWhite ys → prefix (t ++ ys) ≡ t
prefix_is t ys h k = prefix_append t ys k ∙ all_prefix t h

pub behind_is : (t ys : List ℕ) → list_all (λ c. not (is_white c)) t ≡ true → BeginsWhite ys → behind (t ++ ys) ≡ ys
behind_is t ys h k = behind_append t ys k ∙ ap (λ s. s ++ ys) (none_behind t h)

pub first_is : (t ys : List ℕ) → is_token t ≡ true → BeginsWhite ys → first_token (t ++ ys) ≡ t
first_is t ys h k = ap prefix (starts_black t ys h) ∙ prefix_is t ys (black t h) k

pub rest_is : (t ys : List ℕ) → is_token t ≡ true → BeginsWhite ys → rest_after_token (t ++ ys) ≡ trimmed ys
rest_is t ys h k = ap (λ s. trimmed (behind s)) (starts_black t ys h) ∙ ap trimmed (behind_is t ys (black t h) k)
