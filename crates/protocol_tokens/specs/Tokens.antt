-- White space, tokens and rests.
use Rattle.std.specs.Prelude.{ℕ, List, [], ◌∷◌, length, drop, filter, Bool}
use Rattle.std.specs.Prelude.{◌||◌, ◌&&◌, not, if◌then◌else◌, ◌==◌, nat_lt}
use Rattle.std.specs.List.{position_or_len, before_first, slice_split, list_all}
use Rattle.protocol_tokens.specs.Bytes.{blank, tab, carriage_return}

-- blank, tab or CR
abbrev pub is_white : ℕ → Bool
is_white b = b == blank || b == tab || b == carriage_return

-- without the white space at the start
abbrev pub trim_left : List ℕ → List ℕ
trim_left [] = []
trim_left (b ∷ bs) = if is_white b then trim_left bs else b ∷ bs

abbrev pub is_blank : List ℕ → Bool
is_blank bs = list_all is_white bs

-- without the white space at the end
abbrev pub trim_right : List ℕ → List ℕ
trim_right [] = []
trim_right (b ∷ bs) = if is_blank (b ∷ bs) then [] else b ∷ trim_right bs

-- without the white space at both ends
abbrev pub trimmed : List ℕ → List ℕ
trimmed bs = trim_right (trim_left bs)

-- where the first token ends, in a line that begins with none
abbrev pub token_end : List ℕ → ℕ
token_end bs = position_or_len is_white bs

-- the first token, or nothing if there is none
abbrev pub first_token : List ℕ → List ℕ
first_token line = before_first is_white (trim_left line)

-- the text behind the first token, trimmed
abbrev pub rest_after_token : List ℕ → List ℕ
rest_after_token line = trimmed (drop (token_end (trim_left line)) (trim_left line))

-- some bytes, and no white space among them
abbrev pub is_token : List ℕ → Bool
is_token text = nat_lt 0 (length text) && list_all (λ b. not (is_white b)) text

-- the longest runs of bytes that are no white space
abbrev pub tokens : List ℕ → List (List ℕ)
tokens line = filter (λ part. nat_lt 0 (length part)) (slice_split is_white line)
