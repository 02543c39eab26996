-- The rest behind fixed words and numbers.
use Rattle.std.specs.Prelude.{ℕ, List, [], ◌∷◌, drop, decimal}
use Rattle.std.specs.Prelude.{if◌then◌else◌, ◌==◌, Option, Some, None}
use Rattle.std.specs.List.{before_first}
use Rattle.std.specs.Str.{bytes_eq}
use Rattle.protocol_tokens.specs.Tokens.{is_white, token_end}
use Rattle.protocol_tokens.specs.Numbers.{count}

-- the text behind a word at the start
abbrev pub after : List ℕ → List ℕ → Option (List ℕ)
after [] text = Some text
after (b ∷ bs) [] = None
after (b ∷ bs) (c ∷ cs) = if c == b then after bs cs else None

abbrev pub exact_by : Option ℕ → List ℕ → Option ℕ
exact_by None word = None
exact_by (Some n) word = if bytes_eq (decimal n) word then Some n else None

-- a count as it is written, without leading zeros
abbrev pub exact_count : List ℕ → Option ℕ
exact_count word = exact_by (count word) word

abbrev pub count_with_rest : Option ℕ → List ℕ → Option (ℕ × List ℕ)
count_with_rest None others = None
count_with_rest (Some n) others = Some (n, others)

-- the count at the start, up to white space, and what follows it
abbrev pub count_at_start : Option (List ℕ) → Option (ℕ × List ℕ)
count_at_start None = None
count_at_start (Some text) =
    count_with_rest (exact_count (before_first is_white text)) (drop (token_end text) text)

-- a word at the start and a count after it
unfoldable pub number_behind : List ℕ → List ℕ → Option (ℕ × List ℕ)
number_behind word text = count_at_start (after word text)

abbrev pub number_or : Option (ℕ × List ℕ) → List ℕ → Option ℕ × List ℕ
number_or None text = (None, text)
number_or (Some found) text = (Some found.0, found.1)

-- the same, if they are there
abbrev pub perhaps_number : List ℕ → List ℕ → Option ℕ × List ℕ
perhaps_number word text = number_or (number_behind word text) text
