-- The parts of a combo.
use Rattle.std.specs.Prelude.{ℕ, List, [], ◌∷◌, codes, length, drop, Bool}
use Rattle.std.specs.Prelude.{true, ◌&&◌, if◌then◌else◌, Option, Some, None}
use Rattle.std.specs.List.{before_first, onto_first}
use Rattle.protocol_tokens.specs.Tokens.{is_white, trimmed, first_token, rest_after_token}
use Rattle.uci_lines.specs.Cuts.{Found, found_token, is_word, is_choice}

-- A text, cut before each token that is `default` or `var`. The first piece is what is before all
-- of them; each other begins with its word. fresh: as for `found_token`.
abbrev pub pieces : Bool → List ℕ → List (List ℕ)
pieces fresh [] = [] ∷ []
pieces fresh (b ∷ bs) =
    if fresh && is_choice (before_first is_white (b ∷ bs))
    then [] ∷ onto_first b (pieces (is_white b) bs)
    else onto_first b (pieces (is_white b) bs)

-- the text behind each `var`
abbrev pub values_among : List (List ℕ) → List (List ℕ)
values_among [] = []
values_among (piece ∷ others) =
    if is_word (codes "var") (first_token piece) then rest_after_token piece ∷ values_among others
    else values_among others

-- the values of a combo
unfoldable pub values : List ℕ → List (List ℕ)
values text = values_among (pieces true text)

-- the text before the first `default` or `var`, or all
abbrev pub before_choice : Option Found → List ℕ → List ℕ
before_choice None text = text
before_choice (Some part) text = part.before

-- the text from the first `default` or `var` on
abbrev pub from_choice : Option Found → List ℕ → List ℕ
from_choice None text = []
from_choice (Some part) text = drop (length part.before) text

abbrev pub choice_text : Option Found → List ℕ
choice_text None = []
choice_text (Some part) = trimmed (before_choice (found_token is_choice true part.after) part.after)

-- the text behind the first `default`, up to the next `default` or `var`
abbrev pub default_value : List ℕ → List ℕ
default_value text = choice_text (found_token (is_word (codes "default")) true text)
