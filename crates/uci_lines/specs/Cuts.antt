-- Lines that are cut at certain tokens.
use Rattle.std.specs.Prelude.{ℕ, List, [], ◌∷◌, drop, codes, Bool, ◌&&◌}
use Rattle.std.specs.Prelude.{◌||◌, if◌then◌else◌, Option, Some, None}
use Rattle.std.specs.List.{before_first}
use Rattle.std.specs.Option.{option_map}
use Rattle.std.specs.Str.{bytes_eq}
use Rattle.protocol_tokens.specs.Tokens.{is_white, token_end}
use Rattle.uci_lines.specs.declared.cut.Delimiter.{Delimiter}
use Rattle.uci_lines.specs.declared.cut.Delimiter.TheVariants.{Message, Kind, Default}
use Rattle.uci_lines.specs.declared.cut.Delimiter.TheVariants.{Choice, Ponder}
use Rattle.uci_lines.specs.declared.cut.FoundToken.{FoundToken as CodeFound}

-- the bytes before a token, the token, and the bytes after it
pub record Found : Type 0 where
  pub before : List ℕ
  pub word : List ℕ
  pub after : List ℕ

abbrev pub onto_part : ℕ → Found → Found
onto_part b part = record { before = b ∷ part.before; word = part.word; after = part.after }

-- Where the first token that passes is. A token begins at the start only if the front is fresh:
-- the start of the line, or after white space.
abbrev pub found_token : (List ℕ → Bool) → Bool → List ℕ → Option Found
found_token p fresh [] = None
found_token p fresh (b ∷ bs) =
    if fresh && p (before_first is_white (b ∷ bs))
    then Some (record {
      before = [];
      word = before_first is_white (b ∷ bs);
      after = drop (token_end (b ∷ bs)) (b ∷ bs);
    })
    else option_map (onto_part b) (found_token p (is_white b) bs)

abbrev pub is_word : List ℕ → List ℕ → Bool
is_word word token = bytes_eq token word

-- the words with which a message begins
abbrev pub is_known : List ℕ → Bool
is_known token =
    is_word (codes "id") token || is_word (codes "uciok") token || is_word (codes "readyok") token
    || is_word (codes "bestmove") token || is_word (codes "info") token
    || is_word (codes "option") token

-- the words with which a part of a combo begins
abbrev pub is_choice : List ℕ → Bool
is_choice token = is_word (codes "default") token || is_word (codes "var") token

abbrev pub delimits : Delimiter → List ℕ → Bool
delimits Message token = is_known token
delimits Kind token = is_word (codes "type") token
delimits Default token = is_word (codes "default") token
delimits Choice token = is_choice token
delimits Ponder token = is_word (codes "ponder") token

abbrev pub found_of : CodeFound → Found
found_of found = record {
  before = found.before.now;
  word = found.word.now;
  after = found.after.now;
}
