-- The names of options.
use Rattle.std.specs.Prelude.{ℕ, List, map, length, codes, Bool}
use Rattle.std.specs.Prelude.{not, ◌&&◌, ◌||◌, ◌==◌, nat_eq, nat_lt}
use Rattle.std.specs.Char.{to_ascii_lowercase}
use Rattle.std.specs.List.{list_any, starts_with}
use Rattle.std.specs.Str.{bytes_eq}
use Rattle.protocol_tokens.specs.Tokens.{tokens}
use Rattle.protocol_tokens.specs.Bytes.{quote, equals}
use Rattle.option_map.specs.declared.declared_options.names.TheConstants.{MOST_OPTION_NAME}

-- with ASCII letters in lower case
abbrev pub folded : List ℕ → List ℕ
folded text = map to_ascii_lowercase text

-- equal, case ignored
abbrev pub same_text : List ℕ → List ℕ → Bool
same_text a b = bytes_eq (folded a) (folded b)

abbrev pub holds : ℕ → List ℕ → Bool
holds byte text = list_any (λ b. b == byte) text

abbrev pub is_quote : ℕ → Bool
is_quote b = b == quote

-- the names of options that have commands of their own
abbrev pub has_command : List ℕ → Bool
has_command name =
    same_text (codes "Ponder") name || same_text (codes "Hash") name
    || same_text (codes "Threads") name || same_text (codes "NalimovPath") name

abbrev pub begins_with_uci : List ℕ → Bool
begins_with_uci name = starts_with nat_eq (folded name) (codes "uci_")

-- the names of options that limit how strongly the engine plays
abbrev pub limits_strength : List ℕ → Bool
limits_strength name =
    same_text (codes "UCI_LimitStrength") name || same_text (codes "UCI_Elo") name

-- The options that have commands of their own are hidden, and those that begin with `UCI_`, except
-- the two that limit the strength where `strength` says that these are shown.
abbrev pub is_hidden : Bool → List ℕ → Bool
is_hidden strength name =
    has_command name || (begins_with_uci name && not (strength && limits_strength name))

-- After the token `value` an order has the value.
abbrev pub has_value_token : List ℕ → Bool
has_value_token name = list_any (λ t. bytes_eq t (codes "value")) (tokens name)

-- a name that no feature line can show or no order can set
abbrev pub is_bad_name : List ℕ → Bool
is_bad_name name =
    nat_lt (length name) 1 || nat_lt MOST_OPTION_NAME (length name) || holds quote name
    || holds equals name || has_value_token name
