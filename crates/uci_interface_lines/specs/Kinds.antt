-- The kind of search that a `go` asks for.
use Rattle.std.specs.Prelude.{ℕ, List, codes, Bool, if◌then◌else◌}
use Rattle.std.specs.List.{list_any}
use Rattle.protocol_tokens.specs.Tokens.{tokens}
use Rattle.protocol_tokens.specs.declared.kinds.GoKind.{GoKind}
use Rattle.protocol_tokens.specs.declared.kinds.GoKind.TheVariants.{Move, Ponder, Analyse}
use Rattle.uci_lines.specs.Cuts.{is_word}

-- a word is among the tokens
abbrev pub has_token_word : List ℕ → List (List ℕ) → Bool
has_token_word word ts = list_any (is_word word) ts

-- the kind of the search that a `go` begins, in any spelling
abbrev pub kind_asked : List ℕ → GoKind
kind_asked line =
    if has_token_word (codes "ponder") (tokens line) then Ponder
    else (if has_token_word (codes "infinite") (tokens line) then Analyse else Move)
