-- The meaning of a `position` line, as a function of its tokens.
use Rattle.std.specs.Prelude.{ℕ, List, [], ◌∷◌, drop, codes, Bool, if◌then◌else◌}
use Rattle.std.specs.Prelude.{Option, Some, None, Result, Ok, Err}
use Rattle.protocol_tokens.specs.Tokens.{tokens}
use Rattle.chess_board.specs.declared.board.Move.{Move}
use Rattle.chess_board.specs.declared.board.Variant.{Variant}
use Rattle.chess_board.specs.declared.board.Variant.TheVariants.{Normal, Fischer}
use Rattle.chess_board.specs.Position.{Position}
use Rattle.chess_board.specs.Play.{start_position, fischer_start_position, position_after}
use Rattle.chess_board.specs.Place.{legal}
use Rattle.chess_board.specs.Spelling.{move_spelled_by}
use Rattle.fen_text.specs.declared.fault.FenFault.{FenFault}
use Rattle.fen_text.specs.Fen.{position_of_fields, position_of_fields_by}
use Rattle.uci_lines.specs.Cuts.{Found, is_word}

-- the position before the moves, the texts of the moves, and the position after them
pub record Line : Type 0 where
  pub start : Position
  pub moves : List (List ℕ)
  pub end : Position

-- the position after a move
abbrev pub position_after_spoken_move : Position → Move → Position
position_after_spoken_move p m = position_after p m.from.index m.to.index m.promotion

abbrev pub played_if_legal : Position → Option Move → Option Position
played_if_legal p None = None
played_if_legal p (Some m) = if legal p m then Some (position_after_spoken_move p m) else None

-- the position after the moves of these texts, if each is legal in its turn
abbrev pub position_after_texts : List (List ℕ) → Option Position → Option Position
position_after_texts [] p = p
position_after_texts (t ∷ ts) None = None
position_after_texts (t ∷ ts) (Some p) = position_after_texts ts (played_if_legal p (move_spelled_by t))

abbrev pub is_moves_token : List ℕ → Bool
is_moves_token t = is_word (codes "moves") t

-- the tokens before the first `moves`
abbrev pub before_moves : List (List ℕ) → List (List ℕ)
before_moves [] = []
before_moves (t ∷ ts) = if is_moves_token t then [] else t ∷ before_moves ts

-- the tokens after it
abbrev pub behind_moves : List (List ℕ) → List (List ℕ)
behind_moves [] = []
behind_moves (t ∷ ts) = if is_moves_token t then ts else behind_moves ts

-- the text before and after a word
abbrev pub sides : Found → List ℕ × List ℕ
sides part = (part.before, part.after)

abbrev pub if_right : Result Position FenFault → Option Position
if_right (Ok p) = Some p
if_right (Err fault) = None

-- the start of a variant
abbrev pub variant_start : Variant → Position
variant_start Normal = start_position
variant_start Fischer = fischer_start_position

-- the position of a variant that these fields spell
abbrev pub position_in_fields : Variant → List (List ℕ) → Result Position FenFault
position_in_fields Normal fields = position_of_fields fields
position_in_fields Fischer fields = position_of_fields_by Fischer fields

abbrev pub start_if_alone : Variant → List (List ℕ) → Option Position
start_if_alone variant [] = Some (variant_start variant)
start_if_alone variant (t ∷ ts) = None

-- `startpos`, or `fen` and the fields of a position of the variant
abbrev pub start_position_by : Variant → List (List ℕ) → Option Position
start_position_by variant [] = None
start_position_by variant (t ∷ ts) =
    if is_word (codes "startpos") t then start_if_alone variant ts
    else (if is_word (codes "fen") t then if_right (position_in_fields variant ts) else None)

-- the same in normal chess
abbrev pub standard_if_alone : List (List ℕ) → Option Position
standard_if_alone ts = start_if_alone Normal ts

abbrev pub start_position_in : List (List ℕ) → Option Position
start_position_in ts = start_position_by Normal ts

abbrev pub line_to : Position → List (List ℕ) → Option Position → Option Line
line_to p moves None = None
line_to p moves (Some q) = Some (record { start = p; moves = moves; end = q })

abbrev pub line_from : Option Position → List (List ℕ) → Option Line
line_from None moves = None
line_from (Some p) moves = line_to p moves (position_after_texts moves (Some p))

-- the meaning of the tokens after `position`, by the rules of a variant
abbrev pub line_in_variant : Variant → List (List ℕ) → Option Line
line_in_variant variant ts = line_from (start_position_by variant (before_moves ts)) (behind_moves ts)

abbrev pub line_in : List (List ℕ) → Option Line
line_in ts = line_in_variant Normal ts

-- the meaning of a `position` line by the rules of a variant, or nothing if it cannot be read
unfoldable pub position_line_by : Variant → List ℕ → Option Line
position_line_by variant line = line_in_variant variant (drop 1 (tokens line))

-- the same in normal chess
unfoldable pub position_line_in : List ℕ → Option Line
position_line_in line = line_in (drop 1 (tokens line))
