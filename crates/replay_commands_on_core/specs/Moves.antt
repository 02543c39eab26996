-- The behaviour of the command `moves`.
use Rattle.std.specs.Prelude.{◌≡◌, ℕ, List, [], ◌∷◌, ◌++◌, Result, Ok, Err}
use Rattle.std.specs.List.{join_with_byte}
use Rattle.std.specs.Io.KnownBytes.{Appends}
use Rattle.line_io.specs.Source.{Received, TakesPrefix}
use Rattle.chess_board.specs.declared.board.Move.{Move}
use Rattle.chess_board.specs.Position.{Position}
use Rattle.chess_board.specs.Text.{text_of_move, AreLegalMoves}
use Rattle.fen_text.specs.declared.fault.FenFault.{FenFault}
use Rattle.replay_command_base.specs.declared.ending.Ending.TheVariants as endings
use Rattle.replay_command_base.specs.Diagnostics.{one_line, position_fault, tail_of}
use Rattle.replay_command_base.specs.DiagnosticWritten.{DiagnosticWritten, LinesWritten}
use Rattle.protocol_tokens.specs.Bytes.{blank}

-- each word after a blank
abbrev pub behind_blanks : List (List ℕ) → List ℕ
behind_blanks [] = []
behind_blanks (word ∷ arguments) = blank ∷ (word ++ behind_blanks arguments)

-- the words, with a blank between each two
abbrev pub fen_argument : List (List ℕ) → List ℕ
fen_argument arguments = join_with_byte blank arguments

-- the texts of moves, one a line
abbrev pub move_lines : List Move → List ℕ
move_lines [] = []
move_lines (m ∷ moves) = one_line (text_of_move m) ++ move_lines moves

-- exactly the legal moves were written, or a prefix of them
pub record WritesMoves (p : Position) (silent : Type 0) (code : ℕ)
    (output output_now diag diag_now : Received) : Type 0 where
  pub moves : List Move
  pub legal : AreLegalMoves p moves
  pub writes : LinesWritten (move_lines moves) silent code output output_now diag diag_now

-- The listing of the moves of what a text spells. Nothing is written to the output if there is
-- no memory or no position.
pub data Lists (spelled : Result Position FenFault) (kept silent : Type 0) (code : ℕ)
    (output output_now diag diag_now : Received) : Type 0 where
  WantsMemory : kept → DiagnosticWritten code 3 (tail_of endings.NoMemory) diag diag_now
      → Lists spelled kept silent code output output_now diag diag_now
  Refuses : (fault : FenFault) → spelled ≡ Err fault → kept → DiagnosticWritten code 2
      (position_fault fault) diag diag_now
      → Lists spelled kept silent code output output_now diag diag_now
  Writes_all : (p : Position) → spelled ≡ Ok p → WritesMoves p silent code output output_now diag
      diag_now
      → Lists spelled kept silent code output output_now diag diag_now

-- the output took exactly the legal moves of the position that was spelled
pub record ListsAll (spelled : Result Position FenFault)
    (output output_now : Received) : Type 0 where
  pub position : Position
  pub is_spelled : spelled ≡ Ok position
  pub moves : List Move
  pub legal : AreLegalMoves position moves
  pub written : Appends output.taken output_now.taken (move_lines moves)

-- the output took a prefix of the legal moves of the position that was spelled
pub record ListsPrefix (spelled : Result Position FenFault)
    (output output_now : Received) : Type 0 where
  pub position : Position
  pub is_spelled : spelled ≡ Ok position
  pub moves : List Move
  pub legal : AreLegalMoves position moves
  pub written : TakesPrefix output.taken output_now.taken (move_lines moves)

-- the text spells no position, and its fault was reported
pub record FindsNoPosition (spelled : Result Position FenFault)
    (diag diag_now : Received) : Type 0 where
  pub fault : FenFault
  pub is_spelled : spelled ≡ Err fault
  pub is_announced : Appends diag.taken diag_now.taken (position_fault fault)
