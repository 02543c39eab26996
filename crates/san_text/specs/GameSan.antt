-- The moves of a game in standard algebraic notation (FIDE Laws, appendix C; PGN standard, 8.2.3).
use Rattle.std.specs.Prelude.{ℕ, ◌≡◌, ◌↔◌, ◌%◌, List}
use Rattle.std.proofs.Common.{lit<}
use Rattle.std.proofs.lemmas.Nat.{mod_below}
use Rattle.chess_board.specs.declared.board.Move.{Move}
use Rattle.chess_board.specs.declared.board.Square.{Square}
use Rattle.chess_board.specs.Position.{Position}
use Rattle.game_record.specs.Game.{Ply, ply_of}
use Rattle.san_text.specs.Writing.{IsSan, san_of_move as text_of}

-- the square of a number below 64
abbrev pub square : ℕ → Square
square s = record { index = s % 64; on_board = mod_below s 64 (lit< tt) }

abbrev pub move_of_ply : Ply → Move
move_of_ply m = record { from = square m.from; to = square m.to; promotion = m.promotion }

-- the text of a move
unfoldable pub san_of_ply : Position → Ply → List ℕ
san_of_ply p m = text_of p (move_of_ply m)

-- it is the one text of the move by the standard
abbrev pub SanLaw : Type 0
SanLaw =
    (p : Position) (m : Move) (text : List ℕ) → IsSan p m text ↔ (text ≡ san_of_ply p (ply_of m))
