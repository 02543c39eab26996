-- The text of a move in a game is that of the standard.
use Rattle.std.proofs.Common.{◌≡◌, ℕ, ◌%◌, ◌<◌, refl, sym, ap, ◌∙◌, arith}
use Rattle.chess_board.specs.declared.board.Move.{Move}
use Rattle.chess_board.proofs.Places.{move_same}
use Rattle.game_record.specs.Game.{ply_of}
use Rattle.san_text.specs.Writing.{san_of_move as text_of}
use Rattle.san_text.proofs.Signs.{the_text}
use Rattle.san_text.specs.GameSan.{move_of_ply, san_of_ply, SanLaw}

small : (s : ℕ) → s < 64 → s % 64 ≡ s
small s h = omega arith

pub move_again : (m : Move) → move_of_ply (ply_of m) ≡ m
move_again m =
    move_same (move_of_ply (ply_of m)) m (small m.from.index m.from.on_board) (small m.to.index m.to.on_board) refl

pub san-law : SanLaw
unfolding san_of_ply
san-law p m text = (
  λ w. (the_text p m text).0 w ∙ ap (text_of p) (sym (move_again m)),
  λ e. (the_text p m text).1 (e ∙ ap (text_of p) (move_again m)),
)
