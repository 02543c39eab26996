-- Equal positions and equal moves.
use Rattle.std.specs.Prelude.{ℕ, Bool, ◌&&◌, ◌==◌}
use Rattle.std.specs.Option.{option_eq}
use Rattle.chess_board.specs.Position.{Position}
use Rattle.game_record.specs.Game.{Ply}
use Rattle.game_record.specs.Ending.{is_same}
use Rattle.san_text.specs.Writing.{same_san_kind}

-- the same position, with its counts
abbrev pub same_position : Position → Position → Bool
same_position p q = is_same p q && ((p.half == q.half) && (p.full == q.full))

abbrev pub same_ply : Ply → Ply → Bool
same_ply a b = ((a.from == b.from) && (a.to == b.to)) && option_eq same_san_kind a.promotion b.promotion
