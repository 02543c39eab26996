-- The prefix of eight empty squares.
use Rattle.std.proofs.Common.{◌≡◌, ◌++◌, None, OnOk, subst}
use Rattle.std.proofs.lemmas.List.{take-replicate}
use Rattle.chess_board.specs.Board.{Pieces}
use Rattle.fen_text.proofs.squares.put_empty.Goals as goal

pub returns-clause-items : goal.returns-clause-items
returns-clause-items c =
    subst (λ (squares : Pieces). OnOk c.try_extend_from_slice.result (c.try_extend_from_slice.new.self.items ≡ c.args.row.now.items ++ squares))
    (take-replicate c.args.count 8 None c.requires) c.try_extend_from_slice.ensures.ok
