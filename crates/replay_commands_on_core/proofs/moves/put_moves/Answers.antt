-- Each move has a text.
use Rattle.std.proofs.Common.{sym, subst, arith}
use Rattle.std.specs.Prelude.{Contains}
use Rattle.std.proofs.lemmas.List.Elements.{Contains-get_or}
use Rattle.chess_board.specs.declared.board.Move.{Move}
use Rattle.replay_commands_on_core.proofs.moves.put_moves.Goals as goal

pub put_line-requires-clause-officer : goal.put_line-requires-clause-officer
put_line-requires-clause-officer c =
    c.requires.officers c.m-item.result (subst (λ (m : Move). Contains c.args.moves.now m) (sym c.m-item.is) (Contains-get_or c.args.moves.now c.loop-m.m-index c.m-item.result (omega arith)))
