use Rattle.std.proofs.Common.{sym, ◌∙◌}
use Rattle.std.proofs.lemmas.Bool.{false≢true}
use Rattle.chess_board.proofs.Tied.{shields_line}
use Rattle.chess_board.proofs.shield.shield_from.Goals as goal

pub returns-then-is_on_line : goal.returns-then-is_on_line
returns-then-is_on_line c side = shields_line c.args.board.now side c.args.from.index c.args.to.index c.shield_between.result (λ on s out low clear. c.shield_between.ensures s out low clear)

pub returns-else-is_on_line : goal.returns-else-is_on_line
returns-else-is_on_line c side =
    shields_line c.args.board.now side c.args.from.index c.args.to.index 0 (λ on s out low clear. absurd (false≢true (sym c.if-is_on_line.false ∙ (c.is_on_line.ensures ∙ on))))

pub shield_between-requires : goal.shield_between-requires
shield_between-requires c = sym c.is_on_line.ensures ∙ c.if-is_on_line.true
