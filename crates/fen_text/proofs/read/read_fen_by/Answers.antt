use Rattle.std.proofs.Common.{ap, ◌∙◌}
use Rattle.chess_board.specs.declared.board.Variant.{Variant}
use Rattle.fen_text.specs.Fen.{position_by}
use Rattle.fen_text.proofs.Variants.{by_normal}
use Rattle.fen_text.proofs.read.read_fen_by.Goals as goal

pub returns-clause-normal : goal.returns-clause-normal
returns-clause-normal c normal = c.read_position.ensures ∙ ap (λ (v : Variant). position_by v c.args.text.now) normal ∙ by_normal c.args.text.now
