use Rattle.std.proofs.Common.{◌≤◌, length, subst, ap}
use Rattle.chess_board.specs.Play.{IsPosition}
use Rattle.game_record.specs.Game.{Game}
use Rattle.game_record.proofs.Lines.{most_bytes}
use Rattle.game_record.proofs.game.Game.facts.Goals as goal

pub returns-clause-start : goal.returns-clause-start
returns-clause-start c = subst IsPosition (ap (λ (g : Game). g.start) c.self.view_is) c.facts.ensures.position

pub returns-clause-short : goal.returns-clause-short
returns-clause-short c hint = most_bytes c.args.self.now hint (returns-clause-start c) (subst (λ (g : Game). length g.moves ≤ 12000) c.self.view_is c.self.invariant.few)
