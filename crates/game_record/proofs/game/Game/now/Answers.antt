-- The last of the positions, or the start.
use Rattle.std.proofs.Common.{ap, ◌∙◌}
use Rattle.game_record.specs.Game.{current_position, plies_of}
use Rattle.game_record.proofs.game.Game.now.Goals as goal

pub returns : goal.returns
returns c = c.last_position.ensures (plies_of c.self.inside.moves.items) (c.as_slice.ensures.value ∙ c.self.invariant.positions_are) ∙ ap current_position c.self.view_is
