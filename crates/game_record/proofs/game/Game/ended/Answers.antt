use Rattle.std.proofs.Common.{ap, ◌∙◌}
use Rattle.game_record.specs.Ending.{ended_of}
use Rattle.game_record.proofs.game.Game.ended.Goals as goal

pub returns : goal.returns
returns c = c.self.invariant.ended_is ∙ ap ended_of c.self.view_is
