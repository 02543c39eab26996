-- The last of the times, or once.
use Rattle.std.proofs.Common.{ap, ◌∙◌}
use Rattle.game_record.specs.Game.{plies_of}
use Rattle.game_record.specs.Ending.{repeats_of}
use Rattle.game_record.proofs.game.Game.repeats.Goals as goal

pub returns : goal.returns
returns c =
    c.last_times.ensures (record { start = c.self.inside.start; moves = plies_of c.self.inside.moves.items }) (c.as_slice.ensures.value ∙ c.self.invariant.times_are)
    ∙ ap repeats_of c.self.view_is
