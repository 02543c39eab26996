use Rattle.std.proofs.Common.{ap, ◌∙◌}
use Rattle.chess_board.specs.Position.{Position}
use Rattle.game_record.specs.Ending.{state_of, ended_of}
use Rattle.game_record.proofs.States.{ended_same}
use Rattle.game_record.proofs.game.ended_in.Goals as goal

pub returns : goal.returns
unfolding ended_of
returns c moves positions times =
    let now = c.last_position-now.ensures moves positions in
    let repeats = c.last_times.ensures (record { start = c.args.start.now; moves = moves }) times in
    c.ended_by.ensures ∙ ended_same _ _ _ _ _ _ (c.state_of.ensures ∙ ap state_of now) repeats (c.half.ensures ∙ ap (λ (p : Position). p.half) now)
