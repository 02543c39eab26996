-- The last of the positions, or the start.
use Rattle.std.proofs.Common.{◌-◌, List, length, sym, ap, ◌∙◌}
use Rattle.std.specs.List.{slice_get}
use Rattle.chess_board.specs.Position.{Position}
use Rattle.game_record.proofs.Replays.{last_some, last_none}
use Rattle.game_record.proofs.game.last_position.Goals as goal

pub returns-in-Some : goal.returns-in-Some
returns-in-Some c moves e =
    last_some c.args.start.now moves c.in-Some.position.now (ap (λ (xs : List Position). slice_get xs (length xs - 1)) (sym e) ∙ sym c.in-Some.ensures.value)

pub returns-in-None : goal.returns-in-None
returns-in-None c moves e =
    last_none c.args.start.now moves (ap (λ (xs : List Position). slice_get xs (length xs - 1)) (sym e) ∙ sym c.in-None.ensures.value)
