-- The last of the times, or once.
use Rattle.std.proofs.Common.{ℕ, ◌-◌, List, length, sym, ap, ◌∙◌}
use Rattle.std.specs.List.{slice_get}
use Rattle.game_record.proofs.Times.{times_last, times_none}
use Rattle.game_record.proofs.game.last_times.Goals as goal

pub returns-in-Some : goal.returns-in-Some
returns-in-Some c g e =
    times_last g.start g.moves c.in-Some.times.now (ap (λ (xs : List ℕ). slice_get xs (length xs - 1)) (sym e) ∙ sym c.in-Some.ensures.value)

pub returns-in-None : goal.returns-in-None
returns-in-None c g e =
    times_none g.start g.moves (ap (λ (xs : List ℕ). slice_get xs (length xs - 1)) (sym e) ∙ sym c.in-None.ensures.value)
