use Rattle.std.proofs.Common.{◌≤◌, ◌<◌, arith, ⊎_elim}
use Rattle.std.proofs.lemmas.Bool.{cases_lt}
use Rattle.chess_board.proofs.list.next_place.Goals as goal

pub loop-place-preserved : goal.loop-place-preserved
loop-place-preserved c = (
  (omega arith, omega arith),
  λ k low less.
      ⊎_elim (λ (h : k < c.loop-place.place). c.loop-place.invariant.1 k low h) (λ (h : c.loop-place.place ≤ k). c.next_on_file-next.ensures.passed k h less) (cases_lt k c.loop-place.place),
)

pub returns-then-next-place-clause-passed : goal.returns-then-next-place-clause-passed
returns-then-next-place-clause-passed c k low less =
    ⊎_elim (λ (h : k < c.loop-place.place). c.loop-place.invariant.1 k low h) (λ (h : c.loop-place.place ≤ k). c.next_on_file-next.ensures.passed k h less) (cases_lt k c.loop-place.place)
