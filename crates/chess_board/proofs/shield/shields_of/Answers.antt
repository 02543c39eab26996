use Rattle.std.proofs.Common.{◌≡◌, ◌≢◌, ◌<◌, ◌≤◌, ℕ, arith, subst, sym, ⊎_elim}
use Rattle.std.specs.Int.Bits.{bit_or}
use Rattle.std.proofs.lemmas.Bool.{cases_eq, cases_lt}
use Rattle.chess_board.specs.Reach.{Shields}
use Rattle.chess_board.proofs.Tied.{shields_far, shields_left, shields_right}
use Rattle.chess_board.proofs.shield.shields_of.Goals as goal

pub loop-index-init : goal.loop-index-init
loop-index-init c from less =
    let low : from < 64 = omega (arith, c.next_in-index.ensures.on.1) in
    shields_far c.args.board.now c.args.side from c.args.at.index c.near_of-near.result 0 c.near_of-near.ensures low (c.next_in-index.ensures.passed from (omega arith) less)

pub loop-index-preserved : goal.loop-index-preserved
loop-index-preserved c from less =
    let pieces = c.args.board.now in
    let side = c.args.side in
    let at = c.args.at.index in
    let here = c.loop-index.index in
    let a = c.loop-index.shields in
    let b = c.shield_from-shields.result in
    ⊎_elim (λ (h : from < here). shields_left pieces side from at a b (c.loop-index.invariant from h))
    (λ (h : here ≤ from).
    ⊎_elim (λ (e : from ≡ here). subst (λ (i : ℕ). Shields pieces side i at (bit_or a b)) (sym e) (shields_right pieces side here at a b (c.shield_from-shields.ensures side)))
    (λ (n : from ≢ here).
    let low : from < 64 = omega (arith, c.next_in-index-in-loop-index.ensures.on.1) in
    shields_far pieces side from at c.near_of-near.result (bit_or a b) c.near_of-near.ensures low (c.next_in-index-in-loop-index.ensures.passed from (omega arith) less))
    (cases_eq from here))
    (cases_lt from here)

pub returns : goal.returns
returns c from low = c.loop-index.invariant from (omega arith)
