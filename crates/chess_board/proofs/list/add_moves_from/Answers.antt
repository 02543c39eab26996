use Rattle.std.proofs.Common.{sym, ◌∙◌, arith, ◌≡◌, true, false, ap, ◌+◌, ◌*◌, ℕ, subst}
use Rattle.chess_board.specs.Rules.{reaches_to}
use Rattle.chess_board.specs.Place.{IsDone, ordered_square}
use Rattle.chess_board.proofs.Bounded.{ways_bound}
use Rattle.chess_board.proofs.Places.{skip_to, skips_to, reach_off}
use Rattle.chess_board.proofs.list.add_moves_from.Goals as goal
use Rattle.chess_board.proofs.list.add_moves_from.Goals.{then-may_reach_in, else-may_reach_in}

pub loop-to_place-init : goal.loop-to_place-init
loop-to_place-init c =
    let p = c.args.setup.now in
    let f = c.args.from_place in
    let u = c.next_place-to_place.result in
    let begin : f * 320 + 0 * 5 ≡ f * 320 = omega arith in
    let high = c.next_place-to_place.ensures.on.1 in (
      high,
      skips_to p c.args.moves.now.items f 0 u c.requires.place (omega arith) high (subst (λ (i : ℕ). IsDone p c.args.moves.now.items i) (sym begin) c.requires.done)
          (λ k low less. reach_off p c.ways_from-ways.result f k c.square_in_order-from.result.index c.square_in_order-from.ensures (ways_bound p c.square_in_order-from.result.index c.ways_from-ways.result c.ways_from-ways.ensures) (omega arith) (c.next_place-to_place.ensures.passed k low less)),
    )

pub loop-to_place-preserved : goal.loop-to_place-preserved
loop-to_place-preserved c =
    let p = c.args.setup.now in
    let f = c.args.from_place in let t = c.loop-to_place.to_place in
    let out = c.loop-to_place.moves.items in
    let after = c.if-may_reach_in.moves.items in
    let next : f * 320 + t * 5 + 5 ≡ f * 320 + (t + 1) * 5 = omega arith in
    let done : IsDone p after (f * 320 + (t + 1) * 5) = elim c.if-may_reach_in.branch [
      | then-may_reach_in w ↦
          let items : c.if-may_reach_in.moves.items ≡ w.add_moves_between.new.moves.items = ap (λ v. v.items) w.moves-is in
          rw items (subst (λ (i : ℕ). IsDone p w.add_moves_between.new.moves.items i) next w.add_moves_between.ensures)
      | else-may_reach_in w ↦
          let same : c.if-may_reach_in.moves.items ≡ out = ap (λ v. v.items) w.moves-is in
          let never : reaches_to p c.square_in_order-from.result.index c.square_in_order.result.index ≡ false = sym c.may_reach_in.ensures ∙ w.if-may_reach_in.false in
          let here : reaches_to p (ordered_square f) (ordered_square t) ≡ false =
          subst (λ (i : ℕ). reaches_to p i (ordered_square t) ≡ false) c.square_in_order-from.ensures (subst (λ (i : ℕ). reaches_to p c.square_in_order-from.result.index i ≡ false) c.square_in_order.ensures never) in
          rw same (skip_to p out f t c.requires.place c.loop-to_place-test.true c.loop-to_place.invariant.1 here)
    ] in
    let u = c.next_place-to_place-in-loop-to_place.result in
    let high = c.next_place-to_place-in-loop-to_place.ensures.on.1 in (
      high,
      skips_to p after f (t + 1) u c.requires.place c.next_place-to_place-in-loop-to_place.ensures.on.0 high done
          (λ k low less. reach_off p c.ways_from-ways.result f k c.square_in_order-from.result.index c.square_in_order-from.ensures (ways_bound p c.square_in_order-from.result.index c.ways_from-ways.result c.ways_from-ways.ensures) (omega arith) (c.next_place-to_place-in-loop-to_place.ensures.passed k low less)),
    )

pub returns : goal.returns
returns c =
    let p = c.args.setup.now in
    let all : c.loop-to_place.to_place ≡ 64 = omega (arith, c.loop-to_place.invariant.0) in
    let end : c.args.from_place * 320 + c.loop-to_place.to_place * 5 ≡ c.args.from_place * 320 + 320 = omega arith in
    subst (λ (i : ℕ). IsDone p c.loop-to_place.moves.items i) end c.loop-to_place.invariant.1

pub add_moves_between-requires-clause-reach : goal.add_moves_between-requires-clause-reach
add_moves_between-requires-clause-reach c =
    let p = c.args.setup.now in
    subst (λ (i : ℕ). reaches_to p i (ordered_square c.loop-to_place.to_place) ≡ true) c.square_in_order-from.ensures
    (subst (λ (i : ℕ). reaches_to p c.square_in_order-from.result.index i ≡ true) c.square_in_order.ensures (sym c.may_reach_in.ensures ∙ c.if-may_reach_in.true))
