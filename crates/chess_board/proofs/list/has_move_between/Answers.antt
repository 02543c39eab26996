use Rattle.std.proofs.Common.{sym, ◌∙◌, ◌≡◌, true, arith, Option, subst}
use Rattle.chess_board.specs.declared.board.Kind.{Kind}
use Rattle.chess_board.specs.Rules.{is_legal}
use Rattle.chess_board.specs.Place.{has_way, nth_promotion}
use Rattle.chess_board.proofs.Below.{some_below-hit, some_below-none, some_below-at}
use Rattle.chess_board.proofs.Ways.{no_way}
use Rattle.chess_board.proofs.list.has_move_between.Goals as goal

pub returns-then-not-may_reach_in : goal.returns-then-not-may_reach_in
returns-then-not-may_reach_in c = sym (no_way c.args.setup.now c.args.from.index c.args.to.index (sym c.may_reach_in.ensures ∙ c.if-not-may_reach_in.true))

pub returns-then-is_legal_reach : goal.returns-then-is_legal_reach
unfolding has_way
returns-then-is_legal_reach c =
    let p = c.args.setup.now in
    let legal : is_legal p c.args.from.index c.args.to.index c.promotion_at-promotion.result ≡ true = sym c.is_legal_reach.ensures ∙ c.if-is_legal_reach.true in
    let here : is_legal p c.args.from.index c.args.to.index (nth_promotion c.loop-choice.choice) ≡ true =
    subst (λ (promotion : Option Kind). is_legal p c.args.from.index c.args.to.index promotion ≡ true) c.promotion_at-promotion.ensures legal in
    sym (some_below-hit 5 c.loop-choice.choice (λ choice. is_legal p c.args.from.index c.args.to.index (nth_promotion choice)) (omega arith) here)

pub returns : goal.returns
unfolding has_way
returns c = sym (some_below-none 5 _ (λ k low. some_below-at c.loop-choice.choice k _ c.loop-choice.invariant (omega arith)))

pub is_legal_reach-requires-clause-reach : goal.is_legal_reach-requires-clause-reach
is_legal_reach-requires-clause-reach c = sym c.may_reach_in.ensures ∙ c.if-not-may_reach_in.false
