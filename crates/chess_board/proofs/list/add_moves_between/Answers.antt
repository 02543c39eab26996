use Rattle.std.proofs.Common.{sym, ◌∙◌, arith, ◌≡◌, true, false, length, ap, lit<, ◌<◌, ◌+◌, ◌*◌, ◌++◌, ◌∷◌, [], ℕ, subst}
use Rattle.chess_board.specs.declared.board.Move.{Move}
use Rattle.chess_board.specs.Rules.{is_legal, reaches_to}
use Rattle.chess_board.specs.Place.{IsDone, nth_promotion, legal, legal_at, ordered_square}
use Rattle.chess_board.proofs.Places.{skips_choices, IsMoveAt, is_move_at, done_push, done_skip, legal_is}
use Rattle.chess_board.proofs.Total.{few_moves}
use Rattle.chess_board.proofs.list.add_moves_between.Goals as goal
use Rattle.chess_board.proofs.list.add_moves_between.Goals.{then-is_legal_reach, else-is_legal_reach}

pub push-requires : goal.push-requires
push-requires c =
    let p = c.args.setup.now in
    let f = c.args.from_place in let t = c.args.to_place in let q = c.loop-choice.choice in
    let n : ℕ = f * 320 + t * 5 + q in
    let low5 : q < 5 = omega (arith, c.choice_count-choices.ensures.few) in
    let m : Move = record { from = c.square_in_order-from.result; to = c.square_in_order-to.result; promotion = c.promotion_at-promotion.result } in
    let at : IsMoveAt m n = is_move_at m f t q c.requires.places.0 c.requires.places.1 low5 c.square_in_order-from.ensures c.square_in_order-to.ensures c.promotion_at-promotion.ensures in
    let legal' : legal_at p n ≡ true = sym (legal_is p m n at) ∙ (sym c.is_legal_reach.ensures ∙ c.if-is_legal_reach.true) in
    let places = c.requires.places in let low = places.0 in let low' = places.1 in
    let few = few_moves p n c.requires.pieces (omega arith) legal' in
    let done : IsDone p c.loop-choice.moves.items n = c.loop-choice.invariant in
    let size = done.few in
    let room : length c.loop-choice.moves.items < 512 = omega arith in
    (lit< tt, room)

pub loop-choice-preserved : goal.loop-choice-preserved
loop-choice-preserved c =
    let p = c.args.setup.now in
    let f = c.args.from_place in let t = c.args.to_place in let q = c.loop-choice.choice in
    let n : ℕ = f * 320 + t * 5 + q in
    let low5 : q < 5 = omega (arith, c.choice_count-choices.ensures.few) in
    let m : Move = record { from = c.square_in_order-from.result; to = c.square_in_order-to.result; promotion = c.promotion_at-promotion.result } in
    let at : IsMoveAt m n = is_move_at m f t q c.requires.places.0 c.requires.places.1 low5 c.square_in_order-from.ensures c.square_in_order-to.ensures c.promotion_at-promotion.ensures in
    let places = c.requires.places in let low = places.0 in let low' = places.1 in
    let out = c.loop-choice.moves.items in
    let within : n < 20480 = omega arith in
    let next : n + 1 ≡ f * 320 + t * 5 + (q + 1) = omega arith in
    elim c.if-is_legal_reach.branch [
      | then-is_legal_reach w ↦
          let pushed : c.if-is_legal_reach.moves.items ≡ out ++ m ∷ [] = ap (λ v. v.items) w.moves-is ∙ w.push.ensures.items in
          let is : legal p m ≡ true = sym c.is_legal_reach.ensures ∙ w.if-is_legal_reach.true in
          rw pushed (subst (λ (i : ℕ). IsDone p (out ++ m ∷ []) i) next (done_push p out n m within c.loop-choice.invariant at is))
      | else-is_legal_reach w ↦
          let same : c.if-is_legal_reach.moves.items ≡ out = ap (λ v. v.items) w.moves-is in
          let never : legal p m ≡ false = sym c.is_legal_reach.ensures ∙ w.if-is_legal_reach.false in
          rw same (subst (λ (i : ℕ). IsDone p out i) next (done_skip p out n m within c.loop-choice.invariant at never))
    ]

pub is_legal_reach-requires-clause-reach : goal.is_legal_reach-requires-clause-reach
is_legal_reach-requires-clause-reach c =
    let p = c.args.setup.now in
    subst (λ (i : ℕ). reaches_to p i c.square_in_order-to.result.index ≡ true) (sym c.square_in_order-from.ensures)
    (subst (λ (i : ℕ). reaches_to p (ordered_square c.args.from_place) i ≡ true) (sym c.square_in_order-to.ensures) c.requires.reach)

pub returns : goal.returns
returns c =
    let p = c.args.setup.now in
    let f = c.args.from_place in let t = c.args.to_place in let n = c.loop-choice.choice in
    let count : n ≡ c.choice_count-choices.result = omega arith in
    let places = c.requires.places in
    skips_choices p c.loop-choice.moves.items f t n places.0 places.1 (omega (arith, c.choice_count-choices.ensures.few)) c.loop-choice.invariant
    (λ q low high.
    let rest = c.choice_count-choices.ensures.rest q (omega arith) high in
    subst (λ (i : ℕ). is_legal p i (ordered_square t) (nth_promotion q) ≡ false) c.square_in_order-from.ensures
    (subst (λ (i : ℕ). is_legal p c.square_in_order-from.result.index i (nth_promotion q) ≡ false) c.square_in_order-to.ensures rest))
