use Rattle.std.proofs.Common.{◌≡◌, ◌≢◌, ◌-◌, ◌≤◌, ◌==◌, false, true, arith, refl, sym, ap, subst, ◌∙◌, ℕ}
use Rattle.std.proofs.lemmas.Bool.{eq-eqb, false≢true}
use Rattle.chess_board.specs.Attack.{is_clear}
use Rattle.chess_board.specs.Board.{piece_at, is_vacant, distance, on_the_way}
use Rattle.chess_board.specs.Reach.{has}
use Rattle.chess_board.proofs.Below.{each_below-less}
use Rattle.chess_board.proofs.Tied.{not_alone}
use Rattle.chess_board.proofs.shield.shield_between.Goals as goal

pub returns-then-not-is_free : goal.returns-then-not-is_free
returns-then-not-is_free c s out low clear =
    let from = c.args.from.index in let to = c.args.to.index in
    let way = on_the_way from to c.loop-step.step in
    let test = λ (i : ℕ). is_vacant (piece_at c.args.board.now i) in
    let occupant : is_vacant (piece_at c.args.board.now way) ≡ false = ap test (sym c.step_on-at.ensures) ∙ (sym c.is_free.ensures ∙ c.if-not-is_free.true) in
    let same : (c.step_on-at.result.index == c.step_on-at.result.index) ≡ true = eq-eqb c.step_on-at.result.index c.step_on-at.result.index refl in
    let inside : has c.placed.result c.step_on-at.result.index ≡ true = c.placed.ensures c.step_on-at.result.index c.step_on-at.result.on_board ∙ rw same refl in
    let apart : way ≢ s = λ here. false≢true (sym out ∙ subst (λ (i : ℕ). has c.placed.result i ≡ true) (c.step_on-at.ensures ∙ here) inside) in
    not_alone c.args.board.now s from to c.loop-step.step (omega arith) (omega arith) apart occupant clear

pub returns : goal.returns
unfolding is_clear
returns c s out low clear =
    let less : distance c.args.from.index c.args.to.index - 1 ≤ c.loop-step.step - 1 = omega arith in
    each_below-less _ _ _ less c.loop-step.invariant
