use Rattle.std.proofs.Common.{List, ℕ, Some, refl, sym, subst, inl}
use Rattle.driver_state_machine.specs.Moves.{IsThought}
use Rattle.driver_state_machine.proofs.moves.thought_move.Goals as goal

pub returns-in-Some-shown_move : goal.returns-in-Some-shown_move
returns-in-Some-shown_move c =
    let m = c.in-Some-shown_move.m in
    c.loop-token.invariant (Some m) (subst (λ (ts : List (List ℕ)). IsThought c.args.at.now ts (Some m)) (sym c.in-Some.ensures.first) (inl (m, (c.in-Some-shown_move.ensures, refl))))
