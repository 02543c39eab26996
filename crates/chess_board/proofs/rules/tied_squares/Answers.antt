use Rattle.std.proofs.Common.{◌≡◌, ◌≢◌, ◌<◌, ◌≤◌, ℕ, false, None, length, sym, subst, arith, ⊎_elim, ◌∙◌}
use Rattle.std.proofs.lemmas.Bool.{cases_lt, or_parts}
use Rattle.chess_board.specs.Attack.{is_checked}
use Rattle.chess_board.specs.Board.{piece_at, is_king, other}
use Rattle.chess_board.specs.declared.board.Side.{Side}
use Rattle.chess_board.specs.Position.{Position}
use Rattle.chess_board.specs.Reach.{has, IsSetOf, Shields}
use Rattle.chess_board.proofs.Sets.{has-either}
use Rattle.chess_board.proofs.Tied.{frees_all, unpinned, no_some}
use Rattle.chess_board.proofs.rules.tied_squares.Goals as goal

pub returns-then-is_some : goal.returns-then-is_some
returns-then-is_some c = frees_all c.args.setup.now

pub returns-then-king-ge64 : goal.returns-then-king-ge64
returns-then-king-ge64 c = frees_all c.args.setup.now

pub returns : goal.returns
returns c piece from to promotion fl tl out occupant promoted =
    let p = c.args.setup.now in
    let kings = c.king_set-kings.result in
    let k = c.next_in-king.result in
    let set : IsSetOf (λ s. is_king p.side (piece_at p.pieces s)) kings = subst (λ (q : Position). IsSetOf (λ s. is_king q.side (piece_at q.pieces s)) kings) c.setup.view_is c.king_set-kings.ensures.set in
    let size : length p.pieces ≡ 64 = subst (λ (q : Position). length q.pieces ≡ 64) c.setup.view_is c.king_set-kings.ensures.whole in
    let quiet : is_checked p.pieces p.side ≡ false = sym c.in_check.ensures ∙ c.if-in_check.false in
    let none : p.passant ≡ None = subst (λ (q : Position). q.passant ≡ None) c.setup.view_is (no_some c.setup.inside.passant (sym c.is_some.ensures ∙ c.if-is_some.false)) in
    let low : k < 64 = omega arith in
    let apart = or_parts (has kings from) (has c.shields_of.result from) (sym (has-either kings c.shields_of.result from) ∙ out) in
    let shielded : (x : ℕ) → x < 64 → Shields p.pieces (other p.side) x k c.shields_of.result = λ x l. subst (λ (q : Position). Shields q.pieces (other q.side) x k c.shields_of.result) c.setup.view_is (subst (λ (s : Side). Shields c.setup.inside.board s x k c.shields_of.result) c.other.ensures (c.shields_of.ensures x l)) in
    unpinned p k from to c.shields_of.result piece promotion size quiet none low
    (λ (s : ℕ) (l : s < 64) (other : s ≢ k).
    sym (set s l) ∙ ⊎_elim (λ (h : s < k). c.next_in-king.ensures.passed s (omega arith) h) (λ (h : k ≤ s). c.next_in.ensures.passed s (omega arith) (omega arith)) (cases_lt s k))
    fl tl occupant promoted (sym (set from fl) ∙ apart.0) shielded apart.1
