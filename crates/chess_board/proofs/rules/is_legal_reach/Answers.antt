use Rattle.std.proofs.Common.{◌≡◌, true, false, not, refl, sym, ap, ◌∙◌, Some}
use Rattle.std.proofs.lemmas.Bool.{false≢true}
use Rattle.chess_board.specs.declared.board.Side.{Side}
use Rattle.chess_board.specs.Board.{piece_at}
use Rattle.chess_board.specs.Position.{Position}
use Rattle.chess_board.specs.Rules.{promotes}
use Rattle.chess_board.proofs.Bounded.{legal_reach, never_none, reach_owner}
use Rattle.chess_board.proofs.rules.is_legal_reach.Goals as goal

pub returns-in-None : goal.returns-in-None
returns-in-None c =
    let none = sym (ap (λ (p : Position). piece_at p.pieces c.args.m.from.index) c.setup.view_is) ∙ sym c.occupant.ensures ∙ c.in-None.is in
    absurd (false≢true (sym (never_none c.args.setup.now c.args.m.from.index c.args.m.to.index none) ∙ c.requires.reach))

pub returns-then-has_promotion : goal.returns-then-has_promotion
returns-then-has_promotion c =
    let p = c.args.setup.now in
    let m = c.args.m in
    let piece = c.in-Some.kind in
    let side = ap (λ (q : Position). q.side) c.setup.view_is in
    let occupant = sym (ap (λ (q : Position). piece_at q.pieces m.from.index) c.setup.view_is) ∙ sym c.occupant.ensures ∙ c.in-Some.is in
    let promotes' : promotes p.side piece m.to.index m.promotion ≡ true = ap (λ (s : Side). promotes s piece m.to.index m.promotion) (sym side) ∙ sym c.has_promotion.ensures ∙ c.if-has_promotion.true in
    ap not c.is_checked_after.ensures ∙ sym (legal_reach p c.in-Some.field-0-0 piece m.from.index m.to.index m.promotion occupant c.requires.reach ∙ rw promotes' refl)

pub returns-else-has_promotion : goal.returns-else-has_promotion
returns-else-has_promotion c =
    let p = c.args.setup.now in
    let m = c.args.m in
    let piece = c.in-Some.kind in
    let side = ap (λ (q : Position). q.side) c.setup.view_is in
    let occupant = sym (ap (λ (q : Position). piece_at q.pieces m.from.index) c.setup.view_is) ∙ sym c.occupant.ensures ∙ c.in-Some.is in
    let promotes' : promotes p.side piece m.to.index m.promotion ≡ false = ap (λ (s : Side). promotes s piece m.to.index m.promotion) (sym side) ∙ sym c.has_promotion.ensures ∙ c.if-has_promotion.false in
    c.if-has_promotion.false ∙ sym (legal_reach p c.in-Some.field-0-0 piece m.from.index m.to.index m.promotion occupant c.requires.reach ∙ rw promotes' refl)

pub is_checked_after-requires-clause-occupant : goal.is_checked_after-requires-clause-occupant
is_checked_after-requires-clause-occupant c =
    let m = c.args.m in
    let occupant = sym (ap (λ (q : Position). piece_at q.pieces m.from.index) c.setup.view_is) ∙ sym c.occupant.ensures ∙ c.in-Some.is in
    let owner = reach_owner c.args.setup.now c.in-Some.field-0-0 c.in-Some.kind m.from.index m.to.index occupant c.requires.reach in
    occupant ∙ ap (λ (s : Side). Some (s, c.in-Some.kind)) owner
