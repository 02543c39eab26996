use Rattle.std.proofs.Common.{◌≡◌, true, false, sym, ap, ◌∙◌}
use Rattle.chess_board.specs.declared.board.Side.{Side}
use Rattle.chess_board.specs.Position.{Position}
use Rattle.chess_board.specs.Rules.{promotes}
use Rattle.chess_board.specs.Play.{with_legal_en_passant}
use Rattle.chess_board.proofs.Tried.{checked_same, left_unfit, left_unsafe, left_some}
use Rattle.chess_board.proofs.play.after_reach.Goals as goal

pub returns-then-not-has_promotion : goal.returns-then-not-has_promotion
returns-then-not-has_promotion c =
    let p = c.args.setup.now in
    let m = c.args.m in
    let side = ap (λ (q : Position). q.side) c.setup.view_is in
    let unfit : promotes p.side c.args.kind m.to.index m.promotion ≡ false = ap (λ (s : Side). promotes s c.args.kind m.to.index m.promotion) (sym side) ∙ sym c.has_promotion.ensures ∙ c.if-not-has_promotion.true in
    left_unfit p m c.args.kind c.requires.occupant c.requires.reach unfit

pub returns-then-is_in_check : goal.returns-then-is_in_check
returns-then-is_in_check c =
    let p = c.args.setup.now in
    let m = c.args.m in
    let side = ap (λ (q : Position). q.side) c.setup.view_is in
    let fit : promotes p.side c.args.kind m.to.index m.promotion ≡ true = ap (λ (s : Side). promotes s c.args.kind m.to.index m.promotion) (sym side) ∙ sym c.has_promotion.ensures ∙ c.if-not-has_promotion.false in
    let pieces = ap (λ (q : Position). q.pieces) (c.left.view_is ∙ c.followed-left.ensures.value) in
    left_unsafe p m c.args.kind c.requires.occupant c.requires.reach fit (checked_same _ true _ _ _ _ c.is_in_check.ensures pieces side c.if-is_in_check.true)

pub returns : goal.returns
returns c =
    let p = c.args.setup.now in
    let m = c.args.m in
    let side = ap (λ (q : Position). q.side) c.setup.view_is in
    let fit : promotes p.side c.args.kind m.to.index m.promotion ≡ true = ap (λ (s : Side). promotes s c.args.kind m.to.index m.promotion) (sym side) ∙ sym c.has_promotion.ensures ∙ c.if-not-has_promotion.false in
    let pieces = ap (λ (q : Position). q.pieces) (c.left.view_is ∙ c.followed-left.ensures.value) in
    left_some p m c.args.kind c.settle.result c.requires.occupant c.requires.reach fit (checked_same _ false _ _ _ _ c.is_in_check.ensures pieces side c.if-is_in_check.false)
    (c.settle.ensures ∙ ap with_legal_en_passant c.followed-left.ensures.value)
