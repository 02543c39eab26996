use Rattle.std.proofs.Common.{◌∙◌, ◌==◌, ap, sym}
use Rattle.std.proofs.lemmas.Bool.{not-false}
use Rattle.chess_board.specs.Rules.{is_legal}
use Rattle.san_text.specs.Writing.{same_san_kind, kind_at}
use Rattle.san_text.proofs.Bools.{differs, rival_is}
use Rattle.san_text.proofs.pieces.is_rival.Goals as goal

pub returns : goal.returns
returns c =
    let s = c.args.square.index in
    let m = c.args.m in
    let p = c.args.at.now in
    let kinds = ap (λ k. same_san_kind k (kind_at p m.from.index)) (sym c.kind_at.ensures) ∙ ap (λ k. same_san_kind c.kind_at.result k) (sym c.kind_at-2.ensures) in
    rival_is (s == m.from.index) (same_san_kind (kind_at p s) (kind_at p m.from.index)) (is_legal p s m.to.index m.promotion) c.legal.result
    (differs s m.from.index c.if-square-m.false)
    (kinds ∙ not-false (same_san_kind c.kind_at.result c.kind_at-2.result) (sym c.ne.ensures ∙ c.if-ne.false))
    c.legal.ensures.value
