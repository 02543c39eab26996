use Rattle.std.proofs.Common.{◌≡◌, true, sym, ap, ◌∙◌}
use Rattle.chess_board.specs.Attack.{is_clear}
use Rattle.chess_board.specs.Position.{Position}
use Rattle.chess_board.specs.Reach.{is_slider}
use Rattle.chess_board.proofs.Bounded.{goes_lands, slider_goes, slider_form, slider_line}
use Rattle.chess_board.proofs.rules.may_go_on.Goals as goal

pub returns-then-slides : goal.returns-then-slides
returns-then-slides c =
    let is : is_slider c.args.kind ≡ true = sym c.slides.ensures ∙ c.if-slides.true in
    c.is_clear_between.ensures ∙ ap (λ (p : Position). is_clear p.pieces c.args.from.index c.args.to.index) c.setup.view_is ∙ slider_goes c.args.setup.now c.args.kind c.args.from.index c.args.to.index is c.requires

pub returns-else-slides : goal.returns-else-slides
returns-else-slides c = c.may_go.ensures ∙ goes_lands c.args.setup.now c.args.kind c.args.from.index c.args.to.index c.requires

pub is_clear_between-requires : goal.is_clear_between-requires
is_clear_between-requires c =
    let is : is_slider c.args.kind ≡ true = sym c.slides.ensures ∙ c.if-slides.true in
    slider_line c.args.setup.now.side c.args.kind c.args.from.index c.args.to.index is (slider_form c.args.setup.now c.args.kind c.args.from.index c.args.to.index is c.requires)
