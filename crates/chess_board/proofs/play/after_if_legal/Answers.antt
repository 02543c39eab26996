use Rattle.std.proofs.Common.{Some, sym, ap, ◌∙◌}
use Rattle.chess_board.specs.declared.board.Side.{Side}
use Rattle.chess_board.specs.Board.{piece_at}
use Rattle.chess_board.specs.Position.{Position}
use Rattle.chess_board.proofs.Bounded.{never_none, reach_owner}
use Rattle.chess_board.proofs.Places.{never_to}
use Rattle.chess_board.proofs.Tried.{left_none}
use Rattle.chess_board.proofs.play.after_if_legal.Goals as goal

pub returns-in-None : goal.returns-in-None
returns-in-None c =
    let p = c.args.setup.now in
    let m = c.args.m in
    let none = sym (ap (λ (q : Position). piece_at q.pieces m.from.index) c.setup.view_is) ∙ sym c.occupant.ensures ∙ c.in-None.is in
    left_none p m (never_to p m.from.index m.to.index m.promotion (never_none p m.from.index m.to.index none))

pub after_reach-requires-clause-occupant : goal.after_reach-requires-clause-occupant
after_reach-requires-clause-occupant c =
    let p = c.args.setup.now in
    let m = c.args.m in
    let occupant = sym (ap (λ (q : Position). piece_at q.pieces m.from.index) c.setup.view_is) ∙ sym c.occupant.ensures ∙ c.in-Some.is in
    let owner = reach_owner p c.in-Some.owner c.in-Some.kind m.from.index m.to.index occupant (sym c.piece_reaches.ensures ∙ c.if-piece_reaches.true) in
    occupant ∙ ap (λ (s : Side). Some (s, c.in-Some.kind)) owner

pub returns-else-piece_reaches : goal.returns-else-piece_reaches
returns-else-piece_reaches c =
    let p = c.args.setup.now in
    let m = c.args.m in
    left_none p m (never_to p m.from.index m.to.index m.promotion (sym c.piece_reaches.ensures ∙ c.if-piece_reaches.false))
