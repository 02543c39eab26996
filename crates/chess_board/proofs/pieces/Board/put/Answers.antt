use Rattle.std.proofs.Common.{Bool, arith, subst, ◌∙◌, ap, set}
use Rattle.chess_board.specs.declared.pieces.Board.TheInside.{Inside}
use Rattle.chess_board.specs.Board.{Pieces}
use Rattle.chess_board.proofs.Sets.{IsPlaced, PutSets, put_sets}
use Rattle.chess_board.proofs.pieces.Board.put.Goals as goal

pub invariant_of-self : goal.invariant_of-self
invariant_of-self c =
    let a = c.self.inside in
    let b : Inside = record { white = c.placed.result; black = c.placed-2.result; pawns = c.placed-3.result; knights = c.placed-4.result; bishops = c.placed-5.result; rooks = c.placed-6.result; queens = c.placed-7.result; kings = c.placed-8.result } in
    let put : PutSets a b c.args.at.index c.args.occupant = record {
      white = (omega arith, subst (λ (v : Bool). IsPlaced a.white b.white c.args.at.index v) c.is_piece_of.ensures c.placed.ensures);
      black = (omega arith, subst (λ (v : Bool). IsPlaced a.black b.black c.args.at.index v) c.is_piece_of-2.ensures c.placed-2.ensures);
      pawns = (omega arith, subst (λ (v : Bool). IsPlaced a.pawns b.pawns c.args.at.index v) c.is_piece_a.ensures c.placed-3.ensures);
      knights = (omega arith, subst (λ (v : Bool). IsPlaced a.knights b.knights c.args.at.index v) c.is_piece_a-2.ensures c.placed-4.ensures);
      bishops = (omega arith, subst (λ (v : Bool). IsPlaced a.bishops b.bishops c.args.at.index v) c.is_piece_a-3.ensures c.placed-5.ensures);
      rooks = (omega arith, subst (λ (v : Bool). IsPlaced a.rooks b.rooks c.args.at.index v) c.is_piece_a-4.ensures c.placed-6.ensures);
      queens = (omega arith, subst (λ (v : Bool). IsPlaced a.queens b.queens c.args.at.index v) c.is_piece_a-5.ensures c.placed-7.ensures);
      kings = (omega arith, subst (λ (v : Bool). IsPlaced a.kings b.kings c.args.at.index v) c.is_piece_a-6.ensures c.placed-8.ensures);
    } in
    (put_sets a b c.args.at.index c.args.occupant c.self.invariant c.args.at.on_board put).0

pub returns : goal.returns
returns c =
    let a = c.self.inside in
    let b : Inside = record { white = c.placed.result; black = c.placed-2.result; pawns = c.placed-3.result; knights = c.placed-4.result; bishops = c.placed-5.result; rooks = c.placed-6.result; queens = c.placed-7.result; kings = c.placed-8.result } in
    let put : PutSets a b c.args.at.index c.args.occupant = record {
      white = (omega arith, subst (λ (v : Bool). IsPlaced a.white b.white c.args.at.index v) c.is_piece_of.ensures c.placed.ensures);
      black = (omega arith, subst (λ (v : Bool). IsPlaced a.black b.black c.args.at.index v) c.is_piece_of-2.ensures c.placed-2.ensures);
      pawns = (omega arith, subst (λ (v : Bool). IsPlaced a.pawns b.pawns c.args.at.index v) c.is_piece_a.ensures c.placed-3.ensures);
      knights = (omega arith, subst (λ (v : Bool). IsPlaced a.knights b.knights c.args.at.index v) c.is_piece_a-2.ensures c.placed-4.ensures);
      bishops = (omega arith, subst (λ (v : Bool). IsPlaced a.bishops b.bishops c.args.at.index v) c.is_piece_a-3.ensures c.placed-5.ensures);
      rooks = (omega arith, subst (λ (v : Bool). IsPlaced a.rooks b.rooks c.args.at.index v) c.is_piece_a-4.ensures c.placed-6.ensures);
      queens = (omega arith, subst (λ (v : Bool). IsPlaced a.queens b.queens c.args.at.index v) c.is_piece_a-5.ensures c.placed-7.ensures);
      kings = (omega arith, subst (λ (v : Bool). IsPlaced a.kings b.kings c.args.at.index v) c.is_piece_a-6.ensures c.placed-8.ensures);
    } in
    (put_sets a b c.args.at.index c.args.occupant c.self.invariant c.args.at.on_board put).1 ∙ ap (λ (pieces : Pieces). set pieces c.args.at.index c.args.occupant) c.self.view_is
