use Rattle.std.proofs.Common.{sym, ap, ◌∙◌}
use Rattle.chess_board.specs.declared.board.Kind.{Kind}
use Rattle.chess_board.specs.Board.{Pieces, piece_at}
use Rattle.chess_board.specs.Sets.{is_a, pieces_by_sets}
use Rattle.chess_board.proofs.Sets.{pawns-has, knights-has, bishops-has, rooks-has, queens-has, kings-has}
use Rattle.chess_board.proofs.pieces.Board.kind_set.Goals as goal

pub returns-in-Pawn : goal.returns-in-Pawn
returns-in-Pawn c s low =
    pawns-has c.self.inside s c.self.invariant
    ∙ (ap (λ (kind : Kind). is_a kind (piece_at (pieces_by_sets c.self.inside) s)) (sym c.in-Pawn.is) ∙ ap (λ (pieces : Pieces). is_a c.args.kind (piece_at pieces s)) c.self.view_is)

pub returns-in-Knight : goal.returns-in-Knight
returns-in-Knight c s low =
    knights-has c.self.inside s c.self.invariant
    ∙ (ap (λ (kind : Kind). is_a kind (piece_at (pieces_by_sets c.self.inside) s)) (sym c.in-Knight.is) ∙ ap (λ (pieces : Pieces). is_a c.args.kind (piece_at pieces s)) c.self.view_is)

pub returns-in-Bishop : goal.returns-in-Bishop
returns-in-Bishop c s low =
    bishops-has c.self.inside s c.self.invariant
    ∙ (ap (λ (kind : Kind). is_a kind (piece_at (pieces_by_sets c.self.inside) s)) (sym c.in-Bishop.is) ∙ ap (λ (pieces : Pieces). is_a c.args.kind (piece_at pieces s)) c.self.view_is)

pub returns-in-Rook : goal.returns-in-Rook
returns-in-Rook c s low =
    rooks-has c.self.inside s c.self.invariant
    ∙ (ap (λ (kind : Kind). is_a kind (piece_at (pieces_by_sets c.self.inside) s)) (sym c.in-Rook.is) ∙ ap (λ (pieces : Pieces). is_a c.args.kind (piece_at pieces s)) c.self.view_is)

pub returns-in-Queen : goal.returns-in-Queen
returns-in-Queen c s low =
    queens-has c.self.inside s c.self.invariant
    ∙ (ap (λ (kind : Kind). is_a kind (piece_at (pieces_by_sets c.self.inside) s)) (sym c.in-Queen.is) ∙ ap (λ (pieces : Pieces). is_a c.args.kind (piece_at pieces s)) c.self.view_is)

pub returns-in-King : goal.returns-in-King
returns-in-King c s low =
    kings-has c.self.inside s c.self.invariant
    ∙ (ap (λ (kind : Kind). is_a kind (piece_at (pieces_by_sets c.self.inside) s)) (sym c.in-King.is) ∙ ap (λ (pieces : Pieces). is_a c.args.kind (piece_at pieces s)) c.self.view_is)
