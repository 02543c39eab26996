use Rattle.std.proofs.Common.{◌≡◌, ℕ, Option, ap, ◌∙◌}
use Rattle.std.specs.Option.{unwrap_or}
use Rattle.chess_board.specs.Position.{Position}
use Rattle.chess_board.specs.Rules.{right_of}
use Rattle.chess_board.proofs.Castled.{castling_rook_low}
use Rattle.chess_board.proofs.castling.castling_rook_of.Goals as goal

pub first_rank_square-requires : goal.first_rank_square-requires
first_rank_square-requires c =
    let p = c.args.setup.now in
    let right : c.rook.result ≡ right_of p.rights p.side c.args.wing = c.rook.ensures ∙ ap (λ (q : Position). right_of q.rights q.side c.args.wing) c.setup.view_is in
    let file : c.unwrap_or-file.result ≡ unwrap_or (right_of p.rights p.side c.args.wing) 0 = c.unwrap_or-file.ensures ∙ ap (λ (o : Option ℕ). unwrap_or o 0) right in
    rw file (castling_rook_low p c.args.wing c.args.from.index c.args.to.index c.requires)
