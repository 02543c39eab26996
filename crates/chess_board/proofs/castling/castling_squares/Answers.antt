use Rattle.std.proofs.Common.{◌≡◌, ◌||◌, Bool, sym, ap, ◌∙◌}
use Rattle.chess_board.specs.declared.board.Kind.{Kind}
use Rattle.chess_board.specs.declared.board.Kind.TheVariants.{King}
use Rattle.chess_board.specs.declared.board.Wing.TheVariants.{HSide}
use Rattle.chess_board.specs.Reach.{has, could_castle, spells_right}
use Rattle.chess_board.specs.Rules.{right_of}
use Rattle.chess_board.proofs.Equal.{kinds-Decides}
use Rattle.chess_board.proofs.Sets.{has-either}
use Rattle.chess_board.proofs.castling.castling_squares.Goals as goal

pub returns-then-eq : goal.returns-then-eq
returns-then-eq c s low =
    let p = c.args.setup.now in
    let a = c.castling_square.result in
    let b = c.castling_square-then-eq.result in
    let king : c.args.kind ≡ King = (kinds-Decides c.args.kind King).0 (sym c.eq.ensures ∙ c.if-eq.true) in
    has-either a b s ∙ (ap (λ (v : Bool). v || has b s) (c.castling_square.ensures s low) ∙ ap (λ (v : Bool). spells_right p HSide s (right_of p.rights p.side HSide) || v) (c.castling_square-then-eq.ensures s low))
    ∙ ap (λ (k : Kind). could_castle p k s) (sym king)
