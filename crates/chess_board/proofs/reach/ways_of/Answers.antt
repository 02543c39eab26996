-- Each row of the tables is the set of the piece's ways.
use Rattle.std.proofs.Common.{ℕ, sym, ap, ◌∙◌}
use Rattle.chess_board.specs.declared.board.Kind.{Kind}
use Rattle.chess_board.specs.declared.board.Kind.TheVariants.{Pawn}
use Rattle.chess_board.specs.declared.board.Side.{Side}
use Rattle.chess_board.specs.Reach.{form, has}
use Rattle.chess_board.proofs.Tables.{lines-fits, diagonals-fits, straights-fits, jumps-fits, king_ways-fits, white_pawn_ways-fits, black_pawn_ways-fits}
use Rattle.chess_board.proofs.reach.ways_of.Goals as goal

pub returns-in-White : goal.returns-in-White
returns-in-White c s low =
    ap (λ (n : ℕ). has n s) c.row.ensures ∙ white_pawn_ways-fits c.args.from.index c.args.from.on_board s low
    ∙ ap (λ (side : Side). form side Pawn c.args.from.index s) (sym c.in-White.is) ∙ ap (λ (kind : Kind). form c.args.side kind c.args.from.index s) (sym c.in-Pawn.is)

pub returns-in-Black : goal.returns-in-Black
returns-in-Black c s low =
    ap (λ (n : ℕ). has n s) c.row-in-Black.ensures ∙ black_pawn_ways-fits c.args.from.index c.args.from.on_board s low
    ∙ ap (λ (side : Side). form side Pawn c.args.from.index s) (sym c.in-Black.is) ∙ ap (λ (kind : Kind). form c.args.side kind c.args.from.index s) (sym c.in-Pawn.is)

pub returns-in-Knight : goal.returns-in-Knight
returns-in-Knight c s low =
    ap (λ (n : ℕ). has n s) c.row-in-Knight.ensures ∙ jumps-fits c.args.from.index c.args.from.on_board s low ∙ ap (λ (kind : Kind). form c.args.side kind c.args.from.index s) (sym c.in-Knight.is)

pub returns-in-King : goal.returns-in-King
returns-in-King c s low =
    ap (λ (n : ℕ). has n s) c.row-in-King.ensures ∙ king_ways-fits c.args.from.index c.args.from.on_board s low ∙ ap (λ (kind : Kind). form c.args.side kind c.args.from.index s) (sym c.in-King.is)

pub returns-in-Bishop : goal.returns-in-Bishop
returns-in-Bishop c s low =
    ap (λ (n : ℕ). has n s) c.row-in-Bishop.ensures ∙ diagonals-fits c.args.from.index c.args.from.on_board s low ∙ ap (λ (kind : Kind). form c.args.side kind c.args.from.index s) (sym c.in-Bishop.is)

pub returns-in-Rook : goal.returns-in-Rook
returns-in-Rook c s low =
    ap (λ (n : ℕ). has n s) c.row-in-Rook.ensures ∙ straights-fits c.args.from.index c.args.from.on_board s low ∙ ap (λ (kind : Kind). form c.args.side kind c.args.from.index s) (sym c.in-Rook.is)

pub returns-in-Queen : goal.returns-in-Queen
returns-in-Queen c s low =
    ap (λ (n : ℕ). has n s) c.row-in-Queen.ensures ∙ lines-fits c.args.from.index c.args.from.on_board s low ∙ ap (λ (kind : Kind). form c.args.side kind c.args.from.index s) (sym c.in-Queen.is)
