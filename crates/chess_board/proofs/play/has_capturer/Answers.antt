use Rattle.std.proofs.Common.{ℕ, ◌&&◌, None, sym, ◌∙◌, arith}
use Rattle.chess_board.specs.Board.{is_pawn, piece_at}
use Rattle.chess_board.specs.Rules.{is_en_passant, is_legal}
use Rattle.chess_board.specs.Play.{can_take}
use Rattle.chess_board.proofs.Below.{some_square-hit, some_square-none}
use Rattle.chess_board.proofs.Scan.{some_first, some_further}
use Rattle.chess_board.proofs.play.has_capturer.Goals as goal

pub loop-index-init : goal.loop-index-init
loop-index-init c =
    let p = c.args.setup.now in
    let test = λ (from : ℕ). is_pawn p.side (piece_at p.pieces from) && (is_en_passant p from c.args.at.index && is_legal p from c.args.at.index None) in
    some_first test c.near_capturers-near.result c.next_in-index.result c.near_capturers-near.ensures c.next_in-index.ensures.on.1 c.next_in-index.ensures.passed

pub loop-index-preserved : goal.loop-index-preserved
loop-index-preserved c =
    let p = c.args.setup.now in
    let test = λ (from : ℕ). is_pawn p.side (piece_at p.pieces from) && (is_en_passant p from c.args.at.index && is_legal p from c.args.at.index None) in
    some_further test c.near_capturers-near.result c.loop-index.index c.next_in-index-in-loop-index.result c.near_capturers-near.ensures
    c.loop-index.invariant (sym c.is_capturer.ensures ∙ c.if-is_capturer.false) c.next_in-index-in-loop-index.ensures.on.1 c.next_in-index-in-loop-index.ensures.passed

pub returns-then-is_capturer : goal.returns-then-is_capturer
unfolding can_take
returns-then-is_capturer c = sym (some_square-hit _ c.loop-index.index (omega arith) (sym c.is_capturer.ensures ∙ c.if-is_capturer.true))

pub returns : goal.returns
unfolding can_take
returns c = sym (some_square-none _ c.loop-index.index (omega arith) c.loop-index.invariant)
