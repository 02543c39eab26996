-- The text written of a position spells it.
use Rattle.std.proofs.Common.{◌≡◌, ◌^◌, ◌<◌, [], ◌∷◌, Some, refl, ap, sym, ◌∙◌, arith, decimal}
use Rattle.chess_board.specs.declared.board.Variant.{Variant}
use Rattle.chess_board.specs.declared.board.Variant.TheVariants.{Normal, Fischer}
use Rattle.chess_board.specs.Lawful.{PositionInvariant}
use Rattle.chess_board.specs.Position.{Position}
use Rattle.chess_board.proofs.Facts.{board_fits, built-same, en_passant_rank}
use Rattle.chess_board.proofs.Standing.{lawful-is}
use Rattle.fen_text.specs.Fen.{position_of_fields_by, rights_by, position_by, or_fault}
use Rattle.fen_text.specs.Written.{position_fen, board_text, side_text, rights_text, en_passant_text, FenReadsBack, FenReadsBackBy}
use Rattle.fen_text.proofs.Cut.{fields_of_words}
use Rattle.fen_text.proofs.FischerText.{fischer_rights_of-text}
use Rattle.fen_text.proofs.Variants.{by_normal}
use Rattle.fen_text.proofs.Boards.{board_of-text, word-board}
use Rattle.fen_text.proofs.Others.{side_of-text, word-side, rights_of-text, word-rights, passant_of-text, word-passant, count_of-text, word-count}

rights_back : (p : Position) → PositionInvariant p → (variant : Variant) → p.rights.variant ≡ variant → rights_by variant p.pieces (rights_text p.rights) ≡ Some p.rights
rights_back p is Normal e = rights_of-text p is e
rights_back p is Fischer e = fischer_rights_of-text p is e

pub reads_back_by : FenReadsBackBy
unfolding position_by position_fen
reads_back_by p q =
    let half : p.half < 2 ^ 64 = let h = q.half in omega arith in
    let full : p.full < 2 ^ 64 = let f = q.full in omega arith in
    let words = fields_of_words (board_text p.pieces) (side_text p.side ∷ rights_text p.rights ∷ en_passant_text p.passant ∷ decimal p.half ∷ decimal p.full ∷ [])
    (word-board p.pieces) (word-side p.side, (word-rights p.rights, (word-passant p.passant, (word-count p.half half, (word-count p.full full, tt))))) in
    let b = board_of-text p.pieces q.pieces.whole (board_fits p.pieces q.pieces) in
    let s = side_of-text p.side in
    let r = rights_back p (lawful-is p q) p.rights.variant refl in
    let e = passant_of-text p.side p.passant (en_passant_rank p q) in
    let h = count_of-text p.half q.half in
    let f = count_of-text p.full q.full.1 in
    ap (position_of_fields_by p.rights.variant) words ∙ rw (b, s, r, e, h, f) (ap or_fault (built-same p q))

pub reads_back : FenReadsBack
reads_back p (q, normal) = sym (by_normal (position_fen p)) ∙ ap (λ (v : Variant). position_by v (position_fen p)) (sym normal) ∙ reads_back_by p q
