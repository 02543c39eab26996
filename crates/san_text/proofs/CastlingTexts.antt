-- The texts of castling are those of the moves by which the king castles.
use Rattle.std.proofs.Common.{◌≡◌, ℕ, List, [], ◌++◌, Bool, true, false, cond, Option, Some, refl, ap, sym, ◌∙◌}
use Rattle.std.specs.Prelude.{codes}
use Rattle.std.proofs.lemmas.Bool.{and_from, and_parts}
use mathlib.Core.Bool.{and-false}
use Rattle.chess_board.specs.declared.board.Kind.{Kind}
use Rattle.chess_board.specs.declared.board.Kind.TheVariants.{King}
use Rattle.chess_board.specs.declared.board.Move.{Move}
use Rattle.chess_board.specs.declared.board.Variant.{Variant}
use Rattle.chess_board.specs.declared.board.Variant.TheVariants.{Normal, Fischer}
use Rattle.chess_board.specs.declared.board.Wing.{Wing}
use Rattle.chess_board.specs.declared.board.Wing.TheVariants.{HSide, ASide}
use Rattle.chess_board.specs.Board.{piece_at, is_king_kind}
use Rattle.chess_board.specs.Position.{Position}
use Rattle.chess_board.specs.Laws.{Castles, IsLegal}
use Rattle.chess_board.specs.Lawful.{PositionInvariant}
use Rattle.chess_board.proofs.Legal.{king_kind}
use Rattle.san_text.specs.Writing.{kind_at, castles_to, castles_on, castles_short, castles_long, body, CastlesOn, CastlingsAreWritten}
use Rattle.san_text.specs.Spelling.{SanSpelling, Short, Long, Goes, Target, spelling_of_san}
use Rattle.san_text.proofs.Alone.{kind_of_move}
use Rattle.san_text.proofs.Castlings.{fischer_castles, normal_castles, fischer_written, normal_written, not_both}
use Rattle.san_text.proofs.Written.{body_read}

-- the test is castling by the Laws
by_laws : (v : Variant) (p : Position) (wing : Wing) (from to : ℕ) (promotion : Option Kind) → p.rights.variant ≡ v → (h : IsLegal p from to promotion) → h.piece ≡ King → castles_to p v wing from to ≡ true → Castles p wing from to
by_laws Normal p wing from to promotion normal h king e = normal_castles p wing from to promotion normal h king e
by_laws Fischer p wing from to promotion fischer h king e = fischer_castles p wing from to promotion fischer h e

castles : (p : Position) (wing : Wing) (m : Move) → IsLegal p m.from.index m.to.index m.promotion → castles_on p wing m ≡ true → CastlesOn p wing m
castles p wing m h e =
    let parts = and_parts (is_king_kind (kind_at p m.from.index)) (castles_to p p.rights.variant wing m.from.index m.to.index) e in
    let king = king_kind (kind_at p m.from.index) parts.0 in
    let piece = sym (kind_of_move p m.from.index m.to.index m.promotion h) ∙ king in
    (king, by_laws p.rights.variant p wing m.from.index m.to.index m.promotion refl h piece parts.1)

by_test : (v : Variant) (p : Position) (wing : Wing) (m : Move) → p.rights.variant ≡ v → PositionInvariant p → piece_at p.pieces m.from.index ≡ Some (p.side, King) → Castles p wing m.from.index m.to.index → castles_to p v wing m.from.index m.to.index ≡ true
by_test Normal p wing m normal is king c = normal_written p wing m.from.index m.to.index normal is m.from.on_board m.to.on_board king c
by_test Fischer p wing m fischer is king c = fischer_written p wing m.from.index m.to.index fischer is c

castled : (p : Position) (wing : Wing) (m : Move) → PositionInvariant p → IsLegal p m.from.index m.to.index m.promotion → CastlesOn p wing m → castles_on p wing m ≡ true
castled p wing m is h c =
    let piece = sym (kind_of_move p m.from.index m.to.index m.promotion h) ∙ c.0 in
    let king : piece_at p.pieces m.from.index ≡ Some (p.side, King) = h.occupant ∙ ap (λ (k : Kind). Some (p.side, k)) piece in
    and_from (is_king_kind (kind_at p m.from.index)) (castles_to p p.rights.variant wing m.from.index m.to.index) (ap is_king_kind c.0) (by_test p.rights.variant p wing m refl is king c.1)

-- what is read tells how it was written
read_short : (short long : Bool) (k : Kind) (f r : Option ℕ) (t : Target) → Some (cond short Short (cond long Long (Goes k f r t))) ≡ Some Short → short ≡ true
read_short true long k f r t e = refl
read_short false true k f r t e = cc
read_short false false k f r t e = cc

read_long : (short long : Bool) (k : Kind) (f r : Option ℕ) (t : Target) → Some (cond short Short (cond long Long (Goes k f r t))) ≡ Some Long → long ≡ true
read_long short true k f r t e = refl
read_long true false k f r t e = cc
read_long false false k f r t e = cc

is_short : (p : Position) (m : Move) → IsLegal p m.from.index m.to.index m.promotion → body p m ≡ codes "O-O" → castles_short p m ≡ true
is_short p m h e = read_short (castles_short p m) (castles_long p m) _ _ _ _ (sym (body_read p m h) ∙ ap (λ (b : List ℕ). spelling_of_san (b ++ [])) e)

is_long : (p : Position) (m : Move) → IsLegal p m.from.index m.to.index m.promotion → body p m ≡ codes "O-O-O" → castles_long p m ≡ true
is_long p m h e = read_long (castles_short p m) (castles_long p m) _ _ _ _ (sym (body_read p m h) ∙ ap (λ (b : List ℕ). spelling_of_san (b ++ [])) e)

not_short : (p : Position) (m : Move) → castles_long p m ≡ true → castles_short p m ≡ false
not_short p m e =
    let parts = and_parts (is_king_kind (kind_at p m.from.index)) (castles_to p p.rights.variant ASide m.from.index m.to.index) e in
    rw (not_both p.rights.variant p m.from.index m.to.index parts.1) (and-false (is_king_kind (kind_at p m.from.index)))

writes_long : (p : Position) (m : Move) → castles_long p m ≡ true → body p m ≡ codes "O-O-O"
writes_long p m e = rw (not_short p m e, e) refl

writes_short : (p : Position) (m : Move) → castles_short p m ≡ true → body p m ≡ codes "O-O"
writes_short p m e = rw e refl

pub castlings : CastlingsAreWritten
castlings p m is h = (
  (λ e. castles p HSide m h (is_short p m h e), λ c. writes_short p m (castled p HSide m is h c)),
  (λ e. castles p ASide m h (is_long p m h e), λ c. writes_long p m (castled p ASide m is h c)),
)
