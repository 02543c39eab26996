-- The position that a `position` line begins with is one.
use Rattle.std.proofs.Common.{◌≡◌, ℕ, ◌+◌, ◌-◌, ◌*◌, ◌<◌, Bool, true, false, cond, eqb, List, [], ◌∷◌, ◌++◌, length, drop, Option, Some, None, IfSome, Result, Ok, Err, refl, sym, ap, subst, ◌∙◌, arith, length-append}
use Rattle.std.specs.Option.{option_and_then}
use Rattle.std.specs.List.{slice_get}
use Rattle.std.proofs.lemmas.Bool.Decides.{Decides-eqb, nat_tests}
use Rattle.chess_board.specs.declared.board.Side.{Side}
use Rattle.chess_board.specs.declared.board.Rights.{Rights}
use Rattle.chess_board.specs.declared.board.BuildFault.{BuildFault}
use Rattle.chess_board.specs.Board.{Pieces}
use Rattle.chess_board.specs.Position.{Position}
use Rattle.chess_board.specs.Play.{IsPosition, position_if_built, fits_board, start_position}
use Rattle.fen_text.specs.Written.{IsNormal}
use Rattle.fen_text.proofs.Normal.{spelled_normal}
use Rattle.chess_board.proofs.Built.{built-is}
use Rattle.chess_board.proofs.Start.{start-is}
use Rattle.fen_text.specs.declared.fault.FenFault.{FenFault}
use Rattle.fen_text.specs.Fen.{or_fault, position_of_fields, position_from_fields}
use Rattle.fen_text.specs.Fields.{is_passed_square, en_passant_of, rights_of, side_of}
use Rattle.fen_text.specs.Squares.{board_in_field, exactly, pieces_if_fitting, pieces_if_both, pieces_on_ranks, pieces_in_field, rank_in_text, ranks_in, squares_in}
use Rattle.uci_interface_lines.specs.Lines.{Line, before_moves, behind_moves, if_right, position_after_texts, line_from, line_in, position_line_in, line_to, standard_if_alone, start_position_in}
use Rattle.protocol_tokens.specs.Tokens.{tokens}

-- A BOARD HAS 64 SQUARES

record Joins (a b : Option Pieces) (pieces : Pieces) : Type 0 where
  left : Pieces
  right : Pieces
  left_is : a ≡ Some left
  right_is : b ≡ Some right
  whole : pieces ≡ left ++ right

joins : (a b : Option Pieces) (pieces : Pieces) → pieces_if_both a b ≡ Some pieces → Joins a b pieces
joins None b pieces e = absurd (cc)
joins (Some x) None pieces e = absurd (cc)
joins (Some x) (Some y) pieces e = let same : pieces ≡ x ++ y = cc in record { left = x; right = y; left_is = refl; right_is = refl; whole = same }

exactly_by : (b : Bool) (n : ℕ) (squares pieces : Pieces) → eqb (length squares) n ≡ b → cond b (Some squares) None ≡ Some pieces → length pieces ≡ n
exactly_by true n squares pieces t e = let same : pieces ≡ squares = cc in ap (λ (x : Pieces). length x) same ∙ (Decides-eqb (length squares) n).0 t
exactly_by false n squares pieces t e = absurd (cc)

exactly_is : (n : ℕ) (o : Option Pieces) (pieces : Pieces) → exactly n o ≡ Some pieces → length pieces ≡ n
exactly_is n None pieces e = absurd (cc)
exactly_is n (Some squares) pieces e = exactly_by (eqb (length squares) n) n squares pieces refl e

pieces_length : (ranks : List (List ℕ)) (pieces : Pieces) → pieces_on_ranks ranks ≡ Some pieces → length pieces ≡ 8 * length ranks
pieces_length [] pieces e = let same : pieces ≡ [] = cc in ap (λ (x : Pieces). length x) same
pieces_length (upper ∷ lower) pieces e =
    let j = joins (pieces_on_ranks lower) (rank_in_text upper) pieces e in
    let low = pieces_length lower j.left j.left_is in
    let high = exactly_is 8 (squares_in upper) j.right j.right_is in
    let whole = ap (λ (x : Pieces). length x) j.whole in
    omega (arith, low, high, whole, length-append j.left j.right)

placed_by : (b : Bool) (ranks : List (List ℕ)) (pieces : Pieces) → eqb (length ranks) 8 ≡ b → cond b (pieces_on_ranks ranks) None ≡ Some pieces → length pieces ≡ 64
placed_by true ranks pieces t e = let eight = (Decides-eqb (length ranks) 8).0 t in let all = pieces_length ranks pieces e in omega (arith, eight, all)
placed_by false ranks pieces t e = absurd (cc)

fitting_is : (o : Option Pieces) (pieces : Pieces) → pieces_if_fitting o ≡ Some pieces → o ≡ Some pieces
fitting_is None pieces e = e
fitting_is (Some m) pieces e = fits_by (fits_board m) m pieces e
  where
    fits_by : (b : Bool) (m pieces : Pieces) → cond b (Some m) None ≡ Some pieces → Some m ≡ Some pieces
    fits_by true m pieces e = e
    fits_by false m pieces e = absurd (cc)

board_length : (field : List ℕ) (pieces : Pieces) → board_in_field field ≡ Some pieces → length pieces ≡ 64
board_length field pieces e = placed_by (eqb (length (ranks_in field)) 8) (ranks_in field) pieces refl (fitting_is (pieces_in_field field) pieces e)

-- A PASSED SQUARE IS ON THE BOARD

abbrev IsLow : Option ℕ → Type 0
IsLow o = IfSome o (λ s. s < 64)

dash_low : (b : Bool) (o : Option ℕ) → cond b (Some None) None ≡ Some o → IsLow o
dash_low true None e = tt
dash_low true (Some s) e = absurd (cc)
dash_low false o e = absurd (cc)

square_low : (b : Bool) (file rank : ℕ) (o : Option ℕ) → is_passed_square file rank ≡ b → cond b (Some (Some ((rank - 49) * 8 + (file - 97)))) None ≡ Some o → IsLow o
square_low true file rank None t e = tt
square_low true file rank (Some s) t e = let same : s ≡ (rank - 49) * 8 + (file - 97) = cc in grind (arith, nat_tests)
square_low false file rank o t e = absurd (cc)

en_passant_low : (text : List ℕ) (o : Option ℕ) → en_passant_of text ≡ Some o → IsLow o
en_passant_low [] o e = absurd (cc)
en_passant_low (byte ∷ []) o e = dash_low (eqb byte 45) o e
en_passant_low (file ∷ rank ∷ []) o e = square_low (is_passed_square file rank) file rank o refl e
en_passant_low (a ∷ b ∷ c ∷ ds) o e = absurd (cc)

-- THE FIELDS

or_ok : (r : Result Position BuildFault) (p : Position) → or_fault r ≡ Ok p → r ≡ Ok p
or_ok (Ok q) p e = let same : q ≡ p = cc in ap (λ (x : Position). Ok x) same
or_ok (Err fault) p e = absurd (cc)

and_then_is : {A : Type 0} (f : List ℕ → Option A) (o : Option (List ℕ)) (x : A) → option_and_then f o ≡ Some x → (text : List ℕ) × (f text ≡ Some x)
and_then_is f None x e = absurd (cc)
and_then_is f (Some text) x e = (text, e)

spelled_good : (pieces : Option Pieces) (side : Option Side) (rights : Option Rights) (passant : Option (Option ℕ)) (half full : Option ℕ) (p : Position)
    → ((m : Pieces) → pieces ≡ Some m → length m ≡ 64) → ((o : Option ℕ) → passant ≡ Some o → IsLow o) → position_from_fields pieces side rights passant half full ≡ Ok p → IsPosition p
spelled_good None side rights passant half full p h k e = absurd (cc)
spelled_good (Some pieces) None rights passant half full p h k e = absurd (cc)
spelled_good (Some pieces) (Some side) None passant half full p h k e = absurd (cc)
spelled_good (Some pieces) (Some side) (Some rights) None half full p h k e = absurd (cc)
spelled_good (Some pieces) (Some side) (Some rights) (Some passant) None full p h k e = absurd (cc)
spelled_good (Some pieces) (Some side) (Some rights) (Some passant) (Some half) None p h k e = absurd (cc)
spelled_good (Some pieces) (Some side) (Some rights) (Some passant) (Some half) (Some full) p h k e =
    built-is (record { pieces = pieces; side = side; rights = rights; passant = passant; half = half; full = full }) p (h pieces refl) (k passant refl) (or_ok _ p e)

fields_good : (fields : List (List ℕ)) (p : Position) → position_of_fields fields ≡ Ok p → IsNormal p
fields_good fields p e = (good, spelled_normal fields p e)
  where
    good : IsPosition p
    good = spelled_good (option_and_then board_in_field (slice_get fields 0)) (option_and_then side_of (slice_get fields 1)) (option_and_then rights_of (slice_get fields 2)) (option_and_then en_passant_of (slice_get fields 3)) _ _ p
        (λ m f. let t = and_then_is board_in_field (slice_get fields 0) m f in board_length t.0 m t.1)
        (λ o f. let t = and_then_is en_passant_of (slice_get fields 3) o f in en_passant_low t.0 o t.1) e

-- A `POSITION` LINE

alone_good : (ts : List (List ℕ)) (p : Position) → standard_if_alone ts ≡ Some p → IsNormal p
alone_good [] p e = let same : start_position ≡ p = cc in subst IsNormal same (start-is, refl)
alone_good (t ∷ ts) p e = absurd (cc)

right_good : (r : Result Position FenFault) (p : Position) → if_right r ≡ Some p → r ≡ Ok p
right_good (Ok q) p e = let same : q ≡ p = cc in ap (λ (x : Position). Ok x) same
right_good (Err fault) p e = absurd (cc)

fen_by : (b : Bool) (ts : List (List ℕ)) (p : Position) → cond b (if_right (position_of_fields ts)) None ≡ Some p → IsNormal p
fen_by true ts p e = fields_good ts p (right_good (position_of_fields ts) p e)
fen_by false ts p e = absurd (cc)

start_by : (a b : Bool) (ts : List (List ℕ)) (p : Position) → cond a (standard_if_alone ts) (cond b (if_right (position_of_fields ts)) None) ≡ Some p → IsNormal p
start_by true b ts p e = alone_good ts p e
start_by false b ts p e = fen_by b ts p e

start_good : (ts : List (List ℕ)) (p : Position) → start_position_in ts ≡ Some p → IsNormal p
start_good [] p e = absurd (cc)
start_good (t ∷ ts) p e = start_by _ _ ts p e

to_good : (p : Position) (moves : List (List ℕ)) (q : Option Position) (line : Line) → IsNormal p → line_to p moves q ≡ Some line → IsNormal line.start
to_good p moves None line h e = absurd (cc)
to_good p moves (Some q) line h e = let same : p ≡ line.start = ap (λ (o : Option Line). start_of p o) e in subst IsNormal same h
  where
    start_of : Position → Option Line → Position
    start_of p None = p
    start_of p (Some l) = l.start

from_good : (o : Option Position) (moves : List (List ℕ)) (line : Line) → ((p : Position) → o ≡ Some p → IsNormal p) → line_from o moves ≡ Some line → IsNormal line.start
from_good None moves line h e = absurd (cc)
from_good (Some p) moves line h e = to_good p moves (position_after_texts moves (Some p)) line (h p refl) e

pub line_good : (text : List ℕ) (line : Line) → position_line_in text ≡ Some line → IsNormal line.start
unfolding position_line_in
line_good text line e =
    let ts = drop 1 (tokens text) in
    from_good (start_position_in (before_moves ts)) (behind_moves ts) line (start_good (before_moves ts)) e
