-- Where a piece goes, by where it could go on an empty board.
use Rattle.std.proofs.Common.{◌≡◌, ◌≢◌, ◌<◌, ◌==◌, ◌||◌, ℕ, Bool, true, false, ◌&&◌, not, nat_lt, refl, ⊎_elim, subst, sym, ap, ◌∙◌, Option, Some, None, is_some}
use Rattle.std.specs.Int.Bits.{bit_or}
use Rattle.std.proofs.lemmas.Nat.Bits.{bit_at-zero}
use Rattle.std.proofs.lemmas.Bool.{false_from_ne_true, false≢true, lt-ltb, and_parts, or_cases, or_left, or_right}
use Rattle.chess_board.specs.declared.board.Kind.{Kind}
use Rattle.chess_board.specs.declared.board.Kind.TheVariants.{Pawn, Knight, Bishop, Rook, Queen, King}
use Rattle.chess_board.specs.declared.board.Side.{Side}
use Rattle.chess_board.specs.declared.board.Wing.{Wing}
use Rattle.chess_board.specs.declared.board.Wing.TheVariants.{HSide, ASide}
use Rattle.chess_board.specs.Board.{Occupant, piece_at, same_side, is_of_side, is_king, other, distance}
use Rattle.chess_board.specs.Attack.{is_checked, is_clear, is_diagonal, is_straight, ShareALine}
use Rattle.chess_board.specs.Position.{Position}
use Rattle.chess_board.specs.Laws.{Castles}
use Rattle.chess_board.specs.Reach.{form, has, spells_right, could_castle, could_go, is_slider, IsSetOf, AreWays, Bounds}
use Rattle.chess_board.specs.Rules.{right_of, castling_file, castling_of, goes_as, reaches_to, reaches_to_as, may_land, lands, may_go_to, promotes, pieces_after, is_legal, is_legal_of}
use Rattle.chess_board.proofs.Bools.{same_side-is}
use Rattle.chess_board.proofs.Legal.{CastlingAt, OnFileAt}
use Rattle.chess_board.proofs.Sets.{has-either}
use Rattle.chess_board.proofs.Total.{goes_form}

-- a move of a piece that may go so is legal where it promotes rightly and leaves its king unattacked
pub legal_reach : (p : Position) (owner : Side) (piece : Kind) (from to : ℕ) (promotion : Option Kind) → piece_at p.pieces from ≡ Some (owner, piece) → reaches_to p from to ≡ true →
    is_legal p from to promotion ≡ (promotes p.side piece to promotion && not (is_checked (pieces_after p piece from to promotion) p.side))
unfolding reaches_to is_legal is_legal_of
legal_reach p owner piece from to promotion occupant reach =
    let here : (same_side owner p.side && (lands p piece from to && may_go_to p piece from to)) ≡ true = sym (ap (λ (m : Occupant). reaches_to_as p m from to) occupant) ∙ reach in
    let parts = and_parts (same_side owner p.side) (lands p piece from to && may_go_to p piece from to) here in
    rw (occupant, parts.0, parts.1) refl

pub never_none : (p : Position) (from to : ℕ) → piece_at p.pieces from ≡ None → reaches_to p from to ≡ false
unfolding reaches_to
never_none p from to none = ap (λ (occupant : Occupant). reaches_to_as p occupant from to) none

-- the squares to which a piece could go, by the sets of its ways, of the pieces of its side and of the other king
pub ways_none : (p : Position) (from : ℕ) → piece_at p.pieces from ≡ None → AreWays p from 0
ways_none p from none to low = ap (λ (n : ℕ). n == 1) (bit_at-zero to) ∙ sym (ap (λ (occupant : Occupant). could_go p occupant from to) none)

abbrev landing_form : Position → Kind → ℕ → ℕ → Bool
landing_form p piece from to = may_land p.side (piece_at p.pieces to) && form p.side piece from to

pub ways_some : (p : Position) (owner : Side) (piece : Kind) (from ways own king others rest castling : ℕ) → piece_at p.pieces from ≡ Some (owner, piece) → IsSetOf (form p.side piece from) ways →
    IsSetOf (λ s. is_of_side p.side (piece_at p.pieces s)) own → IsSetOf (λ s. is_king (other p.side) (piece_at p.pieces s)) king → ((s : ℕ) → s < 64 → has others s ≡ (has ways s && not (has own s))) →
    ((s : ℕ) → s < 64 → has rest s ≡ (has others s && not (has king s))) → IsSetOf (could_castle p piece) castling → AreWays p from (bit_or rest castling)
ways_some p owner piece from ways own king others rest castling occupant is mine kings less less' castles to low =
    has-either rest castling to ∙ (ap (λ (v : Bool). v || has castling to) by_form ∙ ap (λ (v : Bool). landing_form p piece from to || v) (castles to low)) ∙ sym (ap (λ (m : Occupant). could_go p m from to) occupant)
  where
    turn : (w o k : Bool) → ((w && not o) && not k) ≡ ((not o && not k) && w)
    turn true true k = refl
    turn true false true = refl
    turn true false false = refl
    turn false true k = refl
    turn false false true = refl
    turn false false false = refl

    by_form : has rest to ≡ landing_form p piece from to
    by_form =
        less' to low ∙ ap (λ (v : Bool). v && not (has king to)) (less to low) ∙ turn (has ways to) (has own to) (has king to)
        ∙ ap (λ (v : Bool). (not v && not (has king to)) && has ways to) (mine to low) ∙ ap (λ (v : Bool). (not (is_of_side p.side (piece_at p.pieces to)) && not v) && has ways to) (kings to low)
        ∙ ap (λ (v : Bool). may_land p.side (piece_at p.pieces to) && v) (is to low)

-- castling ends on a square that spells a right
spells_at : (p : Position) (wing : Wing) (from to : ℕ) → Castles p wing from to → spells_right p wing to (right_of p.rights p.side wing) ≡ true
spells_at p wing from to c =
    let low : nat_lt c.rook 8 ≡ true = lt-ltb c.rook 8 c.inside in
    let on = (OnFileAt p.side (castling_file p.rights.variant wing c.rook) to).1 c.spelled in
    ap (spells_right p wing to) c.right ∙ (rw low on)

castles_could : (p : Position) (piece : Kind) (from to : ℕ) → is_some (castling_of p piece from to) ≡ true → could_castle p piece to ≡ true
castles_could p piece from to e =
    let h = (CastlingAt p piece from to).0 e in
    let short = spells_right p HSide to (right_of p.rights p.side HSide) in
    let long = spells_right p ASide to (right_of p.rights p.side ASide) in
    let king : could_castle p King to ≡ true = ⊎_elim (λ (c : Castles p HSide from to). or_left short long (spells_at p HSide from to c)) (λ (c : Castles p ASide from to). or_right short long (spells_at p ASide from to c)) h.1 in
    subst (λ (k : Kind). could_castle p k to ≡ true) (sym h.0) king

-- a piece that lands and goes could go there on an empty board, or castle
pub goes_could : (p : Position) (occupant : Side × Kind) (from to : ℕ) → lands p occupant.1 from to ≡ true → may_go_to p occupant.1 from to ≡ true → could_go p (Some occupant) from to ≡ true
goes_could p occupant from to landing way =
    let piece = occupant.1 in
    let castles = is_some (castling_of p piece from to) in
    let by_castling = λ (c : castles ≡ true). or_right (landing_form p piece from to) (could_castle p piece to) (castles_could p piece from to c) in
    ⊎_elim (λ (land : may_land p.side (piece_at p.pieces to) ≡ true).
    ⊎_elim (λ (f : form p.side piece from to ≡ true). or_left (landing_form p piece from to) (could_castle p piece to) (rw (land, f) refl)) by_castling
    (or_cases (form p.side piece from to) castles (goes_form p piece from to way)))
    by_castling
    (or_cases (may_land p.side (piece_at p.pieces to)) castles landing)

-- no piece goes to another square
pub ways_bound : (p : Position) (from ways : ℕ) → AreWays p from ways → Bounds p from ways
unfolding reaches_to
ways_bound p from ways is to low out =
    false_from_ne_true _ (λ h. no (piece_at p.pieces from) (sym (is to low) ∙ out) h)
  where
    no : (stands : Occupant) → could_go p stands from to ≡ false → reaches_to_as p stands from to ≡ true → ⊥
    no None e h = false≢true h
    no (Some occupant) e h =
        let parts = and_parts (lands p occupant.1 from to) (may_go_to p occupant.1 from to) (and_parts (same_side occupant.0 p.side) (lands p occupant.1 from to && may_go_to p occupant.1 from to) h).1 in
        false≢true (sym e ∙ goes_could p occupant from to parts.0 parts.1)

plain : (b : Bool) → (b || false) ≡ true → b ≡ true
plain true e = refl
plain false e = e

form_of : (p : Position) (piece : Kind) (from to : ℕ) → (landing_form p piece from to || false) ≡ true → form p.side piece from to ≡ true
form_of p piece from to e = (and_parts (may_land p.side (piece_at p.pieces to)) (form p.side piece from to) (plain (landing_form p piece from to) e)).1

land_of : (p : Position) (piece : Kind) (from to : ℕ) → (landing_form p piece from to || false) ≡ true → lands p piece from to ≡ true
land_of p piece from to e =
    let parts = and_parts (may_land p.side (piece_at p.pieces to)) (form p.side piece from to) (plain (landing_form p piece from to) e) in
    or_left (may_land p.side (piece_at p.pieces to)) (is_some (castling_of p piece from to)) parts.0

pub slider_form : (p : Position) (piece : Kind) (from to : ℕ) → is_slider piece ≡ true → could_go p (Some (p.side, piece)) from to ≡ true → form p.side piece from to ≡ true
slider_form p Bishop from to is e = form_of p Bishop from to e
slider_form p Rook from to is e = form_of p Rook from to e
slider_form p Queen from to is e = form_of p Queen from to e
slider_form p Pawn from to is e = absurd (cc)
slider_form p Knight from to is e = absurd (cc)
slider_form p King from to is e = absurd (cc)

-- a piece but the king lands where it could go on an empty board
pub officer_lands : (p : Position) (piece : Kind) (from to : ℕ) → (piece ≢ King) → could_go p (Some (p.side, piece)) from to ≡ true → lands p piece from to ≡ true
officer_lands p Pawn from to n e = land_of p Pawn from to e
officer_lands p Knight from to n e = land_of p Knight from to e
officer_lands p Bishop from to n e = land_of p Bishop from to e
officer_lands p Rook from to n e = land_of p Rook from to e
officer_lands p Queen from to n e = land_of p Queen from to e
officer_lands p King from to n e = absurd (n refl)

-- what a piece may do that could do it on an empty board, it lands and goes
pub goes_lands : (p : Position) (piece : Kind) (from to : ℕ) → could_go p (Some (p.side, piece)) from to ≡ true → goes_as p piece from to ≡ (lands p piece from to && may_go_to p piece from to)
goes_lands p Pawn from to e = sym (ap (λ (v : Bool). v && may_go_to p Pawn from to) (land_of p Pawn from to e))
goes_lands p Knight from to e = sym (ap (λ (v : Bool). v && may_go_to p Knight from to) (land_of p Knight from to e))
goes_lands p Bishop from to e = sym (ap (λ (v : Bool). v && may_go_to p Bishop from to) (land_of p Bishop from to e))
goes_lands p Rook from to e = sym (ap (λ (v : Bool). v && may_go_to p Rook from to) (land_of p Rook from to e))
goes_lands p Queen from to e = sym (ap (λ (v : Bool). v && may_go_to p Queen from to) (land_of p Queen from to e))
goes_lands p King from to e = refl

-- what a slider could do on an empty board, it does where its way is clear
pub slider_goes : (p : Position) (piece : Kind) (from to : ℕ) → is_slider piece ≡ true → could_go p (Some (p.side, piece)) from to ≡ true → is_clear p.pieces from to ≡ (lands p piece from to && may_go_to p piece from to)
slider_goes p piece from to is e =
    let other = λ (k : piece ≡ King). false≢true (sym (ap is_slider k) ∙ is) in
    slider_way p piece from to is (slider_form p piece from to is e) ∙ sym (ap (λ (v : Bool). v && may_go_to p piece from to) (officer_lands p piece from to other e))
  where
    slider_way : (p : Position) (piece : Kind) (from to : ℕ) → is_slider piece ≡ true → form p.side piece from to ≡ true → is_clear p.pieces from to ≡ may_go_to p piece from to
    slider_way p Bishop from to is e = sym (ap (λ (v : Bool). v && is_clear p.pieces from to) e)
    slider_way p Rook from to is e = sym (ap (λ (v : Bool). v && is_clear p.pieces from to) e)
    slider_way p Queen from to is e = sym (ap (λ (v : Bool). v && is_clear p.pieces from to) e)
    slider_way p Pawn from to is e = absurd (cc)
    slider_way p Knight from to is e = absurd (cc)
    slider_way p King from to is e = absurd (cc)

pub slider_line : (side : Side) (piece : Kind) (from to : ℕ) → is_slider piece ≡ true → form side piece from to ≡ true → ShareALine from to
slider_line side Bishop from to is e = or_left (is_diagonal from to) (is_straight from to) (and_parts (nat_lt 0 (distance from to)) (is_diagonal from to) e).1
slider_line side Rook from to is e = or_right (is_diagonal from to) (is_straight from to) (and_parts (nat_lt 0 (distance from to)) (is_straight from to) e).1
slider_line side Queen from to is e = (and_parts (nat_lt 0 (distance from to)) (is_diagonal from to || is_straight from to) e).1
slider_line side Pawn from to is e = absurd (cc)
slider_line side Knight from to is e = absurd (cc)
slider_line side King from to is e = absurd (cc)

-- a piece that goes somewhere is of the side on move
pub reach_owner : (p : Position) (owner : Side) (piece : Kind) (from to : ℕ) → piece_at p.pieces from ≡ Some (owner, piece) → reaches_to p from to ≡ true → owner ≡ p.side
unfolding reaches_to
reach_owner p owner piece from to occupant reach =
    let here : (same_side owner p.side && (lands p piece from to && may_go_to p piece from to)) ≡ true = sym (ap (λ (m : Occupant). reaches_to_as p m from to) occupant) ∙ reach in
    same_side-is owner p.side (and_parts (same_side owner p.side) (lands p piece from to && may_go_to p piece from to) here).0
