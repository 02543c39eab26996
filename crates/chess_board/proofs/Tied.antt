-- A piece that shields the king from no attack leaves it unattacked.
use Rattle.std.proofs.Common.{◌≡◌, ◌≢◌, ◌+◌, ◌-◌, ◌<◌, ◌≤◌, ◌==◌, ◌&&◌, ◌||◌, ltb, ℕ, Bool, true, false, refl, sym, ap, subst, arith, ⊎_elim, ◌∙◌, Option, Some, None, is_some, length, set, get_or-set_other}
use Rattle.std.specs.Int.{bit_at}
use Rattle.std.specs.Int.Bits.{bit_or}
use Rattle.std.proofs.lemmas.List.{get_or-set_same, length-set}
use Rattle.std.proofs.lemmas.Nat.Bits.{bit_at_ones}
use Rattle.std.proofs.lemmas.Bool.{cases_eq, false_from_ne_true, false≢true, and_parts, or_left, or_right, or_parts}
use Rattle.chess_board.specs.declared.board.Kind.{Kind}
use Rattle.chess_board.specs.declared.board.Kind.TheVariants.{Pawn, Knight, Bishop, Rook, Queen, King}
use Rattle.chess_board.specs.declared.board.Side.{Side}
use Rattle.chess_board.specs.declared.board.Side.TheVariants.{White, Black}
use Rattle.chess_board.specs.Board.{Occupant, Pieces, piece_at, is_of_side, is_vacant, is_king, is_king_kind, other, distance, on_the_way, squares}
use Rattle.chess_board.specs.Attack.{is_diagonal, is_straight, is_clear, reaches, attacks, attacks_as, is_attacked, is_checked}
use Rattle.chess_board.specs.Position.{Position}
use Rattle.chess_board.specs.Reach.{has, Nears, Shields, Frees}
use Rattle.chess_board.specs.Rules.{pieces_after_step, pieces_after, is_en_passant, promotes, becomes}
use Rattle.chess_board.proofs.Below.{each_below-at, each_below-all, some_below-none, some_below-found, some_square-hit, squares-is}
use Rattle.chess_board.proofs.Sets.{has-either}
use Rattle.chess_board.proofs.Moved.{man_at-moved}
use Rattle.chess_board.proofs.Prepared.{promoted-king}
use Rattle.chess_board.proofs.Plays.{not_other}

arrived : (pieces : Pieces) (side : Side) (piece : Kind) (from to : ℕ) (promotion : Option Kind) → length pieces ≡ 64 → to < 64 → piece_at (pieces_after_step pieces side piece from to promotion) to ≡ Some (side, becomes piece promotion)
arrived pieces side piece from to promotion size low =
    let long : length (set pieces from None) ≡ 64 = length-set pieces from None ∙ size in
    get_or-set_same (set pieces from None) to (Some (side, becomes piece promotion)) None (omega arith)

left : (pieces : Pieces) (side : Side) (piece : Kind) (from to : ℕ) (promotion : Option Kind) → length pieces ≡ 64 → from < 64 → from ≢ to → piece_at (pieces_after_step pieces side piece from to promotion) from ≡ None
left pieces side piece from to promotion size low apart =
    get_or-set_other (set pieces from None) to from (Some (side, becomes piece promotion)) None apart ∙ get_or-set_same pieces from None None (omega arith)

slides : (pieces after : Pieces) (a l c d : Bool) → (c ≡ true → l ≡ true → d ≡ true) → ((a && l) && c) ≡ true → ((a && l) && d) ≡ true
slides pieces after a l c d same e =
    let parts = and_parts (a && l) c e in
    let lines = and_parts a l parts.0 in
    rw (lines.0, lines.1, same parts.1 lines.1) refl

still_reaches : (pieces after : Pieces) (side : Side) (kind : Kind) (x k : ℕ) → ((is_diagonal x k || is_straight x k) ≡ true → is_clear after x k ≡ true → is_clear pieces x k ≡ true) →
    reaches after side kind x k ≡ true → reaches pieces side kind x k ≡ true
still_reaches pieces after side Pawn x k open' e = e
still_reaches pieces after side Knight x k open' e = e
still_reaches pieces after side King x k open' e = e
still_reaches pieces after side Bishop x k open' e = slides pieces after (ltb 0 (distance x k)) (is_diagonal x k) (is_clear after x k) (is_clear pieces x k) (λ c l. open' (or_left (is_diagonal x k) (is_straight x k) l) c) e
still_reaches pieces after side Rook x k open' e = slides pieces after (ltb 0 (distance x k)) (is_straight x k) (is_clear after x k) (is_clear pieces x k) (λ c l. open' (or_right (is_diagonal x k) (is_straight x k) l) c) e
still_reaches pieces after side Queen x k open' e = slides pieces after (ltb 0 (distance x k)) (is_diagonal x k || is_straight x k) (is_clear after x k) (is_clear pieces x k) (λ c l. open' l c) e

-- the same piece attacks on another board too, if the ways that are clear here are clear there
attacks_by : (pieces others : Pieces) (side : Side) (x k : ℕ) → piece_at others x ≡ piece_at pieces x → ((is_diagonal x k || is_straight x k) ≡ true → is_clear others x k ≡ true → is_clear pieces x k ≡ true) →
    attacks others side x k ≡ true → attacks pieces side x k ≡ true
attacks_by pieces others side x k same open' e =
    let seen : attacks_as others side x k (piece_at pieces x) ≡ true = subst (λ (m : Occupant). attacks_as others side x k m ≡ true) same e in
    elim (piece_at pieces x) as (λ m. attacks_as others side x k m ≡ true → attacks_as pieces side x k m ≡ true) [
      | None ↦ λ h. h
      | Some occupant ↦ λ h.
          let parts = and_parts (is_of_side side (Some occupant)) (reaches others side occupant.1 x k) h in
          rw (parts.0, still_reaches pieces others side occupant.1 x k open' parts.1) refl
    ] seen

-- a piece more on the board opens no way
less_open : (pieces : Pieces) (occupant : Side × Kind) (to x k : ℕ) → length pieces ≡ 64 → to < 64 → is_clear (set pieces to (Some occupant)) x k ≡ true → is_clear pieces x k ≡ true
unfolding is_clear
less_open pieces occupant to x k size low clear =
    each_below-all (distance x k - 1) (λ j. is_vacant (piece_at pieces (on_the_way x k (j + 1)))) (λ j less.
    let e = each_below-at (distance x k - 1) j (λ j. is_vacant (piece_at (set pieces to (Some occupant)) (on_the_way x k (j + 1)))) clear less in
    ⊎_elim (λ (here : on_the_way x k (j + 1) ≡ to).
    let there : piece_at (set pieces to (Some occupant)) to ≡ Some occupant = get_or-set_same pieces to (Some occupant) None (omega arith) in
    absurd (false≢true (ap is_vacant (sym there) ∙ ap (λ (s : ℕ). is_vacant (piece_at (set pieces to (Some occupant)) s)) (sym here) ∙ e)))
    (λ (apart : on_the_way x k (j + 1) ≢ to). ap is_vacant (sym (get_or-set_other pieces to (on_the_way x k (j + 1)) (Some occupant) None apart)) ∙ e)
    (cases_eq (on_the_way x k (j + 1)) to))

-- where another piece is on the way, the piece on a square away clears nothing
pub not_alone : (pieces : Pieces) (s x k j : ℕ) → 1 ≤ j → j < distance x k → on_the_way x k j ≢ s → is_vacant (piece_at pieces (on_the_way x k j)) ≡ false → is_clear (set pieces s None) x k ≡ true → is_clear pieces x k ≡ true
unfolding is_clear
not_alone pieces s x k j some less apart full clear =
    let e = each_below-at (distance x k - 1) (j - 1) (λ j. is_vacant (piece_at (set pieces s None) (on_the_way x k (j + 1)))) clear (omega arith) in
    let here : (j - 1) + 1 ≡ j = omega arith in
    let e' : is_vacant (piece_at (set pieces s None) (on_the_way x k j)) ≡ true = subst (λ (i : ℕ). is_vacant (piece_at (set pieces s None) (on_the_way x k i)) ≡ true) here e in
    absurd (false≢true (sym full ∙ ap is_vacant (sym (get_or-set_other pieces s (on_the_way x k j) None None apart)) ∙ e'))

-- shields on the way of an attack along a line
pub shields_line : (pieces : Pieces) (side : Side) (x k set' : ℕ) →
    ((is_diagonal x k || is_straight x k) ≡ true → (s : ℕ) → has set' s ≡ false → s < 64 → is_clear (set pieces s None) x k ≡ true → is_clear pieces x k ≡ true) → Shields pieces side x k set'
shields_line pieces side x k set' open' s low apart out e =
    attacks_by pieces (set pieces s None) side x k (get_or-set_other pieces s x None None apart) (λ on. open' on s out low) e

-- nothing is shielded from a piece that does not attack, wherever the others stand
pub shields_far : (pieces : Pieces) (side : Side) (x k near set' : ℕ) → Nears pieces side k near → x < 64 → has near x ≡ false → Shields pieces side x k set'
shields_far pieces side x k near set' nears low far s low' apart out e =
    absurd (false≢true (sym (nears (set pieces s None) x low far (get_or-set_other pieces s x None None apart)) ∙ e))

-- a larger set has the shields too
pub shields_left : (pieces : Pieces) (side : Side) (x k a b : ℕ) → Shields pieces side x k a → Shields pieces side x k (bit_or a b)
shields_left pieces side x k a b shields s low apart out e = shields s low apart (or_parts (has a s) (has b s) (sym (has-either a b s) ∙ out)).0 e

pub shields_right : (pieces : Pieces) (side : Side) (x k a b : ℕ) → Shields pieces side x k b → Shields pieces side x k (bit_or a b)
shields_right pieces side x k a b shields s low apart out e = shields s low apart (or_parts (has a s) (has b s) (sym (has-either a b s) ∙ out)).1 e

-- what attacks the king's square after the move attacked it before
still_attacks : (pieces : Pieces) (side : Side) (piece : Kind) (from to x k set' : ℕ) (promotion : Option Kind) → length pieces ≡ 64 → from < 64 → to < 64 → x < 64 → Shields pieces (other side) x k set' → has set' from ≡ false →
    attacks (pieces_after_step pieces side piece from to promotion) (other side) x k ≡ true → attacks pieces (other side) x k ≡ true
still_attacks pieces side piece from to x k set' promotion size fl low xl shields out e =
    ⊎_elim (λ (here : x ≡ to).
    let occupant = ap (piece_at (pieces_after_step pieces side piece from to promotion)) here ∙ arrived pieces side piece from to promotion size low in
    let mine : attacks (pieces_after_step pieces side piece from to promotion) (other side) x k ≡ false = rw occupant (rw (not_other side) refl) in
    absurd (false≢true (sym mine ∙ e)))
    (λ (t : x ≢ to).
    ⊎_elim (λ (here : x ≡ from).
    let apart : from ≢ to = λ same. t (here ∙ same) in
    let occupant = ap (piece_at (pieces_after_step pieces side piece from to promotion)) here ∙ left pieces side piece from to promotion size fl apart in
    let none : attacks (pieces_after_step pieces side piece from to promotion) (other side) x k ≡ false = rw occupant refl in
    absurd (false≢true (sym none ∙ e)))
    (λ (f : x ≢ from).
    let gone : Pieces = set pieces from None in
    let long : length gone ≡ 64 = length-set pieces from None ∙ size in
    let occupant : Side × Kind = (side, becomes piece promotion) in
    let same = get_or-set_other gone to x (Some occupant) None t in
    shields from fl f out (attacks_by gone (set gone to (Some occupant)) (other side) x k same (λ on clear. less_open gone occupant to x k long low clear) e))
    (cases_eq x from))
    (cases_eq x to)

-- no piece but the one that moves changes its square
plain : (p : Position) (piece : Kind) (from to : ℕ) (promotion : Option Kind) → p.passant ≡ None → is_king_kind piece ≡ false → pieces_after p piece from to promotion ≡ pieces_after_step p.pieces p.side piece from to promotion
unfolding pieces_after is_en_passant
plain p Pawn from to promotion none e = rw none refl
plain p Knight from to promotion none e = refl
plain p Bishop from to promotion none e = refl
plain p Rook from to promotion none e = refl
plain p Queen from to promotion none e = refl
plain p King from to promotion none e = absurd (cc)

own_kind : (side : Side) (piece : Kind) → is_king side (Some (side, piece)) ≡ is_king_kind piece
own_kind White piece = refl
own_kind Black piece = refl

pub no_some : (o : Option ℕ) → is_some o ≡ false → o ≡ None
no_some None e = refl
no_some (Some n) e = absurd (cc)

pub unpinned : (p : Position) (k from to shields : ℕ) (piece : Kind) (promotion : Option Kind) → length p.pieces ≡ 64 → is_checked p.pieces p.side ≡ false → p.passant ≡ None → k < 64 →
    ((s : ℕ) → s < 64 → s ≢ k → is_king p.side (piece_at p.pieces s) ≡ false) → from < 64 → to < 64 → piece_at p.pieces from ≡ Some (p.side, piece) → promotes p.side piece to promotion ≡ true →
    is_king p.side (piece_at p.pieces from) ≡ false → ((x : ℕ) → x < 64 → Shields p.pieces (other p.side) x k shields) → has shields from ≡ false → is_checked (pieces_after p piece from to promotion) p.side ≡ false
unfolding is_checked is_attacked
unpinned p k from to shields piece promotion size quiet none kl alone fl tl occupant promoted king shielded off =
    let pieces = p.pieces in
    let plain' : is_king_kind piece ≡ false = sym (own_kind p.side piece) ∙ sym (ap (is_king p.side) occupant) ∙ king in
    let after = pieces_after_step pieces p.side piece from to promotion in
    let still : is_checked after p.side ≡ false = some_below-none squares (λ at. is_king p.side (piece_at after at) && is_attacked after (other p.side) at) (λ at less. false_from_ne_true _ (λ hit.
    let low : at < 64 = subst (λ (n : ℕ). at < n) squares-is less in
    let parts = and_parts (is_king p.side (piece_at after at)) (is_attacked after (other p.side) at) hit in
    ⊎_elim (λ (here : at ≡ to).
    let there = ap (piece_at after) here ∙ arrived pieces p.side piece from to promotion size tl in
    let no : is_king p.side (piece_at after at) ≡ false = ap (is_king p.side) there ∙ own_kind p.side (becomes piece promotion) ∙ promoted-king p.side piece to promotion promoted ∙ plain' in
    false≢true (sym no ∙ parts.0))
    (λ (t : at ≢ to).
    ⊎_elim (λ (here : at ≡ from).
    let apart : from ≢ to = λ same. t (here ∙ same) in
    let there = ap (piece_at after) here ∙ left pieces p.side piece from to promotion size fl apart in
    let no : is_king p.side (piece_at after at) ≡ false = ap (is_king p.side) there in
    false≢true (sym no ∙ parts.0))
    (λ (f : at ≢ from).
    let same = man_at-moved pieces p.side piece from to promotion at f t in
    let was : is_king p.side (piece_at pieces at) ≡ true = sym (ap (is_king p.side) same) ∙ parts.0 in
    ⊎_elim (λ (here : at ≡ k).
    let found = some_below-found squares (λ x. attacks after (other p.side) x at) parts.1 in
    let xl : found.0 < 64 = subst (λ (n : ℕ). found.0 < n) squares-is found.1 in
    let shielded' = subst (λ (n : ℕ). Shields pieces (other p.side) found.0 n shields) (sym here) (shielded found.0 xl) in
    let before = still_attacks pieces p.side piece from to found.0 at shields promotion size fl tl xl shielded' off found.2 in
    let attacked : is_attacked pieces (other p.side) at ≡ true = some_square-hit (λ x. attacks pieces (other p.side) x at) found.0 xl before in
    let checked : is_checked pieces p.side ≡ true = some_square-hit (λ at. is_king p.side (piece_at pieces at) && is_attacked pieces (other p.side) at) at low (rw (was, attacked) refl) in
    false≢true (sym quiet ∙ checked))
    (λ (other' : at ≢ k). false≢true (sym (alone at low other') ∙ was))
    (cases_eq at k))
    (cases_eq at from))
    (cases_eq at to))) in
    ap (λ (m : Pieces). is_checked m p.side) (plain p piece from to promotion none plain') ∙ still

-- every square is in the set of all
pub frees_all : (p : Position) → Frees p 18446744073709551615
frees_all p piece from to promotion fl tl out occupant promoted =
    let bit : bit_at 18446744073709551615 from ≡ 1 = bit_at_ones 64 from fl in
    absurd (false≢true (sym out ∙ ap (λ (n : ℕ). n == 1) bit))
