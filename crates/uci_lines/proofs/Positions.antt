-- The orders that set a position up, in both directions.
use Rattle.std.proofs.Common.{◌≡◌, ℕ, zero, suc, ◌-◌, ◌<◌, ◌≤◌, length, List, [], ◌∷◌, ◌++◌, Bool, true, false, ◌&&◌, cond, eqb, leb, le-leb, Option, Some, None, Result, Ok, Err, codes, refl, sym, ap, ◌∙◌, arith, append_assoc, subst}
use Rattle.std.proofs.lemmas.List.{append-nil}
use Rattle.std.specs.List.{join_with_byte, AllByRecursion}
use Rattle.std.proofs.lemmas.Bool.Decides.{nat_tests}
use Rattle.uci_lines.specs.Orders.{Order, Position, order_start_text, order_moves_text}
use Rattle.uci_lines.specs.Behind.{after}
use Rattle.chess_board.specs.Spelling.{move_spelled_by}
use Rattle.std.specs.Str.{bytes_eq}
use Rattle.std.proofs.lemmas.Bool.{and_parts}
use Rattle.chess_board.specs.Position.{Position as AnyPosition}
use Rattle.fen_text.specs.declared.fault.FenFault.{FenFault}
use Rattle.fen_text.specs.Fen.{position_of}
use Rattle.fen_text.specs.Written.{position_fen, fields_text, IsNormal}
use Rattle.fen_text.proofs.Cut.{Above, IsWord}
use Rattle.fen_text.proofs.Boards.{word-board}
use Rattle.fen_text.proofs.Others.{word-side, word-rights, word-passant, word-count}
use Rattle.fen_text.proofs.Back.{reads_back}
use Rattle.uci_lines.specs.Written.{is_moves, fen_by, is_fen, fields_before, split_onto}
use Rattle.uci_lines.specs.OrderReading.{is_writable_start, is_played, moves_by, moves_in, position_order_from, setup_order, fen_in, start_order_in, position_in}
use Rattle.uci_lines.proofs.Stripped.{word_after}
use Rattle.uci_lines.proofs.Counts.{same_text, text_same}

-- both halves are the text
halves_step : (b : ℕ) (bs : List ℕ) (halves : List ℕ × List ℕ) → halves.0 ++ halves.1 ≡ bs → (split_onto b halves).0 ++ (split_onto b halves).1 ≡ b ∷ bs
halves_step b bs halves h = ap (λ t. b ∷ t) h

zero_step : (t : Bool) (b : ℕ) (bs : List ℕ) (halves : List ℕ × List ℕ) → halves.0 ++ halves.1 ≡ bs → (cond t ([], b ∷ bs) (split_onto b halves)).0 ++ (cond t ([], b ∷ bs) (split_onto b halves)).1 ≡ b ∷ bs
zero_step true b bs halves h = refl
zero_step false b bs halves h = ap (λ t. b ∷ t) h

pub halves_are : (blanks : ℕ) (text : List ℕ) → (fields_before blanks text).0 ++ (fields_before blanks text).1 ≡ text
halves_are blanks [] = refl
halves_are zero (b ∷ bs) = zero_step (eqb b 32) b bs (fields_before zero bs) (halves_are zero bs)
halves_are (suc blanks) (b ∷ bs) = halves_step b bs (fields_before (cond (eqb b 32) blanks (suc blanks)) bs) (halves_are (cond (eqb b 32) blanks (suc blanks)) bs)

moves_if : (t : Bool) (moves found : List ℕ) → cond t (Some moves) None ≡ Some found → (t ≡ true) × (moves ≡ found)
moves_if true moves found h = (refl, cc)
moves_if false moves found h = absurd (cc)

pub record Moves (text moves : List ℕ) : Type 0 where
  pub fits : is_played moves ≡ true
  pub whole : text ≡ order_moves_text moves

is_moves_text : (moves : List ℕ) → is_moves moves ≡ true → is_played moves ≡ true
is_moves_text [] h = refl
is_moves_text (b ∷ bs) h = h

some_moves : (moves : List ℕ) → is_moves moves ≡ true → codes " moves " ++ moves ≡ order_moves_text moves
unfolding move_spelled_by
some_moves [] h = absurd (cc)
some_moves (b ∷ bs) h = refl

by_takes : (text : List ℕ) (o : Option (List ℕ)) (moves : List ℕ) → after (codes " moves ") text ≡ o → moves_by o ≡ Some moves → Moves text moves
by_takes text None moves e h = absurd (cc)
by_takes text (Some found) moves e h =
    let both = moves_if (is_moves found) found moves h in
    let test : is_moves moves ≡ true = sym (ap is_moves both.1) ∙ both.0 in
    record {
      fits = is_moves_text moves test;
      whole = word_after (codes " moves ") text found e ∙ ap (λ t. codes " moves " ++ t) both.1 ∙ some_moves moves test;
    }

pub moves_takes : (text moves : List ℕ) → moves_in text ≡ Some moves → Moves text moves
moves_takes [] moves h = let same : [] ≡ moves = cc in subst (λ (m : List ℕ). Moves [] m) same (record { fits = refl; whole = refl })
moves_takes (b ∷ bs) moves h = by_takes (b ∷ bs) (after (codes " moves ") (b ∷ bs)) moves refl h

-- after `position `, as the text of an order
abbrev pub PositionIs : List ℕ → Order → Type 0
PositionIs text c = (fen : Option (List ℕ)) × (moves : List ℕ) × (c ≡ Position fen moves) × (is_writable_start fen ≡ true) × (is_played moves ≡ true) × (text ≡ order_start_text fen ++ order_moves_text moves)

placed_takes : (fen : Option (List ℕ)) (text others : List ℕ) (o : Option (List ℕ)) (c : Order) → is_writable_start fen ≡ true → text ≡ order_start_text fen ++ others → moves_in others ≡ o → position_order_from fen o ≡ Some c → PositionIs text c
placed_takes fen text others None c s e f h = absurd (cc)
placed_takes fen text others (Some moves) c s e f h =
    let m = moves_takes others moves f in
    let same : Position fen moves ≡ c = cc in
    (fen, moves, sym same, s, m.fits, e ∙ ap (λ t. order_start_text fen ++ t) m.whole)

set_up_takes : (text : List ℕ) (t : Bool) (halves : List ℕ × List ℕ) (c : Order) → is_fen halves.0 ≡ t → text ≡ codes "fen " ++ (halves.0 ++ halves.1) → cond t (position_order_from (Some halves.0) (moves_in halves.1)) None ≡ Some c → PositionIs text c
set_up_takes text true halves c e f h = placed_takes (Some halves.0) text halves.1 (moves_in halves.1) c e (f ∙ sym (append_assoc (codes "fen ") halves.0 halves.1)) refl h
set_up_takes text false halves c e f h = absurd (cc)

fen_takes : (text : List ℕ) (o : Option (List ℕ)) (c : Order) → after (codes "fen ") text ≡ o → fen_in o ≡ Some c → PositionIs text c
fen_takes text None c e h = absurd (cc)
fen_takes text (Some others) c e h =
    let halves = fields_before 5 others in
    set_up_takes text (is_fen halves.0) halves c refl (word_after (codes "fen ") text others e ∙ ap (λ t. codes "fen " ++ t) (sym (halves_are 5 others))) h

start_takes : (text : List ℕ) (o : Option (List ℕ)) (c : Order) → after (codes "startpos") text ≡ o → start_order_in o text ≡ Some c → PositionIs text c
start_takes text None c e h = fen_takes text (after (codes "fen ") text) c refl h
start_takes text (Some others) c e h = placed_takes None text others (moves_in others) c refl (word_after (codes "startpos") text others e) refl h

pub position_takes : (text : List ℕ) (c : Order) → position_in text ≡ Some c → PositionIs text c
position_takes text c h = start_takes text (after (codes "startpos") text) c refl h

-- The other way round: what is written is read.
moves_again : (moves : List ℕ) → is_played moves ≡ true → moves_in (order_moves_text moves) ≡ Some moves
moves_again [] h = refl
moves_again (b ∷ bs) h = rw h refl

-- a field without blanks, before a text
no_blank : (blanks c : ℕ) (cs : List ℕ) → 32 < c → fields_before blanks (c ∷ cs) ≡ split_onto c (fields_before blanks cs)
no_blank zero c cs h = let t : eqb c 32 ≡ false = grind (arith, nat_tests) in rw t refl
no_blank (suc blanks) c cs h = let t : eqb c 32 ≡ false = grind (arith, nat_tests) in rw t refl

abbrev moved : List ℕ → List ℕ × List ℕ → List ℕ × List ℕ
moved bytes halves = (bytes ++ halves.0, halves.1)

word_before : (blanks : ℕ) (word more : List ℕ) → Above 32 word → fields_before blanks (word ++ more) ≡ moved word (fields_before blanks more)
word_before blanks [] more h = refl
word_before blanks (c ∷ cs) more h = no_blank blanks c (cs ++ more) h.0 ∙ ap (split_onto c) (word_before blanks cs more h.1)

-- nothing, or a text that begins with a blank
abbrev pub BeginsBlank : List ℕ → Type 0
BeginsBlank [] = Unit {0}
BeginsBlank (b ∷ bs) = b ≡ 32

ends_here : (more : List ℕ) → BeginsBlank more → fields_before 0 more ≡ ([], more)
ends_here [] h = refl
ends_here (b ∷ bs) h = let t : eqb b 32 ≡ true = grind (arith, nat_tests) in rw t refl

words_before : (words : List (List ℕ)) (blanks : ℕ) (more : List ℕ) → length words ≡ suc blanks → AllByRecursion IsWord words → BeginsBlank more → fields_before blanks (join_with_byte 32 words ++ more) ≡ (join_with_byte 32 words, more)
words_before [] blanks more l w h = absurd (omega (arith, l))
words_before (word ∷ []) blanks more l w h =
    let none : blanks ≡ 0 = omega (arith, l) in
    ap (λ n. fields_before n (word ++ more)) none
    ∙ word_before 0 word more w.0.1
    ∙ ap (moved word) (ends_here more h)
    ∙ ap (λ t. (t, more)) (append-nil word)
words_before (word ∷ next ∷ words) blanks more l w h =
    one_more (word) (join_with_byte 32 (next ∷ words)) more blanks (omega (arith, l)) w.0.1 (words_before (next ∷ words) (blanks - 1) more (omega (arith, l)) w.1 h)
  where
    one_more : (first others rest : List ℕ) (n : ℕ) → 0 < n → Above 32 first → fields_before (n - 1) (others ++ rest) ≡ (others, rest) → fields_before n ((first ++ (32 ∷ others)) ++ rest) ≡ (first ++ (32 ∷ others), rest)
    one_more first others rest zero p a e = absurd (omega (arith, p))
    one_more first others rest (suc n) p a e =
        let less : suc n - 1 ≡ n = omega arith in
        let later : fields_before n (others ++ rest) ≡ (others, rest) = ap (λ k. fields_before k (others ++ rest)) (sym less) ∙ e in
        ap (fields_before (suc n)) (append_assoc first (32 ∷ others) rest)
        ∙ word_before (suc n) first (32 ∷ (others ++ rest)) a
        ∙ ap (λ (halves : List ℕ × List ℕ). moved first (split_onto 32 halves)) later

written_halves : (p : AnyPosition) (more : List ℕ) → p.half ≤ 99999 → p.full ≤ 99999 → BeginsBlank more → fields_before 5 (position_fen p ++ more) ≡ (position_fen p, more)
unfolding position_fen
written_halves p more h f w =
    words_before (fields_text p) 5 more refl
    (word-board p.pieces, (word-side p.side, (word-rights p.rights, (word-passant p.passant, (word-count p.half (omega arith), (word-count p.full (omega arith), tt))))))
    w

fen_halves_by : (text more : List ℕ) (r : Result AnyPosition FenFault) → fen_by r text ≡ true → BeginsBlank more → fields_before 5 (text ++ more) ≡ (text, more)
fen_halves_by text more (Err fault) h w = absurd (cc)
fen_halves_by text more (Ok p) h w =
    let full = and_parts (bytes_eq (position_fen p) text && leb p.half 99999) (leb p.full 99999) h in
    let half = and_parts (bytes_eq (position_fen p) text) (leb p.half 99999) full.0 in
    let a : leb p.half 99999 ≡ true = half.1 in
    let b : leb p.full 99999 ≡ true = full.1 in
    let low : p.half ≤ 99999 = grind (arith, nat_tests) in
    let top : p.full ≤ 99999 = grind (arith, nat_tests) in
    let same : position_fen p ≡ text = same_text (position_fen p) text half.0 in
    subst (λ (t : List ℕ). fields_before 5 (t ++ more) ≡ (t, more)) same (written_halves p more low top w)

fen_halves : (text more : List ℕ) → is_fen text ≡ true → BeginsBlank more → fields_before 5 (text ++ more) ≡ (text, more)
fen_halves text more h w = fen_halves_by text more (position_of text) h w

moves_blank : (moves : List ℕ) → BeginsBlank (order_moves_text moves)
moves_blank [] = tt
moves_blank (b ∷ bs) = refl

pub position_again : (fen : Option (List ℕ)) (moves : List ℕ) → is_writable_start fen ≡ true → is_played moves ≡ true → position_in (order_start_text fen ++ order_moves_text moves) ≡ Some (Position fen moves)
position_again None moves s h = ap (position_order_from None) (moves_again moves h)
position_again (Some fen) moves s h =
    ap (λ t. fen_in (after (codes "fen ") t)) (append_assoc (codes "fen ") fen (order_moves_text moves))
    ∙ ap setup_order (fen_halves fen (order_moves_text moves) s (moves_blank moves))
    ∙ ap (λ t. cond t (position_order_from (Some fen) (moves_in (order_moves_text moves))) None) s
    ∙ ap (position_order_from (Some fen)) (moves_again moves h)

-- The text of every position of normal chess may stand in an order.
pub written_fits : (p : AnyPosition) → IsNormal p → is_fen (position_fen p) ≡ true
written_fits p n =
    let q = n.0 in
    let half : leb p.half 99999 ≡ true = le-leb p.half 99999 q.half in
    let full : leb p.full 99999 ≡ true = le-leb p.full 99999 q.full.1 in
    ap (λ r. fen_by r (position_fen p)) (reads_back p n) ∙ rw (text_same (position_fen p) (position_fen p) refl, half, full) refl
