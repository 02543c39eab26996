-- An order that is read has the line for its text.
use Rattle.std.proofs.Common.{◌≡◌, ◌&&◌, ◌||◌, ◌≤◌, not, ℕ, List, [], ◌∷◌, codes, length, Bool, true, false, Option, Some, None, refl, sym, ap, ◌∙◌, arith, if◌then◌else◌, nat_eq, nat_le}
use Rattle.std.proofs.lemmas.Bool.{and_parts}
use Rattle.std.proofs.lemmas.Bool.Decides.{nat_tests}
use Rattle.std.proofs.lemmas.Slice.Eq.{bytes_eq-Decides}
use Rattle.std.specs.Str.{bytes_eq}
use Rattle.line_io.specs.Event.{has_feed, is_line}
use Rattle.line_io.specs.Lines.{line_feed}
use Rattle.protocol_tokens.specs.Tokens.{is_white, is_blank, tokens, trim_left, trim_right, trimmed}
use Rattle.protocol_tokens.proofs.Lengths.{trimmed_length}
use Rattle.uci_lines.specs.Cuts.{is_word}
use Rattle.uci_lines.specs.Orders.{Order as OwnOrder}
use Rattle.uci_lines.specs.OrderReading.{order_in as own_order_in}
use Rattle.uci_interface_lines.specs.Kinds.{has_token_word, kind_asked}
use Rattle.uci_interface_lines.specs.Lines.{Line, position_line_in}
use Rattle.engine_revival.specs.Orders.{RevivalOrder, revival_order_text}
use Rattle.engine_revival.specs.Orders as orders
use Rattle.engine_revival.specs.Asked.{tokens_ask_for, setting_after_name, revival_order_in, position_asked, setting_asked, setting_asked_of, word_asked}

some_is : (a b : RevivalOrder) → Some a ≡ Some b → a ≡ b
some_is a b e = cc

word_or : (b : Bool) (line word : List ℕ) (o c : RevivalOrder) (more : Option RevivalOrder) → bytes_eq line word ≡ b → revival_order_text o ≡ word → (more ≡ Some c → line ≡ revival_order_text c) → (if b then Some o else more) ≡ Some c → line ≡ revival_order_text c
word_or true line word o c more e t h k = (bytes_eq-Decides line word).0 e ∙ sym t ∙ ap revival_order_text (some_is o c k)
word_or false line word o c more e t h k = h k

word_text : (line : List ℕ) (c : RevivalOrder) → word_asked line ≡ Some c → line ≡ revival_order_text c
unfolding revival_order_text
word_text line c h =
    word_or (bytes_eq line (codes "uci")) line (codes "uci") orders.Uci c _ refl refl
    (word_or (bytes_eq line (codes "isready")) line (codes "isready") orders.IsReady c _ refl refl
    (word_or (bytes_eq line (codes "ucinewgame")) line (codes "ucinewgame") orders.NewGame c _ refl refl
    (word_or (bytes_eq line (codes "stop")) line (codes "stop") orders.Stop c _ refl refl
    (word_or (bytes_eq line (codes "ponderhit")) line (codes "ponderhit") orders.PonderHit c _ refl refl
    (word_or (bytes_eq line (codes "quit")) line (codes "quit") orders.Quit c None refl refl
    (λ e. absurd (cc))))))) h

setting_text : (b : Bool) (ts : List (List ℕ)) (line : List ℕ) (c : RevivalOrder) → Some (setting_asked_of b ts line) ≡ Some c → line ≡ revival_order_text c
unfolding revival_order_text
setting_text true ts line c e = ap revival_order_text (some_is (setting_asked_of true ts line) c e)
setting_text false ts line c e = ap revival_order_text (some_is (setting_asked_of false ts line) c e)

named_text : (b : Bool) (ts : List (List ℕ)) (line : List ℕ) (c : RevivalOrder) → (if b then setting_after_name ts line else None) ≡ Some c → line ≡ revival_order_text c
named_text true [] line c e = absurd (cc)
named_text true (t ∷ ts) line c e = setting_text (has_token_word (codes "value") ts) (t ∷ ts) line c e
named_text false ts line c e = absurd (cc)

settings_text : (ts : List (List ℕ)) (line : List ℕ) (c : RevivalOrder) → setting_asked ts line ≡ Some c → line ≡ revival_order_text c
settings_text [] line c e = absurd (cc)
settings_text (t ∷ ts) line c e = named_text (is_word (codes "name") t) ts line c e

position_text : (own : Option OwnOrder) (o : Option Line) (line : List ℕ) (c : RevivalOrder) → position_asked own o line ≡ Some c → line ≡ revival_order_text c
unfolding revival_order_text
position_text (Some own) o line c e = ap revival_order_text (some_is (orders.Position line) c e)
position_text None (Some said) line c e = ap revival_order_text (some_is (orders.Position line) c e)
position_text None None line c e = absurd (cc)

go_text : (line : List ℕ) (c : RevivalOrder) → Some (orders.Go (kind_asked line) line) ≡ Some c → line ≡ revival_order_text c
unfolding revival_order_text
go_text line c e = ap revival_order_text (some_is (orders.Go (kind_asked line) line) c e)

by_word : (a b g : Bool) (ts : List (List ℕ)) (line : List ℕ) (c : RevivalOrder)
    → (if a then setting_asked ts line else (if b then position_asked (own_order_in line) (position_line_in line) line else (if g then Some (orders.Go (kind_asked line) line) else word_asked line))) ≡ Some c → line ≡ revival_order_text c
by_word true b g ts line c e = settings_text ts line c e
by_word false true g ts line c e = position_text (own_order_in line) (position_line_in line) line c e
by_word false false true ts line c e = go_text line c e
by_word false false false ts line c e = word_text line c e

by_tokens : (ts : List (List ℕ)) (line : List ℕ) (c : RevivalOrder) → tokens_ask_for ts line ≡ Some c → line ≡ revival_order_text c
by_tokens [] line c e = absurd (cc)
by_tokens (t ∷ ts) line c e = by_word (is_word (codes "setoption") t) (is_word (codes "position") t) (is_word (codes "go") t) ts line c e

pub asked_text : (line : List ℕ) (c : RevivalOrder) → revival_order_in line ≡ Some c → line ≡ revival_order_text c
unfolding revival_order_in
asked_text line c e = by_tokens (tokens line) line c e

-- WITHOUT THE WHITE SPACE AT ITS ENDS A LINE IS ONE STILL

neither : (a b : Bool) → (a || b) ≡ false → (a ≡ false) × (b ≡ false)
neither true b e = absurd (cc)
neither false b e = (refl, e)

left_step : (w : Bool) (b : ℕ) (bs : List ℕ) → has_feed (b ∷ bs) ≡ false → has_feed (trim_left bs) ≡ false → has_feed (if w then trim_left bs else b ∷ bs) ≡ false
left_step true b bs h k = k
left_step false b bs h k = h

left : (xs : List ℕ) → has_feed xs ≡ false → has_feed (trim_left xs) ≡ false
left [] h = refl
left (b ∷ bs) h = left_step (is_white b) b bs h (left bs (neither (nat_eq b line_feed) (has_feed bs) h).1)

right_step : (w : Bool) (b : ℕ) (bs : List ℕ) → nat_eq b line_feed ≡ false → has_feed (trim_right bs) ≡ false → has_feed (if w then [] else b ∷ trim_right bs) ≡ false
right_step true b bs h k = refl
right_step false b bs h k = ap (λ (x : Bool). x || has_feed (trim_right bs)) h ∙ k

right : (xs : List ℕ) → has_feed xs ≡ false → has_feed (trim_right xs) ≡ false
right [] h = refl
right (b ∷ bs) h =
    let p = neither (nat_eq b line_feed) (has_feed bs) h in
    right_step (is_blank (b ∷ bs)) b bs p.0 (right bs p.1)

pub trimmed_feedless : (line : List ℕ) → has_feed line ≡ false → has_feed (trimmed line) ≡ false
trimmed_feedless line h = right (trim_left line) (left line h)

pub trimmed_short : (line : List ℕ) (most : ℕ) → length line ≤ most → length (trimmed line) ≤ most
trimmed_short line most h = omega (arith, h, trimmed_length line)

not_true : (b : Bool) → not b ≡ true → b ≡ false
not_true true e = absurd (cc)
not_true false e = refl

both_true : (a b : Bool) → a ≡ true → b ≡ false → (a && not b) ≡ true
both_true a b e f = ap (λ (x : Bool). x && not b) e ∙ ap (λ (x : Bool). not x) f

pub trimmed_line : (line : List ℕ) → is_line line ≡ true → is_line (trimmed line) ≡ true
trimmed_line line h =
    let p = and_parts (nat_le (length line) 65536) (not (has_feed line)) h in
    let t = trimmed line in
    let shorter = trimmed_length line in
    let few : length line ≤ 65536 = grind (arith, nat_tests, p.0) in
    let most : nat_le (length t) 65536 ≡ true = grind (arith, nat_tests, few, shorter) in
    both_true (nat_le (length t) 65536) (has_feed t) most (trimmed_feedless line (not_true (has_feed line) p.1))
