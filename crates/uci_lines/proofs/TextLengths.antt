-- The greatest lengths of orders.
use Rattle.std.proofs.Common.{◌≡◌, ℕ, ◌+◌, ◌<◌, ◌≤◌, ◌^◌, List, [], ◌∷◌, Bool, true, false, ◌&&◌, Option, Some, None, codes, decimal, length, length-append, arith, lit<}
use Rattle.std.proofs.lemmas.Fmt.{length-decimal-le}
use Rattle.std.proofs.lemmas.Bool.{and_parts}
use Rattle.uci_lines.specs.declared.orders.GoControl.{GoControl}
use Rattle.uci_lines.specs.declared.orders.GoControl.TheVariants.{Infinite, MoveTime, Clock}
use Rattle.uci_lines.specs.Orders.{optional_text, optional_number, set_option_text, order_start_text, order_moves_text, uci_position_text, ponder_text, control_text, go_text}
use Rattle.uci_lines.specs.Written.{is_count, is_positive}
use Rattle.uci_lines.specs.OrderReading.{is_positive_or_none, is_search}
use Rattle.uci_lines.proofs.Searches.{count_below, positive_below, depth_fits}

pub count_length : (n : ℕ) → n < 10 ^ 18 → length (decimal n) ≤ 18
count_length n h = length-decimal-le 18 n (lit< tt) h (omega arith)

pub optional_number_length : (word : List ℕ) (n : Option ℕ) → is_positive_or_none n ≡ true → length (optional_number word n) ≤ length word + 18
optional_number_length word None h = omega arith
optional_number_length word (Some n) h = omega (arith, count_length n (positive_below n h), length-append word (decimal n))

ponder_length : (ponder : Bool) → length (ponder_text ponder) ≤ 7
ponder_length false = omega arith
ponder_length true = omega arith

control_length : (ponder : Bool) (control : GoControl) (depth : Option ℕ) → is_search ponder control depth ≡ true → length (control_text control) ≤ 127
control_length ponder Infinite depth h = omega arith
control_length ponder (MoveTime time) depth h =
    let a = and_parts (is_positive time) (is_positive_or_none depth) h in
    omega (arith, length-append (codes " movetime ") (decimal time), count_length time (positive_below time a.0))
control_length ponder (Clock w b i j m) depth h =
    let e = and_parts (is_positive w && is_positive b && is_count i && is_count j && is_positive_or_none m) (is_positive_or_none depth) h in
    let d = and_parts (is_positive w && is_positive b && is_count i && is_count j) (is_positive_or_none m) e.0 in
    let c = and_parts (is_positive w && is_positive b && is_count i) (is_count j) d.0 in
    let k = and_parts (is_positive w && is_positive b) (is_count i) c.0 in
    let a = and_parts (is_positive w) (is_positive b) k.0 in
    simp length-append (omega (arith, count_length w (positive_below w a.0), count_length b (positive_below b a.1), count_length i (count_below i k.1), count_length j (count_below j c.1), optional_number_length (codes " movestogo ") m d.1))

-- a `go` order
pub go_length : (ponder : Bool) (control : GoControl) (depth : Option ℕ) → is_search ponder control depth ≡ true → length (go_text ponder control depth) ≤ 161
go_length ponder control depth h =
    simp length-append (omega (arith, ponder_length ponder, control_length ponder control depth h, optional_number_length (codes " depth ") depth (depth_fits ponder control depth h)))

optional_text_length : (value : Option (List ℕ)) (n : ℕ) → length (optional_text [] value) ≤ n → length (optional_text (codes " value ") value) ≤ 7 + n
optional_text_length None n h = omega arith
optional_text_length (Some value) n h = omega (arith, length-append (codes " value ") value)

-- a `setoption` order
pub setting_length : (name : List ℕ) (value : Option (List ℕ)) (n : ℕ) → length (optional_text [] value) ≤ n → length (set_option_text name value) ≤ 22 + length name + n
setting_length name value n h = simp length-append (omega (arith, optional_text_length value n h))

start_length : (fen : Option (List ℕ)) (n : ℕ) → length (optional_text [] fen) ≤ n → length (order_start_text fen) ≤ 8 + n
start_length None n h = omega arith
start_length (Some fen) n h = omega (arith, length-append (codes "fen ") fen)

moves_length : (moves : List ℕ) → length (order_moves_text moves) ≤ 7 + length moves
moves_length [] = omega arith
moves_length (b ∷ bs) = omega (arith, length-append (codes " moves ") (b ∷ bs))

-- a `position` order
pub position_length : (fen : Option (List ℕ)) (moves : List ℕ) (n : ℕ) → length (optional_text [] fen) ≤ n → length (uci_position_text fen moves) ≤ 24 + n + length moves
position_length fen moves n h = simp length-append (omega (arith, start_length fen n h, moves_length moves))
