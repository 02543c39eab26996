-- The order of a search may be written, and how long its text is at most.
use Rattle.std.proofs.Common.{◌≡◌, ℕ, ◌+◌, ◌-◌, ◌/◌, ◌%◌, ◌^◌, ◌<◌, ◌≤◌, Bool, true, false, cond, eqb, List, ◌++◌, length, Option, Some, None, refl, arith, lit<, lit≤}
use Rattle.std.proofs.Math.Nat.{max-le, mod-lt}
use Rattle.std.proofs.lemmas.Bool.Decides.{nat_tests}
use Rattle.std.proofs.lemmas.List.{length-append}
use Rattle.std.proofs.lemmas.Fmt.{length-decimal-le}
use Rattle.std.specs.Prelude.{max, codes, decimal}
use Rattle.chess_board.specs.declared.board.Side.{Side}
use Rattle.chess_board.specs.declared.board.Side.TheVariants.{White, Black}
use Rattle.protocol_tokens.specs.declared.kinds.GoKind.{GoKind}
use Rattle.protocol_tokens.specs.declared.kinds.GoKind.TheVariants.{Move, Ponder, Analyse}
use Rattle.uci_lines.specs.declared.orders.GoControl.{GoControl}
use Rattle.uci_lines.specs.declared.orders.GoControl.TheVariants.{Clock}
use Rattle.uci_lines.specs.Orders.{uci_order_text, go_text, control_text, optional_number}
use Rattle.clock_map.specs.declared.request.SearchRequest.{SearchRequest}
use Rattle.clock_map.specs.declared.clocks.Clocks.{Clocks}
use Rattle.clock_map.specs.declared.clocks.Control.{Control}
use Rattle.clock_map.specs.declared.clocks.Control.TheVariants.{Session, Fixed}
use Rattle.clock_map.specs.Clocks.{ClocksAreShort, HasTenDigits, IsShortControl, IsShortLimit, at_least_one}
use Rattle.clock_map.specs.Search.{moves_to_go, time_of, order_by_kind, AreFewBytes}

-- a word and a short number
digits : (n : ℕ) → HasTenDigits n → length (decimal n) ≤ 10
digits n h = length-decimal-le 10 n (lit< tt) h (omega arith)

number_length : (prefix word : List ℕ) (n m : ℕ) → HasTenDigits n → length prefix ≤ m → length (prefix ++ word ++ decimal n) ≤ m + length word + 10
number_length prefix word n m h l = omega (arith, digits n h, length-append (prefix ++ word) (decimal n), length-append prefix word)

optional_length : (word : List ℕ) (n : Option ℕ) → IsShortLimit n → length (optional_number word n) ≤ length word + 10
optional_length word None h = omega arith
optional_length word (Some n) h = omega (arith, length-append word (decimal n), digits n h.1)

last_length : (prefix word : List ℕ) (n : Option ℕ) (m : ℕ) → IsShortLimit n → length prefix ≤ m → length (prefix ++ optional_number word n) ≤ m + length word + 10
last_length prefix word n m h l = omega (arith, optional_length word n h, length-append prefix (optional_number word n))

pub max_small : (n : ℕ) → n < 10 ^ 10 → max n 1 < 10 ^ 10
max_small n h = let a : n ≤ 9999999999 = omega arith in let b : 1 ≤ 9999999999 = lit≤ tt in let m : max n 1 ≤ 9999999999 = max-le a b in omega arith

to_go_step : (b : Bool) (moves plies : ℕ) → eqb moves 0 ≡ b → HasTenDigits moves → IsShortLimit (cond b None (Some (moves - plies / 2 % moves)))
to_go_step true moves plies e h = tt
to_go_step false moves plies e h =
    let some : 0 < moves = grind (arith, nat_tests) in
    let less : plies / 2 % moves < moves = mod-lt (plies / 2) some in
    (omega arith, omega arith)

pub to_go_short : (moves plies : ℕ) → HasTenDigits moves → IsShortLimit (moves_to_go moves plies)
to_go_short moves plies h = to_go_step (eqb moves 0) moves plies refl h

clock_length : (w b i : ℕ) (k : Option ℕ) → HasTenDigits w → HasTenDigits b → HasTenDigits i → IsShortLimit k → length (control_text (Clock w b i i k)) ≤ 87
clock_length w b i k hw hb hi hk =
    let one = codes " wtime " ++ decimal w in
    let two = one ++ codes " btime " ++ decimal b in
    let three = two ++ codes " winc " ++ decimal i in
    let four = three ++ codes " binc " ++ decimal i in
    let l1 : length one ≤ 17 = omega (arith, digits w hw) in
    let l2 : length two ≤ 34 = number_length one (codes " btime ") b 17 hb l1 in
    let l3 : length three ≤ 50 = number_length two (codes " winc ") i 34 hi l2 in
    let l4 : length four ≤ 66 = number_length three (codes " binc ") i 50 hi l3 in
    last_length four (codes " movestogo ") k 66 hk l4

-- a time that is less by a margin is as short
pub less_small : (n m : ℕ) → HasTenDigits n → HasTenDigits (n - m)
less_small n m h = omega arith

control_length : (control : Control) (c : Clocks) (side : Side) (plies margin : ℕ) → IsShortControl control → ClocksAreShort c → length (control_text (time_of control c side plies margin)) ≤ 87
control_length Session c White plies margin h s = clock_length (at_least_one c.engine) (at_least_one c.opponent) c.increment (moves_to_go c.moves plies) s.engine s.opponent s.increment (to_go_short c.moves plies s.moves)
control_length Session c Black plies margin h s = clock_length (at_least_one c.opponent) (at_least_one c.engine) c.increment (moves_to_go c.moves plies) s.opponent s.engine s.increment (to_go_short c.moves plies s.moves)
control_length (Fixed time) c side plies margin h s =
    omega (arith, digits (max (time - margin) 1) (max_small (time - margin) (less_small time margin h)))

go_length : (ponder : Bool) (control : GoControl) (depth : Option ℕ) → length (control_text control) ≤ 87 → IsShortLimit depth → length (go_text ponder control depth) ≤ 113
go_length true control depth h d =
    let prefix : length (codes "go ponder" ++ control_text control) ≤ 96 = omega (arith, h) in
    last_length (codes "go ponder" ++ control_text control) (codes " depth ") depth 96 d prefix
go_length false control depth h d =
    let prefix : length (codes "go" ++ control_text control) ≤ 96 = omega (arith, h) in
    last_length (codes "go" ++ control_text control) (codes " depth ") depth 96 d prefix

few_of_kind : (kind : GoKind) (r : SearchRequest) (c : Clocks) → ClocksAreShort c → length (uci_order_text (order_by_kind kind r c)) ≤ 113
unfolding uci_order_text
few_of_kind Move r c s = go_length false (time_of c.control c r.side r.plies r.settings.time_margin) c.depth (control_length c.control c r.side r.plies r.settings.time_margin s.control s) s.depth
few_of_kind Ponder r c s = go_length true (time_of c.control c r.side r.plies r.settings.time_margin) c.depth (control_length c.control c r.side r.plies r.settings.time_margin s.control s) s.depth
few_of_kind Analyse r c s = lit≤ tt

pub few_bytes : AreFewBytes
few_bytes r c s = few_of_kind r.kind r c s
