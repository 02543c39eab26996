-- The order of a search is spelled by its text.
use Rattle.std.proofs.Common.{◌≡◌, ℕ, ◌-◌, ◌<◌, ◌&&◌, Bool, true, false, Option, Some, None, refl, arith}
use Rattle.std.proofs.lemmas.Bool.Decides.{nat_tests}
use Rattle.std.specs.Prelude.{max, ℤ, pos, negsuc}
use Rattle.chess_board.specs.declared.board.Side.{Side}
use Rattle.chess_board.specs.declared.board.Side.TheVariants.{White, Black}
use Rattle.protocol_tokens.specs.declared.kinds.GoKind.{GoKind}
use Rattle.protocol_tokens.specs.declared.kinds.GoKind.TheVariants.{Move, Ponder, Analyse}
use Rattle.uci_lines.specs.Orders.{uci_order_text}
use Rattle.uci_lines.specs.OrderReading.{is_search, is_positive_or_none, SpellsOrder}
use Rattle.uci_lines.specs.Written.{is_count, is_positive}
use Rattle.clock_map.specs.declared.request.SearchRequest.{SearchRequest}
use Rattle.clock_map.specs.declared.clocks.Clocks.{Clocks}
use Rattle.clock_map.specs.declared.clocks.Control.{Control}
use Rattle.clock_map.specs.declared.clocks.Control.TheVariants.{Session, Fixed}
use Rattle.clock_map.specs.Clocks.{ClocksAreShort, HasTenDigits, IsShortControl, IsShortLimit, at_least_one}
use Rattle.clock_map.specs.Search.{order_by_kind, time_of, moves_to_go, SearchOrdersAreSpelled}
use Rattle.clock_map.proofs.Lengths.{to_go_short, less_small, max_small}

counted : (n : ℕ) → HasTenDigits n → is_count n ≡ true
counted n h = grind (arith, nat_tests)

positive : (n : ℕ) → 0 < n → HasTenDigits n → is_positive n ≡ true
positive n some h = grind (arith, nat_tests)

limited : (n : Option ℕ) → IsShortLimit n → is_positive_or_none n ≡ true
limited None h = refl
limited (Some n) h = positive n h.0 h.1

time_positive : (n : ℕ) → HasTenDigits n → is_positive (max n 1) ≡ true
time_positive n h = positive (max n 1) (omega arith) (max_small n h)

all_true : (a b c d e f : Bool) → a ≡ true → b ≡ true → c ≡ true → d ≡ true → e ≡ true → f ≡ true → (a && b && c && d && e && f) ≡ true
all_true a b c d e f p q r s t u = rw (p, q, r, s, t, u) refl

shown_positive : (t : ℤ) → HasTenDigits (at_least_one t) → is_positive (at_least_one t) ≡ true
shown_positive (pos n) h = positive (max n 1) (omega arith) h
shown_positive (negsuc n) h = refl

timed : (control : Control) (ponder : Bool) (c : Clocks) (side : Side) (plies margin : ℕ) → IsShortControl control → ClocksAreShort c → is_search ponder (time_of control c side plies margin) c.depth ≡ true
timed Session ponder c White plies margin h s =
    all_true (is_positive (at_least_one c.engine)) (is_positive (at_least_one c.opponent)) (is_count c.increment) (is_count c.increment) (is_positive_or_none (moves_to_go c.moves plies)) (is_positive_or_none c.depth)
    (shown_positive c.engine s.engine) (shown_positive c.opponent s.opponent) (counted c.increment s.increment) (counted c.increment s.increment) (limited (moves_to_go c.moves plies) (to_go_short c.moves plies s.moves)) (limited c.depth s.depth)
timed Session ponder c Black plies margin h s =
    all_true (is_positive (at_least_one c.opponent)) (is_positive (at_least_one c.engine)) (is_count c.increment) (is_count c.increment) (is_positive_or_none (moves_to_go c.moves plies)) (is_positive_or_none c.depth)
    (shown_positive c.opponent s.opponent) (shown_positive c.engine s.engine) (counted c.increment s.increment) (counted c.increment s.increment) (limited (moves_to_go c.moves plies) (to_go_short c.moves plies s.moves)) (limited c.depth s.depth)
timed (Fixed time) ponder c side plies margin h s = rw (time_positive (time - margin) (less_small time margin h), limited c.depth s.depth) refl

spelled_of_kind : (kind : GoKind) (r : SearchRequest) (c : Clocks) → ClocksAreShort c → SpellsOrder (uci_order_text (order_by_kind kind r c)) (order_by_kind kind r c)
spelled_of_kind Move r c s = record { fits = timed c.control false c r.side r.plies r.settings.time_margin s.control s; text = refl }
spelled_of_kind Ponder r c s = record { fits = timed c.control true c r.side r.plies r.settings.time_margin s.control s; text = refl }
spelled_of_kind Analyse r c s = record { fits = refl; text = refl }

pub spelled : SearchOrdersAreSpelled
spelled r c s = spelled_of_kind r.kind r c s
