-- The orders that early lines ask for: they may be held, and are not much longer than the lines.
use Rattle.std.proofs.Common.{◌≡◌, ℕ, ◌+◌, ◌*◌, ◌<◌, ◌≤◌, List, [], ◌∷◌, ◌++◌, length, take, drop, position, codes, true, Option, Some, None, IfSome, Result, Ok, Err, refl, sym, ap, subst, ◌∙◌, arith, length-append}
use Rattle.std.specs.Prelude.{ℤ, pos, negsuc}
use Rattle.std.specs.Int.RustNames.{FitsSigned}
use mir.Syntax.{w64}
use Rattle.std.specs.List.{AllByRecursion}
use Rattle.std.specs.Option.{option_to_list}
use Rattle.std.proofs.lemmas.List.{take-append-drop, length-drop}
use Rattle.line_io.specs.Event.{is_line}
use Rattle.protocol_tokens.specs.Tokens.{trimmed, rest_after_token}
use Rattle.protocol_tokens.proofs.Lengths.{trimmed_length, rest_length}
use Rattle.cecp_lines.specs.Messages.{IfaceMsg}
use Rattle.cecp_lines.specs.Messages as says
use Rattle.cecp_lines.specs.declared.iface.IfaceFault.{IfaceFault}
use Rattle.cecp_lines.specs.Reading.{SpellsIfaceMsg, message_or_fault, name_at, value_at, is_equals}
use Rattle.cecp_lines.proofs.Spellings.{reading_spells}
use Rattle.uci_lines.specs.Orders.{Order, uci_order_text}
use Rattle.option_map.specs.declared.declared_options.fault.OptionFault.{OptionFault}
use Rattle.option_map.specs.DeclaredOptions.Settings.{OptionSetting, SettingKind, Check, Spin, Combo, Button, Text, option_by_name}
use Rattle.option_map.specs.WaitingOrders.Asked.{asked, asked_text, message_length, AskedOrdersAreShort, IsRange, HasRange}
use Rattle.option_map.specs.DeclaredOptions.Spelled.{AreDeclared, OrderIsSpelled}
use Rattle.option_map.proofs.DeclaredOptions.Short.{orders_short}
use Rattle.option_map.proofs.DeclaredOptions.HeardOptions.{IsCount}
use Rattle.option_map.proofs.DeclaredOptions.Usable.{IsSound, IsUsable, found_usable}
use Rattle.option_map.proofs.WaitingOrders.Asking.{asked_spelled}
use Rattle.desk_rules.specs.Lines.{order_asked_by, answered_by, early_answer}
use Rattle.desk_rules.specs.Orders.{early_order, early_orders}

-- HOW LONG AN ORDER IS

count_fits : (z : ℤ) → IsCount z → FitsSigned w64 z
count_fits (pos n) h = record { sfits = omega arith }
count_fits (negsuc n) h = record { sfits = omega arith }

kind_range : (k : SettingKind) → IsSound k → IsRange k
kind_range (Spin default min max) s = (count_fits min s.0, count_fits max s.1)
kind_range (Check on) s = tt
kind_range (Combo choices) s = tt
kind_range Button s = tt
kind_range (Text default) s = tt

found_range : (o : Option OptionSetting) → IfSome o IsUsable → HasRange o
found_range None u = tt
found_range (Some o) u = kind_range o.kind u.kind

declared_short : (os : List OptionSetting) → AreDeclared os → AskedOrdersAreShort os
declared_short os d =
    orders_short os (found_range (option_by_name (codes "Hash") os) (found_usable (codes "Hash") os d))
    (found_range (option_by_name (codes "Threads") os) (found_usable (codes "Threads") os d))

abbrev value_length : Option (List ℕ) → ℕ
value_length None = 0
value_length (Some value) = length value

split_short : (at : Option ℕ) (text : List ℕ) → length (name_at at text) + value_length (value_at at text) ≤ length text
split_short None text = omega arith
split_short (Some at) text =
    omega (arith, trimmed_length (take at text), ap length (take-append-drop at text), length-append (take at text) (drop at text), length-drop at text, length-drop (at + 1) text)

-- what an order repeats of a message is in the line
repeated_short : (line : List ℕ) (m : IfaceMsg) → SpellsIfaceMsg line m → message_length m ≤ length line
repeated_short line (says.SetOption name None) s =
    omega (arith, ap length s.1.1, ap value_length s.1.2, split_short (position is_equals (rest_after_token line)) (rest_after_token line), rest_length line)
repeated_short line (says.SetOption name (Some value)) s =
    omega (arith, ap length s.1.1, ap value_length s.1.2, split_short (position is_equals (rest_after_token line)) (rest_after_token line), rest_length line)
repeated_short line (says.EgtPath kind path) s = omega (arith, ap length s.2, rest_length (rest_after_token line), rest_length line)
repeated_short line m s = omega arith

-- an order that is at most 64 bytes longer than the line
abbrev pub IsShortFor : List ℕ → Order → Type 0
IsShortFor line order = length (uci_order_text order) ≤ 64 + length line

short_answer : (line : List ℕ) (m : IfaceMsg) (a : Result (Option Order) OptionFault) → length (asked_text a) ≤ 64 + message_length m → message_length m ≤ length line → IfSome (order_asked_by a) (IsShortFor line)
short_answer line m (Ok None) s r = tt
short_answer line m (Ok (Some order)) s r = omega (arith, s, r)
short_answer line m (Err fault) s r = tt

short_reading : (os : List OptionSetting) (line : List ℕ) (r : Result IfaceMsg IfaceFault) → AreDeclared os → message_or_fault line ≡ r → IfSome (order_asked_by (answered_by os r)) (IsShortFor line)
short_reading os line (Ok m) d e = short_answer line m (asked os m) (declared_short os d m) (repeated_short line m (reading_spells line m e))
short_reading os line (Err fault) d e = tt

pub early_short : (os : List OptionSetting) (line : List ℕ) → AreDeclared os → IfSome (order_asked_by (early_answer os line)) (IsShortFor line)
early_short os line d = short_reading os line (message_or_fault line) d refl

-- THE ORDERS

spelled_answer : (a b : Result (Option Order) OptionFault) → a ≡ b → ((order : Order) → a ≡ Ok (Some order) → OrderIsSpelled 65700 order) → IfSome (order_asked_by b) (OrderIsSpelled 65700)
spelled_answer a (Ok None) e f = tt
spelled_answer a (Ok (Some order)) e f = f order e
spelled_answer a (Err fault) e f = tt

spelled_reading : (os : List OptionSetting) (line : List ℕ) (r : Result IfaceMsg IfaceFault) → AreDeclared os → is_line line ≡ true → message_or_fault line ≡ r → IfSome (order_asked_by (answered_by os r)) (OrderIsSpelled 65700)
spelled_reading os line (Ok m) d l e = spelled_answer (asked os m) (asked os m) refl (λ order x. asked_spelled os line m order d l e x)
spelled_reading os line (Err fault) d l e = tt

list_of : (P : Order → Type 0) (o : Option Order) (later : List Order) → IfSome o P → AllByRecursion P later → AllByRecursion P (option_to_list o ++ later)
list_of P None later h k = k
list_of P (Some order) later h k = (h, k)

-- each order that early lines ask for is of the kind that each line asks for
pub early_all : (P : Order → Type 0) (os : List OptionSetting) (lines : List (List ℕ)) → AllByRecursion (λ line. IfSome (order_asked_by (early_answer os line)) P) lines → AllByRecursion P (early_orders os lines)
early_all P os [] h = tt
early_all P os (line ∷ lines) h = list_of P (order_asked_by (early_answer os line)) (early_orders os lines) h.0 (early_all P os lines h.1)

pub early_spelled : (os : List OptionSetting) (lines : List (List ℕ)) → AreDeclared os → AllByRecursion (λ line. is_line line ≡ true) lines → AllByRecursion (OrderIsSpelled 65700) (early_orders os lines)
early_spelled os lines d l = early_all (OrderIsSpelled 65700) os lines (each lines l) where
  each : (lines : List (List ℕ)) → AllByRecursion (λ line. is_line line ≡ true) lines → AllByRecursion (λ line. IfSome (order_asked_by (early_answer os line)) (OrderIsSpelled 65700)) lines
  each [] l = tt
  each (line ∷ lines) l = (spelled_reading os line (message_or_fault line) d l.0 refl, each lines l.1)
