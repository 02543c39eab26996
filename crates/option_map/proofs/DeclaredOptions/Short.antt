-- The greatest lengths of the orders and of the feature lines.
use Rattle.std.proofs.Common.{◌≡◌, ◌||◌, ℕ, zero, suc, ◌+◌, ◌^◌, ◌<◌, ◌≤◌, List, [], ◌∷◌, ◌++◌, Bool, true, false, cond, ltb, length, drop, Option, Some, None, refl, sym, ap, subst, arith, lit<, length-append, if◌then◌else◌}
use Rattle.std.proofs.lemmas.List.{length-map}
use Rattle.std.proofs.lemmas.List.Sums.{sum_by-cons}
use Rattle.std.proofs.lemmas.Slice.Eq.{bytes_eq-Decides}
use Rattle.std.proofs.lemmas.Bool.Decides.{nat_tests}
use lib.Signed.{mag}
use Rattle.std.proofs.lemmas.Fmt.{length-decimal-le, length_signed_le}
use Rattle.std.specs.Prelude.{ℤ, pos, negsuc, int_lt, codes, decimal, IfSome, Ok, Err}
use Rattle.std.specs.Char.{to_ascii_lowercase}
use Rattle.std.specs.Fmt.{signed_decimal}
use Rattle.std.specs.Int.{int_min, int_max}
use Rattle.std.specs.Option.{option_map, option_and_then}
use Rattle.std.specs.Str.Parse.{starts_with_minus}
use Rattle.protocol_tokens.specs.Tokens.{trimmed}
use Rattle.protocol_tokens.specs.Numbers.{signed_number, count, positive, negative}
use Rattle.protocol_tokens.proofs.Sizes.{digits_small}
use Rattle.cecp_lines.specs.Messages.{IfaceMsg}
use Rattle.cecp_lines.specs.Messages as says
use Rattle.uci_lines.specs.Orders.{uci_order_text}
use Rattle.uci_lines.specs.Orders as orders
use Rattle.protocol_tokens.proofs.Lengths.{trimmed_length}
use Rattle.option_map.specs.declared.declared_options.fault.OptionFault.TheVariants.{UnknownOption, BadValue}
use Rattle.option_map.specs.declared.declared_options.setting.OptionSetting.{OptionSetting as Seen}
use Rattle.option_map.specs.DeclaredOptions.Stored.{setting_seen, kind_seen}
use Rattle.option_map.specs.DeclaredOptions.Names.{folded, same_text}
use Rattle.option_map.specs.DeclaredOptions.Choices.{chosen, unstarred}
use Rattle.option_map.specs.DeclaredOptions.Settings.{OptionSetting, SettingKind, Check, Spin, Combo, Button, Text, option_by_name, features, feature_text, feature_line, shown_length, text_size}
use Rattle.option_map.specs.WaitingOrders.Asked.{switch, number_within, text_or_empty, value_by, is_button, set_to, set_by, set_found, clamped, clamped_by, path_by, path_for, asked, asked_text, message_length, AskedOrdersAreShort, IsRange, HasRange}

-- FEATURE LINES

feature_length : (w : Bool) (line : List ℕ) → length (if w then [] else line ++ 10 ∷ []) ≤ (if w then 0 else length line) + 1
feature_length true line = omega arith
feature_length false line = omega (arith, length-append line (10 ∷ []))

-- Each line has its line feed.
pub features_length : (os : List OptionSetting) → length (features os) ≤ text_size os + length os
features_length [] = omega arith
features_length (o ∷ os) =
    omega (arith, length-append (feature_text o) (features os), feature_length o.hidden (feature_line o), features_length os, sum_by-cons shown_length o os)

-- NAMES

-- A text that equals another, case ignored, is as long.
same_length : (a b : List ℕ) → same_text a b ≡ true → length a ≡ length b
same_length a b e =
    let same : folded a ≡ folded b = (bytes_eq-Decides (folded a) (folded b)).0 e in
    omega (arith, ap length same, length-map a to_ascii_lowercase, length-map b to_ascii_lowercase)

-- the name of an option, where there is one, is so long
abbrev HasLength : ℕ → Option OptionSetting → Type 0
HasLength n None = Unit {0}
HasLength n (Some o) = length o.name ≡ n

found_step : (w : Bool) (name : List ℕ) (o : OptionSetting) (rest : Option OptionSetting) → same_text name o.name ≡ w → HasLength (length name) rest → HasLength (length name) (cond w (Some o) rest)
found_step true name o rest e h = sym (same_length name o.name e)
found_step false name o rest e h = h

found_length : (name : List ℕ) (os : List OptionSetting) → HasLength (length name) (option_by_name name os)
found_length name [] = tt
found_length name (o ∷ os) = found_step (same_text name o.name) name o (option_by_name name os) refl (found_length name os)

-- VALUES

-- a text, where there is one, has at most so many bytes
abbrev IsUpTo : ℕ → Option (List ℕ) → Type 0
IsUpTo n None = Unit {0}
IsUpTo n (Some text) = length text ≤ n

switch_step : (a b : Bool) → IsUpTo 5 (if a then Some (codes "true") else (if b then Some (codes "false") else None))
switch_step true b = omega arith
switch_step false true = omega arith
switch_step false false = tt

digits_short : (n : ℕ) → n < 10 ^ 18 → length (decimal n) ≤ 18
digits_short n h = length-decimal-le 18 n (lit< tt) h (omega arith)

positive_short : (d : Option ℕ) → ((n : ℕ) → d ≡ Some n → n < 10 ^ 18) → IsUpTo 19 (option_map signed_decimal (positive d))
positive_short None f = tt
positive_short (Some n) f = omega (arith, digits_short n (f n refl))

negative_short : (d : Option ℕ) → ((n : ℕ) → d ≡ Some n → n < 10 ^ 18) → IsUpTo 19 (option_map signed_decimal (negative d))
negative_short None f = tt
negative_short (Some zero) f = omega (arith, digits_short zero (f zero refl))
negative_short (Some (suc n)) f = omega (arith, digits_short (suc n) (f (suc n) refl))

signed_step : (w : Bool) (a b : Option ℤ) → IsUpTo 19 (option_map signed_decimal a) → IsUpTo 19 (option_map signed_decimal b) → IsUpTo 19 (option_map signed_decimal (cond w a b))
signed_step true a b h k = h
signed_step false a b h k = k

signed_short : (text : List ℕ) → IsUpTo 19 (option_map signed_decimal (signed_number text))
signed_short text =
    signed_step (starts_with_minus text) (negative (count (drop 1 text))) (positive (count text))
    (negative_short (count (drop 1 text)) (digits_small 18 (drop 1 text))) (positive_short (count text) (digits_small 18 text))

within_step : (w : Bool) (text : List ℕ) → length text ≤ 19 → IsUpTo 19 (if w then None else Some text)
within_step true text h = tt
within_step false text h = h

within_short : (min max : ℤ) (n : Option ℤ) → IsUpTo 19 (option_map signed_decimal n) → IsUpTo 19 (option_and_then (number_within min max) n)
within_short min max None h = tt
within_short min max (Some n) h = within_step (int_lt n min || int_lt max n) (signed_decimal n) h

chosen_step : (w : Bool) (text c : List ℕ) (rest : Option (List ℕ)) → same_text text c ≡ w → IsUpTo (length text) rest → IsUpTo (length text) (cond w (Some c) rest)
chosen_step true text c rest e h = omega (arith, same_length text c e)
chosen_step false text c rest e h = h

chosen_short : (text : List ℕ) (cs : List (List ℕ)) → IsUpTo (length text) (chosen text cs)
chosen_short text [] = tt
chosen_short text (c ∷ cs) = chosen_step (same_text text (unstarred c)) text (unstarred c) (chosen text cs) refl (chosen_short text cs)

empty_short : (text : List ℕ) → length (text_or_empty text) ≤ 7 + length text
empty_short [] = omega arith
empty_short (b ∷ bs) = omega arith

up_to : (n m : ℕ) (text : Option (List ℕ)) → n ≤ m → IsUpTo n text → IsUpTo m text
up_to n m None l h = tt
up_to n m (Some text) l h = omega (arith, l, h)

value_short : (k : SettingKind) (value : List ℕ) → IsUpTo (19 + length value) (value_by k value)
value_short (Check on) value = up_to 5 (19 + length value) (switch value) (omega arith) (switch_step _ _)
value_short (Spin default min max) value = up_to 19 (19 + length value) _ (omega arith) (within_short min max (signed_number value) (signed_short value))
value_short (Combo choices) value = up_to (length value) (19 + length value) (chosen value choices) (omega arith) (chosen_short value choices)
value_short Button value = tt
value_short (Text default) value = omega (arith, empty_short (trimmed value), trimmed_length value)

-- ORDERS

pub order_length : (name value : List ℕ) → length (uci_order_text (orders.SetOption name (Some value))) ≡ 22 + length name + length value
unfolding uci_order_text
order_length name value =
    omega (arith, length-append (codes "setoption name ") (name ++ codes " value " ++ value), length-append name (codes " value " ++ value), length-append (codes " value ") value)

pub button_length : (name : List ℕ) → length (uci_order_text (orders.SetOption name None)) ≡ 15 + length name
unfolding uci_order_text
button_length name = omega (arith, length-append (codes "setoption name ") (name ++ []), length-append name [])

abbrev value_length : Option (List ℕ) → ℕ
value_length None = 0
value_length (Some value) = length value

set_to_short : (n : ℕ) (name : List ℕ) (value : Option (List ℕ)) → IsUpTo n value → length (asked_text (set_to name value)) ≤ 22 + length name + n
set_to_short n name None h = omega arith
set_to_short n name (Some value) h = omega (arith, order_length name value, h)

button_step : (w : Bool) (name : List ℕ) → length (asked_text (if w then Ok (Some (orders.SetOption name None)) else Err BadValue)) ≤ 22 + length name + 19
button_step true name = omega (arith, button_length name)
button_step false name = omega arith

set_by_short : (o : OptionSetting) (value : Option (List ℕ)) → length (asked_text (set_by o value)) ≤ 22 + length o.name + (19 + value_length value)
set_by_short o None = button_step (is_button o.kind) o.name
set_by_short o (Some value) = set_to_short (19 + length value) o.name (value_by o.kind value) (value_short o.kind value)

set_found_step : (w : Bool) (o : OptionSetting) (value : Option (List ℕ)) → length (asked_text (if w then Err UnknownOption else set_by o value)) ≤ 22 + length o.name + (19 + value_length value)
set_found_step true o value = omega arith
set_found_step false o value = set_by_short o value

set_found_short : (n : ℕ) (o : Option OptionSetting) (value : Option (List ℕ)) → HasLength n o → length (asked_text (set_found o value)) ≤ 22 + n + (19 + value_length value)
set_found_short n None value h = omega arith
set_found_short n (Some o) value h = omega (arith, h, set_found_step o.hidden o value)

-- NUMBERS THAT ARE MOVED INTO A RANGE

either_fits : (w : Bool) (a b : ℤ) → mag a < 2 ^ 63 → mag b < 2 ^ 63 → mag (cond w a b) < 2 ^ 63
either_fits true a b h k = h
either_fits false a b h k = k

min_step : (w : Bool) (n k : ℕ) → ltb k n ≡ w → k < 2 ^ 63 → mag (cond w (pos k) (pos n)) < 2 ^ 63
min_step true n k e h = h
min_step false n k e h = let l : n ≤ k = grind (arith, nat_tests) in omega arith

min_fits : (n : ℕ) (max : ℤ) → mag max < 2 ^ 63 → mag (int_min (pos n) max) < 2 ^ 63
min_fits n (pos k) h = min_step (ltb k n) n k refl h
min_fits n (negsuc k) h = h

number_short : (z : ℤ) → mag z < 2 ^ 63 → length (signed_decimal z) ≤ 20
number_short z h = length_signed_le 19 z (omega arith) h

clamped_short : (n k : ℕ) (o : Option OptionSetting) → HasLength k o → HasRange o → length (asked_text (Ok (clamped o n))) ≤ 42 + k
clamped_short n k None h r = omega arith
clamped_short n k (Some o) h r = omega (arith, h, clamped_by_short n o.name o.kind r)
  where
    clamped_by_short : (n : ℕ) (name : List ℕ) (kind : SettingKind) → IsRange kind → length (asked_text (Ok (clamped_by name kind n))) ≤ 42 + length name
    clamped_by_short n name (Spin default min max) r =
        let value : ℤ = int_max min (int_min (pos n) max) in
        let fits : mag value < 2 ^ 63 = either_fits (int_lt (int_min (pos n) max) min) min (int_min (pos n) max) r.0.sfits (min_fits n max r.1.sfits) in
        omega (arith, order_length name (signed_decimal value), number_short value fits)
    clamped_by_short n name (Check on) r = omega arith
    clamped_by_short n name (Combo choices) r = omega arith
    clamped_by_short n name Button r = omega arith
    clamped_by_short n name (Text default) r = omega arith

path_by_short : (name path : List ℕ) (kind : SettingKind) → length (asked_text (Ok (path_by name kind path))) ≤ 22 + length name + length path
path_by_short name path (Text default) = omega (arith, order_length name path)
path_by_short name path (Check on) = omega arith
path_by_short name path (Spin default min max) = omega arith
path_by_short name path (Combo choices) = omega arith
path_by_short name path Button = omega arith

path_step : (w : Bool) (k : ℕ) (path : List ℕ) (o : Option OptionSetting) → HasLength k o → length (asked_text (Ok (if w then path_for o path else None))) ≤ 22 + k + length path
path_step true k path None h = omega arith
path_step true k path (Some o) h = omega (arith, h, path_by_short o.name path o.kind)
path_step false k path o h = omega arith

option_short : (os : List OptionSetting) (name : List ℕ) (value : Option (List ℕ)) → length (asked_text (asked os (says.SetOption name value))) ≤ 64 + message_length (says.SetOption name value)
option_short os name None = omega (arith, set_found_short (length name) (option_by_name name os) None (found_length name os))
option_short os name (Some value) = omega (arith, set_found_short (length name) (option_by_name name os) (Some value) (found_length name os))

-- Each order is short, where the limits of the two spins are 64-bit numbers.
pub orders_short : (os : List OptionSetting) → HasRange (option_by_name (codes "Hash") os) → HasRange (option_by_name (codes "Threads") os) → AskedOrdersAreShort os
orders_short os h t (says.SetOption name value) = option_short os name value
orders_short os h t (says.Memory n) = omega (arith, clamped_short n 4 (option_by_name (codes "Hash") os) (found_length (codes "Hash") os) h)
orders_short os h t (says.Cores n) = omega (arith, clamped_short n 7 (option_by_name (codes "Threads") os) (found_length (codes "Threads") os) t)
orders_short os h t (says.EgtPath kind path) =
    omega (arith, path_step (same_text (codes "nalimov") kind) 11 path (option_by_name (codes "NalimovPath") os) (found_length (codes "NalimovPath") os))
orders_short os h t msg = omega arith

-- the limits of an option that was looked up, as they are seen
pub range_seen : (o : Option Seen) (found : Option OptionSetting) → option_map setting_seen o ≡ found → IfSome o (λ s. IsRange (kind_seen s.kind)) → HasRange found
range_seen o found e h = subst (λ (f : Option OptionSetting). HasRange f) e (seen o h)
  where
    seen : (o : Option Seen) → IfSome o (λ s. IsRange (kind_seen s.kind)) → HasRange (option_map setting_seen o)
    seen None h = tt
    seen (Some s) h = h
