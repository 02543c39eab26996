-- The orders that are asked for may be written.
use Rattle.std.proofs.Common.{◌≡◌, ℕ, suc, ◌+◌, ◌^◌, ◌<◌, ◌≤◌, List, [], ◌∷◌, Bool, true, false, not, ◌||◌, cond, length, position, codes, Option, Some, None, Result, Ok, Err, refl, sym, ap, subst, ◌∙◌, arith}
use Rattle.std.proofs.lemmas.Bool.Decides.{nat_tests}
use Rattle.std.proofs.lemmas.Fmt.{length_signed_le}
use Rattle.std.specs.Prelude.{ℤ, pos, negsuc, nat_abs, int_lt, IfSome}
use Rattle.std.specs.Fmt.{signed_decimal, decimal}
use Rattle.std.specs.Int.{int_min, int_max}
use Rattle.std.specs.Option.{option_and_then}
use Rattle.std.specs.List.{AllByRecursion, list_all}
use Rattle.std.specs.Char.{is_ascii_digit}
use Rattle.std.specs.Str.{bytes_eq}
use Rattle.std.proofs.lemmas.Bool.{and_parts, not-true}
use Rattle.line_io.specs.Lines.{is_feed}
use Rattle.protocol_tokens.specs.Tokens.{is_white, is_token, trim_left, trim_right, trimmed, rest_after_token}
use Rattle.protocol_tokens.specs.Numbers.{signed_number}
use Rattle.protocol_tokens.proofs.Runs.{all_of, black, black_kept}
use Rattle.protocol_tokens.proofs.Sizes.{digits_small}
use Rattle.protocol_tokens.proofs.Written.{decimal_digits, signed_token}
use Rattle.cecp_lines.specs.Messages.{IfaceMsg}
use Rattle.cecp_lines.specs.Messages as msg
use Rattle.cecp_lines.specs.Reading.{SpellsIfaceMsg, value_at, is_equals}
use Rattle.cecp_lines.proofs.Spellings.{reading_spells}
use Rattle.uci_lines.specs.Written.{is_trimmed_text}
use Rattle.uci_lines.specs.Orders.{Order, SetOption}
use Rattle.option_map.specs.declared.declared_options.fault.OptionFault.{OptionFault}
use Rattle.option_map.specs.declared.declared_options.fault.OptionFault.TheVariants.{UnknownOption, BadValue}
use Rattle.option_map.specs.DeclaredOptions.Names.{same_text}
use Rattle.option_map.specs.DeclaredOptions.Choices.{unstarred, chosen}
use Rattle.option_map.specs.DeclaredOptions.Settings.{OptionSetting, SettingKind, Check, Spin, Combo, Button, Text, option_by_name}
use Rattle.option_map.specs.DeclaredOptions.Shown.{check_spelling, check_of}
use Rattle.option_map.specs.WaitingOrders.Asked.{number_within, text_or_empty, value_by, is_button, set_to, set_by, set_found, clamped_by, clamped, path_by, path_for, asked}
use Rattle.option_map.specs.WaitingOrders.Held.{HasNoLineFeed}
use Rattle.option_map.specs.DeclaredOptions.Spelled.{OrderIsSpelled, AreDeclared, AskedAreSpelled, SwitchesAreSpelled}
use Rattle.option_map.proofs.DeclaredOptions.Values.{IsPart, IsPiece, IsValue, IsName, line_part, rest_part, rest_piece, drop_part, trimmed_piece, trimmed_text, piece_value, value_spelled, button_spelled}
use Rattle.option_map.proofs.DeclaredOptions.HeardOptions.{IsCount, if_some, signed_count}
use Rattle.option_map.proofs.DeclaredOptions.Usable.{IsSound, IsUsable, found_usable}

-- NUMBERS AS VALUES

left_black : (t : List ℕ) → list_all (λ b. not (is_white b)) t ≡ true → trim_left t ≡ t
left_black [] h = refl
left_black (b ∷ bs) h = rw (not-true (is_white b) (and_parts (not (is_white b)) (list_all (λ c. not (is_white c)) bs) h).0) refl

some_bytes : (t : List ℕ) → is_token t ≡ true → 0 < length t
some_bytes [] h = absurd (cc)
some_bytes (b ∷ bs) h = omega arith

token_text : (t : List ℕ) → is_token t ≡ true → is_trimmed_text t ≡ true
token_text t h = trimmed_text t (ap trim_right (left_black t (black t h)) ∙ black_kept t (black t h)) (some_bytes t h)

digit_fed : (c : ℕ) → is_ascii_digit c ≡ true → not (is_feed c) ≡ true
digit_fed c h = grind (arith, nat_tests)

signed_line : (z : ℤ) → nat_abs z < 10 ^ 18 → HasNoLineFeed (signed_decimal z)
signed_line (pos n) h = all_of is_ascii_digit (λ b. not (is_feed b)) digit_fed (decimal n) (decimal_digits n (omega arith))
signed_line (negsuc n) h = all_of is_ascii_digit (λ b. not (is_feed b)) digit_fed (decimal (suc n)) (decimal_digits (suc n) (omega arith))

signed_short : (z : ℤ) → nat_abs z < 10 ^ 18 → length (signed_decimal z) ≤ 20
signed_short (pos n) h = length_signed_le 19 (pos n) (omega arith) (omega arith)
signed_short (negsuc n) h = length_signed_le 19 (negsuc n) (omega arith) (omega arith)

number_value : (z : ℤ) → IsCount z → IsValue 65536 (signed_decimal z)
number_value z h = record {
  part = record { line = signed_line z h; short = omega (arith, signed_short z h) };
  text = token_text (signed_decimal z) (signed_token z (omega arith));
}

within_step : (w : Bool) (z : ℤ) → IsCount z → IfSome (cond w None (Some (signed_decimal z))) (IsValue 65536)
within_step true z h = tt
within_step false z h = number_value z h

within_value : (min max : ℤ) (o : Option ℤ) → IfSome o IsCount → IfSome (option_and_then (number_within min max) o) (IsValue 65536)
within_value min max None h = tt
within_value min max (Some z) h = within_step (int_lt z min || int_lt max z) z h

-- WHAT AN OPTION IS SET TO

empty_value : (t : List ℕ) → IsPiece 65536 t → IsValue 65536 (text_or_empty t)
empty_value [] p = record { part = record { line = refl; short = omega arith }; text = refl }
empty_value (b ∷ bs) p = piece_value (b ∷ bs) p (omega arith)

true_value : IsValue 65536 (codes "true")
true_value = record { part = record { line = refl; short = omega arith }; text = refl }

false_value : IsValue 65536 (codes "false")
false_value = record { part = record { line = refl; short = omega arith }; text = refl }

switch_value : (a b : Bool) → IfSome (cond a (Some (codes "true")) (cond b (Some (codes "false")) None)) (IsValue 65536)
switch_value true b = true_value
switch_value false true = false_value
switch_value false false = tt

chosen_value : (text : List ℕ) (cs : List (List ℕ)) → AllByRecursion (λ c. IsValue 65536 (unstarred c)) cs → IfSome (chosen text cs) (IsValue 65536)
chosen_value text [] h = tt
chosen_value text (c ∷ cs) h = if_some (IsValue 65536) (same_text text (unstarred c)) (Some (unstarred c)) (chosen text cs) h.0 (chosen_value text cs h.1)

value_by_kind : (k : SettingKind) (value : List ℕ) → IsSound k → IsPart 65536 value → IfSome (value_by k value) (IsValue 65536)
value_by_kind (Check on) value s p =
    switch_value (bytes_eq value (codes "1") || bytes_eq value (codes "true")) (bytes_eq value (codes "0") || bytes_eq value (codes "false"))
value_by_kind (Spin default min max) value s p = within_value min max (signed_number value) (signed_count value)
value_by_kind (Combo choices) value s p = chosen_value value choices s
value_by_kind Button value s p = tt
value_by_kind (Text default) value s p = empty_value (trimmed value) (trimmed_piece value p)

-- THE ORDERS

-- the order, if there is one
abbrev IsAskedSpelled : Result (Option Order) OptionFault → Type 0
IsAskedSpelled (Ok (Some order)) = OrderIsSpelled 65700 order
IsAskedSpelled _ = Unit {0}

either_asked : (w : Bool) (a b : Result (Option Order) OptionFault) → IsAskedSpelled a → IsAskedSpelled b → IsAskedSpelled (cond w a b)
either_asked true a b h k = h
either_asked false a b h k = k

to_spelled : (name : List ℕ) (value : Option (List ℕ)) → IsName name → IfSome value (IsValue 65536) → IsAskedSpelled (set_to name value)
to_spelled name None n v = tt
to_spelled name (Some value) n v = value_spelled 65700 name value n v (omega arith)

by_spelled : (o : OptionSetting) (value : Option (List ℕ)) → IsUsable o → IfSome value (IsPart 65536) → IsAskedSpelled (set_by o value)
by_spelled o None u p = either_asked (is_button o.kind) (Ok (Some (SetOption o.name None))) (Err BadValue) (button_spelled 65700 o.name u.name (omega arith)) tt
by_spelled o (Some value) u p = to_spelled o.name (value_by o.kind value) u.name (value_by_kind o.kind value u.kind p)

found_spelled : (o : Option OptionSetting) (value : Option (List ℕ)) → IfSome o IsUsable → IfSome value (IsPart 65536) → IsAskedSpelled (set_found o value)
found_spelled None value u p = tt
found_spelled (Some o) value u p = either_asked o.hidden (Err UnknownOption) (set_by o value) tt (by_spelled o value u p)

pick : (P : ℤ → Type 0) (w : Bool) (a b : ℤ) → P a → P b → P (cond w a b)
pick P true a b h k = h
pick P false a b h k = k

clamp_count : (min max : ℤ) (n : ℕ) → IsCount min → IsCount max → n < 10 ^ 9 → IsCount (int_max min (int_min (pos n) max))
clamp_count min max n h k l =
    let small : n < 10 ^ 18 = omega arith in
    pick IsCount (int_lt (int_min (pos n) max) min) min (int_min (pos n) max) h (pick IsCount (int_lt max (pos n)) max (pos n) k small)

clamp_kind : (name : List ℕ) (k : SettingKind) (n : ℕ) → IsName name → IsSound k → n < 10 ^ 9 → IsAskedSpelled (Ok (clamped_by name k n))
clamp_kind name (Check on) n i s l = tt
clamp_kind name (Spin default min max) n i s l = value_spelled 65700 name (signed_decimal (int_max min (int_min (pos n) max))) i (number_value _ (clamp_count min max n s.0 s.1 l)) (omega arith)
clamp_kind name (Combo choices) n i s l = tt
clamp_kind name Button n i s l = tt
clamp_kind name (Text default) n i s l = tt

clamp_spelled : (o : Option OptionSetting) (n : ℕ) → IfSome o IsUsable → n < 10 ^ 9 → IsAskedSpelled (Ok (clamped o n))
clamp_spelled None n u l = tt
clamp_spelled (Some o) n u l = clamp_kind o.name o.kind n u.name u.kind l

path_kind : (name : List ℕ) (k : SettingKind) (path : List ℕ) → IsName name → IsValue 65536 path → IsAskedSpelled (Ok (path_by name k path))
path_kind name (Check on) path i v = tt
path_kind name (Spin default min max) path i v = tt
path_kind name (Combo choices) path i v = tt
path_kind name Button path i v = tt
path_kind name (Text default) path i v = value_spelled 65700 name path i v (omega arith)

path_spelled : (o : Option OptionSetting) (path : List ℕ) → IfSome o IsUsable → IsValue 65536 path → IsAskedSpelled (Ok (path_for o path))
path_spelled None path u v = tt
path_spelled (Some o) path u v = path_kind o.name o.kind path u.name v

given_path : (w : Bool) (o : Option OptionSetting) (path : List ℕ) → IfSome o IsUsable → IsValue 65536 path → IsAskedSpelled (Ok (cond w (path_for o path) None))
given_path true o path u v = path_spelled o path u v
given_path false o path u v = tt

-- WHAT LINES OF THE INTERFACE ASK FOR

value_part : (at : Option ℕ) (text : List ℕ) → IsPart 65536 text → IfSome (value_at at text) (IsPart 65536)
value_part None text p = tt
value_part (Some at) text p = drop_part (at + 1) text p

line_spelled : (os : List OptionSetting) (line : List ℕ) (m : IfaceMsg) → AreDeclared os → IsPart 65536 line → SpellsIfaceMsg line m → IsAskedSpelled (asked os m)
line_spelled os line (msg.SetOption name value) d p s =
    let text = rest_after_token line in
    let given : IfSome value (IsPart 65536) = subst (λ (o : Option (List ℕ)). IfSome o (IsPart 65536)) (sym s.1.2) (value_part (position is_equals text) text (rest_part line p)) in
    found_spelled (option_by_name name os) value (found_usable name os d) given
line_spelled os line (msg.Memory n) d p s = clamp_spelled (option_by_name (codes "Hash") os) n (found_usable (codes "Hash") os d) (digits_small 9 s.0 n s.2)
line_spelled os line (msg.Cores n) d p s = clamp_spelled (option_by_name (codes "Threads") os) n (found_usable (codes "Threads") os d) (digits_small 9 s.0 n s.2)
line_spelled os line (msg.EgtPath kind path) d p s =
    let piece : IsPiece 65536 path = subst (λ (t : List ℕ). IsPiece 65536 t) (sym s.2) (rest_piece (rest_after_token line) (rest_part line p)) in
    given_path (same_text (codes "nalimov") kind) (option_by_name (codes "NalimovPath") os) path (found_usable (codes "NalimovPath") os d) (piece_value path piece s.3)
line_spelled os line m d p s = tt

pub asked_spelled : AskedAreSpelled
asked_spelled os line m order d l r e =
    subst (λ (a : Result (Option Order) OptionFault). IsAskedSpelled a) e (line_spelled os line m d (line_part line l) (reading_spells line m r))

-- SWITCHES

spelling_name : (name : List ℕ) (k : SettingKind) (spelled : List ℕ) → IsName name → check_spelling name k ≡ Some spelled → IsName spelled
spelling_name name (Check on) spelled n e = let same : name ≡ spelled = cc in subst (λ (t : List ℕ). IsName t) same n
spelling_name name (Spin default min max) spelled n e = absurd (cc)
spelling_name name (Combo choices) spelled n e = absurd (cc)
spelling_name name Button spelled n e = absurd (cc)
spelling_name name (Text default) spelled n e = absurd (cc)

check_name : (o : Option OptionSetting) (spelled : List ℕ) → IfSome o IsUsable → check_of o ≡ Some spelled → IsName spelled
check_name None spelled u e = absurd (cc)
check_name (Some o) spelled u e = spelling_name o.name o.kind spelled u.name e

pub switches_spelled : SwitchesAreSpelled
switches_spelled os name spelled value d e t l s =
    let is_name = check_name (option_by_name name os) spelled (found_usable name os d) e in
    value_spelled 200 spelled value is_name (record { part = record { line = l; short = s }; text = t }) (omega arith)
