-- The orders that lines of the interface ask for.
use Rattle.std.specs.Prelude.{ℕ, ℤ, pos, int_lt, ◌+◌, ◌≤◌, List, [], ◌∷◌, codes}
use Rattle.std.specs.Prelude.{◌≡◌, map, length, Bool, true, false, ◌||◌, if◌then◌else◌}
use Rattle.std.specs.Prelude.{Option, Some, None, Result as Answer, Ok, Err}
use Rattle.std.specs.Fmt.{signed_decimal}
use Rattle.std.specs.Int.{int_min, int_max}
use Rattle.std.specs.Int.RustNames.{FitsSigned}
use mir.Syntax.{w64}
use Rattle.std.specs.Option.{option_and_then}
use Rattle.std.specs.Str.{bytes_eq}
use Rattle.line_io.specs.Out.{Text as Buffer, with}
use Rattle.protocol_tokens.specs.Tokens.{trimmed}
use Rattle.protocol_tokens.specs.Numbers.{signed_number}
use Rattle.cecp_lines.specs.Messages.{IfaceMsg}
use Rattle.cecp_lines.specs.Messages as says
use Rattle.uci_lines.specs.Orders.{Order, uci_order_text}
use Rattle.uci_lines.specs.Orders as orders
use Rattle.option_map.specs.declared.declared_options.fault.OptionFault.{OptionFault}
use Rattle.option_map.specs.declared.declared_options.fault.OptionFault.TheVariants.{UnknownOption, BadValue}
use Rattle.option_map.specs.declared.declared_options.style.TextFeature.TheVariants.{AsString}
use Rattle.option_map.specs.DeclaredOptions.Names.{same_text}
use Rattle.option_map.specs.DeclaredOptions.Choices.{chosen}
use Rattle.option_map.specs.DeclaredOptions.Settings.{OptionSetting, SettingKind, Check, Spin}
use Rattle.option_map.specs.DeclaredOptions.Settings.{Combo, Button, Text, option_by_name}

-- `1` or `true`, and `0` or `false`
abbrev pub switch : List ℕ → Option (List ℕ)
switch value =
    if bytes_eq value (codes "1") || bytes_eq value (codes "true") then Some (codes "true")
    else (if bytes_eq value (codes "0") || bytes_eq value (codes "false") then Some (codes "false")
    else None)

abbrev pub number_within : ℤ → ℤ → ℤ → Option (List ℕ)
number_within min max n = if int_lt n min || int_lt max n then None else Some (signed_decimal n)

abbrev pub text_or_empty : List ℕ → List ℕ
text_or_empty [] = codes "<empty>"
text_or_empty (b ∷ bs) = b ∷ bs

-- the setting of an option by a value
abbrev pub value_by : SettingKind → List ℕ → Option (List ℕ)
value_by (Check on) value = switch value
value_by (Spin default min max) value =
    option_and_then (number_within min max) (signed_number value)
value_by (Combo choices) value = chosen value choices
value_by Button value = None
value_by (Text default) value = Some (text_or_empty (trimmed value))

abbrev pub is_button : SettingKind → Bool
is_button Button = true
is_button _ = false

-- the order by a value that may be bad
abbrev pub set_to : List ℕ → Option (List ℕ) → Answer (Option Order) OptionFault
set_to name None = Err BadValue
set_to name (Some value) = Ok (Some (orders.SetOption name (Some value)))

-- A button takes no value, and every other option needs one.
abbrev pub set_by : OptionSetting → Option (List ℕ) → Answer (Option Order) OptionFault
set_by o None = if is_button o.kind then Ok (Some (orders.SetOption o.name None)) else Err BadValue
set_by o (Some value) = set_to o.name (value_by o.kind value)

-- a hidden option is not set by its name
abbrev pub set_found : Option OptionSetting → Option (List ℕ) → Answer (Option Order) OptionFault
set_found None value = Err UnknownOption
set_found (Some o) value = if o.hidden then Err UnknownOption else set_by o value

abbrev pub clamped_by : List ℕ → SettingKind → ℕ → Option Order
clamped_by name (Spin default min max) n =
    Some (orders.SetOption name (Some (signed_decimal (int_max min (int_min (pos n) max)))))
clamped_by name _ n = None

-- a number, moved into the range of a spin
abbrev pub clamped : Option OptionSetting → ℕ → Option Order
clamped None n = None
clamped (Some o) n = clamped_by o.name o.kind n

abbrev pub path_by : List ℕ → SettingKind → List ℕ → Option Order
path_by name (Text default) path = Some (orders.SetOption name (Some path))
path_by name _ path = None

abbrev pub path_for : Option OptionSetting → List ℕ → Option Order
path_for None path = None
path_for (Some o) path = path_by o.name o.kind path

-- The order that a message asks for. Those that set no option ask for none.
abbrev pub asked : List OptionSetting → IfaceMsg → Answer (Option Order) OptionFault
asked os (says.SetOption name value) = set_found (option_by_name name os) value
asked os (says.Memory n) = Ok (clamped (option_by_name (codes "Hash") os) n)
asked os (says.Cores n) = Ok (clamped (option_by_name (codes "Threads") os) n)
asked os (says.EgtPath kind path) =
    Ok (if same_text (codes "nalimov") kind
    then path_for (option_by_name (codes "NalimovPath") os) path
    else None)
asked os _ = Ok None

-- an option that, if it is a string, is offered as no more than that
abbrev pub as_string : OptionSetting → OptionSetting
as_string o = record o { text_feature = AsString }

-- A path or a file is set as any string is.
abbrev pub PathsAreSetAsStrings : Type 0
PathsAreSetAsStrings =
    (os : List OptionSetting) (m : IfaceMsg) → asked (map as_string os) m ≡ asked os m

-- its text, if there is one
abbrev pub asked_text : Answer (Option Order) OptionFault → List ℕ
asked_text (Ok (Some order)) = uci_order_text order
asked_text (Ok None) = []
asked_text (Err fault) = []

-- true if an order is asked for
abbrev pub is_asked : Answer (Option Order) OptionFault → Answer Bool OptionFault
is_asked (Ok (Some order)) = Ok true
is_asked (Ok None) = Ok false
is_asked (Err fault) = Err fault

-- The text follows what was there, and if nothing is asked for nothing changes.
abbrev pub with_asked : Buffer → Answer (Option Order) OptionFault → Buffer
with_asked out (Ok (Some order)) = with out (uci_order_text order)
with_asked out (Ok None) = out
with_asked out (Err fault) = out

-- HOW LONG THE TEXTS ARE

-- how many bytes of an order are those of the message
abbrev pub message_length : IfaceMsg → ℕ
message_length (says.SetOption name None) = length name
message_length (says.SetOption name (Some value)) = length name + length value
message_length (says.EgtPath kind path) = length path
message_length _ = 0

-- The text of an order that a message asks for has at most 64 bytes beside those of the message.
abbrev pub AskedOrdersAreShort : List OptionSetting → Type 0
AskedOrdersAreShort os = (m : IfaceMsg) → length (asked_text (asked os m)) ≤ 64 + message_length m

-- the limits of a spin are 64-bit numbers
abbrev pub IsRange : SettingKind → Type 0
IsRange (Spin default min max) = FitsSigned w64 min × FitsSigned w64 max
IsRange _ = Unit {0}

abbrev pub HasRange : Option OptionSetting → Type 0
HasRange None = Unit {0}
HasRange (Some o) = IsRange o.kind
