-- The orders that are asked for are spelled, if the options were declared by lines of an engine.
use Rattle.std.specs.Prelude.{◌≡◌, ℕ, ◌≤◌, List, length, true, false, Some, Ok}
use Rattle.std.specs.List.{AllByRecursion}
use Rattle.line_io.specs.Event.{is_line}
use Rattle.cecp_lines.specs.Messages.{IfaceMsg}
use Rattle.cecp_lines.specs.Reading.{message_or_fault}
use Rattle.uci_lines.specs.Messages.{OptionKind, OptionLine}
use Rattle.uci_lines.specs.Engine.{engine_message}
use Rattle.uci_lines.specs.Written.{is_trimmed_text}
use Rattle.uci_lines.specs.OrderReading.{is_writable_order}
use Rattle.uci_lines.specs.Orders.{Order, SetOption, uci_order_text}
use Rattle.option_map.specs.declared.declared_options.style.FeatureStyle.{FeatureStyle}
use Rattle.option_map.specs.DeclaredOptions.Settings.{OptionSetting, setting_from_option}
use Rattle.option_map.specs.DeclaredOptions.Settings.{is_unshowable, after_declared}
use Rattle.option_map.specs.DeclaredOptions.Shown.{check_named}
use Rattle.option_map.specs.WaitingOrders.Asked.{asked}
use Rattle.option_map.specs.WaitingOrders.Held.{HasNoLineFeed, with_orders}
use Rattle.option_map.specs.declared.waiting_orders.order.TheConstants.{ORDER_BYTES}

-- some line of an engine declares the option, and it can be shown
pub record IsDeclared (o : OptionSetting) : Type 0 where
  pub style : FeatureStyle
  pub line : List ℕ
  pub name : List ℕ
  pub shape : OptionKind
  pub is_line : is_line line ≡ true
  pub says : engine_message line ≡ OptionLine name shape
  pub showable : is_unshowable style name shape ≡ false
  pub kept_is : o ≡ setting_from_option style name shape

abbrev pub AreDeclared : List OptionSetting → Type 0
AreDeclared os = AllByRecursion IsDeclared os

-- Declaring keeps this.
abbrev pub StayDeclared : Type 0
StayDeclared =
    (style : FeatureStyle) (os : List OptionSetting) (line name : List ℕ) (shape : OptionKind)
    → AreDeclared os → is_line line ≡ true
    → engine_message line ≡ OptionLine name shape
    → AreDeclared (after_declared style os name shape)

-- The order may be written, its text is a line, and it has at most so many bytes.
pub record OrderIsSpelled (most : ℕ) (order : Order) : Type 0 where
  pub fits : is_writable_order order ≡ true
  pub is_line : HasNoLineFeed (uci_order_text order)
  pub short : length (uci_order_text order) ≤ most

-- So is each order that a line asks for.
abbrev pub AskedAreSpelled : Type 0
AskedAreSpelled =
    (os : List OptionSetting) (line : List ℕ) (m : IfaceMsg) (order : Order) → AreDeclared os
    → is_line line ≡ true → message_or_fault line ≡ Ok m
    → asked os m ≡ Ok (Some order) → OrderIsSpelled ORDER_BYTES order

-- So is the order that switches a declared check option.
abbrev pub SwitchesAreSpelled : Type 0
SwitchesAreSpelled =
    (os : List OptionSetting) (name spelled value : List ℕ) → AreDeclared os
    → check_named name os ≡ Some spelled → is_trimmed_text value ≡ true → HasNoLineFeed value
    → length value ≤ 5 → OrderIsSpelled 200 (SetOption spelled (Some value))

-- So is each order that is held once such orders were asked for in turn.
abbrev pub StaySpelled : Type 0
StaySpelled =
    (most : ℕ) (held asked : List Order) → AllByRecursion (OrderIsSpelled most) held
    → AllByRecursion (OrderIsSpelled most) asked
    → AllByRecursion (OrderIsSpelled most) (with_orders held asked)
