-- The messages of an engine, whatever memory their texts lie in.
use Rattle.std.specs.Prelude.{ℕ, ℤ, Bool, List, Option, Some, None}
use Rattle.chess_board.specs.declared.board.Move.{Move}
use Rattle.uci_lines.specs.declared.messages.OptionMsg.{OptionMsg}
use Rattle.uci_lines.specs.declared.messages.OptionKind.{OptionKind as CodeOptionKind}
use Rattle.uci_lines.specs.declared.messages.OptionKind.TheVariants as kinds
use Rattle.uci_lines.specs.declared.messages.EngineMsg.{EngineMsg as CodeEngineMsg}
use Rattle.uci_lines.specs.declared.messages.EngineMsg.TheVariants as messages
use Rattle.uci_lines.specs.Choices.{values}
use Rattle.uci_lines.specs.Info.{Info as AnyInfo, info_of}

-- the kind of an option, with the list of a combo's values
pub data OptionKind : Type 0 where
  Check : (on : Bool) → OptionKind
  Spin : (default min max : ℤ) → OptionKind
  Combo : (default : List ℕ) (values : List (List ℕ)) → OptionKind
  Button : OptionKind
  Text : (default : List ℕ) → OptionKind

pub data EngineMsg : Type 0 where
  Name : (text : List ℕ) → EngineMsg
  UciOk : EngineMsg
  ReadyOk : EngineMsg
  Best : (best hint : Option Move) → EngineMsg
  OptionLine : (name : List ℕ) (shape : OptionKind) → EngineMsg
  Info : (info : AnyInfo) → EngineMsg
  Nothing : EngineMsg

abbrev pub option_kind_of : CodeOptionKind → OptionKind
option_kind_of (kinds.Check on) = Check on
option_kind_of (kinds.Spin default min max) = Spin default min max
option_kind_of (kinds.Combo default texts) = Combo default.now (values texts.now)
option_kind_of kinds.Button = Button
option_kind_of (kinds.Text default) = Text default.now

-- an option that was declared, or none
abbrev pub declared_by : Option OptionMsg → EngineMsg
declared_by None = Nothing
declared_by (Some option) = OptionLine option.name.now (option_kind_of option.kind)

abbrev pub uci_message_of : CodeEngineMsg → EngineMsg
uci_message_of (messages.Name text) = Name text.now
uci_message_of messages.UciOk = UciOk
uci_message_of messages.ReadyOk = ReadyOk
uci_message_of (messages.Best best hint) = Best best hint
uci_message_of (messages.OptionLine option) =
    OptionLine option.name.now (option_kind_of option.kind)
uci_message_of (messages.Info info) = Info (info_of info)
uci_message_of messages.Nothing = Nothing
