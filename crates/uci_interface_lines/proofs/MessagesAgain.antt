-- The text written of a message that some line spells, spells it.
use Rattle.std.proofs.Common.{◌≡◌, List, ℕ, refl}
use Rattle.uci_lines.specs.Engine.{engine_message}
use Rattle.uci_lines.specs.Messages.{EngineMsg, Name, UciOk, ReadyOk, Best, OptionLine, Info, Nothing}
use Rattle.uci_lines.specs.Spells.{SpellsMessage}
use Rattle.uci_interface_lines.specs.Said.{said_text}
use Rattle.uci_interface_lines.specs.Again.{EngineMessagesReadBack}
use Rattle.uci_lines.proofs.Rows.{read_spells}
use Rattle.uci_interface_lines.proofs.Again.{name_again, uci_ok_again, ready_ok_again, best_again}
use Rattle.uci_interface_lines.proofs.OptionsAgain.{option_again}
use Rattle.uci_interface_lines.proofs.InfosAgain.{info_again}

empty : engine_message (said_text Nothing) ≡ Nothing
unfolding said_text engine_message
empty = refl

nothing_again : SpellsMessage (said_text Nothing) Nothing
nothing_again = read_spells (said_text Nothing) Nothing empty

message_again : (line : List ℕ) (m : EngineMsg) → SpellsMessage line m → SpellsMessage (said_text m) m
message_again line Nothing h = nothing_again
message_again line (Name name) h = name_again line name h
message_again line UciOk h = uci_ok_again
message_again line ReadyOk h = ready_ok_again
message_again line (Best best hint) h = best_again line best hint h
message_again line (OptionLine name shape) h = option_again line name shape h
message_again line (Info facts) h = info_again line facts h

pub read_back : EngineMessagesReadBack
read_back m h = message_again h.0 m h.1
