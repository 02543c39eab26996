-- The view of a read `position` line in contracts.
use Rattle.protocol_tokens.specs.Tokens.{tokens}
use Rattle.uci_interface_lines.specs.declared.line.Spoken.{Spoken}
use Rattle.uci_interface_lines.specs.Lines.{Line}

abbrev pub spoken_line : Spoken → Line
spoken_line spoken = record { start = spoken.start; moves = tokens spoken.moves.now; end = spoken.end }
