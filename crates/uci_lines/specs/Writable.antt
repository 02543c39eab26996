-- The messages whose moves have a text: no pawn becomes a king or a pawn.
use Rattle.std.specs.Prelude.{Option}
use Rattle.std.specs.Option.{IfSome}
use Rattle.chess_board.specs.declared.board.Move.{Move}
use Rattle.chess_board.specs.Text.{IsOfficer}
use Rattle.uci_lines.specs.Messages.{EngineMsg, Best, Info}

abbrev pub can_write : Option Move → Type 0
can_write m = IfSome m (λ k. IsOfficer k.promotion)

abbrev pub CanWriteEngineMsg : EngineMsg → Type 0
CanWriteEngineMsg (Best best hint) = can_write best × can_write hint
CanWriteEngineMsg (Info facts) = can_write facts.current
CanWriteEngineMsg _ = Unit {0}
