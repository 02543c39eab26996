use Rattle.std.proofs.Common.{◌≡◌, ap, refl, ◌∙◌, ℕ, List}
use Rattle.std.specs.Prelude.{Result}
use Rattle.protocol_tokens.specs.Tokens.{tokens}
use Rattle.chess_board.specs.declared.board.Variant.{Variant}
use Rattle.chess_board.specs.declared.board.Variant.TheVariants.{Normal, Fischer}
use Rattle.chess_board.specs.Position.{Position}
use Rattle.fen_text.specs.declared.fault.FenFault.{FenFault}
use Rattle.fen_text.specs.Fen.{position_by, position_of}
use Rattle.uci_interface_lines.specs.Lines.{if_right, position_in_fields}
use Rattle.uci_interface_lines.proofs.read.read_fields.Goals as goal

-- what a text spells is what its fields spell
fields_read : (v : Variant) (text : List ℕ) (r : Result Position FenFault) → r ≡ position_by v text → (v ≡ Normal → r ≡ position_of text) → r ≡ position_in_fields v (tokens text)
unfolding position_by position_of
fields_read Normal text r e n = n refl
fields_read Fischer text r e n = e

pub returns-in-Ok : goal.returns-in-Ok
returns-in-Ok c = ap if_right (fields_read c.args.variant c.args.text.now _ c.in-Ok.ensures.value c.in-Ok.ensures.normal)

pub returns-in-Err : goal.returns-in-Err
returns-in-Err c = ap if_right (fields_read c.args.variant c.args.text.now _ c.in-Err.ensures.value c.in-Err.ensures.normal)
