use Rattle.fen_text.proofs.Field.{castling_field}
use Rattle.fen_text.proofs.rook_files.castling_fields_are_exact.Goals as goal

pub returns : goal.returns
returns c = castling_field
