-- A hint that a thinking line names can be played.
use Rattle.std.proofs.Common.{Option, Some, None}
use Rattle.std.specs.Prelude.{IfSome}
use Rattle.chess_board.specs.declared.board.Move.{Move}
use Rattle.chess_board.proofs.LegalMoves.{legal_is}
use Rattle.protocol_tokens.specs.declared.kinds.GoKind.{GoKind}
use Rattle.protocol_tokens.specs.declared.kinds.GoKind.TheVariants as kinds
use Rattle.game_record.specs.Game.{Game, ply_of, current_position, IsPlayablePly}
use Rattle.think_text.specs.Line.{IsPlayableAsHint as CanBePlayed}
use Rattle.desk_rules.specs.Steps.{named_hint}

pub hint_played : (k : GoKind) (g : Game) (hint : Option Move) → IfSome hint (λ m. IsPlayablePly (current_position g) (ply_of m)) → CanBePlayed (named_hint k g hint)
hint_played kinds.Ponder g (Some m) h = legal_is (current_position g) m h
hint_played kinds.Ponder g None h = tt
hint_played k g hint h = tt
