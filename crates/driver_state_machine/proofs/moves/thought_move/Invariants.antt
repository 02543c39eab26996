use Rattle.std.proofs.Common.{◌≡◌, length, Option}
use Rattle.protocol_tokens.specs.Tokens.{tokens}
use Rattle.chess_board.specs.declared.board.Move.{Move}
use Rattle.driver_state_machine.specs.Moves.{IsThought}
use Rattle.driver_state_machine.proofs.moves.thought_move.Given as goal

-- a move that is found in the rest is found in all
abbrev pub invariant-loop-token : goal.invariant-loop-token
invariant-loop-token l = (best : Option Move) → IsThought l.at (tokens l.others) best → IsThought l.at (tokens l.fn.text) best

abbrev pub decreases-loop-token : goal.decreases-loop-token
decreases-loop-token l = length l.others
