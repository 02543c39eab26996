-- The standard start is open.
use Rattle.std.proofs.Common.{◌≡◌, ◌≤◌, [], ◌∷◌, inl, inr, true, false, is_some, Option, Some, None, refl, arith}
use Rattle.std.proofs.lemmas.List.Sums.{count_by-le-length}
use Rattle.chess_board.specs.Attack.{is_checked, is_attacked, is_clear}
use Rattle.chess_board.specs.Board.{squares}
use Rattle.chess_board.specs.Play.{start_pieces, start_position, HasLegal, IsDead}
use Rattle.chess_board.specs.Rules.{is_legal, is_legal_of, pieces_after}
use Rattle.chess_board.proofs.Legal.{legal-law}
use Rattle.game_record.specs.declared.ending.GameEnd.{GameEnd}
use Rattle.game_record.specs.declared.ending.GameEnd.TheVariants.{Mate, Stale, Dead, Repetition, Fifty}
use Rattle.game_record.specs.Game.{game_from}
use Rattle.game_record.specs.Ending.{ended_of, repeats_of, is_same, GameEndsBy}
use Rattle.game_record.proofs.States.{ending-law}
use Rattle.desk_rules.specs.Desk.{has_ended}

-- the knight may go from g1 to f3
knight_goes : is_legal start_position 6 21 None ≡ true
unfolding is_legal is_legal_of pieces_after is_checked is_attacked is_clear squares
knight_goes = refl

start_legal : HasLegal start_position
start_legal = record {
  move = record { from = record { index = 6; on_board = omega arith }; to = record { index = 21; on_board = omega arith }; promotion = None };
  legal = (legal-law start_position 6 21 None).0 knight_goes;
}

not_dead : IsDead start_pieces → ⊥
not_dead (inl e) = let z : 32 ≡ 2 = e in absurd (omega (arith, z))
not_dead (inr e) = let z : 32 ≡ 3 = e.0 in absurd (omega (arith, z))

pub start_open : has_ended (game_from start_position) ≡ false
start_open = by (ended_of (game_from start_position)) (ending-law (game_from start_position)) where
  by : (end : Option GameEnd) → GameEndsBy (game_from start_position) end → is_some end ≡ false
  by None x = refl
  by (Some Mate) x = absurd (x.1 start_legal)
  by (Some Stale) x = absurd (x.1 start_legal)
  by (Some Dead) x = absurd (not_dead x.1)
  by (Some Repetition) x = let few : repeats_of (game_from start_position) ≤ 1 = count_by-le-length (is_same start_position) (start_position ∷ []) in absurd (omega (arith, few, x.1))
  by (Some Fifty) x = absurd (omega (arith, x.2))
