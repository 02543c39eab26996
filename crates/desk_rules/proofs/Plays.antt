-- Moves that can be taken back.
use Rattle.std.proofs.Common.{◌≡◌, ℕ, ◌<◌, ◌≤◌, length, Result, Ok, Err, refl, arith}
use Rattle.std.specs.Prelude.{◌↔◌, OnOk, IsErr}
use Rattle.game_record.specs.declared.game.NoMove.{NoMove}
use Rattle.game_record.specs.Game.{Game, without_last}

pub undone : (r : Result (Unit {0}) NoMove) (old new : Game) (n : ℕ) → (IsErr r ↔ (length old.moves < n)) → OnOk r (new ≡ without_last old n) → n ≤ length old.moves → new ≡ without_last old n
undone (Ok u) old new n i ok l = ok
undone (Err f) old new n i ok l = let e = i.0 refl in absurd (omega (arith, l, e))
