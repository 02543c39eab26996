-- The change that one step makes to the game.
use Rattle.std.specs.Prelude.{◌≡◌, ℕ, List}
use Rattle.chess_board.specs.Position.{Position}
use Rattle.game_record.specs.Game.{Ply, Game, game_from, with_ply, without_last}
use Rattle.policy_rules.specs.declared.setting_rules.settings.Settings.{Settings}
use Rattle.adapter_core.specs.Trace.{Step, LawfulTrace}
use Rattle.adapter_core.specs.Parts.{CoreParts}
use Rattle.adapter_core.specs.Represents.{Represents}

-- it stays, another begins, a move is played, or moves are taken back
pub data GameFollows (g h : Game) : Type 0 where
  Stays : h ≡ g → GameFollows g h
  Begins : (p : Position) → h ≡ game_from p → GameFollows g h
  Plays : (m : Ply) → h ≡ with_ply g m → GameFollows g h
  TakesBack : (n : ℕ) → h ≡ without_last g n → GameFollows g h

-- the core stands for a lawful trace
pub record IsReached (core : CoreParts) : Type 0 where
  pub settings : Settings
  pub trace : List Step
  pub lawful : LawfulTrace settings trace
  pub stands : Represents settings core trace
