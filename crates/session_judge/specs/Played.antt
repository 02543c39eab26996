-- Lines that go on where another one ends.
use Rattle.std.specs.Prelude.{◌≡◌, ◌≢◌, ℕ, List, [], ◌++◌, drop, true, Some}
use Rattle.protocol_tokens.specs.Tokens.{tokens}
use Rattle.chess_board.specs.Position.{Position}
use Rattle.uci_lines.specs.Spells.{begins_white}
use Rattle.uci_interface_lines.specs.Lines.{position_line_in, behind_moves}
use Rattle.session_judge.specs.DialogueEvents.{end_of}

-- A `position` line that has moves leads to this position.
pub record LeadsTo (line : List ℕ) (at : Position) : Type 0 where
  pub leads : end_of (position_line_in line) ≡ Some at
  pub has_moves : behind_moves (drop 1 (tokens line)) ≢ []

-- a line is a known one and more, which begins with white space if there is any
pub record LineExtends (known line more : List ℕ) : Type 0 where
  pub whole : line ≡ known ++ more
  pub apart : begins_white more ≡ true

-- a line is one that leads to this position, and more
pub record LineGoesOn (line : List ℕ) (at : Position) (more : List ℕ) : Type 0 where
  pub known : List ℕ
  pub leads : LeadsTo known at
  pub adds : LineExtends known line more
