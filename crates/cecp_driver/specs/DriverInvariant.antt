-- The invariant of a driver between calls.
use Rattle.std.specs.Prelude.{ℕ, ◌≡◌, ◌≤◌, length, true, Option, Some, None}
use Rattle.chess_board.specs.declared.board.Move.{Move}
use Rattle.chess_board.specs.Laws.{IsLegal}
use Rattle.chess_board.specs.Place.{legal}
use Rattle.game_record.specs.Game.{Game, current_position}
use Rattle.driver_state_machine.specs.declared.words.OpenSearch.{OpenSearch}
use Rattle.driver_state_machine.specs.declared.words.Phase.{Phase}
use Rattle.driver_state_machine.specs.declared.words.Phase.TheVariants.{Thinks, Analyses, Rests, Leaves}
use Rattle.cecp_driver.specs.declared.driver.DriverParts.{DriverParts}
use Rattle.cecp_driver.specs.declared.driver.TheConstants.{LINE_LIMIT, UP_ROOM, DOWN_ROOM}
use Rattle.cecp_driver.specs.declared.sent_game.TheConstants.{MOST_PLIES}
use Rattle.cecp_driver.specs.SetUp.{SentGame}

-- the engine's game is known, and it is this
abbrev pub IsSentGame : Game → SentGame → Type 0
IsSentGame game sent_game = (sent_game.known ≡ true) × (sent_game.game ≡ game)

-- if the engine searches, it was given the ordered game
abbrev pub SearchesSentGame : Phase → Game → SentGame → Type 0
SearchesSentGame (Thinks at_once) game sent_game = IsSentGame game sent_game
SearchesSentGame Analyses game sent_game = IsSentGame game sent_game
SearchesSentGame (Leaves next) game sent_game = IsSentGame game sent_game
SearchesSentGame phase game sent_game = Unit {0}

-- the ordered position has no legal move
abbrev pub IsMoveless : Game → Type 0
IsMoveless game =
    (m : Move) → IsLegal (current_position game) m.from.index m.to.index m.promotion → ⊥

-- a search that keeps no move is an analysis of a position without one
abbrev pub RestsMoveless : Phase → Game → Type 0
RestsMoveless Rests game = IsMoveless game
RestsMoveless phase game = ⊥

-- the best move of a search is legal in the ordered position, whose game is not too long
abbrev pub ServesKept : Option Move → Phase → Game → SentGame → Type 0
ServesKept None phase game sent_game = RestsMoveless phase game
ServesKept (Some m) phase game sent_game =
    (legal (current_position game) m ≡ true) × (length game.moves ≤ MOST_PLIES) × SearchesSentGame phase game sent_game

abbrev pub OpenSearchIsServed : Option OpenSearch → Game → SentGame → Type 0
OpenSearchIsServed None game sent_game = Unit {0}
OpenSearchIsServed (Some s) game sent_game = ServesKept s.kept s.phase game sent_game

pub record DriverInvariant (v : DriverParts) : Type 0 where
  pub serves : OpenSearchIsServed v.talk.search v.game v.sent_game
  pub name_room : v.name.room ≡ LINE_LIMIT
  pub up_room : v.up.room ≡ UP_ROOM
  pub down_room : v.down.room ≡ DOWN_ROOM
