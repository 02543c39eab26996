-- The games of a session.
use Rattle.std.specs.Prelude.{ℕ, List, [], ◌∷◌, ◌++◌, length, Bool, true, false}
use Rattle.std.specs.Prelude.{◌&&◌, not, nat_lt, if◌then◌else◌, Result, Ok}
use Rattle.line_io.specs.Event.{Event}
use Rattle.line_io.specs.Event as events
use Rattle.cecp_lines.specs.Messages.{IfaceMsg}
use Rattle.cecp_lines.specs.Messages as says
use Rattle.cecp_lines.specs.Reading.{message_or_fault}
use Rattle.cecp_lines.specs.declared.iface.IfaceFault.{IfaceFault}
use Rattle.game_record.specs.Game.{Game}
use Rattle.san_text.specs.GameText.{game_text}
use Rattle.policy_rules.specs.declared.setting_rules.settings.Settings.{Settings}
use Rattle.adapter_core.specs.Trace.{Step}
use Rattle.session_export.specs.Exporting.{game_of}

abbrev pub has_moves : Game → Bool
has_moves g = nat_lt 0 (length g.moves)

-- `new` and `setboard` begin a game
abbrev pub begins_game : Result IfaceMsg IfaceFault → Bool
begins_game (Ok says.New) = true
begins_game (Ok (says.SetBoard text)) = true
begins_game message = false

-- the interface says so
abbrev pub asks_anew : Event → Bool
asks_anew (events.Iface line) = begins_game (message_or_fault line)
asks_anew event = false

-- A game is over if a line that begins a game leaves one without moves in place of one with moves.
abbrev pub is_over : Game → Event → Game → Bool
is_over before event after = asks_anew event && (has_moves before && not (has_moves after))

-- it is the game before that step
abbrev pub over_by : Game → Event → Game → List Game
over_by before event after = if is_over before event after then before ∷ [] else []

-- the games that were over in these steps, of which the newest stands
-- first; the first game is first
abbrev pub games_over : Settings → List Step → List Game
games_over o [] = []
games_over o (step ∷ trace) =
    games_over o trace ++ over_by (game_of o trace) step.event (game_of o (step ∷ trace))

-- the running game, if it has moves
abbrev pub running_game : Game → List Game
running_game g = if has_moves g then g ∷ [] else []

-- At the end of the session the running game is over too.
abbrev pub games_of : Settings → List Step → List Game
games_of o trace = games_over o trace ++ running_game (game_of o trace)

-- their texts, one after the other
abbrev pub games_text : List Game → List ℕ
games_text [] = []
games_text (g ∷ games) = game_text g ++ games_text games
