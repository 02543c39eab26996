-- The desk: what the interface commanded and the engine answered, and what it calls for.
use Rattle.std.specs.Prelude.{ℕ, List, [], codes, length, Bool, true, false}
use Rattle.std.specs.Prelude.{if◌then◌else◌, ◌&&◌, ◌||◌, nat_le, Option, Some, None}
use Rattle.std.specs.Option.{is_some}
use Rattle.chess_board.specs.declared.board.Move.{Move}
use Rattle.chess_board.specs.declared.board.Side.{Side}
use Rattle.chess_board.specs.declared.board.Side.TheVariants.{White, Black}
use Rattle.chess_board.specs.Board.{same_side}
use Rattle.chess_board.specs.Play.{start_position}
use Rattle.protocol_tokens.specs.declared.kinds.GoKind.{GoKind}
use Rattle.game_record.specs.declared.game.TheConstants.{MOST_PLIES}
use Rattle.game_record.specs.declared.ending.GameEnd.{GameEnd}
use Rattle.game_record.specs.declared.ending.GameEnd.TheVariants as ends
use Rattle.game_record.specs.Game.{Game, ply_of, game_from, with_ply, current_position}
use Rattle.game_record.specs.Ending.{has_legal, ended_of}
use Rattle.clock_map.specs.Clocks.{first_clocks}
use Rattle.think_text.specs.Kept.{nothing_seen}
use Rattle.option_map.specs.DeclaredOptions.Settings.{OptionSetting}
use Rattle.option_map.specs.DeclaredOptions.Shown.{check_named}
use Rattle.option_map.specs.FeatureLists.Features.{shown_name}
use Rattle.policy_rules.specs.declared.setting_rules.settings.Settings.{Settings}
use Rattle.search_epochs.specs.declared.words.Call.{Call}
use Rattle.search_epochs.specs.declared.words.Call.TheVariants as calls
use Rattle.search_epochs.specs.declared.words.EngineState.{EngineState}
use Rattle.search_epochs.specs.declared.words.EngineState.TheVariants as states
use Rattle.search_epochs.specs.Tickets.{is_move}
use Rattle.desk_rules.specs.declared.mode.Mode.{Mode}
use Rattle.desk_rules.specs.declared.mode.Mode.TheVariants as modes
use Rattle.desk_rules.specs.declared.desk.Desk.{Desk}
use Rattle.desk_rules.specs.declared.effect.Context.{Context}

-- the standard start, the engine plays Black, no pondering, five minutes for the game
abbrev pub opening_desk : Desk
opening_desk = record {
  game = game_from start_position;
  mode = modes.Plays Black;
  post = false;
  pondering = false;
  clocks = first_clocks;
  hint = None;
  pings = [];
  options = [];
  booted = false;
  name = shown_name [];
  due = false;
  early = [];
  search_info = nothing_seen;
  last_thinking = None;
}

-- the options that count as declared: none before `uciok`
abbrev pub table : Desk → List OptionSetting
table d = if d.booted then d.options else []

abbrev pub analyses : Mode → Bool
analyses modes.Analyse = true
analyses m = false

abbrev pub plays : Mode → Bool
plays (modes.Plays s) = true
plays m = false

-- THE GAME

abbrev pub opponent_of : Side → Side
opponent_of White = Black
opponent_of Black = White

abbrev pub on_move : Game → Side
on_move g = (current_position g).side

abbrev pub plies : Game → ℕ
plies g = length g.moves

-- no further move can be kept
abbrev pub is_full : Game → Bool
is_full g = nat_le MOST_PLIES (plies g)

abbrev pub game_played : Game → Move → Game
game_played g m = with_ply g (ply_of m)

abbrev pub has_ended : Game → Bool
has_ended g = is_some (ended_of g)

-- it has ended since the side on move has no legal move
abbrev pub is_moveless : Option GameEnd → Bool
is_moveless (Some ends.Mate) = true
is_moveless (Some ends.Stale) = true
is_moveless end = false

-- CALL

abbrev pub ponder_name : List ℕ
ponder_name = codes "Ponder"

abbrev pub analyse_name : List ℕ
analyse_name = codes "UCI_AnalyseMode"

-- the hint is pondered on, if the game after it has not ended
abbrev pub call_for_hint : Game → Option Move → Call
call_for_hint g None = calls.Nothing
call_for_hint g (Some h) = if has_ended (game_played g h) then calls.Nothing else calls.Ponder h

abbrev pub call_while_waiting : Desk → Call
call_while_waiting d =
    if d.pondering && is_some (check_named ponder_name (table d)) then call_for_hint d.game d.hint
    else calls.Nothing

abbrev pub call_in : Desk → Mode → Call
call_in d modes.Analyse = if has_legal (current_position d.game) then calls.Analyse else calls.Nothing
call_in d (modes.Plays s) =
    if has_ended d.game then calls.Nothing
    else (if same_side s (on_move d.game) then calls.Move else call_while_waiting d)
call_in d m = calls.Nothing

-- what the desk calls for, by whether the session is closed and whether the engine is Gone
unfoldable pub call_of_desk : Bool → Bool → Desk → Call
call_of_desk closed gone d = if closed || gone || is_full d.game then calls.Nothing else call_in d d.mode

-- HERE

-- The situation when an event comes: the settings, the desk, the engine (a search is stale if its
-- ticket is not the epoch), whether the call is spent, and what the policy says of the scores.
pub record Situation : Type 0 where
  pub settings : Settings
  pub closed : Bool
  pub engine : EngineState
  pub spent : Bool
  pub desk : Desk
  -- whether the policy resigns once a move with the kept score is shown, and
  -- whether it accepts a draw
  pub resigns : Bool
  pub accepts : Bool

-- the same, of what is seen beside the desk
abbrev pub at : Context → Desk → Situation
at s d = record {
  settings = s.settings;
  closed = s.closed;
  engine = s.engine;
  spent = s.spent;
  desk = d;
  resigns = s.resigns;
  accepts = s.accepts;
}

abbrev pub is_gone : EngineState → Bool
is_gone states.Gone = true
is_gone e = false

abbrev pub is_boot : EngineState → Bool
is_boot states.Boot = true
is_boot e = false

abbrev pub is_getting : EngineState → Bool
is_getting states.Getting = true
is_getting e = false

-- the kind of the open search, if it is current
abbrev pub current : EngineState → Option GoKind
current (states.Search k false stopped) = Some k
current e = None

abbrev pub call_before : Situation → Call
call_before h = call_of_desk h.closed (is_gone h.engine) h.desk

abbrev pub owed_at : Bool → Call → Call
owed_at spent call = if spent then calls.Nothing else call

-- a Move is owed when the event comes
abbrev pub owes_move : Situation → Bool
owes_move h = is_move (owed_at h.spent (call_before h))
