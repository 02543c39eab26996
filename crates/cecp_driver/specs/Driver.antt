-- The effect of an order or a line of the engine on a driver.
use Rattle.std.specs.Prelude.{ℕ, ℤ, ◌≡◌, ◌+◌, ◌≤◌, nat_le, Bool, true, false, ◌&&◌, if◌then◌else◌}
use Rattle.std.specs.Prelude.{List, [], ◌++◌, length, is_some, Option, Some, None, IfSome}
use Rattle.std.specs.Option.{unwrap_or}
use Rattle.line_io.specs.Out.{Text, empty, with}
use Rattle.protocol_tokens.specs.Tokens.{tokens, first_token}
use Rattle.chess_board.specs.declared.board.Move.{Move}
use Rattle.chess_board.specs.Play.{start_position}
use Rattle.game_record.specs.Game.{Game, game_from, current_position, ply_of}
use Rattle.uci_interface_lines.specs.Kinds.{kind_asked}
use Rattle.driver_state_machine.specs.declared.words.Thought.{Thought}
use Rattle.driver_state_machine.specs.declared.driver_state.DriverStage.{DriverStage}
use Rattle.driver_state_machine.specs.declared.driver_state.DriverStage.TheVariants as stages
use Rattle.driver_state_machine.specs.declared.driver_state.DriverState.{DriverState}
use Rattle.driver_state_machine.specs.declared.driver_state.DriverTurn.{DriverTurn}
use Rattle.driver_state_machine.specs.declared.driver_state.Reach.{Reach}
use Rattle.driver_state_machine.specs.declared.driver_state.Reach.TheVariants as reaches
use Rattle.driver_state_machine.specs.declared.driver_state.WantedSearch.{WantedSearch}
use Rattle.driver_state_machine.specs.declared.driver_state.DriverCall.{DriverCall}
use Rattle.driver_state_machine.specs.declared.driver_state.DriverCall.TheVariants as calls
use Rattle.driver_state_machine.specs.DriverState.{first_talk, driver_turn_of, is_free}
use Rattle.driver_state_machine.specs.declared.order_words.OrderWord.{OrderWord}
use Rattle.driver_state_machine.specs.declared.order_words.OrderWord.TheVariants as orders
use Rattle.driver_state_machine.specs.Words.{order_word_in as order_in}
use Rattle.driver_state_machine.specs.Clocks.{clocks_in}
use Rattle.driver_state_machine.specs.Says.{EngineMessageSeen, Move as SaysMove, Over, Pong, Report, Feature, says_in}
use Rattle.driver_state_machine.specs.Says as says
use Rattle.driver_state_machine.specs.Parts.{feature_parts}
use Rattle.driver_state_machine.specs.Moves.{IsFirstMove, EngineMoveIs, IsThought}
use Rattle.driver_state_machine.specs.Lines.{lines_text}
use Rattle.cecp_driver.specs.declared.features.HasFeatures.{HasFeatures}
use Rattle.cecp_driver.specs.declared.driver.DriverParts.{DriverParts}
use Rattle.cecp_driver.specs.declared.driver.TheConstants.{LINE_LIMIT, UP_ROOM, DOWN_ROOM}
use Rattle.cecp_driver.specs.declared.sent_game.TheConstants.{MOST_PLIES}
use Rattle.cecp_driver.specs.declared.actions.TheConstants.{STEP}
use Rattle.cecp_driver.specs.SetUp.{SentGame, no_game_sent}
use Rattle.cecp_driver.specs.Features.{has_all, name_all, feature_answers, greetings}
use Rattle.cecp_driver.specs.Ordered.{game_ordered_in}
use Rattle.cecp_driver.specs.Actions.{up_text, CanSay, down_lines, FitsDown}
use Rattle.cecp_driver.specs.Actions.{sent_after_line, sent_after_board, CanPush}

-- nothing was given yet
abbrev pub driver_without_lines : DriverParts → DriverParts
driver_without_lines v = record {
  talk = v.talk;
  has = v.has;
  name = v.name;
  is_ordered = v.is_ordered;
  game = v.game;
  sent_game = v.sent_game;
  up = empty v.up.room;
  down = empty v.down.room;
}

-- A turn: its lines are given, and what the engine was given is kept.
abbrev pub driver_after_turn : DriverParts → DriverTurn → DriverParts
driver_after_turn v r = record {
  talk = r.talk;
  has = v.has;
  name = v.name;
  is_ordered = v.is_ordered;
  game = v.game;
  sent_game = sent_after_board r.action.board (sent_after_line v.game r.action.down v.sent_game);
  up = with v.up (up_text r.action.up);
  down = with v.down (lines_text (down_lines v.sent_game v.game v.has.usermove r.action.down));
}

abbrev pub driver_after_call : DriverParts → DriverCall → DriverParts
driver_after_call v call = driver_after_turn v (driver_turn_of v.talk call)

-- the lines of a turn can be written
pub record TurnCanBeWritten (v : DriverParts) (r : DriverTurn) : Type 0 where
  pub say : CanSay r.action.up
  pub fits : FitsDown v.game r.action.down
  pub push : CanPush r.action.board (sent_after_line v.game r.action.down v.sent_game)
  pub up : length v.up.text + 160 ≤ v.up.room
  pub down : length v.down.text + STEP ≤ v.down.room

abbrev pub CanAct : DriverParts → DriverCall → Type 0
CanAct v call = TurnCanBeWritten v (driver_turn_of v.talk call)

-- ORDERS

-- A position is ordered, of a game that is not too long, and the engine has the features.
abbrev pub is_usable : DriverParts → Bool
is_usable v =
    (v.is_ordered && nat_le (length v.game.moves) MOST_PLIES) && (v.has.ping && v.has.setboard)

abbrev pub reach_of : DriverParts → Reach
reach_of v =
    if is_usable v then (if v.has.analyze then reaches.Analyse else reaches.Play)
    else reaches.Nothing

-- the search that a `go` asks for
pub record Wants (v : DriverParts) (line : List ℕ) (w : WantedSearch) : Type 0 where
  pub kind : w.kind ≡ kind_asked line
  pub clocks : w.clocks ≡ clocks_in line
  pub first : IsFirstMove (current_position v.game) w.first
  pub reach : w.reach ≡ reach_of v

-- a `position`, if no search is open
abbrev pub driver_after_position : DriverParts → List ℕ → DriverParts
driver_after_position v line =
    if is_free v.talk
    then record {
      talk = v.talk;
      has = v.has;
      name = v.name;
      is_ordered = is_some (game_ordered_in line);
      game = unwrap_or (game_ordered_in line) (game_from start_position);
      sent_game = v.sent_game;
      up = v.up;
      down = v.down;
    }
    else v

abbrev pub placed_if : OrderWord → DriverParts → List ℕ → DriverParts
placed_if orders.Position v line = driver_after_position v line
placed_if ordered v line = v

-- the request of an order, besides a position
abbrev pub GoIsAsked : DriverParts → List ℕ → OrderWord → DriverCall → Type 0
GoIsAsked v line orders.Quit call = call ≡ calls.Quit
GoIsAsked v line orders.Uci call = call ≡ calls.Uci
GoIsAsked v line orders.IsReady call = call ≡ calls.IsReady
GoIsAsked v line orders.Go call = (w : WantedSearch) × (Wants v line w × (call ≡ calls.Go w))
GoIsAsked v line orders.Stop call = call ≡ calls.Stop
GoIsAsked v line orders.PonderHit call = call ≡ calls.PonderHit
GoIsAsked v line orders.Position call = call ≡ calls.Other
GoIsAsked v line orders.Other call = call ≡ calls.Other

-- WHAT THE ENGINE SAYS

abbrev pub thought_call : ℕ → ℤ → ℕ → ℕ → Option Move → DriverCall
thought_call depth score time nodes None = calls.Other
thought_call depth score time nodes (Some best) =
    calls.Thought (record { depth = depth; score = score; time = time; nodes = nodes; best = best })

-- the meaning of the engine's lines, besides its features: its moves are those of the ordered position
abbrev pub EngineLineIsHeard : DriverParts → EngineMessageSeen → DriverCall → Type 0
EngineLineIsHeard v (SaysMove text) call =
    (shown : Option Move) × (EngineMoveIs (current_position v.game) text shown × (call ≡ calls.Moved shown))
EngineLineIsHeard v Over call = call ≡ calls.Resigned
EngineLineIsHeard v (Pong n) call = call ≡ calls.Pong n
EngineLineIsHeard v (Report depth score time nodes moves) call =
    (best : Option Move)
    × (IsThought (current_position v.game) moves best × (call ≡ thought_call depth score time nodes best))
EngineLineIsHeard v (Feature text) call = call ≡ calls.Other
EngineLineIsHeard v says.Other call = call ≡ calls.Other

abbrev pub features_at : DriverStage → DriverParts → List ℕ → DriverParts
features_at stages.Over v text = v
features_at stage v text = record {
  talk = v.talk;
  has = has_all v.has (feature_parts text);
  name = record { text = name_all v.name.text (feature_parts text); room = v.name.room };
  is_ordered = v.is_ordered;
  game = v.game;
  sent_game = v.sent_game;
  up = with v.up (greetings v.has v.name.text (feature_parts text));
  down = with v.down (lines_text (feature_answers (feature_parts text)));
}

-- the features of a line, before `quit`
abbrev pub driver_after_features : DriverParts → List ℕ → DriverParts
driver_after_features v text = features_at v.talk.stage v text

-- CALLS

abbrev pub no_features : HasFeatures
no_features = record {
  ping = false;
  setboard = false;
  usermove = false;
  analyze = false;
  done = false;
}

abbrev pub opening_driver : DriverParts
opening_driver = record {
  talk = first_talk;
  has = no_features;
  name = empty LINE_LIMIT;
  is_ordered = false;
  game = game_from start_position;
  sent_game = no_game_sent;
  up = empty UP_ROOM;
  down = empty DOWN_ROOM;
}

pub record OrdersBy (ordered : OrderWord) (line : List ℕ) (v v' : DriverParts) : Type 0 where
  pub call : DriverCall
  pub asked : GoIsAsked (placed_if ordered (driver_without_lines v) line) line ordered call
  pub after : v' ≡ driver_after_call (placed_if ordered (driver_without_lines v) line) call

-- the outcome of an order
abbrev pub Orders : List ℕ → DriverParts → DriverParts → Type 0
Orders line v v' = OrdersBy (order_in (first_token line)) line v v'

-- all but features
abbrev pub IsPlain : EngineMessageSeen → Type 0
IsPlain (Feature text) = ⊥
IsPlain said = Unit {0}

abbrev pub HeardBy : EngineMessageSeen → DriverParts → DriverParts → Type 0
HeardBy (Feature text) v v' = v' ≡ driver_after_features v text
HeardBy said v v' = (call : DriverCall) × (EngineLineIsHeard v said call × (v' ≡ driver_after_call v call))

-- the outcome of a line of the engine
abbrev pub DriverHears : List ℕ → DriverParts → DriverParts → Type 0
DriverHears line v v' = HeardBy (says_in line) (driver_without_lines v) v'

-- the outcome of the end of the engine
abbrev pub EngineEndGives : DriverParts → DriverParts → Type 0
EngineEndGives v v' = v' ≡ driver_after_call (driver_without_lines v) calls.Ended
