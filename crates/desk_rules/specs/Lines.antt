-- Interface lines: which are refused, what they change, what they ask of the
-- engine, which begin an epoch.
use Rattle.std.specs.Prelude.{ℕ, List, [], ◌∷◌, ◌++◌, codes, Bool, true, false}
use Rattle.std.specs.Prelude.{not, if◌then◌else◌, ◌&&◌, nat_le, nat_lt, length}
use Rattle.std.specs.Prelude.{Option, Some, None, Result as Answer, Ok, Err}
use Rattle.std.specs.Option.{is_some, option_map}
use Rattle.chess_board.specs.declared.board.Side.TheVariants.{Black}
use Rattle.chess_board.specs.Place.{legal}
use Rattle.chess_board.specs.Position.{Position}
use Rattle.chess_board.specs.Play.{start_position}
use Rattle.fen_text.specs.declared.fault.FenFault.{FenFault}
use Rattle.fen_text.specs.Fen.{position_of}
use Rattle.cecp_lines.specs.Messages.{IfaceMsg}
use Rattle.cecp_lines.specs.Messages as says
use Rattle.cecp_lines.specs.Reading.{message_or_fault}
use Rattle.cecp_lines.specs.declared.iface.IfaceFault.{IfaceFault}
use Rattle.cecp_lines.specs.declared.iface.IfaceFault.TheVariants as faults
use Rattle.cecp_lines.specs.declared.reply.Reason.{Reason}
use Rattle.cecp_lines.specs.declared.reply.Reason.TheVariants as reasons
use Rattle.uci_lines.specs.Orders.{Order}
use Rattle.uci_lines.specs.Orders as orders
use Rattle.game_record.specs.Game.{Game, game_from, current_position, without_last}
use Rattle.clock_map.specs.Clocks.{after_message, after_new}
use Rattle.option_map.specs.declared.declared_options.fault.OptionFault.{OptionFault}
use Rattle.option_map.specs.declared.declared_options.fault.OptionFault.TheVariants.{UnknownOption, BadValue}
use Rattle.option_map.specs.DeclaredOptions.Settings.{OptionSetting}
use Rattle.option_map.specs.DeclaredOptions.Shown.{check_named}
use Rattle.option_map.specs.WaitingOrders.Asked.{asked}
use Rattle.option_map.specs.WaitingOrders.Held.{held_order_can_join}
use Rattle.option_map.specs.WaitingOrders.Due.{due_after}
use Rattle.policy_rules.specs.declared.setting_rules.settings.Settings.{Settings}
use Rattle.desk_rules.specs.declared.mode.Mode.{Mode}
use Rattle.desk_rules.specs.declared.mode.Mode.TheVariants as modes
use Rattle.desk_rules.specs.declared.effect.Refusal.{Refusal}
use Rattle.desk_rules.specs.declared.effect.Refusal.TheVariants as refusals
use Rattle.desk_rules.specs.declared.desk.Desk.{Desk}
use Rattle.desk_rules.specs.Early.{is_setting, may_wait}
use Rattle.desk_rules.specs.Desk.{Situation, table, analyses, is_full, is_boot, is_gone, on_move}
use Rattle.desk_rules.specs.Desk.{opponent_of, game_played, plies, owes_move, ponder_name, analyse_name}
use Rattle.desk_rules.specs.declared.pings.TheConstants.{MOST_PINGS}

-- WHAT A LINE ASKS

abbrev pub switch_text : Bool → List ℕ
switch_text true = codes "true"
switch_text false = codes "false"

abbrev pub switches : Bool → List ℕ → Order
switches on name = orders.SetOption name (Some (switch_text on))

-- the order that sets a check option, if it is declared
abbrev pub check_order : List OptionSetting → List ℕ → Bool → Option Order
check_order os name on = option_map (switches on) (check_named name os)

-- a line by which the mode enters or leaves Analyse asks for UCI_AnalyseMode
abbrev pub asks_for_mode : List OptionSetting → Bool → Bool → Option Order
asks_for_mode os false true = check_order os analyse_name true
asks_for_mode os true false = check_order os analyse_name false
asks_for_mode os before after = None

abbrev pub order_asked_by : Answer (Option Order) OptionFault → Option Order
order_asked_by (Ok order) = order
order_asked_by (Err fault) = None

abbrev pub asks_of : Desk → IfaceMsg → Option Order
asks_of d says.New = Some orders.NewGame
asks_of d says.Force = asks_for_mode (table d) (analyses d.mode) false
asks_of d says.Go = asks_for_mode (table d) (analyses d.mode) false
asks_of d says.PlayOther = asks_for_mode (table d) (analyses d.mode) false
asks_of d says.Analyze = asks_for_mode (table d) (analyses d.mode) true
asks_of d says.Exit = asks_for_mode (table d) (analyses d.mode) false
asks_of d says.Result = asks_for_mode (table d) (analyses d.mode) false
asks_of d says.Hard = check_order (table d) ponder_name true
asks_of d says.Easy = check_order (table d) ponder_name false
asks_of d m = order_asked_by (asked (table d) m)

-- while the engine is Gone no line asks for anything
unfoldable pub asks : Bool → Desk → IfaceMsg → Option Order
asks gone d m = if gone then None else asks_of d m

-- REFUSALS

abbrev pub because : Reason → Option Refusal
because r = Some (refusals.Because r)

-- the first that is there
abbrev pub or_else : Option Refusal → Option Refusal → Option Refusal
or_else None b = b
or_else (Some r) b = Some r

abbrev pub reason_where : Bool → Reason → Option Refusal
reason_where b r = if b then because r else None

-- An engine that resigns when it is gone may still be told whom it plays.
abbrev pub needs_engine : Settings → IfaceMsg → Bool
needs_engine o says.Go = not o.resign_when_gone
needs_engine o says.PlayOther = not o.resign_when_gone
needs_engine o says.Analyze = true
needs_engine o m = false

abbrev pub needs_analysis : IfaceMsg → Bool
needs_analysis says.Exit = true
needs_analysis says.Dot = true
needs_analysis m = false

abbrev pub lacks_moves : Game → IfaceMsg → Bool
lacks_moves g says.Undo = nat_lt (plies g) 1
lacks_moves g says.Remove = nat_lt (plies g) 2
lacks_moves g m = false

abbrev pub illegal_move : Game → IfaceMsg → Option Refusal
illegal_move g (says.UserMove m) =
    if legal (current_position g) m then None else Some (refusals.IllegalMove m)
illegal_move g m = None

abbrev pub move_too_many : Game → IfaceMsg → Option Refusal
move_too_many g (says.UserMove m) = if is_full g then Some (refusals.GameTooLong m) else None
move_too_many g m = None

abbrev pub no_position : Answer Position FenFault → Option Refusal
no_position (Ok p) = None
no_position (Err fault) = Some refusals.IllegalPosition

abbrev pub illegal_position : IfaceMsg → Option Refusal
illegal_position (says.SetBoard text) = no_position (position_of text)
illegal_position m = None

abbrev pub refused_option : Answer (Option Order) OptionFault → Option Refusal
refused_option (Ok order) = None
refused_option (Err UnknownOption) = because reasons.UnknownOption
refused_option (Err BadValue) = because reasons.BadValue

-- beside the held orders
abbrev pub does_not_fit : List Order → Option Order → Bool
does_not_fit held None = false
does_not_fit held (Some order) = not (held_order_can_join held order)

abbrev pub pings_too_often : Situation → IfaceMsg → Bool
pings_too_often h (says.Ping n) = owes_move h && nat_le MOST_PINGS (length h.desk.pings)
pings_too_often h m = false

-- why a message is refused, if it is: the first that applies
unfoldable pub refusal : Situation → List Order → IfaceMsg → Option Refusal
refusal h held m =
    or_else (reason_where (needs_engine h.settings m && is_gone h.engine) reasons.EngineEnded)
    (or_else (reason_where (needs_analysis m && not (analyses h.desk.mode)) reasons.NotAnalyzing)
    (or_else (reason_where (lacks_moves h.desk.game m) reasons.NoMoveToUndo)
    (or_else (illegal_move h.desk.game m)
    (or_else (move_too_many h.desk.game m)
    (or_else (illegal_position m)
    (or_else (refused_option (asked (table h.desk) m))
    (or_else
    (reason_where (does_not_fit held (asks (is_gone h.engine) h.desk m)) reasons.TooManySettings)
    (reason_where (pings_too_often h m) reasons.TooManyPings))))))))

-- A line is early if it sets an option while the engine is in Boot, where no option counts yet, and
-- the settings say that such lines wait.
abbrev pub is_early : Situation → IfaceMsg → Bool
is_early h m = is_setting m && is_boot h.engine && h.settings.early_settings

-- what is read of a line is refused, accepted, or waits since it is early
pub data Verdict : Type 0 where
  Refused : Refusal → Verdict
  Accepted : IfaceMsg → Verdict
  Early : Verdict

abbrev pub verdict_on : IfaceMsg → Option Refusal → Verdict
verdict_on m None = Accepted m
verdict_on m (Some r) = Refused r

-- an early line waits, unless too many do
abbrev pub early_verdict : Bool → Verdict
early_verdict fits = if fits then Early else Refused (refusals.Because reasons.TooManySettings)

-- of a line, by what is read of it
unfoldable pub line_verdict : Situation → List Order → List ℕ → Answer IfaceMsg IfaceFault → Verdict
line_verdict h held line (Err faults.UnknownCommand) = Refused (refusals.Because reasons.UnknownCommand)
line_verdict h held line (Err faults.BadArgument) = Refused (refusals.Because reasons.BadArgument)
line_verdict h held line (Ok m) =
    if is_early h m then early_verdict (may_wait h.desk.early line)
    else verdict_on m (refusal h held m)

-- what the options answer to an early line, once they are declared
abbrev pub answered_by : List OptionSetting → Answer IfaceMsg IfaceFault
    → Answer (Option Order) OptionFault
answered_by os (Ok m) = asked os m
answered_by os (Err fault) = Ok None

abbrev pub early_answer : List OptionSetting → List ℕ → Answer (Option Order) OptionFault
early_answer os line = answered_by os (message_or_fault line)

-- EPOCH LINES

-- by whether a Move is owed before the line, and what the line asks for
unfoldable pub is_epoch_line : Bool → Option Order → IfaceMsg → Bool
is_epoch_line owes asked says.New = true
is_epoch_line owes asked says.Force = true
is_epoch_line owes asked says.Go = true
is_epoch_line owes asked says.PlayOther = true
is_epoch_line owes asked (says.UserMove m) = true
is_epoch_line owes asked says.Undo = true
is_epoch_line owes asked says.Remove = true
is_epoch_line owes asked (says.SetBoard text) = true
is_epoch_line owes asked says.Analyze = true
is_epoch_line owes asked says.Exit = true
is_epoch_line owes asked says.Result = true
is_epoch_line owes asked says.Hard = not owes
is_epoch_line owes asked says.Easy = not owes
is_epoch_line owes asked (says.SetOption name value) = is_some asked && not owes
is_epoch_line owes asked (says.Memory n) = is_some asked && not owes
is_epoch_line owes asked (says.Cores n) = is_some asked && not owes
is_epoch_line owes asked (says.EgtPath kind path) = is_some asked && not owes
is_epoch_line owes asked m = false

-- CHANGES

abbrev pub spelled_position : Answer Position FenFault → Option Position
spelled_position (Ok p) = Some p
spelled_position (Err fault) = None

-- the position that a message sets up, if it sets one up
abbrev pub position_set_up : IfaceMsg → Option Position
position_set_up (says.SetBoard text) = spelled_position (position_of text)
position_set_up m = None

abbrev pub new_mode : Mode → Mode
new_mode modes.Analyse = modes.Analyse
new_mode m = modes.Plays Black

-- the game changes, and the hint is lost
abbrev pub with_game : Desk → Game → Desk
with_game d g = record d { game = g; hint = None }

abbrev pub desk_at_position : Desk → Answer Position FenFault → Desk
desk_at_position d (Ok p) = with_game d (game_from p)
desk_at_position d (Err fault) = d

unfoldable pub change : Bool → Desk → IfaceMsg → Desk
change boot d (says.Protover n) = record d { due = due_after boot d.due }
change boot d says.New = record d {
  game = game_from start_position;
  hint = None;
  mode = new_mode d.mode;
  clocks = after_new d.clocks;
}
change boot d says.Force = record d { mode = modes.Force }
change boot d says.Go = record d { mode = modes.Plays (on_move d.game) }
change boot d says.PlayOther = record d { mode = modes.Plays (opponent_of (on_move d.game)) }
change boot d (says.UserMove m) = with_game d (game_played d.game m)
change boot d says.Undo = with_game d (without_last d.game 1)
change boot d says.Remove = with_game d (without_last d.game 2)
change boot d (says.SetBoard text) = desk_at_position d (position_of text)
change boot d says.Analyze = record d { mode = modes.Analyse }
change boot d says.Exit = record d { mode = modes.Force }
change boot d says.Result = record d { mode = modes.Over }
change boot d says.Hard = record d { pondering = true }
change boot d says.Easy = record d { pondering = false }
change boot d (says.Level mps base_ms inc_ms) = record d {
  clocks = after_message d.clocks (says.Level mps base_ms inc_ms);
}
change boot d (says.St ms) = record d { clocks = after_message d.clocks (says.St ms) }
change boot d (says.Sd n) = record d { clocks = after_message d.clocks (says.Sd n) }
change boot d (says.Time n) = record d { clocks = after_message d.clocks (says.Time n) }
change boot d (says.Otim n) = record d { clocks = after_message d.clocks (says.Otim n) }
change boot d says.Post = record d { post = true }
change boot d says.NoPost = record d { post = false }
change boot d (says.Ping n) = record d { pings = d.pings ++ n ∷ [] }
change boot d m = d

-- the scores of shown moves are cleared
abbrev pub clears_scores : IfaceMsg → Bool
clears_scores says.New = true
clears_scores says.Go = true
clears_scores says.PlayOther = true
clears_scores says.Undo = true
clears_scores says.Remove = true
clears_scores (says.SetBoard text) = true
clears_scores m = false
