-- A hint that is pondered on can be played.
use Rattle.std.proofs.Common.{Bool, true, false, cond, ◌&&◌, ◌||◌, Option, Some, None}
use Rattle.std.specs.Prelude.{IfSome}
use Rattle.std.specs.Option.{is_some}
use Rattle.chess_board.specs.declared.board.Move.{Move}
use Rattle.chess_board.specs.Board.{same_side}
use Rattle.protocol_tokens.specs.declared.kinds.GoKind.{GoKind}
use Rattle.protocol_tokens.specs.declared.kinds.GoKind.TheVariants as kinds
use Rattle.game_record.specs.Game.{Game, ply_of, current_position, IsPlayablePly}
use Rattle.game_record.specs.Ending.{has_legal}
use Rattle.option_map.specs.DeclaredOptions.Shown.{check_named}
use Rattle.search_epochs.specs.declared.words.Call.{Call}
use Rattle.search_epochs.specs.declared.words.Call.TheVariants as calls
use Rattle.search_epochs.specs.declared.words.EngineState.{EngineState}
use Rattle.search_epochs.specs.declared.words.EngineState.TheVariants as states
use Rattle.search_epochs.specs.declared.words.Orders.TheVariants as chosen
use Rattle.search_epochs.specs.Dialogue as dialogues
use Rattle.search_epochs.specs.Dialogue.{begins_by_call, choose, choose_search, settle, is_pondered}
use Rattle.desk_rules.specs.declared.mode.Mode.{Mode}
use Rattle.desk_rules.specs.declared.mode.Mode.TheVariants as modes
use Rattle.desk_rules.specs.declared.desk.Desk.{Desk}
use Rattle.desk_rules.specs.Desk.{call_for_hint, call_while_waiting, call_in, call_of_desk, has_ended, is_full, on_move, game_played, ponder_name, table}
use Rattle.desk_rules.specs.Fits.{IsHintPlayable, CanSearch, ChosenOrdersCanBeWritten}

-- THE CALL

unless : (g : Game) (b : Bool) (c : Call) → CanSearch g c → CanSearch g (cond b calls.Nothing c)
unless g true c s = tt
unless g false c s = s

where_true : (g : Game) (b : Bool) (c : Call) → CanSearch g c → CanSearch g (cond b c calls.Nothing)
where_true g true c s = s
where_true g false c s = tt

or_else : (g : Game) (b : Bool) (c : Call) → CanSearch g c → CanSearch g (cond b calls.Move c)
or_else g true c s = tt
or_else g false c s = s

hint_search : (g : Game) (hint : Option Move) → IfSome hint (λ m. IsPlayablePly (current_position g) (ply_of m)) → CanSearch g (call_for_hint g hint)
hint_search g None p = tt
hint_search g (Some h) p = unless g (has_ended (game_played g h)) (calls.Ponder h) p

wait_search : (d : Desk) → IsHintPlayable d → CanSearch d.game (call_while_waiting d)
wait_search d p = where_true d.game (d.pondering && is_some (check_named ponder_name (table d))) (call_for_hint d.game d.hint) (hint_search d.game d.hint p)

mode_search : (d : Desk) (m : Mode) → IsHintPlayable d → CanSearch d.game (call_in d m)
mode_search d modes.Analyse p = where_true d.game (has_legal (current_position d.game)) calls.Analyse tt
mode_search d (modes.Plays s) p =
    unless d.game (has_ended d.game) (cond (same_side s (on_move d.game)) calls.Move (call_while_waiting d))
    (or_else d.game (same_side s (on_move d.game)) (call_while_waiting d) (wait_search d p))
mode_search d modes.Force p = tt
mode_search d modes.Over p = tt

pub call_search : (closed gone : Bool) (d : Desk) → IsHintPlayable d → CanSearch d.game (call_of_desk closed gone d)
unfolding call_of_desk
call_search closed gone d p = unless d.game (closed || gone || is_full d.game) (call_in d d.mode) (mode_search d d.mode p)

-- THE ORDERS

search_writes : (g : Game) (k : GoKind) (stale wants matches move_now : Bool) → ChosenOrdersCanBeWritten g (choose_search k stale wants matches move_now)
search_writes g kinds.Ponder stale true true move_now = tt
search_writes g kinds.Ponder false false true true = tt
search_writes g k false wants matches true = tt
search_writes g k false wants matches move_now = tt
search_writes g k stale wants true move_now = tt
search_writes g k true wants matches move_now = tt

begun_writes : (g : Game) (c : Call) → CanSearch g c → ChosenOrdersCanBeWritten g (begins_by_call c)
begun_writes g calls.Nothing s = tt
begun_writes g calls.Move s = s
begun_writes g (calls.Ponder h) s = s
begun_writes g calls.Analyse s = s

chosen_writes : (g : Game) (e : EngineState) (c : Call) (unsent matches move_now : Bool) → CanSearch g c → ChosenOrdersCanBeWritten g (choose e c unsent matches move_now)
chosen_writes g states.Boot c unsent matches move_now s = tt
chosen_writes g states.Getting c unsent matches move_now s = tt
chosen_writes g states.Gone c unsent matches move_now s = tt
chosen_writes g states.Idle c true matches move_now s = tt
chosen_writes g states.Idle c false matches move_now s = begun_writes g c s
chosen_writes g (states.Search k stale true) c unsent matches move_now s = tt
chosen_writes g (states.Search k stale false) c unsent matches move_now s = search_writes g k stale _ matches move_now

-- what is chosen for a call can be written
pub settled_writes : (g : Game) (v : dialogues.Dialogue) (c : Call) (rests unsent : Bool) (game_played : Option Move) (move_now : Bool) → CanSearch g c → ChosenOrdersCanBeWritten g (cond rests chosen.None (settle v c unsent game_played move_now))
settled_writes g v c true unsent game_played move_now s = tt
settled_writes g v c false unsent game_played move_now s =
    chosen_writes g v.state (cond v.spent calls.Nothing c) unsent (is_pondered v.pondered game_played) move_now (unless g v.spent c s)
