-- When a move is shown, and what a refused line changes.
use Rattle.std.specs.Prelude.{◌≡◌, ◌↔◌, ◌≤◌, ℕ, List, [], ◌∷◌, length}
use Rattle.std.specs.Prelude.{Contains, Bool, true, false, Option, Some}
use Rattle.chess_board.specs.declared.board.Move.{Move as AnyMove}
use Rattle.chess_board.specs.Place.{legal}
use Rattle.protocol_tokens.specs.declared.kinds.GoKind.TheVariants as kinds
use Rattle.line_io.specs.Event.{Event}
use Rattle.line_io.specs.Event as events
use Rattle.cecp_lines.specs.Replies.{Reply, Move}
use Rattle.uci_lines.specs.Messages.{Best}
use Rattle.uci_lines.specs.Engine.{engine_message}
use Rattle.game_record.specs.Game.{current_position}
use Rattle.policy_rules.specs.declared.setting_rules.settings.Settings.{Settings}
use Rattle.search_epochs.specs.Tickets.{Search}
use Rattle.desk_rules.specs.declared.effect.Refusal.{Refusal}
use Rattle.desk_rules.specs.Steps.{Refuses}
use Rattle.adapter_core.specs.Trace.{State, Step, LawfulTrace, state, effect}

-- An event answers with a legal move: in a session that is not closed the engine's line is a
-- `bestmove`, the open search is for a move and was begun or renewed for the present epoch, and the
-- move is legal in the game.
pub record AnswersWithMove (s : State) (e : Event) (m : AnyMove) : Type 0 where
  pub line : List ℕ
  pub hint : Option AnyMove
  pub stopped : Bool
  pub event : e ≡ events.Engine line
  pub best : engine_message line ≡ Best (Some m) hint
  pub is_open : s.ends.closed ≡ false
  pub current : s.dialogue.engine ≡ Search kinds.Move s.dialogue.epoch stopped
  pub is_legal : legal (current_position s.desk.game) m ≡ true

-- `move m` is written exactly in the step whose event answers with m.
abbrev pub MovesAreShownInTime : Settings → Type 0
MovesAreShownInTime o =
    (step : Step) (t : List Step) → LawfulTrace o (step ∷ t) → (m : AnyMove)
    → Contains step.replies (Move m) ↔ AnswersWithMove (state o t) step.event m

-- the moves that these lines show
abbrev pub moves_shown : List Reply → List AnyMove
moves_shown [] = []
moves_shown (Move m ∷ rest) = m ∷ moves_shown rest
moves_shown (line ∷ rest) = moves_shown rest

-- It is written once.
abbrev pub MovesAreShownOnce : Settings → Type 0
MovesAreShownOnce o =
    (step : Step) (t : List Step) → LawfulTrace o (step ∷ t) → length (moves_shown step.replies) ≤ 1

-- A refused line changes nothing, and the engine gets nothing.
abbrev pub RefusedLinesChangeNothing : Settings → Type 0
RefusedLinesChangeNothing o =
    (step : Step) (t : List Step) → LawfulTrace o (step ∷ t) → (r : Refusal) (line : List ℕ)
    → effect (state o t) step.event ≡ Refuses r line
    → (state o (step ∷ t) ≡ state o t) × (step.orders ≡ [])
