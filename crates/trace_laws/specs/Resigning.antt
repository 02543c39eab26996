-- Resigning: an engine that is gone, and games that are given up.
use Rattle.std.specs.Prelude.{◌≡◌, ◌≢◌, ◌⊎◌, ℕ, ◌+◌, ◌<◌, ◌≤◌, List, [], ◌∷◌}
use Rattle.std.specs.Prelude.{Bool, true, false, if◌then◌else◌}
use Rattle.std.specs.List.{AllByRecursion}
use Rattle.line_io.specs.Event.{Event}
use Rattle.chess_board.specs.declared.board.Side.{Side}
use Rattle.cecp_lines.specs.Messages as says
use Rattle.cecp_lines.specs.Replies.{Reply}
use Rattle.cecp_lines.specs.Replies as cecp
use Rattle.game_record.specs.declared.game.TheConstants.{MOST_PLIES}
use Rattle.policy_rules.specs.declared.setting_rules.settings.Settings.{Settings}
use Rattle.desk_rules.specs.declared.mode.Mode.TheVariants as modes
use Rattle.desk_rules.specs.declared.desk.Desk.{Desk}
use Rattle.desk_rules.specs.Desk.{on_move, has_ended, plies}
use Rattle.desk_rules.specs.Steps.{Effect, Accepts, Dies, desk_after_effect}
use Rattle.adapter_core.specs.Trace.{Step, State, LawfulTrace, state, situation_of_state, effect}
use Rattle.trace_laws.specs.Wire.{wire, Gone}

-- how many of these lines give a game up: `resign`, and the result of a game that the engine has
-- lost by its answer or by ending
abbrev pub resigns_in : List Reply → ℕ
resigns_in [] = 0
resigns_in (cecp.Resign ∷ later) = resigns_in later + 1
resigns_in (cecp.Lost side loss ∷ later) = resigns_in later + 1
resigns_in (reply ∷ later) = resigns_in later

-- The engine plays a game that goes on, and is on move in it.
pub record IsOnMove (d : Desk) : Type 0 where
  pub side : Side
  pub plays : d.mode ≡ modes.Plays side
  pub on_move : on_move d.game ≡ side
  pub goes_on : has_ended d.game ≡ false
  pub has_room : plies d.game < MOST_PLIES

-- With ResignWhenGone on, an engine that is gone is not on move in a session that is open: the step
-- after which it would be has given the game up.
abbrev pub GoneEngineOwesNothing : Settings → Type 0
GoneEngineOwesNothing o =
    (trace : List Step) → LawfulTrace o trace → o.resign_when_gone ≡ true
    → (state o trace).ends.closed ≡ false → wire trace ≡ Gone → IsOnMove (state o trace).desk → ⊥

-- With ResignWhenGone on, a step gives the game up in one line if the engine was gone before it or
-- ends in it, is on move once the event was obeyed, and the session is open.
abbrev pub GoneEngineGivesUp : Settings → Type 0
GoneEngineGivesUp o =
    (step : Step) (trace : List Step) → LawfulTrace o (step ∷ trace) → o.resign_when_gone ≡ true
    → (state o (step ∷ trace)).ends.closed ≡ false
    → (wire trace ≡ Gone) ⊎ (effect (state o trace) step.event ≡ Dies)
    → IsOnMove (desk_after_effect (situation_of_state (state o trace)) (effect (state o trace) step.event))
    → resigns_in step.replies ≡ 1

-- A game is given up aloud: it becomes over by `result`, or in a step that says so in one line.
abbrev pub GamesEndAloud : Settings → Type 0
GamesEndAloud o =
    (step : Step) (trace : List Step) → LawfulTrace o (step ∷ trace)
    → (state o trace).desk.mode ≢ modes.Over → (state o (step ∷ trace)).desk.mode ≡ modes.Over
    → (effect (state o trace) step.event ≡ Accepts says.Result) ⊎ (resigns_in step.replies ≡ 1)

-- the sides that have lost by these lines: by a result with its reason
abbrev pub losers_in : List Reply → List Side
losers_in [] = []
losers_in (cecp.Lost side loss ∷ later) = side ∷ losers_in later
losers_in (reply ∷ later) = losers_in later

-- A result with its reason comes with ResultReasons alone, and the side that has lost by it is the
-- one that the engine plays, before the step or once its line was obeyed.
pub record EngineLoses (o : Settings) (s : State) (e : Event) (side : Side) : Type 0 where
  pub reasons : o.result_reasons ≡ true
  pub plays : (s.desk.mode ≡ modes.Plays side)
      ⊎ ((desk_after_effect (situation_of_state s) (effect s e)).mode ≡ modes.Plays side)

abbrev pub LosersAreTheEngines : Settings → Type 0
LosersAreTheEngines o =
    (step : Step) (trace : List Step) → LawfulTrace o (step ∷ trace)
    → AllByRecursion (EngineLoses o (state o trace) step.event) (losers_in step.replies)

-- the interface gives the engine a side: `new`, `go` and `playother`
abbrev pub gives_side : Effect → Bool
gives_side (Accepts says.New) = true
gives_side (Accepts says.Go) = true
gives_side (Accepts says.PlayOther) = true
gives_side d = false

-- how many lines gave a game up since the interface last gave the engine a side
abbrev pub resigns_since_side : Settings → List Step → ℕ
resigns_since_side o [] = 0
resigns_since_side o (step ∷ trace) =
    (if gives_side (effect (state o trace) step.event) then 0 else resigns_since_side o trace)
    + resigns_in step.replies

-- The engine gives up once at most until it is given a side anew.
abbrev pub ResignsOnce : Settings → Type 0
ResignsOnce o = (trace : List Step) → LawfulTrace o trace → resigns_since_side o trace ≤ 1
