-- The engine's behaviour while a search is open.
use Rattle.std.specs.Prelude.{ℕ, ◌≡◌, ◌+◌, ◌≤◌, ◌||◌, true, List, [], ◌∷◌, Some}
use Rattle.line_io.specs.Event.{Event, Iface, IfaceEnd, Engine, EngineEnd}
use Rattle.protocol_tokens.specs.Tokens.{first_token}
use Rattle.driver_state_machine.specs.declared.words.OpenSearch.{OpenSearch}
use Rattle.driver_state_machine.specs.declared.driver_state.DriverCall.{DriverCall}
use Rattle.driver_state_machine.specs.declared.driver_state.DriverCall.TheVariants as calls
use Rattle.driver_state_machine.specs.DriverState.{is_thinking}
use Rattle.driver_state_machine.specs.Laws.{HasPrompt, IsBusy, action_after, one_if, prompts, state_after_calls, got_stop}
use Rattle.driver_state_machine.specs.Laws.{was_deep, writes_prompt}
use Rattle.driver_state_machine.specs.Lines.{DownLine, OrderMoveNow, lines_text}
use Rattle.driver_state_machine.specs.Words.{order_word_in as order_in}
use Rattle.driver_state_machine.specs.Says.{says_in}
use Rattle.cecp_driver.specs.declared.driver.DriverParts.{DriverParts}
use Rattle.cecp_driver.specs.Driver.{GoIsAsked, EngineLineIsHeard, driver_without_lines, placed_if}

-- the call to the talk that an event is
abbrev pub IsCallOf : Event → DriverParts → DriverCall → Type 0
IsCallOf (Iface line) v call =
    GoIsAsked (placed_if (order_in (first_token line)) (driver_without_lines v) line) line
    (order_in (first_token line)) call
IsCallOf IfaceEnd v call = call ≡ calls.Quit
IsCallOf (Engine line) v call = EngineLineIsHeard (driver_without_lines v) (says_in line) call
IsCallOf EngineEnd v call = call ≡ calls.Ended
IsCallOf event v call = ⊥

-- how many of these lines are `?`
abbrev pub prompt_lines : List DownLine → ℕ
prompt_lines [] = 0
prompt_lines (OrderMoveNow ∷ lines) = prompt_lines lines + 1
prompt_lines (line ∷ lines) = prompt_lines lines

-- `?` is among the lines that are written for a call, or not: with a `stop`, at the depth of the
-- `go`, or behind the `go` of a search that was stopped before; once a search at most, and if one of
-- these came while the engine thinks.
pub record Prompts (v' : DriverParts) (before : List DriverCall) (call : DriverCall)
    : Type 0 where
  pub lines : List DownLine
  pub written : v'.down.text ≡ lines_text lines
  pub among : prompt_lines lines ≡ one_if (writes_prompt (action_after before call).down)
  pub cause : writes_prompt (action_after before call).down ≡ true → HasPrompt before call
  pub once : prompts (call ∷ before) ≤ 1
  pub due : is_thinking v'.talk ≡ true
      → prompts (call ∷ before) ≡ one_if (got_stop (call ∷ before) || was_deep (call ∷ before))

-- An event after these calls is one call more. A search that is open then is one whose engine was
-- set to think, an analysis that goes on, or one that waits for a ping whose pong has not come.
pub record Busies (event : Event) (v v' : DriverParts) (before : List DriverCall) : Type 0 where
  pub call : DriverCall
  pub is : IsCallOf event v call
  pub talk : v'.talk ≡ state_after_calls (call ∷ before)
  pub busy : (s : OpenSearch) → v'.talk.search ≡ Some s → IsBusy (call ∷ before) s
  pub prompt : Prompts v' before call

-- the same for each of a list of events
abbrev pub AllBusy : DriverParts → List DriverCall → List Event → List DriverParts → Type 0
AllBusy v before [] after = Unit {0}
AllBusy v before (event ∷ events) [] = Unit {0}
AllBusy v before (event ∷ events) (v' ∷ later) =
    (one : Busies event v v' before) × AllBusy v' (one.call ∷ before) events later
