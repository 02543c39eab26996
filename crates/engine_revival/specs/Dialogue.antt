-- The order of a dialogue with an engine: which orders may stand where, and what
-- the engine's lines change.
use Rattle.std.specs.Prelude.{ℕ, List, Bool, true, false, not, ◌||◌, Option, Some, None}
use Rattle.protocol_tokens.specs.declared.kinds.GoKind.TheVariants as kinds
use Rattle.uci_lines.specs.Messages.{EngineMsg}
use Rattle.uci_lines.specs.Messages as says
use Rattle.uci_lines.specs.Engine.{engine_message}
use Rattle.engine_revival.specs.Orders.{RevivalOrder}
use Rattle.engine_revival.specs.Orders as orders
use Rattle.engine_revival.specs.declared.words.DialogueState.{DialogueState}
use Rattle.engine_revival.specs.declared.words.DialogueState.TheVariants.{Before, Boot}
use Rattle.engine_revival.specs.declared.words.DialogueState.TheVariants.{Idle, Placed, Search}
use Rattle.engine_revival.specs.declared.words.LifeSaid.{LifeSaid}
use Rattle.engine_revival.specs.declared.words.LifeSaid.TheVariants as said

abbrev pub is_before : DialogueState → Bool
is_before Before = true
is_before state = false

abbrev pub is_dialogue_idle : DialogueState → Bool
is_dialogue_idle Idle = true
is_dialogue_idle state = false

abbrev pub is_placed : DialogueState → Bool
is_placed Placed = true
is_placed state = false

abbrev pub dialogue_where : Bool → DialogueState → Option DialogueState
dialogue_where true state = Some state
dialogue_where false state = None

abbrev pub after_hit : DialogueState → Option DialogueState
after_hit (Search kinds.Ponder false) = Some (Search kinds.Move false)
after_hit state = None

abbrev pub after_stop : DialogueState → Option DialogueState
after_stop (Search kind false) = Some (Search kind true)
after_stop state = None

-- After an order; nothing if it may not come there. `uci` is the first and comes once. Settings go
-- to an idle engine, and `position` too or in the place of another `position`; what follows is its
-- `go`. `ponderhit` goes into a Ponder search that is not stopped, and `stop` into a search that is
-- not stopped. `isready` comes anywhere behind `uci` and changes nothing. Of `quit` it says nothing.
abbrev pub after_order : RevivalOrder → DialogueState → Option DialogueState
after_order orders.Uci state = dialogue_where (is_before state) Boot
after_order (orders.Value name line) state = dialogue_where (is_dialogue_idle state) Idle
after_order (orders.Button name line) state = dialogue_where (is_dialogue_idle state) Idle
after_order orders.NewGame state = dialogue_where (is_dialogue_idle state) Idle
after_order orders.IsReady state = dialogue_where (not (is_before state)) state
after_order (orders.Position line) state = dialogue_where (is_dialogue_idle state || is_placed state) Placed
after_order (orders.Go kind line) state = dialogue_where (is_placed state) (Search kind false)
after_order orders.PonderHit state = after_hit state
after_order orders.Stop state = after_stop state
after_order orders.Quit state = None

-- after the engine was heard
abbrev pub after_said : DialogueState → LifeSaid → DialogueState
after_said Boot said.UciOk = Idle
after_said (Search kind stopped) said.Best = Idle
after_said state s = state

abbrev pub said_of : EngineMsg → LifeSaid
said_of (says.Name text) = said.Introduction
said_of (says.OptionLine name shape) = said.Introduction
said_of says.UciOk = said.UciOk
said_of says.ReadyOk = said.ReadyOk
said_of (says.Info facts) = said.Report
said_of (says.Best best hint) = said.Best
said_of says.Nothing = said.Nothing

-- the meaning of a line of the engine
abbrev pub said_in : List ℕ → LifeSaid
said_in line = said_of (engine_message line)
