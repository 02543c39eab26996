-- The engine as the wire shows it: by the orders that were written and by what its lines say,
-- without a look at the desk.
use Rattle.std.specs.Prelude.{◌≡◌, ◌≢◌, List, [], ◌∷◌, ◌++◌, map, Bool, true}
use Rattle.std.specs.Prelude.{false, if◌then◌else◌, Option, Some, None}
use Rattle.line_io.specs.Event.{Event}
use Rattle.line_io.specs.Event as events
use Rattle.protocol_tokens.specs.declared.kinds.GoKind.{GoKind}
use Rattle.protocol_tokens.specs.declared.kinds.GoKind.TheVariants as kinds
use Rattle.uci_lines.specs.Messages.{EngineMsg}
use Rattle.uci_lines.specs.Messages as says
use Rattle.uci_lines.specs.Engine.{engine_message}
use Rattle.uci_lines.specs.Orders.{Order}
use Rattle.uci_lines.specs.Orders as orders
use Rattle.policy_rules.specs.declared.setting_rules.settings.Settings.{Settings}
use Rattle.search_epochs.specs.declared.words.Said.{Said}
use Rattle.search_epochs.specs.declared.words.Said.TheVariants as said
use Rattle.search_epochs.specs.Tickets.{Engine, Paired}
use Rattle.search_epochs.specs.Tickets as talks
use Rattle.desk_rules.specs.Orders.{go_kind_named, dialogue_word_of}
use Rattle.adapter_core.specs.declared.ends.Ends.{Ends}
use Rattle.adapter_core.specs.Ends.{ends_after, at_start}
use Rattle.adapter_core.specs.Trace.{Step, LawfulTrace, state}

-- the engine, by its lines and its orders alone: a search has a kind, and is stopped or not
pub data Wire : Type 0 where
  Boot : Wire
  Getting : Wire
  Idle : Wire
  Search : (kind : GoKind) (stopped : Bool) → Wire
  Gone : Wire

-- the meaning of a line of the engine to the dialogue
abbrev pub said_in_line : EngineMsg → Option Said
said_in_line says.UciOk = Some said.UciOk
said_in_line says.ReadyOk = Some said.ReadyOk
said_in_line (says.Best best hint) = Some said.Best
said_in_line m = None

-- and an event: in a closed session no line is heard, but the engine's end is
abbrev pub said_by_step : Bool → Event → Option Said
said_by_step closed (events.Engine line) = if closed then None else said_in_line (engine_message line)
said_by_step closed events.EngineEnd = Some said.Ended
said_by_step closed events.EngineLost = Some said.Ended
said_by_step closed e = None

-- the engine after it was heard: `uciok` ends the boot, `readyok` the
-- getting, `bestmove` the search
abbrev pub wire_once_heard : Wire → Option Said → Wire
wire_once_heard e None = e
wire_once_heard Boot (Some said.UciOk) = Idle
wire_once_heard Getting (Some said.ReadyOk) = Idle
wire_once_heard (Search k s) (Some said.Best) = Idle
wire_once_heard e (Some said.Ended) = Gone
wire_once_heard e (Some _) = e

-- the engine after an order
abbrev pub wire_once_written : Wire → Order → Wire
wire_once_written Gone order = Gone
wire_once_written e orders.Uci = Boot
wire_once_written e orders.IsReady = Getting
wire_once_written e (orders.Go ponder control depth) = Search (go_kind_named ponder control) false
wire_once_written (Search k s) orders.Stop = Search k true
wire_once_written (Search kinds.Ponder s) orders.PonderHit = Search kinds.Move false
wire_once_written e order = e

-- and after several, one by one
abbrev pub writing_all : Wire → List Order → Wire
writing_all e [] = e
writing_all e (order ∷ later) = writing_all (wire_once_written e order) later

-- which sides have ended, by the events alone
abbrev pub ends : List Step → Ends
ends [] = at_start
ends (step ∷ trace) = ends_after (ends trace) step.event

-- the engine after a trace
abbrev pub wire : List Step → Wire
wire [] = Boot
wire (step ∷ trace) =
    writing_all (wire_once_heard (wire trace) (said_by_step (ends trace).closed step.event)) step.orders

-- the engine at the place of an order, with these of the step's orders before it
abbrev pub wire_at : List Step → Step → List Order → Wire
wire_at trace step before =
    writing_all (wire_once_heard (wire trace) (said_by_step (ends trace).closed step.event)) before

-- the engine, as the wire shows it, whose searches have tickets
abbrev pub on_wire : Engine → Wire
on_wire talks.Boot = Boot
on_wire talks.Getting = Getting
on_wire talks.Idle = Idle
on_wire (talks.Search k ticket s) = Search k s
on_wire talks.Gone = Gone

-- THE LAW: the engine of each trace is what the wire shows, and so are the sides that have ended.
abbrev pub EngineIsOnWire : Settings → Type 0
EngineIsOnWire o = (trace : List Step) → on_wire (state o trace).dialogue.engine ≡ wire trace

abbrev pub EndsAreOnWire : Settings → Type 0
EndsAreOnWire o = (trace : List Step) → (state o trace).ends ≡ ends trace

-- WHERE ORDERS STAND

-- settings, `isready`, `position` and `go` are for an idle engine
abbrev pub line_needs_idle : Order → Bool
line_needs_idle orders.NewGame = true
line_needs_idle (orders.SetOption name value) = true
line_needs_idle orders.IsReady = true
line_needs_idle (orders.Position start moves) = true
line_needs_idle (orders.Go ponder control depth) = true
line_needs_idle order = false

-- In a lawful trace they reach only an idle engine.
abbrev pub IdleEngineGetsLines : Settings → Type 0
IdleEngineGetsLines o =
    (step : Step) (trace : List Step) (before behind : List Order) (order : Order)
    → LawfulTrace o (step ∷ trace)
    → step.orders ≡ before ++ order ∷ behind → line_needs_idle order ≡ true
    → wire_at trace step before ≡ Idle

-- `stop` reaches only an open search that is not stopped.
abbrev pub SearchGetsStopLine : Settings → Type 0
SearchGetsStopLine o =
    (step : Step) (trace : List Step) (before behind : List Order) → LawfulTrace o (step ∷ trace)
    → step.orders ≡ before ++ orders.Stop ∷ behind
    → (k : GoKind) × (wire_at trace step before ≡ Search k false)

-- `ponderhit` reaches only an open Ponder search that is not stopped.
abbrev pub PonderGetsHitLine : Settings → Type 0
PonderGetsHitLine o =
    (step : Step) (trace : List Step) (before behind : List Order) → LawfulTrace o (step ∷ trace)
    → step.orders ≡ before ++ orders.PonderHit ∷ behind
    → wire_at trace step before ≡ Search kinds.Ponder false

-- Nothing reaches a gone engine.
abbrev pub GoneEngineGetsNoLine : Settings → Type 0
GoneEngineGetsNoLine o =
    (step : Step) (trace : List Step) (before behind : List Order) (order : Order)
    → LawfulTrace o (step ∷ trace)
    → step.orders ≡ before ++ order ∷ behind → wire_at trace step before ≢ Gone

-- Each `go` comes directly after a `position`, and each `position` directly before a `go`.
abbrev pub GoLineFollowsPosition : Settings → Type 0
GoLineFollowsPosition o =
    (step : Step) (trace : List Step) → LawfulTrace o (step ∷ trace) → Paired (map dialogue_word_of step.orders)
