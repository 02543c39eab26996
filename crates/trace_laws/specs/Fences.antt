-- A `stop` is fenced if an `isready` was written after it, and then a `readyok` was read.
use Rattle.std.specs.Prelude.{◌≡◌, ℕ, List, [], ◌∷◌, ◌++◌, Bool, true, false, Option, Some}
use Rattle.protocol_tokens.specs.declared.kinds.GoKind.{GoKind}
use Rattle.uci_lines.specs.declared.orders.GoControl.{GoControl}
use Rattle.uci_lines.specs.Orders.{Order}
use Rattle.uci_lines.specs.Orders as orders
use Rattle.policy_rules.specs.declared.setting_rules.settings.Settings.{Settings}
use Rattle.search_epochs.specs.declared.words.Said.{Said}
use Rattle.search_epochs.specs.declared.words.Said.TheVariants as said
use Rattle.adapter_core.specs.Trace.{Step, LawfulTrace}
use Rattle.trace_laws.specs.Wire.{Search, ends, said_by_step, wire}

-- What became of the last `stop`: it is fenced, or there is none; nothing yet; an `isready` was
-- written after it.
pub data Fence : Type 0 where
  Fenced : Fence
  Stopped : Fence
  Asked : Fence

-- the next `readyok` fences it, which answers that `isready` if the engine writes one for each
abbrev pub fence_once_answered : Fence → Fence
fence_once_answered Asked = Fenced
fence_once_answered f = f

abbrev pub fence_once_heard : Fence → Option Said → Fence
fence_once_heard f (Some said.ReadyOk) = fence_once_answered f
fence_once_heard f s = f

abbrev pub fence_once_asked : Fence → Fence
fence_once_asked Stopped = Asked
fence_once_asked f = f

abbrev pub fence_once_written : Fence → Order → Fence
fence_once_written f orders.Stop = Stopped
fence_once_written f orders.IsReady = fence_once_asked f
fence_once_written f order = f

-- and after several orders, one by one
abbrev pub fence_all : Fence → List Order → Fence
fence_all f [] = f
fence_all f (order ∷ later) = fence_all (fence_once_written f order) later

-- after a trace
abbrev pub fence : List Step → Fence
fence [] = Fenced
fence (step ∷ trace) =
    fence_all (fence_once_heard (fence trace) (said_by_step (ends trace).closed step.event)) step.orders

-- at the place of an order, with these of the step's orders before it
abbrev pub fence_at : List Step → Step → List Order → Fence
fence_at trace step before =
    fence_all (fence_once_heard (fence trace) (said_by_step (ends trace).closed step.event)) before

-- With FenceStops on each `go` comes where the last `stop` is fenced. So between a
-- `stop` and the next `go` an `isready` was written after that `stop`, and then a `readyok` was read.
abbrev pub SearchesAreFenced : Settings → Type 0
SearchesAreFenced o =
    o.fence_stops ≡ true → (step : Step) (trace : List Step) (before behind : List Order)
    (ponder : Bool) (control : GoControl) (depth : Option ℕ)
    → LawfulTrace o (step ∷ trace)
    → step.orders ≡ before ++ orders.Go ponder control depth ∷ behind
    → fence_at trace step before ≡ Fenced

abbrev pub is_left_unfenced : Fence → Bool
is_left_unfenced Fenced = false
is_left_unfenced f = true

-- With FenceStops on a `stop` is unfenced in an open search exactly if the search is stopped.
abbrev pub StoppedSearchIsUnfenced : Settings → Type 0
StoppedSearchIsUnfenced o =
    o.fence_stops ≡ true → (trace : List Step) (k : GoKind) (stopped : Bool) → LawfulTrace o trace
    → wire trace ≡ Search k stopped
    → is_left_unfenced (fence trace) ≡ stopped
