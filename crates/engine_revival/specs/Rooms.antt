-- The room that is left in lists and buffers.
use Rattle.std.specs.Prelude.{ℕ, ◌+◌, ◌*◌, ◌≤◌, List, length, false}
use Rattle.protocol_tokens.specs.declared.kinds.GoKind.TheVariants as kinds
use Rattle.engine_revival.specs.Orders.{RevivalOrder, NewGame}
use Rattle.engine_revival.specs.declared.words.DialogueState.{DialogueState}
use Rattle.engine_revival.specs.declared.words.DialogueState.TheVariants as upper
use Rattle.engine_revival.specs.declared.order_list.TheConstants.{MOST_ORDERS}
use Rattle.engine_revival.specs.declared.order_list.TheConstants.{MOST_BYTES, LIST_BYTES}
use Rattle.engine_revival.specs.declared.state.TheConstants.{MOST_LINE, SEARCH_BYTES, MOST_READY}
use Rattle.engine_revival.specs.declared.state.RevivalState.{RevivalState}
use Rattle.engine_revival.specs.Lists.{revival_orders_staying, revival_batch_text}

pub record AreWithin (list : List RevivalOrder) (orders bytes : ℕ) : Type 0 where
  pub few : length list ≤ orders
  pub short : length (revival_batch_text list) ≤ bytes

-- how long the orders of the open search are at most: `position`, `go`, `ponderhit`, `stop`
abbrev pub IsSearchIn : DialogueState → List RevivalOrder → Type 0
IsSearchIn upper.Placed search = AreWithin search 1 (MOST_LINE + 1)
IsSearchIn (upper.Search kinds.Ponder false) search = AreWithin search 2 (2 * MOST_LINE + 2)
IsSearchIn (upper.Search kind false) search = AreWithin search 3 (2 * MOST_LINE + 12)
IsSearchIn up search = AreWithin search 4 SEARCH_BYTES

-- the invariant of the lists between two calls
pub record IsRoomy (s : RevivalState) : Type 0 where
  pub kept : AreWithin s.kept MOST_ORDERS MOST_BYTES
  pub settings : AreWithin (revival_orders_staying NewGame s.unsent) MOST_ORDERS MOST_BYTES
  pub unsent : length (revival_batch_text s.unsent) ≤ LIST_BYTES
  pub search : AreWithin s.search 4 SEARCH_BYTES
  pub stage : IsSearchIn s.upper s.search
  pub ready : s.held_ready + s.asked_ready ≤ MOST_READY
