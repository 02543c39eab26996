-- The form in which orders are kept: their lines stand in one buffer, each with its line feed.
use Rattle.std.specs.Prelude.{◌≡◌, ℕ, ◌+◌, ◌≤◌, List, take, drop}
use Rattle.std.specs.Prelude.{map, length, false, Option, Some, None}
use Rattle.std.specs.List.{AllByRecursion}
use Rattle.line_io.specs.Event.{has_feed}
use Rattle.line_io.specs.Out.{Text}
use Rattle.engine_revival.specs.Orders.{RevivalOrder, Uci, revival_order_text}
use Rattle.engine_revival.specs.Asked.{revival_order_in}
use Rattle.engine_revival.specs.declared.order_list.LineSpan.{LineSpan}
use Rattle.engine_revival.specs.declared.order_list.TheConstants.{LIST_ORDERS, LIST_BYTES}
use Rattle.engine_revival.specs.Lists.{revival_batch_text}

-- the line in a part of the texts
abbrev pub line_at : List ℕ → LineSpan → List ℕ
line_at texts s = take s.len (drop s.at texts)

-- the order that a line spells, if it spells one
abbrev pub or_uci : Option RevivalOrder → RevivalOrder
or_uci None = Uci
or_uci (Some order) = order

abbrev pub spelled : List ℕ → RevivalOrder
spelled line = or_uci (revival_order_in line)

-- The line is one line, and the text of the order that it is.
pub record SpellsRevivalOrder (line : List ℕ) : Type 0 where
  pub text : line ≡ revival_order_text (spelled line)
  pub one_line : has_feed line ≡ false

abbrev pub orders_at : List ℕ → List LineSpan → List RevivalOrder
orders_at texts lines = map (λ s. spelled (line_at texts s)) lines

-- a line lies in the texts and spells an order
pub record IsLineIn (texts : List ℕ) (s : LineSpan) : Type 0 where
  pub within : s.at + s.len ≤ length texts
  pub spells : SpellsRevivalOrder (line_at texts s)

abbrev pub SpansAreIn : List ℕ → List LineSpan → Type 0
SpansAreIn texts lines = AllByRecursion (IsLineIn texts) lines

-- the invariant of the buffer of lines, the buffer beside it, and the places of the lines
pub record LineBufferIsKept (texts beside : Text) (lines : List LineSpan) : Type 0 where
  pub within : SpansAreIn texts.text lines
  pub whole : texts.text ≡ revival_batch_text (orders_at texts.text lines)
  pub few : length lines ≤ LIST_ORDERS
  pub room : texts.room ≡ LIST_BYTES
  pub other : beside.room ≡ LIST_BYTES
