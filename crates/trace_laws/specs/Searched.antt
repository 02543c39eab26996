-- The position that is searched: the one on the wire is the desk's.
use Rattle.std.specs.Prelude.{◌≡◌, List, [], ◌∷◌, Bool, false, Option, Some, None, Contains}
use Rattle.chess_board.specs.declared.board.Move.{Move as AnyMove}
use Rattle.protocol_tokens.specs.declared.kinds.GoKind.{GoKind}
use Rattle.cecp_lines.specs.Replies.{Move}
use Rattle.uci_lines.specs.Orders.{Order}
use Rattle.uci_lines.specs.Orders as orders
use Rattle.policy_rules.specs.declared.setting_rules.settings.Settings.{Settings}
use Rattle.search_epochs.specs.Tickets.{Search}
use Rattle.desk_rules.specs.Steps.{searched_by}
use Rattle.desk_rules.specs.Orders.{position_order}
use Rattle.adapter_core.specs.Trace.{State, Step, LawfulTrace, state}

-- the last `position` of these orders, or the one before them
abbrev pub position_order_after : Option Order → List Order → Option Order
position_order_after last [] = last
position_order_after last (orders.Position start moves ∷ later) =
    position_order_after (Some (orders.Position start moves)) later
position_order_after last (order ∷ later) = position_order_after last later

-- the last `position` that was written
abbrev pub last_position : List Step → Option Order
last_position [] = None
last_position (step ∷ trace) = position_order_after (last_position trace) step.orders

-- If a current search is open, this is the `position` of the desk's game, with the hint behind its
-- moves if the search ponders.
abbrev pub OpenSearchHas : State → Option Order → Type 0
OpenSearchHas s last =
    (kind : GoKind) (stopped : Bool) → s.dialogue.engine ≡ Search kind s.dialogue.epoch stopped
    → last ≡ Some (position_order (searched_by kind s.desk.game s.desk.hint))

-- So it is with the last `position` that was written, while the session is open.
abbrev pub SearchesAreTheDesks : Settings → Type 0
SearchesAreTheDesks o =
    (trace : List Step) → LawfulTrace o trace → (state o trace).ends.closed ≡ false
    → OpenSearchHas (state o trace) (last_position trace)

-- A move is shown only if the last `position` that was written is that of the game in which it is
-- played: the game as it stood before the step that shows it.
abbrev pub MovesAnswerTheDesk : Settings → Type 0
MovesAnswerTheDesk o =
    (step : Step) (trace : List Step) (m : AnyMove) → LawfulTrace o (step ∷ trace)
    → Contains step.replies (Move m) → last_position trace ≡ Some (position_order (state o trace).desk.game)
