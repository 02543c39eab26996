-- The calls, what each writes, and when it may come.
use Rattle.std.specs.Prelude.{◌≡◌, ℕ, List, [], ◌++◌, Bool, true, false, not, ◌&&◌}
use Rattle.engine_revival.specs.Orders.{RevivalOrder as AnyOrder}
use Rattle.engine_revival.specs.declared.words.LifeState.{LifeState}
use Rattle.engine_revival.specs.declared.words.LifeState.TheVariants as life
use Rattle.engine_revival.specs.declared.state.RevivalState.{RevivalState}
use Rattle.engine_revival.specs.Dialogue.{said_in}
use Rattle.engine_revival.specs.Lists.{revival_batch_text}
use Rattle.engine_revival.specs.Steps.{state_after_line, at_once, state_once_heard, line_passed_up}
use Rattle.engine_revival.specs.Steps.{state_once_ended, state_at_new_life, first_order}
use Rattle.engine_revival.specs.Steps.{state_once_over, is_alive, is_ended, may_begin}
use Rattle.engine_revival.specs.Steps.{state_once_settled, settled_orders, settled_answers}

pub data RevivalCall : Type 0 where
  Order : (line : List ℕ) → RevivalCall
  Heard : (line : List ℕ) → RevivalCall
  Ended : RevivalCall
  Begin : RevivalCall
  Over : RevivalCall

abbrev pub is_life_over : LifeState → Bool
is_life_over life.Over = true
is_life_over state = false

-- After `ended` comes `begin`, if another life may begin, or `over`. After `over` only orders come.
abbrev pub may_call : RevivalState → RevivalCall → Bool
may_call s (Order line) = not (is_ended s.life)
may_call s (Heard line) = is_alive s.life
may_call s Ended = is_alive s.life
may_call s Begin = is_ended s.life && may_begin s
may_call s Over = not (is_life_over s.life)

-- the change that the call makes by itself
abbrev pub state_after_call : RevivalState → RevivalCall → RevivalState
state_after_call s (Order line) = state_after_line s line
state_after_call s (Heard line) = state_once_heard s (said_in line)
state_after_call s Ended = state_once_ended s
state_after_call s Begin = state_at_new_life s
state_after_call s Over = state_once_over s

-- the lines that it writes to the life by itself
abbrev pub first_orders : RevivalState → RevivalCall → List AnyOrder
first_orders s (Order line) = at_once s line
first_orders s Begin = first_order s.upper
first_orders s call = []

-- the lines that it passes up by itself
abbrev pub first_up : RevivalState → RevivalCall → List ℕ
first_up s (Heard line) = line_passed_up s line
first_up s call = []

-- WITH WHAT FOLLOWS OF IT

abbrev pub revival_after : RevivalState → RevivalCall → RevivalState
revival_after s call = state_once_settled (state_after_call s call)

-- the orders to the life
abbrev pub orders_to_life : RevivalState → RevivalCall → List AnyOrder
orders_to_life s call = first_orders s call ++ settled_orders (state_after_call s call)

-- the lines up, and the lines to the life
abbrev pub up_of : RevivalState → RevivalCall → List ℕ
up_of s call = first_up s call ++ settled_answers (state_after_call s call)

abbrev pub child_of : RevivalState → RevivalCall → List ℕ
child_of s call = revival_batch_text (orders_to_life s call)

-- the state after the call, and the texts that it gave
pub record LifeCallGives (s : RevivalState) (call : RevivalCall) (last : RevivalState)
    (up child : List ℕ) : Type 0 where
  pub state_is : last ≡ revival_after s call
  pub up_is : up ≡ up_of s call
  pub child_is : child ≡ child_of s call
