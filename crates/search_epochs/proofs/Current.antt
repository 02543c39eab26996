-- The facts of an open current search, by what is kept.
use Rattle.std.proofs.Common.{◌≡◌, ℕ, Bool, true, false, not, cond, ◌||◌, ◌==◌, refl, sym, ap, subst, ◌∙◌}
use mathlib.Core.Bool.{not-not}
use Rattle.protocol_tokens.specs.declared.kinds.GoKind.{GoKind}
use Rattle.protocol_tokens.specs.declared.kinds.GoKind.TheVariants as kinds
use Rattle.search_epochs.specs.declared.words.EngineState.{EngineState}
use Rattle.search_epochs.specs.declared.words.EngineState.TheVariants as states
use Rattle.search_epochs.specs.declared.words.Call.{Call}
use Rattle.search_epochs.specs.declared.words.Call.TheVariants as calls
use Rattle.search_epochs.specs.declared.words.Said.TheVariants as said
use Rattle.search_epochs.specs.declared.words.Orders.{Orders}
use Rattle.search_epochs.specs.declared.words.Orders.TheVariants as orders
use Rattle.search_epochs.specs.Tickets.{Engine, Search, What, Says, Ticketed, DialogueTurn, TicketWithin, LastWithin, before_orders, is_move, is_no_call, kind_of}
use Rattle.search_epochs.specs.Dialogue.{Dialogue, forget, stale_state, settled_state, choose, choose_search, after_what, mid_dialogue, dialogue_between_steps}
use Rattle.search_epochs.specs.History.{answers_call, answers_at, is_engine_end}
use Rattle.search_epochs.proofs.Whole.{mid_kept}

-- of an open current search, its kind
abbrev pub IfCurrent : EngineState → (GoKind → Type 0) → Type 0
IfCurrent (states.Search k false s) P = P k
IfCurrent e P = Unit {0}

pub none_if_stale : (P : GoKind → Type 0) (e : EngineState) → IfCurrent (stale_state e) P
none_if_stale P states.Boot = tt
none_if_stale P states.Getting = tt
none_if_stale P states.Idle = tt
none_if_stale P states.Gone = tt
none_if_stale P (states.Search k stale s) = tt

moved : (P : GoKind → Call → Type 0) (k : GoKind) (stale s : Bool) (call call' : Call) → call' ≡ call → IfCurrent (states.Search k stale s) (λ g. P g call) → IfCurrent (states.Search k stale s) (λ g. P g call')
moved P k stale s call call' e h = subst (λ (c : Call). IfCurrent (states.Search k stale s) (λ g. P g c)) (sym e) h

-- the answer to a current search for a Move, by what is kept
abbrev pub answers_kept : What → EngineState → Bool
answers_kept (Says said.Best) (states.Search kinds.Move stale s) = not stale
answers_kept w e = false

-- in a step without a new epoch the call of an open current search stays
heard_current : (P : GoKind → Call → Type 0) (v : Dialogue) (w : What) (call call' : Call) → call' ≡ cond (answers_kept w v.state || is_engine_end w) calls.Nothing call
    → IfCurrent v.state (λ k. P k call) → IfCurrent (after_what v w).state (λ k. P k call')
heard_current P v w call call' e h = by_state v.state w e h where
  by_state : (x : EngineState) (w : What) → call' ≡ cond (answers_kept w x || is_engine_end w) calls.Nothing call → IfCurrent x (λ k. P k call)
      → IfCurrent (after_what (record { state = x; spent = v.spent; pondered = v.pondered; unfenced = v.unfenced }) w).state (λ k. P k call')
  by_state (states.Search k stale s) (Says said.Best) e h = tt
  by_state (states.Search k stale s) (Says said.Ended) e h = tt
  by_state (states.Search k stale s) w e h = moved P k stale s call call' e h
  by_state x (Says said.UciOk) e h = tt
  by_state x w e h = tt

-- what holds of the kind and the call of an open current search goes on to the middle of a step
pub mid_current : (P : GoKind → Call → Type 0) (v : Dialogue) (w : What) (begins_epoch : Bool) (call call' : Call)
    → (begins_epoch ≡ false → call' ≡ cond (answers_kept w v.state || is_engine_end w) calls.Nothing call)
    → IfCurrent v.state (λ k. P k call) → IfCurrent (mid_dialogue v w begins_epoch).state (λ k. P k call')
mid_current P v w true call call' stays h = none_if_stale (λ k. P k call') (after_what v w).state
mid_current P v w false call call' stays h = heard_current P v w call call' (stays refl) h

answers_forgotten : (epoch : ℕ) (e : Engine) (w : What) → answers_kept w (forget epoch e) ≡ answers_at w epoch e
answers_forgotten epoch (Search kinds.Move t s) (Says said.Best) = not-not (t == epoch)
answers_forgotten epoch e (Says said.UciOk) = refl
answers_forgotten epoch e w = refl

-- the same of a dialogue
pub turned_current : (P : GoKind → Call → Type 0) (t : Ticketed) (u : DialogueTurn) (call : Call) → TicketWithin t.epoch t.engine → LastWithin t.epoch t.last
    → (u.begins_epoch ≡ false → u.call ≡ cond (answers_call t u.what || is_engine_end u.what) calls.Nothing call)
    → IfCurrent (forget t.epoch t.engine) (λ k. P k call) → IfCurrent (forget (before_orders t u).epoch (before_orders t u).engine) (λ k. P k u.call)
turned_current P t u call w l stays h =
    subst (λ (v : Dialogue). IfCurrent v.state (λ k. P k u.call)) (mid_kept t u.hint u w l)
    (mid_current P (dialogue_between_steps t u.hint) u.what u.begins_epoch call u.call
    (λ r. stays r ∙ ap (λ b. cond (b || is_engine_end u.what) calls.Nothing call) (sym (answers_forgotten t.epoch t.engine u.what))) h)

module _ (P : Orders → GoKind → Type 0) where
  search_current : (k : GoKind) (stale wants matches move_now : Bool) → IfCurrent (states.Search k stale false) (P orders.None) → IfCurrent (states.Search k stale false) (P orders.Stop) → (wants ≡ true → P orders.Hit kinds.Move)
      → IfCurrent (settled_state (states.Search k stale false) (choose_search k stale wants matches move_now)) (P (choose_search k stale wants matches move_now))
  search_current kinds.Move false wants matches true n s h = s
  search_current kinds.Ponder stale true true move_now n s h = h refl
  search_current kinds.Ponder false false true true n s h = n
  search_current k false wants matches false n s h = n
  search_current k true wants true move_now n s h = tt
  search_current k true wants matches move_now n s h = tt
  search_current k stale wants matches move_now n s h = n

  -- and on through the orders: a search is begun for what is owed, hit if a Move is owed, or goes on
  pub settled_current : (e : EngineState) (o : Call) (unsent matches move_now : Bool) → IfCurrent e (P orders.None) → IfCurrent e (P orders.Stop)
      → (is_no_call o ≡ false → P (orders.Begin o) (kind_of o)) → (is_move o ≡ true → P orders.Hit kinds.Move)
      → IfCurrent (settled_state e (choose e o unsent matches move_now)) (P (choose e o unsent matches move_now))
  settled_current (states.Search k stale true) o unsent matches move_now n s b h = n
  settled_current (states.Search k stale false) o unsent matches move_now n s b h = search_current k stale (is_move o) matches move_now n s h
  settled_current states.Idle calls.Nothing false matches move_now n s b h = tt
  settled_current states.Idle o false matches move_now n s b h = b refl
  settled_current e o unsent matches move_now n s b h = tt
