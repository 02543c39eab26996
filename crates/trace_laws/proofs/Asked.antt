-- The last value that was asked for is the last that was written, or is held.
use Rattle.std.proofs.Common.{◌≡◌, List, [], ◌∷◌, ◌++◌, map, Bool, true, false, not, cond, ◌&&◌, ◌||◌, Option, Some, None, append-nil, refl, sym, ap, subst, ◌∙◌}
use Rattle.line_io.specs.Event.{Event}
use Rattle.uci_lines.specs.Orders.{Order}
use Rattle.uci_lines.specs.Orders as orders
use Rattle.option_map.specs.WaitingOrders.Held.{Slot, Game, Setting, same_slot, slot_of, held_for_same, held_orders_staying, held_list_with, with_orders}
use Rattle.option_map.proofs.WaitingOrders.Orders.{apart}
use Rattle.policy_rules.specs.declared.setting_rules.settings.Settings.{Settings}
use Rattle.search_epochs.specs.Tickets.{MaySendAll, is_due, has_no_order, is_engine_idle, leaves_boot, needs_fence, has_batch, has_go}
use Rattle.desk_rules.specs.Orders.{orders_waiting, dialogue_word_of, asked_by_effect}
use Rattle.adapter_core.specs.Ends.{is_open}
use Rattle.adapter_core.specs.Trace.{State, Step, IsLawfulStep, state, trace_state_after, situation_of_state, effect, turn_of_event, mid, closed_after, is_gone_after, closing_step_orders, has_ready}
use Rattle.trace_laws.specs.Dialogue.{orders_begin_search}
use Rattle.trace_laws.specs.Values.{asked_for, orders_written, latest, last_order_for, LastAskedStands, SearchesHaveSettings}

-- THE LATEST

latest_none : (x : Option Order) → latest x None ≡ x
latest_none None = refl
latest_none (Some c) = refl

latest_assoc : (x y z : Option Order) → latest (latest x y) z ≡ latest x (latest y z)
latest_assoc None y z = refl
latest_assoc (Some c) y z = refl

abbrev this_one : Order → Order → Option Order
this_one c x = cond (held_for_same c x) (Some x) None

last_append : (c : Order) (xs ys : List Order) → last_order_for c (xs ++ ys) ≡ latest (last_order_for c ys) (last_order_for c xs)
last_append c [] ys = sym (latest_none (last_order_for c ys))
last_append c (x ∷ xs) ys =
    ap (λ (o : Option Order). latest o (this_one c x)) (last_append c xs ys) ∙ latest_assoc (last_order_for c ys) (last_order_for c xs) (this_one c x)

-- ORDERS THAT SET NOTHING

no_slot : (s : Option Slot) → same_slot s None ≡ false
no_slot None = refl
no_slot (Some Game) = refl
no_slot (Some (Setting a)) = refl

none_situation : (c x : Order) → slot_of x ≡ None → this_one c x ≡ None
none_situation c x e = ap (λ (b : Bool). cond b (Some x) None) (ap (same_slot (slot_of c)) e ∙ no_slot (slot_of c))

none_first : (c x : Order) (later : List Order) → slot_of x ≡ None → last_order_for c later ≡ None → last_order_for c (x ∷ later) ≡ None
none_first c x later e n = ap (λ (o : Option Order). latest o (this_one c x)) n ∙ none_situation c x e

plain : (c : Order) (os : List Order) → has_batch (map dialogue_word_of os) ≡ false → last_order_for c os ≡ None
plain c [] b = refl
plain c (orders.NewGame ∷ later) b = cc
plain c (orders.SetOption name value ∷ later) b = cc
plain c (orders.IsReady ∷ later) b = cc
plain c (x ∷ later) b = none_first c x later refl (plain c later b)

unready : (os : List Order) → has_batch (map dialogue_word_of os) ≡ false → has_ready (map dialogue_word_of os) ≡ false
unready [] b = refl
unready (orders.NewGame ∷ later) b = cc
unready (orders.SetOption name value ∷ later) b = cc
unready (orders.IsReady ∷ later) b = cc
unready (x ∷ later) b = unready later b

ready_last : (xs : List Order) → has_ready (map dialogue_word_of (xs ++ orders.IsReady ∷ [])) ≡ true
ready_last [] = refl
ready_last (orders.IsReady ∷ xs) = refl
ready_last (x ∷ xs) = ready_last xs

-- ORDERS THAT JOIN

stays_by : (c order x : Order) (held : List Order) (b : Bool) → held_for_same order x ≡ b → held_for_same c order ≡ false → last_order_for c (held_orders_staying order held) ≡ last_order_for c held
    → last_order_for c (cond (not b) (x ∷ held_orders_staying order held) (held_orders_staying order held)) ≡ last_order_for c (x ∷ held)
stays_by c order x held true e n before =
    before
    ∙ sym (ap (λ (v : Bool). latest (last_order_for c held) (cond v (Some x) None)) (apart (slot_of order) (slot_of c) (slot_of x) e n) ∙ latest_none (last_order_for c held))
stays_by c order x held false e n before = ap (λ (o : Option Order). latest o (this_one c x)) before

staying : (c order : Order) (held : List Order) → held_for_same c order ≡ false → last_order_for c (held_orders_staying order held) ≡ last_order_for c held
staying c order [] n = refl
staying c order (x ∷ held) n = stays_by c order x held (held_for_same order x) refl n (staying c order held n)

with_one : (c : Order) (held : List Order) (order : Order) → last_order_for c (held_list_with held order) ≡ latest (this_one c order) (last_order_for c held)
with_one c held order = last_append c (held_orders_staying order held) (order ∷ []) ∙ by (held_for_same c order) refl where
  by : (b : Bool) → held_for_same c order ≡ b → latest (cond b (Some order) None) (last_order_for c (held_orders_staying order held)) ≡ latest (cond b (Some order) None) (last_order_for c held)
  by true e = refl
  by false e = staying c order held e

with_all : (c : Order) (held asked : List Order) → last_order_for c (with_orders held asked) ≡ latest (last_order_for c asked) (last_order_for c held)
with_all c held [] = refl
with_all c held (order ∷ later) =
    with_all c (held_list_with held order) later ∙ ap (latest (last_order_for c later)) (with_one c held order)
    ∙ sym (latest_assoc (last_order_for c later) (this_one c order) (last_order_for c held))

-- A STEP

module _ (s : State) (step : Step) (l : IsLawfulStep s step) where
  abbrev e : Event
  e = step.event

  abbrev waits : List Order
  waits = orders_waiting (situation_of_state s) s.held (effect s e)

  abbrev HasAll : Order → Type 0
  HasAll c = latest (last_order_for c (trace_state_after s step).held) (last_order_for c step.orders) ≡ last_order_for c waits

  by_plain : (c : Order) → has_batch (map dialogue_word_of step.orders) ≡ false → HasAll c
  by_plain c b =
      ap (latest (last_order_for c (trace_state_after s step).held)) (plain c step.orders b) ∙ latest_none (last_order_for c (trace_state_after s step).held)
      ∙ ap (λ (v : Bool). last_order_for c (cond v [] waits)) (unready step.orders b)

  by_batch : (c : Order) → step.orders ≡ waits ++ orders.IsReady ∷ [] → HasAll c
  by_batch c b =
      ap (λ (v : Bool). latest (last_order_for c (cond v [] waits)) (last_order_for c step.orders)) (ap (λ (os : List Order). has_ready (map dialogue_word_of os)) b ∙ ready_last waits)
      ∙ ap (last_order_for c) b ∙ last_append c waits (orders.IsReady ∷ []) ∙ ap (λ (o : Option Order). latest o (last_order_for c waits)) (none_situation c orders.IsReady refl)

  closing_plain : (gone : Bool) → has_batch (map dialogue_word_of (closing_step_orders gone)) ≡ false
  closing_plain true = refl
  closing_plain false = refl

  by_stage : (c : Order) (opens closed later due : Bool) → is_open e ≡ opens → s.ends.closed ≡ closed → closed_after s e ≡ later → is_due s.dialogue (turn_of_event s e) ≡ due → HasAll c
  by_stage c true closed later due o p q d = by_plain c (ap (λ (os : List Order). has_batch (map dialogue_word_of os)) (l.opens o))
  by_stage c false true later due o p q d = by_plain c (ap (λ (os : List Order). has_batch (map dialogue_word_of os)) (l.closed o p))
  by_stage c false false true due o p q d = by_plain c (ap (λ (os : List Order). has_batch (map dialogue_word_of os)) (l.closes p q) ∙ closing_plain (is_gone_after s e))
  by_stage c false false false true o p q d = by_batch c ((l.settled o q).batch d)
  by_stage c false false false false o p q d = by_plain c ((l.settled o q).words.no_batch d)

  has_all : (c : Order) → HasAll c
  has_all c = by_stage c (is_open e) s.ends.closed (closed_after s e) (is_due s.dialogue (turn_of_event s e)) refl refl refl refl

  -- a step that begins a search leaves nothing held
  searching : (os : List Order) → orders_begin_search os ≡ true → has_go (map dialogue_word_of os) ≡ true
  searching [] b = cc
  searching (orders.Go ponder control depth ∷ later) b = refl
  searching (x ∷ later) b = searching later b

  not_last : (gone : Bool) → orders_begin_search (closing_step_orders gone) ≡ true → ⊥
  not_last true b = cc
  not_last false b = cc

  by_due : (idle leaves empty fence : Bool) → (idle && ((leaves || not empty) || fence)) ≡ false → idle ≡ true → empty ≡ true
  by_due true true empty fence d i = cc
  by_due true false true fence d i = refl
  by_due true false false fence d i = cc
  by_due false leaves empty fence d i = cc

  nothing_waits : (os : List Order) → has_no_order (map dialogue_word_of os) ≡ true → os ≡ []
  nothing_waits [] n = refl
  nothing_waits (x ∷ os) n = cc

  left_none : (b : Bool) (os : List Order) → os ≡ [] → cond b [] os ≡ []
  left_none true os n = refl
  left_none false os n = n

  search_alone : (o : is_open e ≡ false) (q : closed_after s e ≡ false) → is_due s.dialogue (turn_of_event s e) ≡ false → orders_begin_search step.orders ≡ true → (trace_state_after s step).held ≡ []
  search_alone o q d b =
      let words = (l.settled o q).words in
      let g = words.go (searching step.orders b) in
      let m = subst (MaySendAll (mid s e).epoch (mid s e).engine) g.0 words.may_send in
      left_none (has_ready (map dialogue_word_of step.orders)) waits
      (nothing_waits waits (by_due (is_engine_idle (mid s e).engine) (leaves_boot s.dialogue.engine (turn_of_event s e).what) (has_no_order (turn_of_event s e).waiting) (needs_fence (mid s e) (turn_of_event s e)) d (ap is_engine_idle m.0)))

  search_by : (opens closed later due : Bool) → is_open e ≡ opens → s.ends.closed ≡ closed → closed_after s e ≡ later → is_due s.dialogue (turn_of_event s e) ≡ due → orders_begin_search step.orders ≡ true → (trace_state_after s step).held ≡ []
  search_by true closed later due o p q d b = let x = ap orders_begin_search (l.opens o) in cc
  search_by false true later due o p q d b = let x = ap orders_begin_search (l.closed o p) in cc
  search_by false false true due o p q d b = absurd (not_last (is_gone_after s e) (ap orders_begin_search (sym (l.closes p q)) ∙ b))
  search_by false false false true o p q d b =
      ap (λ (v : Bool). cond v [] waits) (ap (λ (os : List Order). has_ready (map dialogue_word_of os)) ((l.settled o q).batch d) ∙ ready_last waits)
  search_by false false false false o p q d b = search_alone o q d b

  none_left : orders_begin_search step.orders ≡ true → (trace_state_after s step).held ≡ []
  none_left b = search_by (is_open e) s.ends.closed (closed_after s e) (is_due s.dialogue (turn_of_event s e)) refl refl refl refl b

-- EACH TRACE

pub last_stands : (o : Settings) → LastAskedStands o
last_stands o [] c l = refl
last_stands o (step ∷ t) c l =
    let s = state o t in
    let asked = asked_by_effect (situation_of_state s) (effect s step.event) in
    let held = (state o (step ∷ t)).held in
    last_append c (orders_written t ++ step.orders) held
    ∙ ap (latest (last_order_for c held)) (last_append c (orders_written t) step.orders)
    ∙ sym (latest_assoc (last_order_for c held) (last_order_for c step.orders) (last_order_for c (orders_written t)))
    ∙ ap (λ (x : Option Order). latest x (last_order_for c (orders_written t))) (has_all s step l.1 c ∙ with_all c s.held asked)
    ∙ latest_assoc (last_order_for c asked) (last_order_for c s.held) (last_order_for c (orders_written t))
    ∙ ap (latest (last_order_for c asked)) (sym (last_append c (orders_written t) s.held) ∙ last_stands o t c l.0)
    ∙ sym (last_append c (asked_for o t) asked)

pub searches_have : (o : Settings) → SearchesHaveSettings o
searches_have o step t c l b =
    let w = orders_written (step ∷ t) in
    ap (last_order_for c) (sym (append-nil w)) ∙ ap (λ (held : List Order). last_order_for c (w ++ held)) (sym (none_left (state o t) step l.1 b))
    ∙ last_stands o (step ∷ t) c l
