-- Orders in a row, in a dialogue.
use Rattle.std.proofs.Common.{◌≡◌, ℕ, zero, suc, List, [], ◌∷◌, ◌++◌, Bool, true, false, not, cond, filter, Option, Some, None, refl, sym, ap, ◌∙◌, true≢false}
use Rattle.std.specs.List.{AllByRecursion}
use Rattle.std.specs.Option.{option_and_then}
use Rattle.engine_revival.specs.Orders.{RevivalOrder}
use Rattle.engine_revival.specs.Orders as orders
use Rattle.engine_revival.specs.declared.words.DialogueState.{DialogueState}
use Rattle.engine_revival.specs.declared.words.DialogueState.TheVariants as upper
use Rattle.engine_revival.specs.Dialogue.{after_hit, after_stop, is_placed}
use Rattle.engine_revival.specs.Steps.{readies}
use Rattle.engine_revival.specs.Lists.{revival_orders_staying, revival_list_with, are_for_same}
use Rattle.engine_revival.specs.Laws.{Open, after_life_order, wire_after_order, all_written, open_or_broken, is_state_search}

-- the dialogue after orders in a row, where each may stand at its place
abbrev pub reporting : List RevivalOrder → DialogueState → Option DialogueState
reporting [] d = Some d
reporting (c ∷ cs) d = option_and_then (reporting cs) (after_life_order c d)

one_written : (c : RevivalOrder) (d next : DialogueState) → after_life_order c d ≡ Some next → wire_after_order c (Open d) ≡ Open next
one_written orders.Quit d next e = absurd (cc)
one_written c d next e = ap open_or_broken e

reported_step : (o : Option DialogueState) (c : RevivalOrder) (cs : List RevivalOrder) (d last : DialogueState) → after_life_order c d ≡ o → option_and_then (reporting cs) o ≡ Some last → ((next : DialogueState) → reporting cs next ≡ Some last → all_written cs (Open next) ≡ Open last) → all_written cs (wire_after_order c (Open d)) ≡ Open last
reported_step None c cs d last e f h = absurd (cc)
reported_step (Some next) c cs d last e f h = ap (all_written cs) (one_written c d next e) ∙ h next f

-- Orders that may stand are written so.
pub reported : (cs : List RevivalOrder) (d last : DialogueState) → reporting cs d ≡ Some last → all_written cs (Open d) ≡ Open last
reported [] d last e = ap Open (some_is d last e)
  where
    some_is : (a b : DialogueState) → Some a ≡ Some b → a ≡ b
    some_is a b e = cc
reported (c ∷ cs) d last e = reported_step (after_life_order c d) c cs d last refl e (λ next. reported cs next last)

-- SETTINGS

abbrev pub is_setup : RevivalOrder → Bool
is_setup (orders.Value name line) = true
is_setup (orders.Button name line) = true
is_setup orders.NewGame = true
is_setup order = false

abbrev pub AreSetups : List RevivalOrder → Type 0
AreSetups list = AllByRecursion (λ c. is_setup c ≡ true) list

setup_stays : (c : RevivalOrder) → is_setup c ≡ true → after_life_order c upper.Idle ≡ Some upper.Idle
setup_stays (orders.Value n v) e = refl
setup_stays (orders.Button n v) e = refl
setup_stays orders.NewGame e = refl
setup_stays c e = absurd (true≢false (sym e))

-- Settings leave an idle engine idle.
pub behind_setups : (unsent more : List RevivalOrder) → AreSetups unsent → reporting (unsent ++ more) upper.Idle ≡ reporting more upper.Idle
behind_setups [] more h = refl
behind_setups (c ∷ cs) more h = ap (option_and_then (reporting (cs ++ more))) (setup_stays c h.0) ∙ behind_setups cs more h.1

-- So does `isready` an engine that is idle or searches.
pub behind_readies : (n : ℕ) (d : DialogueState) (more : List RevivalOrder) → after_life_order orders.IsReady d ≡ Some d → reporting (readies n ++ more) d ≡ reporting more d
behind_readies zero d more e = refl
behind_readies (suc n) d more e = ap (option_and_then (reporting (readies n ++ more))) e ∙ behind_readies n d more e

pub readies_alone : (n : ℕ) (d : DialogueState) → after_life_order orders.IsReady d ≡ Some d → reporting (readies n) d ≡ Some d
readies_alone zero d e = refl
readies_alone (suc n) d e = ap (option_and_then (reporting (readies n))) e ∙ readies_alone n d e

kept_step : (w : Bool) (o : RevivalOrder) (os : List RevivalOrder) → is_setup o ≡ true → AreSetups os → AreSetups (cond w (o ∷ os) os)
kept_step true o os h k = (h, k)
kept_step false o os h k = k

kept : (test : RevivalOrder → Bool) (os : List RevivalOrder) → AreSetups os → AreSetups (filter test os)
kept test [] h = tt
kept test (o ∷ os) h = kept_step (test o) o (filter test os) h.0 (kept test os h.1)

one_more : (os : List RevivalOrder) (o : RevivalOrder) → AreSetups os → is_setup o ≡ true → AreSetups (os ++ o ∷ [])
one_more [] o h k = (k, tt)
one_more (p ∷ os) o h k = (h.0, one_more os o h.1 k)

pub with_setup : (list : List RevivalOrder) (order : RevivalOrder) → AreSetups list → is_setup order ≡ true → AreSetups (revival_list_with list order)
with_setup list order h k = one_more (revival_orders_staying order list) order (kept (λ o. not (are_for_same order o)) list h) k

-- THE ORDERS OF A SEARCH

abbrev pub is_open : DialogueState → Bool
is_open upper.Placed = true
is_open (upper.Search kind stopped) = true
is_open state = false

-- The orders of the open search lead to the state that it is in.
abbrev pub SearchIs : DialogueState → List RevivalOrder → Type 0
SearchIs u search = is_open u ≡ true → reporting search upper.Idle ≡ Some u

last_step : (o : Option DialogueState) (c : RevivalOrder) (cs : List RevivalOrder) → ((next : DialogueState) → reporting (cs ++ c ∷ []) next ≡ option_and_then (after_life_order c) (reporting cs next)) → option_and_then (reporting (cs ++ c ∷ [])) o ≡ option_and_then (after_life_order c) (option_and_then (reporting cs) o)
last_step None c cs h = refl
last_step (Some next) c cs h = h next

nothing_more : (o : Option DialogueState) → option_and_then (λ d. Some d) o ≡ o
nothing_more None = refl
nothing_more (Some d) = refl

pub reporting_last : (cs : List RevivalOrder) (c : RevivalOrder) (d : DialogueState) → reporting (cs ++ c ∷ []) d ≡ option_and_then (after_life_order c) (reporting cs d)
reporting_last [] c d = nothing_more (after_life_order c d)
reporting_last (x ∷ xs) c d = last_step (after_life_order x d) c xs (λ next. reporting_last xs c next)

-- one more order of the open search
pub search_more : (u up : DialogueState) (search : List RevivalOrder) (c : RevivalOrder) → is_open u ≡ true → after_life_order c u ≡ Some up → SearchIs u search → SearchIs up (search ++ c ∷ [])
search_more u up search c o e h = λ open_up. reporting_last search c upper.Idle ∙ ap (option_and_then (after_life_order c)) (h o) ∙ e

pub hit_open : (u up : DialogueState) → after_hit u ≡ Some up → is_state_search u ≡ true
hit_open upper.Before up e = absurd (cc)
hit_open upper.Boot up e = absurd (cc)
hit_open upper.Idle up e = absurd (cc)
hit_open upper.Placed up e = absurd (cc)
hit_open (upper.Search k b) up e = refl

pub stop_open : (u up : DialogueState) → after_stop u ≡ Some up → is_state_search u ≡ true
stop_open upper.Before up e = absurd (cc)
stop_open upper.Boot up e = absurd (cc)
stop_open upper.Idle up e = absurd (cc)
stop_open upper.Placed up e = absurd (cc)
stop_open (upper.Search k b) up e = refl

pub search_open : (u : DialogueState) → is_state_search u ≡ true → is_open u ≡ true
search_open upper.Before e = absurd (true≢false (sym e))
search_open upper.Boot e = absurd (true≢false (sym e))
search_open upper.Idle e = absurd (true≢false (sym e))
search_open upper.Placed e = absurd (true≢false (sym e))
search_open (upper.Search k b) e = refl

pub placed_open : (u : DialogueState) → is_placed u ≡ true → is_open u ≡ true
placed_open upper.Before e = absurd (true≢false (sym e))
placed_open upper.Boot e = absurd (true≢false (sym e))
placed_open upper.Idle e = absurd (true≢false (sym e))
placed_open upper.Placed e = refl
placed_open (upper.Search k b) e = absurd (true≢false (sym e))
