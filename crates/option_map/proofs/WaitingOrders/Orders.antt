-- The facts of orders that are held once others were asked for.
use Rattle.std.proofs.Common.{◌≡◌, ℕ, List, [], ◌∷◌, ◌++◌, Bool, true, false, not, cond, filter, Option, Some, None, Contains, refl, sym, ap, subst, ◌∙◌, arith, true≢false, get_or, zero, suc, ◌<◌, inl, inr}
use Rattle.std.proofs.lemmas.List.Elements.{filter-append, Contains-append_left, Contains-append_right, Contains-append_cases}
use Rattle.std.proofs.lemmas.Slice.Eq.{bytes_eq-Decides}
use Rattle.std.specs.List.{AllByRecursion}
use Rattle.std.specs.Str.{bytes_eq}
use Rattle.std.proofs.lemmas.Bool.{and_parts, not-true}
use Rattle.uci_lines.specs.Orders.{Order}
use Rattle.uci_lines.specs.OrderReading.{is_writable_order}
use Rattle.uci_lines.proofs.Spelling.{order_again}
use Rattle.option_map.specs.WaitingOrders.Held.{Slot, Game, Setting, same_slot, slot_of, held_for_same, held_orders_staying, held_list_with, with_orders, none_for, HoldsLast, Stays, StayOrders, OrderReadsBack}
use Rattle.option_map.specs.DeclaredOptions.Spelled.{OrderIsSpelled, StaySpelled}

pub reads_back : OrderReadsBack
reads_back order h = order_again order h

-- WHAT HOLDS OF EACH ORDER STAYS

kept_step : (P : Order → Type 0) (w : Bool) (o : Order) (os : List Order) → P o → AllByRecursion P os → AllByRecursion P (cond w (o ∷ os) os)
kept_step P true o os h k = (h, k)
kept_step P false o os h k = k

kept : (P : Order → Type 0) (test : Order → Bool) (os : List Order) → AllByRecursion P os → AllByRecursion P (filter test os)
kept P test [] h = tt
kept P test (o ∷ os) h = kept_step P (test o) o (filter test os) h.0 (kept P test os h.1)

one_more : (P : Order → Type 0) (os : List Order) (o : Order) → AllByRecursion P os → P o → AllByRecursion P (os ++ o ∷ [])
one_more P [] o h k = (k, tt)
one_more P (p ∷ os) o h k = (h.0, one_more P os o h.1 k)

with_one : (P : Order → Type 0) (held : List Order) (order : Order) → AllByRecursion P held → P order → AllByRecursion P (held_list_with held order)
with_one P held order h k = one_more P (filter (λ o. not (held_for_same order o)) held) order (kept P (λ o. not (held_for_same order o)) held h) k

pub all_stay : (P : Order → Type 0) (held asked : List Order) → AllByRecursion P held → AllByRecursion P asked → AllByRecursion P (with_orders held asked)
all_stay P held [] h k = h
all_stay P held (order ∷ later) h k = all_stay P (held_list_with held order) later (with_one P held order h k.0) k.1

pub stay_orders : StayOrders
stay_orders held asked h k = all_stay (λ o. is_writable_order o ≡ true) held asked h k

pub stay_spelled : StaySpelled
stay_spelled most held asked h k = all_stay (OrderIsSpelled most) held asked h k

-- THE LAST ORDERS

same_bytes : (a b : List ℕ) → bytes_eq a b ≡ true → a ≡ b
same_bytes a b h = (bytes_eq-Decides a b).0 h

same_by : (a b : List ℕ) (v w : Bool) → bytes_eq a b ≡ v → bytes_eq b a ≡ w → v ≡ w
same_by a b true true e f = refl
same_by a b false false e f = refl
same_by a b true false e f = absurd (true≢false (sym ((bytes_eq-Decides b a).1 (sym (same_bytes a b e))) ∙ f))
same_by a b false true e f = absurd (true≢false (sym ((bytes_eq-Decides a b).1 (sym (same_bytes b a f))) ∙ e))

pub same_turned : (a b : Option Slot) → same_slot a b ≡ same_slot b a
same_turned None None = refl
same_turned None (Some Game) = refl
same_turned None (Some (Setting b)) = refl
same_turned (Some Game) None = refl
same_turned (Some Game) (Some Game) = refl
same_turned (Some Game) (Some (Setting b)) = refl
same_turned (Some (Setting a)) None = refl
same_turned (Some (Setting a)) (Some Game) = refl
same_turned (Some (Setting a)) (Some (Setting b)) = same_by a b (bytes_eq a b) (bytes_eq b a) refl refl

-- A slot for the same as one line is not for the same as another.
pub apart : (x y l : Option Slot) → same_slot x l ≡ true → same_slot y x ≡ false → same_slot y l ≡ false
apart None y l h k = absurd (true≢false (sym h))
apart (Some Game) y None h k = absurd (true≢false (sym h))
apart (Some Game) y (Some Game) h k = k
apart (Some Game) y (Some (Setting b)) h k = absurd (true≢false (sym h))
apart (Some (Setting a)) y None h k = absurd (true≢false (sym h))
apart (Some (Setting a)) y (Some Game) h k = absurd (true≢false (sym h))
apart (Some (Setting a)) y (Some (Setting b)) h k = subst (λ (t : List ℕ). same_slot y (Some (Setting t)) ≡ false) (same_bytes a b h) k

through_step : (p q : Bool) (l : Order) (a b : List Order) (test : Order → Bool) → test l ≡ p → (p ≡ true → q ≡ true) → filter test a ≡ b → filter test (cond q (l ∷ a) a) ≡ cond p (l ∷ b) b
through_step true true l a b test e h f = ap (λ w. cond w (l ∷ filter test a) (filter test a)) e ∙ ap (λ (t : List Order). l ∷ t) f
through_step true false l a b test e h f = absurd (true≢false (sym (h refl)))
through_step false true l a b test e h f = ap (λ w. cond w (l ∷ filter test a) (filter test a)) e ∙ f
through_step false false l a b test e h f = f

filter_through : (p q : Order → Bool) → ((l : Order) → p l ≡ true → q l ≡ true) → (ls : List Order) → filter p (filter q ls) ≡ filter p ls
filter_through p q h [] = refl
filter_through p q h (l ∷ ls) = through_step (p l) (q l) l (filter q ls) (filter p ls) p refl (h l) (filter_through p q h ls)

none_step : (w : Bool) (l : Order) (a : List Order) (test : Order → Bool) → test l ≡ w → filter test a ≡ [] → filter test (cond (not w) (l ∷ a) a) ≡ []
none_step true l a test e h = h
none_step false l a test e h = ap (λ w. cond w (l ∷ filter test a) (filter test a)) e ∙ h

filter_none : (p : Order → Bool) (ls : List Order) → filter p (filter (λ l. not (p l)) ls) ≡ []
filter_none p [] = refl
filter_none p (l ∷ ls) = none_step (p l) l (filter (λ x. not (p x)) ls) p refl (filter_none p ls)

-- the only line for the same stays, where another is asked for
only_step : (held : List Order) (x y : Order) → held_for_same y x ≡ false → filter (held_for_same x) held ≡ x ∷ [] → filter (held_for_same x) (held_list_with held y) ≡ x ∷ []
only_step held x y h only =
    let other : held_for_same x y ≡ false = same_turned (slot_of x) (slot_of y) ∙ h in
    let stays : filter (held_for_same x) (held_orders_staying y held) ≡ filter (held_for_same x) held =
    filter_through (held_for_same x) (λ l. not (held_for_same y l)) (λ l e. ap not (apart (slot_of x) (slot_of y) (slot_of l) e h)) held in
    filter-append (held_for_same x) (held_orders_staying y held) (y ∷ [])
    ∙ ap (λ (ls : List Order). ls ++ filter (held_for_same x) (y ∷ [])) (stays ∙ only)
    ∙ ap (λ w. (x ∷ []) ++ cond w (y ∷ []) []) other

only_after : (held later : List Order) (x : Order) → filter (held_for_same x) held ≡ x ∷ [] → none_for x later ≡ true → filter (held_for_same x) (with_orders held later) ≡ x ∷ []
only_after held [] x only h = only
only_after held (y ∷ later) x only h =
    let p = and_parts (not (held_for_same y x)) (none_for x later) h in
    only_after (held_list_with held y) later x (only_step held x y (not-true (held_for_same y x) p.0) only) p.1

pub last_held : HoldsLast
last_held held later asked own none =
    only_after (held_list_with held asked) later asked
    (filter-append (held_for_same asked) (held_orders_staying asked held) (asked ∷ [])
    ∙ ap (λ (ls : List Order). ls ++ filter (held_for_same asked) (asked ∷ [])) (filter_none (held_for_same asked) held)
    ∙ ap (λ w. cond w (asked ∷ []) []) own)
    none

-- WHAT STAYS

one_is : (l x : Order) (k : ℕ) → k < 1 → get_or (l ∷ []) k x ≡ x → l ≡ x
one_is l x zero h e = e
one_is l x (suc k) h e = absurd (omega (arith, h))

here_step : (w : Bool) (l x : Order) (ls : List Order) → w ≡ true → Contains (l ∷ []) x → Contains (cond w (l ∷ ls) ls) x
here_step true l x ls e h = Contains-append_left (l ∷ []) ls x h
here_step false l x ls e h = absurd (true≢false (sym e))

later_step : (w : Bool) (l x : Order) (ls : List Order) → Contains ls x → Contains (cond w (l ∷ ls) ls) x
later_step true l x ls h = Contains-append_right (l ∷ []) ls x h
later_step false l x ls h = h

contains_kept : (p : Order → Bool) (ls : List Order) (x : Order) → Contains ls x → p x ≡ true → Contains (filter p ls) x
contains_kept p [] x h e = absurd (omega (arith, h.1))
contains_kept p (l ∷ ls) x h e =
    elim (Contains-append_cases (l ∷ []) ls x h) [
      | inl here ↦ here_step (p l) l x (filter p ls) (ap p (one_is l x here.0 here.1 here.2) ∙ e) here
      | inr there ↦ later_step (p l) l x (filter p ls) (contains_kept p ls x there e)
    ]

pub stays_held : Stays
stays_held held [] x h none = h
stays_held held (y ∷ later) x h none =
    let p = and_parts (not (held_for_same y x)) (none_for x later) none in
    stays_held (held_list_with held y) later x (Contains-append_left (held_orders_staying y held) (y ∷ []) x (contains_kept (λ l. not (held_for_same y l)) held x h p.0)) p.1
