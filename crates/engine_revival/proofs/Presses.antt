-- Buttons and new games go to the life that they came to.
use Rattle.std.proofs.Common.{◌≡◌, ◌&&◌, ℕ, zero, suc, List, [], ◌∷◌, ◌++◌, Bool, true, false, not, cond, Option, Some, None, refl, sym, ap, ◌∙◌, subst, true≢false, if◌then◌else◌}
use Rattle.std.proofs.lemmas.Bool.{not-false}
use Rattle.protocol_tokens.specs.Quit.{is_quit}
use Rattle.engine_revival.specs.Orders.{RevivalOrder as AnyOrder, are_same_names}
use Rattle.engine_revival.specs.Orders as orders
use Rattle.engine_revival.specs.Asked.{order_of_line}
use Rattle.engine_revival.specs.declared.words.DialogueState.{DialogueState}
use Rattle.engine_revival.specs.declared.words.LifeState.{LifeState}
use Rattle.engine_revival.specs.declared.words.LifeState.TheVariants as life
use Rattle.engine_revival.specs.declared.words.DueOrders.{DueOrders}
use Rattle.engine_revival.specs.declared.words.DueOrders.TheVariants as due
use Rattle.engine_revival.specs.declared.words.StandInAnswer.{StandInAnswer}
use Rattle.engine_revival.specs.declared.words.StandInAnswer.TheVariants as answers
use Rattle.engine_revival.specs.declared.state.RevivalState.{RevivalState}
use Rattle.engine_revival.specs.Dialogue.{is_before}
use Rattle.engine_revival.specs.Lists.{are_for_same, revival_orders_staying, revival_list_with, revival_order_can_join}
use Rattle.engine_revival.specs.Steps.{revival_with_value, with_button, takes_at_once, is_served, due_orders, readies, after_due, after_answer, state_if_accepted, upper_if_accepted, state_after_reading, with_quit, accepted_at_once, read_at_once, quit_to, first_order, due_of, answer_of, state_once_settled, settled_orders, after_at_once}
use Rattle.engine_revival.specs.Calls.{RevivalCall, Order, Heard, Ended, Begin, Over, state_after_call, first_orders, revival_after}
use Rattle.engine_revival.specs.Laws.{revival_state_of, later_or, accepted_by, accepted_read, accepted_in, accepted_in_life, orders_in_same_life, gives_settings, is_press, last_revival_order_for, life_orders, same_order, PressesAreGiven}
use Rattle.engine_revival.proofs.Values.{append_regrouped, as_it_comes, later_assoc, later_none, nil_behind, same_names, settled_full, turned_full}

-- OF LISTS

none_if : (b : Bool) (o : AnyOrder) → b ≡ false → (if b then Some o else None) ≡ None
none_if true o e = absurd (true≢false e)
none_if false o e = refl

-- a press is for the same as a press alone
unlike : (c d : AnyOrder) → is_press c ≡ true → is_press d ≡ false → are_for_same c d ≡ false
unlike orders.NewGame orders.NewGame p e = absurd (true≢false e)
unlike orders.NewGame d p e = refl
unlike (orders.Button n x) (orders.Button m y) p e = absurd (true≢false e)
unlike (orders.Button n x) d p e = refl
unlike c d p e = absurd (true≢false (sym p))

unpressed : (c d : AnyOrder) → is_press c ≡ true → is_press d ≡ false → same_order c d ≡ None
unpressed c d p e = none_if (are_for_same c d) d (unlike c d p e)

behind : (c : AnyOrder) (xs ys : List AnyOrder) → last_revival_order_for c (xs ++ ys) ≡ later_or (last_revival_order_for c ys) (last_revival_order_for c xs)
behind c [] ys = sym (later_none (last_revival_order_for c ys))
behind c (x ∷ xs) ys = ap (λ (o : Option AnyOrder). later_or o (same_order c x)) (behind c xs ys) ∙ later_assoc (last_revival_order_for c ys) (last_revival_order_for c xs) (same_order c x)

none_behind : (c : AnyOrder) (xs ys : List AnyOrder) → last_revival_order_for c ys ≡ None → last_revival_order_for c (xs ++ ys) ≡ last_revival_order_for c xs
none_behind c xs ys e = behind c xs ys ∙ ap (λ (o : Option AnyOrder). later_or o (last_revival_order_for c xs)) e

plain : (c : AnyOrder) (xs : List AnyOrder) (d : AnyOrder) → same_order c d ≡ None → last_revival_order_for c (xs ++ d ∷ []) ≡ last_revival_order_for c xs
plain c xs d e = none_behind c xs (d ∷ []) e

-- an order for the same as one that is not for the same as this one is not either
apart_game : (d o : AnyOrder) → are_for_same orders.NewGame d ≡ false → are_for_same d o ≡ true → are_for_same orders.NewGame o ≡ false
apart_game orders.NewGame orders.NewGame e h = absurd (true≢false e)
apart_game d orders.NewGame e h = absurd (true≢false (sym h))
apart_game d o e h = refl

apart_button : (n : List (List ℕ)) (x : List ℕ) (d o : AnyOrder) → are_for_same (orders.Button n x) d ≡ false → are_for_same d o ≡ true → are_for_same (orders.Button n x) o ≡ false
apart_button n x (orders.Button k v) (orders.Button m w) e h = subst (λ (t : List (List ℕ)). are_same_names n t ≡ false) (same_names k m h) e
apart_button n x d (orders.Button m w) e h = absurd (true≢false (sym h))
apart_button n x d o e h = refl

apart : (c d o : AnyOrder) → is_press c ≡ true → are_for_same c d ≡ false → are_for_same d o ≡ true → are_for_same c o ≡ false
apart orders.NewGame d o p e h = apart_game d o e h
apart (orders.Button n x) d o p e h = apart_button n x d o e h
apart c d o p e h = absurd (true≢false (sym p))

stay_step : (w : Bool) (c o : AnyOrder) (kept os : List AnyOrder) → (w ≡ false → are_for_same c o ≡ false) → last_revival_order_for c kept ≡ last_revival_order_for c os → last_revival_order_for c (cond w (o ∷ kept) kept) ≡ last_revival_order_for c (o ∷ os)
stay_step true c o kept os h e = ap (λ (x : Option AnyOrder). later_or x (same_order c o)) e
stay_step false c o kept os h e = e ∙ sym (ap (later_or (last_revival_order_for c os)) (none_if (are_for_same c o) o (h refl)) ∙ later_none (last_revival_order_for c os))

stays : (c d : AnyOrder) (os : List AnyOrder) → is_press c ≡ true → are_for_same c d ≡ false → last_revival_order_for c (revival_orders_staying d os) ≡ last_revival_order_for c os
stays c d [] p e = refl
stays c d (o ∷ os) p e = stay_step (not (are_for_same d o)) c o (revival_orders_staying d os) os (λ f. apart c d o p e (not-false (are_for_same d o) f)) (stays c d os p e)

joins_by : (w : Bool) (c d : AnyOrder) (os : List AnyOrder) → is_press c ≡ true → are_for_same c d ≡ w
    → later_or (if w then Some d else None) (last_revival_order_for c (revival_orders_staying d os)) ≡ later_or (if w then Some d else None) (last_revival_order_for c os)
joins_by true c d os p e = refl
joins_by false c d os p e = stays c d os p e

-- an order that joins is the last that is for the same
joins : (c : AnyOrder) (os : List AnyOrder) (d : AnyOrder) → is_press c ≡ true → last_revival_order_for c (revival_list_with os d) ≡ later_or (same_order c d) (last_revival_order_for c os)
joins c os d p = behind c (revival_orders_staying d os) (d ∷ []) ∙ joins_by (are_for_same c d) c d os p refl

-- THE STATE

-- of these orders to the life and these that were accepted since it began
record Presses (c : AnyOrder) (s : RevivalState) (l a : List AnyOrder) : Type 0 where
  kept : last_revival_order_for c s.kept ≡ None
  unsent : later_or (last_revival_order_for c s.unsent) (last_revival_order_for c l) ≡ last_revival_order_for c a
  search : last_revival_order_for c s.search ≡ None

-- the orders that are written as they come
comes_plain : (l : LifeState) (d : AnyOrder) → takes_at_once l d ≡ true → is_press d ≡ false
comes_plain life.Fresh orders.NewGame e = absurd (true≢false (sym e))
comes_plain l orders.NewGame e = absurd (true≢false (sym e))
comes_plain life.Fresh (orders.Button n m) e = absurd (true≢false (sym e))
comes_plain l (orders.Button n m) e = absurd (true≢false (sym e))
comes_plain l d e = refl

none_by : (w : Bool) (c d : AnyOrder) → (w ≡ true → same_order c d ≡ None) → last_revival_order_for c (if w then d ∷ [] else []) ≡ None
none_by true c d h = h refl
none_by false c d h = refl

comes_none : (c : AnyOrder) (l : LifeState) (d : AnyOrder) → is_press c ≡ true → last_revival_order_for c (as_it_comes l d) ≡ None
comes_none c l d p = none_by (takes_at_once l d) c d (λ e. unpressed c d p (comes_plain l d e))

-- orders of the life that press nothing, and accepted orders as they were
quiet : (c : AnyOrder) (s t : RevivalState) (l a more : List AnyOrder) → t.kept ≡ s.kept → t.unsent ≡ s.unsent → last_revival_order_for c t.search ≡ None → last_revival_order_for c more ≡ None → Presses c s l a → Presses c t (l ++ more) a
quiet c s t l a more k u e n h = record {
  kept = ap (last_revival_order_for c) k ∙ h.kept;
  unsent = ap (λ (x : List AnyOrder). later_or (last_revival_order_for c x) (last_revival_order_for c (l ++ more))) u ∙ ap (later_or (last_revival_order_for c s.unsent)) (none_behind c l more n) ∙ h.unsent;
  search = e;
}

-- an accepted order that joins no setting
other : (c : AnyOrder) (s t : RevivalState) (l a more : List AnyOrder) (d : AnyOrder) → same_order c d ≡ None → t.kept ≡ s.kept → t.unsent ≡ s.unsent → last_revival_order_for c t.search ≡ None → last_revival_order_for c more ≡ None → Presses c s l a → Presses c t (l ++ more) (a ++ d ∷ [])
other c s t l a more d e k u x n h =
    let q = quiet c s t l a more k u x n h in
    record { kept = q.kept; unsent = q.unsent ∙ sym (plain c a d e); search = q.search }

-- an order that joins the unsent ones
joined : (c : AnyOrder) (s t : RevivalState) (l a more : List AnyOrder) (d : AnyOrder) → is_press c ≡ true → last_revival_order_for c t.kept ≡ None → t.unsent ≡ revival_list_with s.unsent d → t.search ≡ s.search → last_revival_order_for c more ≡ None → Presses c s l a → Presses c t (l ++ more) (a ++ d ∷ [])
joined c s t l a more d p k u x n h = record {
  kept = k;
  unsent =
      ap (λ (o : List AnyOrder). later_or (last_revival_order_for c o) (last_revival_order_for c (l ++ more))) u
      ∙ ap (λ (o : Option AnyOrder). later_or o (last_revival_order_for c (l ++ more))) (joins c s.unsent d p)
      ∙ later_assoc (same_order c d) (last_revival_order_for c s.unsent) (last_revival_order_for c (l ++ more))
      ∙ ap (λ (o : Option AnyOrder). later_or (same_order c d) (later_or (last_revival_order_for c s.unsent) o)) (none_behind c l more n)
      ∙ ap (later_or (same_order c d)) h.unsent
      ∙ sym (behind c a (d ∷ []));
  search = ap (last_revival_order_for c) x ∙ h.search;
}

value_step : (w : Bool) (c : AnyOrder) (s : RevivalState) (l a : List AnyOrder) (d : AnyOrder) (up : DialogueState) (x : LifeState) (more : List AnyOrder) → is_press c ≡ true → is_press d ≡ false → (revival_with_value w s d).full ≡ false → last_revival_order_for c more ≡ None → Presses c s l a
    → Presses c (record (revival_with_value w s d) { upper = up; life = x }) (l ++ more) (a ++ d ∷ [])
value_step true c s l a d up x more p e f n h =
    joined c s (record (revival_with_value true s d) { upper = up; life = x }) l a more d p
    (joins c s.kept d p ∙ ap (λ (o : Option AnyOrder). later_or o (last_revival_order_for c s.kept)) (unpressed c d p e) ∙ h.kept) refl refl n h
value_step false c s l a d up x more p e f n h = absurd (true≢false f)

button_step : (w : Bool) (c : AnyOrder) (s : RevivalState) (l a : List AnyOrder) (d : AnyOrder) (up : DialogueState) (x : LifeState) (more : List AnyOrder) → is_press c ≡ true → (with_button w s d).full ≡ false → last_revival_order_for c more ≡ None → Presses c s l a
    → Presses c (record (with_button w s d) { upper = up; life = x }) (l ++ more) (a ++ d ∷ [])
button_step true c s l a d up x more p f n h = joined c s (record (with_button true s d) { upper = up; life = x }) l a more d p h.kept refl refl n h
button_step false c s l a d up x more p f n h = absurd (true≢false f)

in_search : (c : AnyOrder) (search : List AnyOrder) (d : AnyOrder) → same_order c d ≡ None → last_revival_order_for c search ≡ None → last_revival_order_for c (search ++ d ∷ []) ≡ None
in_search c search d e h = plain c search d e ∙ h

accepting_presses : (c : AnyOrder) (s : RevivalState) (l a : List AnyOrder) (d : AnyOrder) (up : DialogueState) → is_press c ≡ true → (state_if_accepted (Some up) s d).full ≡ false → Presses c s l a → Presses c (state_if_accepted (Some up) s d) (l ++ as_it_comes s.life d) (a ++ d ∷ [])
accepting_presses c s l a orders.NewGame up p f h = joined c s (state_if_accepted (Some up) s orders.NewGame) l a (as_it_comes s.life orders.NewGame) orders.NewGame p h.kept refl refl (comes_none c s.life orders.NewGame p) h
accepting_presses c s l a orders.Stop up p f h =
    let e = unpressed c orders.Stop p refl in
    other c s (state_if_accepted (Some up) s orders.Stop) l a (as_it_comes s.life orders.Stop) orders.Stop e refl refl (in_search c s.search orders.Stop e h.search) (comes_none c s.life orders.Stop p) h
accepting_presses c s l a orders.PonderHit up p f h =
    let e = unpressed c orders.PonderHit p refl in
    other c s (state_if_accepted (Some up) s orders.PonderHit) l a (as_it_comes s.life orders.PonderHit) orders.PonderHit e refl refl (in_search c s.search orders.PonderHit e h.search) (comes_none c s.life orders.PonderHit p) h
accepting_presses c s l a (orders.Button n v) up p f h =
    let d = orders.Button n v in
    button_step (revival_order_can_join s.unsent d) c s l a d up (after_at_once s.life d) (as_it_comes s.life d) p f (comes_none c s.life d p) h
accepting_presses c s l a (orders.Value n v) up p f h =
    let d = orders.Value n v in
    value_step (revival_order_can_join s.kept d && revival_order_can_join s.unsent d) c s l a d up (after_at_once s.life d) (as_it_comes s.life d) p refl f (comes_none c s.life d p) h
accepting_presses c s l a (orders.Position q) up p f h =
    let d = orders.Position q in
    let e = unpressed c d p refl in
    other c s (state_if_accepted (Some up) s d) l a (as_it_comes s.life d) d e refl refl e (comes_none c s.life d p) h
accepting_presses c s l a (orders.Go k q) up p f h =
    let d = orders.Go k q in
    let e = unpressed c d p refl in
    other c s (state_if_accepted (Some up) s d) l a (as_it_comes s.life d) d e refl refl (in_search c s.search d e h.search) (comes_none c s.life d p) h
accepting_presses c s l a d up p f h = other c s (state_if_accepted (Some up) s d) l a (as_it_comes s.life d) d (unpressed c d p refl) refl refl h.search (comes_none c s.life d p) h

same_nil : (c : AnyOrder) (t : RevivalState) (l a : List AnyOrder) → Presses c t l a → Presses c t (l ++ []) (a ++ [])
same_nil c t l a h = subst (λ (x : List AnyOrder). Presses c t x (a ++ [])) (sym (nil_behind l)) (subst (λ (x : List AnyOrder). Presses c t l x) (sym (nil_behind a)) h)

accepted_presses : (c : AnyOrder) (s : RevivalState) (l a : List AnyOrder) (d : AnyOrder) (o : Option DialogueState) → is_press c ≡ true → (state_if_accepted o s d).full ≡ false → Presses c s l a → Presses c (state_if_accepted o s d) (l ++ accepted_at_once o s.life d) (a ++ accepted_by o d)
accepted_presses c s l a d None p f h = same_nil c s l a h
accepted_presses c s l a d (Some up) p f h = accepting_presses c s l a d up p f h

reading_presses : (c : AnyOrder) (s : RevivalState) (l a : List AnyOrder) (o : Option AnyOrder) → is_press c ≡ true → (state_after_reading s o).full ≡ false → Presses c s l a → Presses c (state_after_reading s o) (l ++ read_at_once s o) (a ++ accepted_read s o)
reading_presses c s l a None p f h = same_nil c s l a h
reading_presses c s l a (Some d) p f h = accepted_presses c s l a d (upper_if_accepted s d) p f h

to_a : (c : AnyOrder) (t : RevivalState) (l a : List AnyOrder) → Presses c t l a → Presses c t l (a ++ [])
to_a c t l a h = subst (λ (x : List AnyOrder). Presses c t l x) (sym (nil_behind a)) h

ordering_presses : (c : AnyOrder) (s : RevivalState) (l a : List AnyOrder) (line : List ℕ) (q : Bool) → is_press c ≡ true → (if q then with_quit s else state_after_reading s (order_of_line line)).full ≡ false → Presses c s l a
    → Presses c (if q then with_quit s else state_after_reading s (order_of_line line)) (l ++ (if q then quit_to s.quit s.life else read_at_once s (order_of_line line))) (a ++ (if q then [] else accepted_read s (order_of_line line)))
ordering_presses c s l a line true p f h =
    to_a c (with_quit s) (l ++ quit_to s.quit s.life) a (quiet c s (with_quit s) l a (quit_to s.quit s.life) refl refl h.search (none_by (not s.quit && is_served s.life) c orders.Quit (λ e. unpressed c orders.Quit p refl)) h)
ordering_presses c s l a line false p f h = reading_presses c s l a (order_of_line line) p f h

first_none : (c : AnyOrder) (w : Bool) → is_press c ≡ true → last_revival_order_for c (if w then [] else orders.Uci ∷ []) ≡ None
first_none c true p = refl
first_none c false p = unpressed c orders.Uci p refl

turned_presses : (c : AnyOrder) (s : RevivalState) (call : RevivalCall) (l a : List AnyOrder) → is_press c ≡ true → (state_after_call s call).full ≡ false → Presses c s l a → Presses c (state_after_call s call) (orders_in_same_life call l ++ first_orders s call) (orders_in_same_life call a ++ accepted_in s call)
turned_presses c s (Order line) l a p f h = ordering_presses c s l a line (is_quit line) p f h
turned_presses c s (Heard line) l a p f h = to_a c (state_after_call s (Heard line)) (l ++ []) a (quiet c s (state_after_call s (Heard line)) l a [] refl refl h.search refl h)
turned_presses c s Ended l a p f h = to_a c (state_after_call s Ended) (l ++ []) a (quiet c s (state_after_call s Ended) l a [] refl refl h.search refl h)
turned_presses c s Begin l a p f h = record {
  kept = h.kept;
  unsent = ap (λ (o : Option AnyOrder). later_or o (last_revival_order_for c (first_order s.upper))) h.kept ∙ first_none c (is_before s.upper) p;
  search = h.search;
}
turned_presses c s Over l a p f h = to_a c (state_after_call s Over) (l ++ []) a (quiet c s (state_after_call s Over) l a [] refl refl h.search refl h)

-- WHAT FOLLOWS

answered_presses : (c : AnyOrder) (w : StandInAnswer) (t : RevivalState) (l a : List AnyOrder) → Presses c t l a → Presses c (after_answer w t) l a
answered_presses c answers.Nothing t l a h = h
answered_presses c answers.UciOk t l a h = record { kept = h.kept; unsent = h.unsent; search = h.search }
answered_presses c answers.ReadyOk t l a h = record { kept = h.kept; unsent = h.unsent; search = h.search }
answered_presses c answers.NoMove t l a h = record { kept = h.kept; unsent = h.unsent; search = h.search }

readies_none : (c : AnyOrder) (n : ℕ) → is_press c ≡ true → last_revival_order_for c (readies n) ≡ None
readies_none c zero p = refl
readies_none c (suc n) p = ap (λ (o : Option AnyOrder). later_or o (same_order c orders.IsReady)) (readies_none c n p) ∙ unpressed c orders.IsReady p refl

behind_readies : (c : AnyOrder) (n : ℕ) (r : List AnyOrder) → is_press c ≡ true → last_revival_order_for c r ≡ None → last_revival_order_for c (readies n ++ r) ≡ None
behind_readies c n r p e = behind c (readies n) r ∙ ap (later_or (last_revival_order_for c r)) (readies_none c n p) ∙ later_none (last_revival_order_for c r) ∙ e

all_sent : (c : AnyOrder) (l u r : List AnyOrder) → last_revival_order_for c r ≡ None → last_revival_order_for c (l ++ (u ++ r)) ≡ later_or (last_revival_order_for c u) (last_revival_order_for c l)
all_sent c l u r e = behind c l (u ++ r) ∙ ap (λ (o : Option AnyOrder). later_or o (last_revival_order_for c l)) (none_behind c u r e)

due_presses : (c : AnyOrder) (d : DueOrders) (t : RevivalState) (l a : List AnyOrder) → is_press c ≡ true → Presses c t l a → Presses c (after_due d t) (l ++ due_orders d t.unsent t.held_ready t.search) a
due_presses c due.Nothing t l a p h = subst (λ (x : List AnyOrder). Presses c t x a) (sym (nil_behind l)) h
due_presses c due.Settings t l a p h = record { kept = h.kept; unsent = all_sent c l t.unsent (readies t.held_ready) (readies_none c t.held_ready p) ∙ h.unsent; search = h.search }
due_presses c due.Search t l a p h = record { kept = h.kept; unsent = all_sent c l t.unsent (readies t.held_ready ++ t.search) (behind_readies c t.held_ready t.search p h.search) ∙ h.unsent; search = h.search }

settled_presses : (c : AnyOrder) (t : RevivalState) (l a : List AnyOrder) → is_press c ≡ true → Presses c t l a → Presses c (state_once_settled t) (l ++ settled_orders t) a
settled_presses c t l a p h = answered_presses c (answer_of t) (after_due (due_of t) t) (l ++ settled_orders t) a (due_presses c (due_of t) t l a p h)

presses : (c : AnyOrder) (lives : ℕ) (calls : List RevivalCall) → is_press c ≡ true → (revival_state_of lives calls).full ≡ false → Presses c (revival_state_of lives calls) (life_orders lives calls) (accepted_in_life lives calls)
presses c lives [] p f = record { kept = refl; unsent = refl; search = refl }
presses c lives (call ∷ calls) p f =
    let s = revival_state_of lives calls in
    let t = state_after_call s call in
    let g : t.full ≡ false = settled_full (answer_of t) (due_of t) t f in
    let l = life_orders lives calls in
    let a = accepted_in_life lives calls in
    let h = turned_presses c s call l a p g (presses c lives calls p (turned_full s call g)) in
    subst (λ (x : List AnyOrder). Presses c (revival_after s call) x (orders_in_same_life call a ++ accepted_in s call)) (append_regrouped (orders_in_same_life call l) (first_orders s call) (settled_orders t))
    (settled_presses c t (orders_in_same_life call l ++ first_orders s call) (orders_in_same_life call a ++ accepted_in s call) p h)

none_left : (w : StandInAnswer) (d : DueOrders) (t : RevivalState) → gives_settings d ≡ true → (after_answer w (after_due d t)).unsent ≡ []
none_left answers.Nothing due.Settings t e = refl
none_left w due.Settings t e = refl
none_left answers.Nothing due.Search t e = refl
none_left w due.Search t e = refl
none_left w due.Nothing t e = absurd (true≢false (sym e))

pub presses_are_given : PressesAreGiven
presses_are_given lives call calls c e p f =
    let t = state_after_call (revival_state_of lives calls) call in
    ap (λ (x : List AnyOrder). later_or (last_revival_order_for c x) (last_revival_order_for c (life_orders lives (call ∷ calls)))) (sym (none_left (answer_of t) (due_of t) t e))
    ∙ (presses c lives (call ∷ calls) p f).unsent
