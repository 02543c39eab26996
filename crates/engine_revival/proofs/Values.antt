-- The values that options are set to last.
use Rattle.std.proofs.Common.{◌≡◌, ◌&&◌, ℕ, zero, suc, nat_lt, List, [], ◌∷◌, ◌++◌, Bool, true, false, not, cond, Option, Some, None, refl, sym, ap, ◌∙◌, subst, true≢false, if◌then◌else◌}
use Rattle.std.proofs.lemmas.Slice.Eq.{bytes_eq-Decides}
use Rattle.std.specs.Str.{bytes_eq}
use Rattle.std.proofs.lemmas.Bool.{and_parts, not-false}
use Rattle.protocol_tokens.specs.Quit.{is_quit}
use Rattle.engine_revival.specs.Orders.{RevivalOrder as AnyOrder, are_same_names}
use Rattle.engine_revival.specs.Orders as orders
use Rattle.engine_revival.specs.Asked.{order_of_line}
use Rattle.engine_revival.specs.declared.words.DialogueState.{DialogueState}
use Rattle.engine_revival.specs.declared.words.DialogueState.TheVariants as upper
use Rattle.engine_revival.specs.declared.words.LifeState.{LifeState}
use Rattle.engine_revival.specs.declared.words.LifeState.TheVariants as life
use Rattle.engine_revival.specs.declared.words.DueOrders.{DueOrders}
use Rattle.engine_revival.specs.declared.words.DueOrders.TheVariants as due
use Rattle.engine_revival.specs.declared.words.StandInAnswer.{StandInAnswer}
use Rattle.engine_revival.specs.declared.words.StandInAnswer.TheVariants as answers
use Rattle.engine_revival.specs.declared.state.RevivalState.{RevivalState}
use Rattle.engine_revival.specs.Dialogue.{is_before}
use Rattle.engine_revival.specs.Lists.{are_for_same, revival_orders_staying, revival_list_with, revival_order_can_join}
use Rattle.engine_revival.specs.Steps.{revival_with_value, with_button, takes_at_once, is_served, due_if_held, due_to, due_orders, readies, after_due, after_answer, state_if_accepted, upper_if_accepted, state_after_reading, with_quit, accepted_at_once, read_at_once, quit_to, first_order, due_of, answer_of, state_once_settled, settled_orders, after_at_once}
use Rattle.engine_revival.specs.Calls.{RevivalCall, Order, Heard, Ended, Begin, Over, state_after_call, first_orders, revival_after}
use Rattle.engine_revival.specs.Laws.{revival_state_of, value_line, later_or, last_value_line, accepted_by, accepted_read, accepted_in, accepted_of, orders_in_same_life, life_orders, SearchesAreGiven, is_state_search}
use Rattle.engine_revival.proofs.Wires.{reported, search_open, is_open}
use Rattle.engine_revival.proofs.Agrees.{agrees, turned_agrees}
use Rattle.engine_revival.proofs.Searches.{searches_turned}

-- OF LISTS

pub later_none : {T : Type 0} (a : Option T) → later_or a None ≡ a
later_none None = refl
later_none (Some v) = refl

pub later_assoc : {T : Type 0} (a b c : Option T) → later_or (later_or a b) c ≡ later_or a (later_or b c)
later_assoc None b c = refl
later_assoc (Some v) b c = refl

behind : (name : List (List ℕ)) (xs ys : List AnyOrder) → last_value_line name (xs ++ ys) ≡ later_or (last_value_line name ys) (last_value_line name xs)
behind name [] ys = sym (later_none (last_value_line name ys))
behind name (x ∷ xs) ys = ap (λ (o : Option (List ℕ)). later_or o (value_line name x)) (behind name xs ys) ∙ later_assoc (last_value_line name ys) (last_value_line name xs) (value_line name x)

other_value : (w : Bool) (v : List ℕ) → w ≡ false → (if w then Some v else None) ≡ None
other_value true v e = absurd (true≢false e)
other_value false v e = refl

pub same_names : (a b : List (List ℕ)) → are_same_names a b ≡ true → a ≡ b
same_names [] [] e = refl
same_names [] (b ∷ bs) e = absurd (true≢false (sym e))
same_names (a ∷ more) [] e = absurd (true≢false (sym e))
same_names (a ∷ more) (b ∷ others) e =
    let p = and_parts (bytes_eq a b) (are_same_names more others) e in
    ap (λ (t : List ℕ). t ∷ more) ((bytes_eq-Decides a b).0 p.0) ∙ ap (λ (ts : List (List ℕ)). b ∷ ts) (same_names more others p.1)

-- An order for the same as an order that does not set the option does not set it either.
apart : (name : List (List ℕ)) (c o : AnyOrder) → value_line name c ≡ None → are_for_same c o ≡ true → value_line name o ≡ None
apart name (orders.Value n v) (orders.Value k w) e h = subst (λ (t : List (List ℕ)). (if are_same_names t name then Some w else None) ≡ None) (same_names n k h) (unset (are_same_names n name) v w e)
  where
    unset : (b : Bool) (x y : List ℕ) → (if b then Some x else None) ≡ None → (if b then Some y else None) ≡ None
    unset true x y e = absurd (cc)
    unset false x y e = refl
apart name c (orders.Value k w) e h = absurd (true≢false (sym h))
apart name c o e h = refl

stay_step : (w : Bool) (name : List (List ℕ)) (o : AnyOrder) (kept os : List AnyOrder) → (w ≡ false → value_line name o ≡ None) → last_value_line name kept ≡ last_value_line name os → last_value_line name (cond w (o ∷ kept) kept) ≡ last_value_line name (o ∷ os)
stay_step true name o kept os h e = ap (λ (x : Option (List ℕ)). later_or x (value_line name o)) e
stay_step false name o kept os h e = e ∙ sym (ap (later_or (last_value_line name os)) (h refl) ∙ later_none (last_value_line name os))

stays : (name : List (List ℕ)) (c : AnyOrder) (os : List AnyOrder) → value_line name c ≡ None → last_value_line name (revival_orders_staying c os) ≡ last_value_line name os
stays name c [] e = refl
stays name c (o ∷ os) e =
    stay_step (not (are_for_same c o)) name o (revival_orders_staying c os) os (λ f. apart name c o e (not-false (are_for_same c o) f)) (stays name c os e)

joins_by : (name : List (List ℕ)) (c : AnyOrder) (os : List AnyOrder) (v : Option (List ℕ)) → value_line name c ≡ v → later_or v (last_value_line name (revival_orders_staying c os)) ≡ later_or v (last_value_line name os)
joins_by name c os None e = stays name c os e
joins_by name c os (Some v) e = refl

one : (name : List (List ℕ)) (c : AnyOrder) → last_value_line name (c ∷ []) ≡ value_line name c
one name c = refl

-- An order that joins sets its option last.
joins : (name : List (List ℕ)) (os : List AnyOrder) (c : AnyOrder) → last_value_line name (revival_list_with os c) ≡ later_or (value_line name c) (last_value_line name os)
joins name os c = behind name (revival_orders_staying c os) (c ∷ []) ∙ joins_by name c os (value_line name c) refl

-- THE STATE

-- of these orders to the life and these accepted ones
record Values (name : List (List ℕ)) (s : RevivalState) (l a : List AnyOrder) : Type 0 where
  kept : last_value_line name s.kept ≡ last_value_line name a
  unsent : later_or (last_value_line name s.unsent) (last_value_line name l) ≡ last_value_line name a
  search : last_value_line name s.search ≡ None

pub nil_behind : (xs : List AnyOrder) → xs ++ [] ≡ xs
nil_behind [] = refl
nil_behind (x ∷ xs) = ap (λ (t : List AnyOrder). x ∷ t) (nil_behind xs)

-- an order that sets nothing
plain : (name : List (List ℕ)) (xs : List AnyOrder) (c : AnyOrder) → value_line name c ≡ None → last_value_line name (xs ++ c ∷ []) ≡ last_value_line name xs
plain name xs c e = behind name xs (c ∷ []) ∙ ap (λ (o : Option (List ℕ)). later_or o (last_value_line name xs)) e

-- the orders that are written as they come set nothing
abbrev pub as_it_comes : LifeState → AnyOrder → List AnyOrder
as_it_comes l c = if takes_at_once l c then c ∷ [] else []

sets_none_by : (w : Bool) (name : List (List ℕ)) (c : AnyOrder) → (w ≡ true → value_line name c ≡ None) → last_value_line name (if w then c ∷ [] else []) ≡ None
sets_none_by true name c h = h refl
sets_none_by false name c h = refl

at_once_none : (name : List (List ℕ)) (l : LifeState) (c : AnyOrder) → takes_at_once l c ≡ true → value_line name c ≡ None
at_once_none name life.Fresh (orders.Value n m) e = absurd (true≢false (sym e))
at_once_none name l (orders.Value n m) e = absurd (true≢false (sym e))
at_once_none name l c e = refl

comes_none : (name : List (List ℕ)) (l : LifeState) (c : AnyOrder) → last_value_line name (as_it_comes l c) ≡ None
comes_none name l c = sets_none_by (takes_at_once l c) name c (at_once_none name l c)

none_behind : (name : List (List ℕ)) (xs ys : List AnyOrder) → last_value_line name ys ≡ None → last_value_line name (xs ++ ys) ≡ last_value_line name xs
none_behind name xs ys e = behind name xs ys ∙ ap (λ (o : Option (List ℕ)). later_or o (last_value_line name xs)) e

-- orders of the life that set nothing, and accepted orders as they were
quiet : (name : List (List ℕ)) (s t : RevivalState) (l a more : List AnyOrder) → t.kept ≡ s.kept → t.unsent ≡ s.unsent → last_value_line name t.search ≡ None → last_value_line name more ≡ None → Values name s l a → Values name t (l ++ more) a
quiet name s t l a more k u e n h = record {
  kept = ap (last_value_line name) k ∙ h.kept;
  unsent = ap (λ (x : List AnyOrder). later_or (last_value_line name x) (last_value_line name (l ++ more))) u ∙ ap (later_or (last_value_line name s.unsent)) (none_behind name l more n) ∙ h.unsent;
  search = e;
}

-- an accepted order that sets nothing
accepts : (name : List (List ℕ)) (t : RevivalState) (l a : List AnyOrder) (c : AnyOrder) → value_line name c ≡ None → Values name t l a → Values name t l (a ++ c ∷ [])
accepts name t l a c e h = record { kept = h.kept ∙ sym (plain name a c e); unsent = h.unsent ∙ sym (plain name a c e); search = h.search }

value_step : (w : Bool) (name : List (List ℕ)) (s : RevivalState) (l a : List AnyOrder) (c : AnyOrder) (up : DialogueState) (x : LifeState) (more : List AnyOrder) → (revival_with_value w s c).full ≡ false → last_value_line name more ≡ None → Values name s l a → Values name (record (revival_with_value w s c) { upper = up; life = x }) (l ++ more) (a ++ c ∷ [])
value_step true name s l a c up x more f n h =
    let last : last_value_line name (a ++ c ∷ []) ≡ later_or (value_line name c) (last_value_line name a) = behind name a (c ∷ []) in
    record {
      kept = joins name s.kept c ∙ ap (later_or (value_line name c)) h.kept ∙ sym last;
      unsent =
          ap (λ (o : Option (List ℕ)). later_or o (last_value_line name (l ++ more))) (joins name s.unsent c)
          ∙ later_assoc (value_line name c) (last_value_line name s.unsent) (last_value_line name (l ++ more))
          ∙ ap (λ (o : Option (List ℕ)). later_or (value_line name c) (later_or (last_value_line name s.unsent) o)) (none_behind name l more n)
          ∙ ap (later_or (value_line name c)) h.unsent
          ∙ sym last;
      search = h.search;
    }
value_step false name s l a c up x more f n h = absurd (true≢false f)

joins_none : (name : List (List ℕ)) (os : List AnyOrder) (c : AnyOrder) → value_line name c ≡ None → last_value_line name (revival_list_with os c) ≡ last_value_line name os
joins_none name os c e = joins name os c ∙ ap (λ (o : Option (List ℕ)). later_or o (last_value_line name os)) e

-- an order that joins the unsent ones and sets nothing
joined : (name : List (List ℕ)) (s t : RevivalState) (l a more : List AnyOrder) (c : AnyOrder) → value_line name c ≡ None → t.kept ≡ s.kept → t.unsent ≡ revival_list_with s.unsent c → t.search ≡ s.search → last_value_line name more ≡ None → Values name s l a → Values name t (l ++ more) (a ++ c ∷ [])
joined name s t l a more c e k u x n h = record {
  kept = ap (last_value_line name) k ∙ h.kept ∙ sym (plain name a c e);
  unsent =
      ap (λ (o : List AnyOrder). later_or (last_value_line name o) (last_value_line name (l ++ more))) u
      ∙ ap (λ (o : Option (List ℕ)). later_or o (last_value_line name (l ++ more))) (joins_none name s.unsent c e)
      ∙ ap (later_or (last_value_line name s.unsent)) (none_behind name l more n)
      ∙ h.unsent
      ∙ sym (plain name a c e);
  search = ap (last_value_line name) x ∙ h.search;
}

button_step : (w : Bool) (name : List (List ℕ)) (s : RevivalState) (l a : List AnyOrder) (c : AnyOrder) (up : DialogueState) (x : LifeState) (more : List AnyOrder) → value_line name c ≡ None → (with_button w s c).full ≡ false → last_value_line name more ≡ None → Values name s l a → Values name (record (with_button w s c) { upper = up; life = x }) (l ++ more) (a ++ c ∷ [])
button_step true name s l a c up x more e f n h = joined name s (record (with_button true s c) { upper = up; life = x }) l a more c e refl refl refl n h
button_step false name s l a c up x more e f n h = absurd (true≢false f)

-- an order that joins no setting
other : (name : List (List ℕ)) (s t : RevivalState) (l a more : List AnyOrder) (c : AnyOrder) → value_line name c ≡ None → t.kept ≡ s.kept → t.unsent ≡ s.unsent → last_value_line name t.search ≡ None → last_value_line name more ≡ None → Values name s l a → Values name t (l ++ more) (a ++ c ∷ [])
other name s t l a more c e k u x n h = accepts name t (l ++ more) a c e (quiet name s t l a more k u x n h)

in_search : (name : List (List ℕ)) (search : List AnyOrder) (c : AnyOrder) → value_line name c ≡ None → last_value_line name search ≡ None → last_value_line name (search ++ c ∷ []) ≡ None
in_search name search c e h = plain name search c e ∙ h

accepting_values : (name : List (List ℕ)) (s : RevivalState) (l a : List AnyOrder) (c : AnyOrder) (up : DialogueState) → (state_if_accepted (Some up) s c).full ≡ false → Values name s l a → Values name (state_if_accepted (Some up) s c) (l ++ as_it_comes s.life c) (a ++ c ∷ [])
accepting_values name s l a orders.NewGame up f h = joined name s (state_if_accepted (Some up) s orders.NewGame) l a (as_it_comes s.life orders.NewGame) orders.NewGame refl refl refl refl (comes_none name s.life orders.NewGame) h
accepting_values name s l a orders.Stop up f h = other name s (state_if_accepted (Some up) s orders.Stop) l a (as_it_comes s.life orders.Stop) orders.Stop refl refl refl (in_search name s.search orders.Stop refl h.search) (comes_none name s.life orders.Stop) h
accepting_values name s l a orders.PonderHit up f h = other name s (state_if_accepted (Some up) s orders.PonderHit) l a (as_it_comes s.life orders.PonderHit) orders.PonderHit refl refl refl (in_search name s.search orders.PonderHit refl h.search) (comes_none name s.life orders.PonderHit) h
accepting_values name s l a (orders.Button n v) up f h =
    let c = orders.Button n v in
    button_step (revival_order_can_join s.unsent c) name s l a c up (after_at_once s.life c) (as_it_comes s.life c) refl f (comes_none name s.life c) h
accepting_values name s l a (orders.Value n v) up f h =
    let c = orders.Value n v in
    value_step (revival_order_can_join s.kept c && revival_order_can_join s.unsent c) name s l a c up (after_at_once s.life c) (as_it_comes s.life c) f (comes_none name s.life c) h
accepting_values name s l a (orders.Position p) up f h = other name s (state_if_accepted (Some up) s (orders.Position p)) l a (as_it_comes s.life (orders.Position p)) (orders.Position p) refl refl refl refl (comes_none name s.life (orders.Position p)) h
accepting_values name s l a (orders.Go k p) up f h = other name s (state_if_accepted (Some up) s (orders.Go k p)) l a (as_it_comes s.life (orders.Go k p)) (orders.Go k p) refl refl refl (in_search name s.search (orders.Go k p) refl h.search) (comes_none name s.life (orders.Go k p)) h
accepting_values name s l a c up f h = other name s (state_if_accepted (Some up) s c) l a (as_it_comes s.life c) c refl refl refl h.search (comes_none name s.life c) h

same_nil : (name : List (List ℕ)) (t : RevivalState) (l a : List AnyOrder) → Values name t l a → Values name t (l ++ []) (a ++ [])
same_nil name t l a h = subst (λ (x : List AnyOrder). Values name t x (a ++ [])) (sym (nil_behind l)) (subst (λ (x : List AnyOrder). Values name t l x) (sym (nil_behind a)) h)

accepted_values : (name : List (List ℕ)) (s : RevivalState) (l a : List AnyOrder) (c : AnyOrder) (o : Option DialogueState) → (state_if_accepted o s c).full ≡ false → Values name s l a → Values name (state_if_accepted o s c) (l ++ accepted_at_once o s.life c) (a ++ accepted_by o c)
accepted_values name s l a c None f h = same_nil name s l a h
accepted_values name s l a c (Some up) f h = accepting_values name s l a c up f h

reading_values : (name : List (List ℕ)) (s : RevivalState) (l a : List AnyOrder) (o : Option AnyOrder) → (state_after_reading s o).full ≡ false → Values name s l a → Values name (state_after_reading s o) (l ++ read_at_once s o) (a ++ accepted_read s o)
reading_values name s l a None f h = same_nil name s l a h
reading_values name s l a (Some c) f h = accepted_values name s l a c (upper_if_accepted s c) f h

to_a : (name : List (List ℕ)) (t : RevivalState) (l a : List AnyOrder) → Values name t l a → Values name t l (a ++ [])
to_a name t l a h = subst (λ (x : List AnyOrder). Values name t l x) (sym (nil_behind a)) h

ordering_values : (name : List (List ℕ)) (s : RevivalState) (l a : List AnyOrder) (line : List ℕ) (q : Bool) → (if q then with_quit s else state_after_reading s (order_of_line line)).full ≡ false → Values name s l a → Values name (if q then with_quit s else state_after_reading s (order_of_line line)) (l ++ (if q then quit_to s.quit s.life else read_at_once s (order_of_line line))) (a ++ (if q then [] else accepted_read s (order_of_line line)))
ordering_values name s l a line true f h =
    to_a name (with_quit s) (l ++ quit_to s.quit s.life) a (quiet name s (with_quit s) l a (quit_to s.quit s.life) refl refl h.search (sets_none_by (not s.quit && is_served s.life) name orders.Quit (λ e. refl)) h)
ordering_values name s l a line false f h = reading_values name s l a (order_of_line line) f h

first_none : (name : List (List ℕ)) (w : Bool) → last_value_line name (if w then [] else orders.Uci ∷ []) ≡ None
first_none name true = refl
first_none name false = refl

turned_values : (name : List (List ℕ)) (s : RevivalState) (call : RevivalCall) (l a : List AnyOrder) → (state_after_call s call).full ≡ false → Values name s l a → Values name (state_after_call s call) (orders_in_same_life call l ++ first_orders s call) (a ++ accepted_in s call)
turned_values name s (Order line) l a f h = ordering_values name s l a line (is_quit line) f h
turned_values name s (Heard line) l a f h = to_a name (state_after_call s (Heard line)) (l ++ []) a (quiet name s (state_after_call s (Heard line)) l a [] refl refl h.search refl h)
turned_values name s Ended l a f h = to_a name (state_after_call s Ended) (l ++ []) a (quiet name s (state_after_call s Ended) l a [] refl refl h.search refl h)
turned_values name s Begin l a f h = to_a name (state_after_call s Begin) (first_order s.upper) a (record {
  kept = h.kept;
  unsent = ap (later_or (last_value_line name s.kept)) (first_none name (is_before s.upper)) ∙ later_none (last_value_line name s.kept) ∙ h.kept;
  search = h.search;
})
turned_values name s Over l a f h = to_a name (state_after_call s Over) (l ++ []) a (quiet name s (state_after_call s Over) l a [] refl refl h.search refl h)

-- WHAT FOLLOWS

answered_values : (name : List (List ℕ)) (w : StandInAnswer) (t : RevivalState) (l a : List AnyOrder) → Values name t l a → Values name (after_answer w t) l a
answered_values name answers.Nothing t l a h = h
answered_values name answers.UciOk t l a h = record { kept = h.kept; unsent = h.unsent; search = h.search }
answered_values name answers.ReadyOk t l a h = record { kept = h.kept; unsent = h.unsent; search = h.search }
answered_values name answers.NoMove t l a h = record { kept = h.kept; unsent = h.unsent; search = h.search }

readies_none : (name : List (List ℕ)) (n : ℕ) → last_value_line name (readies n) ≡ None
readies_none name zero = refl
readies_none name (suc n) = ap (λ (o : Option (List ℕ)). later_or o None) (readies_none name n)

behind_readies : (name : List (List ℕ)) (n : ℕ) (r : List AnyOrder) → last_value_line name r ≡ None → last_value_line name (readies n ++ r) ≡ None
behind_readies name n r e = behind name (readies n) r ∙ ap (later_or (last_value_line name r)) (readies_none name n) ∙ later_none (last_value_line name r) ∙ e

all_sent : (name : List (List ℕ)) (l u r : List AnyOrder) → last_value_line name r ≡ None → last_value_line name (l ++ (u ++ r)) ≡ later_or (last_value_line name u) (last_value_line name l)
all_sent name l u r e = behind name l (u ++ r) ∙ ap (λ (o : Option (List ℕ)). later_or o (last_value_line name l)) (none_behind name u r e)

due_values : (name : List (List ℕ)) (d : DueOrders) (t : RevivalState) (l a : List AnyOrder) → Values name t l a → Values name (after_due d t) (l ++ due_orders d t.unsent t.held_ready t.search) a
due_values name due.Nothing t l a h = subst (λ (x : List AnyOrder). Values name t x a) (sym (nil_behind l)) h
due_values name due.Settings t l a h = record { kept = h.kept; unsent = all_sent name l t.unsent (readies t.held_ready) (readies_none name t.held_ready) ∙ h.unsent; search = h.search }
due_values name due.Search t l a h = record { kept = h.kept; unsent = all_sent name l t.unsent (readies t.held_ready ++ t.search) (behind_readies name t.held_ready t.search h.search) ∙ h.unsent; search = h.search }

settled_values : (name : List (List ℕ)) (t : RevivalState) (l a : List AnyOrder) → Values name t l a → Values name (state_once_settled t) (l ++ settled_orders t) a
settled_values name t l a h = answered_values name (answer_of t) (after_due (due_of t) t) (l ++ settled_orders t) a (due_values name (due_of t) t l a h)

-- A list that was full stays so.
pub settled_full : (w : StandInAnswer) (d : DueOrders) (t : RevivalState) → (after_answer w (after_due d t)).full ≡ false → t.full ≡ false
settled_full answers.Nothing due.Nothing t e = e
settled_full w due.Nothing t e = e
settled_full w d t e = e

value_full : (w : Bool) (s : RevivalState) (c : AnyOrder) → (revival_with_value w s c).full ≡ false → s.full ≡ false
value_full true s c e = e
value_full false s c e = absurd (true≢false e)

button_full : (w : Bool) (s : RevivalState) (c : AnyOrder) → (with_button w s c).full ≡ false → s.full ≡ false
button_full true s c e = e
button_full false s c e = absurd (true≢false e)

accepting_full : (s : RevivalState) (c : AnyOrder) (o : Option DialogueState) → (state_if_accepted o s c).full ≡ false → s.full ≡ false
accepting_full s (orders.Button n v) (Some up) e =
    let c = orders.Button n v in
    button_full (revival_order_can_join s.unsent c) s c e
accepting_full s (orders.Value n v) (Some up) e =
    let c = orders.Value n v in
    value_full (revival_order_can_join s.kept c && revival_order_can_join s.unsent c) s c e
accepting_full s c None e = e
accepting_full s c o e = e

reading_full : (s : RevivalState) (o : Option AnyOrder) → (state_after_reading s o).full ≡ false → s.full ≡ false
reading_full s None e = e
reading_full s (Some c) e = accepting_full s c (upper_if_accepted s c) e

ordering_full : (s : RevivalState) (line : List ℕ) (q : Bool) → (if q then with_quit s else state_after_reading s (order_of_line line)).full ≡ false → s.full ≡ false
ordering_full s line true e = e
ordering_full s line false e = reading_full s (order_of_line line) e

pub turned_full : (s : RevivalState) (call : RevivalCall) → (state_after_call s call).full ≡ false → s.full ≡ false
turned_full s (Order line) e = ordering_full s line (is_quit line) e
turned_full s (Heard line) e = e
turned_full s Ended e = e
turned_full s Begin e = e
turned_full s Over e = e

pub append_regrouped : (a b c : List AnyOrder) → (a ++ b) ++ c ≡ a ++ (b ++ c)
append_regrouped [] b c = refl
append_regrouped (x ∷ xs) b c = ap (λ (t : List AnyOrder). x ∷ t) (append_regrouped xs b c)

values : (name : List (List ℕ)) (lives : ℕ) (calls : List RevivalCall) → (revival_state_of lives calls).full ≡ false → Values name (revival_state_of lives calls) (life_orders lives calls) (accepted_of lives calls)
values name lives [] f = record { kept = refl; unsent = refl; search = refl }
values name lives (call ∷ calls) f =
    let s = revival_state_of lives calls in
    let t = state_after_call s call in
    let g : t.full ≡ false = settled_full (answer_of t) (due_of t) t f in
    let l = life_orders lives calls in
    let h = turned_values name s call l (accepted_of lives calls) g (values name lives calls (turned_full s call g)) in
    subst (λ (x : List AnyOrder). Values name (revival_after s call) x (accepted_of lives calls ++ accepted_in s call)) (append_regrouped (orders_in_same_life call l) (first_orders s call) (settled_orders t))
    (settled_values name t (orders_in_same_life call l ++ first_orders s call) (accepted_of lives calls ++ accepted_in s call) h)

-- SEARCHES

held_due : (h : Bool) → due_if_held h ≡ due.Search → ⊥
held_due true e = cc
held_due false e = cc

search_due : (l : LifeState) (q : Bool) (u : DialogueState) (h : Bool) → due_to l q u h ≡ due.Search → is_state_search u ≡ true
search_due life.Idle false (upper.Search k b) h e = refl
search_due life.Idle false u h e = absurd (held_due h e)
search_due life.Search false u h e = absurd (held_due h e)
search_due l q u h e = absurd (cc)

none_unsent : (w : StandInAnswer) (d : DueOrders) (t : RevivalState) → d ≡ due.Search → (after_answer w (after_due d t)).unsent ≡ []
none_unsent answers.Nothing due.Search t e = refl
none_unsent w due.Search t e = refl
none_unsent w d t e = absurd (cc)

pub given_searches : SearchesAreGiven
given_searches lives call calls m e =
    let s = revival_state_of lives calls in
    let t = state_after_call s call in
    let a = turned_agrees s call _ m.1 (agrees lives calls m.0) in
    let open_up : is_open t.upper ≡ true = search_open t.upper (search_due t.life t.quit t.upper (nat_lt 0 t.held_ready) e) in
    record {
      orders_are = ap (λ (d : DueOrders). due_orders d t.unsent t.held_ready t.search) e;
      as_they_came = (searches_turned lives call calls m) open_up;
      leads = reported t.search upper.Idle t.upper (a.search open_up);
      settings = λ name f.
          ap (λ (x : List AnyOrder). later_or (last_value_line name x) (last_value_line name (life_orders lives (call ∷ calls)))) (sym (none_unsent (answer_of t) (due_of t) t e))
          ∙ (values name lives (call ∷ calls) f).unsent;
    }
