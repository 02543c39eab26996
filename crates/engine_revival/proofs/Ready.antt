-- Each accepted `isready` has its `readyok`.
use Rattle.std.proofs.Common.{◌≡◌, ◌⊎◌, inl, inr, ◌&&◌, ◌||◌, ◌+◌, ◌-◌, ℕ, zero, suc, List, [], ◌∷◌, ◌++◌, Bool, true, false, not, Option, Some, None, refl, sym, ap, ◌∙◌, subst, arith, true≢false, if◌then◌else◌, nat_lt}
use Rattle.std.proofs.lemmas.Bool.{and_parts}
use Rattle.std.proofs.lemmas.Bool.Decides.{nat_tests}
use Rattle.protocol_tokens.specs.Quit.{is_quit}
use Rattle.protocol_tokens.specs.declared.kinds.GoKind.TheVariants as kinds
use Rattle.engine_revival.specs.Orders.{RevivalOrder as AnyOrder}
use Rattle.engine_revival.specs.Orders as orders
use Rattle.engine_revival.specs.Asked.{order_of_line}
use Rattle.engine_revival.specs.declared.words.DialogueState.{DialogueState}
use Rattle.engine_revival.specs.declared.words.DialogueState.TheVariants as upper
use Rattle.engine_revival.specs.declared.words.LifeState.{LifeState}
use Rattle.engine_revival.specs.declared.words.LifeState.TheVariants as life
use Rattle.engine_revival.specs.declared.words.LifeSaid.{LifeSaid}
use Rattle.engine_revival.specs.declared.words.LifeSaid.TheVariants as said
use Rattle.engine_revival.specs.declared.words.DueOrders.{DueOrders}
use Rattle.engine_revival.specs.declared.words.DueOrders.TheVariants as due
use Rattle.engine_revival.specs.declared.words.StandInAnswer.{StandInAnswer}
use Rattle.engine_revival.specs.declared.words.StandInAnswer.TheVariants as answers
use Rattle.engine_revival.specs.declared.state.RevivalState.{RevivalState}
use Rattle.engine_revival.specs.declared.state.TheConstants.{MOST_READY}
use Rattle.engine_revival.specs.Dialogue.{is_before, said_in, dialogue_where}
use Rattle.engine_revival.specs.Lists.{revival_order_can_join}
use Rattle.engine_revival.specs.Steps.{revival_with_value, with_button, state_with_kept, after_at_once, takes_at_once, life_after_said, owed_ready_after, is_served, due_if_held, due_to, due_orders, readies, after_due, answer_to, after_answer, gives, is_ready_order, has_ready_room, upper_if_accepted, state_if_accepted, state_after_reading, with_quit, accepted_at_once, read_at_once, quit_to, may_begin, is_ended, due_of, answer_of, state_once_settled, settled_orders}
use Rattle.engine_revival.specs.Calls.{RevivalCall, Order, Heard, Ended, Begin, Over, may_call, revival_after, state_after_call, first_orders}
use Rattle.engine_revival.specs.Laws.{LifeWire, Open, Gone, CallsMayCome, ReadyIsAnswered, accepted_by, accepted_in, accepted_of, accepted_read, has_booted, one_where, ready_accepted, ready_answered, ready_in_answer, ready_left, ready_orders, ready_owed, ready_passed_up, says_ready, revival_state_of, wire_of}
use Rattle.engine_revival.proofs.Wires.{AreSetups, is_setup}
use Rattle.engine_revival.proofs.Standing.{WireIs}
use Rattle.engine_revival.proofs.Agrees.{agrees, turned_agrees}
use Rattle.engine_revival.proofs.Values.{as_it_comes}

-- HOW MANY THERE ARE

ready_both : (a b : List AnyOrder) → ready_orders (a ++ b) ≡ ready_orders a + ready_orders b
ready_both [] b = omega arith
ready_both (c ∷ cs) b = omega (arith, ready_both cs b)

ready_readies : (n : ℕ) → ready_orders (readies n) ≡ n
ready_readies zero = refl
ready_readies (suc n) = omega (arith, ready_readies n)

unready : (c : AnyOrder) → is_setup c ≡ true → one_where (is_ready_order c) ≡ 0
unready orders.IsReady e = absurd (true≢false (sym e))
unready c e = refl

setups_unready : (list : List AnyOrder) → AreSetups list → ready_orders list ≡ 0
setups_unready [] h = refl
setups_unready (c ∷ cs) h = omega (arith, unready c h.0, setups_unready cs h.1)

none_if : (w : Bool) (c : AnyOrder) → (w ≡ true → one_where (is_ready_order c) ≡ 0) → ready_orders (if w then c ∷ [] else []) ≡ 0
none_if true c h = omega (arith, h refl)
none_if false c h = refl

taken_unready : (l : LifeState) (c : AnyOrder) → takes_at_once l c ≡ true → one_where (is_ready_order c) ≡ 0
taken_unready life.Fresh orders.IsReady e = absurd (true≢false (sym e))
taken_unready l orders.IsReady e = absurd (true≢false (sym e))
taken_unready l c e = refl

comes_unready : (l : LifeState) (c : AnyOrder) → ready_orders (as_it_comes l c) ≡ 0
comes_unready l c = none_if (takes_at_once l c) c (taken_unready l c)

first_unready : (w : Bool) → ready_orders (if w then [] else orders.Uci ∷ []) ≡ 0
first_unready true = refl
first_unready false = refl

-- WHAT HOLDS BETWEEN TWO CALLS

-- only a life behind its `uciok` owes `readyok`
abbrev OwesIn : LifeState → ℕ → Type 0
OwesIn life.Idle n = Unit {0}
OwesIn life.Search n = Unit {0}
OwesIn l n = n ≡ 0

record Counts (s : RevivalState) (accepted answered owed : ℕ) : Type 0 where
  counted : accepted ≡ answered + (owed + s.held_ready)
  asked : s.asked_ready ≡ owed
  owes : OwesIn s.life s.asked_ready
  search : ready_orders s.search ≡ 0

-- AN ORDER

value_held : (w : Bool) (s : RevivalState) (c : AnyOrder) → (revival_with_value w s c).held_ready ≡ s.held_ready + 0
value_held true s c = omega arith
value_held false s c = omega arith

button_held : (w : Bool) (s : RevivalState) (c : AnyOrder) → (with_button w s c).held_ready ≡ s.held_ready + 0
button_held true s c = omega arith
button_held false s c = omega arith

value_asked : (w : Bool) (s : RevivalState) (c : AnyOrder) → (revival_with_value w s c).asked_ready ≡ s.asked_ready
value_asked true s c = refl
value_asked false s c = refl

button_asked : (w : Bool) (s : RevivalState) (c : AnyOrder) → (with_button w s c).asked_ready ≡ s.asked_ready
button_asked true s c = refl
button_asked false s c = refl

value_search : (w : Bool) (s : RevivalState) (c : AnyOrder) → (revival_with_value w s c).search ≡ s.search
value_search true s c = refl
value_search false s c = refl

button_search : (w : Bool) (s : RevivalState) (c : AnyOrder) → (with_button w s c).search ≡ s.search
button_search true s c = refl
button_search false s c = refl

kept_held : (s : RevivalState) (c : AnyOrder) → (state_with_kept s c).held_ready ≡ s.held_ready + one_where (is_ready_order c)
kept_held s (orders.Value n v) = let c = orders.Value n v in value_held (revival_order_can_join s.kept c && revival_order_can_join s.unsent c) s c
kept_held s (orders.Button n v) = let c = orders.Button n v in button_held (revival_order_can_join s.unsent c) s c
kept_held s orders.IsReady = refl
kept_held s c = omega arith

kept_asked : (s : RevivalState) (c : AnyOrder) → (state_with_kept s c).asked_ready ≡ s.asked_ready
kept_asked s (orders.Value n v) = let c = orders.Value n v in value_asked (revival_order_can_join s.kept c && revival_order_can_join s.unsent c) s c
kept_asked s (orders.Button n v) = let c = orders.Button n v in button_asked (revival_order_can_join s.unsent c) s c
kept_asked s c = refl

one_more : (search : List AnyOrder) (c : AnyOrder) → one_where (is_ready_order c) ≡ 0 → ready_orders search ≡ 0 → ready_orders (search ++ c ∷ []) ≡ 0
one_more search c e h = omega (arith, e, h, ready_both search (c ∷ []))

kept_search : (s : RevivalState) (c : AnyOrder) → ready_orders s.search ≡ 0 → ready_orders (state_with_kept s c).search ≡ 0
kept_search s (orders.Value n v) h = let c = orders.Value n v in ap ready_orders (value_search (revival_order_can_join s.kept c && revival_order_can_join s.unsent c) s c) ∙ h
kept_search s (orders.Button n v) h = let c = orders.Button n v in ap ready_orders (button_search (revival_order_can_join s.unsent c) s c) ∙ h
kept_search s (orders.Position p) h = refl
kept_search s (orders.Go k p) h = one_more s.search (orders.Go k p) refl h
kept_search s orders.PonderHit h = one_more s.search orders.PonderHit refl h
kept_search s orders.Stop h = one_more s.search orders.Stop refl h
kept_search s c h = h

owes_at_once : (l : LifeState) (c : AnyOrder) (n m : ℕ) → m ≡ n → OwesIn l n → OwesIn (after_at_once l c) m
owes_at_once life.Fresh orders.Uci n m e h = e ∙ h
owes_at_once life.Fresh c n m e h = e ∙ h
owes_at_once life.Idle c n m e h = tt
owes_at_once life.Search c n m e h = tt
owes_at_once l c n m e h = e ∙ h

accepting_counts : (s : RevivalState) (c : AnyOrder) (up : DialogueState) (a r o : ℕ) → Counts s a r o → Counts (state_if_accepted (Some up) s c) (a + ready_orders (c ∷ [])) (r + 0) (o + ready_orders (as_it_comes s.life c))
accepting_counts s c up a r o h = record {
  counted = omega (arith, h.counted, kept_held s c, comes_unready s.life c);
  asked = omega (arith, kept_asked s c, h.asked, comes_unready s.life c);
  owes = owes_at_once s.life c s.asked_ready (state_with_kept s c).asked_ready (kept_asked s c) h.owes;
  search = kept_search s c h.search;
}

-- a call that changes nothing of it
same : (s : RevivalState) (a r o n m k : ℕ) → n ≡ 0 → m ≡ 0 → k ≡ 0 → Counts s a r o → Counts s (a + n) (r + m) (o + k)
same s a r o n m k e f g h = record { counted = omega (arith, h.counted, e, f, g); asked = omega (arith, h.asked, g); owes = h.owes; search = h.search }

accepted_counts : (s : RevivalState) (c : AnyOrder) (w : Option DialogueState) (a r o : ℕ) → Counts s a r o → Counts (state_if_accepted w s c) (a + ready_orders (accepted_by w c)) (r + 0) (o + ready_orders (accepted_at_once w s.life c))
accepted_counts s c None a r o h = same s a r o 0 0 0 refl refl refl h
accepted_counts s c (Some up) a r o h = accepting_counts s c up a r o h

reading_counts : (s : RevivalState) (w : Option AnyOrder) (a r o : ℕ) → Counts s a r o → Counts (state_after_reading s w) (a + ready_orders (accepted_read s w)) (r + 0) (o + ready_orders (read_at_once s w))
reading_counts s None a r o h = same s a r o 0 0 0 refl refl refl h
reading_counts s (Some c) a r o h = accepted_counts s c (upper_if_accepted s c) a r o h

ordering_counts : (s : RevivalState) (line : List ℕ) (q : Bool) (a r o : ℕ) → Counts s a r o
    → Counts (if q then with_quit s else state_after_reading s (order_of_line line)) (a + ready_orders (if q then [] else accepted_read s (order_of_line line))) (r + 0) (o + ready_orders (if q then quit_to s.quit s.life else read_at_once s (order_of_line line)))
ordering_counts s line true a r o h =
    let k = none_if (not s.quit && is_served s.life) orders.Quit (λ e. refl) in
    let t = same s a r o 0 0 (ready_orders (quit_to s.quit s.life)) refl refl k h in
    record { counted = t.counted; asked = t.asked; owes = t.owes; search = t.search }
ordering_counts s line false a r o h = reading_counts s (order_of_line line) a r o h

-- THE LIFE IS HEARD

some_owed : (n : ℕ) → nat_lt 0 (suc n) ≡ true
some_owed n = grind (arith, nat_tests)

less : (a r o n held : ℕ) → a ≡ r + (o + held) → n ≡ o → a + 0 ≡ (r + one_where (nat_lt 0 n)) + ((o - 1 + 0) + held)
less a r o zero held e f = omega (arith, e, f)
less a r o (suc n) held e f = omega (arith, e, f, ap one_where (some_owed n))

none_heard : (n : ℕ) → n ≡ 0 → n - 1 ≡ 0
none_heard n e = omega (arith, e)

owes_heard : (l : LifeState) (w : LifeSaid) (n : ℕ) → OwesIn l n → OwesIn (life_after_said l w) (owed_ready_after w n)
owes_heard life.Idle w n h = tt
owes_heard life.Search said.Best n h = tt
owes_heard life.Search w n h = tt
owes_heard life.Boot said.UciOk n h = tt
owes_heard life.Boot said.ReadyOk n h = none_heard n h
owes_heard life.Boot w n h = h
owes_heard l said.ReadyOk n h = none_heard n h
owes_heard l w n h = h

counted_heard : (s : RevivalState) (w : LifeSaid) (a r o : ℕ) → Counts s a r o → a + 0 ≡ (r + one_where (says_ready w && gives s w)) + ((o - one_where (says_ready w) + 0) + s.held_ready)
counted_heard s said.ReadyOk a r o h = less a r o s.asked_ready s.held_ready h.counted h.asked
counted_heard s w a r o h = omega (arith, h.counted)

asked_heard : (w : LifeSaid) (n o : ℕ) → n ≡ o → owed_ready_after w n ≡ o - one_where (says_ready w) + 0
asked_heard said.ReadyOk n o e = omega (arith, e)
asked_heard w n o e = omega (arith, e)

-- EACH CALL

ended_owes : (l : LifeState) (n : ℕ) → is_ended l ≡ true → OwesIn l n → n ≡ 0
ended_owes life.Ended n e h = h
ended_owes l n e h = absurd (true≢false (sym e))

begun_owes : (w : Bool) (n : ℕ) → n ≡ 0 → OwesIn (if w then life.Fresh else life.Boot) n
begun_owes true n e = e
begun_owes false n e = e

turned_counts : (s : RevivalState) (call : RevivalCall) (a r o : ℕ) → may_call s call ≡ true → Counts s a r o → Counts (state_after_call s call) (a + ready_orders (accepted_in s call)) (r + ready_passed_up s call) (ready_left call o + ready_orders (first_orders s call))
turned_counts s (Order line) a r o m h = ordering_counts s line (is_quit line) a r o h
turned_counts s (Heard line) a r o m h = record {
  counted = counted_heard s (said_in line) a r o h;
  asked = asked_heard (said_in line) s.asked_ready o h.asked;
  owes = owes_heard s.life (said_in line) s.asked_ready h.owes;
  search = h.search;
}
turned_counts s Ended a r o m h = record { counted = omega (arith, h.counted, h.asked); asked = refl; owes = refl; search = h.search }
turned_counts s Begin a r o m h =
    let none = ended_owes s.life s.asked_ready (and_parts (is_ended s.life) (may_begin s) m).0 h.owes in
    let first = first_unready (is_before s.upper) in
    record {
      counted = omega (arith, h.counted, h.asked, none, first);
      asked = omega (arith, none, first);
      owes = begun_owes (is_before s.upper) s.asked_ready none;
      search = h.search;
    }
turned_counts s Over a r o m h = record { counted = omega (arith, h.counted, h.asked); asked = refl; owes = refl; search = h.search }

-- WHAT FOLLOWS

answered_counts : (w : StandInAnswer) (t : RevivalState) (a r o : ℕ) → Counts t a r o → Counts (after_answer w t) a (r + ready_in_answer w t.held_ready) o
answered_counts answers.Nothing t a r o h = record { counted = omega (arith, h.counted); asked = h.asked; owes = h.owes; search = h.search }
answered_counts answers.UciOk t a r o h = record { counted = omega (arith, h.counted); asked = h.asked; owes = h.owes; search = h.search }
answered_counts answers.ReadyOk t a r o h = record { counted = omega (arith, h.counted); asked = h.asked; owes = h.owes; search = h.search }
answered_counts answers.NoMove t a r o h = record { counted = omega (arith, h.counted); asked = h.asked; owes = h.owes; search = h.search }

due_counts : (d : DueOrders) (t : RevivalState) (a r o : ℕ) → AreSetups t.unsent → (d ≡ due.Settings → (n : ℕ) → OwesIn t.life n) → Counts t a r o → Counts (after_due d t) a r (o + ready_orders (due_orders d t.unsent t.held_ready t.search))
due_counts due.Nothing t a r o u b h = record { counted = omega (arith, h.counted); asked = omega (arith, h.asked); owes = h.owes; search = h.search }
due_counts due.Settings t a r o u b h =
    let n : ready_orders (t.unsent ++ readies t.held_ready) ≡ t.held_ready =
    omega (arith, ready_both t.unsent (readies t.held_ready), setups_unready t.unsent u, ready_readies t.held_ready) in
    record { counted = omega (arith, h.counted, n); asked = omega (arith, h.asked, n); owes = b refl (t.asked_ready + t.held_ready); search = h.search }
due_counts due.Search t a r o u b h =
    let more = readies t.held_ready ++ t.search in
    let n : ready_orders (t.unsent ++ more) ≡ t.held_ready =
    omega (arith, ready_both t.unsent more, setups_unready t.unsent u, ready_both (readies t.held_ready) t.search, ready_readies t.held_ready, h.search) in
    record { counted = omega (arith, h.counted, n); asked = omega (arith, h.asked, n); owes = tt; search = h.search }

asks_booted : (l : LifeState) (q : Bool) (u : DialogueState) (b : Bool) → due_to l q u b ≡ due.Settings → (n : ℕ) → OwesIn l n
asks_booted life.Idle q u b e n = tt
asks_booted life.Search q u b e n = tt
asks_booted l q u b e n = absurd (cc)

-- A life gets orders, or something stands in for it.
alone : (l : LifeState) (q : Bool) (u : DialogueState) (b : Bool) → (due_to l q u b ≡ due.Nothing) ⊎ (answer_to l u ≡ answers.Nothing)
alone life.Over q u b = inl refl
alone l q u b = inr refl

same_answers : (d : DueOrders) (w : StandInAnswer) (t : RevivalState) → (d ≡ due.Nothing) ⊎ (w ≡ answers.Nothing) → ready_in_answer w (after_due d t).held_ready ≡ ready_in_answer w t.held_ready
same_answers d w t (inl e) = ap (λ (x : DueOrders). ready_in_answer w (after_due x t).held_ready) e
same_answers d w t (inr e) = ap (λ (x : StandInAnswer). ready_in_answer x (after_due d t).held_ready) e ∙ sym (ap (λ (x : StandInAnswer). ready_in_answer x t.held_ready) e)

settled_counts : (t : RevivalState) (a r o : ℕ) → AreSetups t.unsent → Counts t a r o → Counts (state_once_settled t) a (r + ready_in_answer (answer_of t) t.held_ready) (o + ready_orders (settled_orders t))
settled_counts t a r o u h =
    let d = due_of t in
    let w = answer_of t in
    let k = answered_counts w (after_due d t) a r (o + ready_orders (settled_orders t)) (due_counts d t a r o u (asks_booted t.life t.quit t.upper (nat_lt 0 t.held_ready)) h) in
    subst (λ (n : ℕ). Counts (state_once_settled t) a (r + n) (o + ready_orders (settled_orders t))) (same_answers d w t (alone t.life t.quit t.upper (nat_lt 0 t.held_ready))) k

as_counted : (s : RevivalState) (a a' r r' o o' : ℕ) → a ≡ a' → r ≡ r' → o ≡ o' → Counts s a r o → Counts s a' r' o'
as_counted s a a' r r' o o' e f g h = record { counted = omega (arith, h.counted, e, f, g); asked = omega (arith, h.asked, g); owes = h.owes; search = h.search }

counts : (lives : ℕ) (calls : List RevivalCall) → CallsMayCome lives calls → Counts (revival_state_of lives calls) (ready_accepted lives calls) (ready_answered lives calls) (ready_owed lives calls)
counts lives [] m = record { counted = refl; asked = refl; owes = refl; search = refl }
counts lives (call ∷ calls) m =
    let s = revival_state_of lives calls in
    let t = state_after_call s call in
    let a = ready_accepted lives calls in
    let r = ready_answered lives calls in
    let o = ready_owed lives calls in
    let u = (turned_agrees s call (wire_of lives calls) m.1 (agrees lives calls m.0)).unsent in
    let h = turned_counts s call a r o m.1 (counts lives calls m.0) in
    let k = settled_counts t (a + ready_orders (accepted_in s call)) (r + ready_passed_up s call) (ready_left call o + ready_orders (first_orders s call)) u h in
    as_counted (revival_after s call) (a + ready_orders (accepted_in s call)) (ready_accepted lives (call ∷ calls)) (r + ready_passed_up s call + ready_in_answer (answer_of t) t.held_ready) (ready_answered lives (call ∷ calls)) (ready_left call o + ready_orders (first_orders s call) + ready_orders (settled_orders t)) (ready_owed lives (call ∷ calls))
    (sym (ready_both (accepted_of lives calls) (accepted_in s call)))
    (omega arith)
    (omega (arith, ready_both (first_orders s call) (settled_orders t)))
    k

-- NONE IS HELD FROM A LIFE BEHIND ITS `uciok`, NOR WHERE NO LIFE IS LEFT

abbrev HeldIn : LifeState → Bool → ℕ → Type 0
HeldIn life.Idle false n = n ≡ 0
HeldIn life.Search false n = n ≡ 0
HeldIn life.Over q n = n ≡ 0
HeldIn l q n = Unit {0}

zero_held : (l : LifeState) (q : Bool) → HeldIn l q 0
zero_held life.Idle true = tt
zero_held life.Idle false = refl
zero_held life.Search true = tt
zero_held life.Search false = refl
zero_held life.Over q = refl
zero_held l q = tt

held_is_due : due.Settings ≡ due.Nothing → ⊥
held_is_due e = cc

none_due : (n : ℕ) → due_if_held (nat_lt 0 n) ≡ due.Nothing → n ≡ 0
none_due zero e = refl
none_due (suc n) e = absurd (held_is_due (ap due_if_held (sym (some_owed n)) ∙ e))

not_answered : (u : DialogueState) → answer_to life.Over u ≡ answers.Nothing → ⊥
not_answered upper.Before e = cc
not_answered upper.Boot e = cc
not_answered upper.Idle e = cc
not_answered upper.Placed e = cc
not_answered (upper.Search kinds.Move b) e = cc
not_answered (upper.Search kinds.Ponder true) e = cc
not_answered (upper.Search kinds.Ponder false) e = cc
not_answered (upper.Search kinds.Analyse true) e = cc
not_answered (upper.Search kinds.Analyse false) e = cc

quiet_held : (l : LifeState) (q : Bool) (u : DialogueState) (n : ℕ) → due_to l q u (nat_lt 0 n) ≡ due.Nothing → answer_to l u ≡ answers.Nothing → HeldIn l q n
quiet_held life.Idle true u n d e = tt
quiet_held life.Idle false (upper.Search k b) n d e = absurd (cc)
quiet_held life.Idle false u n d e = none_due n d
quiet_held life.Search true u n d e = tt
quiet_held life.Search false u n d e = none_due n d
quiet_held life.Over q u n d e = absurd (not_answered u e)
quiet_held l q u n d e = tt

settled_held : (d : DueOrders) (w : StandInAnswer) (t : RevivalState) → due_of t ≡ d → answer_of t ≡ w → HeldIn (after_answer w (after_due d t)).life (after_answer w (after_due d t)).quit (after_answer w (after_due d t)).held_ready
settled_held due.Nothing answers.Nothing t e f = quiet_held t.life t.quit t.upper t.held_ready e f
settled_held due.Nothing answers.UciOk t e f = zero_held t.life t.quit
settled_held due.Nothing answers.ReadyOk t e f = zero_held t.life t.quit
settled_held due.Nothing answers.NoMove t e f = zero_held t.life t.quit
settled_held due.Settings answers.Nothing t e f = zero_held t.life t.quit
settled_held due.Settings answers.UciOk t e f = zero_held t.life t.quit
settled_held due.Settings answers.ReadyOk t e f = zero_held t.life t.quit
settled_held due.Settings answers.NoMove t e f = zero_held t.life t.quit
settled_held due.Search answers.Nothing t e f = zero_held life.Search t.quit
settled_held due.Search answers.UciOk t e f = zero_held life.Search t.quit
settled_held due.Search answers.ReadyOk t e f = zero_held life.Search t.quit
settled_held due.Search answers.NoMove t e f = zero_held life.Search t.quit

held_in : (lives : ℕ) (calls : List RevivalCall) → HeldIn (revival_state_of lives calls).life (revival_state_of lives calls).quit (revival_state_of lives calls).held_ready
held_in lives [] = tt
held_in lives (call ∷ calls) =
    let t = state_after_call (revival_state_of lives calls) call in
    settled_held (due_of t) (answer_of t) t refl refl

not_booted : (w w' : LifeWire) → w ≡ w' → has_booted w' ≡ false → has_booted w ≡ true → ⊥
not_booted w w' e f h = true≢false (sym h ∙ ap has_booted e ∙ f)

handed_on : (l : LifeState) (q : Bool) (u : DialogueState) (w : LifeWire) (n : ℕ) → WireIs l q u w → HeldIn l q n → q ≡ false → has_booted w ≡ true → n ≡ 0
handed_on l true u w n h k e b = absurd (true≢false e)
handed_on life.Fresh false u w n h k e b = absurd (not_booted w (Open upper.Before) h refl b)
handed_on life.Boot false u w n h k e b = absurd (not_booted w (Open upper.Boot) h refl b)
handed_on life.Idle false u w n h k e b = k
handed_on life.Search false u w n h k e b = k
handed_on life.Ended false u w n h k e b = absurd (not_booted w Gone h refl b)
handed_on life.Over false u w n h k e b = absurd (not_booted w Gone h refl b)

-- THE LAW

some_by : (q room before : Bool) (u : DialogueState) → q ≡ false → room ≡ true → before ≡ false → (if q || (true && not room) then None else dialogue_where (not before) u) ≡ Some u
some_by true room before u e f g = absurd (true≢false e)
some_by false false before u e f g = absurd (true≢false (sym f))
some_by false true true u e f g = absurd (true≢false g)
some_by false true false u e f g = refl

one_accepted : (s : RevivalState) (line : List ℕ) → is_quit line ≡ false → order_of_line line ≡ Some orders.IsReady → upper_if_accepted s orders.IsReady ≡ Some s.upper → accepted_in s (Order line) ≡ orders.IsReady ∷ []
one_accepted s line e f g =
    ap (λ (q : Bool). if q then [] else accepted_read s (order_of_line line)) e
    ∙ ap (accepted_read s) f
    ∙ ap (λ (w : Option DialogueState). accepted_by w orders.IsReady) g

none_left : (l : LifeState) (q : Bool) (n m : ℕ) → l ≡ life.Over → HeldIn l q n → OwesIn l m → (n ≡ 0) × (m ≡ 0)
none_left life.Over q n m e h k = (h, k)
none_left l q n m e h k = absurd (cc)

pub ready_is_answered : ReadyIsAnswered
ready_is_answered lives calls m =
    let s = revival_state_of lives calls in
    let h = counts lives calls m in
    record {
      counted = h.counted;
      handed_on = λ q b. handed_on s.life s.quit s.upper (wire_of lives calls) s.held_ready (agrees lives calls m).stands.wire_is (held_in lives calls) q b;
      none_left = λ o.
          let n = none_left s.life s.quit s.held_ready s.asked_ready o (held_in lives calls) h.owes in
          omega (arith, h.counted, h.asked, n.0, n.1);
      passed_up = λ line e. ap (λ (w : LifeSaid). gives s w) e ∙ ap (nat_lt 0) h.asked;
      accepted = λ line e f q b room.
          let sum : s.held_ready + s.asked_ready ≡ ready_owed lives calls + s.held_ready = omega (arith, h.asked) in
          let one = one_accepted s line e f (some_by s.quit (has_ready_room s) (is_before s.upper) s.upper q (ap (λ (n : ℕ). nat_lt n MOST_READY) sum ∙ room) b) in
          ready_both (accepted_of lives calls) (accepted_in s (Order line)) ∙ ap (λ (list : List AnyOrder). ready_accepted lives calls + ready_orders list) one;
    }
