-- The orders of the open search are those accepted from the last `position` on.
use Rattle.std.proofs.Common.{◌≡◌, ℕ, List, [], ◌∷◌, ◌++◌, Bool, true, false, not, Option, Some, None, refl, sym, ap, ◌∙◌, true≢false, if◌then◌else◌}
use Rattle.protocol_tokens.specs.Quit.{is_quit}
use Rattle.engine_revival.specs.Orders.{RevivalOrder as AnyOrder}
use Rattle.engine_revival.specs.Orders as orders
use Rattle.engine_revival.specs.Asked.{order_of_line}
use Rattle.engine_revival.specs.declared.words.DialogueState.{DialogueState}
use Rattle.engine_revival.specs.declared.words.DialogueState.TheVariants as upper
use Rattle.engine_revival.specs.declared.words.LifeSaid.{LifeSaid}
use Rattle.engine_revival.specs.declared.words.LifeSaid.TheVariants as said
use Rattle.engine_revival.specs.declared.words.DueOrders.{DueOrders}
use Rattle.engine_revival.specs.declared.words.DueOrders.TheVariants as due
use Rattle.engine_revival.specs.declared.words.StandInAnswer.{StandInAnswer}
use Rattle.engine_revival.specs.declared.words.StandInAnswer.TheVariants as answers
use Rattle.engine_revival.specs.declared.state.RevivalState.{RevivalState}
use Rattle.engine_revival.specs.Dialogue.{after_order, after_said, said_in, dialogue_where, is_before, is_dialogue_idle, is_placed}
use Rattle.engine_revival.specs.Steps.{is_order_refused, upper_if_accepted, state_if_accepted, after_answer, after_due, answer_of, due_of, gives, state_once_heard, state_after_reading, with_quit}
use Rattle.engine_revival.specs.Calls.{RevivalCall, Order, Heard, Ended, Begin, Over, state_after_call}
use Rattle.engine_revival.specs.Laws.{CallsMayCome, accepted_by, accepted_in, accepted_of, accepted_read, seen_then, since_position, revival_state_of}
use Rattle.engine_revival.proofs.Rooms.{where_is, unquit}
use Rattle.engine_revival.proofs.Wires.{is_open, hit_open, placed_open, search_open, stop_open}

-- so it is of these accepted orders
abbrev pub Since : DialogueState → List AnyOrder → List AnyOrder → Type 0
Since u search list = is_open u ≡ true → search ≡ since_position list []

since_last : (list seen : List AnyOrder) (c : AnyOrder) → since_position (list ++ c ∷ []) seen ≡ seen_then c (since_position list seen)
since_last [] seen c = refl
since_last (x ∷ xs) seen c = since_last xs (seen_then x seen) c

nil_behind : (xs : List AnyOrder) → xs ++ [] ≡ xs
nil_behind [] = refl
nil_behind (x ∷ xs) = ap (λ (t : List AnyOrder). x ∷ t) (nil_behind xs)

-- no search is open
calm : (up next : DialogueState) (search list : List AnyOrder) (w : Bool) → dialogue_where w next ≡ Some up → is_open next ≡ false → Since up search list
calm up next search list w e n = λ o. absurd (true≢false (sym o ∙ ap is_open (sym (where_is w next up e).1) ∙ n))

-- one more order of the open search
more : (u up : DialogueState) (search list : List AnyOrder) (c : AnyOrder) → is_open u ≡ true → seen_then c (since_position list []) ≡ since_position list [] ++ c ∷ [] → Since u search list → Since up (search ++ c ∷ []) (list ++ c ∷ [])
more u up search list c o e h = λ open_up. ap (λ (t : List AnyOrder). t ++ c ∷ []) (h o) ∙ sym e ∙ sym (since_last list [] c)

accepting_since : (s : RevivalState) (c : AnyOrder) (up : DialogueState) (list : List AnyOrder) → after_order c s.upper ≡ Some up → Since s.upper s.search list → Since up (state_if_accepted (Some up) s c).search (list ++ c ∷ [])
accepting_since s orders.Uci up list e h = calm up upper.Boot s.search (list ++ orders.Uci ∷ []) (is_before s.upper) e refl
accepting_since s orders.IsReady up list e h =
    let i = (where_is (not (is_before s.upper)) s.upper up e).1 in
    λ o. h (ap is_open i ∙ o) ∙ sym (since_last list [] orders.IsReady)
accepting_since s orders.NewGame up list e h = calm up upper.Idle s.search (list ++ orders.NewGame ∷ []) (is_dialogue_idle s.upper) e refl
accepting_since s (orders.Value n v) up list e h = calm up upper.Idle (state_if_accepted (Some up) s (orders.Value n v)).search (list ++ orders.Value n v ∷ []) (is_dialogue_idle s.upper) e refl
accepting_since s (orders.Button n v) up list e h = calm up upper.Idle (state_if_accepted (Some up) s (orders.Button n v)).search (list ++ orders.Button n v ∷ []) (is_dialogue_idle s.upper) e refl
accepting_since s (orders.Position p) up list e h = λ o. sym (since_last list [] (orders.Position p))
accepting_since s (orders.Go k p) up list e h =
    more s.upper up s.search list (orders.Go k p) (placed_open s.upper (where_is (is_placed s.upper) (upper.Search k false) up e).0) refl h
accepting_since s orders.PonderHit up list e h = more s.upper up s.search list orders.PonderHit (search_open s.upper (hit_open s.upper up e)) refl h
accepting_since s orders.Stop up list e h = more s.upper up s.search list orders.Stop (search_open s.upper (stop_open s.upper up e)) refl h
accepting_since s orders.Quit up list e h = absurd (cc)

same_since : (u : DialogueState) (search list : List AnyOrder) → Since u search list → Since u search (list ++ [])
same_since u search list h = λ o. h o ∙ ap (λ (t : List AnyOrder). since_position t []) (sym (nil_behind list))

accepted_since : (s : RevivalState) (c : AnyOrder) (o : Option DialogueState) (list : List AnyOrder) → upper_if_accepted s c ≡ o → Since s.upper s.search list → Since (state_if_accepted o s c).upper (state_if_accepted o s c).search (list ++ accepted_by o c)
accepted_since s c None list e h = same_since s.upper s.search list h
accepted_since s c (Some up) list e h = accepting_since s c up list (unquit (is_order_refused s c) (after_order c s.upper) up e) h

reading_since : (s : RevivalState) (o : Option AnyOrder) (list : List AnyOrder) → Since s.upper s.search list → Since (state_after_reading s o).upper (state_after_reading s o).search (list ++ accepted_read s o)
reading_since s None list h = same_since s.upper s.search list h
reading_since s (Some c) list h = accepted_since s c (upper_if_accepted s c) list refl h

ordering_since : (s : RevivalState) (line : List ℕ) (q : Bool) (list : List AnyOrder) → Since s.upper s.search list
    → Since (if q then with_quit s else state_after_reading s (order_of_line line)).upper (if q then with_quit s else state_after_reading s (order_of_line line)).search (list ++ (if q then [] else accepted_read s (order_of_line line)))
ordering_since s line true list h = same_since s.upper s.search list h
ordering_since s line false list h = reading_since s (order_of_line line) list h

said_since : (b : Bool) (u : DialogueState) (word : LifeSaid) (search list : List AnyOrder) → Since u search list → Since (if b then after_said u word else u) search list
said_since true upper.Boot said.UciOk search list h = λ e. absurd (true≢false (sym e))
said_since true (upper.Search k b) said.Best search list h = λ e. absurd (true≢false (sym e))
said_since b u word search list h = h

turned_since : (s : RevivalState) (call : RevivalCall) (list : List AnyOrder) → Since s.upper s.search list → Since (state_after_call s call).upper (state_after_call s call).search (list ++ accepted_in s call)
turned_since s (Order line) list h = ordering_since s line (is_quit line) list h
turned_since s (Heard line) list h = same_since (state_once_heard s (said_in line)).upper s.search list (said_since (gives s (said_in line)) s.upper (said_in line) s.search list h)
turned_since s Ended list h = same_since s.upper s.search list h
turned_since s Begin list h = same_since s.upper s.search list h
turned_since s Over list h = same_since s.upper s.search list h

answered_since : (a : StandInAnswer) (s : RevivalState) (list : List AnyOrder) → Since s.upper s.search list → Since (after_answer a s).upper (after_answer a s).search list
answered_since answers.Nothing s list h = h
answered_since answers.UciOk s list h = λ e. absurd (true≢false (sym e))
answered_since answers.ReadyOk s list h = h
answered_since answers.NoMove s list h = λ e. absurd (true≢false (sym e))

due_since : (d : DueOrders) (s : RevivalState) (list : List AnyOrder) → Since s.upper s.search list → Since (after_due d s).upper (after_due d s).search list
due_since due.Nothing s list h = h
due_since due.Settings s list h = h
due_since due.Search s list h = h

searches_since : (lives : ℕ) (calls : List RevivalCall) → Since (revival_state_of lives calls).upper (revival_state_of lives calls).search (accepted_of lives calls)
searches_since lives [] = λ e. absurd (true≢false (sym e))
searches_since lives (call ∷ calls) =
    let s = revival_state_of lives calls in
    let t = state_after_call s call in
    answered_since (answer_of t) (after_due (due_of t) t) (accepted_of lives (call ∷ calls))
    (due_since (due_of t) t (accepted_of lives (call ∷ calls)) (turned_since s call (accepted_of lives calls) (searches_since lives calls)))

pub searches_turned : (lives : ℕ) (call : RevivalCall) (calls : List RevivalCall) → CallsMayCome lives (call ∷ calls) → Since (state_after_call (revival_state_of lives calls) call).upper (state_after_call (revival_state_of lives calls) call).search (accepted_of lives (call ∷ calls))
searches_turned lives call calls m = turned_since (revival_state_of lives calls) call (accepted_of lives calls) (searches_since lives calls)
