-- Each call keeps the invariant between the upper dialogue, the life and its wire; and so the laws.
use Rattle.std.proofs.Common.{◌≡◌, ◌&&◌, ◌||◌, ℕ, List, [], ◌∷◌, ◌++◌, Bool, true, false, not, Option, Some, None, refl, sym, ap, ◌∙◌, subst, true≢false, if◌then◌else◌, nat_lt}
use Rattle.std.proofs.lemmas.Bool.{and_parts, not-true}
use Rattle.protocol_tokens.specs.declared.kinds.GoKind.TheVariants as kinds
use Rattle.protocol_tokens.specs.Quit.{is_quit}
use Rattle.engine_revival.specs.Orders.{RevivalOrder as AnyOrder}
use Rattle.engine_revival.specs.Orders as orders
use Rattle.engine_revival.specs.Asked.{order_of_line}
use Rattle.engine_revival.specs.declared.words.DialogueState.{DialogueState}
use Rattle.engine_revival.specs.declared.words.DialogueState.TheVariants as upper
use Rattle.engine_revival.specs.declared.words.LifeState.{LifeState}
use Rattle.engine_revival.specs.declared.words.LifeState.TheVariants as life
use Rattle.engine_revival.specs.declared.words.LifeSaid.{LifeSaid}
use Rattle.engine_revival.specs.declared.words.LifeSaid.TheVariants as said
use Rattle.engine_revival.specs.declared.words.DueOrders.{DueOrders}
use Rattle.engine_revival.specs.declared.words.DueOrders.TheVariants as due
use Rattle.engine_revival.specs.declared.words.StandInAnswer.{StandInAnswer}
use Rattle.engine_revival.specs.declared.words.StandInAnswer.TheVariants as answers
use Rattle.engine_revival.specs.declared.state.RevivalState.{RevivalState}
use Rattle.engine_revival.specs.Dialogue.{after_order, after_said, dialogue_where, said_in, is_before, is_dialogue_idle, is_placed}
use Rattle.engine_revival.specs.Lists.{revival_order_can_join}
use Rattle.engine_revival.specs.Steps.{revival_with_value, with_button, state_with_kept, is_order_refused, is_ready_order, has_ready_room, after_at_once, life_after_said, due_to, after_due, answer_to, after_answer, is_given, gives, state_if_accepted, upper_if_accepted, state_after_reading, with_quit, accepted_at_once, read_at_once, quit_to, state_once_heard, may_begin, first_order, due_of, answer_of, settled_orders, is_ended}
use Rattle.engine_revival.specs.Calls.{RevivalCall, Order, Heard, Ended, Begin, Over, may_call, state_after_call, first_orders, orders_to_life, revival_after}
use Rattle.engine_revival.specs.Laws.{LifeWire, Open, wire_after_order, all_written, wire_after_heard, wire_after_call, wire_of, revival_state_of, CallsMayCome, LivesAreInOrder, is_state_search, FitsUp, GivenFits, AnswersFit, IsAnswerIn, NoLifeIdles, is_idle_life}
use Rattle.engine_revival.proofs.Rooms.{where_is, neither, unquit, unrefused}
use Rattle.engine_revival.proofs.Wires.{AreSetups, is_setup, with_setup, is_open, SearchIs, search_more, hit_open, stop_open, search_open, placed_open}
use Rattle.engine_revival.proofs.Standing.{Agrees, AllSent, Stands, UpperIs, as_it_comes, begin_stands, heard_stands, ordered_stands, quit_stands, settled_agrees, whole}

-- AN ORDER THAT IS ACCEPTED

calm : (up next : DialogueState) (search : List AnyOrder) (w : Bool) → dialogue_where w next ≡ Some up → is_open next ≡ false → SearchIs up search
calm up next search w e n = λ o. absurd (true≢false (sym o ∙ ap is_open (sym (where_is w next up e).1) ∙ n))

value_agrees : (w : Bool) (s : RevivalState) (c : AnyOrder) (up : DialogueState) (l : LifeState) (wire : LifeWire) → Stands l s.quit up wire → AllSent l (revival_with_value w s c).unsent → AreSetups s.kept → AreSetups s.unsent → SearchIs up s.search → is_setup c ≡ true → Agrees (record (revival_with_value w s c) { upper = up; life = l }) wire
value_agrees true s c up l wire h z k u e n = record { stands = h; sent = z; kept = with_setup s.kept c k n; unsent = with_setup s.unsent c u n; search = e }
value_agrees false s c up l wire h z k u e n = record { stands = h; sent = z; kept = k; unsent = u; search = e }

button_agrees : (w : Bool) (s : RevivalState) (c : AnyOrder) (up : DialogueState) (l : LifeState) (wire : LifeWire) → Stands l s.quit up wire → AllSent l (with_button w s c).unsent → AreSetups s.kept → AreSetups s.unsent → SearchIs up s.search → is_setup c ≡ true → Agrees (record (with_button w s c) { upper = up; life = l }) wire
button_agrees true s c up l wire h z k u e n = record { stands = h; sent = z; kept = k; unsent = with_setup s.unsent c u n; search = e }
button_agrees false s c up l wire h z k u e n = record { stands = h; sent = z; kept = k; unsent = u; search = e }

-- In a search no setting is accepted.
unset_in_search : (c : AnyOrder) (u up : DialogueState) → is_state_search u ≡ true → after_order c u ≡ Some up → is_setup c ≡ false
unset_in_search (orders.Value n v) upper.Idle up s e = absurd (true≢false (sym s))
unset_in_search (orders.Value n v) u up s e = absurd (cc)
unset_in_search (orders.Button n v) upper.Idle up s e = absurd (true≢false (sym s))
unset_in_search (orders.Button n v) u up s e = absurd (cc)
unset_in_search orders.NewGame upper.Idle up s e = absurd (true≢false (sym s))
unset_in_search orders.NewGame u up s e = absurd (cc)
unset_in_search c u up s e = refl

keeps_unsent : (s : RevivalState) (c : AnyOrder) → is_setup c ≡ false → (state_with_kept s c).unsent ≡ s.unsent
keeps_unsent s (orders.Value n v) e = absurd (true≢false e)
keeps_unsent s (orders.Button n v) e = absurd (true≢false e)
keeps_unsent s orders.NewGame e = absurd (true≢false e)
keeps_unsent s c e = refl

sent_by : (l : LifeState) (c : AnyOrder) (u up : DialogueState) (unsent more : List AnyOrder) → UpperIs l u → after_order c u ≡ Some up → (is_setup c ≡ false → more ≡ unsent) → AllSent l unsent → AllSent (after_at_once l c) more
sent_by life.Fresh orders.Uci u up unsent more h e same n = tt
sent_by life.Fresh c u up unsent more h e same n = tt
sent_by life.Search c u up unsent more h e same n = same (unset_in_search c u up h e) ∙ n
sent_by l c u up unsent more h e same n = tt

once_sent : (s : RevivalState) (c : AnyOrder) (up : DialogueState) (w : LifeWire) → after_order c s.upper ≡ Some up → Agrees s w → AllSent (after_at_once s.life c) (state_with_kept s c).unsent
once_sent s c up w e h = sent_by s.life c s.upper up s.unsent (state_with_kept s c).unsent h.stands.upper_is e (keeps_unsent s c) h.sent

stands_then : (s : RevivalState) (c : AnyOrder) (up : DialogueState) (w : LifeWire) → s.quit ≡ false → after_order c s.upper ≡ Some up → Stands s.life s.quit s.upper w → Stands (after_at_once s.life c) s.quit up (all_written (as_it_comes s.life c) w)
stands_then s c up w f e h =
    subst (λ (q : Bool). Stands (after_at_once s.life c) q up (all_written (as_it_comes s.life c) w)) (sym f)
    (ordered_stands s.life s.upper w c up e (subst (λ (q : Bool). Stands s.life q s.upper w) f h))

accepting_agrees : (s : RevivalState) (c : AnyOrder) (up : DialogueState) (w : LifeWire) → s.quit ≡ false → after_order c s.upper ≡ Some up → Agrees s w → Agrees (state_if_accepted (Some up) s c) (all_written (as_it_comes s.life c) w)
accepting_agrees s orders.Uci up w f e h = record { stands = stands_then s orders.Uci up w f e h.stands; sent = once_sent s orders.Uci up w e h; kept = h.kept; unsent = h.unsent; search = calm up upper.Boot s.search (is_before s.upper) e refl }
accepting_agrees s orders.IsReady up w f e h = record {
  stands = stands_then s orders.IsReady up w f e h.stands;
  sent = once_sent s orders.IsReady up w e h;
  kept = h.kept;
  unsent = h.unsent;
  search = subst (λ (x : DialogueState). SearchIs x s.search) (where_is (not (is_before s.upper)) s.upper up e).1 h.search;
}
accepting_agrees s orders.NewGame up w f e h = record {
  stands = stands_then s orders.NewGame up w f e h.stands;
  sent = once_sent s orders.NewGame up w e h;
  kept = h.kept;
  unsent = with_setup s.unsent orders.NewGame h.unsent refl;
  search = calm up upper.Idle s.search (is_dialogue_idle s.upper) e refl;
}
accepting_agrees s (orders.Value n v) up w f e h =
    let c = orders.Value n v in
    value_agrees (revival_order_can_join s.kept c && revival_order_can_join s.unsent c) s c up (after_at_once s.life c) (all_written (as_it_comes s.life c) w) (stands_then s c up w f e h.stands) (once_sent s c up w e h) h.kept h.unsent (calm up upper.Idle s.search (is_dialogue_idle s.upper) e refl) refl
accepting_agrees s (orders.Button n v) up w f e h =
    let c = orders.Button n v in
    button_agrees (revival_order_can_join s.unsent c) s c up (after_at_once s.life c) (all_written (as_it_comes s.life c) w) (stands_then s c up w f e h.stands) (once_sent s c up w e h) h.kept h.unsent (calm up upper.Idle s.search (is_dialogue_idle s.upper) e refl) refl
accepting_agrees s (orders.Position p) up w f e h = record {
  stands = stands_then s (orders.Position p) up w f e h.stands;
  sent = once_sent s (orders.Position p) up w e h;
  kept = h.kept;
  unsent = h.unsent;
  search = λ o. ap (λ (x : DialogueState). Some x) (where_is (is_dialogue_idle s.upper || is_placed s.upper) upper.Placed up e).1;
}
accepting_agrees s (orders.Go k p) up w f e h =
    let c = orders.Go k p in
    record { stands = stands_then s c up w f e h.stands; sent = once_sent s c up w e h; kept = h.kept; unsent = h.unsent; search = search_more s.upper up s.search c (placed_open s.upper (where_is (is_placed s.upper) (upper.Search k false) up e).0) e h.search }
accepting_agrees s orders.PonderHit up w f e h =
    record { stands = stands_then s orders.PonderHit up w f e h.stands; sent = once_sent s orders.PonderHit up w e h; kept = h.kept; unsent = h.unsent; search = search_more s.upper up s.search orders.PonderHit (search_open s.upper (hit_open s.upper up e)) e h.search }
accepting_agrees s orders.Stop up w f e h =
    record { stands = stands_then s orders.Stop up w f e h.stands; sent = once_sent s orders.Stop up w e h; kept = h.kept; unsent = h.unsent; search = search_more s.upper up s.search orders.Stop (search_open s.upper (stop_open s.upper up e)) e h.search }
accepting_agrees s orders.Quit up w f e h = absurd (cc)

accepted_agrees : (s : RevivalState) (c : AnyOrder) (o : Option DialogueState) (w : LifeWire) → upper_if_accepted s c ≡ o → Agrees s w → Agrees (state_if_accepted o s c) (all_written (accepted_at_once o s.life c) w)
accepted_agrees s c None w e h = h
accepted_agrees s c (Some up) w e h =
    let r = unrefused (is_order_refused s c) (after_order c s.upper) up e in
    accepting_agrees s c up w (neither s.quit (is_ready_order c && not (has_ready_room s)) r).0 (unquit (is_order_refused s c) (after_order c s.upper) up e) h

reading_agrees : (s : RevivalState) (o : Option AnyOrder) (w : LifeWire) → Agrees s w → Agrees (state_after_reading s o) (all_written (read_at_once s o) w)
reading_agrees s None w h = h
reading_agrees s (Some c) w h = accepted_agrees s c (upper_if_accepted s c) w refl h

ordering_agrees : (s : RevivalState) (line : List ℕ) (q : Bool) (w : LifeWire) → Agrees s w → Agrees (if q then with_quit s else state_after_reading s (order_of_line line)) (all_written (if q then quit_to s.quit s.life else read_at_once s (order_of_line line)) w)
ordering_agrees s line true w h = record { stands = quit_stands s.life s.quit s.upper w h.stands; sent = h.sent; kept = h.kept; unsent = h.unsent; search = h.search }
ordering_agrees s line false w h = reading_agrees s (order_of_line line) w h

-- EACH CALL

said_search : (b : Bool) (u : DialogueState) (word : LifeSaid) (search : List AnyOrder) → SearchIs u search → SearchIs (if b then after_said u word else u) search
said_search true upper.Boot said.UciOk search h = λ e. absurd (true≢false (sym e))
said_search true (upper.Search k b) said.Best search h = λ e. absurd (true≢false (sym e))
said_search b u word search h = h

said_sent : (l : LifeState) (word : LifeSaid) (unsent : List AnyOrder) → AllSent l unsent → AllSent (life_after_said l word) unsent
said_sent life.Boot said.UciOk unsent h = tt
said_sent life.Boot word unsent h = tt
said_sent life.Search said.Best unsent h = tt
said_sent life.Search word unsent h = h
said_sent l word unsent h = tt

begun_sent : (w : Bool) (unsent : List AnyOrder) → AllSent (if w then life.Fresh else life.Boot) unsent
begun_sent true unsent = tt
begun_sent false unsent = tt

hearing_agrees : (s : RevivalState) (word : LifeSaid) (w : LifeWire) → Agrees s w → Agrees (state_once_heard s word) (wire_after_heard word w)
hearing_agrees s word w h = record {
  stands = heard_stands s.life s.quit s.upper w word (nat_lt 0 s.asked_ready) h.stands;
  sent = said_sent s.life word s.unsent h.sent;
  kept = h.kept;
  unsent = h.unsent;
  search = said_search (gives s word) s.upper word s.search h.search;
}

begins_unquit : (s : RevivalState) → may_begin s ≡ true → s.quit ≡ false
begins_unquit s h = not-true s.quit (and_parts (nat_lt s.begun s.lives) (not s.quit) (and_parts (nat_lt s.begun s.lives && not s.quit) (not s.full) h).0).1

pub turned_agrees : (s : RevivalState) (call : RevivalCall) (w : LifeWire) → may_call s call ≡ true → Agrees s w → Agrees (state_after_call s call) (all_written (first_orders s call) (wire_after_call call w))
turned_agrees s (Order line) w m h = ordering_agrees s line (is_quit line) w h
turned_agrees s (Heard line) w m h = hearing_agrees s (said_in line) w h
turned_agrees s Ended w m h = record { stands = record { upper_is = tt; wire_is = refl }; sent = tt; kept = h.kept; unsent = h.unsent; search = h.search }
turned_agrees s Begin w m h = record {
  stands = subst (λ (q : Bool). Stands (if is_before s.upper then life.Fresh else life.Boot) q s.upper (all_written (first_order s.upper) (Open upper.Before))) (sym (begins_unquit s (and_parts (is_ended s.life) (may_begin s) m).1)) (begin_stands s.upper);
  sent = begun_sent (is_before s.upper) s.kept;
  kept = h.kept;
  unsent = h.kept;
  search = h.search;
}
turned_agrees s Over w m h = record { stands = record { upper_is = tt; wire_is = refl }; sent = tt; kept = h.kept; unsent = h.unsent; search = h.search }

written_behind : (a b : List AnyOrder) (w : LifeWire) → all_written (a ++ b) w ≡ all_written b (all_written a w)
written_behind [] b w = refl
written_behind (c ∷ cs) b w = written_behind cs b (wire_after_order c w)

call_agrees : (s : RevivalState) (call : RevivalCall) (w : LifeWire) → may_call s call ≡ true → Agrees s w → Agrees (revival_after s call) (all_written (orders_to_life s call) (wire_after_call call w))
call_agrees s call w m h =
    subst (λ (x : LifeWire). Agrees (revival_after s call) x) (sym (written_behind (first_orders s call) (settled_orders (state_after_call s call)) (wire_after_call call w)))
    (settled_agrees (state_after_call s call) (all_written (first_orders s call) (wire_after_call call w)) (turned_agrees s call w m h))

-- THE LAWS

pub agrees : (lives : ℕ) (calls : List RevivalCall) → CallsMayCome lives calls → Agrees (revival_state_of lives calls) (wire_of lives calls)
agrees lives [] m = record { stands = record { upper_is = refl; wire_is = refl }; sent = tt; kept = tt; unsent = tt; search = λ e. absurd (true≢false (sym e)) }
agrees lives (call ∷ calls) m = call_agrees (revival_state_of lives calls) call (wire_of lives calls) m.1 (agrees lives calls m.0)

pub in_order : LivesAreInOrder
in_order lives calls m =
    let s = revival_state_of lives calls in
    whole s.life s.quit s.upper (wire_of lives calls) (agrees lives calls m).stands.wire_is

given_fits : (word : LifeSaid) (l : LifeState) (u : DialogueState) (g : Bool) → UpperIs l u → is_given word l u g ≡ true → FitsUp word u
given_fits said.Introduction l upper.Boot g h e = refl
given_fits said.UciOk l upper.Boot g h e = refl
given_fits said.ReadyOk l u g h e = tt
given_fits said.Report life.Search u g h e = h
given_fits said.Best life.Search u g h e = h
given_fits word l u g h e = absurd (true≢false (sym e))

pub given_is_waited_for : GivenFits
given_is_waited_for lives calls line m e =
    let s = revival_state_of lives calls in
    given_fits (said_in line) s.life s.upper (nat_lt 0 s.asked_ready) (agrees lives calls m).stands.upper_is e

answer_fits : (s : RevivalState) (l : LifeState) (u : DialogueState) → s.life ≡ l → s.upper ≡ u → IsAnswerIn (answer_to l u) s
answer_fits s life.Over upper.Boot e f = (e, f)
answer_fits s life.Over (upper.Search kinds.Move b) e f = (e, ap is_state_search f)
answer_fits s life.Over (upper.Search x true) e f = (e, ap is_state_search f)
answer_fits s life.Over u e f = (e, tt)
answer_fits s l u e f = tt

pub answers_are_waited_for : AnswersFit
answers_are_waited_for s = answer_fits s s.life s.upper refl refl

quiet : (l : LifeState) (q : Bool) (u : DialogueState) (b : Bool) → due_to l q u b ≡ due.Nothing → q ≡ false → is_idle_life l ≡ true → is_state_search u ≡ false
quiet life.Idle true u b d e i = absurd (true≢false e)
quiet life.Idle false (upper.Search k s) b d e i = absurd (cc)
quiet life.Idle q u b d e i = refl
quiet l q u b d e i = absurd (true≢false (sym i))

asks_alone : (l : LifeState) (q : Bool) (u : DialogueState) (b : Bool) → due_to l q u b ≡ due.Settings → q ≡ false → is_idle_life l ≡ true → is_state_search u ≡ false
asks_alone life.Idle true u b d e i = absurd (true≢false e)
asks_alone life.Idle false (upper.Search k s) b d e i = absurd (cc)
asks_alone life.Idle q u b d e i = refl
asks_alone l q u b d e i = absurd (true≢false (sym i))

no_idle_by : (d : DueOrders) (a : StandInAnswer) (t : RevivalState) → due_of t ≡ d → (after_answer a (after_due d t)).quit ≡ false → is_idle_life (after_answer a (after_due d t)).life ≡ true → is_state_search (after_answer a (after_due d t)).upper ≡ false
no_idle_by d answers.UciOk t e q i = refl
no_idle_by d answers.NoMove t e q i = refl
no_idle_by due.Search answers.Nothing t e q i = absurd (true≢false (sym i))
no_idle_by due.Search answers.ReadyOk t e q i = absurd (true≢false (sym i))
no_idle_by due.Settings answers.Nothing t e q i = asks_alone t.life t.quit t.upper (nat_lt 0 t.held_ready) e q i
no_idle_by due.Settings answers.ReadyOk t e q i = asks_alone t.life t.quit t.upper (nat_lt 0 t.held_ready) e q i
no_idle_by due.Nothing answers.Nothing t e q i = quiet t.life t.quit t.upper (nat_lt 0 t.held_ready) e q i
no_idle_by due.Nothing answers.ReadyOk t e q i = quiet t.life t.quit t.upper (nat_lt 0 t.held_ready) e q i

pub no_idle : NoLifeIdles
no_idle s call q i = no_idle_by (due_of (state_after_call s call)) (answer_of (state_after_call s call)) (state_after_call s call) refl q i
