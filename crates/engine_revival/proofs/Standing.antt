-- The invariant between the upper dialogue, the life and its wire.
use Rattle.std.proofs.Common.{◌≡◌, ℕ, List, [], ◌∷◌, ◌++◌, Bool, true, false, Some, refl, sym, ap, ◌∙◌, subst, true≢false, if◌then◌else◌, nat_lt}
use Rattle.protocol_tokens.specs.declared.kinds.GoKind.{GoKind}
use Rattle.protocol_tokens.specs.declared.kinds.GoKind.TheVariants as kinds
use Rattle.engine_revival.specs.Orders.{RevivalOrder as AnyOrder}
use Rattle.engine_revival.specs.Orders as orders
use Rattle.engine_revival.specs.declared.words.DialogueState.{DialogueState}
use Rattle.engine_revival.specs.declared.words.DialogueState.TheVariants as upper
use Rattle.engine_revival.specs.declared.words.LifeState.{LifeState}
use Rattle.engine_revival.specs.declared.words.LifeState.TheVariants as life
use Rattle.engine_revival.specs.declared.words.LifeSaid.{LifeSaid}
use Rattle.engine_revival.specs.declared.words.LifeSaid.TheVariants as said
use Rattle.engine_revival.specs.declared.words.DueOrders.{DueOrders}
use Rattle.engine_revival.specs.declared.words.DueOrders.TheVariants as due
use Rattle.engine_revival.specs.declared.words.StandInAnswer.{StandInAnswer}
use Rattle.engine_revival.specs.declared.words.StandInAnswer.TheVariants as answers
use Rattle.engine_revival.specs.declared.state.RevivalState.{RevivalState}
use Rattle.engine_revival.specs.Dialogue.{after_order, after_said, after_hit, after_stop, is_before}
use Rattle.engine_revival.specs.Steps.{readies, due_if_held, takes_at_once, after_at_once, life_after_said, due_to, due_orders, after_due, answer_to, after_answer, is_given, quit_to, first_order, due_of, answer_of, state_once_settled, settled_orders}
use Rattle.engine_revival.specs.Laws.{LifeWire, Open, Closed, Gone, after_life_order, wire_after_order, all_written, open_or_broken, wire_after_heard, is_whole, is_state_search}
use Rattle.engine_revival.proofs.Wires.{reported, behind_readies, behind_setups, readies_alone, AreSetups, SearchIs}

-- the condition of the life on the upper state
abbrev pub UpperIs : LifeState → DialogueState → Type 0
UpperIs life.Fresh u = u ≡ upper.Before
UpperIs life.Search u = is_state_search u ≡ true
UpperIs state u = Unit {0}

-- and of its wire
abbrev pub WireIs : LifeState → Bool → DialogueState → LifeWire → Type 0
WireIs life.Fresh q u w = w ≡ Open upper.Before
WireIs life.Ended q u w = w ≡ Gone
WireIs life.Over q u w = w ≡ Gone
WireIs life.Boot true u w = w ≡ Closed
WireIs life.Boot false u w = w ≡ Open upper.Boot
WireIs life.Idle true u w = w ≡ Closed
WireIs life.Idle false u w = w ≡ Open upper.Idle
WireIs life.Search true u w = w ≡ Closed
WireIs life.Search false u w = w ≡ Open u

pub record Stands (l : LifeState) (q : Bool) (u : DialogueState) (w : LifeWire) : Type 0 where
  pub upper_is : UpperIs l u
  pub wire_is : WireIs l q u w

-- A life that searches got all settings.
abbrev pub AllSent : LifeState → List AnyOrder → Type 0
AllSent life.Search unsent = unsent ≡ []
AllSent state unsent = Unit {0}

nil_sent : (l : LifeState) → AllSent l []
nil_sent life.Search = refl
nil_sent l = tt

pub record Agrees (s : RevivalState) (w : LifeWire) : Type 0 where
  pub stands : Stands s.life s.quit s.upper w
  pub sent : AllSent s.life s.unsent
  pub kept : AreSetups s.kept
  pub unsent : AreSetups s.unsent
  pub search : SearchIs s.upper s.search

pub whole : (l : LifeState) (q : Bool) (u : DialogueState) (w : LifeWire) → WireIs l q u w → is_whole w ≡ true
whole life.Boot true u w h = ap is_whole h
whole l true u w h = ap is_whole h
whole l q u w h = ap is_whole h

-- THE LIFE IS HEARD

-- the upper state then
abbrev upper_heard : LifeSaid → LifeState → DialogueState → Bool → DialogueState
upper_heard word l u got_all = if is_given word l u got_all then after_said u word else u

fresh_heard : (word : LifeSaid) (q got_all : Bool) → Stands life.Fresh q (upper_heard word life.Fresh upper.Before got_all) (wire_after_heard word (Open upper.Before))
fresh_heard said.Introduction q got_all = record { upper_is = refl; wire_is = refl }
fresh_heard said.UciOk q got_all = record { upper_is = refl; wire_is = refl }
fresh_heard said.ReadyOk q true = record { upper_is = refl; wire_is = refl }
fresh_heard said.ReadyOk q false = record { upper_is = refl; wire_is = refl }
fresh_heard said.Report q got_all = record { upper_is = refl; wire_is = refl }
fresh_heard said.Best q got_all = record { upper_is = refl; wire_is = refl }
fresh_heard said.Nothing q got_all = record { upper_is = refl; wire_is = refl }

boot_heard : (word : LifeSaid) (q : Bool) (u up : DialogueState) (w : LifeWire) → WireIs life.Boot q u w → Stands (life_after_said life.Boot word) q up (wire_after_heard word w)
boot_heard said.Introduction true u up w h = record { upper_is = tt; wire_is = ap (wire_after_heard said.Introduction) h }
boot_heard word true u up w h = record { upper_is = tt; wire_is = ap (wire_after_heard word) h }
boot_heard word q u up w h = record { upper_is = tt; wire_is = ap (wire_after_heard word) h }

search_heard : (word : LifeSaid) (got_all : Bool) (q : Bool) (u : DialogueState) (w : LifeWire) → is_state_search u ≡ true → WireIs life.Search q u w → Stands (life_after_said life.Search word) q (upper_heard word life.Search u got_all) (wire_after_heard word w)
search_heard word got_all q upper.Before w e h = absurd (true≢false (sym e))
search_heard word got_all q upper.Boot w e h = absurd (true≢false (sym e))
search_heard word got_all q upper.Idle w e h = absurd (true≢false (sym e))
search_heard word got_all q upper.Placed w e h = absurd (true≢false (sym e))
search_heard said.Best got_all true (upper.Search k b) w e h = record { upper_is = tt; wire_is = ap (wire_after_heard said.Best) h }
search_heard said.Best got_all false (upper.Search k b) w e h = record { upper_is = tt; wire_is = ap (wire_after_heard said.Best) h }
search_heard said.ReadyOk true true (upper.Search k b) w e h = record { upper_is = refl; wire_is = ap (wire_after_heard said.ReadyOk) h }
search_heard said.ReadyOk true false (upper.Search k b) w e h = record { upper_is = refl; wire_is = ap (wire_after_heard said.ReadyOk) h }
search_heard said.ReadyOk false true (upper.Search k b) w e h = record { upper_is = refl; wire_is = ap (wire_after_heard said.ReadyOk) h }
search_heard said.ReadyOk false false (upper.Search k b) w e h = record { upper_is = refl; wire_is = ap (wire_after_heard said.ReadyOk) h }
search_heard word got_all true u w e h = record { upper_is = refl; wire_is = ap (wire_after_heard word) h }
search_heard word got_all q u w e h = record { upper_is = refl; wire_is = ap (wire_after_heard word) h }

pub heard_stands : (l : LifeState) (q : Bool) (u : DialogueState) (w : LifeWire) (word : LifeSaid) (got_all : Bool) → Stands l q u w → Stands (life_after_said l word) q (upper_heard word l u got_all) (wire_after_heard word w)
heard_stands life.Fresh q u w word got_all h =
    subst (λ (x : DialogueState). Stands life.Fresh q (upper_heard word life.Fresh x got_all) (wire_after_heard word w)) (sym h.upper_is)
    (subst (λ (x : LifeWire). Stands life.Fresh q (upper_heard word life.Fresh upper.Before got_all) (wire_after_heard word x)) (sym h.wire_is) (fresh_heard word q got_all))
heard_stands life.Boot q u w word got_all h = boot_heard word q u (upper_heard word life.Boot u got_all) w h.wire_is
heard_stands life.Search q u w word got_all h = search_heard word got_all q u w h.upper_is h.wire_is
heard_stands l true u w word got_all h = record { upper_is = tt; wire_is = ap (wire_after_heard word) h.wire_is }
heard_stands l q u w word got_all h = record { upper_is = tt; wire_is = ap (wire_after_heard word) h.wire_is }

-- AN ORDER

abbrev pub as_it_comes : LifeState → AnyOrder → List AnyOrder
as_it_comes l c = if takes_at_once l c then c ∷ [] else []

some_is : (a b : DialogueState) → Some a ≡ Some b → a ≡ b
some_is a b e = cc

fresh_ordered : (c : AnyOrder) (up : DialogueState) → after_order c upper.Before ≡ Some up → Stands (after_at_once life.Fresh c) false up (all_written (as_it_comes life.Fresh c) (Open upper.Before))
fresh_ordered orders.Uci up e = record { upper_is = tt; wire_is = refl }
fresh_ordered c up e = absurd (cc)

stopped_search : (k : GoKind) (b : Bool) (up : DialogueState) → after_stop (upper.Search k b) ≡ Some up → is_state_search up ≡ true
stopped_search k true up e = absurd (cc)
stopped_search k false up e = subst (λ (x : DialogueState). is_state_search x ≡ true) (some_is (upper.Search k true) up e) refl

hit_search : (k : GoKind) (b : Bool) (up : DialogueState) → after_hit (upper.Search k b) ≡ Some up → is_state_search up ≡ true
hit_search kinds.Move b up e = absurd (cc)
hit_search kinds.Analyse b up e = absurd (cc)
hit_search kinds.Ponder true up e = absurd (cc)
hit_search kinds.Ponder false up e = subst (λ (x : DialogueState). is_state_search x ≡ true) (some_is (upper.Search kinds.Move false) up e) refl

search_ordered : (k : GoKind) (b : Bool) (c : AnyOrder) (up : DialogueState) (w : LifeWire) → after_order c (upper.Search k b) ≡ Some up → w ≡ Open (upper.Search k b) → Stands (after_at_once life.Search c) false up (all_written (as_it_comes life.Search c) w)
search_ordered k b orders.IsReady up w e h =
    let i = some_is (upper.Search k b) up e in
    record { upper_is = subst (λ (x : DialogueState). is_state_search x ≡ true) i refl; wire_is = h ∙ ap Open i }
search_ordered k b orders.Stop up w e h = record { upper_is = stopped_search k b up e; wire_is = ap (wire_after_order orders.Stop) h ∙ ap open_or_broken e }
search_ordered k b orders.PonderHit up w e h = record { upper_is = hit_search k b up e; wire_is = ap (wire_after_order orders.PonderHit) h ∙ ap open_or_broken e }
search_ordered k b c up w e h = absurd (cc)

in_search : (u : DialogueState) (c : AnyOrder) (up : DialogueState) (w : LifeWire) → is_state_search u ≡ true → after_order c u ≡ Some up → w ≡ Open u → Stands (after_at_once life.Search c) false up (all_written (as_it_comes life.Search c) w)
in_search upper.Before c up w s e h = absurd (true≢false (sym s))
in_search upper.Boot c up w s e h = absurd (true≢false (sym s))
in_search upper.Idle c up w s e h = absurd (true≢false (sym s))
in_search upper.Placed c up w s e h = absurd (true≢false (sym s))
in_search (upper.Search k b) c up w s e h = search_ordered k b c up w e h

pub ordered_stands : (l : LifeState) (u : DialogueState) (w : LifeWire) (c : AnyOrder) (up : DialogueState) → after_order c u ≡ Some up → Stands l false u w → Stands (after_at_once l c) false up (all_written (as_it_comes l c) w)
ordered_stands life.Fresh u w c up e h =
    subst (λ (x : LifeWire). Stands (after_at_once life.Fresh c) false up (all_written (as_it_comes life.Fresh c) x)) (sym h.wire_is)
    (fresh_ordered c up (ap (after_order c) (sym h.upper_is) ∙ e))
ordered_stands life.Boot u w c up e h = record { upper_is = tt; wire_is = h.wire_is }
ordered_stands life.Idle u w c up e h = record { upper_is = tt; wire_is = h.wire_is }
ordered_stands life.Search u w c up e h = in_search u c up w h.upper_is e h.wire_is
ordered_stands life.Ended u w c up e h = record { upper_is = tt; wire_is = h.wire_is }
ordered_stands life.Over u w c up e h = record { upper_is = tt; wire_is = h.wire_is }

quit_in_search : (u : DialogueState) → is_state_search u ≡ true → wire_after_order orders.Quit (Open u) ≡ Closed
quit_in_search upper.Before s = absurd (true≢false (sym s))
quit_in_search upper.Boot s = absurd (true≢false (sym s))
quit_in_search upper.Idle s = absurd (true≢false (sym s))
quit_in_search upper.Placed s = absurd (true≢false (sym s))
quit_in_search (upper.Search k b) s = refl

pub quit_stands : (l : LifeState) (q : Bool) (u : DialogueState) (w : LifeWire) → Stands l q u w → Stands l true u (all_written (quit_to q l) w)
quit_stands life.Boot false u w h = record { upper_is = h.upper_is; wire_is = ap (wire_after_order orders.Quit) h.wire_is }
quit_stands life.Idle false u w h = record { upper_is = h.upper_is; wire_is = ap (wire_after_order orders.Quit) h.wire_is }
quit_stands life.Search false u w h = record { upper_is = h.upper_is; wire_is = ap (wire_after_order orders.Quit) h.wire_is ∙ quit_in_search u h.upper_is }
quit_stands l true u w h = record { upper_is = h.upper_is; wire_is = h.wire_is }
quit_stands l q u w h = record { upper_is = h.upper_is; wire_is = h.wire_is }

-- A LIFE BEGINS

pub begin_stands : (u : DialogueState) → Stands (if is_before u then life.Fresh else life.Boot) false u (all_written (first_order u) (Open upper.Before))
begin_stands upper.Before = record { upper_is = refl; wire_is = refl }
begin_stands upper.Boot = record { upper_is = tt; wire_is = refl }
begin_stands upper.Idle = record { upper_is = tt; wire_is = refl }
begin_stands upper.Placed = record { upper_is = tt; wire_is = refl }
begin_stands (upper.Search k b) = record { upper_is = tt; wire_is = refl }

-- WHAT FOLLOWS

abbrev life_due : DueOrders → LifeState → LifeState
life_due due.Search l = life.Search
life_due d l = l

abbrev upper_answered : StandInAnswer → DialogueState → DialogueState
upper_answered answers.Nothing u = u
upper_answered answers.ReadyOk u = u
upper_answered a u = upper.Idle

held_settles : (b : Bool) (u : DialogueState) (w : LifeWire) (unsent : List AnyOrder) (held : ℕ) (search : List AnyOrder) → w ≡ Open upper.Idle → AreSetups unsent → Stands (life_due (due_if_held b) life.Idle) false u (all_written (due_orders (due_if_held b) unsent held search) w)
held_settles true u w unsent held search h a = record {
  upper_is = tt;
  wire_is = ap (all_written (unsent ++ readies held)) h ∙ reported (unsent ++ readies held) upper.Idle upper.Idle (behind_setups unsent (readies held) a ∙ readies_alone held upper.Idle refl);
}
held_settles false u w unsent held search h a = record { upper_is = tt; wire_is = h }

idle_settles : (u : DialogueState) (w : LifeWire) (unsent : List AnyOrder) (held : ℕ) (search : List AnyOrder) → w ≡ Open upper.Idle → AreSetups unsent → SearchIs u search → Stands (life_due (due_to life.Idle false u (nat_lt 0 held)) life.Idle) false u (all_written (due_orders (due_to life.Idle false u (nat_lt 0 held)) unsent held search) w)
idle_settles upper.Before w unsent held search h a s = held_settles (nat_lt 0 held) upper.Before w unsent held search h a
idle_settles upper.Boot w unsent held search h a s = held_settles (nat_lt 0 held) upper.Boot w unsent held search h a
idle_settles upper.Idle w unsent held search h a s = held_settles (nat_lt 0 held) upper.Idle w unsent held search h a
idle_settles upper.Placed w unsent held search h a s = held_settles (nat_lt 0 held) upper.Placed w unsent held search h a
idle_settles (upper.Search k b) w unsent held search h a s =
    let all = unsent ++ (readies held ++ search) in
    record {
      upper_is = refl;
      wire_is = ap (all_written all) h ∙ reported all upper.Idle (upper.Search k b) (behind_setups unsent (readies held ++ search) a ∙ behind_readies held upper.Idle search refl ∙ s refl);
    }

ready_in_search : (u : DialogueState) → is_state_search u ≡ true → after_life_order orders.IsReady u ≡ Some u
ready_in_search upper.Before e = absurd (true≢false (sym e))
ready_in_search upper.Boot e = absurd (true≢false (sym e))
ready_in_search upper.Idle e = absurd (true≢false (sym e))
ready_in_search upper.Placed e = absurd (true≢false (sym e))
ready_in_search (upper.Search k b) e = refl

search_settles : (b : Bool) (u : DialogueState) (w : LifeWire) (unsent : List AnyOrder) (held : ℕ) (search : List AnyOrder) → Stands life.Search false u w → unsent ≡ [] → Stands (life_due (due_if_held b) life.Search) false u (all_written (due_orders (due_if_held b) unsent held search) w)
search_settles true u w unsent held search h n = record {
  upper_is = h.upper_is;
  wire_is =
      ap (λ (x : List AnyOrder). all_written (x ++ readies held) w) n
      ∙ ap (all_written (readies held)) h.wire_is
      ∙ reported (readies held) u u (readies_alone held u (ready_in_search u h.upper_is));
}
search_settles false u w unsent held search h n = record { upper_is = h.upper_is; wire_is = h.wire_is }

settles : (l : LifeState) (q : Bool) (u : DialogueState) (w : LifeWire) (unsent : List AnyOrder) (held : ℕ) (search : List AnyOrder) → Stands l q u w → AreSetups unsent → SearchIs u search → AllSent l unsent
    → Stands (life_due (due_to l q u (nat_lt 0 held)) l) q (upper_answered (answer_to l u) u) (all_written (due_orders (due_to l q u (nat_lt 0 held)) unsent held search) w)
settles life.Idle true u w unsent held search h a s n = record { upper_is = tt; wire_is = h.wire_is }
settles life.Idle false u w unsent held search h a s n = idle_settles u w unsent held search h.wire_is a s
settles life.Search true u w unsent held search h a s n = record { upper_is = h.upper_is; wire_is = h.wire_is }
settles life.Search false u w unsent held search h a s n = search_settles (nat_lt 0 held) u w unsent held search h n
settles life.Over q u w unsent held search h a s n = record { upper_is = tt; wire_is = h.wire_is }
settles l q u w unsent held search h a s n = record { upper_is = h.upper_is; wire_is = h.wire_is }

answered_as : (a : StandInAnswer) (s : RevivalState) (w : LifeWire) → Stands s.life s.quit (upper_answered a s.upper) w → AllSent s.life s.unsent → AreSetups s.kept → AreSetups s.unsent → SearchIs (upper_answered a s.upper) s.search → Agrees (after_answer a s) w
answered_as answers.Nothing s w h n k u e = record { stands = h; sent = n; kept = k; unsent = u; search = e }
answered_as answers.UciOk s w h n k u e = record { stands = h; sent = n; kept = k; unsent = u; search = e }
answered_as answers.ReadyOk s w h n k u e = record { stands = h; sent = n; kept = k; unsent = u; search = e }
answered_as answers.NoMove s w h n k u e = record { stands = h; sent = n; kept = k; unsent = u; search = e }

answered_search : (a : StandInAnswer) (u : DialogueState) (search : List AnyOrder) → SearchIs u search → SearchIs (upper_answered a u) search
answered_search answers.Nothing u search h = h
answered_search answers.UciOk u search h = λ e. absurd (true≢false (sym e))
answered_search answers.ReadyOk u search h = h
answered_search answers.NoMove u search h = λ e. absurd (true≢false (sym e))

due_as : (d : DueOrders) (a : StandInAnswer) (s : RevivalState) (w : LifeWire) → Stands (life_due d s.life) s.quit (upper_answered a s.upper) w → AllSent s.life s.unsent → AreSetups s.kept → AreSetups s.unsent → SearchIs (upper_answered a s.upper) s.search → Agrees (after_answer a (after_due d s)) w
due_as due.Nothing a s w h n k u e = answered_as a s w h n k u e
due_as due.Settings a s w h n k u e = answered_as a (after_due due.Settings s) w h (nil_sent s.life) k tt e
due_as due.Search a s w h n k u e = answered_as a (after_due due.Search s) w h refl k tt e

pub settled_agrees : (s : RevivalState) (w : LifeWire) → Agrees s w → Agrees (state_once_settled s) (all_written (settled_orders s) w)
settled_agrees s w h =
    due_as (due_of s) (answer_of s) s (all_written (settled_orders s) w)
    (settles s.life s.quit s.upper w s.unsent s.held_ready s.search h.stands h.unsent h.search h.sent)
    h.sent h.kept h.unsent (answered_search (answer_of s) s.upper s.search h.search)
