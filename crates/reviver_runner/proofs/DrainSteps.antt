-- After the last life.
use Rattle.std.proofs.Common.{◌≡◌, ℕ, List, [], ◌∷◌, ◌++◌, map, codes, Bool, true, false, cond, not, ◌||◌, Option, Some, None, refl, sym, ap, subst, ◌∙◌, arith, nat_lt, append-nil, append_assoc}
use Rattle.std.proofs.lemmas.List.{map-append}
use Rattle.std.proofs.lemmas.List.Elements.{filter-append}
use Rattle.std.proofs.lemmas.List.Folds.{list_any-append}
use Rattle.line_io.specs.Event.{Event, Iface, IfaceLong, IfaceEnd}
use Rattle.protocol_tokens.specs.Quit.{is_quit}
use Rattle.engine_revival.specs.Orders.{RevivalOrder as AnyOrder}
use Rattle.engine_revival.specs.Asked.{order_of_line}
use Rattle.engine_revival.specs.declared.state.RevivalState.{RevivalState}
use Rattle.engine_revival.specs.declared.words.DialogueState.{DialogueState}
use Rattle.engine_revival.specs.declared.words.LifeState.{LifeState}
use Rattle.engine_revival.specs.declared.words.LifeState.TheVariants as life
use Rattle.engine_revival.specs.Lists.{revival_batch_text}
use Rattle.engine_revival.specs.Steps.{is_ended, quit_to, read_at_once, accepted_at_once, upper_if_accepted, at_once, due_to, due_orders, settled_orders, state_after_line, state_after_reading, state_if_accepted, with_quit, after_at_once}
use Rattle.engine_revival.specs.Calls.{Order, revival_after, child_of}
use Rattle.engine_revival.specs.Script.{may_happen, revival_state_after, state_behind, revival_event_text}
use Rattle.event_pipe.specs.Events.{of}
use Rattle.event_pipe.specs.Message.{event_meaning}
use Rattle.event_pipe.proofs.Keeps.{of-append}
use Rattle.reviver_runner.specs.Looped.{LoopState, PlayedUp}
use Rattle.program_lifecycle.specs.Streams.{Offered}
use Rattle.reviver_runner.specs.Played.{event_up, event_child, lines_to_child, is_heard, is_order, is_life_end_mark, has_close, as_long, is_heard_order, reported_of, ends_in}
use Rattle.reviver_runner.specs.Drained.{InterfaceDrained}
use Rattle.reviver_runner.proofs.Appends.{up_none, up_one, up_both, child_append}
use Rattle.reviver_runner.proofs.LifeSteps.{ends_append}
use Rattle.reviver_runner.proofs.SettledSteps.{settled_over}
use Rattle.reviver_runner.proofs.Stays.{event_stays}

pub order_heard : (e : Event) → is_order e ≡ true → is_heard e ≡ true
order_heard (Iface line) h = refl
order_heard IfaceEnd h = refl
order_heard e h = cc

open_still : (l : LifeState) → l ≡ life.Over → not (is_ended l) ≡ true
open_still l h = ap (λ (x : LifeState). not (is_ended x)) h

pub may_order : (s : RevivalState) (e : Event) → s.life ≡ life.Over → is_order e ≡ true → may_happen s e ≡ true
may_order s (Iface line) a h = open_still s.life a
may_order s IfaceEnd a h = open_still s.life a
may_order s e a h = cc

-- NOTHING IS WRITTEN TO NO LIFE

either_none : (b : Bool) (x y : List AnyOrder) → x ≡ [] → y ≡ [] → cond b x y ≡ []
either_none true x y h k = h
either_none false x y h k = k

quit_to_over : (q : Bool) → quit_to q life.Over ≡ []
quit_to_over true = refl
quit_to_over false = refl

once_over : (up : Option DialogueState) (order : AnyOrder) → accepted_at_once up life.Over order ≡ []
once_over None order = refl
once_over (Some up) order = refl

read_over : (s : RevivalState) (order : Option AnyOrder) → s.life ≡ life.Over → read_at_once s order ≡ []
read_over s None h = refl
read_over s (Some order) h = ap (λ (l : LifeState). accepted_at_once (upper_if_accepted s order) l order) h ∙ once_over (upper_if_accepted s order) order

at_once_over : (s : RevivalState) (line : List ℕ) → s.life ≡ life.Over → at_once s line ≡ []
at_once_over s line h = either_none (is_quit line) _ _ (ap (λ (l : LifeState). quit_to s.quit l) h ∙ quit_to_over s.quit) (read_over s (order_of_line line) h)

settled_none : (s : RevivalState) → s.life ≡ life.Over → settled_orders s ≡ []
settled_none s h = ap (λ (l : LifeState). due_orders (due_to l s.quit s.upper (nat_lt 0 s.held_ready)) s.unsent s.held_ready s.search) h

accepting_over : (up : Option DialogueState) (s : RevivalState) (order : AnyOrder) → s.life ≡ life.Over → (state_if_accepted up s order).life ≡ life.Over
accepting_over None s order h = h
accepting_over (Some up) s order h = ap (λ (l : LifeState). after_at_once l order) h

reading_over : (s : RevivalState) (order : Option AnyOrder) → s.life ≡ life.Over → (state_after_reading s order).life ≡ life.Over
reading_over s None h = h
reading_over s (Some order) h = accepting_over (upper_if_accepted s order) s order h

either_over : (b : Bool) (s t : RevivalState) → s.life ≡ life.Over → t.life ≡ life.Over → (cond b s t).life ≡ life.Over
either_over true s t h k = h
either_over false s t h k = k

ordering_over : (s : RevivalState) (line : List ℕ) → s.life ≡ life.Over → (state_after_line s line).life ≡ life.Over
ordering_over s line h = either_over (is_quit line) (with_quit s) (state_after_reading s (order_of_line line)) h (reading_over s (order_of_line line) h)

order_child : (s : RevivalState) (line : List ℕ) → s.life ≡ life.Over → child_of s (Order line) ≡ []
order_child s line h = ap revival_batch_text (ap (λ (l : List AnyOrder). l ++ settled_orders (state_after_line s line)) (at_once_over s line h) ∙ settled_none (state_after_line s line) (ordering_over s line h))

order_over : (s : RevivalState) (line : List ℕ) → s.life ≡ life.Over → (revival_after s (Order line)).life ≡ life.Over
order_over s line h = settled_over (state_after_line s line) (ordering_over s line h)

event_child_over : (s : RevivalState) (e : Event) → is_order e ≡ true → s.life ≡ life.Over → event_child s e ≡ []
event_child_over s (Iface line) o h = order_child s line h
event_child_over s IfaceEnd o h = order_child s (codes "quit") h
event_child_over s e o h = cc

event_over : (s : RevivalState) (e : Event) → is_order e ≡ true → s.life ≡ life.Over → (revival_state_after s e).life ≡ life.Over
event_over s (Iface line) o h = order_over s line h
event_over s IfaceEnd o h = order_over s (codes "quit") h
event_over s e o h = cc

-- ONE EVENT OF THE INTERFACE

-- nothing was heard
passed_by : (a b : LoopState) → b ≡ record a { events = b.events } → PlayedUp a b []
passed_by a b same = let none = up_none a in subst (λ (s : LoopState). PlayedUp a s []) (sym same) (record { may = none.may; state_is = none.state_is; up = none.up; marks = none.marks })

order_open : (e : Event) → is_order e ≡ true → has_close (e ∷ []) ≡ false
order_open (Iface line) h = refl
order_open IfaceEnd h = refl
order_open e h = cc

order_reported : (e : Event) → is_order e ≡ true → map as_long (e ∷ []) ≡ reported_of (of 1 (e ∷ []))
order_reported (Iface line) h = refl
order_reported IfaceEnd h = refl
order_reported e h = cc

-- of no order nothing is reported
other_reported : (e : Event) → is_order e ≡ false → reported_of (of 1 (e ∷ [])) ≡ []
other_reported (Iface line) h = cc
other_reported IfaceEnd h = cc
other_reported e h = refl

pub drained_order : (a b : LoopState) (e : Event) → is_order e ≡ true → a.state.life ≡ life.Over → b.events ≡ a.events ++ e ∷ [] → b.state ≡ revival_state_after a.state e
    → Offered a.failed.output b.failed.output a.output b.output (event_up a.state e) → Offered a.failed.log b.failed.log a.log b.log (revival_event_text a.state e) → InterfaceDrained a b
drained_order a b e order over took z u v =
    record {
      events = e ∷ [];
      played = up_one a b e (may_order a.state e over order) z u v;
      over = ap (λ (x : RevivalState). x.life) z ∙ event_over a.state e order over;
      begun = ap (λ (x : RevivalState). x.begun) z ∙ (event_stays a.state e (order_heard e order)).begun;
      open_ended = order_open e order;
      unwritten = append-nil (event_child a.state e) ∙ event_child_over a.state e order over;
      got = e ∷ [];
      taken_is = took;
      got_are = order_reported e order;
    }

pub drained_passed : (a b : LoopState) → a.state.life ≡ life.Over → b ≡ record a { events = b.events } → (e : Event) → is_order e ≡ false → b.events ≡ a.events ++ e ∷ [] → InterfaceDrained a b
drained_passed a b over same e other took =
    record {
      events = [];
      played = passed_by a b same;
      over = ap (λ (x : LoopState). x.state.life) same ∙ over;
      begun = ap (λ (x : LoopState). x.state.begun) same;
      open_ended = refl;
      unwritten = refl;
      got = e ∷ [];
      taken_is = took;
      got_are = sym (other_reported e other);
    }

pub drained_none : (a : LoopState) → a.state.life ≡ life.Over → InterfaceDrained a a
drained_none a over =
    record {
      events = [];
      played = up_none a;
      over = over;
      begun = refl;
      open_ended = refl;
      unwritten = refl;
      got = [];
      taken_is = sym (append-nil a.events);
      got_are = refl;
    }

pub drained_both : (a b c : LoopState) → InterfaceDrained a b → InterfaceDrained b c → InterfaceDrained a c
drained_both a b c x y =
    record {
      events = x.events ++ y.events;
      played = up_both a b c x.events y.events x.played y.played;
      over = y.over;
      begun = y.begun ∙ x.begun;
      open_ended = list_any-append is_life_end_mark x.events y.events ∙ ap (λ (b : Bool). b || has_close y.events) x.open_ended ∙ y.open_ended;
      unwritten =
          child_append a.state x.events y.events ∙ ap (λ (t : List ℕ). t ++ lines_to_child (state_behind a.state x.events) y.events) x.unwritten
          ∙ ap (λ (z : RevivalState). lines_to_child z y.events) (sym x.played.state_is) ∙ y.unwritten;
      got = x.got ++ y.got;
      taken_is = y.taken_is ∙ ap (λ (t : List Event). t ++ y.got) x.taken_is ∙ append_assoc a.events x.got y.got;
      got_are = map-append as_long x.events y.events ∙ ap (λ (t : List Event). t ++ map as_long y.events) x.got_are ∙ ap (λ (t : List Event). reported_of (of 1 x.got) ++ t) y.got_are ∙ sym (filter-append is_heard_order (of 1 x.got) (of 1 y.got)) ∙ ap reported_of (sym (of-append event_meaning 1 x.got y.got));
    }
