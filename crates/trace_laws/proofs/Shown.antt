-- A search is answered by at most one shown move.
use Rattle.std.proofs.Common.{◌≡◌, ℕ, ◌+◌, ◌≤◌, List, [], ◌∷◌, map, length, Bool, true, false, cond, Option, Some, None, refl, sym, subst, arith}
use Rattle.cecp_lines.specs.Replies.{Reply}
use Rattle.uci_lines.specs.Orders.{Order}
use Rattle.uci_lines.specs.Orders as orders
use Rattle.policy_rules.specs.declared.setting_rules.settings.Settings.{Settings}
use Rattle.search_epochs.specs.declared.words.Said.{Said}
use Rattle.search_epochs.specs.declared.words.Said.TheVariants as said
use Rattle.search_epochs.specs.Tickets.{Engine, Boot, Getting, Idle, Search, Gone, Word, Go, Ticketed, engine_after_heard, said_of_event, engine_after_word, sent_all, is_move}
use Rattle.search_epochs.specs.Dialogue.{forget}
use Rattle.desk_rules.specs.Steps.{Effect, Shows, what_of}
use Rattle.desk_rules.specs.Replies.{replies_of}
use Rattle.desk_rules.specs.Orders.{dialogue_word_of}
use Rattle.desk_rules.specs.Fits.{EffectFitsDesk, IsCurrentMove}
use Rattle.adapter_core.specs.Trace.{State, Step, IsLawfulStep, LawfulTrace, state, situation_of_state, effect, mid, owed_after, closed_after, step_hits}
use Rattle.adapter_core.specs.Shown.{moves_shown}
use Rattle.adapter_core.proofs.Shown.{shown_by, open_shows}
use Rattle.adapter_core.proofs.Traces.{Lasts, lasts, fits}
use Rattle.trace_laws.specs.Dialogue.{orders_begin_search, shown_since_go, SearchesShowOnce}

abbrev searches : Engine → Bool
searches (Search k t s) = true
searches e = false

-- WHAT OPENS A SEARCH

heard_none : (e : Engine) (w : Option Said) → searches (engine_after_heard e w) ≡ true → searches e ≡ true
heard_none (Search k t s) w x = refl
heard_none e (Some said.UciOk) x = cc
heard_none e None x = x
heard_none e w x = cc

abbrev is_go : Word → Bool
is_go (Go k) = true
is_go w = false

sent_none : (n : ℕ) (e : Engine) (w : Word) → is_go w ≡ false → searches (engine_after_word n e w) ≡ true → searches e ≡ true
sent_none n (Search k t s) w g x = refl
sent_none n e (Go k) g x = cc
sent_none n e w g x = cc

written_none : (n : ℕ) (e : Engine) (os : List Order) → orders_begin_search os ≡ false → searches (sent_all n e (map dialogue_word_of os)) ≡ true → searches e ≡ true
written_none n e [] b x = x
written_none n e (orders.Go ponder control depth ∷ later) b x = cc
written_none n e (order ∷ later) b x = sent_none n e (dialogue_word_of order) refl (written_none n (engine_after_word n e (dialogue_word_of order)) later b x)

-- HOW MANY WERE SHOWN SINCE

record AreFew (e : Engine) (n : ℕ) : Type 0 where
  few : n ≤ 1
  none : searches e ≡ true → n ≡ 0

shows_to : (epoch n : ℕ) (e : Engine) → IsCurrentMove (forget epoch e) → AreFew e n → AreFew (engine_after_heard e (Some said.Best)) (n + 1)
shows_to epoch n Boot i a = cc
shows_to epoch n Getting i a = cc
shows_to epoch n Idle i a = cc
shows_to epoch n Gone i a = cc
shows_to epoch n (Search k t s) i a = record { few = omega (arith, a.none refl); none = λ x. cc }

stays_few : (n : ℕ) (e : Engine) (w : Option Said) → AreFew e n → AreFew (engine_after_heard e w) (n + 0)
stays_few n e w a = record { few = omega (arith, a.few); none = λ x. omega (arith, a.none (heard_none e w x)) }

by_effect : (s : State) (n : ℕ) (d : Effect) → EffectFitsDesk (situation_of_state s) s.held d → AreFew s.dialogue.engine n → AreFew (engine_after_heard s.dialogue.engine (said_of_event (what_of d))) (n + length (shown_by d))
by_effect s n (Shows best hint) f a = shows_to s.dialogue.epoch n s.dialogue.engine f.1 a
by_effect s n d f a = stays_few n s.dialogue.engine (said_of_event (what_of d)) a

by_closed : (s : State) (n : ℕ) (d : Effect) (closed owes hits : Bool) → EffectFitsDesk (situation_of_state s) s.held d → AreFew s.dialogue.engine n
    → AreFew (engine_after_heard s.dialogue.engine (said_of_event (what_of d))) (n + length (moves_shown (replies_of closed owes hits (situation_of_state s) d)))
by_closed s n d true owes hits f a = stays_few n s.dialogue.engine (said_of_event (what_of d)) a
by_closed s n d false owes hits f a = subst (λ (ms : List _). AreFew (engine_after_heard s.dialogue.engine (said_of_event (what_of d))) (n + length ms)) (sym (open_shows owes hits (situation_of_state s) d)) (by_effect s n d f a)

mid_few : (s : State) (step : Step) (n : ℕ) → Lasts s → IsLawfulStep s step → AreFew s.dialogue.engine n → AreFew (mid s step.event).engine (n + length (moves_shown step.replies))
mid_few s step n last l a =
    subst (λ (rs : List Reply). AreFew (mid s step.event).engine (n + length (moves_shown rs))) (sym l.replies)
    (by_closed s n (effect s step.event) (closed_after s step.event) (is_move (owed_after s step.event)) (step_hits s step.event) (fits s step last l) a)

after_few : (m : Ticketed) (n : ℕ) (os : List Order) (b : Bool) → orders_begin_search os ≡ b → AreFew m.engine n → AreFew (sent_all m.epoch m.engine (map dialogue_word_of os)) (cond b 0 n)
after_few m n os true e a = record { few = omega arith; none = λ x. refl }
after_few m n os false e a = record { few = a.few; none = λ x. a.none (written_none m.epoch m.engine os e x) }

few : (o : Settings) (t : List Step) → LawfulTrace o t → AreFew (state o t).dialogue.engine (shown_since_go t)
few o [] l = record { few = omega arith; none = λ x. refl }
few o (step ∷ t) l =
    after_few (mid (state o t) step.event) (shown_since_go t + length (moves_shown step.replies)) step.orders (orders_begin_search step.orders) refl
    (mid_few (state o t) step (shown_since_go t) (lasts o t l.0) l.1 (few o t l.0))

pub show_once : (o : Settings) → SearchesShowOnce o
show_once o step t l = (mid_few (state o t) step (shown_since_go t) (lasts o t l.0) l.1 (few o t l.0)).few
