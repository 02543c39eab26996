-- `uci` is written first and once, and nothing behind a `quit`.
use Rattle.std.proofs.Common.{◌≡◌, ℕ, List, [], ◌∷◌, ◌++◌, map, Bool, true, false, not, append-nil, refl, sym, ap, subst, ◌∙◌}
use Rattle.std.proofs.lemmas.Bool.{both_ways}
use Rattle.line_io.specs.Event.{Event}
use Rattle.line_io.specs.Event as events
use Rattle.uci_lines.specs.Orders.{Order}
use Rattle.uci_lines.specs.Orders as orders
use Rattle.policy_rules.specs.declared.setting_rules.settings.Settings.{Settings}
use Rattle.search_epochs.specs.Tickets.{Engine, MaySendAll, engine_after_word, has_quit_order}
use Rattle.desk_rules.specs.Orders.{dialogue_word_of}
use Rattle.adapter_core.specs.Ends.{may, is_open, at_start}
use Rattle.adapter_core.specs.Trace.{State, Step, IsLawfulStep, LawfulTrace, state, mid, closed_after, is_gone_after, closing_step_orders}
use Rattle.adapter_core.proofs.Closing.{opened_later, open_before}
use Rattle.trace_laws.specs.Values.{orders_written}
use Rattle.trace_laws.specs.FirstAndLast.{has_uci, UciIsFirst, QuitIsLast}
use Rattle.trace_laws.proofs.Places.{opening_may}

-- `uci`

none_sent : (n : ℕ) (e : Engine) (os : List Order) → MaySendAll n e (map dialogue_word_of os) → has_uci os ≡ false
none_sent n e [] a = refl
none_sent n e (orders.Uci ∷ os) a = absurd a.0
none_sent n e (order ∷ os) a = none_sent n (engine_after_word n e (dialogue_word_of order)) os a.1

none_closing : (gone : Bool) → has_uci (closing_step_orders gone) ≡ false
none_closing true = refl
none_closing false = refl

none_joined : (xs ys : List Order) → has_uci xs ≡ false → has_uci ys ≡ false → has_uci (xs ++ ys) ≡ false
none_joined [] ys a b = b
none_joined (orders.Uci ∷ xs) ys a b = cc
none_joined (order ∷ xs) ys a b = none_joined xs ys a b

-- only the opening writes `uci`
none_later : (s : State) (step : Step) → IsLawfulStep s step → is_open step.event ≡ false → has_uci step.orders ≡ false
none_later s step l n = by_stage s.ends.closed (closed_after s step.event) refl refl where
  by_stage : (before after : Bool) → s.ends.closed ≡ before → closed_after s step.event ≡ after → has_uci step.orders ≡ false
  by_stage true after b a = ap has_uci (l.closed n b)
  by_stage false true b a = ap has_uci (l.closes b a) ∙ none_closing (is_gone_after s step.event)
  by_stage false false b a = none_sent (mid s step.event).epoch (mid s step.event).engine step.orders (l.settled n a).words.may_send

-- the first event is the opening, and no later one is
first_opens : (e : Event) → may at_start e ≡ true → is_open e ≡ true
first_opens events.Open m = refl
first_opens e m = cc

opens_never : (o : Settings) (step before : Step) (t : List Step) → LawfulTrace o (step ∷ before ∷ t) → (b : Bool) → is_open step.event ≡ b → b ≡ false
opens_never o step before t l true n =
    let s = state o t in
    absurd (both_ways (state o (before ∷ t)).ends.opened (opening_may (state o (before ∷ t)) step.event n l.1.may_come) (opened_later s.ends before.event l.0.1.may_come))
opens_never o step before t l false n = refl

pub uci_first : (o : Settings) → UciIsFirst o
uci_first o step [] l = record { later = []; first = l.1.opens (first_opens step.event l.1.may_come); once = refl }
uci_first o step (before ∷ t) l =
    let b = uci_first o before t l.0 in
    record {
      later = b.later ++ step.orders;
      first = ap (λ (os : List Order). os ++ step.orders) b.first;
      once = none_joined b.later step.orders b.once (none_later (state o (before ∷ t)) step l.1 (opens_never o step before t l (is_open step.event) refl));
    }

-- `quit`

abbrev quits : List Order → Bool
quits [] = false
quits (orders.Quit ∷ later) = true
quits (order ∷ later) = quits later

same_quits : (os : List Order) → quits os ≡ has_quit_order (map dialogue_word_of os)
same_quits [] = refl
same_quits (orders.Quit ∷ os) = refl
same_quits (order ∷ os) = same_quits os

-- nothing stands behind a `quit`
record EndsWithQuit (os : List Order) : Type 0 where
  alone : (before behind : List Order) → os ≡ before ++ orders.Quit ∷ behind → behind ≡ []

none_at : (before behind : List Order) → quits (before ++ orders.Quit ∷ behind) ≡ false → ⊥
none_at [] behind q = cc
none_at (orders.Quit ∷ before) behind q = cc
none_at (order ∷ before) behind q = none_at before behind q

none_ends : (os : List Order) → quits os ≡ false → EndsWithQuit os
none_ends os q = record { alone = λ before behind e. absurd (none_at before behind (ap quits (sym e) ∙ q)) }

one_ends : (xs : List Order) → quits xs ≡ false → EndsWithQuit (xs ++ orders.Quit ∷ [])
one_ends xs q = record { alone = at xs q } where
  last_of : (order : Order) (behind : List Order) → orders.Quit ∷ [] ≡ order ∷ behind → behind ≡ []
  last_of order behind e = cc

  none_left : (before behind : List Order) → [] ≡ before ++ orders.Quit ∷ behind → behind ≡ []
  none_left [] behind e = absurd (cc)
  none_left (x ∷ before) behind e = absurd (cc)

  tail_of : (x y : Order) (xs ys : List Order) → x ∷ xs ≡ y ∷ ys → xs ≡ ys
  tail_of x y xs ys e = cc

  at : (xs : List Order) → quits xs ≡ false → (before behind : List Order) → xs ++ orders.Quit ∷ [] ≡ before ++ orders.Quit ∷ behind → behind ≡ []
  at [] q [] behind e = last_of orders.Quit behind e
  at [] q (y ∷ before) behind e = none_left before behind (tail_of orders.Quit y [] (before ++ orders.Quit ∷ behind) e)
  at (orders.Quit ∷ xs) q before behind e = absurd (cc)
  at (x ∷ xs) q [] behind e = absurd (cc)
  at (x ∷ xs) q (y ∷ before) behind e = at xs q before behind (tail_of x y (xs ++ orders.Quit ∷ []) (before ++ orders.Quit ∷ behind) e)

none_both : (xs ys : List Order) → quits xs ≡ false → quits ys ≡ false → quits (xs ++ ys) ≡ false
none_both [] ys a b = b
none_both (orders.Quit ∷ xs) ys a b = cc
none_both (order ∷ xs) ys a b = none_both xs ys a b

-- a step of an open session writes none, and so does the opening
none_settled : (s : State) (step : Step) → IsLawfulStep s step → closed_after s step.event ≡ false → quits step.orders ≡ false
none_settled s step l c = by_open (is_open step.event) refl where
  by_open : (b : Bool) → is_open step.event ≡ b → quits step.orders ≡ false
  by_open true n = ap quits (l.opens n)
  by_open false n = same_quits step.orders ∙ (l.settled n c).words.no_quit

-- what is known of the orders that were written
record QuitsOnce (closed : Bool) (os : List Order) : Type 0 where
  ends : EndsWithQuit os
  none : closed ≡ false → quits os ≡ false

-- a session that was not opened is not closed
unopened : (o : Settings) (t : List Step) → LawfulTrace o t → (state o t).ends.closed ≡ true → (state o t).ends.opened ≡ false → ⊥
unopened o [] l c n = cc
unopened o (step ∷ t) l c n = both_ways (state o (step ∷ t)).ends.opened n (opened_later (state o t).ends step.event l.1.may_come)

module _ (o : Settings) (step : Step) (t : List Step) (l : LawfulTrace o (step ∷ t)) (q : QuitsOnce (state o t).ends.closed (orders_written t)) where
  abbrev s : State
  s = state o t

  abbrev Next : Type 0
  Next = QuitsOnce (closed_after s step.event) (orders_written t ++ step.orders)

  by_closing : (gone : Bool) → s.ends.closed ≡ false → closed_after s step.event ≡ true → step.orders ≡ closing_step_orders gone → Next
  by_closing true b a e = record {
    ends = subst EndsWithQuit (sym (ap (λ (os : List Order). orders_written t ++ os) e ∙ append-nil (orders_written t))) q.ends;
    none = λ n. absurd (both_ways (closed_after s step.event) n a);
  }
  by_closing false b a e = record {
    ends = subst EndsWithQuit (sym (ap (λ (os : List Order). orders_written t ++ os) e)) (one_ends (orders_written t) (q.none b));
    none = λ n. absurd (both_ways (closed_after s step.event) n a);
  }

  by_stage : (opens before after : Bool) → is_open step.event ≡ opens → s.ends.closed ≡ before → closed_after s step.event ≡ after → Next
  by_stage opens before false n b a =
      let without = none_both (orders_written t) step.orders (q.none (open_before s.ends step.event a)) (none_settled s step l.1 a) in
      record { ends = none_ends (orders_written t ++ step.orders) without; none = λ x. without }
  by_stage opens false true n b a = by_closing (is_gone_after s step.event) b a (l.1.closes b a)
  by_stage false true true n b a = record {
    ends = subst EndsWithQuit (sym (ap (λ (os : List Order). orders_written t ++ os) (l.1.closed n b) ∙ append-nil (orders_written t))) q.ends;
    none = λ x. absurd (both_ways (closed_after s step.event) x a);
  }
  by_stage true true true n b a = absurd (unopened o t l.0 b (opening_may s step.event n l.1.may_come))

  quits_on : Next
  quits_on = by_stage (is_open step.event) s.ends.closed (closed_after s step.event) refl refl refl

quits_once : (o : Settings) (t : List Step) → LawfulTrace o t → QuitsOnce (state o t).ends.closed (orders_written t)
quits_once o [] l = record { ends = none_ends [] refl; none = λ c. refl }
quits_once o (step ∷ t) l = quits_on o step t l (quits_once o t l.0)

pub quit_last : (o : Settings) → QuitIsLast o
quit_last o t before behind l e = (quits_once o t l).ends.alone before behind e
