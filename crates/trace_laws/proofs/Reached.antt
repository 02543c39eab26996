-- For each lawful trace there is a core that stands for it, and is within its limits.
use Rattle.std.proofs.Common.{◌≡◌, ◌+◌, ◌≤◌, List, [], ◌∷◌, ◌++◌, map, length, Bool, true, false, cond, refl, sym, ap, subst, ◌∙◌, arith}
use Rattle.line_io.specs.Event.{Event}
use Rattle.uci_lines.specs.Orders.{Order}
use Rattle.option_map.specs.WaitingOrders.Held.{held_batch_text, held_list_with, with_orders, held_orders_staying}
use Rattle.option_map.proofs.WaitingOrders.KeptOrders.{join_few, join_short}
use Rattle.policy_rules.specs.declared.setting_rules.settings.Settings.{Settings}
use Rattle.policy_rules.specs.SettingRules.Policy.{IsProper}
use Rattle.desk_rules.specs.Desk.{current}
use Rattle.desk_rules.specs.Steps.{classify}
use Rattle.desk_rules.specs.Orders.{orders_waiting, asked_by_effect, AllJoin}
use Rattle.desk_rules.proofs.Joins.{asked_join}
use Rattle.adapter_core.specs.Ends.{may, ends_after}
use Rattle.adapter_core.specs.Trace.{Step, LawfulTrace, state, event_of_step}
use Rattle.adapter_core.specs.Parts as parts
use Rattle.adapter_core.specs.Parts.{CoreParts, advance}
use Rattle.adapter_core.specs.Represents.{CoreInvariant, Represents, step_by}
use Rattle.adapter_core.proofs.CoreInvariants.{keeps, is_ready, opening_keeps}
use Rattle.adapter_core.proofs.StateInvariants.{stands_first, extended, event_is}
use Rattle.adapter_core.proofs.Unique.{unique}
use Rattle.trace_laws.specs.Existence.{ends_of, HasTrace, TracesExist, EventsMayCome}
use Rattle.trace_laws.specs.Limits.{IsWithinLimits, CoresAreWithinLimits}

-- WHAT IS HELD

record AreFew (held : List Order) : Type 0 where
  orders : length held ≤ 256
  bytes : length (held_batch_text held) ≤ 65536

none_few : AreFew []
none_few = record { orders = omega arith; bytes = omega arith }

last_length : (xs : List Order) (x : Order) → length (xs ++ x ∷ []) ≡ length xs + 1
last_length [] x = refl
last_length (y ∷ xs) x = omega (arith, last_length xs x)

joined : (held asked : List Order) → AreFew held → AllJoin held asked → AreFew (with_orders held asked)
joined held [] f j = f
joined held (order ∷ later) f j =
    joined (held_list_with held order) later
    (record { orders = omega (arith, last_length (held_orders_staying order held) order, join_few held order j.0); bytes = join_short held order j.0 })
    j.1

left : (b : Bool) (held : List Order) → AreFew held → AreFew (cond b [] held)
left true held f = none_few
left false held f = f

few_after : (v : CoreParts) (e : Event) (k : CoreInvariant v) (m : may v.ends e ≡ true) → AreFew v.held → AreFew (advance v e).held
unfolding advance
few_after v e k m f =
    let h = parts.situation_of_parts v in
    let d = classify h v.held e in
    let ready = is_ready v e k m in
    left _ (orders_waiting h v.held d) (joined v.held (asked_by_effect h d) f (asked_join h v.held d k.sound ready.fits ready.holds))

-- A CORE FOR EACH LAWFUL TRACE

pub record Reached (o : Settings) (trace : List Step) : Type 0 where
  pub core : CoreParts
  pub keeps_it : CoreInvariant core
  pub stands : Represents o core trace
  few : AreFew core.held

first_reached : (o : Settings) → IsProper o → Reached o []
first_reached o p = record { core = parts.opening_core_parts o; keeps_it = opening_keeps o p; stands = stands_first o p; few = none_few }

same_ends : (o : Settings) (core : CoreParts) (t : List Step) (e : Event) → Represents o core t → may (state o t).ends e ≡ true → may core.ends e ≡ true
same_ends o core t e st m = ap (λ (v : CoreParts). may v.ends e) st.0 ∙ m

reached_on : (o : Settings) (t : List Step) (step : Step) → LawfulTrace o (step ∷ t) → Reached o t → Reached o (step ∷ t)
reached_on o t step l r =
    let e = step.event in
    let m : may r.core.ends e ≡ true = same_ends o r.core t e r.stands l.1.may_come in
    let x = extended o r.core t e m r.keeps_it.sound l.0 r.stands in
    let same : step_by r.core e ∷ t ≡ step ∷ t = unique o (step_by r.core e ∷ t) (step ∷ t) x.0 l (ap (λ (y : Event). y ∷ map event_of_step t) (event_is r.core e)) in
    record {
      core = advance r.core e;
      keeps_it = keeps r.core e r.keeps_it m;
      stands = subst (Represents o (advance r.core e)) same x.1;
      few = few_after r.core e r.keeps_it m r.few;
    }

pub reached : (o : Settings) (t : List Step) → IsProper o → LawfulTrace o t → Reached o t
reached o [] p l = first_reached o p
reached o (step ∷ t) p l = reached_on o t step l (reached o t p l.0)

-- LIMITS

kept_in : (o : Settings) (core core' : CoreParts) (t : List Step) → Represents o core t → Represents o core' t → core ≡ record core' { to_iface = core.to_iface; to_engine = core.to_engine }
kept_in o core core' t a b = a.0 ∙ ap (λ (v : CoreParts). let w : CoreParts = record v { to_iface = core.to_iface; to_engine = core.to_engine } in w) (sym b.0)

within : (core : CoreParts) → AreFew core.held → CoreInvariant core → IsWithinLimits core
within core f k = record {
  orders = f.orders;
  bytes = f.bytes;
  pings = k.pings;
  search = λ g stopped c s. k.serves c g (ap current s);
}

texts_within : (core core' : CoreParts) → IsWithinLimits core' → IsWithinLimits (record core' { to_iface = core.to_iface; to_engine = core.to_engine })
texts_within core core' w = record { orders = w.orders; bytes = w.bytes; pings = w.pings; search = w.search }

pub within_limits : (o : Settings) → CoresAreWithinLimits o
within_limits o core trace p l st =
    let r = reached o trace p l in
    subst IsWithinLimits (sym (kept_in o core r.core trace st r.stands)) (texts_within core r.core (within r.core r.few r.keeps_it))

-- EXISTENCE

ends_are : (o : Settings) (t : List Step) → (state o t).ends ≡ ends_of (map event_of_step t)
ends_are o [] = refl
ends_are o (step ∷ t) = ap (λ x. ends_after x step.event) (ends_are o t)

pub may_come : (o : Settings) → EventsMayCome o
may_come o [] l = tt
may_come o (step ∷ t) l = (may_come o t l.0, ap (λ x. may x step.event) (sym (ends_are o t)) ∙ l.1.may_come)

goes_on : (o : Settings) (p : IsProper o) (e : Event) (es : List Event) (t : List Step) → LawfulTrace o t → map event_of_step t ≡ es → may (ends_of es) e ≡ true
    → HasTrace o (e ∷ es)
goes_on o p e es t l same m =
    let r = reached o t p l in
    let m' : may (state o t).ends e ≡ true = ap (λ x. may x e) (ends_are o t ∙ ap ends_of same) ∙ m in
    let x = extended o r.core t e (same_ends o r.core t e r.stands m') r.keeps_it.sound l r.stands in
    record { trace = step_by r.core e ∷ t; lawful = x.0; events = ap (λ (y : Event). y ∷ map event_of_step t) (event_is r.core e) ∙ ap (λ (ys : List Event). e ∷ ys) same }

pub exist : (o : Settings) → TracesExist o
exist o p [] m = record { trace = []; lawful = tt; events = refl }
exist o p (e ∷ es) m = let x = exist o p es m.0 in goes_on o p e es x.trace x.lawful x.events m.1
