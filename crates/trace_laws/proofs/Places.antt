-- Where orders stand, on the wire.
use Rattle.std.proofs.Common.{◌≡◌, List, [], ◌∷◌, ◌++◌, map, Bool, true, false, not, cond, None, refl, sym, ap, subst, ◌∙◌}
use Rattle.std.proofs.lemmas.List.{map-append}
use Rattle.line_io.specs.Event.{Event}
use Rattle.line_io.specs.Event as events
use Rattle.protocol_tokens.specs.declared.kinds.GoKind.{GoKind}
use Rattle.protocol_tokens.specs.declared.kinds.GoKind.TheVariants as kinds
use Rattle.uci_lines.specs.Orders.{Order}
use Rattle.uci_lines.specs.Orders as orders
use Rattle.policy_rules.specs.declared.setting_rules.settings.Settings.{Settings}
use Rattle.search_epochs.specs.Tickets as talks
use Rattle.search_epochs.specs.Tickets.{Engine, Word, Ticketed, MaySend, MaySendAll, sent_all}
use Rattle.search_epochs.specs.Tickets.{Paired}
use Rattle.search_epochs.specs.History as history
use Rattle.search_epochs.specs.History.{Exchange}
use Rattle.search_epochs.proofs.Stops.{may_all}
use Rattle.search_epochs.proofs.Places.{at_place, go_follows, gone_refuses}
use Rattle.desk_rules.specs.Orders.{dialogue_word_of}
use Rattle.adapter_core.specs.Ends.{is_open, may}
use Rattle.adapter_core.specs.Trace.{State, Step, LawfulTrace, state, mid}
use Rattle.adapter_core.proofs.Traces.{lasts}
use Rattle.trace_laws.specs.Wire.{Wire, Boot, Idle, Search, Gone, said_by_step, wire_once_heard, writing_all, ends, wire, wire_at, on_wire, line_needs_idle, IdleEngineGetsLines, SearchGetsStopLine, PonderGetsHitLine, GoneEngineGetsNoLine, GoLineFollowsPosition}
use Rattle.trace_laws.specs.Dialogue.{exchange, exchanges}
use Rattle.trace_laws.proofs.Heard.{all_on_wire, mid_on_wire, engine_on_wire}
use Rattle.trace_laws.proofs.Dialogues.{dialogues, lawful_in}

-- WHAT AN ORDER NEEDS

idle_needed : (e : Engine) (order : Order) → line_needs_idle order ≡ true → MaySend e (dialogue_word_of order) → on_wire e ≡ Idle
idle_needed e orders.Uci n m = absurd m
idle_needed e orders.Stop n m = cc
idle_needed e orders.PonderHit n m = cc
idle_needed e orders.Quit n m = cc
idle_needed e order n m = ap on_wire m

stop_needs : (e : Engine) → MaySend e talks.Stop → (k : GoKind) × (on_wire e ≡ Search k false)
stop_needs talks.Boot m = absurd m
stop_needs talks.Getting m = absurd m
stop_needs talks.Idle m = absurd m
stop_needs talks.Gone m = absurd m
stop_needs (talks.Search k t s) m = (k, ap (Search k) m)

hit_needs : (e : Engine) → MaySend e talks.PonderHit → on_wire e ≡ Search kinds.Ponder false
hit_needs talks.Boot m = absurd m
hit_needs talks.Getting m = absurd m
hit_needs talks.Idle m = absurd m
hit_needs talks.Gone m = absurd m
hit_needs (talks.Search k t s) m = ap (λ g. Search g s) m.0 ∙ ap (Search kinds.Ponder) m.1

not_gone : (e : Engine) (w : Word) → MaySend e w → on_wire e ≡ Gone → ⊥
not_gone talks.Boot w m g = cc
not_gone talks.Getting w m g = cc
not_gone talks.Idle w m g = cc
not_gone (talks.Search k t s) w m g = cc
not_gone talks.Gone w m g = gone_refuses w m

-- AT THE OPENING

opening_is : (before behind : List Order) (order other : Order) → other ∷ [] ≡ before ++ order ∷ behind → (before ≡ []) × (order ≡ other)
opening_is [] behind order other e = (refl, cc)
opening_is (x ∷ []) behind order other e = absurd (cc)
opening_is (x ∷ y ∷ before) behind order other e = absurd (cc)

pub opening_says : (closed : Bool) (e : Event) → is_open e ≡ true → said_by_step closed e ≡ None
opening_says closed events.Open o = refl
opening_says closed e o = cc

pub opening_may : (s : State) (e : Event) → is_open e ≡ true → may s.ends e ≡ true → s.ends.opened ≡ false
opening_may s events.Open o m = not_true s.ends.opened m where
  not_true : (b : Bool) → not b ≡ true → b ≡ false
  not_true true e = cc
  not_true false e = refl
opening_may s e o m = cc

-- AT EACH PLACE

module _ (o : Settings) (step : Step) (t : List Step) (l : LawfulTrace o (step ∷ t)) (before behind : List Order) (order : Order) (at : step.orders ≡ before ++ order ∷ behind) where
  abbrev s : State
  s = state o t

  abbrev m : Ticketed
  m = mid s step.event

  abbrev engine_situation : Engine
  engine_situation = sent_all m.epoch m.engine (map dialogue_word_of before)

  situation_on_wire : on_wire engine_situation ≡ wire_at t step before
  situation_on_wire = all_on_wire m.epoch m.engine before ∙ ap (λ (x : Wire). writing_all x before) (mid_on_wire o t step.event (engine_on_wire o t))

  placed : is_open step.event ≡ false → MaySend engine_situation (dialogue_word_of order)
  placed n =
      let all = may_all s.dialogue s.ends.closed (exchange s step) (lawful_in s step (lasts o t l.0) l.1 n) in
      at_place m.epoch m.engine (map dialogue_word_of before) (map dialogue_word_of behind) (dialogue_word_of order)
      (subst (MaySendAll m.epoch m.engine) (ap (map dialogue_word_of) at ∙ map-append dialogue_word_of before (order ∷ behind)) all)

  -- at the opening only `uci` is written, in Boot
  opened : is_open step.event ≡ true → (order ≡ orders.Uci) × (wire_at t step before ≡ Boot)
  opened y =
      let alone = opening_is before behind order orders.Uci (sym (l.1.opens y) ∙ at) in
      let boot = (lasts o t l.0).begins (opening_may s step.event y l.1.may_come) in (
        alone.1,
        ap (wire_at t step) alone.0 ∙ ap (wire_once_heard (wire t)) (opening_says (ends t).closed step.event y) ∙ sym (engine_on_wire o t) ∙ ap on_wire boot,
      )

  by_open : (P : Type 0) → (is_open step.event ≡ true → P) → (is_open step.event ≡ false → P) → P
  by_open P f g = by (is_open step.event) refl where
    by : (b : Bool) → is_open step.event ≡ b → P
    by true x = f x
    by false x = g x

  in_idle : line_needs_idle order ≡ true → wire_at t step before ≡ Idle
  in_idle n =
      by_open (wire_at t step before ≡ Idle)
      (λ y. let u = ap line_needs_idle (opened y).0 in cc)
      (λ y. sym situation_on_wire ∙ idle_needed engine_situation order n (placed y))

  in_life : wire_at t step before ≡ Gone → ⊥
  in_life g = by_open ⊥ (λ y. let b = (opened y).1 in cc) (λ y. not_gone engine_situation (dialogue_word_of order) (placed y) (situation_on_wire ∙ g))

  in_search : order ≡ orders.Stop → (k : GoKind) × (wire_at t step before ≡ Search k false)
  in_search x =
      by_open ((k : GoKind) × (wire_at t step before ≡ Search k false))
      (λ y. let u = (opened y).0 in absurd (cc))
      (λ y. let k = stop_needs engine_situation (subst (λ (c : Order). MaySend engine_situation (dialogue_word_of c)) x (placed y)) in (k.0, sym situation_on_wire ∙ k.1))

  in_pondering : order ≡ orders.PonderHit → wire_at t step before ≡ Search kinds.Ponder false
  in_pondering x =
      by_open (wire_at t step before ≡ Search kinds.Ponder false)
      (λ y. let u = (opened y).0 in cc)
      (λ y. sym situation_on_wire ∙ hit_needs engine_situation (subst (λ (c : Order). MaySend engine_situation (dialogue_word_of c)) x (placed y)))

pub idle_gets_them : (o : Settings) → IdleEngineGetsLines o
idle_gets_them o step t before behind order l at n = in_idle o step t l before behind order at n

pub search_gets_stop : (o : Settings) → SearchGetsStopLine o
search_gets_stop o step t before behind l at = in_search o step t l before behind orders.Stop at refl

pub ponder_gets_hit : (o : Settings) → PonderGetsHitLine o
ponder_gets_hit o step t before behind l at = in_pondering o step t l before behind orders.PonderHit at refl

pub gone_gets_nothing : (o : Settings) → GoneEngineGetsNoLine o
gone_gets_nothing o step t before behind order l at g = in_life o step t l before behind order at g

paired_by : (b : Bool) (xs : List Exchange) (x : Exchange) → b ≡ false → history.LawfulHistory (cond b xs (x ∷ xs)) → Paired x.orders
paired_by true xs x e l = cc
paired_by false xs x e l = go_follows x xs l

pub go_follows_position : (o : Settings) → GoLineFollowsPosition o
go_follows_position o step t l = by (is_open step.event) refl where
  by : (b : Bool) → is_open step.event ≡ b → Paired (map dialogue_word_of step.orders)
  by true y = subst (λ (os : List Order). Paired (map dialogue_word_of os)) (sym (l.1.opens y)) tt
  by false y = paired_by (is_open step.event) (exchanges o t) (exchange (state o t) step) y (dialogues o (step ∷ t) l).lawful
