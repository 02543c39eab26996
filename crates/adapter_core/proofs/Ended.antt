-- Nothing is written to a side that has ended.
use Rattle.std.proofs.Common.{◌≡◌, ℕ, List, [], ◌∷◌, map, Bool, true, false, cond, not, ◌||◌, Option, Some, None, refl, sym, ap, subst, ◌∙◌}
use Rattle.std.proofs.lemmas.Bool.{or_left}
use Rattle.line_io.specs.Event.{Event, is_line}
use Rattle.line_io.specs.Event as events
use Rattle.uci_lines.specs.Orders.{Order}
use Rattle.cecp_lines.specs.Replies.{Reply}
use Rattle.policy_rules.specs.declared.setting_rules.settings.Settings.{Settings}
use Rattle.search_epochs.specs.Tickets.{Engine, Boot, Getting, Idle, Search, Gone, Word, MaySendAll, sent_all, engine_after_heard, said_of_event}
use Rattle.search_epochs.specs.Dialogue.{forget}
use Rattle.desk_rules.specs.Desk.{is_gone}
use Rattle.cecp_lines.specs.Messages.{IfaceMsg}
use Rattle.cecp_lines.specs.Messages as says
use Rattle.desk_rules.specs.Steps.{Effect, Accepts, Dies, classify, what_of, what_accepted, is_death, dies}
use Rattle.desk_rules.specs.Orders.{dialogue_word_of}
use Rattle.search_epochs.specs.declared.words.Said.{Said}
use Rattle.search_epochs.specs.declared.words.Said.TheVariants as said
use Rattle.uci_lines.specs.Orders as orders
use Rattle.adapter_core.specs.declared.ends.Ends.{Ends}
use Rattle.adapter_core.specs.Ends.{may, ends_after, is_open}
use Rattle.protocol_tokens.specs.Quit.{is_quit}
use Rattle.adapter_core.specs.Trace.{State, Step, LawfulTrace, state, effect, turn_of_event, mid, closed_after, is_gone_after, closing_step_orders}
use Rattle.adapter_core.specs.Represents.{IsSilentToIface, IsSilentToEngine}
use Rattle.adapter_core.proofs.Closing.{opened_later}

-- THE INTERFACE

abbrev iface_gone : Ends → Bool
iface_gone ends = ends.iface || ends.iface_lost

by_line : (i l c q : Bool) → ((i || l) ≡ true → c ≡ true) → ((i || q) || l) ≡ true → (c || q) ≡ true
by_line true l c q h e = or_left c q (h refl)
by_line false true c q h e = or_left c q (h refl)
by_line false false true q h e = refl
by_line false false false true h e = refl
by_line false false false false h e = cc

-- once the interface has ended, the session is closed
ended_closed : (ends : Ends) (e : Event) → (iface_gone ends ≡ true → ends.closed ≡ true) → iface_gone (ends_after ends e) ≡ true → (ends_after ends e).closed ≡ true
ended_closed ends (events.Iface line) h g = by_line ends.iface ends.iface_lost ends.closed (is_quit line) h g
ended_closed ends events.IfaceEnd h g = refl
ended_closed ends events.IfaceLost h g = refl
ended_closed ends e h g = h g

closed_by : (o : Settings) (t : List Step) → iface_gone (state o t).ends ≡ true → (state o t).ends.closed ≡ true
closed_by o [] g = cc
closed_by o (step ∷ t) g = ended_closed (state o t).ends step.event (closed_by o t) g

no_replies : (b : Bool) (rs : List Reply) → b ≡ true → cond b [] rs ≡ []
no_replies true rs e = refl
no_replies false rs e = cc

pub silent_to_iface : (o : Settings) → IsSilentToIface o
silent_to_iface o t step l g = l.1.replies ∙ no_replies (closed_after (state o t) step.event) _ (closed_by o (step ∷ t) g)

-- THE ENGINE

abbrev engine_gone : Ends → Bool
engine_gone ends = ends.engine || ends.engine_lost

gone_stays : (epoch : ℕ) (ws : List Word) → sent_all epoch Gone ws ≡ Gone
gone_stays epoch [] = refl
gone_stays epoch (w ∷ ws) = gone_stays epoch ws

gone_hears : (w : Option Said) → engine_after_heard Gone w ≡ Gone
gone_hears None = refl
gone_hears (Some said.UciOk) = refl
gone_hears (Some said.ReadyOk) = refl
gone_hears (Some said.Best) = refl
gone_hears (Some said.Ended) = refl

death : (epoch : ℕ) (e : Engine) → engine_after_heard e (said_of_event (what_of (dies (forget epoch e)))) ≡ Gone
death epoch Boot = refl
death epoch Getting = refl
death epoch Idle = refl
death epoch (Search k t s) = refl
death epoch Gone = refl

stays_gone : (s : State) (e : Event) → s.dialogue.engine ≡ Gone → (mid s e).engine ≡ Gone
stays_gone s e g = ap (λ (x : Engine). engine_after_heard x (said_of_event (turn_of_event s e).what)) g ∙ gone_hears (said_of_event (turn_of_event s e).what)

-- an engine that has ended is Gone before the orders of the step
mid_gone : (s : State) (e : Event) → (engine_gone s.ends ≡ true → s.dialogue.engine ≡ Gone) → engine_gone (ends_after s.ends e) ≡ true → (mid s e).engine ≡ Gone
unfolding classify
mid_gone s events.EngineEnd h g = death s.dialogue.epoch s.dialogue.engine
mid_gone s events.EngineLost h g = death s.dialogue.epoch s.dialogue.engine
mid_gone s e h g = stays_gone s e (h g)

gone_by : (o : Settings) (t : List Step) → engine_gone (state o t).ends ≡ true → (state o t).dialogue.engine ≡ Gone
gone_by o [] g = cc
gone_by o (step ∷ t) g =
    let s = state o t in
    ap (λ (x : Engine). sent_all (mid s step.event).epoch x (map dialogue_word_of step.orders)) (mid_gone s step.event (gone_by o t) g) ∙ gone_stays (mid s step.event).epoch (map dialogue_word_of step.orders)

-- a line of the interface ends no engine
not_gone : (e : Engine) (w : Option Said) → w ≡ None → engine_after_heard e w ≡ Gone → e ≡ Gone
not_gone e None n g = g
not_gone e (Some said) n g = cc

pub quiet_line : (m : IfaceMsg) → said_of_event (what_accepted m) ≡ None
quiet_line (says.UserMove m) = refl
quiet_line says.MoveNow = refl
quiet_line m = refl

gone_known : (epoch : ℕ) (e : Engine) (b : Bool) → e ≡ Gone → (is_gone (forget epoch e) || b) ≡ true
gone_known epoch Gone b g = refl
gone_known epoch Boot b g = cc
gone_known epoch Getting b g = cc
gone_known epoch Idle b g = cc
gone_known epoch (Search k t s) b g = cc

gone_is : (epoch : ℕ) (e : Engine) (d : Effect) → engine_after_heard e (said_of_event (what_of d)) ≡ Gone → (is_gone (forget epoch e) || is_death d) ≡ true
gone_is epoch e (Accepts m) g = gone_known epoch e false (not_gone e (said_of_event (what_accepted m)) (quiet_line m) g)
gone_is epoch Gone d g = refl
gone_is epoch e Dies g = refl
gone_is epoch e d g = cc

no_order : (epoch : ℕ) (os : List Order) → MaySendAll epoch Gone (map dialogue_word_of os) → os ≡ []
no_order epoch [] m = refl
no_order epoch (orders.Uci ∷ os) m = absurd (m.0)
no_order epoch (orders.Stop ∷ os) m = absurd (m.0)
no_order epoch (orders.PonderHit ∷ os) m = absurd (m.0)
no_order epoch (orders.Quit ∷ os) m = absurd (m.0 refl)
no_order epoch x m = let e = m.0 in cc

-- before the session is opened no engine has ended
unopened : (o : Settings) (t : List Step) → LawfulTrace o t → (state o t).ends.opened ≡ false → engine_gone (state o t).ends ≡ true → ⊥
unopened o [] l c g = differ false refl g where
  differ : (b : Bool) → b ≡ false → b ≡ true → ⊥
  differ true u v = cc
  differ false u v = cc
unopened o (step ∷ t) l c g = differ _ c (opened_later (state o t).ends step.event l.1.may_come) where
  differ : (b : Bool) → b ≡ false → b ≡ true → ⊥
  differ true u v = cc
  differ false u v = cc

not_opened : (ends : Ends) (e : Event) → is_open e ≡ true → may ends e ≡ true → (ends.opened ≡ false) × (engine_gone (ends_after ends e) ≡ engine_gone ends)
not_opened ends events.Open o m = (not_true ends.opened m, refl) where
  not_true : (b : Bool) → not b ≡ true → b ≡ false
  not_true true e = cc
  not_true false e = refl
not_opened ends e o m = cc

none_at_last : (gone : Bool) → gone ≡ true → closing_step_orders gone ≡ []
none_at_last true e = refl
none_at_last false e = cc

silent_step : (o : Settings) (t : List Step) (step : Step) → LawfulTrace o (step ∷ t) → engine_gone (ends_after (state o t).ends step.event) ≡ true
    → (opens before after : Bool) → is_open step.event ≡ opens → (state o t).ends.closed ≡ before → closed_after (state o t) step.event ≡ after → step.orders ≡ []
silent_step o t step l g true before after op b a =
    let n = not_opened (state o t).ends step.event op l.1.may_come in
    absurd (unopened o t l.0 n.0 (sym n.1 ∙ g))
silent_step o t step l g false true after op b a = l.1.closed op b
silent_step o t step l g false false true op b a =
    let s = state o t in
    l.1.closes b a ∙ none_at_last (is_gone_after s step.event) (gone_is s.dialogue.epoch s.dialogue.engine (effect s step.event) (mid_gone s step.event (gone_by o t) g))
silent_step o t step l g false false false op b a =
    let s = state o t in
    let settled = l.1.settled op a in
    no_order (mid s step.event).epoch step.orders (subst (λ (x : Engine). MaySendAll (mid s step.event).epoch x (map dialogue_word_of step.orders)) (mid_gone s step.event (gone_by o t) g) settled.words.may_send)

pub silent_to_engine : (o : Settings) → IsSilentToEngine o
silent_to_engine o t step l g = silent_step o t step l g (is_open step.event) (state o t).ends.closed (closed_after (state o t) step.event) refl refl refl
