-- Where orders stand, and which engine they reach.
use Rattle.std.proofs.Common.{◌≡◌, ℕ, List, [], ◌∷◌, ◌++◌, Bool, true, false, refl, sym, ap, subst, ◌∙◌}
use Rattle.protocol_tokens.specs.declared.kinds.GoKind.{GoKind}
use Rattle.protocol_tokens.specs.declared.kinds.GoKind.TheVariants as kinds
use Rattle.search_epochs.specs.Tickets.{Engine, Boot, Getting, Idle, Search, Gone, Word, Uci, Stop, PonderHit, Quit, MaySend, MaySendAll, Paired, before_orders, engine_after_word, sent_all, is_engine_gone, has_quit_order}
use Rattle.search_epochs.specs.History.{Exchange, LawfulHistory, dialogue, is_closed, closing_orders}
use Rattle.search_epochs.specs.Laws.{order_needs_idle, IdleEngineGetsOrders, SearchGetsStop, PonderGetsHit, GoneGetsNothing, GoFollowsPosition, QuitOrderIsLast}
use Rattle.search_epochs.proofs.Stops.{may_all}

-- an order that follows others may be written in the state that these lead to
pub at_place : (epoch : ℕ) (e : Engine) (before behind : List Word) (w : Word) → MaySendAll epoch e (before ++ w ∷ behind) → MaySend (sent_all epoch e before) w
at_place epoch e [] behind w m = m.0
at_place epoch e (v ∷ before) behind w m = at_place epoch (engine_after_word epoch e v) before behind w m.1

placed : (x : Exchange) (xs : List Exchange) (before behind : List Word) (w : Word) → LawfulHistory (x ∷ xs) → x.orders ≡ before ++ w ∷ behind
    → MaySend (sent_all (before_orders (dialogue xs) x.turn).epoch (before_orders (dialogue xs) x.turn).engine before) w
placed x xs before behind w l e =
    let m = before_orders (dialogue xs) x.turn in
    at_place m.epoch m.engine before behind w (subst (MaySendAll m.epoch m.engine) e (may_all (dialogue xs) (is_closed xs) x l.2))

idle_needed : (e : Engine) (w : Word) → order_needs_idle w ≡ true → MaySend e w → e ≡ Idle
idle_needed e Uci n m = absurd m
idle_needed e Stop n m = cc
idle_needed e PonderHit n m = cc
idle_needed e Quit n m = cc
idle_needed e w n m = m

stop_needs : (e : Engine) → MaySend e Stop → (k : GoKind) × (ticket : ℕ) × (e ≡ Search k ticket false)
stop_needs Boot m = absurd m
stop_needs Getting m = absurd m
stop_needs Idle m = absurd m
stop_needs Gone m = absurd m
stop_needs (Search k t s) m = (k, t, ap (Search k t) m)

hit_needs : (e : Engine) → MaySend e PonderHit → (ticket : ℕ) × (e ≡ Search kinds.Ponder ticket false)
hit_needs Boot m = absurd m
hit_needs Getting m = absurd m
hit_needs Idle m = absurd m
hit_needs Gone m = absurd m
hit_needs (Search k t s) m = (t, ap (λ g. Search g t s) m.0 ∙ ap (Search kinds.Ponder t) m.1)

pub gone_refuses : (w : Word) → MaySend Gone w → ⊥
gone_refuses Uci m = m
gone_refuses Stop m = m
gone_refuses PonderHit m = m
gone_refuses Quit m = m refl
gone_refuses w m = cc

pub idle_gets_them : IdleEngineGetsOrders
idle_gets_them x xs before behind w l e n = idle_needed _ w n (placed x xs before behind w l e)

pub search_gets_stop : SearchGetsStop
search_gets_stop x xs before behind l e = stop_needs _ (placed x xs before behind Stop l e)

pub ponder_gets_hit : PonderGetsHit
ponder_gets_hit x xs before behind l e = hit_needs _ (placed x xs before behind PonderHit l e)

pub gone_gets_nothing : GoneGetsNothing
gone_gets_nothing x xs before behind w l e g = gone_refuses w (subst (λ (y : Engine). MaySend y w) g (placed x xs before behind w l e))

closing_paired : (closed gone : Bool) → Paired (closing_orders closed gone)
closing_paired true gone = tt
closing_paired false true = tt
closing_paired false false = tt

pub go_follows : GoFollowsPosition
go_follows x xs l = by_closed x.closed refl where
  by_closed : (c : Bool) → x.closed ≡ c → Paired x.orders
  by_closed false e = (l.2.settled e).paired
  by_closed true e = subst Paired (sym (l.2.closing e)) (closing_paired (is_closed xs) (is_engine_gone (before_orders (dialogue xs) x.turn).engine))

quit_alone : (closed gone : Bool) → has_quit_order (closing_orders closed gone) ≡ true → closing_orders closed gone ≡ Quit ∷ []
quit_alone true gone q = cc
quit_alone false true q = cc
quit_alone false false q = refl

pub quit_is_last : QuitOrderIsLast
quit_is_last x xs l = (λ e. (l.2.settled e).no_quit, by_closed x.closed refl, λ e. l.2.closing (l.1.stays_closed e) ∙ ap (λ b. closing_orders b (is_engine_gone (before_orders (dialogue xs) x.turn).engine)) e) where
  by_closed : (c : Bool) → x.closed ≡ c → has_quit_order x.orders ≡ true → x.orders ≡ Quit ∷ []
  by_closed false e q = let n = (l.2.settled e).no_quit in cc
  by_closed true e q = l.2.closing e ∙ quit_alone (is_closed xs) (is_engine_gone (before_orders (dialogue xs) x.turn).engine) (ap has_quit_order (sym (l.2.closing e)) ∙ q)
