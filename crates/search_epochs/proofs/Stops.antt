-- At most one `stop` in a search.
use Rattle.std.proofs.Common.{◌≡◌, ℕ, ◌+◌, ◌≤◌, List, [], ◌∷◌, Bool, true, false, refl, sym, ap, subst, arith}
use Rattle.protocol_tokens.specs.declared.kinds.GoKind.TheVariants as kinds
use Rattle.search_epochs.specs.Tickets.{Engine, Boot, Getting, Idle, Search, Gone, Word, Setup, IsReady, Position, Go, Stop, PonderHit, Quit, MaySendAll, Ticketed, before_orders, engine_after_word, sent_all, is_engine_gone}
use Rattle.search_epochs.specs.History.{Exchange, AreLawful, LawfulHistory, dialogue, is_closed, closing_orders, stop_orders_after, stop_orders_since_go}
use Rattle.search_epochs.specs.Laws.{StopOrderComesOnce}
use Rattle.search_epochs.proofs.Turns.{heard_goes}

-- so many `stop`s were written since the last `go`: none in a search that is not stopped
abbrev pub AreStops : ℕ → Engine → Type 0
AreStops n (Search k t false) = n ≡ 0
AreStops n e = n ≤ 1

few : (n : ℕ) (e : Engine) → AreStops n e → n ≤ 1
few n Boot h = h
few n Getting h = h
few n Idle h = h
few n Gone h = h
few n (Search k t true) h = h
few n (Search k t false) h = omega arith

-- whether an order needs an idle engine
at_idle : (P : Engine → Type 0) (e : Engine) → e ≡ Idle → P Idle → P e
at_idle P e i p = subst P (sym i) p

stops_sent : (epoch : ℕ) (e : Engine) (ws : List Word) (n : ℕ) → MaySendAll epoch e ws → AreStops n e → AreStops (stop_orders_after n ws) (sent_all epoch e ws)
stops_sent epoch e [] n m h = h
stops_sent epoch e (Setup ∷ ws) n m h = stops_sent epoch (engine_after_word epoch e Setup) ws n m.1 (at_idle (λ x. AreStops n (engine_after_word epoch x Setup)) e m.0 (few n e h))
stops_sent epoch e (IsReady ∷ ws) n m h = stops_sent epoch (engine_after_word epoch e IsReady) ws n m.1 (at_idle (λ x. AreStops n (engine_after_word epoch x IsReady)) e m.0 (few n e h))
stops_sent epoch e (Position ∷ ws) n m h = stops_sent epoch (engine_after_word epoch e Position) ws n m.1 (at_idle (λ x. AreStops n (engine_after_word epoch x Position)) e m.0 (few n e h))
stops_sent epoch e (Go k ∷ ws) n m h = stops_sent epoch (engine_after_word epoch e (Go k)) ws 0 m.1 (at_idle (λ x. AreStops 0 (engine_after_word epoch x (Go k))) e m.0 refl)
stops_sent epoch (Search k t true) (Stop ∷ ws) n m h = cc (m.0)
stops_sent epoch (Search k t false) (Stop ∷ ws) n m h = stops_sent epoch (Search k t true) ws (n + 1) m.1 (omega arith)
stops_sent epoch (Search kinds.Ponder t true) (PonderHit ∷ ws) n m h = cc (m.0.1)
stops_sent epoch (Search kinds.Ponder t false) (PonderHit ∷ ws) n m h = stops_sent epoch (Search kinds.Move epoch false) ws n m.1 h
stops_sent epoch Boot (Quit ∷ ws) n m h = stops_sent epoch Boot ws n m.1 h
stops_sent epoch e (Quit ∷ ws) n m h = stops_sent epoch e ws n m.1 h
stops_sent epoch (Search k t s) (PonderHit ∷ ws) n m h = cc (m.0.0)
stops_sent epoch e x n m h = absurd m.0

-- each of the orders of a lawful exchange may be written at its place
closing_may : (m : Ticketed) (closed : Bool) (gone : Bool) → is_engine_gone m.engine ≡ gone → MaySendAll m.epoch m.engine (closing_orders closed gone)
closing_may m true gone e = tt
closing_may m false true e = tt
closing_may m false false e = (λ g. (let h = ap is_engine_gone g in cc), tt)

pub may_all : (t : Ticketed) (closed : Bool) (x : Exchange) → AreLawful t closed x → MaySendAll (before_orders t x.turn).epoch (before_orders t x.turn).engine x.orders
may_all t closed x a = by_closed x.closed refl where
  by_closed : (c : Bool) → x.closed ≡ c → MaySendAll (before_orders t x.turn).epoch (before_orders t x.turn).engine x.orders
  by_closed false e = (a.settled e).may_send
  by_closed true e = subst (MaySendAll (before_orders t x.turn).epoch (before_orders t x.turn).engine) (sym (a.closing e)) (closing_may (before_orders t x.turn) closed (is_engine_gone (before_orders t x.turn).engine) refl)

stops_are : (xs : List Exchange) → LawfulHistory xs → AreStops (stop_orders_since_go xs) (dialogue xs).engine
stops_are [] l = omega arith
stops_are (x ∷ xs) l =
    let before = stops_are xs l.0 in
    let n = stop_orders_since_go xs in
    let m = before_orders (dialogue xs) x.turn in
    let mid : AreStops n m.engine = heard_goes (λ e last. AreStops n e) (λ last. few n (dialogue xs).engine before) (λ last. few n (dialogue xs).engine before) (dialogue xs).engine x.turn.what (dialogue xs).last before in
    stops_sent m.epoch m.engine x.orders n (may_all (dialogue xs) (is_closed xs) x l.2) mid

pub stops_once : StopOrderComesOnce
stops_once xs l = few (stop_orders_since_go xs) (dialogue xs).engine (stops_are xs l)
