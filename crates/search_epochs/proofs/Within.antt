-- No ticket is ever above the epoch.
use Rattle.std.proofs.Common.{ℕ, ◌+◌, List, [], ◌∷◌, Bool, true, false, cond, Option, Some, None, arith}
use Rattle.protocol_tokens.specs.declared.kinds.GoKind.TheVariants as kinds
use Rattle.search_epochs.specs.Tickets.{Engine, Boot, Getting, Idle, Search, Gone, Word, Uci, IsReady, Go, PonderHit, Ticketed, TicketWithin, LastWithin, DialogueTurn, engine_after_heard, said_of_event, closed_ticket, engine_after_word, sent_all, before_orders}
use Rattle.search_epochs.specs.History.{dialogue}
use Rattle.search_epochs.specs.Laws.{TicketsAreWithin}
use Rattle.search_epochs.proofs.Whole.{heard_within, last_within}

sent_within : (epoch : ℕ) (e : Engine) (w : Word) → TicketWithin epoch e → TicketWithin epoch (engine_after_word epoch e w)
sent_within epoch Gone w t = tt
sent_within epoch (Search kinds.Ponder n s) PonderHit t = omega arith
sent_within epoch e (Go k) t = omega arith
sent_within epoch (Search k n s) Uci t = tt
sent_within epoch (Search k n s) IsReady t = tt
sent_within epoch (Search k n s) w t = t
sent_within epoch e w t = tt

pub all_within : (epoch : ℕ) (e : Engine) (ws : List Word) → TicketWithin epoch e → TicketWithin epoch (sent_all epoch e ws)
all_within epoch e [] t = t
all_within epoch e (w ∷ ws) t = all_within epoch (engine_after_word epoch e w) ws (sent_within epoch e w t)

risen_within : (epoch : ℕ) (e : Engine) (r : Bool) → TicketWithin epoch e → TicketWithin (cond r (epoch + 1) epoch) e
risen_within epoch Boot r t = tt
risen_within epoch Getting r t = tt
risen_within epoch Idle r t = tt
risen_within epoch Gone r t = tt
risen_within epoch (Search k n s) true t = omega arith
risen_within epoch (Search k n s) false t = t

risen_last : (epoch : ℕ) (last : Option ℕ) (r : Bool) → LastWithin epoch last → LastWithin (cond r (epoch + 1) epoch) last
risen_last epoch None r l = tt
risen_last epoch (Some n) true l = omega arith
risen_last epoch (Some n) false l = l

-- after the event and the rise of the epoch
pub turned_within : (t : Ticketed) (u : DialogueTurn) → TicketWithin t.epoch t.engine → TicketWithin (before_orders t u).epoch (before_orders t u).engine
turned_within t u w = risen_within t.epoch (engine_after_heard t.engine (said_of_event u.what)) u.begins_epoch (heard_within t.epoch t.engine (said_of_event u.what) w)

pub turned_last : (t : Ticketed) (u : DialogueTurn) → TicketWithin t.epoch t.engine → LastWithin t.epoch t.last → LastWithin (before_orders t u).epoch (before_orders t u).last
turned_last t u w l = risen_last t.epoch (closed_ticket t.engine (said_of_event u.what) t.last) u.begins_epoch (last_within t.epoch t.engine (said_of_event u.what) t.last w l)

-- after all exchanges
pub within : TicketsAreWithin
within [] = (tt, tt)
within (x ∷ xs) =
    let before = within xs in
    let m = before_orders (dialogue xs) x.turn in
    (all_within m.epoch m.engine x.orders (turned_within (dialogue xs) x.turn before.0), turned_last (dialogue xs) x.turn before.0 before.1)
