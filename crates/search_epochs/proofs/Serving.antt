-- An open current search serves the call, and a call for a Move is never spent.
use Rattle.std.proofs.Common.{◌≡◌, ℕ, ◌+◌, List, [], ◌∷◌, Bool, true, false, not, cond, ◌||◌, ◌==◌, Option, refl, sym, ap, subst, ◌∙◌}
use Rattle.chess_board.specs.declared.board.Move.{Move}
use Rattle.protocol_tokens.specs.declared.kinds.GoKind.{GoKind}
use Rattle.protocol_tokens.specs.declared.kinds.GoKind.TheVariants as kinds
use Rattle.search_epochs.specs.declared.words.EngineState.{EngineState}
use Rattle.search_epochs.specs.declared.words.EngineState.TheVariants as states
use Rattle.search_epochs.specs.declared.words.Call.{Call}
use Rattle.search_epochs.specs.declared.words.Call.TheVariants as calls
use Rattle.search_epochs.specs.declared.words.Said.TheVariants as said
use Rattle.search_epochs.specs.declared.words.Orders.{Orders}
use Rattle.search_epochs.specs.declared.words.Orders.TheVariants as orders
use Rattle.search_epochs.specs.Tickets.{Engine, Search, What, Says, Ticketed, DialogueTurn, Word, TicketWithin, LastWithin, AllSetup, SearchServesCall, said_of_event, closed_ticket, is_some_equal, sent_all, is_call_spent, owed, before_orders, engine_after_orders, is_move, is_no_call, is_move_now, kind_of, has_go, has_hit}
use Rattle.search_epochs.specs.Dialogue.{forget, words, choose}
use Rattle.search_epochs.specs.History.{Exchange, ExchangeMayCome, AreLawful, CallIsSteady, Steady, LawfulHistory, IsDeaf, dialogue, is_closed, last_call, last_hint, call_of_last_search, answers_call, answers_at, is_engine_end}
use Rattle.search_epochs.specs.Laws.{CurrentServes, MoveIsOwed}
use Rattle.search_epochs.proofs.Turns.{risen_spent, ordered}
use Rattle.search_epochs.proofs.Whole.{last_within}
use Rattle.search_epochs.proofs.Within.{within}
use Rattle.search_epochs.proofs.Current.{IfCurrent, turned_current, settled_current}
use Rattle.search_epochs.proofs.Sound.{move_is_something, open_orders, at_current}

-- a Move that is owed is called for
owed_is_called : (b : Bool) (c : Call) → is_no_call (cond b calls.Nothing c) ≡ false → cond b calls.Nothing c ≡ c
owed_is_called true c e = cc
owed_is_called false c e = refl

pub move_serves : (c : Call) → is_move c ≡ true → SearchServesCall kinds.Move c
move_serves calls.Nothing e = cc
move_serves calls.Move e = (refl, refl)
move_serves (calls.Ponder h) e = cc
move_serves calls.Analyse e = cc

-- whether a search is begun or renewed by these orders
abbrev pub begins_search : List Word → Bool
begins_search ws = has_go ws || has_hit ws

-- An open current search serves the call, and was begun or renewed for it.
abbrev pub IsServed : EngineState → Call → Call → Type 0
IsServed e begun call = IfCurrent e (λ k. SearchServesCall k call × (begun ≡ call))

-- in an open session
pub turned_served : (t : Ticketed) (u : DialogueTurn) (begun call : Call) → TicketWithin t.epoch t.engine → LastWithin t.epoch t.last
    → (u.begins_epoch ≡ false → u.call ≡ cond (answers_call t u.what || is_engine_end u.what) calls.Nothing call)
    → IsServed (forget t.epoch t.engine) begun call → IsServed (forget (before_orders t u).epoch (before_orders t u).engine) begun u.call
turned_served t u begun call w l stays h = turned_current (λ k c. SearchServesCall k c × (begun ≡ c)) t u call w l stays h

pub after_served : (m : Ticketed) (waiting : List Word) (begun call : Call) (unsent matches move_now : Bool) → AllSetup waiting → IsServed (forget m.epoch m.engine) begun call
    → (let o = choose (forget m.epoch m.engine) (owed m call) unsent matches move_now in
    IsServed (forget m.epoch (sent_all m.epoch m.engine (words waiting o))) (cond (begins_search (words waiting o)) call begun) call)
after_served m waiting begun call unsent matches move_now a h =
    subst (λ (x : EngineState). IfCurrent x (served (choose (forget m.epoch m.engine) (owed m call) unsent matches move_now))) (ordered m.epoch m.engine (owed m call) waiting unsent matches move_now a)
    (settled_current served (forget m.epoch m.engine) (owed m call) unsent matches move_now h h begins hits) where
      served : Orders → GoKind → Type 0
      served o k = SearchServesCall k call × (cond (begins_search (words waiting o)) call begun ≡ call)

      begins : is_no_call (owed m call) ≡ false → served (orders.Begin (owed m call)) (kind_of (owed m call))
      begins e = (subst (SearchServesCall (kind_of (owed m call))) (owed_is_called (is_call_spent m) call e) (e, refl), refl)

      hits : is_move (owed m call) ≡ true → served orders.Hit kinds.Move
      hits e = (subst (SearchServesCall kinds.Move) (owed_is_called (is_call_spent m) call (move_is_something (owed m call) e)) (move_serves (owed m call) e), refl)

-- a call that is spent

no_move : (b : Bool) (call call' : Call) → call' ≡ cond b calls.Nothing call → is_move call ≡ false → is_move call' ≡ false
no_move true call call' e h = ap is_move e
no_move false call call' e h = ap is_move e ∙ h

other_call : (k : GoKind) (call : Call) → is_move call ≡ true → SearchServesCall k call → k ≡ kinds.Move
other_call k calls.Nothing e h = cc
other_call k calls.Move e h = sym h.1
other_call k (calls.Ponder g) e h = cc
other_call k calls.Analyse e h = cc

pub served_no_move : (k : GoKind) (call : Call) → (k ≡ kinds.Move → ⊥) → SearchServesCall k call → is_move call ≡ false
served_no_move k call other h = by_call (is_move call) refl where
  by_call : (b : Bool) → is_move call ≡ b → is_move call ≡ false
  by_call true e = absurd (other (other_call k call e h))
  by_call false e = e

answered : (k : GoKind) (epoch t : ℕ) (s : Bool) (call call' : Call) → call' ≡ cond (answers_at (Says said.Best) epoch (Search k t s) || false) calls.Nothing call
    → (t == epoch) ≡ true → IfCurrent (states.Search k (not (t == epoch)) s) (λ g. SearchServesCall g call) → is_move call' ≡ false
answered kinds.Move epoch t s call call' e now h = ap is_move (e ∙ ap (λ b. cond (b || false) calls.Nothing call) now)
answered kinds.Ponder epoch t s call call' e now h =
    ap is_move e ∙ served_no_move kinds.Ponder call (λ k. cc) (subst (λ b. IfCurrent (states.Search kinds.Ponder (not b) s) (λ g. SearchServesCall g call)) now h)
answered kinds.Analyse epoch t s call call' e now h =
    ap is_move e ∙ served_no_move kinds.Analyse call (λ k. cc) (subst (λ b. IfCurrent (states.Search kinds.Analyse (not b) s) (λ g. SearchServesCall g call)) now h)

heard_unspent : (epoch : ℕ) (e : Engine) (w : What) (last : Option ℕ) (closed : Bool) (call call' : Call) → call' ≡ cond (closed || (answers_at w epoch e || is_engine_end w)) calls.Nothing call
    → (closed ≡ true → IsDeaf w) → (closed ≡ false → IfCurrent (forget epoch e) (λ k. SearchServesCall k call)) → (is_some_equal last epoch ≡ true → is_move call ≡ false)
    → is_some_equal (closed_ticket e (said_of_event w) last) epoch ≡ true → is_move call' ≡ false
heard_unspent epoch (Search k t s) (Says said.Best) last true call call' e d h u n = absurd (d refl)
heard_unspent epoch (Search k t s) (Says said.Best) last false call call' e d h u n = answered k epoch t s call call' e n (h refl)
heard_unspent epoch x w last closed call call' e d h u n = no_move _ call call' e (u n)

-- A call for a Move is not spent in the middle of a turn: a Best that closes a current search for a Move begins an epoch or ends the
-- call, and any other current search serves another call.
pub turned_unspent : (t : Ticketed) (u : DialogueTurn) (closed : Bool) (call : Call) → TicketWithin t.epoch t.engine → LastWithin t.epoch t.last
    → (u.begins_epoch ≡ false → u.call ≡ cond (closed || (answers_call t u.what || is_engine_end u.what)) calls.Nothing call) → (closed ≡ true → IsDeaf u.what)
    → (closed ≡ false → IfCurrent (forget t.epoch t.engine) (λ k. SearchServesCall k call)) → (is_call_spent t ≡ true → is_move call ≡ false)
    → is_call_spent (before_orders t u) ≡ true → is_move u.call ≡ false
turned_unspent t u closed call w l stays d h before n = by_rise u.begins_epoch refl n where
  by_rise : (r : Bool) → u.begins_epoch ≡ r → is_some_equal (closed_ticket t.engine (said_of_event u.what) t.last) (cond r (t.epoch + 1) t.epoch) ≡ true → is_move u.call ≡ false
  by_rise true e n = let never = risen_spent t.epoch (closed_ticket t.engine (said_of_event u.what) t.last) (last_within t.epoch t.engine (said_of_event u.what) t.last w l) in cc
  by_rise false e n = heard_unspent t.epoch t.engine u.what t.last closed call u.call (stays e) d h before n

-- both, of a dialogue
pub record IsServing (closed : Bool) (t : Ticketed) (begun call : Call) : Type 0 where
  pub served : closed ≡ false → IsServed (forget t.epoch t.engine) begun call
  pub unspent : is_call_spent t ≡ true → is_move call ≡ false

first_of_served : (e : EngineState) (begun call : Call) → IsServed e begun call → IfCurrent e (λ k. SearchServesCall k call)
first_of_served states.Boot begun call h = tt
first_of_served states.Getting begun call h = tt
first_of_served states.Idle begun call h = tt
first_of_served states.Gone begun call h = tt
first_of_served (states.Search k true s) begun call h = tt
first_of_served (states.Search k false s) begun call h = h.0

still_open : (a b : Bool) → (a ≡ true → b ≡ true) → b ≡ false → a ≡ false
still_open true b up e = let u = up refl in cc
still_open false b up e = refl

-- through a whole exchange
pub exchange_serving : (t : Ticketed) (closed : Bool) (begun call : Call) (hint : Option Move) (x : Exchange) → TicketWithin t.epoch t.engine → LastWithin t.epoch t.last
    → CallIsSteady t call hint x → ExchangeMayCome closed x → AreLawful t closed x → IsServing closed t begun call
    → IsServing x.closed (engine_after_orders (before_orders t x.turn) x.orders) (cond (begins_search x.orders) x.turn.call begun) x.turn.call
exchange_serving t closed begun call hint x w l steady m a h = record { served = served; unspent = unspent } where
  open_before : x.closed ≡ false → closed ≡ false
  open_before e = still_open closed x.closed m.stays_closed e

  unspent : is_call_spent (before_orders t x.turn) ≡ true → is_move x.turn.call ≡ false
  unspent n =
      turned_unspent t x.turn x.closed call w l steady.call_stays m.deaf (λ e. first_of_served (forget t.epoch t.engine) begun call (h.served (open_before e))) h.unspent n

  stays : x.closed ≡ false → x.turn.begins_epoch ≡ false → x.turn.call ≡ cond (answers_call t x.turn.what || is_engine_end x.turn.what) calls.Nothing call
  stays e r = steady.call_stays r ∙ ap (λ b. cond (b || (answers_call t x.turn.what || is_engine_end x.turn.what)) calls.Nothing call) e

  served : x.closed ≡ false → IsServed (forget (before_orders t x.turn).epoch (sent_all (before_orders t x.turn).epoch (before_orders t x.turn).engine x.orders)) (cond (begins_search x.orders) x.turn.call begun) x.turn.call
  served e =
      subst (λ (ws : List Word). IsServed (forget (before_orders t x.turn).epoch (sent_all (before_orders t x.turn).epoch (before_orders t x.turn).engine ws)) (cond (begins_search ws) x.turn.call begun) x.turn.call) (sym (open_orders t closed x m a e))
      (after_served (before_orders t x.turn) x.turn.waiting begun x.turn.call _ _ (is_move_now x.turn.what) m.waiting (turned_served t x.turn begun call w l (stays e) (h.served (open_before e))))

pub serving : (xs : List Exchange) → Steady xs → LawfulHistory xs → IsServing (is_closed xs) (dialogue xs) (call_of_last_search xs) (last_call xs)
serving [] s l = record { served = λ e. tt; unspent = λ e. cc }
serving (x ∷ xs) s l =
    let bound = within xs in
    exchange_serving (dialogue xs) (is_closed xs) (call_of_last_search xs) (last_call xs) (last_hint xs) x bound.0 bound.1 s.1 l.1 l.2 (serving xs s.0 l.0)

pub current_serves : CurrentServes
current_serves xs k stopped s l going is = at_current (λ g. SearchServesCall g (last_call xs) × (call_of_last_search xs ≡ last_call xs)) (dialogue xs).epoch (dialogue xs).engine k stopped is ((serving xs s l).served going)

move_owed : (b : Bool) (call : Call) → (b ≡ true → is_move call ≡ false) → is_move (cond b calls.Nothing call) ≡ is_move call
move_owed true call h = sym (h refl)
move_owed false call h = refl

pub move_is_owed : MoveIsOwed
move_is_owed xs s l = move_owed (is_call_spent (dialogue xs)) (last_call xs) ((serving xs s l).unspent)
