-- The facts of the open search after each lawful dialogue.
use Rattle.std.proofs.Common.{◌≡◌, ℕ, ◌+◌, List, [], ◌∷◌, Bool, true, false, not, cond, ◌==◌, Option, refl, sym, ap, subst, ◌∙◌, arith}
use Rattle.std.proofs.lemmas.Bool.Decides.{nat_tests}
use Rattle.protocol_tokens.specs.declared.kinds.GoKind.{GoKind}
use Rattle.protocol_tokens.specs.declared.kinds.GoKind.TheVariants as kinds
use Rattle.search_epochs.specs.declared.words.EngineState.{EngineState}
use Rattle.search_epochs.specs.declared.words.EngineState.TheVariants as states
use Rattle.search_epochs.specs.declared.words.Call.{Call}
use Rattle.search_epochs.specs.declared.words.Call.TheVariants as calls
use Rattle.search_epochs.specs.Tickets.{Engine, Search, Ticketed, DialogueTurn, Word, TicketWithin, AllSetup, IsLiveOnlyAt, engine_after_heard, said_of_event, closed_ticket, is_some_equal, is_call_spent, owed, before_orders, engine_after_orders, is_move, is_no_call, is_engine_gone, is_move_now}
use Rattle.search_epochs.specs.Dialogue.{forget, stale_state, settled_state, words, choose, choose_search, settled_by}
use Rattle.search_epochs.specs.History.{Exchange, ExchangeMayCome, AreLawful, LawfulHistory, dialogue, is_closed}
use Rattle.search_epochs.specs.Laws.{LiveIsCurrent, StoppedIsForMove, CurrentIsUnspent}
use Rattle.search_epochs.proofs.Turns.{heard_goes, risen, ordered}
use Rattle.search_epochs.proofs.Whole.{heard_within, settled_mid}
use Rattle.search_epochs.proofs.Same.{same}
use Rattle.search_epochs.proofs.Within.{within}
use Rattle.search_epochs.proofs.Current.{IfCurrent, none_if_stale, settled_current}
use Rattle.search_epochs.proofs.Histories.{closing_after}

-- a search that was stopped in its own epoch is for a Move
abbrev pub StopsForMove : EngineState → Type 0
StopsForMove (states.Search k false true) = k ≡ kinds.Move
StopsForMove e = Unit {0}

stale_stops : (e : EngineState) → StopsForMove (stale_state e)
stale_stops states.Boot = tt
stale_stops states.Getting = tt
stale_stops states.Idle = tt
stale_stops states.Gone = tt
stale_stops (states.Search k stale s) = tt

-- there is no open current search beside spent
abbrev pub IsUnspent : ℕ → Engine → Option ℕ → Type 0
IsUnspent epoch e last = IfCurrent (forget epoch e) (λ k. is_some_equal last epoch ≡ false)

-- both, of a dialogue
pub record IsSound (t : Ticketed) : Type 0 where
  pub stops : StopsForMove (forget t.epoch t.engine)
  pub unspent : IsUnspent t.epoch t.engine t.last

pub turned_sound : (t : Ticketed) (u : DialogueTurn) → TicketWithin t.epoch t.engine → IsSound t → IsSound (before_orders t u)
turned_sound t u w h = record { stops = stops u.begins_epoch; unspent = unspent u.begins_epoch } where
  risen_state : forget (t.epoch + 1) (engine_after_heard t.engine (said_of_event u.what)) ≡ stale_state (forget t.epoch (engine_after_heard t.engine (said_of_event u.what)))
  risen_state = risen t.epoch (engine_after_heard t.engine (said_of_event u.what)) (heard_within t.epoch t.engine (said_of_event u.what) w)

  stops : (r : Bool) → StopsForMove (forget (cond r (t.epoch + 1) t.epoch) (engine_after_heard t.engine (said_of_event u.what)))
  stops true = subst StopsForMove (sym risen_state) (stale_stops (forget t.epoch (engine_after_heard t.engine (said_of_event u.what))))
  stops false = heard_goes (λ e last. StopsForMove (forget t.epoch e)) (λ last. tt) (λ last. tt) t.engine u.what t.last h.stops

  unspent : (r : Bool) → IsUnspent (cond r (t.epoch + 1) t.epoch) (engine_after_heard t.engine (said_of_event u.what)) (closed_ticket t.engine (said_of_event u.what) t.last)
  unspent true = subst (λ (x : EngineState). IfCurrent x (λ k. is_some_equal (closed_ticket t.engine (said_of_event u.what) t.last) (t.epoch + 1) ≡ false)) (sym risen_state) (none_if_stale _ (forget t.epoch (engine_after_heard t.engine (said_of_event u.what))))
  unspent false = heard_goes (IsUnspent t.epoch) (λ last. tt) (λ last. tt) t.engine u.what t.last h.unspent

-- the orders

search_stops : (k : GoKind) (stale wants matches move_now : Bool) → StopsForMove (settled_state (states.Search k stale false) (choose_search k stale wants matches move_now))
search_stops kinds.Move false wants matches true = refl
search_stops kinds.Ponder stale true true move_now = tt
search_stops kinds.Ponder false false true true = tt
search_stops k false wants matches false = tt
search_stops k false wants matches move_now = tt
search_stops k stale wants true move_now = tt
search_stops k true wants matches move_now = tt

settled_stops : (e : EngineState) (o : Call) (unsent matches move_now : Bool) → StopsForMove e → StopsForMove (settled_state e (choose e o unsent matches move_now))
settled_stops (states.Search k stale true) o unsent matches move_now h = h
settled_stops (states.Search k stale false) o unsent matches move_now h = search_stops k stale (is_move o) matches move_now
settled_stops states.Idle calls.Nothing false matches move_now h = tt
settled_stops states.Idle o true matches move_now h = tt
settled_stops e o unsent matches move_now h = tt

-- if something is owed, nothing is spent
pub unspent_if_owed : (b : Bool) (c : Call) → is_no_call (cond b calls.Nothing c) ≡ false → b ≡ false
unspent_if_owed true c e = cc
unspent_if_owed false c e = refl

pub move_is_something : (c : Call) → is_move c ≡ true → is_no_call c ≡ false
move_is_something calls.Nothing e = cc
move_is_something calls.Move e = refl
move_is_something (calls.Ponder h) e = cc
move_is_something calls.Analyse e = cc

after_sound : (t : Ticketed) (u : DialogueTurn) → AllSetup u.waiting → IsSound (before_orders t u) → IsSound (engine_after_orders (before_orders t u) (words u.waiting (settled_by t u)))
after_sound t u a h =
    let m = before_orders t u in
    let goes = ordered m.epoch m.engine (owed m u.call) u.waiting _ _ (is_move_now u.what) a in
    record {
      stops = subst StopsForMove goes (settled_stops (forget m.epoch m.engine) (owed m u.call) _ _ (is_move_now u.what) h.stops);
      unspent = subst (λ (x : EngineState). IfCurrent x (λ k. is_call_spent m ≡ false)) goes
          (settled_current (λ o k. is_call_spent m ≡ false) (forget m.epoch m.engine) (owed m u.call) _ _ (is_move_now u.what) h.unspent h.unspent
          (λ e. unspent_if_owed (is_call_spent m) u.call e) (λ e. unspent_if_owed (is_call_spent m) u.call (move_is_something (owed m u.call) e)));
    }

-- the orders of a lawful exchange in an open session are those that are chosen
pub open_orders : (t : Ticketed) (closed : Bool) (x : Exchange) → ExchangeMayCome closed x → AreLawful t closed x → x.closed ≡ false → x.orders ≡ words x.turn.waiting (settled_by t x.turn)
open_orders t closed x m a e = same _ _ _ _ _ _ _ _ _ (a.settled e) (settled_mid t x.turn m.waiting)

-- what holds in the middle of a lawful exchange, and is kept by chosen orders, holds after it
pub exchanged : (P : Ticketed → Type 0) (t : Ticketed) (closed : Bool) (x : Exchange) → ExchangeMayCome closed x → AreLawful t closed x → P (before_orders t x.turn)
    → (x.closed ≡ false → P (before_orders t x.turn) → P (engine_after_orders (before_orders t x.turn) (words x.turn.waiting (settled_by t x.turn)))) → P (engine_after_orders (before_orders t x.turn) x.orders)
exchanged P t closed x m a mid goes = by_closed x.closed refl where
  by_closed : (c : Bool) → x.closed ≡ c → P (engine_after_orders (before_orders t x.turn) x.orders)
  by_closed true e = subst P (sym (ap (engine_after_orders (before_orders t x.turn)) (a.closing e) ∙ closing_after (before_orders t x.turn) closed (is_engine_gone (before_orders t x.turn).engine))) mid
  by_closed false e = subst (λ (ws : List Word). P (engine_after_orders (before_orders t x.turn) ws)) (sym (open_orders t closed x m a e)) (goes e mid)

pub sound : (xs : List Exchange) → LawfulHistory xs → IsSound (dialogue xs)
sound [] l = record { stops = tt; unspent = tt }
sound (x ∷ xs) l =
    exchanged IsSound (dialogue xs) (is_closed xs) x l.1 l.2 (turned_sound (dialogue xs) x.turn (within xs).0 (sound xs l.0)) (λ e h. after_sound (dialogue xs) x.turn l.1.waiting h)

-- from a current search to what is kept of it

fresh : (epoch : ℕ) → not (epoch == epoch) ≡ false
fresh epoch = grind (arith, nat_tests)

pub at_current : (P : GoKind → Type 0) (epoch : ℕ) (e : Engine) (k : GoKind) (s : Bool) → e ≡ Search k epoch s → IfCurrent (forget epoch e) P → P k
at_current P epoch e k s is h =
    subst (λ (b : Bool). IfCurrent (states.Search k b s) P) (fresh epoch) (subst (λ (x : Engine). IfCurrent (forget epoch x) P) is h)

pub stopped_for_move : StoppedIsForMove
stopped_for_move xs k l is =
    subst (λ (b : Bool). StopsForMove (states.Search k b true)) (fresh (dialogue xs).epoch)
    (subst (λ (x : Engine). StopsForMove (forget (dialogue xs).epoch x)) is (sound xs l).stops)

pub current_unspent : CurrentIsUnspent
current_unspent xs k s l is = at_current (λ g. is_call_spent (dialogue xs) ≡ false) (dialogue xs).epoch (dialogue xs).engine k s is (sound xs l).unspent

-- an open search that is not stopped is current, also if the session is closed, since no epoch begins then
live_closed : (t : Ticketed) (closed : Bool) (x : Exchange) → ExchangeMayCome closed x → AreLawful t closed x → x.closed ≡ true → IsLiveOnlyAt t.epoch t.engine → IsLiveOnlyAt (before_orders t x.turn).epoch (engine_after_orders (before_orders t x.turn) x.orders).engine
live_closed t closed x m a e h =
    let m' = before_orders t x.turn in
    let heard_live : IsLiveOnlyAt t.epoch m'.engine = heard_goes (λ e last. IsLiveOnlyAt t.epoch e) (λ last. tt) (λ last. tt) t.engine x.turn.what t.last h in
    let mid : IsLiveOnlyAt m'.epoch m'.engine = subst (λ b. IsLiveOnlyAt (cond b (t.epoch + 1) t.epoch) m'.engine) (sym (m.no_epoch e)) heard_live in
    subst (λ (n : Ticketed). IsLiveOnlyAt n.epoch n.engine) (sym (ap (engine_after_orders m') (a.closing e) ∙ closing_after m' closed (is_engine_gone m'.engine))) mid

pub live : LiveIsCurrent
live [] l = tt
live (x ∷ xs) l = by_closed x.closed refl (live xs l.0) where
  by_closed : (c : Bool) → x.closed ≡ c → IsLiveOnlyAt (dialogue xs).epoch (dialogue xs).engine → IsLiveOnlyAt (before_orders (dialogue xs) x.turn).epoch (engine_after_orders (before_orders (dialogue xs) x.turn) x.orders).engine
  by_closed false e h = (l.2.settled e).current
  by_closed true e h = live_closed (dialogue xs) (is_closed xs) x l.1 l.2 e h
