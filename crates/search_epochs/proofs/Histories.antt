-- A dialogue whose orders the code chose is lawful, and a lawful one is chosen by the code.
use Rattle.std.proofs.Common.{◌≡◌, ℕ, List, [], ◌∷◌, map, Bool, true, false, not, cond, ◌&&◌, ◌||◌, Option, Some, None, refl, sym, ap, subst, ◌∙◌}
use Rattle.chess_board.specs.declared.board.Move.{Move}
use Rattle.search_epochs.specs.declared.words.Call.{Call}
use Rattle.search_epochs.specs.declared.words.Call.TheVariants as calls
use Rattle.search_epochs.specs.declared.words.Said.TheVariants as said
use Rattle.search_epochs.specs.declared.words.Orders.{Orders}
use Rattle.search_epochs.specs.declared.words.Orders.TheVariants as orders
use Rattle.search_epochs.specs.Tickets.{Engine, Boot, Getting, Idle, Search, Gone, What, Says, Ticketed, Word, Quit, TicketWithin, LastWithin, AllSetup, Settled, engine_after_word, sent_all, is_call_spent, owed, before_orders, engine_after_orders, ticket_ponders, is_due, is_ponder_hit, is_move_now, has_no_order, has_stop, is_engine_gone, leaves_boot, needs_fence}
use Rattle.search_epochs.specs.Dialogue.{Dialogue, forget, dialogue_between_steps, is_unfenced, kept_mid, words, settle, settled_by, after_settled, played_of, boots}
use Rattle.search_epochs.specs.History.{Exchange, ExchangeMayCome, AreLawful, CallIsSteady, Steady, Chosen, LawfulHistory, dialogue, view, last_hint, last_call, is_closed, heard_in, has_unsent, exchange_choice, exchange_orders, closing_orders, is_gone_state, without_orders}
use Rattle.search_epochs.specs.Laws.{ChosenIsLawful, LawfulIsChosen, DialogueIsKept, DialogueIsUnique}
use Rattle.search_epochs.proofs.Whole.{same_parts, mid_kept, whole_mid, ponders_before}
use Rattle.search_epochs.proofs.Rests.{rested}
use Rattle.search_epochs.proofs.Same.{same}
use Rattle.search_epochs.proofs.Within.{within}

boots_kept : (epoch : ℕ) (e : Engine) (w : What) → boots (forget epoch e) w ≡ leaves_boot e w
boots_kept epoch Boot (Says said.UciOk) = refl
boots_kept epoch Boot w = refl
boots_kept epoch e w = refl

gone_kept : (epoch : ℕ) (e : Engine) → is_gone_state (forget epoch e) ≡ is_engine_gone e
gone_kept epoch Boot = refl
gone_kept epoch Getting = refl
gone_kept epoch Idle = refl
gone_kept epoch (Search k t s) = refl
gone_kept epoch Gone = refl

-- `quit` leaves the engine as it is
pub quit_sent : (epoch : ℕ) (e : Engine) → engine_after_word epoch e Quit ≡ e
quit_sent epoch Boot = refl
quit_sent epoch Getting = refl
quit_sent epoch Idle = refl
quit_sent epoch (Search k t s) = refl
quit_sent epoch Gone = refl

pub none_sent : (m : Ticketed) (closed gone : Bool) → sent_all m.epoch m.engine (closing_orders closed gone) ≡ m.engine
none_sent m true gone = refl
none_sent m false true = refl
none_sent m false false = quit_sent m.epoch m.engine

-- the last orders leave everything as it is
pub closing_after : (m : Ticketed) (closed gone : Bool) → engine_after_orders m (closing_orders closed gone) ≡ m
closing_after m closed gone =
    ap (λ (e : Engine). let t : Ticketed = record { engine = e; epoch = m.epoch; last = m.last; unfenced = has_stop (closing_orders closed gone) || m.unfenced } in t) (none_sent m closed gone)
    ∙ ap (λ b. let t : Ticketed = record { engine = m.engine; epoch = m.epoch; last = m.last; unfenced = b || m.unfenced } in t) (no_stop closed gone)
  where
    no_stop : (closed gone : Bool) → has_stop (closing_orders closed gone) ≡ false
    no_stop true gone = refl
    no_stop false true = refl
    no_stop false false = refl

-- what goes on in an exchange if the code stands for the dialogue before
module _ (t : Ticketed) (x : Exchange) (w : TicketWithin t.epoch t.engine) (l : LastWithin t.epoch t.last) where
  heard_kept : heard_in (dialogue_between_steps t x.turn.hint) x ≡ kept_mid t x.turn
  heard_kept = mid_kept t x.turn.hint x.turn w l

  choice_open : x.closed ≡ false → exchange_choice (dialogue_between_steps t x.turn.hint) x ≡ settled_by t x.turn
  choice_open e =
      ap (λ b. cond b orders.None (settle (heard_in (dialogue_between_steps t x.turn.hint) x) x.turn.call (has_unsent (dialogue_between_steps t x.turn.hint) x) (played_of x.turn.what) (is_move_now x.turn.what))) e
      ∙ ap (λ (m : Dialogue). settle m x.turn.call ((boots (forget t.epoch t.engine) x.turn.what || not (has_no_order x.turn.waiting)) || (x.turn.fences && is_unfenced m x.turn.call)) (played_of x.turn.what) (is_move_now x.turn.what)) heard_kept
      ∙ ap (λ b. settle (kept_mid t x.turn) x.turn.call ((b || not (has_no_order x.turn.waiting)) || needs_fence (before_orders t x.turn) x.turn) (played_of x.turn.what) (is_move_now x.turn.what)) (boots_kept t.epoch t.engine x.turn.what)

  orders_open : (closed : Bool) → x.closed ≡ false → exchange_orders (dialogue_between_steps t x.turn.hint) closed x ≡ words x.turn.waiting (settled_by t x.turn)
  orders_open closed e =
      ap (λ b. cond b (closing_orders closed (is_gone_state (heard_in (dialogue_between_steps t x.turn.hint) x).state)) (words x.turn.waiting (exchange_choice (dialogue_between_steps t x.turn.hint) x))) e
      ∙ ap (words x.turn.waiting) (choice_open e)

  orders_closed : (closed : Bool) → x.closed ≡ true → exchange_orders (dialogue_between_steps t x.turn.hint) closed x ≡ closing_orders closed (is_engine_gone (before_orders t x.turn).engine)
  orders_closed closed e =
      ap (λ b. cond b (closing_orders closed (is_gone_state (heard_in (dialogue_between_steps t x.turn.hint) x).state)) (words x.turn.waiting (exchange_choice (dialogue_between_steps t x.turn.hint) x))) e
      ∙ ap (λ (m : Dialogue). closing_orders closed (is_gone_state m.state)) heard_kept
      ∙ ap (closing_orders closed) (gone_kept (before_orders t x.turn).epoch (before_orders t x.turn).engine)

  module _ (call : Call) (hint : Option Move) (steady : CallIsSteady t call hint x) where
    hint_kept : x.turn.begins_epoch ≡ false → x.hint ≡ x.turn.hint
    hint_kept r = steady.hint_stays r ∙ sym steady.hint_before

    hint_named : (h : Move) → owed (before_orders t x.turn) x.turn.call ≡ calls.Ponder h → x.hint ≡ Some h
    hint_named h e = steady.hint_called h (called (is_call_spent (before_orders t x.turn)) x.turn.call h e) where
      called : (b : Bool) (c : Call) (h : Move) → cond b calls.Nothing c ≡ calls.Ponder h → c ≡ calls.Ponder h
      called true c h e = cc
      called false c h e = e

    -- an exchange in which the code settles
    pub settled_open : AllSetup x.turn.waiting → x.closed ≡ false
        → Settled (before_orders t x.turn).engine (before_orders t x.turn).epoch (owed (before_orders t x.turn) x.turn.call) x.turn.waiting (is_due t x.turn) (is_ponder_hit t x.turn) (is_move_now x.turn.what) (words x.turn.waiting (settled_by t x.turn))
    settled_open a e = (whole_mid t x.turn x.hint w a hint_kept hint_named).0

    pub kept_open : AllSetup x.turn.waiting → x.closed ≡ false
        → after_settled (heard_in (dialogue_between_steps t x.turn.hint) x) (exchange_choice (dialogue_between_steps t x.turn.hint) x) ≡ dialogue_between_steps (engine_after_orders (before_orders t x.turn) (words x.turn.waiting (settled_by t x.turn))) x.hint
    kept_open a e =
        ap (λ (m : Dialogue). after_settled m (exchange_choice (dialogue_between_steps t x.turn.hint) x)) heard_kept
        ∙ ap (λ (o : Orders). after_settled (kept_mid t x.turn) o) (choice_open e)
        ∙ (whole_mid t x.turn x.hint w a hint_kept hint_named).1

    -- an exchange in which it rests
    rests : after_settled (kept_mid t x.turn) orders.None ≡ dialogue_between_steps (before_orders t x.turn) x.hint
    rests =
        same_parts refl refl
        (rested (before_orders t x.turn).epoch (before_orders t x.turn).engine (cond (ticket_ponders t) x.turn.hint None) x.hint
        (λ e. let b = ponders_before t x.turn w e in ap (λ c. cond c x.turn.hint None) b.1 ∙ sym (hint_kept b.0)))
        refl

    kept_closed : (closed : Bool) → x.closed ≡ true
        → after_settled (heard_in (dialogue_between_steps t x.turn.hint) x) (exchange_choice (dialogue_between_steps t x.turn.hint) x) ≡ dialogue_between_steps (engine_after_orders (before_orders t x.turn) (closing_orders closed (is_engine_gone (before_orders t x.turn).engine))) x.hint
    kept_closed closed e =
        ap (λ b. after_settled (heard_in (dialogue_between_steps t x.turn.hint) x) (cond b orders.None (settle (heard_in (dialogue_between_steps t x.turn.hint) x) x.turn.call (has_unsent (dialogue_between_steps t x.turn.hint) x) (played_of x.turn.what) (is_move_now x.turn.what)))) e
        ∙ ap (λ (m : Dialogue). after_settled m orders.None) heard_kept
        ∙ rests
        ∙ ap (λ (m : Ticketed). dialogue_between_steps m x.hint) (sym (closing_after (before_orders t x.turn) closed (is_engine_gone (before_orders t x.turn).engine)))

    -- orders that were chosen are lawful, and the other way round
    pub are_lawful : (closed : Bool) → ExchangeMayCome closed x → x.orders ≡ exchange_orders (dialogue_between_steps t x.turn.hint) closed x → AreLawful t closed x
    are_lawful closed m o = record {
      settled = λ e. subst (λ (ws : List Word). Settled (before_orders t x.turn).engine (before_orders t x.turn).epoch (owed (before_orders t x.turn) x.turn.call) x.turn.waiting (is_due t x.turn) (is_ponder_hit t x.turn) (is_move_now x.turn.what) ws)
          (sym (o ∙ orders_open closed e)) (settled_open m.waiting e);
      closing = λ e. o ∙ orders_closed closed e;
    }

    pub are_chosen : (closed : Bool) → ExchangeMayCome closed x → AreLawful t closed x → x.orders ≡ exchange_orders (dialogue_between_steps t x.turn.hint) closed x
    are_chosen closed m a = by_closed x.closed refl where
      by_closed : (c : Bool) → x.closed ≡ c → x.orders ≡ exchange_orders (dialogue_between_steps t x.turn.hint) closed x
      by_closed true e = a.closing e ∙ sym (orders_closed closed e)
      by_closed false e = same _ _ _ _ _ _ _ _ _ (a.settled e) (settled_open m.waiting e) ∙ sym (orders_open closed e)

    -- and what is kept goes on
    pub goes_on : (closed : Bool) → ExchangeMayCome closed x → x.orders ≡ exchange_orders (dialogue_between_steps t x.turn.hint) closed x
        → after_settled (heard_in (dialogue_between_steps t x.turn.hint) x) (exchange_choice (dialogue_between_steps t x.turn.hint) x) ≡ dialogue_between_steps (engine_after_orders (before_orders t x.turn) x.orders) x.hint
    goes_on closed m o = by_closed x.closed refl where
      by_closed : (c : Bool) → x.closed ≡ c → after_settled (heard_in (dialogue_between_steps t x.turn.hint) x) (exchange_choice (dialogue_between_steps t x.turn.hint) x) ≡ dialogue_between_steps (engine_after_orders (before_orders t x.turn) x.orders) x.hint
      by_closed true e = kept_closed closed e ∙ ap (λ (ws : List Word). dialogue_between_steps (engine_after_orders (before_orders t x.turn) ws) x.hint) (sym (o ∙ orders_closed closed e))
      by_closed false e = kept_open m.waiting e ∙ ap (λ (ws : List Word). dialogue_between_steps (engine_after_orders (before_orders t x.turn) ws) x.hint) (sym (o ∙ orders_open closed e))

-- a dialogue whose orders the code chose is lawful, and what it keeps goes with the tickets
pub chosen_all : (xs : List Exchange) → Steady xs → Chosen xs → LawfulHistory xs × (view xs ≡ dialogue_between_steps (dialogue xs) (last_hint xs))
chosen_all [] s c = (tt, refl)
chosen_all (x ∷ xs) s c =
    let before = chosen_all xs s.0 c.0 in
    let bound = within xs in
    let v : view xs ≡ dialogue_between_steps (dialogue xs) x.turn.hint = before.1 ∙ ap (dialogue_between_steps (dialogue xs)) (sym s.1.hint_before) in
    let o : x.orders ≡ exchange_orders (dialogue_between_steps (dialogue xs) x.turn.hint) (is_closed xs) x = c.2 ∙ ap (λ (v : Dialogue). exchange_orders v (is_closed xs) x) v in
    ((before.0, c.1, are_lawful (dialogue xs) x bound.0 bound.1 (last_call xs) (last_hint xs) s.1 (is_closed xs) c.1 o), ap (λ (v : Dialogue). after_settled (heard_in v x) (exchange_choice v x)) v ∙ goes_on (dialogue xs) x bound.0 bound.1 (last_call xs) (last_hint xs) s.1 (is_closed xs) c.1 o)

-- a lawful dialogue is one whose orders the code chose
pub lawful_all : (xs : List Exchange) → Steady xs → LawfulHistory xs → Chosen xs × (view xs ≡ dialogue_between_steps (dialogue xs) (last_hint xs))
lawful_all [] s l = (tt, refl)
lawful_all (x ∷ xs) s l =
    let before = lawful_all xs s.0 l.0 in
    let bound = within xs in
    let v : view xs ≡ dialogue_between_steps (dialogue xs) x.turn.hint = before.1 ∙ ap (dialogue_between_steps (dialogue xs)) (sym s.1.hint_before) in
    let o : x.orders ≡ exchange_orders (dialogue_between_steps (dialogue xs) x.turn.hint) (is_closed xs) x = are_chosen (dialogue xs) x bound.0 bound.1 (last_call xs) (last_hint xs) s.1 (is_closed xs) l.1 l.2 in
    ((before.0, l.1, o ∙ ap (λ (v : Dialogue). exchange_orders v (is_closed xs) x) (sym v)), ap (λ (v : Dialogue). after_settled (heard_in v x) (exchange_choice v x)) v ∙ goes_on (dialogue xs) x bound.0 bound.1 (last_call xs) (last_hint xs) s.1 (is_closed xs) l.1 o)

pub lawful : ChosenIsLawful
lawful xs s c = (chosen_all xs s c).0

pub chosen : LawfulIsChosen
chosen xs s l = (lawful_all xs s l).0

pub view_kept : DialogueIsKept
view_kept xs s l = (lawful_all xs s l).1

-- the orders of an exchange are determined by what is asked
same_orders : (t : Ticketed) (closed : Bool) (x : Exchange) (ws : List Word) → AreLawful t closed x → AreLawful t closed (record x { orders = ws }) → x.orders ≡ ws
same_orders t closed x ws a b = by_closed x.closed refl where
  by_closed : (c : Bool) → x.closed ≡ c → x.orders ≡ ws
  by_closed true e = a.closing e ∙ sym (b.closing e)
  by_closed false e = same _ _ _ _ _ _ _ _ _ (a.settled e) (b.settled e)

same_exchange : (t : Ticketed) (closed : Bool) (x y : Exchange) → without_orders x ≡ without_orders y → AreLawful t closed x → AreLawful t closed y → x ≡ y
same_exchange t closed x y e a b =
    let other : record x { orders = y.orders } ≡ y = ap (λ (z : Exchange). record z { orders = y.orders }) e in
    let b' : AreLawful t closed (record x { orders = y.orders }) = subst (AreLawful t closed) (sym other) b in
    ap (λ (ws : List Word). record x { orders = ws }) (same_orders t closed x y.orders a b') ∙ other

pub unique : DialogueIsUnique
unique [] [] a b e = refl
unique [] (y ∷ ys) a b e = cc
unique (x ∷ xs) [] a b e = cc
unique (x ∷ xs) (y ∷ ys) a b e =
    let head : without_orders x ≡ without_orders y = cc in
    let tail : map without_orders xs ≡ map without_orders ys = cc in
    let rest = unique xs ys a.0 b.0 tail in
    let b' : AreLawful (dialogue xs) (is_closed xs) y = subst (λ (zs : List Exchange). AreLawful (dialogue zs) (is_closed zs) y) (sym rest) b.2 in
    ap (λ (z : Exchange). z ∷ xs) (same_exchange (dialogue xs) (is_closed xs) x y head a.2 b') ∙ ap (λ (zs : List Exchange). y ∷ zs) rest
