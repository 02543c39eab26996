-- The lists have room after each call.
use Rattle.std.proofs.Common.{◌≡◌, ◌&&◌, ◌||◌, ℕ, ◌+◌, ◌*◌, ◌≤◌, ◌<◌, List, [], ◌∷◌, ◌++◌, Bool, true, false, not, cond, filter, length, nat_le, Option, Some, None, refl, sym, ap, ◌∙◌, subst, arith, length-append, true≢false, if◌then◌else◌}
use Rattle.std.proofs.lemmas.Bool.{leb-true, and_parts}
use Rattle.std.proofs.lemmas.Bool.Decides.{nat_tests}
use Rattle.std.proofs.lemmas.List.Elements.{filter-append}
use Rattle.protocol_tokens.specs.declared.kinds.GoKind.{GoKind}
use Rattle.protocol_tokens.specs.declared.kinds.GoKind.TheVariants as kinds
use Rattle.protocol_tokens.specs.Tokens.{trimmed}
use Rattle.engine_revival.specs.declared.orders.RevivalOrder.{RevivalOrder as CodeOrder}
use Rattle.engine_revival.specs.declared.orders.RevivalOrder.TheVariants as says
use Rattle.engine_revival.specs.Orders.{RevivalOrder, revival_order_of, revival_order_text, NewGame}
use Rattle.engine_revival.specs.Orders as orders
use Rattle.engine_revival.specs.Asked.{order_of_line, revival_order_in}
use Rattle.engine_revival.proofs.Asked.{asked_text, trimmed_short}
use Rattle.protocol_tokens.specs.Quit.{is_quit}
use Rattle.engine_revival.specs.declared.words.DialogueState.{DialogueState}
use Rattle.engine_revival.specs.declared.words.DialogueState.TheVariants as upper
use Rattle.engine_revival.specs.declared.words.LifeState.{LifeState}
use Rattle.engine_revival.specs.declared.words.LifeSaid.{LifeSaid}
use Rattle.engine_revival.specs.declared.words.LifeSaid.TheVariants as said
use Rattle.engine_revival.specs.declared.words.DueOrders.{DueOrders}
use Rattle.engine_revival.specs.declared.words.DueOrders.TheVariants as due
use Rattle.engine_revival.specs.declared.words.StandInAnswer.{StandInAnswer}
use Rattle.engine_revival.specs.declared.words.StandInAnswer.TheVariants as answers
use Rattle.engine_revival.specs.declared.state.RevivalState.{RevivalState}
use Rattle.engine_revival.specs.declared.state.TheConstants.{MOST_LINE, SEARCH_BYTES, MOST_READY}
use Rattle.engine_revival.specs.declared.order_list.TheConstants.{MOST_ORDERS, MOST_BYTES, LIST_BYTES}
use Rattle.engine_revival.specs.Dialogue.{said_in, after_order, after_said, dialogue_where, is_placed, is_dialogue_idle, is_before, after_hit, after_stop}
use Rattle.engine_revival.specs.Lists.{revival_orders_staying, revival_list_with, revival_batch_text, revival_order_can_join, are_for_same}
use Rattle.engine_revival.specs.Rooms.{AreWithin, IsSearchIn, IsRoomy}
use Rattle.engine_revival.specs.Steps.{state_with_kept, revival_with_value, with_button, state_if_accepted, upper_if_accepted, state_after_reading, state_after_line, with_quit, state_once_heard, line_passed_up, gives, state_at_new_life, after_due, after_answer, due_of, answer_of, state_once_settled, after_at_once, owed_ready_after, is_order_refused, has_ready_room, state_once_ended, state_once_over}
use Rattle.engine_revival.proofs.Lines.{batch_first, batch_last}

pub is_new_game : (o : CodeOrder) (c : RevivalOrder) → revival_order_of o ≡ c → o ≡ says.NewGame → c ≡ NewGame
is_new_game o c e f = sym e ∙ ap revival_order_of f

-- WHAT STAYS IS NO LONGER

few_step : (w : Bool) (c : RevivalOrder) (kept cs : List RevivalOrder) → length kept ≤ length cs → length (cond w (c ∷ kept) kept) ≤ length (c ∷ cs)
few_step true c kept cs h = omega (arith, h)
few_step false c kept cs h = omega (arith, h)

few : (test : RevivalOrder → Bool) (cs : List RevivalOrder) → length (filter test cs) ≤ length cs
few test [] = omega arith
few test (c ∷ cs) = few_step (test c) c (filter test cs) cs (few test cs)

short_step : (w : Bool) (c : RevivalOrder) (kept cs : List RevivalOrder) → length (revival_batch_text kept) ≤ length (revival_batch_text cs) → length (revival_batch_text (cond w (c ∷ kept) kept)) ≤ length (revival_batch_text (c ∷ cs))
short_step true c kept cs h = omega (arith, h, batch_first c kept, batch_first c cs)
short_step false c kept cs h = omega (arith, h, batch_first c cs)

short : (test : RevivalOrder → Bool) (cs : List RevivalOrder) → length (revival_batch_text (filter test cs)) ≤ length (revival_batch_text cs)
short test [] = omega arith
short test (c ∷ cs) = short_step (test c) c (filter test cs) cs (short test cs)

beside : (order : RevivalOrder) (cs : List RevivalOrder) (n m : ℕ) → AreWithin cs n m → AreWithin (revival_orders_staying order cs) n m
beside order cs n m h = record {
  few = omega (arith, h.few, few (λ o. not (are_for_same order o)) cs);
  short = omega (arith, h.short, short (λ o. not (are_for_same order o)) cs);
}

joined : (list : List RevivalOrder) (c : RevivalOrder) → revival_order_can_join list c ≡ true → AreWithin (revival_list_with list c) MOST_ORDERS MOST_BYTES
joined list c h =
    let all = revival_list_with list c in
    let p = and_parts (nat_le (length all) MOST_ORDERS) (nat_le (length (revival_batch_text all)) MOST_BYTES) h in
    record { few = leb-true (length all) MOST_ORDERS p.0; short = leb-true (length (revival_batch_text all)) MOST_BYTES p.1 }

one_more : (search : List RevivalOrder) (c : RevivalOrder) (n m k : ℕ) → AreWithin search n m → length (revival_order_text c) ≤ k → AreWithin (search ++ c ∷ []) (n + 1) (m + (k + 1))
one_more search c n m k h l = record {
  few = omega (arith, h.few, length-append search (c ∷ []));
  short = omega (arith, h.short, l, batch_last search c);
}

wider : (search : List RevivalOrder) (n m n' m' : ℕ) → AreWithin search n m → n ≤ n' → m ≤ m' → AreWithin search n' m'
wider search n m n' m' h a b = record { few = omega (arith, h.few, a); short = omega (arith, h.short, b) }

-- `ucinewgame` has its room.
new_game_length : length (revival_order_text NewGame) ≡ 10
unfolding revival_order_text
new_game_length = refl

hit_length : length (revival_order_text orders.PonderHit) ≡ 9
unfolding revival_order_text
hit_length = refl

stop_length : length (revival_order_text orders.Stop) ≡ 4
unfolding revival_order_text
stop_length = refl

pub new_game_room : (l : List RevivalOrder) → length (revival_batch_text (revival_orders_staying NewGame l)) ≤ MOST_BYTES → length (revival_batch_text (revival_list_with l NewGame)) ≤ LIST_BYTES
new_game_room l h = omega (arith, h, batch_last (revival_orders_staying NewGame l) NewGame, new_game_length)

-- THE SEARCH

all_search : (u : DialogueState) (search : List RevivalOrder) → IsSearchIn u search → AreWithin search 4 SEARCH_BYTES
all_search upper.Placed search h = wider search 1 (MOST_LINE + 1) 4 SEARCH_BYTES h (omega arith) (omega arith)
all_search (upper.Search kinds.Ponder false) search h = wider search 2 (2 * MOST_LINE + 2) 4 SEARCH_BYTES h (omega arith) (omega arith)
all_search (upper.Search x false) search h = wider search 3 (2 * MOST_LINE + 12) 4 SEARCH_BYTES h (omega arith) (omega arith)
all_search u search h = h

begun : (k : GoKind) (search : List RevivalOrder) → AreWithin search 2 (2 * MOST_LINE + 2) → IsSearchIn (upper.Search k false) search
begun kinds.Ponder search h = h
begun kinds.Move search h = wider search 2 (2 * MOST_LINE + 2) 3 (2 * MOST_LINE + 12) h (omega arith) (omega arith)
begun kinds.Analyse search h = wider search 2 (2 * MOST_LINE + 2) 3 (2 * MOST_LINE + 12) h (omega arith) (omega arith)

unstopped : (k : GoKind) (search : List RevivalOrder) → IsSearchIn (upper.Search k false) search → AreWithin search 3 (2 * MOST_LINE + 12)
unstopped kinds.Ponder search h = wider search 2 (2 * MOST_LINE + 2) 3 (2 * MOST_LINE + 12) h (omega arith) (omega arith)
unstopped kinds.Move search h = h
unstopped kinds.Analyse search h = h

stopped : (k : GoKind) (search : List RevivalOrder) → AreWithin search 4 SEARCH_BYTES → IsSearchIn (upper.Search k true) search
stopped kinds.Ponder search h = h
stopped kinds.Move search h = h
stopped kinds.Analyse search h = h

-- where an order may stand, and what comes then
pub where_is : (w : Bool) (next up : DialogueState) → dialogue_where w next ≡ Some up → (w ≡ true) × (next ≡ up)
where_is true next up e = (refl, cc)
where_is false next up e = absurd (cc)

placed_search : (u : DialogueState) (search : List RevivalOrder) → is_placed u ≡ true → IsSearchIn u search → AreWithin search 1 (MOST_LINE + 1)
placed_search upper.Before search e h = absurd (true≢false (sym e))
placed_search upper.Boot search e h = absurd (true≢false (sym e))
placed_search upper.Idle search e h = absurd (true≢false (sym e))
placed_search upper.Placed search e h = h
placed_search (upper.Search k b) search e h = absurd (true≢false (sym e))

go_stage : (w : Bool) (k : GoKind) (up : DialogueState) (search : List RevivalOrder) → dialogue_where w (upper.Search k false) ≡ Some up → AreWithin search 2 (2 * MOST_LINE + 2) → IsSearchIn up search
go_stage w k up search e h = subst (λ (x : DialogueState). IsSearchIn x search) (where_is w (upper.Search k false) up e).1 (begun k search h)

hit_stage : (u up : DialogueState) (search : List RevivalOrder) → after_hit u ≡ Some up → IsSearchIn u search → IsSearchIn up (search ++ orders.PonderHit ∷ [])
hit_stage (upper.Search kinds.Ponder false) up search e h =
    let is : upper.Search kinds.Move false ≡ up = cc in
    let more = one_more search orders.PonderHit 2 (2 * MOST_LINE + 2) 9 h (omega (arith, hit_length)) in
    subst (λ (x : DialogueState). IsSearchIn x (search ++ orders.PonderHit ∷ [])) is (wider (search ++ orders.PonderHit ∷ []) 3 (2 * MOST_LINE + 12) 3 (2 * MOST_LINE + 12) more (omega arith) (omega arith))
hit_stage u up search e h = absurd (cc)

stop_stage : (u up : DialogueState) (search : List RevivalOrder) → after_stop u ≡ Some up → IsSearchIn u search → IsSearchIn up (search ++ orders.Stop ∷ [])
stop_stage upper.Before up search e h = absurd (cc)
stop_stage upper.Boot up search e h = absurd (cc)
stop_stage upper.Idle up search e h = absurd (cc)
stop_stage upper.Placed up search e h = absurd (cc)
stop_stage (upper.Search k true) up search e h = absurd (cc)
stop_stage (upper.Search k false) up search e h =
    let is : upper.Search k true ≡ up = cc in
    let more = one_more search orders.Stop 3 (2 * MOST_LINE + 12) 4 (unstopped k search h) (omega (arith, stop_length)) in
    subst (λ (x : DialogueState). IsSearchIn x (search ++ orders.Stop ∷ [])) is (stopped k (search ++ orders.Stop ∷ []) (wider (search ++ orders.Stop ∷ []) 4 (2 * MOST_LINE + 17) 4 SEARCH_BYTES more (omega arith) (omega arith)))

-- AN ACCEPTED ORDER

-- a state with this upper state and life
abbrev standing : RevivalState → DialogueState → LifeState → RevivalState
standing s up life = record s { upper = up; life = life }

calm : (s : RevivalState) (up : DialogueState) (life : LifeState) → IsRoomy s → IsSearchIn up s.search → IsRoomy (standing s up life)
calm s up life h k = record { kept = h.kept; settings = h.settings; unsent = h.unsent; search = h.search; stage = k; ready = h.ready }

value_step : (w : Bool) (s : RevivalState) (c : RevivalOrder) → (revival_order_can_join s.kept c && revival_order_can_join s.unsent c) ≡ w → IsRoomy s → IsRoomy (revival_with_value w s c)
value_step true s c e h =
    let p = and_parts (revival_order_can_join s.kept c) (revival_order_can_join s.unsent c) e in
    let unsent = joined s.unsent c p.1 in
    record {
      kept = joined s.kept c p.0;
      settings = beside NewGame (revival_list_with s.unsent c) MOST_ORDERS MOST_BYTES unsent;
      unsent = omega (arith, unsent.short);
      search = h.search;
      stage = h.stage;
      ready = h.ready;
    }
value_step false s c e h = record { kept = h.kept; settings = h.settings; unsent = h.unsent; search = h.search; stage = h.stage; ready = h.ready }

button_step : (w : Bool) (s : RevivalState) (c : RevivalOrder) → revival_order_can_join s.unsent c ≡ w → IsRoomy s → IsRoomy (with_button w s c)
button_step true s c e h =
    let unsent = joined s.unsent c e in
    record {
      kept = h.kept;
      settings = beside NewGame (revival_list_with s.unsent c) MOST_ORDERS MOST_BYTES unsent;
      unsent = omega (arith, unsent.short);
      search = h.search;
      stage = h.stage;
      ready = h.ready;
    }
button_step false s c e h = record { kept = h.kept; settings = h.settings; unsent = h.unsent; search = h.search; stage = h.stage; ready = h.ready }

-- Beside a new game nothing new stays.
game_beside : (l : List RevivalOrder) (n m : ℕ) → AreWithin (revival_orders_staying NewGame l) n m → AreWithin (revival_orders_staying NewGame (revival_list_with l NewGame)) n m
game_beside l n m h =
    let stays = revival_orders_staying NewGame l in
    let e : revival_orders_staying NewGame (revival_list_with l NewGame) ≡ revival_orders_staying NewGame stays ++ [] = filter-append (λ o. not (are_for_same NewGame o)) stays (NewGame ∷ []) in
    let k = beside NewGame stays n m h in
    record {
      few = omega (arith, ap (λ (x : List RevivalOrder). length x) e, length-append (revival_orders_staying NewGame stays) [], k.few);
      short = subst (λ (x : List RevivalOrder). length (revival_batch_text x) ≤ m) (sym (e ∙ nil (revival_orders_staying NewGame stays))) k.short;
    }
  where
    nil : (x : List RevivalOrder) → x ++ [] ≡ x
    nil [] = refl
    nil (c ∷ cs) = ap (λ (t : List RevivalOrder). c ∷ t) (nil cs)

game_step : (s : RevivalState) → IsRoomy s → IsRoomy (state_with_kept s NewGame)
game_step s h = record {
  kept = h.kept;
  settings = game_beside s.unsent MOST_ORDERS MOST_BYTES h.settings;
  unsent = new_game_room s.unsent h.settings.short;
  search = h.search;
  stage = h.stage;
  ready = h.ready;
}

with_search : (s : RevivalState) (up : DialogueState) (life : LifeState) (search : List RevivalOrder) → IsRoomy s → IsSearchIn up search → IsRoomy (record s { upper = up; life = life; search = search })
with_search s up life search h k = record { kept = h.kept; settings = h.settings; unsent = h.unsent; search = all_search up search k; stage = k; ready = h.ready }

-- an order that is not refused
pub neither : (a b : Bool) → (a || b) ≡ false → (a ≡ false) × (b ≡ false)
neither true b e = absurd (cc)
neither false b e = (refl, e)

not_lacking : (b : Bool) → (true && not b) ≡ false → b ≡ true
not_lacking true e = refl
not_lacking false e = absurd (true≢false e)

one_more_ready : (s : RevivalState) → has_ready_room s ≡ true → s.held_ready + 1 + s.asked_ready ≤ MOST_READY
one_more_ready s e =
    let l : s.held_ready + s.asked_ready < MOST_READY = grind (arith, nat_tests, e) in
    omega (arith, l)

-- after an order that may stand in the upper state, of a line that is no longer than a line may be
pub accepting_roomy : (s : RevivalState) (c : RevivalOrder) (up : DialogueState) → is_order_refused s c ≡ false → after_order c s.upper ≡ Some up → length (revival_order_text c) ≤ MOST_LINE → IsRoomy s → IsRoomy (state_if_accepted (Some up) s c)
accepting_roomy s orders.Uci up r e l h =
    calm s up (after_at_once s.life orders.Uci) h (subst (λ (x : DialogueState). IsSearchIn x s.search) (where_is (is_before s.upper) upper.Boot up e).1 h.search)
accepting_roomy s orders.IsReady up r e l h = record {
  kept = h.kept;
  settings = h.settings;
  unsent = h.unsent;
  search = h.search;
  stage = subst (λ (x : DialogueState). IsSearchIn x s.search) (where_is (not (is_before s.upper)) s.upper up e).1 h.stage;
  ready = one_more_ready s (not_lacking (has_ready_room s) (neither s.quit (true && not (has_ready_room s)) r).1);
}
accepting_roomy s orders.NewGame up r e l h =
    calm (state_with_kept s NewGame) up (after_at_once s.life NewGame) (game_step s h) (subst (λ (x : DialogueState). IsSearchIn x s.search) (where_is (is_dialogue_idle s.upper) upper.Idle up e).1 h.search)
accepting_roomy s (orders.Value name line) up r e l h =
    let order = orders.Value name line in
    let fits = revival_order_can_join s.kept order && revival_order_can_join s.unsent order in
    let k = value_step fits s order refl h in
    calm (revival_with_value fits s order) up (after_at_once s.life order) k (subst (λ (x : DialogueState). IsSearchIn x (revival_with_value fits s order).search) (where_is (is_dialogue_idle s.upper) upper.Idle up e).1 k.search)
accepting_roomy s (orders.Button name line) up r e l h =
    let order = orders.Button name line in
    let k = button_step (revival_order_can_join s.unsent order) s order refl h in
    calm (with_button (revival_order_can_join s.unsent order) s order) up (after_at_once s.life order) k (subst (λ (x : DialogueState). IsSearchIn x (with_button (revival_order_can_join s.unsent order) s order).search) (where_is (is_dialogue_idle s.upper) upper.Idle up e).1 k.search)
accepting_roomy s (orders.Position line) up r e l h =
    let order = orders.Position line in
    let one : AreWithin (order ∷ []) 1 (MOST_LINE + 1) = record { few = omega arith; short = omega (arith, l, batch_first order []) } in
    with_search s up (after_at_once s.life order) (order ∷ []) h (subst (λ (x : DialogueState). IsSearchIn x (order ∷ [])) (where_is (is_dialogue_idle s.upper || is_placed s.upper) upper.Placed up e).1 one)
accepting_roomy s (orders.Go kind line) up r e l h =
    let order = orders.Go kind line in
    let before = placed_search s.upper s.search (where_is (is_placed s.upper) (upper.Search kind false) up e).0 h.stage in
    let more = one_more s.search order 1 (MOST_LINE + 1) MOST_LINE before l in
    with_search s up (after_at_once s.life order) (s.search ++ order ∷ []) h
    (go_stage (is_placed s.upper) kind up (s.search ++ order ∷ []) e (wider (s.search ++ order ∷ []) 2 (MOST_LINE + 1 + (MOST_LINE + 1)) 2 (2 * MOST_LINE + 2) more (omega arith) (omega arith)))
accepting_roomy s orders.PonderHit up r e l h =
    with_search s up (after_at_once s.life orders.PonderHit) (s.search ++ orders.PonderHit ∷ []) h (hit_stage s.upper up s.search e h.stage)
accepting_roomy s orders.Stop up r e l h =
    with_search s up (after_at_once s.life orders.Stop) (s.search ++ orders.Stop ∷ []) h (stop_stage s.upper up s.search e h.stage)
accepting_roomy s orders.Quit up r e l h = absurd (cc)

pub unquit : (q : Bool) (o : Option DialogueState) (up : DialogueState) → (if q then None else o) ≡ Some up → o ≡ Some up
unquit true o up e = absurd (cc)
unquit false o up e = e

pub unrefused : (q : Bool) (o : Option DialogueState) (up : DialogueState) → (if q then None else o) ≡ Some up → q ≡ false
unrefused true o up e = absurd (cc)
unrefused false o up e = refl

accepting_by : (s : RevivalState) (c : RevivalOrder) (w : Option DialogueState) → upper_if_accepted s c ≡ w → length (revival_order_text c) ≤ MOST_LINE → IsRoomy s → IsRoomy (state_if_accepted w s c)
accepting_by s c None e l h = h
accepting_by s c (Some up) e l h = accepting_roomy s c up (unrefused (is_order_refused s c) (after_order c s.upper) up e) (unquit (is_order_refused s c) (after_order c s.upper) up e) l h

reading_roomy : (s : RevivalState) (line : List ℕ) (o : Option RevivalOrder) → revival_order_in line ≡ o → length line ≤ MOST_LINE → IsRoomy s → IsRoomy (state_after_reading s o)
reading_roomy s line None e l h = h
reading_roomy s line (Some c) e l h = accepting_by s c (upper_if_accepted s c) refl (omega (arith, l, ap (λ (t : List ℕ). length t) (asked_text line c e))) h

ordering_by : (s : RevivalState) (line : List ℕ) (w : Bool) → length line ≤ MOST_LINE → IsRoomy s → IsRoomy (if w then with_quit s else state_after_reading s (order_of_line line))
ordering_by s line true l h = record { kept = h.kept; settings = h.settings; unsent = h.unsent; search = h.search; stage = h.stage; ready = h.ready }
ordering_by s line false l h = reading_roomy s (trimmed line) (order_of_line line) refl (trimmed_short line MOST_LINE l) h

pub ordering_roomy : (s : RevivalState) (line : List ℕ) → length line ≤ MOST_LINE → IsRoomy s → IsRoomy (state_after_line s line)
ordering_roomy s line l h = ordering_by s line (is_quit line) l h

-- THE OTHER CALLS

said_stage : (w : Bool) (u : DialogueState) (word : LifeSaid) (search : List RevivalOrder) → IsSearchIn u search → AreWithin search 4 SEARCH_BYTES → IsSearchIn (if w then after_said u word else u) search
said_stage true upper.Boot said.UciOk search h k = k
said_stage true (upper.Search kind b) said.Best search h k = k
said_stage w u word search h k = h

owed_less : (word : LifeSaid) (n : ℕ) → owed_ready_after word n ≤ n
owed_less said.ReadyOk n = omega arith
owed_less word n = omega arith

pub hearing_roomy : (s : RevivalState) (word : LifeSaid) → IsRoomy s → IsRoomy (state_once_heard s word)
hearing_roomy s word h = record {
  kept = h.kept;
  settings = h.settings;
  unsent = h.unsent;
  search = h.search;
  stage = said_stage (gives s word) s.upper word s.search h.stage h.search;
  ready = omega (arith, h.ready, owed_less word s.asked_ready);
}

pub ended_roomy : (s : RevivalState) → IsRoomy s → IsRoomy (state_once_ended s)
ended_roomy s h = record { kept = h.kept; settings = h.settings; unsent = h.unsent; search = h.search; stage = h.stage; ready = omega (arith, h.ready) }

pub over_roomy : (s : RevivalState) → IsRoomy s → IsRoomy (state_once_over s)
over_roomy s h = record { kept = h.kept; settings = h.settings; unsent = h.unsent; search = h.search; stage = h.stage; ready = omega (arith, h.ready) }

pub beginning_roomy : (s : RevivalState) → IsRoomy s → IsRoomy (state_at_new_life s)
beginning_roomy s h = record {
  kept = h.kept;
  settings = beside NewGame s.kept MOST_ORDERS MOST_BYTES h.kept;
  unsent = omega (arith, h.kept.short);
  search = h.search;
  stage = h.stage;
  ready = h.ready;
}

no_orders : AreWithin (revival_orders_staying NewGame []) MOST_ORDERS MOST_BYTES
no_orders = record { few = omega arith; short = omega arith }

due_roomy : (d : DueOrders) (s : RevivalState) → IsRoomy s → IsRoomy (after_due d s)
due_roomy due.Nothing s h = h
due_roomy due.Settings s h = record { kept = h.kept; settings = no_orders; unsent = omega arith; search = h.search; stage = h.stage; ready = omega (arith, h.ready) }
due_roomy due.Search s h = record { kept = h.kept; settings = no_orders; unsent = omega arith; search = h.search; stage = h.stage; ready = omega (arith, h.ready) }

answer_roomy : (a : StandInAnswer) (s : RevivalState) → IsRoomy s → IsRoomy (after_answer a s)
answer_roomy answers.Nothing s h = h
answer_roomy answers.UciOk s h = record { kept = h.kept; settings = h.settings; unsent = h.unsent; search = h.search; stage = h.search; ready = omega (arith, h.ready) }
answer_roomy answers.ReadyOk s h = record { kept = h.kept; settings = h.settings; unsent = h.unsent; search = h.search; stage = h.stage; ready = omega (arith, h.ready) }
answer_roomy answers.NoMove s h = record { kept = h.kept; settings = h.settings; unsent = h.unsent; search = h.search; stage = h.search; ready = omega (arith, h.ready) }

pub settled_roomy : (s : RevivalState) → IsRoomy s → IsRoomy (state_once_settled s)
settled_roomy s h = answer_roomy (answer_of s) (after_due (due_of s) s) (due_roomy (due_of s) s h)

given_by : (w : Bool) (line : List ℕ) → length (if w then line ++ 10 ∷ [] else []) ≤ length line + 1
given_by true line = omega (arith, length-append line (10 ∷ []))
given_by false line = omega arith

pub given_short : (s : RevivalState) (line : List ℕ) → length (line_passed_up s line) ≤ length line + 1
given_short s line = given_by (gives s (said_in line)) line
