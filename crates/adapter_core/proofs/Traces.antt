-- The facts after each lawful trace, whatever the settings.
use Rattle.std.proofs.Common.{◌≡◌, ℕ, ◌+◌, List, [], ◌∷◌, ◌⊎◌, inl, inr, map, Bool, true, false, not, cond, ◌&&◌, ◌||◌, ◌==◌, Option, Some, None, refl, sym, ap, subst, ◌∙◌}
use Rattle.std.proofs.lemmas.Bool.{both_ways}
use Rattle.line_io.specs.Event.{Event}
use Rattle.chess_board.specs.declared.board.Move.{Move}
use Rattle.protocol_tokens.specs.declared.kinds.GoKind.{GoKind}
use Rattle.protocol_tokens.specs.declared.kinds.GoKind.TheVariants as kinds
use Rattle.cecp_lines.specs.Messages.{IfaceMsg}
use Rattle.cecp_lines.specs.Messages as says
use Rattle.uci_lines.specs.Orders.{Order}
use Rattle.policy_rules.specs.declared.setting_rules.settings.Settings.{Settings}
use Rattle.search_epochs.specs.declared.words.Call.{Call}
use Rattle.search_epochs.specs.declared.words.Call.TheVariants as calls
use Rattle.search_epochs.specs.declared.words.Said.{Said}
use Rattle.search_epochs.specs.declared.words.Said.TheVariants as said
use Rattle.search_epochs.specs.declared.words.EngineState.TheVariants as states
use Rattle.search_epochs.specs.Tickets.{Engine, Boot, Getting, Idle, Search, Gone, Word, Uci, Ticketed, DialogueTurn, TicketWithin, LastWithin, AllSetup, IsLiveOnlyAt, SearchServesCall, engine_after_heard, said_of_event, engine_after_word, sent_all, closed_ticket, is_some_equal, is_call_spent, owed, engine_after_orders, is_move, is_no_call, is_engine_idle, has_no_order, is_move_now, is_due, is_ponder_hit, ticket_ponders}
use Rattle.search_epochs.specs.Dialogue as dialogues
use Rattle.search_epochs.specs.Dialogue.{forget, dialogue_between_steps, mid_dialogue, words, choose, settled_state, settled_by, is_unsent, is_pondered, played_of}
use Rattle.search_epochs.proofs.Turns.{risen_spent, ordered}
use Rattle.search_epochs.proofs.Whole.{last_within, mid_kept, settled_mid}
use Rattle.search_epochs.proofs.Within.{all_within, turned_within, turned_last}
use Rattle.search_epochs.proofs.Same.{same}
use Rattle.search_epochs.proofs.Serving.{served_no_move}
use Rattle.desk_rules.specs.declared.mode.Mode.TheVariants as modes
use Rattle.desk_rules.specs.declared.desk.Desk.{Desk}
use Rattle.desk_rules.specs.Desk.{Situation, current, call_of_desk, call_before, is_gone}
use Rattle.desk_rules.specs.Steps.{Effect, Accepts, Shows, Forfeits, Answers, what_of, what_accepted, begins_epoch, call_after, is_death, desk_after_effect, answers_pings, over_where, resigns_when_gone}
use Rattle.desk_rules.specs.Orders.{orders_waiting, dialogue_word_of, AreHeld}
use Rattle.desk_rules.specs.Fits.{EffectFitsDesk, DeskInvariant, IsServed, IsOther}
use Rattle.desk_rules.proofs.EarlyLines.{none_early}
use Rattle.desk_rules.proofs.Effects.{comes_fits}
use Rattle.desk_rules.proofs.Sound.{step_sound}
use Rattle.desk_rules.proofs.Waits.{all_setup, all_held}
use Rattle.adapter_core.specs.Ends.{is_open}
use Rattle.adapter_core.specs.Trace.{State, Step, IsLawfulStep, LawfulTrace, opening_state, state, trace_state_after, situation_of_state, effect, turn_of_event, mid, owed_after, closed_after, desk_of, has_ready}
use Rattle.adapter_core.proofs.CoreInvariants.{first_short}
use Rattle.adapter_core.proofs.Closing.{line_event, opened_later, open_before}
use Rattle.adapter_core.proofs.Serving.{still, chosen_serves, call_settled}
use Rattle.adapter_core.proofs.Fresh.{calls_move, call_is, closed_calls, over_calls, still_quiet}

pub record Lasts (s : State) : Type 0 where
  pub sound : DeskInvariant s.desk
  pub held : AreHeld s.held
  -- before Open nothing was written
  pub begins : s.ends.opened ≡ false → s.dialogue.engine ≡ Boot
  pub ticket : TicketWithin s.dialogue.epoch s.dialogue.engine
  pub last : LastWithin s.dialogue.epoch s.dialogue.last
  -- a current search serves the call, and a call for a Move is not spent
  pub served : IsServed (situation_of_state s)
  pub unspent : is_call_spent s.dialogue ≡ true → is_move (call_before (situation_of_state s)) ≡ false
  -- pings are held only where a Move is called for
  pub pings : s.ends.closed ≡ false → is_move (call_before (situation_of_state s)) ≡ false → s.desk.pings ≡ []
  -- the engine is idle only where nothing waits and nothing is owed
  pub rests : s.ends.closed ≡ false → is_engine_idle s.dialogue.engine ≡ true → (s.held ≡ []) × (is_no_call (owed s.dialogue (call_before (situation_of_state s))) ≡ true)
  -- an engine that resigns when it is gone owes no move then
  pub resigned : s.settings.resign_when_gone ≡ true → is_gone (situation_of_state s).engine ≡ true → is_move (call_of_desk s.ends.closed false s.desk) ≡ false
  -- an open search that is not stopped is current
  pub live : s.ends.closed ≡ false → IsLiveOnlyAt s.dialogue.epoch s.dialogue.engine

-- BEFORE THE FIRST STEP

first_lasts : (o : Settings) → Lasts (opening_state o)
first_lasts o = record {
  sound = record { hint = tt; clocks = first_short; current = tt; options = tt; early = none_early };
  held = tt;
  begins = λ c. refl;
  ticket = tt;
  last = tt;
  served = λ c k x. absurd (cc);
  unspent = λ n. absurd (cc);
  pings = λ c n. refl;
  rests = λ c i. absurd (cc);
  resigned = λ w g. absurd (cc);
  live = λ c. tt;
}

-- AN ENGINE THAT IS GONE

abbrev ends_it : Option Said → Bool
ends_it (Some said.Ended) = true
ends_it w = false

gone_heard : (n m : ℕ) (e : Engine) (w : Option Said) → is_gone (forget n (engine_after_heard e w)) ≡ (is_gone (forget m e) || ends_it w)
gone_heard n m Boot (Some said.UciOk) = refl
gone_heard n m e (Some said.UciOk) = refl
gone_heard n m e w = refl

gone_sent : (n epoch : ℕ) (e : Engine) (w : Word) → is_gone (forget n (engine_after_word epoch e w)) ≡ is_gone (forget n e)
gone_sent n epoch (Search kinds.Move t s) Uci = refl
gone_sent n epoch e Uci = refl
gone_sent n epoch e w = refl

gone_sent_all : (n epoch : ℕ) (e : Engine) (ws : List Word) → is_gone (forget n (sent_all epoch e ws)) ≡ is_gone (forget n e)
gone_sent_all n epoch e [] = refl
gone_sent_all n epoch e (w ∷ ws) = gone_sent_all n epoch (engine_after_word epoch e w) ws ∙ gone_sent n epoch e w

line_ends : (m : IfaceMsg) → ends_it (said_of_event (what_accepted m)) ≡ false
line_ends (says.UserMove m) = refl
line_ends says.MoveNow = refl
line_ends m = refl

effect_ends : (d : Effect) → ends_it (said_of_event (what_of d)) ≡ is_death d
effect_ends (Accepts m) = line_ends m
effect_ends d = refl

-- WHAT IS SPENT

abbrev pub is_best : Option Said → Bool
is_best (Some said.Best) = true
is_best w = false

pub other_ticket : (e : Engine) (w : Option Said) (last : Option ℕ) → is_best w ≡ false → closed_ticket e w last ≡ last
other_ticket (Search k t s) (Some said.Best) last n = cc
other_ticket e w last n = refl

line_no_best : (m : IfaceMsg) → is_best (said_of_event (what_accepted m)) ≡ false
line_no_best (says.UserMove m) = refl
line_no_best says.MoveNow = refl
line_no_best m = refl

never_move : (k : GoKind) (b s : Bool) → b ≡ true → IsOther (states.Search k (not b) s) → k ≡ kinds.Move → ⊥
never_move k false s n i e = cc
never_move kinds.Move true s n i e = i
never_move kinds.Ponder true s n i e = cc
never_move kinds.Analyse true s n i e = cc

-- a search other than a current one for a Move, that is current, serves no call for a Move
other_quiet : (epoch : ℕ) (e : Engine) (last : Option ℕ) (c : Call) → IsOther (forget epoch e) → ((k : GoKind) → current (forget epoch e) ≡ Some k → SearchServesCall k c)
    → is_some_equal (closed_ticket e (Some said.Best) last) epoch ≡ true → is_move c ≡ false
other_quiet epoch Boot last c i f n = absurd i
other_quiet epoch Getting last c i f n = absurd i
other_quiet epoch Idle last c i f n = absurd i
other_quiet epoch Gone last c i f n = absurd i
other_quiet epoch (Search k t s) last c i f n = served_no_move k c (never_move k (t == epoch) s n i) (f k (ap (λ (b : Bool). current (states.Search k (not b) s)) n))

-- THROUGH A STEP

uci_sent : (epoch : ℕ) (e : Engine) → (engine_after_word epoch e Uci ≡ Boot) ⊎ (engine_after_word epoch e Uci ≡ Gone)
uci_sent epoch Boot = inl refl
uci_sent epoch Getting = inl refl
uci_sent epoch Idle = inl refl
uci_sent epoch (Search k t s) = inl refl
uci_sent epoch Gone = inr refl

nothing_waits : (os : List Order) → has_no_order (map dialogue_word_of os) ≡ true → os ≡ []
nothing_waits [] e = refl
nothing_waits (o ∷ os) e = cc

left_none : (b : Bool) (os : List Order) → os ≡ [] → cond b [] os ≡ []
left_none true os e = refl
left_none false os e = e

left_held : (b : Bool) (os : List Order) → AreHeld os → AreHeld (cond b [] os)
left_held true os a = tt
left_held false os a = a

owed_quiet : (b : Bool) (c : Call) → is_move c ≡ false → is_move (cond b calls.Nothing c) ≡ false
owed_quiet true c e = refl
owed_quiet false c e = e

pub no_pings : (closed owes : Bool) (ps : List ℕ) → closed ≡ false → owes ≡ false → cond (answers_pings closed owes) [] ps ≡ []
no_pings true owes ps c o = cc
no_pings false true ps c o = cc
no_pings false false ps c o = refl

owes_not : (wants gone owes : Bool) → (wants && (gone && owes)) ≡ false → wants ≡ true → gone ≡ true → owes ≡ false
owes_not true true owes x w g = x
owes_not false gone owes x w g = cc
owes_not true false owes x w g = cc

forfeited : (h : Situation) (answer : List ℕ) → (desk_after_effect h (Forfeits answer)).mode ≡ modes.Over
unfolding desk_after_effect
forfeited h answer = refl

module _ (s : State) (step : Step) (lasts : Lasts s) (l : IsLawfulStep s step) where
  abbrev e : Event
  e = step.event

  abbrev h : Situation
  h = situation_of_state s

  abbrev d : Effect
  d = effect s e

  abbrev u : DialogueTurn
  u = turn_of_event s e

  abbrev m : Ticketed
  m = mid s e

  abbrev ws : List Word
  ws = map dialogue_word_of step.orders

  pub fits : EffectFitsDesk h s.held d
  fits = comes_fits h s.held e (line_event s.ends e l.may_come)

  waits_held : AreHeld (orders_waiting h s.held d)
  waits_held = all_held h s.held d lasts.sound fits lasts.held

  setup : AllSetup u.waiting
  setup = all_setup (orders_waiting h s.held d) waits_held

  -- the engine is Gone after the step where it was Gone before, or died
  pub gone_is : is_gone (situation_of_state (trace_state_after s step)).engine ≡ (is_gone h.engine || is_death d)
  gone_is =
      gone_sent_all m.epoch m.epoch m.engine ws
      ∙ gone_heard m.epoch s.dialogue.epoch s.dialogue.engine (said_of_event u.what)
      ∙ ap (λ (b : Bool). is_gone h.engine || b) (effect_ends d)

  -- the call after the step is the one after the event
  pub call_is_after : call_before (situation_of_state (trace_state_after s step)) ≡ u.call
  call_is_after =
      ap (λ (b : Bool). call_of_desk (closed_after s e) b (desk_of s e)) gone_is
      ∙ sym (call_settled (closed_after s e) (is_move (owed_after s e)) (is_ponder_hit s.dialogue u) (closed_after s e) h d)

  -- a call for a Move is not spent after the event
  quiet_situation : (x : Effect) → closed_after s e ≡ false → begins_epoch h x ≡ false → is_move (call_before h) ≡ false → is_move (call_after (closed_after s e) h x) ≡ false
  quiet_situation x c r q = subst (λ (b : Bool). is_move (call_after b h x) ≡ false) (open_before s.ends e c ∙ sym c) (still_quiet h x r q)

  spent_before : (x : Effect) → is_best (said_of_event (what_of x)) ≡ false → is_some_equal (closed_ticket s.dialogue.engine (said_of_event (what_of x)) s.dialogue.last) s.dialogue.epoch ≡ true → is_move (call_before h) ≡ false
  spent_before x n y = lasts.unspent (ap (λ (o : Option ℕ). is_some_equal o s.dialogue.epoch) (sym (other_ticket s.dialogue.engine (said_of_event (what_of x)) s.dialogue.last n)) ∙ y)

  by_effect : (x : Effect) → EffectFitsDesk h s.held x → closed_after s e ≡ false → begins_epoch h x ≡ false
      → is_some_equal (closed_ticket s.dialogue.engine (said_of_event (what_of x)) s.dialogue.last) s.dialogue.epoch ≡ true → is_move (call_after (closed_after s e) h x) ≡ false
  by_effect (Shows best hint) f c r n = cc
  by_effect (Forfeits answer) f c r n = over_calls (closed_after s e) (is_gone h.engine || false) (desk_after_effect h (Forfeits answer)) (forfeited h answer)
  by_effect Answers f c r n = quiet_situation Answers c r (other_quiet s.dialogue.epoch s.dialogue.engine s.dialogue.last (call_before h) f.1 (lasts.served f.0) n)
  by_effect (Accepts message) f c r n = quiet_situation (Accepts message) c r (spent_before (Accepts message) (line_no_best message) n)
  by_effect x f c r n = quiet_situation x c r (spent_before x refl n)

  by_rise : (r : Bool) → begins_epoch h d ≡ r → closed_after s e ≡ false → is_some_equal (closed_ticket s.dialogue.engine (said_of_event u.what) s.dialogue.last) (cond r (s.dialogue.epoch + 1) s.dialogue.epoch) ≡ true → is_move u.call ≡ false
  by_rise true x c n = absurd (both_ways _ (risen_spent s.dialogue.epoch (closed_ticket s.dialogue.engine (said_of_event u.what) s.dialogue.last) (last_within s.dialogue.epoch s.dialogue.engine (said_of_event u.what) s.dialogue.last lasts.ticket lasts.last)) n)
  by_rise false x c n = by_effect d fits c x n

  pub spent_quiet : is_call_spent m ≡ true → is_move u.call ≡ false
  spent_quiet n = by_close (closed_after s e) refl where
    by_close : (c : Bool) → closed_after s e ≡ c → is_move u.call ≡ false
    by_close true x = closed_calls (closed_after s e) (is_gone h.engine || is_death d) (desk_after_effect h d) x
    by_close false x = by_rise (begins_epoch h d) refl x n

  -- so what is owed after the event is a Move exactly where one is called for
  pub owed_is : is_move (owed_after s e) ≡ is_move u.call
  owed_is = by_spent (is_call_spent m) refl where
    by_spent : (b : Bool) → is_call_spent m ≡ b → is_move (cond b calls.Nothing u.call) ≡ is_move u.call
    by_spent true x = sym (spent_quiet x)
    by_spent false x = refl

  -- THE SEARCH

  still_mid : closed_after s e ≡ false → (k : GoKind) → current (forget m.epoch m.engine) ≡ Some k → SearchServesCall k u.call
  still_mid c k x =
      let b : s.ends.closed ≡ false = open_before s.ends e c in
      let v = dialogue_between_steps s.dialogue s.desk.hint in
      let x' : current (mid_dialogue v u.what u.begins_epoch).state ≡ Some k = ap (λ (w : dialogues.Dialogue). current w.state) (mid_kept s.dialogue s.desk.hint u lasts.ticket lasts.last) ∙ x in
      subst (λ (z : Bool). SearchServesCall k (call_after z h d)) (b ∙ sym c) (still h s.held d v refl fits (lasts.served b) k x')

  words_are : is_open e ≡ false → closed_after s e ≡ false → ws ≡ words u.waiting (settled_by s.dialogue u)
  words_are o c = same m.engine m.epoch (owed_after s e) u.waiting (is_due s.dialogue u) (is_ponder_hit s.dialogue u) (is_move_now u.what) ws (words u.waiting (settled_by s.dialogue u)) (l.settled o c).words (settled_mid s.dialogue u setup)

  abbrev pondered : Option Move
  pondered = cond (ticket_ponders s.dialogue) s.desk.hint None

  served_by : is_open e ≡ false → closed_after s e ≡ false → (k : GoKind) → current (forget m.epoch (sent_all m.epoch m.engine ws)) ≡ Some k → SearchServesCall k u.call
  served_by o c k x =
      let goes = ordered m.epoch m.engine (owed_after s e) u.waiting (is_unsent s.dialogue u) (is_pondered pondered (played_of u.what)) (is_move_now u.what) setup in
      let x' = ap current goes ∙ ap (λ (w : List Word). current (forget m.epoch (sent_all m.epoch m.engine w))) (sym (words_are o c)) ∙ x in
      chosen_serves (forget m.epoch m.engine) (is_call_spent m) u.call (is_unsent s.dialogue u) (is_pondered pondered (played_of u.what)) (is_move_now u.what) (still_mid c) k x'

  opened_with : is_open e ≡ true → ws ≡ Uci ∷ []
  opened_with o = ap (map dialogue_word_of) (l.opens o)

  after_uci : (P : Engine → Type 0) → is_open e ≡ true → P Boot → P Gone → P (sent_all m.epoch m.engine ws)
  after_uci P o b g = by_uci (uci_sent m.epoch m.engine) where
    by_uci : (engine_after_word m.epoch m.engine Uci ≡ Boot) ⊎ (engine_after_word m.epoch m.engine Uci ≡ Gone) → P (sent_all m.epoch m.engine ws)
    by_uci (inl x) = subst (λ (w : List Word). P (sent_all m.epoch m.engine w)) (sym (opened_with o)) (subst P (sym x) b)
    by_uci (inr x) = subst (λ (w : List Word). P (sent_all m.epoch m.engine w)) (sym (opened_with o)) (subst P (sym x) g)

  -- by how the session goes on
  by_stage : (P : Type 0) → (is_open e ≡ true → P) → (is_open e ≡ false → P) → P
  by_stage P f g = by_open (is_open e) refl where
    by_open : (b : Bool) → is_open e ≡ b → P
    by_open true x = f x
    by_open false x = g x

  served_after : IsServed (situation_of_state (trace_state_after s step))
  served_after c k x =
      subst (SearchServesCall k) (sym call_is_after)
      (by_stage (SearchServesCall k u.call) (λ o. absurd (after_uci (λ y. current (forget m.epoch y) ≡ Some k → ⊥) o (λ y. cc) (λ y. cc) x)) (λ o. served_by o c k x))

  pings_after : closed_after s e ≡ false → is_move (call_before (situation_of_state (trace_state_after s step))) ≡ false → (desk_of s e).pings ≡ []
  pings_after c n = no_pings (closed_after s e) (is_move (owed_after s e)) (desk_after_effect h d).pings c (owed_is ∙ ap is_move (sym call_is_after) ∙ n)

  rests_after : closed_after s e ≡ false → is_engine_idle (sent_all m.epoch m.engine ws) ≡ true → ((trace_state_after s step).held ≡ []) × (is_no_call (owed (engine_after_orders m ws) (call_before (situation_of_state (trace_state_after s step)))) ≡ true)
  rests_after c i =
      by_stage (((trace_state_after s step).held ≡ []) × (is_no_call (owed (engine_after_orders m ws) (call_before (situation_of_state (trace_state_after s step)))) ≡ true))
      (λ o. absurd (after_uci (λ y. is_engine_idle y ≡ true → ⊥) o (λ y. cc) (λ y. cc) i))
      (λ o. let r = (l.settled o c).words.idle i in (left_none (has_ready ws) (orders_waiting h s.held d) (nothing_waits (orders_waiting h s.held d) r.0), ap (λ (x : Call). is_no_call (owed m x)) call_is_after ∙ r.1))

  live_after : closed_after s e ≡ false → IsLiveOnlyAt m.epoch (sent_all m.epoch m.engine ws)
  live_after c = by_stage (IsLiveOnlyAt m.epoch (sent_all m.epoch m.engine ws)) (λ o. after_uci (λ y. IsLiveOnlyAt m.epoch y) o tt tt) (λ o. (l.settled o c).words.current)

  resigned_after : s.settings.resign_when_gone ≡ true → is_gone (situation_of_state (trace_state_after s step)).engine ≡ true → is_move (call_of_desk (closed_after s e) false (desk_of s e)) ≡ false
  resigned_after w g = by_flag (resigns_when_gone (closed_after s e) h d) refl where
    desk : Desk
    desk = desk_after_effect h d

    calls : (b : Bool) → resigns_when_gone (closed_after s e) h d ≡ b → is_move (call_of_desk (closed_after s e) false (desk_of s e)) ≡ calls_move (closed_after s e) false desk.game (over_where b desk.mode)
    calls b x = call_is (closed_after s e) false (desk_of s e) ∙ ap (λ (y : Bool). calls_move (closed_after s e) false desk.game (over_where y desk.mode)) x

    by_flag : (b : Bool) → resigns_when_gone (closed_after s e) h d ≡ b → is_move (call_of_desk (closed_after s e) false (desk_of s e)) ≡ false
    by_flag true x = over_calls (closed_after s e) false (desk_of s e) (ap (λ (y : Bool). over_where y desk.mode) x)
    by_flag false x =
        calls false x ∙ sym (call_is (closed_after s e) false desk)
        ∙ owes_not s.settings.resign_when_gone (is_gone h.engine || is_death d) (is_move (call_of_desk (closed_after s e) false desk)) x w (sym gone_is ∙ g)

  pub lasts_on : Lasts (trace_state_after s step)
  lasts_on = record {
    sound = step_sound (closed_after s e) (is_move (owed_after s e)) (is_ponder_hit s.dialogue u) h s.held d lasts.sound fits;
    held = left_held (has_ready ws) (orders_waiting h s.held d) waits_held;
    begins = λ no. absurd (both_ways _ no (opened_later s.ends e l.may_come));
    ticket = all_within m.epoch m.engine ws (turned_within s.dialogue u lasts.ticket);
    last = turned_last s.dialogue u lasts.ticket lasts.last;
    served = served_after;
    unspent = λ n. ap is_move call_is_after ∙ spent_quiet n;
    pings = pings_after;
    rests = rests_after;
    resigned = resigned_after;
    live = live_after;
  }

pub lasts : (o : Settings) (t : List Step) → LawfulTrace o t → Lasts (state o t)
lasts o [] l = first_lasts o
lasts o (step ∷ t) l = lasts_on (state o t) step (lasts o t l.0) l.1
