-- Early lines are answered as if they came right after Boot was left.
use Rattle.std.proofs.Common.{◌≡◌, ℕ, ◌+◌, ◌<◌, ◌≤◌, List, [], ◌∷◌, ◌++◌, map, length, Bool, true, false, not, cond, ◌&&◌, ◌||◌, nat_le, Option, Some, None, Result, Ok, Err, append-nil, refl, sym, ap, subst, ◌∙◌, arith}
use Rattle.std.specs.Prelude.{IfSome}
use Rattle.std.specs.List.{flat_map, AllByRecursion}
use Rattle.std.specs.Option.{option_to_list}
use Rattle.std.proofs.lemmas.Bool.Decides.{nat_tests}
use Rattle.line_io.specs.Event.{Event}
use Rattle.line_io.specs.Event as events
use Rattle.cecp_lines.specs.Messages.{IfaceMsg}
use Rattle.cecp_lines.specs.Messages as says
use Rattle.cecp_lines.specs.Reading.{message_or_fault}
use Rattle.cecp_lines.specs.declared.iface.IfaceFault.{IfaceFault}
use Rattle.cecp_lines.specs.declared.reply.Reason.TheVariants as reasons
use Rattle.cecp_lines.specs.Replies.{Reply}
use Rattle.cecp_lines.specs.Replies as cecp
use Rattle.uci_lines.specs.Orders.{Order, uci_order_text}
use Rattle.uci_lines.specs.Orders as orders
use Rattle.option_map.specs.declared.declared_options.fault.OptionFault.{OptionFault}
use Rattle.option_map.specs.declared.declared_options.fault.OptionFault.TheVariants.{UnknownOption, BadValue}
use Rattle.option_map.specs.DeclaredOptions.Settings.{OptionSetting}
use Rattle.option_map.specs.WaitingOrders.Asked.{asked}
use Rattle.option_map.specs.DeclaredOptions.Spelled.{AreDeclared}
use Rattle.option_map.specs.WaitingOrders.Held.{with_orders, held_order_can_join, held_batch_text}
use Rattle.option_map.proofs.WaitingOrders.KeptOrders.{batch_first}
use Rattle.policy_rules.specs.declared.setting_rules.settings.Settings.{Settings}
use Rattle.search_epochs.specs.declared.words.Said.TheVariants as said
use Rattle.search_epochs.specs.declared.words.EngineState.TheVariants as states
use Rattle.search_epochs.specs.Tickets as talks
use Rattle.search_epochs.specs.Tickets.{Engine, Ticketed, DialogueTurn, Settled, owed, engine_after_orders, is_move_now, is_due, is_move, is_ponder_hit, before_orders}
use Rattle.desk_rules.specs.declared.desk.Desk.{Desk}
use Rattle.desk_rules.specs.declared.effect.Refusal.{Refusal}
use Rattle.desk_rules.specs.Desk.{Situation, call_of_desk, is_boot, is_gone}
use Rattle.desk_rules.specs.Fits.{EffectFitsDesk}
use Rattle.desk_rules.specs.Early.{is_setting, may_wait, lines_with_feeds}
use Rattle.desk_rules.specs.Lines.{Verdict, Refused, Accepted, Early, line_verdict, verdict_on, refusal, or_else, reason_where, refused_option, does_not_fit, asks, order_asked_by, is_early, early_verdict, early_answer, answered_by}
use Rattle.desk_rules.specs.Steps.{Effect, Nothing, LongLine, Refuses, Boots, Dies, what_of, begins_epoch, call_after, desk_after, scores_after, is_boots, classify, line_effect, desk_after_effect}
use Rattle.desk_rules.specs.Orders.{asked_by_effect, early_order, early_orders, asked_at_boot, ponder_at_boot, analysis_at_boot, orders_waiting, dialogue_word_of, search_orders}
use Rattle.think_text.specs.Last.{ThinkingLine}
use Rattle.desk_rules.specs.Replies.{refused, reply_row, row_accepted, early_refusal, early_refusals, list_where, given_up_where, repeated_thinking, replies_of}
use Rattle.desk_rules.proofs.EarlyLines.{fed_first}
use Rattle.desk_rules.proofs.EarlyOrders.{early_short}
use Rattle.adapter_core.specs.Ends.{ends_after, is_open}
use Rattle.adapter_core.specs.Trace.{State, Step, IsLawfulStep, AreSettled, state, trace_state_after, situation_of_state, effect, turn_of_event, owed_after, closed_after, step_hits, desk_of, still_held}
use Rattle.adapter_core.proofs.Closing.{Closes, closing}
use Rattle.adapter_core.proofs.Sides.{no_resigner}
use Rattle.adapter_core.proofs.Traces.{Lasts, lasts, fits}
use Rattle.trace_laws.specs.EarlyLines.{booted_desk, once_booted, effect_once_booted, answer_once_booted, orders_once_booted, EarlyLinesAreAnswered, EarlyLinesComeInTime, with_early, RefusedEarlyLinesChangeNothing}
use Rattle.trace_laws.proofs.EarlyWaiting.{Sets, waits, boot_back}

-- A SETTING ONCE BOOT WAS LEFT

-- no setting is early then
never_early : (h : Situation) (m : IfaceMsg) → is_early (once_booted h) m ≡ false
never_early h m = by (is_setting m) where
  by : (b : Bool) → ((b && false) && h.settings.early_settings) ≡ false
  by true = refl
  by false = refl

-- what a setting is refused by
setting_refused : (h : Situation) (m : IfaceMsg) → is_setting m ≡ true
    → refusal (once_booted h) [] m ≡ or_else (refused_option (asked h.desk.options m)) (or_else (reason_where (does_not_fit [] (order_asked_by (asked h.desk.options m))) reasons.TooManySettings) None)
unfolding refusal asks
setting_refused h (says.SetOption name value) s = refl
setting_refused h (says.Memory n) s = refl
setting_refused h (says.Cores n) s = refl
setting_refused h (says.EgtPath kind path) s = refl
setting_refused h m s = cc

-- what it asks for
setting_asks : (h : Situation) (m : IfaceMsg) → is_setting m ≡ true → asks false (booted_desk h.desk) m ≡ order_asked_by (asked h.desk.options m)
unfolding asks
setting_asks h (says.SetOption name value) s = refl
setting_asks h (says.Memory n) s = refl
setting_asks h (says.Cores n) s = refl
setting_asks h (says.EgtPath kind path) s = refl
setting_asks h m s = cc

-- and that nothing is answered to one that is accepted
setting_silent : (h : Situation) (m : IfaceMsg) → is_setting m ≡ true → row_accepted h m ≡ []
unfolding row_accepted
setting_silent h (says.SetOption name value) s = refl
setting_silent h (says.Memory n) s = refl
setting_silent h (says.Cores n) s = refl
setting_silent h (says.EgtPath kind path) s = refl
setting_silent h m s = cc

-- a short order may be held alone
within : (k n : ℕ) → k ≤ 256 → n ≤ 65536 → (nat_le k 256 && nat_le n 65536) ≡ true
within k n h j = grind (arith, nat_tests)

alone : (order : Order) → length (uci_order_text order) < 65536 → held_order_can_join [] order ≡ true
alone order s = within 1 (length (held_batch_text (order ∷ []))) (omega arith) (omega (arith, s, batch_first order []))

fits_alone : (a : Result (Option Order) OptionFault) (n : ℕ) → n < 32768 → IfSome (order_asked_by a) (λ order. length (uci_order_text order) ≤ 64 + n) → does_not_fit [] (order_asked_by a) ≡ false
fits_alone (Ok None) n m s = refl
fits_alone (Ok (Some order)) n m s = ap not (alone order (omega (arith, m, s)))
fits_alone (Err fault) n m s = refl

-- by what the options answer to it
abbrev outcome : IfaceMsg → Result (Option Order) OptionFault → List ℕ → Effect
outcome m a line = line_effect (verdict_on m (or_else (refused_option a) None)) line

module _ (h : Situation) (there : h.closed ≡ false) (line : List ℕ) (x : Sets line) (short : length line < 32768) (declared : AreDeclared h.desk.options) where
  abbrev m : IfaceMsg
  m = x.message

  abbrev answer : Result (Option Order) OptionFault
  answer = asked h.desk.options m

  answer_is : early_answer h.desk.options line ≡ answer
  answer_is = ap (answered_by h.desk.options) x.reads

  fits_in : does_not_fit [] (order_asked_by answer) ≡ false
  fits_in =
      fits_alone answer (length line) short
      (subst (λ (a : Result (Option Order) OptionFault). IfSome (order_asked_by a) (λ order. length (uci_order_text order) ≤ 64 + length line)) answer_is (early_short h.desk.options line declared))

  read_verdict : line_verdict (once_booted h) [] line (Ok m) ≡ verdict_on m (refusal (once_booted h) [] m)
  unfolding line_verdict
  read_verdict = ap (λ (b : Bool). cond b (early_verdict (may_wait (booted_desk h.desk).early line)) (verdict_on m (refusal (once_booted h) [] m))) (never_early h m)

  effect_is : effect_once_booted h line ≡ outcome m answer line
  unfolding classify
  effect_is =
      ap (λ (b : Bool). cond b Nothing (line_effect (line_verdict (once_booted h) [] line (message_or_fault line)) line)) there
      ∙ ap (λ (r : Result IfaceMsg IfaceFault). line_effect (line_verdict (once_booted h) [] line r) line) x.reads
      ∙ ap (λ v. line_effect v line) (read_verdict ∙ ap (verdict_on m) (setting_refused h m x.sets
      ∙ ap (λ (b : Bool). or_else (refused_option answer) (or_else (reason_where b reasons.TooManySettings) None)) fits_in))

  replies_by : (a : Result (Option Order) OptionFault) → reply_row (once_booted h) (outcome m a line) ≡ early_refusal (refused_option a) line
  unfolding reply_row
  replies_by (Ok o) = setting_silent (once_booted h) m x.sets
  replies_by (Err UnknownOption) = refl
  replies_by (Err BadValue) = refl

  orders_by : (a : Result (Option Order) OptionFault) → answer ≡ a → asked_by_effect (once_booted h) (outcome m a line) ≡ option_to_list (order_asked_by a)
  unfolding asked_by_effect
  orders_by (Ok o) e = ap option_to_list (setting_asks h m x.sets ∙ ap order_asked_by e)
  orders_by (Err UnknownOption) e = refl
  orders_by (Err BadValue) e = refl

  pub answered_so : answer_once_booted h line ≡ early_refusal (refused_option (early_answer h.desk.options line)) line
  answered_so =
      ap (reply_row (once_booted h)) effect_is ∙ replies_by answer
      ∙ ap (λ (a : Result (Option Order) OptionFault). early_refusal (refused_option a) line) (sym answer_is)

  pub asked_so : orders_once_booted h line ≡ early_order h.desk.options line
  asked_so =
      ap (asked_by_effect (once_booted h)) effect_is ∙ orders_by answer refl
      ∙ ap (λ (a : Result (Option Order) OptionFault). option_to_list (order_asked_by a)) (sym answer_is)

-- EACH LINE

answered_all : (h : Situation) (there : h.closed ≡ false) (lines : List (List ℕ)) → AllByRecursion Sets lines → length (lines_with_feeds lines) ≤ 32768 → AreDeclared h.desk.options
    → flat_map (answer_once_booted h) lines ≡ early_refusals h.desk.options lines
answered_all h there [] a n d = refl
answered_all h there (line ∷ lines) a n d =
    ap (λ (rs : List Reply). rs ++ flat_map (answer_once_booted h) lines) (answered_so h there line a.0 (omega (arith, n, fed_first line lines)) d)
    ∙ ap (λ (rs : List Reply). early_refusal (refused_option (early_answer h.desk.options line)) line ++ rs) (answered_all h there lines a.1 (omega (arith, n, fed_first line lines)) d)

asked_all : (h : Situation) (there : h.closed ≡ false) (lines : List (List ℕ)) → AllByRecursion Sets lines → length (lines_with_feeds lines) ≤ 32768 → AreDeclared h.desk.options
    → flat_map (orders_once_booted h) lines ≡ early_orders h.desk.options lines
asked_all h there [] a n d = refl
asked_all h there (line ∷ lines) a n d =
    ap (λ (os : List Order). os ++ flat_map (orders_once_booted h) lines) (asked_so h there line a.0 (omega (arith, n, fed_first line lines)) d)
    ∙ ap (λ (os : List Order). early_order h.desk.options line ++ os) (asked_all h there lines a.1 (omega (arith, n, fed_first line lines)) d)

-- THE STEP THAT LEAVES BOOT

booting : (u : DialogueTurn) (t : Ticketed) → t.engine ≡ talks.Boot → u.what ≡ talks.Says said.UciOk → is_due t u ≡ true
booting u t b w =
    ap (λ (e : Engine). let x : Ticketed = record t { engine = e } in is_due x u) b
    ∙ ap (λ (y : talks.What). let x : Ticketed = record t { engine = talks.Boot } in let z : DialogueTurn = record u { what = y } in is_due x z) w

not_opening : (h : Situation) (held : List Order) (e : Event) → classify h held e ≡ Boots → is_open e ≡ false
unfolding classify
not_opening h held events.Open x = absurd (cc)
not_opening h held e x = refl

boot_misses : (u : DialogueTurn) (t : Ticketed) → t.engine ≡ talks.Boot → is_ponder_hit t u ≡ false
boot_misses u t b = ap (λ (e : Engine). let x : Ticketed = record t { engine = e } in is_ponder_hit x u) b

not_again : (repeats : Bool) (last : Option ThinkingLine) → repeated_thinking (repeats && false) last ≡ []
not_again true last = refl
not_again false last = refl

-- what is written to the interface then
boots_replies : (owes : Bool) (h : Situation) → is_gone h.engine ≡ false
    → replies_of false owes false h Boots ≡ list_where h.desk.due (booted_desk h.desk) ++ early_refusals h.desk.options h.desk.early ++ cond owes [] (map cecp.Pong h.desk.pings)
unfolding reply_row desk_after_effect
boots_replies owes h g =
    let list = list_where h.desk.due (booted_desk h.desk) in
    let refusals = early_refusals h.desk.options h.desk.early in
    let repeats = h.settings.repeat_thinking in
    let last = h.desk.last_thinking in
    let pongs = cond owes [] (map cecp.Pong h.desk.pings) in
    ap (λ (b : Bool). list ++ refusals ++ given_up_where b h.settings h.desk.game ++ repeated_thinking (repeats && false) last ++ pongs)
    (no_resigner h.settings.resign_when_gone (is_gone h.engine || false) (is_move (call_of_desk false false (booted_desk h.desk))) (ap (λ (b : Bool). b || false) g))
    ∙ ap (λ (rs : List Reply). list ++ refusals ++ [] ++ rs ++ pongs) (not_again repeats last)
    ∙ ap (λ (rs : List Reply). rs ++ [] ++ pongs) (append-nil (list ++ refusals))
    ∙ ap (λ (rs : List Reply). rs ++ pongs) (append-nil (list ++ refusals))

booting_there : (e : _) → is_boot e ≡ true → is_gone e ≡ false
booting_there states.Boot b = refl
booting_there states.Getting b = cc
booting_there states.Idle b = cc
booting_there (states.Search k stale stopped) b = cc
booting_there states.Gone b = cc

waits_at_boot : (h : Situation) (held : List Order) → orders_waiting h held Boots ≡ with_orders held (asked_at_boot h.desk)
unfolding asked_by_effect
waits_at_boot h held = refl

module _ (s : State) (step : Step) (last : Lasts s) (l : IsLawfulStep s step) (q : effect s step.event ≡ Boots) where
  abbrev h : Situation
  h = situation_of_state s

  boot_fits : EffectFitsDesk h s.held Boots
  boot_fits = subst (EffectFitsDesk h s.held) q (fits s step last l)

  engine_boots : s.dialogue.engine ≡ talks.Boot
  engine_boots = boot_back s.dialogue.epoch s.dialogue.engine boot_fits.1

  open_after : closed_after s step.event ≡ false
  open_after = by (closed_after s step.event) refl where
    by : (c : Bool) → closed_after s step.event ≡ c → closed_after s step.event ≡ false
    by true c = absurd (subst Closes q (closing s.ends h s.held step.event refl c))
    by false c = c

  settled : AreSettled s step.event step.orders
  settled = l.settled (not_opening h s.held step.event q) open_after

  due : is_due s.dialogue (turn_of_event s step.event) ≡ true
  due = booting (turn_of_event s step.event) s.dialogue engine_boots (ap what_of q)

  batch_is : step.orders ≡ with_orders s.held (asked_at_boot s.desk) ++ orders.IsReady ∷ []
  batch_is =
      settled.batch due ∙ ap (λ (d : Effect). orders_waiting h s.held d ++ orders.IsReady ∷ []) q
      ∙ ap (λ (os : List Order). os ++ orders.IsReady ∷ []) (waits_at_boot h s.held)

  in_time : AllByRecursion Sets s.desk.early → EarlyLinesAreAnswered s step
  in_time sets =
      let owes = is_move (owed_after s step.event) in
      let pongs = cond owes [] (map cecp.Pong s.desk.pings) in
      let ponder = option_to_list (ponder_at_boot s.desk) in
      let analysis = option_to_list (analysis_at_boot s.desk) in
      record {
        replies =
            l.replies ∙ ap (λ (c : Bool). replies_of c owes (step_hits s step.event) h (effect s step.event)) open_after
            ∙ ap (λ (b : Bool). replies_of false owes b h (effect s step.event)) (boot_misses (turn_of_event s step.event) s.dialogue engine_boots)
            ∙ ap (replies_of false owes false h) q
            ∙ boots_replies owes h (booting_there h.engine boot_fits.1)
            ∙ ap (λ (rs : List Reply). list_where s.desk.due (booted_desk s.desk) ++ rs ++ pongs) (sym (answered_all h boot_fits.0 s.desk.early sets last.sound.early.short last.sound.options));
        orders =
            batch_is
            ∙ ap (λ (os : List Order). with_orders s.held (os ++ ponder ++ analysis) ++ orders.IsReady ∷ []) (sym (asked_all h boot_fits.0 s.desk.early sets last.sound.early.short last.sound.options));
      }

pub come_in_time : (o : Settings) → EarlyLinesComeInTime o
come_in_time o step t l q = in_time (state o t) step (lasts o t l.0) l.1 q (waits o t l.0).sets

-- WITHOUT A LINE THAT IS REFUSED

set_at : (before behind : List (List ℕ)) (line : List ℕ) → AllByRecursion Sets (before ++ line ∷ behind) → Sets line
set_at [] behind line a = a.0
set_at (other ∷ before) behind line a = set_at before behind line a.1

short_at : (before behind : List (List ℕ)) (line : List ℕ) → length line < length (lines_with_feeds (before ++ line ∷ behind))
short_at [] behind line = omega (arith, fed_first line behind)
short_at (other ∷ before) behind line = omega (arith, fed_first other (before ++ line ∷ behind), short_at before behind line)

-- the orders of lines one of which asks for nothing
unasked : (os : List OptionSetting) (before behind : List (List ℕ)) (line : List ℕ) → early_order os line ≡ [] → early_orders os (before ++ line ∷ behind) ≡ early_orders os (before ++ behind)
unasked os [] behind line n = ap (λ (xs : List Order). xs ++ early_orders os behind) n
unasked os (other ∷ before) behind line n = ap (λ (xs : List Order). early_order os other ++ xs) (unasked os before behind line n)

boots_line : (b : Bool) (v : Verdict) (line : List ℕ) → is_boots (cond b Nothing (line_effect v line)) ≡ false
boots_line true v line = refl
boots_line false (Refused r) line = refl
boots_line false (Accepted m) line = refl
boots_line false Early line = refl

boots_where : (b : Bool) (x y : Effect) → is_boots x ≡ false → is_boots y ≡ false → is_boots (cond b x y) ≡ false
boots_where true x y a b = a
boots_where false x y a b = b

never : (d : Effect) → is_boots d ≡ false → d ≡ Boots → ⊥
never d n e = let y = ap is_boots e in cc

-- whatever waits, the same event leaves Boot
same_boots : (h : Situation) (held : List Order) (lines : List (List ℕ)) (e : Event) → classify h held e ≡ Boots → classify (record h { desk = record h.desk { early = lines } }) held e ≡ Boots
unfolding classify
same_boots h held lines events.Open x = absurd (cc)
same_boots h held lines (events.Iface line) x = absurd (never _ (boots_line h.closed (line_verdict h held line (message_or_fault line)) line) x)
same_boots h held lines events.IfaceLong x = absurd (never _ (boots_where h.closed Nothing LongLine refl refl) x)
same_boots h held lines (events.Engine line) x = x
same_boots h held lines events.EngineEnd x = absurd (never _ (boots_where (is_gone h.engine) Nothing Dies refl refl) x)
same_boots h held lines events.EngineLost x = absurd (never _ (boots_where (is_gone h.engine) Nothing Dies refl refl) x)
same_boots h held lines e x = absurd (cc)

-- a step's turn, and what it leaves, by what comes of its event and what it asks for
abbrev turn_with : State → Event → Effect → List Order → DialogueTurn
turn_with s e d waiting = record (turn_of_event s e) {
  what = what_of d;
  begins_epoch = begins_epoch (situation_of_state s) d;
  call = call_after (closed_after s e) (situation_of_state s) d;
  waiting = map dialogue_word_of waiting;
}

abbrev state_with : State → Step → Effect → List Order → DialogueTurn → State
state_with s step d waiting u = record {
  settings = s.settings;
  ends = ends_after s.ends step.event;
  desk = desk_after (closed_after s step.event) (is_move (owed (before_orders s.dialogue u) u.call)) (is_ponder_hit s.dialogue u) (situation_of_state s) d;
  scores = scores_after (situation_of_state s) d s.scores;
  held = still_held waiting (map dialogue_word_of step.orders);
  dialogue = engine_after_orders (before_orders s.dialogue u) (map dialogue_word_of step.orders);
}

-- of the step that leaves Boot
turn_is : (s : State) (e : Event) → effect s e ≡ Boots → turn_of_event s e ≡ turn_with s e Boots (with_orders s.held (asked_at_boot s.desk))
turn_is s e q = ap (λ (d : Effect). turn_with s e d (orders_waiting (situation_of_state s) s.held d)) q ∙ ap (turn_with s e Boots) (waits_at_boot (situation_of_state s) s.held)

state_is : (s : State) (step : Step) → effect s step.event ≡ Boots
    → trace_state_after s step ≡ state_with s step Boots (with_orders s.held (asked_at_boot s.desk)) (turn_with s step.event Boots (with_orders s.held (asked_at_boot s.desk)))
state_is s step q =
    ap (λ (d : Effect). state_with s step d (orders_waiting (situation_of_state s) s.held d) (turn_of_event s step.event)) q
    ∙ ap (λ (os : List Order). state_with s step Boots os (turn_of_event s step.event)) (waits_at_boot (situation_of_state s) s.held)
    ∙ ap (state_with s step Boots (with_orders s.held (asked_at_boot s.desk))) (turn_is s step.event q)

module _ (s : State) (step : Step) (last : Lasts s) (l : IsLawfulStep s step) (q : effect s step.event ≡ Boots) (lines : List (List ℕ)) (same : asked_at_boot (with_early s lines).desk ≡ asked_at_boot s.desk) where
  abbrev less : State
  less = with_early s lines

  less_boots : effect less step.event ≡ Boots
  less_boots = same_boots (situation_of_state s) s.held lines step.event q

  same_turn : turn_of_event less step.event ≡ turn_of_event s step.event
  unfolding desk_after_effect
  same_turn = turn_is less step.event less_boots ∙ ap (λ (os : List Order). turn_with s step.event Boots (with_orders s.held os)) same ∙ sym (turn_is s step.event q)

  same_state : trace_state_after less step ≡ trace_state_after s step
  unfolding desk_after_effect
  same_state =
      state_is less step less_boots
      ∙ ap (λ (os : List Order). state_with s step Boots (with_orders s.held os) (turn_with s step.event Boots (with_orders s.held os))) same
      ∙ sym (state_is s step q)

  same_waits : orders_waiting (situation_of_state less) less.held (effect less step.event) ≡ orders_waiting (situation_of_state s) s.held (effect s step.event)
  same_waits =
      ap (orders_waiting (situation_of_state less) s.held) less_boots ∙ waits_at_boot (situation_of_state less) s.held ∙ ap (with_orders s.held) same
      ∙ sym (waits_at_boot (situation_of_state s) s.held) ∙ ap (orders_waiting (situation_of_state s) s.held) (sym q)

  abbrev SettledBy : DialogueTurn → Type 0
  SettledBy u =
      Settled (before_orders s.dialogue u).engine (before_orders s.dialogue u).epoch (owed (before_orders s.dialogue u) u.call) u.waiting (is_due s.dialogue u) (is_ponder_hit s.dialogue u) (is_move_now u.what)
      (map dialogue_word_of step.orders)

  less_settled : AreSettled less step.event step.orders
  less_settled =
      let a = settled s step last l q in
      record {
        words = subst SettledBy (sym same_turn) a.words;
        batch = λ n. a.batch (due s step last l q) ∙ ap (λ (os : List Order). os ++ orders.IsReady ∷ []) (sym same_waits);
        search = λ g.
            a.search g
            ∙ ap (λ (d : Desk). search_orders s.settings d (owed_after s step.event)) (sym (ap (λ (x : State). x.desk) same_state))
            ∙ ap (λ (u : DialogueTurn). search_orders s.settings (desk_of less step.event) (owed (before_orders s.dialogue u) u.call)) (sym same_turn);
        fenced = λ f g. ap (λ (u : DialogueTurn). (before_orders s.dialogue u).unfenced) same_turn ∙ a.fenced f g;
      }

-- a refused line asks for nothing
refused_asks : (s : State) (last : Lasts s) (before behind : List (List ℕ)) (line : List ℕ) → s.ends.closed ≡ false → AllByRecursion Sets s.desk.early → s.desk.early ≡ before ++ line ∷ behind
    → (r : Refusal) (text : List ℕ) → effect_once_booted (situation_of_state s) line ≡ Refuses r text → early_order s.desk.options line ≡ []
unfolding asked_by_effect
refused_asks s last before behind line c sets e r text x =
    let h = situation_of_state s in
    let few = ap (λ (ls : List (List ℕ)). length (lines_with_feeds ls)) e in
    sym (asked_so h c line (set_at before behind line (subst (AllByRecursion Sets) e sets)) (omega (arith, short_at before behind line, few, last.sound.early.short)) last.sound.options)
    ∙ ap (asked_by_effect (once_booted h)) x

pub refused_change_nothing : (o : Settings) → RefusedEarlyLinesChangeNothing o
refused_change_nothing o step t before behind line l q e r text x =
    let s = state o t in
    let last = lasts o t l.0 in
    let none = refused_asks s last before behind line (boot_fits s step last l.1 q).0 (waits o t l.0).sets e r text x in
    let ponder = option_to_list (ponder_at_boot s.desk) in
    let analysis = option_to_list (analysis_at_boot s.desk) in
    let same : asked_at_boot (with_early s (before ++ behind)).desk ≡ asked_at_boot s.desk =
    ap (λ (os : List Order). os ++ ponder ++ analysis) (sym (unasked s.desk.options before behind line none) ∙ ap (early_orders s.desk.options) (sym e)) in
    (less_settled s step last l.1 q (before ++ behind) same, same_state s step last l.1 q (before ++ behind) same)
