-- Each lawful trace is a lawful dialogue.
use Rattle.std.proofs.Common.{◌≡◌, ℕ, ◌+◌, List, [], ◌∷◌, map, Bool, true, false, not, cond, ◌||◌, Option, Some, None, Result, Ok, Err, refl, sym, ap, subst, ◌∙◌}
use Rattle.line_io.specs.Event.{Event}
use Rattle.line_io.specs.Event as events
use Rattle.cecp_lines.specs.Messages.{IfaceMsg}
use Rattle.cecp_lines.specs.Messages as says
use Rattle.cecp_lines.specs.Reading.{message_or_fault}
use Rattle.protocol_tokens.specs.Quit.{is_quit}
use Rattle.cecp_lines.specs.Quit.{is_quit_message}
use Rattle.cecp_lines.proofs.Quits.{quit_first}
use Rattle.cecp_lines.specs.declared.iface.IfaceFault.{IfaceFault}
use Rattle.cecp_lines.specs.declared.iface.IfaceFault.TheVariants as faults
use Rattle.uci_lines.specs.Orders.{Order}
use Rattle.uci_lines.specs.Orders as orders
use Rattle.uci_lines.specs.Engine.{engine_message}
use Rattle.policy_rules.specs.declared.setting_rules.settings.Settings.{Settings}
use Rattle.search_epochs.specs.declared.words.Said.{Said}
use Rattle.search_epochs.specs.declared.words.Said.TheVariants as said
use Rattle.search_epochs.specs.Tickets as talks
use Rattle.search_epochs.specs.Tickets.{Engine, Boot, Word, Ticketed, engine_after_heard, said_of_event, engine_after_word, closed_ticket, unfenced_after, before_orders, engine_after_orders}
use Rattle.search_epochs.specs.History as history
use Rattle.search_epochs.specs.History.{Exchange, IsDeaf, ExchangeMayCome, AreLawful}
use Rattle.search_epochs.proofs.Stops.{stops_once}
use Rattle.search_epochs.specs.Dialogue.{forget}
use Rattle.desk_rules.specs.declared.effect.Refusal.{Refusal}
use Rattle.desk_rules.specs.Desk.{Situation, is_gone}
use Rattle.desk_rules.specs.Lines.{line_verdict, verdict_on, refusal}
use Rattle.desk_rules.specs.Steps.{Effect, Nothing, LongLine, Accepts, Dies, classify, line_effect, engine_says, what_of, what_accepted, is_death}
use Rattle.desk_rules.specs.Orders.{orders_waiting, dialogue_word_of}
use Rattle.desk_rules.proofs.Effects.{comes_fits}
use Rattle.desk_rules.proofs.Waits.{all_setup, all_held}
use Rattle.adapter_core.specs.Ends.{may, is_open}
use Rattle.adapter_core.specs.Trace.{State, Step, IsLawfulStep, LawfulTrace, state, trace_state_after, situation_of_state, effect, turn_of_event, mid, closed_after, is_gone_after, closing_step_orders}
use Rattle.adapter_core.proofs.Closing.{line_event, closed_stays, closed_rises}
use Rattle.adapter_core.proofs.Traces.{Lasts, lasts}
use Rattle.trace_laws.specs.Dialogue.{exchange, exchanges, IsDialogueOf, TracesAreDialogues, stop_lines_after, stop_lines_since_go, StopLineComesOnce}

-- THE OPENING

pub opening_dialogue : (s : State) (e : Event) (os : List Order) → is_open e ≡ true → may s.ends e ≡ true → (s.ends.opened ≡ false → s.dialogue.engine ≡ Boot) → os ≡ orders.Uci ∷ []
    → s.dialogue ≡ engine_after_orders (mid s e) (map dialogue_word_of os)
unfolding classify
opening_dialogue s events.Open os o m b u =
    let t = s.dialogue in
    let boot = b (not_true s.ends.opened m) in
    ap (λ (x : Engine). let y : Ticketed = record { engine = x; epoch = t.epoch; last = t.last; unfenced = t.unfenced } in y) boot
    ∙ ap (λ (x : Engine). let y : Ticketed = record { engine = engine_after_word t.epoch x talks.Uci; epoch = t.epoch; last = closed_ticket x None t.last; unfenced = unfenced_after x None t.unfenced } in y) (sym boot)
    ∙ ap (λ (ws : List Order). engine_after_orders (mid s events.Open) (map dialogue_word_of ws)) (sym u)
  where
    not_true : (b : Bool) → not b ≡ true → b ≡ false
    not_true true e = cc
    not_true false e = refl
opening_dialogue s e os o m b u = cc

opening_closed : (s : State) (e : Event) → is_open e ≡ true → s.ends.closed ≡ closed_after s e
opening_closed s events.Open o = refl
opening_closed s e o = cc

-- WHAT IS HEARD IN A STEP AFTER WHICH THE SESSION IS CLOSED

quit_deaf : (line : List ℕ) (r : Option Refusal) → IsDeaf (what_of (line_effect (verdict_on says.Quit r) line))
quit_deaf line None = tt
quit_deaf line (Some r) = tt

line_deaf : (h : Situation) (held : List Order) (line : List ℕ) (r : Result IfaceMsg IfaceFault) → is_quit_message r ≡ true → IsDeaf (what_of (line_effect (line_verdict h held line r) line))
unfolding line_verdict
line_deaf h held line (Err faults.UnknownCommand) q = cc
line_deaf h held line (Err faults.BadArgument) q = cc
line_deaf h held line (Ok says.Quit) q = quit_deaf line (refusal h held says.Quit)
line_deaf h held line (Ok m) q = cc

either_deaf : (h : Situation) (held : List Order) (b q : Bool) (line : List ℕ) (r : Result IfaceMsg IfaceFault) → is_quit_message r ≡ q → (b || q) ≡ true
    → IsDeaf (what_of (cond b Nothing (line_effect (line_verdict h held line r) line)))
either_deaf h held true q line r e c = tt
either_deaf h held false true line r e c = line_deaf h held line r e
either_deaf h held false false line r e c = cc

where_deaf : (b : Bool) (d : Effect) → b ≡ true → IsDeaf (what_of (cond b Nothing d))
where_deaf true d e = tt
where_deaf false d e = cc

dead_deaf : (b : Bool) → IsDeaf (what_of (cond b Nothing Dies))
dead_deaf true = tt
dead_deaf false = tt

deaf : (s : State) (e : Event) → closed_after s e ≡ true → IsDeaf (what_of (effect s e))
unfolding classify
deaf s (events.Iface line) c = either_deaf (situation_of_state s) s.held s.ends.closed (is_quit line) line (message_or_fault line) (sym (quit_first line)) c
deaf s events.IfaceLong c = where_deaf s.ends.closed LongLine c
deaf s (events.Engine line) c = where_deaf s.ends.closed (engine_says (situation_of_state s) line (engine_message line)) c
deaf s events.EngineEnd c = dead_deaf (is_gone (situation_of_state s).engine)
deaf s events.EngineLost c = dead_deaf (is_gone (situation_of_state s).engine)
deaf s e c = tt

-- WHETHER THE ENGINE IS GONE

abbrev is_ending : Option Said → Bool
is_ending (Some said.Ended) = true
is_ending w = false

gone_heard : (n : ℕ) (e : Engine) (w : Option Said) → talks.is_engine_gone (engine_after_heard e w) ≡ (is_gone (forget n e) || is_ending w)
gone_heard n Boot (Some said.UciOk) = refl
gone_heard n e (Some said.UciOk) = refl
gone_heard n e w = refl

line_ending : (m : IfaceMsg) → is_ending (said_of_event (what_accepted m)) ≡ false
line_ending (says.UserMove m) = refl
line_ending says.MoveNow = refl
line_ending m = refl

effect_ending : (d : Effect) → is_ending (said_of_event (what_of d)) ≡ is_death d
effect_ending (Accepts m) = line_ending m
effect_ending d = refl

gone_is : (s : State) (e : Event) → is_gone_after s e ≡ talks.is_engine_gone (mid s e).engine
gone_is s e =
    ap (λ (b : Bool). is_gone (situation_of_state s).engine || b) (sym (effect_ending (effect s e)))
    ∙ sym (gone_heard s.dialogue.epoch s.dialogue.engine (said_of_event (what_of (effect s e))))

last_words : (gone : Bool) → map dialogue_word_of (closing_step_orders gone) ≡ history.closing_orders false gone
last_words true = refl
last_words false = refl

-- A STEP

module _ (s : State) (step : Step) (last : Lasts s) (l : IsLawfulStep s step) where
  abbrev e : Event
  e = step.event

  waits : talks.AllSetup (turn_of_event s e).waiting
  waits = all_setup (orders_waiting (situation_of_state s) s.held (effect s e)) (all_held (situation_of_state s) s.held (effect s e) last.sound (comes_fits (situation_of_state s) s.held e (line_event s.ends e l.may_come)) last.held)

  comes_in : ExchangeMayCome s.ends.closed (exchange s step)
  comes_in = record {
    waiting = waits;
    stays_closed = λ c. closed_stays s.ends e c;
    no_epoch = λ c. closed_rises s.ends (situation_of_state s) s.held e refl c;
    deaf = λ c. deaf s e c;
  }

  closing : is_open e ≡ false → (b : Bool) → s.ends.closed ≡ b → closed_after s e ≡ true → map dialogue_word_of step.orders ≡ history.closing_orders b (talks.is_engine_gone (mid s e).engine)
  closing o true c n = ap (map dialogue_word_of) (l.closed o c)
  closing o false c n = ap (map dialogue_word_of) (l.closes c n) ∙ last_words (is_gone_after s e) ∙ ap (history.closing_orders false) (gone_is s e)

  pub lawful_in : is_open e ≡ false → AreLawful s.dialogue s.ends.closed (exchange s step)
  lawful_in o = record { settled = λ n. (l.settled o n).words; closing = λ n. closing o s.ends.closed refl n }

  by_open : (b : Bool) (xs : List Exchange) → is_open e ≡ b → IsDialogueOf s xs → IsDialogueOf (trace_state_after s step) (cond b xs (exchange s step ∷ xs))
  by_open true xs o d = record {
    lawful = d.lawful;
    dialogue = d.dialogue ∙ opening_dialogue s e step.orders o l.may_come last.begins (l.opens o);
    closed = d.closed ∙ opening_closed s e o;
  }
  by_open false xs o d = record {
    lawful = (
      d.lawful,
      subst (λ (b : Bool). ExchangeMayCome b (exchange s step)) (sym d.closed) comes_in,
      subst (λ (b : Bool). AreLawful (history.dialogue xs) b (exchange s step)) (sym d.closed)
          (subst (λ (t : Ticketed). AreLawful t s.ends.closed (exchange s step)) (sym d.dialogue) (lawful_in o)),
    );
    dialogue = ap (λ (t : Ticketed). engine_after_orders (before_orders t (turn_of_event s e)) (map dialogue_word_of step.orders)) d.dialogue;
    closed = refl;
  }

-- EACH TRACE

pub dialogues : (o : Settings) → TracesAreDialogues o
dialogues o [] l = record { lawful = tt; dialogue = refl; closed = refl }
dialogues o (step ∷ t) l = by_open (state o t) step (lasts o t l.0) l.1 (is_open step.event) (exchanges o t) refl (dialogues o t l.0)

-- STOPS

same_stops : (n : ℕ) (os : List Order) → stop_lines_after n os ≡ history.stop_orders_after n (map dialogue_word_of os)
same_stops n [] = refl
same_stops n (orders.Go ponder control depth ∷ later) = same_stops 0 later
same_stops n (orders.Stop ∷ later) = same_stops (n + 1) later
same_stops n (order ∷ later) = same_stops n later

stops_by : (o : Settings) (step : Step) (t : List Step) (b : Bool) → is_open step.event ≡ b → IsLawfulStep (state o t) step → stop_lines_since_go t ≡ history.stop_orders_since_go (exchanges o t)
    → stop_lines_since_go (step ∷ t) ≡ history.stop_orders_since_go (cond b (exchanges o t) (exchange (state o t) step ∷ exchanges o t))
stops_by o step t true e l s = ap (stop_lines_after (stop_lines_since_go t)) (l.opens e) ∙ s
stops_by o step t false e l s = same_stops (stop_lines_since_go t) step.orders ∙ ap (λ (n : ℕ). history.stop_orders_after n (map dialogue_word_of step.orders)) s

stops_are : (o : Settings) (t : List Step) → LawfulTrace o t → stop_lines_since_go t ≡ history.stop_orders_since_go (exchanges o t)
stops_are o [] l = refl
stops_are o (step ∷ t) l = stops_by o step t (is_open step.event) refl l.1 (stops_are o t l.0)

pub stop_once : (o : Settings) → StopLineComesOnce o
stop_once o t l = rw (stops_are o t l) (stops_once (exchanges o t) (dialogues o t l).lawful)
