-- The dialogue of each lawful trace is steady.
use Rattle.std.proofs.Common.{◌≡◌, ℕ, List, [], ◌∷◌, map, Bool, true, false, cond, ◌||◌, Option, Some, None, refl, sym, ap, subst, ◌∙◌}
use Rattle.line_io.specs.Event.{Event}
use Rattle.line_io.specs.Event as events
use Rattle.chess_board.specs.declared.board.Move.{Move}
use Rattle.protocol_tokens.specs.declared.kinds.GoKind.TheVariants as kinds
use Rattle.cecp_lines.specs.Messages as says
use Rattle.policy_rules.specs.declared.setting_rules.settings.Settings.{Settings}
use Rattle.policy_rules.specs.SettingRules.Policy.{IsProper}
use Rattle.search_epochs.specs.declared.words.Call.{Call}
use Rattle.search_epochs.specs.declared.words.Call.TheVariants as calls
use Rattle.search_epochs.specs.declared.words.Said.{Said}
use Rattle.search_epochs.specs.declared.words.Said.TheVariants as said
use Rattle.search_epochs.specs.Tickets as talks
use Rattle.search_epochs.specs.Tickets.{Engine, Boot, Getting, Idle, Search, Gone, Word, Ticketed, MaySend, MaySendAll, SearchServesCall, engine_after_heard, said_of_event, engine_after_word, sent_all}
use Rattle.search_epochs.specs.Dialogue.{forget}
use Rattle.search_epochs.specs.History as history
use Rattle.search_epochs.specs.History.{Exchange, CallIsSteady, ends_call}
use Rattle.search_epochs.proofs.Serving.{current_serves}
use Rattle.search_epochs.proofs.Stops.{may_all}
use Rattle.desk_rules.specs.Desk.{current, call_of_desk, call_before, is_gone}
use Rattle.desk_rules.specs.Steps.{Effect, Opens, Shows, Forfeits, what_of, begins_epoch, call_after, desk_after_effect, is_death, classify}
use Rattle.desk_rules.specs.Orders.{dialogue_word_of}
use Rattle.desk_rules.specs.Fits.{EffectFitsDesk}
use Rattle.desk_rules.proofs.Hints.{hint_kept, call_hint}
use Rattle.adapter_core.specs.Ends.{is_open}
use Rattle.adapter_core.specs.Alone.{is_move_answer}
use Rattle.adapter_core.specs.Trace.{State, Step, IsLawfulStep, LawfulTrace, state, trace_state_after, situation_of_state, effect, mid, closed_after}
use Rattle.adapter_core.proofs.Closing.{open_before}
use Rattle.adapter_core.proofs.Sides.{no_hint}
use Rattle.adapter_core.proofs.Traces.{Lasts, lasts, fits, call_is_after}
use Rattle.trace_laws.specs.Dialogue.{exchange, exchanges, IsSteadyOf, TracesAreSteady, SearchesServe}
use Rattle.trace_laws.proofs.Reached.{reached}
use Rattle.trace_laws.proofs.Calls.{IsFreshInBoot, effect_call, closed_call, first_call}
use Rattle.trace_laws.proofs.Dialogues.{dialogues, lawful_in}
use Rattle.trace_laws.proofs.Places.{opening_may}

-- THE HINT

-- IN BOOT

heard_boot : (e : Engine) (w : Option Said) → engine_after_heard e w ≡ Boot → e ≡ Boot
heard_boot Boot w x = refl
heard_boot e (Some said.ReadyOk) x = cc
heard_boot e None x = x
heard_boot e w x = cc

sent_boot : (n : ℕ) (e : Engine) (w : Word) → MaySend e w → engine_after_word n e w ≡ Boot → e ≡ Boot
sent_boot n Boot w m x = refl
sent_boot n Getting talks.Uci m x = absurd m
sent_boot n Idle talks.Uci m x = absurd m
sent_boot n (Search kinds.Move t s) talks.Uci m x = absurd m
sent_boot n (Search kinds.Ponder t s) talks.Uci m x = absurd m
sent_boot n (Search kinds.Analyse t s) talks.Uci m x = absurd m
sent_boot n e w m x = cc

all_boot : (n : ℕ) (e : Engine) (ws : List Word) → MaySendAll n e ws → sent_all n e ws ≡ Boot → e ≡ Boot
all_boot n e [] m x = x
all_boot n e (w ∷ ws) m x = sent_boot n e w m.0 (all_boot n (engine_after_word n e w) ws m.1 x)

not_answered : (epoch : ℕ) (e : Engine) → e ≡ Boot → current (forget epoch e) ≡ Some kinds.Move → ⊥
not_answered epoch Boot b i = cc
not_answered epoch Getting b i = cc
not_answered epoch Idle b i = cc
not_answered epoch Gone b i = cc
not_answered epoch (Search k t s) b i = cc

boot_answer : (s : State) (d : Effect) → EffectFitsDesk (situation_of_state s) s.held d → s.dialogue.engine ≡ Boot → is_move_answer d ≡ false
boot_answer s (Shows best hint) f b = absurd (not_answered s.dialogue.epoch s.dialogue.engine b f.1)
boot_answer s (Forfeits answer) f b = absurd (not_answered s.dialogue.epoch s.dialogue.engine b f.1)
boot_answer s d f b = refl

-- before the orders
pub boot_mid : (s : State) (step : Step) → Lasts s → IsLawfulStep s step → is_open step.event ≡ false → (trace_state_after s step).dialogue.engine ≡ Boot → (mid s step.event).engine ≡ Boot
boot_mid s step last l o x =
    let m = mid s step.event in
    all_boot m.epoch m.engine (map dialogue_word_of step.orders) (may_all s.dialogue s.ends.closed (exchange s step) (lawful_in s step last l o)) x

pub boot_before : (s : State) (step : Step) → Lasts s → IsLawfulStep s step → (trace_state_after s step).dialogue.engine ≡ Boot → s.dialogue.engine ≡ Boot
boot_before s step last l x = by (is_open step.event) refl where
  by : (b : Bool) → is_open step.event ≡ b → s.dialogue.engine ≡ Boot
  by true o = last.begins (opening_may s step.event o l.may_come)
  by false o = heard_boot s.dialogue.engine _ (boot_mid s step last l o x)

hintless : (o : Settings) (t : List Step) → LawfulTrace o t → (state o t).dialogue.engine ≡ Boot → (state o t).desk.hint ≡ None
hintless o [] l b = refl
hintless o (step ∷ t) l b =
    let s = state o t in
    let before = boot_before s step (lasts o t l.0) l.1 b in
    no_hint (situation_of_state s) (effect s step.event) (boot_answer s (effect s step.event) (fits s step (lasts o t l.0) l.1) before) (hintless o t l.0 before)

fresh : (o : Settings) (t : List Step) → IsProper o → LawfulTrace o t → IsFreshInBoot (state o t)
fresh o t p l b =
    let r = reached o t p l in
    let core_boot = ap (λ v. v.dialogue.state) r.stands.0 ∙ ap (forget (state o t).dialogue.epoch) b in
    (sym (ap (λ v. v.desk.booted) r.stands.0) ∙ (r.keeps_it.first core_boot).1, hintless o t l b)

-- A STEP

module _ (s : State) (step : Step) (last : Lasts s) (l : IsLawfulStep s step) (new : IsFreshInBoot s) where
  abbrev e : Event
  e = step.event

  abbrev d : Effect
  d = effect s e

  call_by : (c : Bool) → closed_after s e ≡ c → begins_epoch (situation_of_state s) d ≡ false
      → call_after c (situation_of_state s) d ≡ cond (c || (history.answers_call s.dialogue (what_of d) || history.is_engine_end (what_of d))) calls.Nothing (call_before (situation_of_state s))
  call_by true c r = closed_call (is_gone (situation_of_state s).engine || is_death d) (desk_after_effect (situation_of_state s) d)
  call_by false c r =
      ap (λ (b : Bool). call_after b (situation_of_state s) d) (sym (open_before s.ends e c)) ∙ effect_call s new d (fits s step last l) r

  steady_in : CallIsSteady s.dialogue (call_before (situation_of_state s)) s.desk.hint (exchange s step)
  steady_in = record {
    call_stays = λ r. call_by (closed_after s e) refl r;
    hint_before = refl;
    hint_stays = λ r. hint_kept (situation_of_state s) d r;
    hint_called = λ m c. call_hint (closed_after s e) (is_gone (situation_of_state s).engine || is_death d) (desk_after_effect (situation_of_state s) d) m c;
  }

  open_effect : (x : Event) → is_open x ≡ true → (closed_after s x ≡ s.ends.closed) × (effect s x ≡ Opens)
  unfolding classify
  open_effect events.Open y = (refl, refl)
  open_effect x y = absurd (cc)

  or_none : (b : Bool) → (b || false) ≡ b
  or_none true = refl
  or_none false = refl

  opened_call : (x : Effect) (c : Bool) → x ≡ Opens → c ≡ s.ends.closed → call_after c (situation_of_state s) x ≡ call_before (situation_of_state s)
  unfolding desk_after_effect
  opened_call x c o n =
      ap (λ (y : Effect). call_after c (situation_of_state s) y) o ∙ ap (λ (y : Bool). call_after y (situation_of_state s) Opens) n
      ∙ ap (λ (y : Bool). call_of_desk s.ends.closed y s.desk) (or_none (is_gone (situation_of_state s).engine))

  opened_hint : (x : Effect) → x ≡ Opens → (desk_after_effect (situation_of_state s) x).hint ≡ s.desk.hint
  unfolding desk_after_effect
  opened_hint x o = ap (λ (y : Effect). (desk_after_effect (situation_of_state s) y).hint) o

  by_open : (b : Bool) (xs : List Exchange) → is_open e ≡ b → history.dialogue xs ≡ s.dialogue → IsSteadyOf s xs → IsSteadyOf (trace_state_after s step) (cond b xs (exchange s step ∷ xs))
  by_open true xs o same x =
      let y = open_effect e o in
      record {
        steady = x.steady;
        call = x.call ∙ sym (opened_call d (closed_after s e) y.1 y.0) ∙ sym (call_is_after s step last l);
        hint = x.hint ∙ sym (opened_hint d y.1);
      }
  by_open false xs o same x = record {
    steady = (
      x.steady,
      subst (λ (t : Ticketed). CallIsSteady t (history.last_call xs) (history.last_hint xs) (exchange s step)) (sym same)
          (subst (λ (c : Call). CallIsSteady s.dialogue c (history.last_hint xs) (exchange s step)) (sym x.call)
          (subst (λ (h : Option Move). CallIsSteady s.dialogue (call_before (situation_of_state s)) h (exchange s step)) (sym x.hint) steady_in)),
    );
    call = sym (call_is_after s step last l);
    hint = refl;
  }

-- EACH TRACE

pub steadily : (o : Settings) → TracesAreSteady o
steadily o p [] l = record { steady = tt; call = sym (first_call false false _ refl refl refl); hint = refl }
steadily o p (step ∷ t) l =
    by_open (state o t) step (lasts o t l.0) l.1 (fresh o t p l.0) (is_open step.event) (exchanges o t) refl (dialogues o t l.0).dialogue (steadily o p t l.0)

pub serve : (o : Settings) → SearchesServe o
serve o p t k stopped l c e =
    let s = state o t in
    let x = dialogues o t l in
    let y = steadily o p t l in
    let served = current_serves (exchanges o t) k stopped y.steady x.lawful (x.closed ∙ c) (ap (λ (w : Ticketed). w.engine) x.dialogue ∙ e ∙ ap (λ (w : Ticketed). Search k w.epoch stopped) (sym x.dialogue)) in
    (subst (SearchServesCall k) y.call served.0, served.1 ∙ y.call)
