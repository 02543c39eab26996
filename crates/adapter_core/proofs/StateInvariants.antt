-- The facts after each lawful trace, and that each step of a core extends each trace that it stands for.
use Rattle.std.proofs.Common.{◌≡◌, ℕ, List, [], ◌∷◌, map, Bool, true, false, cond, refl, sym, ap, subst, ◌∙◌}
use Rattle.std.proofs.lemmas.Bool.{both_ways}
use Rattle.line_io.specs.Event.{Event}
use Rattle.line_io.specs.Out.{Text}
use Rattle.uci_lines.specs.Orders.{Order}
use Rattle.policy_rules.specs.declared.setting_rules.settings.Settings.{Settings}
use Rattle.policy_rules.specs.SettingRules.Policy.{IsProper}
use Rattle.search_epochs.specs.Tickets.{Engine, Boot, Getting, Idle, Search, Gone}
use Rattle.search_epochs.proofs.Turns.{TicketWithin}
use Rattle.search_epochs.proofs.Within.{all_within, turned_within, turned_last}
use Rattle.desk_rules.specs.Orders.{orders_waiting, dialogue_word_of, AreHeld}
use Rattle.desk_rules.specs.Fits.{DeskInvariant}
use Rattle.adapter_core.specs.Ends.{may}
use Rattle.adapter_core.specs.Trace.{State, Step, LawfulTrace, state, trace_state_after, situation_of_state, effect, turn_of_event, mid, has_ready, iface_text, engine_text}
use Rattle.adapter_core.specs.Parts as parts
use Rattle.adapter_core.specs.Parts.{CoreParts, advance}
use Rattle.adapter_core.specs.Represents.{parts_of_state, StateInvariant, CoreInvariant, TicketIsWithin, Represents, Extends, step_by}
use Rattle.adapter_core.proofs.Closing.{opened_later, line_event}
use Rattle.adapter_core.proofs.Square.{within, held, lawful, stands, step_situation, step_is}

back : (epoch : ℕ) (e : Engine) → TicketWithin epoch e → TicketIsWithin epoch e
back epoch Boot w = tt
back epoch Getting w = tt
back epoch Idle w = tt
back epoch Gone w = tt
back epoch (Search k t s) w = w

still : (b : Bool) (os : List Order) → AreHeld os → AreHeld (cond b [] os)
still true os a = tt
still false os a = a

-- what holds of a new trace
pub begins : (o : Settings) → IsProper o → StateInvariant (state o [])
begins o p = record { proper = p; begins = λ c. refl; ticket = tt; last = tt; held = tt }

-- a new core stands for it
pub stands_first : (o : Settings) → IsProper o → Represents o (parts.opening_core_parts o) []
stands_first o p = (refl, begins o p)

-- what holds goes on, whatever the orders are, if only the event may come
pub holds_on : (s : State) (step : Step) → StateInvariant s → AreHeld (orders_waiting (situation_of_state s) s.held (effect s step.event)) → may s.ends step.event ≡ true → StateInvariant (trace_state_after s step)
holds_on s step holds a m =
    let t = within s.dialogue.epoch s.dialogue.engine holds.ticket in
    let u = turn_of_event s step.event in
    record {
      proper = holds.proper;
      begins = λ no. absurd (both_ways _ no (opened_later s.ends step.event m));
      ticket = back _ _ (all_within (mid s step.event).epoch (mid s step.event).engine (map dialogue_word_of step.orders) (turned_within s.dialogue u t));
      last = turned_last s.dialogue u t holds.last;
      held = still (has_ready (map dialogue_word_of step.orders)) (orders_waiting (situation_of_state s) s.held (effect s step.event)) a;
    }

-- each step of a core extends each lawful trace that it stands for
same_step : (o : Settings) (t : List Step) (to_iface to_engine : Text) (e : Event) → may (state o t).ends e ≡ true → DeskInvariant (state o t).desk → LawfulTrace o t → StateInvariant (state o t)
    → (let old = parts_of_state (state o t) to_iface to_engine in LawfulTrace o (step_by old e ∷ t) × Represents o (advance old e) (step_by old e ∷ t))
same_step o t to_iface to_engine e m d l h =
    let s = state o t in
    let old = parts_of_state s to_iface to_engine in
    let i = line_event s.ends e m in
    subst (λ (x : Step). LawfulTrace o (x ∷ t) × Represents o (advance old e) (x ∷ t)) (sym (step_is s to_iface to_engine e h d i))
    ((l, lawful s to_iface to_engine e h d i m), (stands s to_iface to_engine e h d i m, holds_on s (step_situation s to_iface to_engine e h d i) h (held s to_iface to_engine e h d i) m))

pub extended : (o : Settings) (core : CoreParts) (t : List Step) (e : Event) → may core.ends e ≡ true → DeskInvariant core.desk → LawfulTrace o t → Represents o core t
    → LawfulTrace o (step_by core e ∷ t) × Represents o (advance core e) (step_by core e ∷ t)
extended o core t e m d l st =
    let m' : may (state o t).ends e ≡ true = subst (λ (w : CoreParts). may w.ends e ≡ true) st.0 m in
    let d' : DeskInvariant (state o t).desk = subst (λ (w : CoreParts). DeskInvariant w.desk) st.0 d in
    subst (λ (w : CoreParts). LawfulTrace o (step_by w e ∷ t) × Represents o (advance w e) (step_by w e ∷ t)) (sym st.0)
    (same_step o t core.to_iface core.to_engine e m' d' l st.1)

-- TEXTS

pub exported_text_is : (core : CoreParts) (e : Event) → (advance core e).to_iface.text ≡ iface_text (step_by core e)
unfolding advance step_by
exported_text_is core e = refl

pub ordered_text_is : (core : CoreParts) (e : Event) → (advance core e).to_engine.text ≡ engine_text (step_by core e)
unfolding advance step_by
ordered_text_is core e = refl

-- THE STEP

pub event_is : (core : CoreParts) (e : Event) → (step_by core e).event ≡ e
unfolding step_by
event_is core e = refl

-- a step of a core that gives these texts
pub extends_to : (core new : CoreParts) (e : Event) (iface engine : List ℕ) → CoreInvariant core → may core.ends e ≡ true → new ≡ advance core e → iface ≡ new.to_iface.text → engine ≡ new.to_engine.text
    → Extends core new e iface engine
extends_to core new e iface engine k m n i g = record {
  step = step_by core e;
  event = event_is core e;
  iface_is = i ∙ ap (λ (v : CoreParts). v.to_iface.text) n ∙ exported_text_is core e;
  engine_is = g ∙ ap (λ (v : CoreParts). v.to_engine.text) n ∙ ordered_text_is core e;
  extends = λ o t l st. subst (λ (v : CoreParts). LawfulTrace o (step_by core e ∷ t) × Represents o v (step_by core e ∷ t)) (sym n) (extended o core t e m k.sound l st);
}

-- the texts are those of its buffers
pub extends : (core : CoreParts) (e : Event) → CoreInvariant core → may core.ends e ≡ true → Extends core (advance core e) e (advance core e).to_iface.text (advance core e).to_engine.text
extends core e k m = extends_to core (advance core e) e (advance core e).to_iface.text (advance core e).to_engine.text k m refl refl refl

-- or equal ones
pub with_texts : (core new : CoreParts) (e : Event) (iface engine : List ℕ) → Extends core new e new.to_iface.text new.to_engine.text → iface ≡ new.to_iface.text → engine ≡ new.to_engine.text → Extends core new e iface engine
with_texts core new e iface engine x i g = record { step = x.step; event = x.event; iface_is = i ∙ x.iface_is; engine_is = g ∙ x.engine_is; extends = x.extends }
