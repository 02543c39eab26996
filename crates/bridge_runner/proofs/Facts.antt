-- The facts of each lawful trace.
use Rattle.std.proofs.Common.{◌≡◌, ◌≢◌, List, [], ◌∷◌, Bool, true, false, not, cond, ◌&&◌, ◌||◌, refl, sym, ap, ◌∙◌}
use Rattle.std.proofs.lemmas.Bool.{or_left, false_from_ne_true}
use mathlib.Core.Bool.{or-false, or-true}
use Rattle.line_io.specs.Event.{Event, Open, Iface, IfaceLong, IfaceEnd, IfaceLost, Engine, EngineLong, EngineEnd, EngineLost, is_line}
use Rattle.option_map.specs.FeatureLists.Features.{reply_lines}
use Rattle.desk_rules.specs.Texts.{order_lines}
use Rattle.policy_rules.specs.declared.setting_rules.settings.Settings.{Settings}
use Rattle.adapter_core.specs.declared.ends.Ends.{Ends}
use Rattle.protocol_tokens.specs.Quit.{is_quit}
use Rattle.adapter_core.specs.Ends.{may, ends_after}
use Rattle.adapter_core.specs.Trace.{Step, LawfulTrace, state, iface_text, engine_text}
use Rattle.adapter_core.proofs.Ended.{silent_to_iface, silent_to_engine}
use Rattle.adapter_core.proofs.Closing.{opened_later}
use Rattle.event_pipe.specs.Events.{of, has_last_event, EventMayFollow}
use Rattle.event_pipe.proofs.Roles.{more_ended}
use Rattle.bridge_runner.specs.Texts.{is_own_step, events_of_steps}

pub opened : (o : Settings) (s : Step) (t : List Step) → LawfulTrace o (s ∷ t) → (state o (s ∷ t)).ends.opened ≡ true
opened o s t l = opened_later (state o t).ends s.event l.1.may_come

pub open_iface : (o : Settings) (s : Step) (t : List Step) → LawfulTrace o (s ∷ t) → iface_text s ≢ [] → (state o (s ∷ t)).ends.iface ≡ false
open_iface o s t l some = false_from_ne_true (state o (s ∷ t)).ends.iface (λ h. some (ap reply_lines (silent_to_iface o t s l (or_left _ (state o (s ∷ t)).ends.iface_lost h))))

pub open_engine : (o : Settings) (s : Step) (t : List Step) → LawfulTrace o (s ∷ t) → engine_text s ≢ [] → (state o (s ∷ t)).ends.engine ≡ false
open_engine o s t l some = false_from_ne_true (state o (s ∷ t)).ends.engine (λ h. some (ap order_lines (silent_to_engine o t s l (or_left _ (state o (s ∷ t)).ends.engine_lost h))))

-- which sides have ended
iface_by : (ends : Ends) (e : Event) (b : Bool) → ends.iface ≡ b → (ends_after ends e).iface ≡ (b || has_last_event (of 1 (cond (is_own_step e) [] (e ∷ []))))
iface_by ends Open b h = h ∙ sym (or-false b)
iface_by ends (Iface line) b h = ap (λ x. x || is_quit line) h ∙ ap (λ x. b || x) (sym (or-false (is_quit line)))
iface_by ends IfaceLong b h = h ∙ sym (or-false b)
iface_by ends IfaceEnd b h = sym (or-true b)
iface_by ends IfaceLost b h = h ∙ sym (or-false b)
iface_by ends (Engine line) b h = h ∙ sym (or-false b)
iface_by ends EngineLong b h = h ∙ sym (or-false b)
iface_by ends EngineEnd b h = h ∙ sym (or-false b)
iface_by ends EngineLost b h = h ∙ sym (or-false b)

engine_by : (ends : Ends) (e : Event) (b : Bool) → ends.engine ≡ b → (ends_after ends e).engine ≡ (b || has_last_event (of 2 (cond (is_own_step e) [] (e ∷ []))))
engine_by ends Open b h = h ∙ sym (or-false b)
engine_by ends (Iface line) b h = h ∙ sym (or-false b)
engine_by ends IfaceLong b h = h ∙ sym (or-false b)
engine_by ends IfaceEnd b h = h ∙ sym (or-false b)
engine_by ends IfaceLost b h = h ∙ sym (or-false b)
engine_by ends (Engine line) b h = h ∙ sym (or-false b)
engine_by ends EngineLong b h = h ∙ sym (or-false b)
engine_by ends EngineEnd b h = sym (or-true b)
engine_by ends EngineLost b h = h ∙ sym (or-false b)

pub iface_is : (o : Settings) (t : List Step) → (state o t).ends.iface ≡ has_last_event (of 1 (events_of_steps t))
iface_is o [] = refl
iface_is o (s ∷ t) = iface_by (state o t).ends s.event _ (iface_is o t) ∙ sym (more_ended 1 (events_of_steps t) (cond (is_own_step s.event) [] (s.event ∷ [])))

pub engine_is : (o : Settings) (t : List Step) → (state o t).ends.engine ≡ has_last_event (of 2 (events_of_steps t))
engine_is o [] = refl
engine_is o (s ∷ t) = engine_by (state o t).ends s.event _ (engine_is o t) ∙ sym (more_ended 2 (events_of_steps t) (cond (is_own_step s.event) [] (s.event ∷ [])))

two : (a b : Bool) → a ≡ true → b ≡ false → (a && not b) ≡ true
two a b p q = rw (p, q) refl

three : (a b c : Bool) → a ≡ true → b ≡ false → c ≡ true → (a && not b && c) ≡ true
three a b c p q r = rw (p, q, r) refl

pub may_follow : (ends : Ends) (x : Event) (r : List Event) → ends.opened ≡ true → ends.iface ≡ has_last_event (of 1 r) → ends.engine ≡ has_last_event (of 2 r) → EventMayFollow r x → may ends x ≡ true
may_follow ends Open r o a b f = absurd (f.2 refl)
may_follow ends (Iface line) r o a b f = three ends.opened ends.iface (is_line line) o (a ∙ f.0) f.1
may_follow ends IfaceLong r o a b f = two ends.opened ends.iface o (a ∙ f.0)
may_follow ends IfaceEnd r o a b f = two ends.opened ends.iface o (a ∙ f.0)
may_follow ends IfaceLost r o a b f = absurd (f.2 refl)
may_follow ends (Engine line) r o a b f = three ends.opened ends.engine (is_line line) o (b ∙ f.0) f.1
may_follow ends EngineLong r o a b f = two ends.opened ends.engine o (b ∙ f.0)
may_follow ends EngineEnd r o a b f = two ends.opened ends.engine o (b ∙ f.0)
may_follow ends EngineLost r o a b f = absurd (f.2 refl)
