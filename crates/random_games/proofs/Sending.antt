-- Events that were sent, one after the other.
use Rattle.std.proofs.Common.{◌≡◌, List, [], ◌∷◌, ◌++◌, refl, ap, sym, subst, ◌∙◌, append_assoc, append-nil}
use Rattle.line_io.specs.Event.{Event}
use Rattle.policy_rules.specs.SettingRules.Policy.{usual}
use Rattle.adapter_core.specs.Trace.{Step, LawfulTrace}
use Rattle.adapter_core.specs.Represents.{Represents}
use Rattle.trace_scripts.specs.Script.{events}
use Rattle.random_games.specs.declared.tally.Tally.{Tally}
use Rattle.random_games.specs.Tally.{games_tally_after, tally_of}
use Rattle.random_games.specs.Sent.{DrillSession, DrillSends, Sent}

pub sent_one : (a b : DrillSession) (e : Event) → DrillSends a b e → Sent a b (e ∷ [])
sent_one a b e s = (b, s, refl)

pub sent_both : (a b c : DrillSession) (es fs : List Event) → Sent a b es → Sent b c fs → Sent a c (es ++ fs)
sent_both a b c [] fs s t = subst (λ (p : DrillSession). Sent p c fs) s t
sent_both a b c (e ∷ es) fs s t = (s.0, s.1, sent_both s.0 b c es fs s.2 t)

-- a lawful trace of these events, for which the core stands, and its counts
pub record Traced (p : DrillSession) (es : List Event) : Type 0 where
  pub trace : List Step
  pub lawful : LawfulTrace usual trace
  pub stands : Represents usual p.core trace
  pub events_are : events trace ≡ es
  pub tally_is : p.tally ≡ tally_of trace

one_more : (a b : DrillSession) (es : List Event) (e : Event) → Traced a es → DrillSends a b e → Traced b (es ++ e ∷ [])
one_more a b es e t s =
    let more = s.extends usual t.trace t.lawful t.stands in
    record {
      trace = s.step ∷ t.trace;
      lawful = more.0;
      stands = more.1;
      events_are = ap (λ (l : List Event). l ++ s.step.event ∷ []) t.events_are ∙ ap (λ (x : Event). es ++ x ∷ []) s.event;
      tally_is = s.tally_is ∙ ap (λ (x : Tally). games_tally_after x s.step) t.tally_is;
    }

pub traced : (a b : DrillSession) (es fs : List Event) → Traced a es → Sent a b fs → Traced b (es ++ fs)
traced a b es [] t s = subst (λ (l : List Event). Traced b l) (sym (append-nil es)) (subst (λ (p : DrillSession). Traced p es) (sym s) t)
traced a b es (f ∷ fs) t s = subst (λ (l : List Event). Traced b l) (append_assoc es (f ∷ []) fs) (traced s.0 b (es ++ f ∷ []) fs (one_more a s.0 es f t s.1) s.2)
