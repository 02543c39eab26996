-- A step of a session, whose core stands for a lawful trace.
use Rattle.std.proofs.Common.{◌≡◌, ◌∷◌, ap, sym, ◌∙◌}
use Rattle.line_io.specs.Event.{Event}
use Rattle.policy_rules.specs.SettingRules.Policy.{usual}
use Rattle.adapter_core.specs.Ends.{ends_after}
use Rattle.adapter_core.specs.Trace.{state}
use Rattle.adapter_core.specs.Parts.{CoreParts}
use Rattle.random_games.specs.declared.tally.Tally.{Tally}
use Rattle.random_games.specs.Sent.{DrillSession, DrillSends, DrillSteps, DrillInvariant}

abbrev pub progress : CoreParts → Tally → DrillSession
progress core tally = record { core = core; tally = tally }

module _ (old new : CoreParts) (e : Event) (tally_old tally_new : Tally) (s : DrillInvariant (progress old tally_old)) (x : DrillSteps old new e tally_old tally_new) where
  pub steady_on : DrillInvariant (progress new tally_new)
  steady_on =
      let more = x.extends usual s.trace s.lawful s.stands in
      record { trace = x.step ∷ s.trace; lawful = more.0; stands = more.1; few = x.few }

  pub sends_on : DrillSends (progress old tally_old) (progress new tally_new) e
  sends_on = record { step = x.step; event = x.event; extends = x.extends; tally_is = x.tally_is usual s.trace (x.extends usual s.trace s.lawful s.stands).0 }

  pub ends_on : new.ends ≡ ends_after old.ends e
  ends_on =
      let more = x.extends usual s.trace s.lawful s.stands in
      ap (λ (v : CoreParts). v.ends) (more.1.0) ∙ ap (λ (y : Event). ends_after (state usual s.trace).ends y) x.event ∙ ap (λ (v : CoreParts). ends_after v.ends e) (sym (s.stands.0))
