-- An event that says nothing of the dialogue changes nothing.
use Rattle.std.proofs.Common.{◌≡◌, ℕ, Bool, true, false, Option, Some, None, refl, ap, ◌∙◌}
use Rattle.session_judge.specs.declared.dialogue_event.DialogueEvent.TheVariants as dialogue_events
use Rattle.session_judge.specs.declared.engine.EnginePhase.{EnginePhase}
use Rattle.session_judge.specs.declared.engine.EnginePhase.TheVariants as engines
use Rattle.session_judge.specs.declared.search.Search.{Search}
use Rattle.session_judge.specs.declared.talk.OrderStage.{OrderStage}
use Rattle.session_judge.specs.declared.talk.OrderStage.TheVariants as stages
use Rattle.session_judge.specs.declared.talk.JudgedTalk.{JudgedTalk}
use Rattle.session_judge.specs.Crossings.{unanswered_after}
use Rattle.session_judge.specs.Engines.{engine_after}
use Rattle.session_judge.specs.Talks.{judgement_after, search_after, stage_after}

same_engine : (e : EnginePhase) → engine_after e dialogue_events.Nothing ≡ e
same_engine engines.Boot = refl
same_engine engines.Getting = refl
same_engine engines.Idle = refl
same_engine (engines.Search kind stopped) = refl

same_unanswered : (e u : EnginePhase) → unanswered_after e u dialogue_events.Nothing ≡ u
same_unanswered engines.Boot u = refl
same_unanswered engines.Getting u = refl
same_unanswered engines.Idle u = refl
same_unanswered (engines.Search kind stopped) u = refl

same_stage : (s : OrderStage) → stage_after s dialogue_events.Nothing ≡ s
same_stage stages.Start = refl
same_stage stages.Placed = refl
same_stage stages.Open = refl
same_stage stages.Over = refl

same_search : (e : EnginePhase) (line : ℕ) (s : Option Search) → search_after e line s dialogue_events.Nothing ≡ s
same_search e line None = refl
same_search engines.Boot line (Some s) = refl
same_search engines.Getting line (Some s) = refl
same_search engines.Idle line (Some s) = refl
same_search (engines.Search kind stopped) line (Some s) = refl

pub nothing_changes : (t : JudgedTalk) (line : ℕ) → judgement_after t line dialogue_events.Nothing ≡ t
nothing_changes t line =
    ap (λ (e : EnginePhase). record t { engine = e; unanswered = unanswered_after t.engine t.unanswered dialogue_events.Nothing; stage = stage_after t.stage dialogue_events.Nothing; search = search_after t.engine line t.search dialogue_events.Nothing }) (same_engine t.engine)
    ∙ ap (λ (u : EnginePhase). record t { unanswered = u; stage = stage_after t.stage dialogue_events.Nothing; search = search_after t.engine line t.search dialogue_events.Nothing }) (same_unanswered t.engine t.unanswered)
    ∙ ap (λ (s : OrderStage). record t { stage = s; search = search_after t.engine line t.search dialogue_events.Nothing }) (same_stage t.stage)
    ∙ ap (λ (s : Option Search). record t { search = s }) (same_search t.engine line t.search)
