-- A talk that a tap hears sooner is as lawful as it was.
use Rattle.std.proofs.Common.{◌≡◌, ◌⊎◌, inl, inr, ℕ, zero, suc, List, [], ◌∷◌, ◌++◌, filter, Bool, true, false, not, cond, ◌&&◌, Option, Some, None, refl, sym, ap, subst, ◌∙◌}
use Rattle.line_io.specs.Event.{Event}
use Rattle.std.proofs.lemmas.Bool.{both_ways}
use Rattle.protocol_tokens.specs.declared.kinds.GoKind.TheVariants as kinds
use Rattle.policy_rules.specs.declared.setting_rules.settings.Settings.{Settings}
use Rattle.script_lines.specs.Marks.{Mark, Happens, ToEngine}
use Rattle.session_judge.specs.declared.dialogue_event.OrderKind.{OrderKind}
use Rattle.session_judge.specs.declared.dialogue_event.OrderKind.TheVariants as orders
use Rattle.session_judge.specs.declared.dialogue_event.DialogueEvent.{DialogueEvent}
use Rattle.session_judge.specs.declared.dialogue_event.DialogueEvent.TheVariants as dialogue_events
use Rattle.session_judge.specs.declared.engine.EnginePhase.{EnginePhase}
use Rattle.session_judge.specs.declared.engine.EnginePhase.TheVariants as engines
use Rattle.session_judge.specs.declared.listener.Listener.TheVariants as listeners
use Rattle.session_judge.specs.declared.rule.Rule.{Rule}
use Rattle.session_judge.specs.declared.rule.Rule.TheVariants as rules
use Rattle.session_judge.specs.declared.talk.OrderStage.{OrderStage}
use Rattle.session_judge.specs.declared.talk.OrderStage.TheVariants as stages
use Rattle.session_judge.specs.Crossings.{taken_as, unanswered_after, is_to_search}
use Rattle.session_judge.specs.DialogueEvents.{dialogue_event_of}
use Rattle.session_judge.specs.Engines.{engine_after, event_unless_gone, gone_after, is_idle}
use Rattle.session_judge.specs.Rules.{broken_by, breaks_first, breaks_gone, breaks_quit, breaks_order, breaks_busy, breaks_stop, breaks_hit, breaks_position}
use Rattle.session_judge.specs.Talks.{opening_judgement, stage_after}
use Rattle.judge_and_driver_laws.specs.Judge.Logs.{trace_marks}
use Rattle.judge_and_driver_laws.specs.Judge.Tapped.{is_tapped, is_written_meanwhile, MayCross, IsHeardSooner, HeardSooner, TapsAreClean}
use Rattle.judge_and_driver_laws.proofs.Judge.Runs.{Runs, clean_runs}
use Rattle.judge_and_driver_laws.proofs.Judge.Scripts.{trace_runs}
use Rattle.judge_and_driver_laws.proofs.Judge.TapTalk.{Small, small_of, as_talk, next, Passes, Clean, to_runs, small, small_is, quiet_small, of_runs}

-- AN ORDER AND WHAT IS HEARD

-- the talk is the same, or no order may come
abbrev Agree : Small → Small → Type 0
Agree s s' = (s ≡ s') ⊎ ((s.stage ≡ stages.Over) × (s'.stage ≡ stages.Over))

record Swapped (s : Small) (k : OrderKind) (d : DialogueEvent) : Type 0 where
  passes : Passes (next s d) (dialogue_events.Writes k)
  agrees : Agree (next (next s (dialogue_events.Writes k)) d) (next (next s d) (dialogue_events.Writes k))

silent_swap : (s : Small) (k : OrderKind) → Passes s (dialogue_events.Writes k) → Swapped s k dialogue_events.Nothing
silent_swap s k p = record {
  passes = subst (λ (x : Small). Passes x (dialogue_events.Writes k)) (sym (quiet_small s)) p;
  agrees = inl (quiet_small (next s (dialogue_events.Writes k)) ∙ ap (λ (x : Small). next x (dialogue_events.Writes k)) (sym (quiet_small s)));
}

-- the rules for an order, by what they rest on
abbrev verdict : OrderStage → Bool → EnginePhase → EnginePhase → OrderKind → Option Rule
verdict stage gone e taken k =
    cond (breaks_first stage k) (Some rules.First)
    (cond gone (Some rules.Gone)
    (cond (breaks_quit stage) (Some rules.Quit)
    (cond (breaks_order stage k) (Some rules.Order)
    (cond (breaks_busy e k) (Some rules.Busy)
    (cond (breaks_stop taken k) (Some rules.Stop)
    (cond (breaks_hit taken k) (Some rules.Hit)
    (cond (breaks_position k) (Some rules.Position) None)))))))

no_gone : (gone : Bool) → breaks_gone gone listeners.Tap ≡ false
no_gone true = refl
no_gone false = refl

verdict_is : (s : Small) (k : OrderKind) → broken_by (as_talk s) k ≡ verdict s.stage false s.engine (taken_as s.engine listeners.Tap s.unanswered) k
verdict_is s k = ap (λ (b : Bool). verdict s.stage b s.engine (taken_as s.engine listeners.Tap s.unanswered) k) (no_gone s.gone)

-- THE ENGINE'S END

engine_ends : (e : EnginePhase) → engine_after e dialogue_events.Ends ≡ e
engine_ends engines.Boot = refl
engine_ends e = refl

unanswered_ends : (e u : EnginePhase) → unanswered_after e u dialogue_events.Ends ≡ u
unanswered_ends (engines.Search kind stopped) u = refl
unanswered_ends e u = refl

stage_ends : (stage : OrderStage) → stage_after stage dialogue_events.Ends ≡ stage
stage_ends stages.Over = refl
stage_ends stage = refl

end_small : (s : Small) → next s dialogue_events.Ends ≡ small s.engine true s.unanswered s.stage
end_small s = small_is _ s.engine _ s.unanswered true _ s.stage (engine_ends s.engine) (unanswered_ends s.engine s.unanswered) (stage_ends s.stage)

end_swap : (s : Small) (k : OrderKind) → Passes s (dialogue_events.Writes k) → Swapped s k dialogue_events.Ends
end_swap s k p = record {
  passes = subst (λ (x : Small). Passes x (dialogue_events.Writes k)) (sym (end_small s)) (verdict_is (small s.engine true s.unanswered s.stage) k ∙ sym (verdict_is s k) ∙ p);
  agrees = inl (end_small (next s (dialogue_events.Writes k)) ∙ ap (λ (x : Small). next x (dialogue_events.Writes k)) (sym (end_small s)));
}

-- ANSWERS

-- what the engine answers
abbrev is_answer : DialogueEvent → Bool
is_answer dialogue_events.Boots = true
is_answer dialogue_events.GetsReady = true
is_answer (dialogue_events.Answers best) = true
is_answer d = false

-- `stop` or `ponderhit`
engine_swap : (e : EnginePhase) (k : OrderKind) (d : DialogueEvent) → is_to_search k ≡ true → is_answer d ≡ true → engine_after (engine_after e (dialogue_events.Writes k)) d ≡ engine_after (engine_after e d) (dialogue_events.Writes k)
engine_swap engines.Boot orders.Stop dialogue_events.Boots w a = refl
engine_swap e orders.Stop dialogue_events.Boots w a = refl
engine_swap engines.Boot orders.Stop dialogue_events.GetsReady w a = refl
engine_swap e orders.Stop dialogue_events.GetsReady w a = refl
engine_swap engines.Boot orders.Stop (dialogue_events.Answers best) w a = refl
engine_swap e orders.Stop (dialogue_events.Answers best) w a = refl
engine_swap (engines.Search kinds.Ponder s) orders.PonderHit dialogue_events.Boots w a = refl
engine_swap e orders.PonderHit dialogue_events.Boots w a = refl
engine_swap (engines.Search kinds.Ponder s) orders.PonderHit dialogue_events.GetsReady w a = refl
engine_swap e orders.PonderHit dialogue_events.GetsReady w a = refl
engine_swap (engines.Search kinds.Ponder s) orders.PonderHit (dialogue_events.Answers best) w a = refl
engine_swap e orders.PonderHit (dialogue_events.Answers best) w a = refl
engine_swap e k d w a = cc

unanswered_swap : (e u : EnginePhase) (k : OrderKind) (d : DialogueEvent) → is_to_search k ≡ true → is_answer d ≡ true
    → unanswered_after (engine_after e (dialogue_events.Writes k)) (unanswered_after e u (dialogue_events.Writes k)) d ≡ unanswered_after (engine_after e d) (unanswered_after e u d) (dialogue_events.Writes k)
unanswered_swap engines.Boot u orders.Stop dialogue_events.Boots w a = refl
unanswered_swap e u orders.Stop dialogue_events.Boots w a = refl
unanswered_swap engines.Boot u orders.Stop dialogue_events.GetsReady w a = refl
unanswered_swap e u orders.Stop dialogue_events.GetsReady w a = refl
unanswered_swap engines.Boot u orders.Stop (dialogue_events.Answers best) w a = refl
unanswered_swap e u orders.Stop (dialogue_events.Answers best) w a = refl
unanswered_swap (engines.Search kinds.Ponder s) u orders.PonderHit dialogue_events.Boots w a = refl
unanswered_swap e u orders.PonderHit dialogue_events.Boots w a = refl
unanswered_swap (engines.Search kinds.Ponder s) u orders.PonderHit dialogue_events.GetsReady w a = refl
unanswered_swap e u orders.PonderHit dialogue_events.GetsReady w a = refl
unanswered_swap (engines.Search kinds.Ponder s) u orders.PonderHit (dialogue_events.Answers best) w a = refl
unanswered_swap e u orders.PonderHit (dialogue_events.Answers best) w a = refl
unanswered_swap e u k d w a = cc

stage_kept : (stage : OrderStage) (d : DialogueEvent) → is_answer d ≡ true → stage_after stage d ≡ stage
stage_kept stages.Over d a = refl
stage_kept stage dialogue_events.Boots a = refl
stage_kept stage dialogue_events.GetsReady a = refl
stage_kept stage (dialogue_events.Answers best) a = refl
stage_kept stage d a = cc

gone_kept : (gone : Bool) (d : DialogueEvent) → is_answer d ≡ true → gone_after gone d ≡ gone
gone_kept gone dialogue_events.Boots a = refl
gone_kept gone dialogue_events.GetsReady a = refl
gone_kept gone (dialogue_events.Answers best) a = refl
gone_kept gone d a = cc

quit_over : (stage : OrderStage) → stage_after stage (dialogue_events.Writes orders.Quit) ≡ stages.Over
quit_over stages.Over = refl
quit_over stage = refl

-- an order that is written meanwhile breaks no rule behind an answer
record TakenRight (taken : EnginePhase) (k : OrderKind) : Type 0 where
  stop : breaks_stop taken k ≡ false
  hit : breaks_hit taken k ≡ false

taken_swap : (e u : EnginePhase) (k : OrderKind) (d : DialogueEvent) → is_written_meanwhile k ≡ true → is_answer d ≡ true → TakenRight (taken_as e listeners.Tap u) k → TakenRight (taken_as (engine_after e d) listeners.Tap (unanswered_after e u d)) k
taken_swap e u orders.Quit d w a r = record { stop = refl; hit = refl }
taken_swap engines.Boot u orders.Stop dialogue_events.Boots w a r = let x = r.stop in cc
taken_swap e u orders.Stop dialogue_events.Boots w a r = r
taken_swap engines.Getting u orders.Stop dialogue_events.GetsReady w a r = let x = r.stop in cc
taken_swap e u orders.Stop dialogue_events.GetsReady w a r = r
taken_swap (engines.Search kind s) u orders.Stop (dialogue_events.Answers best) w a r = r
taken_swap e u orders.Stop (dialogue_events.Answers best) w a r = r
taken_swap engines.Boot u orders.PonderHit dialogue_events.Boots w a r = let x = r.hit in cc
taken_swap e u orders.PonderHit dialogue_events.Boots w a r = r
taken_swap engines.Getting u orders.PonderHit dialogue_events.GetsReady w a r = let x = r.hit in cc
taken_swap e u orders.PonderHit dialogue_events.GetsReady w a r = r
taken_swap (engines.Search kind s) u orders.PonderHit (dialogue_events.Answers best) w a r = r
taken_swap e u orders.PonderHit (dialogue_events.Answers best) w a r = r
taken_swap e u k d w a r = cc

-- the rules one by one
record AllFalse (a c d e f g h : Bool) : Type 0 where
  first : a ≡ false
  quit : c ≡ false
  order : d ≡ false
  busy : e ≡ false
  stop : f ≡ false
  hit : g ≡ false
  position : h ≡ false

abbrev chain : Bool → Bool → Bool → Bool → Bool → Bool → Bool → Option Rule
chain a c d e f g h =
    cond a (Some rules.First) (cond false (Some rules.Gone) (cond c (Some rules.Quit) (cond d (Some rules.Order) (cond e (Some rules.Busy) (cond f (Some rules.Stop) (cond g (Some rules.Hit) (cond h (Some rules.Position) None)))))))

all_false : (a c d e f g h : Bool) → chain a c d e f g h ≡ None → AllFalse a c d e f g h
all_false false false false false false false false n = record { first = refl; quit = refl; order = refl; busy = refl; stop = refl; hit = refl; position = refl }
all_false a c d e f g h n = absurd (cc)

none_false : (a c d e f g h : Bool) → AllFalse a c d e f g h → chain a c d e f g h ≡ None
none_false a c d e f g h x = rw (x.first, x.quit, x.order, x.busy, x.stop, x.hit, x.position) refl

never_busy : (b : Bool) → (b && false) ≡ false
never_busy true = refl
never_busy false = refl

meanwhile_free : (e : EnginePhase) (k : OrderKind) → is_written_meanwhile k ≡ true → breaks_busy e k ≡ false
meanwhile_free e orders.Stop w = never_busy (not (is_idle e))
meanwhile_free e orders.PonderHit w = never_busy (not (is_idle e))
meanwhile_free e orders.Quit w = never_busy (not (is_idle e))
meanwhile_free e k w = cc

-- the events as they are heard of an engine that is there
abbrev heard : Small → DialogueEvent → Small
heard s d = small (engine_after s.engine d) (gone_after s.gone d) (unanswered_after s.engine s.unanswered d) (stage_after s.stage d)

deaf : (d : DialogueEvent) → is_answer d ≡ true → event_unless_gone d true ≡ dialogue_events.Nothing
deaf dialogue_events.Boots a = refl
deaf dialogue_events.GetsReady a = refl
deaf (dialogue_events.Answers best) a = refl
deaf d a = cc

hears : (d : DialogueEvent) → event_unless_gone d false ≡ d
hears dialogue_events.Boots = refl
hears d = refl

answer_passes : (s : Small) (k : OrderKind) (d : DialogueEvent) → is_written_meanwhile k ≡ true → is_answer d ≡ true → Passes s (dialogue_events.Writes k) → Passes (heard s d) (dialogue_events.Writes k)
answer_passes s k d w a p =
    let taken = taken_as s.engine listeners.Tap s.unanswered in
    let x = all_false (breaks_first s.stage k) (breaks_quit s.stage) (breaks_order s.stage k) (breaks_busy s.engine k) (breaks_stop taken k) (breaks_hit taken k) (breaks_position k) (sym (verdict_is s k) ∙ p) in
    let r = taken_swap s.engine s.unanswered k d w a (record { stop = x.stop; hit = x.hit }) in
    let taken' = taken_as (engine_after s.engine d) listeners.Tap (unanswered_after s.engine s.unanswered d) in
    verdict_is (heard s d) k
    ∙ ap (λ (stage : OrderStage). verdict stage false (engine_after s.engine d) taken' k) (stage_kept s.stage d a)
    ∙ none_false (breaks_first s.stage k) (breaks_quit s.stage) (breaks_order s.stage k) (breaks_busy (engine_after s.engine d) k) (breaks_stop taken' k) (breaks_hit taken' k) (breaks_position k)
    (record { first = x.first; quit = x.quit; order = x.order; busy = meanwhile_free (engine_after s.engine d) k w; stop = r.stop; hit = r.hit; position = x.position })

search_agrees : (s : Small) (k : OrderKind) (d : DialogueEvent) → is_to_search k ≡ true → is_answer d ≡ true → heard (heard s (dialogue_events.Writes k)) d ≡ heard (heard s d) (dialogue_events.Writes k)
search_agrees s k d w a =
    let order = dialogue_events.Writes k in
    ap (λ (g : Bool). small (engine_after (engine_after s.engine order) d) g (unanswered_after (engine_after s.engine order) (unanswered_after s.engine s.unanswered order) d) (stage_after (stage_after s.stage order) d))
    (gone_kept s.gone d a ∙ sym (gone_kept s.gone d a))
    ∙ small_is _ _ _ _ (gone_after s.gone d) _ _ (engine_swap s.engine k d w a) (unanswered_swap s.engine s.unanswered k d w a)
    (stage_kept (stage_after s.stage order) d a ∙ ap (λ (x : OrderStage). stage_after x order) (sym (stage_kept s.stage d a)))

answer_agrees : (s : Small) (k : OrderKind) (d : DialogueEvent) → is_written_meanwhile k ≡ true → is_answer d ≡ true → Agree (heard (heard s (dialogue_events.Writes k)) d) (heard (heard s d) (dialogue_events.Writes k))
answer_agrees s orders.Stop d w a = inl (search_agrees s orders.Stop d refl a)
answer_agrees s orders.PonderHit d w a = inl (search_agrees s orders.PonderHit d refl a)
answer_agrees s orders.Quit d w a = inr (ap (λ (x : OrderStage). stage_after x d) (quit_over s.stage), quit_over (stage_after s.stage d))
answer_agrees s k d w a = absurd (cc)

answer_swap : (s : Small) (k : OrderKind) (d : DialogueEvent) → is_written_meanwhile k ≡ true → is_answer d ≡ true → Passes s (dialogue_events.Writes k) → Swapped s k d
answer_swap s k d w a p = by_gone s.gone refl where
  by_gone : (g : Bool) → s.gone ≡ g → Swapped s k d
  by_gone true g =
      let order = dialogue_events.Writes k in
      let x = silent_swap s k p in
      let same : next s d ≡ next s dialogue_events.Nothing = ap (heard s) (ap (event_unless_gone d) g ∙ deaf d a) in
      let same' : next (next s order) d ≡ next (next s order) dialogue_events.Nothing = ap (heard (next s order)) (ap (event_unless_gone d) g ∙ deaf d a) in
      record {
        passes = subst (λ (y : Small). Passes y order) (sym same) x.passes;
        agrees = subst (λ (y : Small). Agree y (next (next s d) order)) (sym same') (subst (λ (y : Small). Agree (next (next s order) dialogue_events.Nothing) (next y order)) (sym same) x.agrees);
      }
  by_gone false g =
      let order = dialogue_events.Writes k in
      let same : next s d ≡ heard s d = ap (heard s) (ap (event_unless_gone d) g ∙ hears d) in
      let same' : next (next s order) d ≡ heard (next s order) d = ap (heard (next s order)) (ap (event_unless_gone d) g ∙ hears d) in
      record {
        passes = subst (λ (y : Small). Passes y order) (sym same) (answer_passes s k d w a p);
        agrees = subst (λ (y : Small). Agree y (next (next s d) order)) (sym same') (subst (λ (y : Small). Agree (heard (next s order) d) (next y order)) (sym same) (answer_agrees s k d w a));
      }

swapped : (s : Small) (k : OrderKind) (d : DialogueEvent) → MayCross k d → Passes s (dialogue_events.Writes k) → Swapped s k d
swapped s k dialogue_events.Boots c p = answer_swap s k dialogue_events.Boots c refl p
swapped s k dialogue_events.GetsReady c p = answer_swap s k dialogue_events.GetsReady c refl p
swapped s k (dialogue_events.Answers best) c p = answer_swap s k (dialogue_events.Answers best) c refl p
swapped s k dialogue_events.Ends c p = end_swap s k p
swapped s k dialogue_events.Nothing c p = silent_swap s k p
swapped s k d c p = absurd c

heard_passes : (s : Small) (k : OrderKind) (d : DialogueEvent) → MayCross k d → Passes s d
heard_passes s k (dialogue_events.Writes o) c = absurd c
heard_passes s k (dialogue_events.Shows m) c = absurd c
heard_passes s k d c = refl

-- LISTS OF MARKS

over_next : (s : Small) (d : DialogueEvent) → s.stage ≡ stages.Over → (next s d).stage ≡ stages.Over
over_next s d o = ap (λ (x : OrderStage). stage_after x (event_unless_gone d s.gone)) o

never_over : (s : Small) (k : OrderKind) → s.stage ≡ stages.Over → Passes s (dialogue_events.Writes k) → ⊥
never_over s k o p =
    let taken = taken_as s.engine listeners.Tap s.unanswered in
    let x = all_false (breaks_first s.stage k) (breaks_quit s.stage) (breaks_order s.stage k) (breaks_busy s.engine k) (breaks_stop taken k) (breaks_hit taken k) (breaks_position k) (sym (verdict_is s k) ∙ p) in
    let y = ap breaks_quit o in
    let z = x.quit in
    both_ways (breaks_quit s.stage) z y

over_passes : (s s' : Small) (d : DialogueEvent) → s.stage ≡ stages.Over → Passes s d → Passes s' d
over_passes s s' (dialogue_events.Writes k) o p = absurd (never_over s k o p)
over_passes s s' (dialogue_events.Shows m) o p = absurd (cc)
over_passes s s' d o p = refl

over_clean : (s s' : Small) (ms : List Mark) → s.stage ≡ stages.Over → s'.stage ≡ stages.Over → Clean s ms → Clean s' ms
unfolding Clean
over_clean s s' [] o o' c = tt
over_clean s s' (m ∷ ms) o o' c =
    let d = dialogue_event_of m in
    (over_passes s s' d o c.0, over_clean (next s d) (next s' d) ms (over_next s d o) (over_next s' d o') c.1)

agree_clean : (s s' : Small) (ms : List Mark) → Agree s s' → Clean s ms → Clean s' ms
agree_clean s s' ms (inl e) c = subst (λ (x : Small). Clean x ms) e c
agree_clean s s' ms (inr e) c = over_clean s s' ms e.0 e.1 c

swap_clean : (s : Small) (before behind : List Mark) (order : List ℕ) (k : OrderKind) (event : Event) → dialogue_event_of (ToEngine order) ≡ dialogue_events.Writes k → MayCross k (dialogue_event_of (Happens event))
    → Clean s (before ++ ToEngine order ∷ Happens event ∷ behind) → Clean s (before ++ Happens event ∷ ToEngine order ∷ behind)
unfolding Clean
swap_clean s (m ∷ before) behind order k event o x c = (c.0, swap_clean (next s (dialogue_event_of m)) before behind order k event o x c.1)
swap_clean s [] behind order k event o x c =
    let d = dialogue_event_of (Happens event) in
    let w = swapped s k d x (subst (Passes s) o c.0) in (
      heard_passes s k d x,
      (
        subst (Passes (next s d)) (sym o) w.passes,
        subst (λ (y : DialogueEvent). Clean (next (next s d) y) behind) (sym o)
            (agree_clean _ _ behind w.agrees (subst (λ (y : DialogueEvent). Clean (next (next s y) d) behind) o c.1.1)),
      ),
    )

sooner_clean : (marks heard : List Mark) (s : Small) → IsHeardSooner marks heard → Clean s marks → Clean s heard
sooner_clean marks heard s h c =
    subst (Clean s) (sym h.heard_are) (swap_clean s h.before h.behind h.order h.kind h.event h.is_order h.crosses (subst (Clean s) h.marks_are c))

heard_clean : (n : ℕ) (marks heard : List Mark) (s : Small) → HeardSooner n marks heard → Clean s marks → Clean s heard
heard_clean zero marks heard s h c = subst (Clean s) h c
heard_clean (suc n) marks heard s h c = heard_clean n h.0 heard s h.2 (sooner_clean marks h.0 s h.1 c)

pub taps_are_clean : (o : Settings) → TapsAreClean o
taps_are_clean o trace n marks log l h e =
    let t = opening_judgement listeners.Tap in
    let own = of_runs t (trace_marks trace) (λ u. u.crossings ≡ 0) refl (trace_runs o listeners.Tap trace l) in
    let then = to_runs t marks refl (heard_clean n (filter is_tapped (trace_marks trace)) marks (small_of t) h own) in
    (clean_runs listeners.Tap log (λ u. Unit {0}) (subst (λ (ms : List Mark). Runs t ms (λ u. Unit {0})) (sym e) then)).0
