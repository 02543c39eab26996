-- A log that is clean as a tap's is clean as the bridge's own, but for the orders that cross.
use Rattle.std.proofs.Common.{◌≡◌, ℕ, ◌+◌, suc, List, [], ◌∷◌, Bool, true, false, cond, ◌&&◌, ◌||◌, Option, Some, None, refl, sym, ap, subst, ◌∙◌, arith}
use Rattle.std.specs.Prelude.{◌↔◌, nat_lt}
use Rattle.std.proofs.lemmas.Bool.{both_ways}
use Rattle.session_judge.specs.declared.dialogue_event.OrderKind.{OrderKind}
use Rattle.session_judge.specs.declared.dialogue_event.OrderKind.TheVariants as orders
use Rattle.session_judge.specs.declared.dialogue_event.DialogueEvent.{DialogueEvent}
use Rattle.session_judge.specs.declared.dialogue_event.DialogueEvent.TheVariants as dialogue_events
use Rattle.session_judge.specs.declared.engine.EnginePhase.{EnginePhase}
use Rattle.session_judge.specs.declared.engine.EnginePhase.TheVariants as engines
use Rattle.session_judge.specs.declared.listener.Listener.{Listener}
use Rattle.session_judge.specs.declared.listener.Listener.TheVariants as listeners
use Rattle.session_judge.specs.declared.rule.Rule.{Rule}
use Rattle.session_judge.specs.declared.rule.Rule.TheVariants as rules
use Rattle.session_judge.specs.declared.talk.JudgedTalk.{JudgedTalk}
use Rattle.session_judge.specs.Clean.{Entry, IsClean, CrossingsAreTheDifference, broken_rule, crossings, talk}
use Rattle.session_judge.specs.Crossings.{crossings_after, is_crossing, is_to_search, next_search_number, taken, taken_as}
use Rattle.session_judge.specs.DialogueEvents.{dialogue_event_of}
use Rattle.session_judge.specs.Engines.{event_unless_gone, is_idle}
use Rattle.session_judge.specs.Rules.{broken, broken_by, breaks_busy, breaks_first, breaks_gone, breaks_hit, breaks_order, breaks_position, breaks_quit, breaks_stop}
use Rattle.session_judge.specs.Talks.{judgement_after, opening_judgement}

-- THE SAME TALK

-- as another heard it
abbrev pub heard_by : Listener → JudgedTalk → JudgedTalk
heard_by listener t = record t { listener = listener }

same_talk : (listener : Listener) (log : List Entry) → talk listener log ≡ heard_by listener (talk listeners.Bridge log)
same_talk listener [] = refl
same_talk listener (entry ∷ log) = ap (λ (t : JudgedTalk). judgement_after t entry.line (dialogue_event_of entry.mark)) (same_talk listener log)

-- THE RULES

-- the first rule whose test holds
abbrev first_of : Bool → Bool → Bool → Bool → Bool → Bool → Bool → Bool → Option Rule
first_of a b c d e f g h = cond a (Some rules.First) (cond b (Some rules.Gone) (cond c (Some rules.Quit) (cond d (Some rules.Order) (cond e (Some rules.Busy) (cond f (Some rules.Stop) (cond g (Some rules.Hit) (cond h (Some rules.Position) None)))))))

record NoneOf (b f g : Bool) : Type 0 where
  gone : b ≡ false
  stop : f ≡ false
  hit : g ≡ false

none_of : (a b c d e f g h : Bool) → first_of a b c d e f g h ≡ None → NoneOf b f g
none_of false false false false false false false h n = record { gone = refl; stop = refl; hit = refl }
none_of a b c d e f g h n = absurd (cc)

obeys : (t : JudgedTalk) (o : OrderKind) → broken_by t o ≡ None → NoneOf (breaks_gone t.gone t.listener) (breaks_stop (taken t) o) (breaks_hit (taken t) o)
obeys t o n = none_of (breaks_first t.stage o) (breaks_gone t.gone t.listener) (breaks_quit t.stage) (breaks_order t.stage o) (breaks_busy t.engine o) (breaks_stop (taken t) o) (breaks_hit (taken t) o) (breaks_position o) n

-- as the bridge's own an order that crosses breaks a rule
idle_crosses : (e : EnginePhase) (o : OrderKind) → breaks_stop e o ≡ false → breaks_hit e o ≡ false → (is_idle e && is_to_search o) ≡ false
idle_crosses engines.Idle orders.Stop s h = cc
idle_crosses engines.Idle orders.PonderHit s h = cc
idle_crosses engines.Idle o s h = refl
idle_crosses e o s h = refl

never_crosses : (gone : Bool) (e : EnginePhase) (o : OrderKind) → breaks_gone gone listeners.Bridge ≡ false → breaks_stop e o ≡ false → breaks_hit e o ≡ false → is_crossing gone e o ≡ false
never_crosses true e o n s h = cc
never_crosses false e o n s h = idle_crosses e o s h

taken_so : (e u : EnginePhase) → taken_as e listeners.Bridge u ≡ e
taken_so engines.Idle u = refl
taken_so e u = refl

own_never_crosses : (t : JudgedTalk) (o : OrderKind) → broken_by (heard_by listeners.Bridge t) o ≡ None → is_crossing t.gone t.engine o ≡ false
own_never_crosses t o n =
    let w = obeys (heard_by listeners.Bridge t) o n in
    let own = taken_so t.engine t.unanswered in
    never_crosses t.gone t.engine o w.gone (ap (λ (e : EnginePhase). breaks_stop e o) (sym own) ∙ w.stop) (ap (λ (e : EnginePhase). breaks_hit e o) (sym own) ∙ w.hit)

-- an order that does not cross is judged alike
record Apart (gone : Bool) (e : EnginePhase) (o : OrderKind) : Type 0 where
  there : gone ≡ false
  apart : (is_idle e && is_to_search o) ≡ false

is_apart : (gone : Bool) (e : EnginePhase) (o : OrderKind) → is_crossing gone e o ≡ false → Apart gone e o
is_apart true e o n = absurd (cc)
is_apart false e o n = record { there = refl; apart = n }

alike_stop : (e u : EnginePhase) (o : OrderKind) → (is_idle e && is_to_search o) ≡ false → breaks_stop (taken_as e listeners.Bridge u) o ≡ breaks_stop (taken_as e listeners.Tap u) o
alike_stop engines.Idle u orders.Stop n = cc
alike_stop engines.Idle u o n = refl
alike_stop e u o n = refl

alike_hit : (e u : EnginePhase) (o : OrderKind) → (is_idle e && is_to_search o) ≡ false → breaks_hit (taken_as e listeners.Bridge u) o ≡ breaks_hit (taken_as e listeners.Tap u) o
alike_hit engines.Idle u orders.PonderHit n = cc
alike_hit engines.Idle u o n = refl
alike_hit e u o n = refl

alike_gone : (gone : Bool) → gone ≡ false → breaks_gone gone listeners.Bridge ≡ breaks_gone gone listeners.Tap
alike_gone true e = cc
alike_gone false e = refl

first_same : (a b c d e f g h b' f' g' : Bool) → b ≡ b' → f ≡ f' → g ≡ g' → first_of a b c d e f g h ≡ first_of a b' c d e f' g' h
first_same a b c d e f g h b' f' g' x y z =
    ap (λ i. first_of a i c d e f g h) x ∙ ap (λ i. first_of a b' c d e i g h) y ∙ ap (λ i. first_of a b' c d e f' i h) z

alike : (t : JudgedTalk) (o : OrderKind) → is_crossing t.gone t.engine o ≡ false → broken_by (heard_by listeners.Bridge t) o ≡ broken_by (heard_by listeners.Tap t) o
alike t o n =
    let w = is_apart t.gone t.engine o n in
    first_same (breaks_first t.stage o) _ (breaks_quit t.stage) (breaks_order t.stage o) (breaks_busy t.engine o) _ _ (breaks_position o) _ _ _
    (alike_gone t.gone w.there) (alike_stop t.engine t.unanswered o w.apart) (alike_hit t.engine t.unanswered o w.apart)

-- THE COUNT

abbrev is_written : DialogueEvent → Bool
is_written (dialogue_events.Writes o) = true
is_written d = false

not_counted : (n : ℕ) (gone : Bool) (e : EnginePhase) (d : DialogueEvent) (g : Bool) → is_written d ≡ false → crossings_after n gone e (event_unless_gone d g) ≡ n
not_counted n gone e (dialogue_events.Writes o) g w = cc
not_counted n gone e d true w = refl
not_counted n gone e d false w = refl

some : (n : ℕ) → next_search_number n ≡ 0 → ⊥
some n e = by (nat_lt n 18446744073709551615) e where
  by : (b : Bool) → cond b (n + 1) 18446744073709551615 ≡ 0 → ⊥
  by true z = omega (arith, z)
  by false z = omega (arith, z)

-- ONE MARK

-- what is lawful as the bridge's own is lawful as another's
passes_so : (listener : Listener) (t : JudgedTalk) (o : OrderKind) → is_crossing t.gone t.engine o ≡ false → broken_by (heard_by listeners.Bridge t) o ≡ None → broken_by (heard_by listener t) o ≡ None
passes_so listeners.Bridge t o c n = n
passes_so listeners.Tap t o c n = sym (alike t o c) ∙ n

pub own_passes : (listener : Listener) (t : JudgedTalk) (d : DialogueEvent) → broken (heard_by listeners.Bridge t) d ≡ None → broken (heard_by listener t) d ≡ None
own_passes listener t (dialogue_events.Writes o) n = passes_so listener t o (own_never_crosses t o n) n
own_passes listener t d n = n

-- and does not cross
pub own_apart : (t : JudgedTalk) (line : ℕ) (d : DialogueEvent) → broken (heard_by listeners.Bridge t) d ≡ None → (judgement_after t line d).crossings ≡ t.crossings
own_apart t line (dialogue_events.Writes o) n = ap (λ b. cond b (next_search_number t.crossings) t.crossings) (own_never_crosses t o n)
own_apart t line d n = not_counted t.crossings t.gone t.engine d t.gone refl

tap_dialogue_event : (t : JudgedTalk) (line : ℕ) (d : DialogueEvent) → broken (heard_by listeners.Tap t) d ≡ None → (judgement_after t line d).crossings ≡ 0 → (broken (heard_by listeners.Bridge t) d ≡ None) × (t.crossings ≡ 0)
tap_dialogue_event t line (dialogue_events.Writes o) n z = by (is_crossing t.gone t.engine o) refl where
  by : (b : Bool) → is_crossing t.gone t.engine o ≡ b → (broken_by (heard_by listeners.Bridge t) o ≡ None) × (t.crossings ≡ 0)
  by true c = absurd (some t.crossings (sym (ap (λ b. cond b (next_search_number t.crossings) t.crossings) c) ∙ z))
  by false c = (alike t o c ∙ n, sym (ap (λ b. cond b (next_search_number t.crossings) t.crossings) c) ∙ z)
tap_dialogue_event t line d n z = (n, sym (not_counted t.crossings t.gone t.engine d t.gone refl) ∙ z)

-- WHOLE LOGS

abbrev own : List Entry → JudgedTalk
own log = talk listeners.Bridge log

forth : (log : List Entry) → IsClean listeners.Bridge log → IsClean listeners.Tap log × (crossings log ≡ 0)
forth [] c = (tt, refl)
forth (entry ∷ log) c =
    let d = dialogue_event_of entry.mark in
    let before = forth log c.0 in
    let n = ap (λ (t : JudgedTalk). broken t d) (sym (same_talk listeners.Bridge log)) ∙ c.1 in (
      (before.0, ap (λ (t : JudgedTalk). broken t d) (same_talk listeners.Tap log) ∙ own_passes listeners.Tap (own log) d n),
      ap (λ (t : JudgedTalk). (judgement_after t entry.line d).crossings) (same_talk listeners.Tap log) ∙ own_apart (own log) entry.line d n ∙ ap (λ (t : JudgedTalk). t.crossings) (sym (same_talk listeners.Tap log)) ∙ before.1,
    )

back : (log : List Entry) → IsClean listeners.Tap log → crossings log ≡ 0 → IsClean listeners.Bridge log
back [] c z = tt
back (entry ∷ log) c z =
    let d = dialogue_event_of entry.mark in
    let w = tap_dialogue_event (own log) entry.line d (ap (λ (t : JudgedTalk). broken t d) (sym (same_talk listeners.Tap log)) ∙ c.1)
    (ap (λ (t : JudgedTalk). (judgement_after t entry.line d).crossings) (sym (same_talk listeners.Tap log)) ∙ z) in (
      back log c.0 (ap (λ (t : JudgedTalk). t.crossings) (same_talk listeners.Tap log) ∙ w.1),
      ap (λ (t : JudgedTalk). broken t d) (same_talk listeners.Bridge log) ∙ w.0,
    )

pub differences : CrossingsAreTheDifference
differences log = (forth log, λ c. back log c.0 c.1)
