-- The requests to a living engine, and that its answer is passed up.
use Rattle.std.proofs.Common.{◌≡◌, ◌⊎◌, inl, inr, [], ◌∷◌, Bool, true, false, nat_lt, refl, sym, ap, ◌∙◌, subst, true≢false}
use Rattle.engine_revival.specs.declared.words.DialogueState.{DialogueState}
use Rattle.engine_revival.specs.declared.words.DialogueState.TheVariants as upper
use Rattle.engine_revival.specs.declared.words.LifeState.{LifeState}
use Rattle.engine_revival.specs.declared.words.LifeState.TheVariants as life
use Rattle.engine_revival.specs.declared.words.LifeSaid.{LifeSaid}
use Rattle.engine_revival.specs.declared.words.LifeSaid.TheVariants as said
use Rattle.engine_revival.specs.Dialogue.{said_in}
use Rattle.engine_revival.specs.Steps.{is_alive, is_given}
use Rattle.engine_revival.specs.Laws.{AwaitedIsGiven, LivesAreAsked, Open, Closed, Gone, LifeWire, is_answer_awaited, is_idle_life, is_state_search, revival_state_of, wire_of}
use Rattle.engine_revival.proofs.Standing.{Stands}
use Rattle.engine_revival.proofs.Agrees.{agrees, no_idle}

-- WHAT IT ANSWERS

-- no line of these is awaited
unawaited : (w w' : LifeWire) (word : LifeSaid) → w ≡ w' → is_answer_awaited w' word ≡ false → is_answer_awaited w word ≡ true → ⊥
unawaited w w' word e n h = true≢false (sym h ∙ ap (λ (x : LifeWire). is_answer_awaited x word) e ∙ n)

search_answers : (word : LifeSaid) (u : DialogueState) (is_owed : Bool) → is_state_search u ≡ true → is_answer_awaited (Open u) word ≡ true → is_given word life.Search u is_owed ≡ true
search_answers word upper.Before is_owed e h = absurd (true≢false (sym e))
search_answers word upper.Boot is_owed e h = absurd (true≢false (sym e))
search_answers word upper.Idle is_owed e h = absurd (true≢false (sym e))
search_answers word upper.Placed is_owed e h = absurd (true≢false (sym e))
search_answers said.Report (upper.Search k b) is_owed e h = refl
search_answers said.Best (upper.Search k b) is_owed e h = refl
search_answers word (upper.Search k b) is_owed e h = absurd (true≢false (sym h))

on_wire : (w w' : LifeWire) (word : LifeSaid) → w ≡ w' → is_answer_awaited w word ≡ true → is_answer_awaited w' word ≡ true
on_wire w w' word e h = subst (λ (x : LifeWire). is_answer_awaited x word ≡ true) e h

answers_given : (l : LifeState) (q : Bool) (u : DialogueState) (w : LifeWire) (word : LifeSaid) (is_owed : Bool) → Stands l q u w → is_answer_awaited w word ≡ true → is_given word l u is_owed ≡ true
answers_given life.Fresh q u w word is_owed s h = absurd (unawaited w (Open upper.Before) word s.wire_is refl h)
answers_given life.Boot true u w word is_owed s h = absurd (unawaited w Closed word s.wire_is refl h)
answers_given life.Boot false u w word is_owed s h = absurd (unawaited w (Open upper.Boot) word s.wire_is refl h)
answers_given life.Idle true u w word is_owed s h = absurd (unawaited w Closed word s.wire_is refl h)
answers_given life.Idle false u w word is_owed s h = absurd (unawaited w (Open upper.Idle) word s.wire_is refl h)
answers_given life.Search true u w word is_owed s h = absurd (unawaited w Closed word s.wire_is refl h)
answers_given life.Search false u w word is_owed s h = search_answers word u is_owed s.upper_is (on_wire w (Open u) word s.wire_is h)
answers_given life.Ended q u w word is_owed s h = absurd (unawaited w Gone word s.wire_is refl h)
answers_given life.Over q u w word is_owed s h = absurd (unawaited w Gone word s.wire_is refl h)

pub awaited_is_given : AwaitedIsGiven
awaited_is_given lives calls line m h =
    let s = revival_state_of lives calls in
    answers_given s.life s.quit s.upper (wire_of lives calls) (said_in line) (nat_lt 0 s.asked_ready) (agrees lives calls m).stands h

-- WHAT IT WAS ASKED FOR

asked_by : (l : LifeState) (q : Bool) (u : DialogueState) (w : LifeWire) → q ≡ false → is_alive l ≡ true → is_state_search u ≡ true → (is_idle_life l ≡ true → is_state_search u ≡ false) → Stands l q u w → (w ≡ Open upper.Boot) ⊎ (w ≡ Open u)
asked_by l true u w e a h i s = absurd (true≢false e)
asked_by life.Fresh false u w e a h i s = absurd (true≢false (sym h ∙ ap is_state_search s.upper_is))
asked_by life.Boot false u w e a h i s = inl s.wire_is
asked_by life.Idle false u w e a h i s = absurd (true≢false (sym h ∙ i refl))
asked_by life.Search false u w e a h i s = inr s.wire_is
asked_by life.Ended false u w e a h i s = absurd (true≢false (sym a))
asked_by life.Over false u w e a h i s = absurd (true≢false (sym a))

pub lives_are_asked : LivesAreAsked
lives_are_asked lives [] m q a h = absurd (true≢false (sym h))
lives_are_asked lives (call ∷ calls) m q a h =
    let s = revival_state_of lives (call ∷ calls) in
    asked_by s.life s.quit s.upper (wire_of lives (call ∷ calls)) q a h (no_idle (revival_state_of lives calls) call q) (agrees lives (call ∷ calls) m).stands
