-- From one life to the next.
use Rattle.std.proofs.Common.{◌≡◌, ◌∙◌, ℕ, suc, ◌<◌, ◌+◌, List, true, false, ◌&&◌, not, nat_lt, sym, ap, subst, arith}
use Rattle.std.proofs.lemmas.Bool.{ltb-true, and_parts}
use Rattle.line_io.specs.Event.{Event}
use Rattle.engine_revival.specs.declared.state.RevivalState.{RevivalState}
use Rattle.engine_revival.specs.Steps.{may_begin, is_alive}
use Rattle.engine_revival.specs.Script.{state_behind}
use Rattle.std.specs.VecDeque.{deque_capacity}
use Rattle.event_pipe.specs.Ends.{KeepsSender, KeepsReceiver}
use Rattle.reviver_runner.specs.Messages.{events_sent}
use Rattle.event_pipe.specs.Events.{has_last_event}
use Rattle.event_pipe.specs.declared.pipe.PipeTake.{PipeTake}
use Rattle.reviver_runner.specs.declared.looping.RevivalLoop.{RevivalLoop}
use Rattle.reviver_runner.specs.Looped.{KeepsLoop, KeepsMarks}
use Rattle.reviver_runner.proofs.HearSteps.{ready_still}
use Rattle.reviver_runner.specs.declared.message.LifeMessage.{LifeMessage}
use Rattle.reviver_runner.specs.declared.parts.ReviverParts.{ReviverParts}
use Rattle.reviver_runner.specs.Parts.{ReviverPartsAreReady, ReviverKeepsEnds}
use Rattle.reviver_runner.specs.Played.{events_for_revival}
use Rattle.reviver_runner.proofs.Stays.{events_stay}
use Rattle.reviver_runner.specs.declared.turns.NextLife.{NextLife}
use Rattle.reviver_runner.specs.declared.turns.NextLife.TheVariants as nexts
use Rattle.reviver_runner.specs.Lives.{LifeGoesOn, LifeFollows, Continues}

-- ONE MORE LIFE HAS ENDED

below : (s : RevivalState) → may_begin s ≡ true → s.begun < s.lives
below s may = ltb-true s.begun s.lives (and_parts (nat_lt s.begun s.lives) (not s.quit) (and_parts (nat_lt s.begun s.lives && not s.quit) (not s.full) may).0).0

goes_next : (n : ℕ) (s s' : RevivalState) → s.begun ≡ suc n → may_begin s ≡ true → s'.begun ≡ s.begun + 1 → s'.lives ≡ s.lives → is_alive s'.life ≡ true → LifeGoesOn s' (n + 1)
goes_next n s s' begun may more same alive =
    let less = below s may in
    record { alive = alive; begun = omega (arith, begun, more); few = omega (arith, begun, less, same) }

pub continues : {S K : Type 0} (n n' : ℕ) (s s' s'' : RevivalState) (es : List Event) (x : NextLife S K) → n' ≡ n + 1 → LifeGoesOn s n → s' ≡ state_behind s (events_for_revival es)
    → LifeFollows s' s'' x → Continues s'' n' x
continues n n' s s' s'' es (nexts.Life run) m g e h =
    let k = events_stay s es in
    let lives : s'.lives ≡ s.lives = ap (λ (y : RevivalState). y.lives) e ∙ k.lives in
    let begun : s'.begun ≡ s.begun = ap (λ (y : RevivalState). y.begun) e ∙ k.begun in
    subst (λ i. LifeGoesOn s'' i) (sym m) (goes_next n s' s'' (begun ∙ g.begun) h.0 h.1 h.2 h.3)
continues n n' s s' s'' es nexts.Over m g e h =
    let begun : s'.begun ≡ s.begun = ap (λ (y : RevivalState). y.begun) e ∙ (events_stay s es).begun in
    let first = g.begun in
    let same = h.1 in
    (omega (arith, same, begun, first, m), h.2)
continues n n' s s' s'' es (nexts.Refused fault) m g e h =
    let begun : s'.begun ≡ s.begun = ap (λ (y : RevivalState). y.begun) e ∙ (events_stay s es).begun in
    let first = g.begun in
    let same = h.1 in
    (omega (arith, same, begun, first, m), h.2)

-- the ends of the channel after a life and what follows of it
pub keeps_turn : {L P : Type 0} (old new : ReviverParts L P) (mid : RevivalLoop L) → ReviverPartsAreReady old → KeepsSender old.to new.to → has_last_event (events_sent new.to) ≡ false → KeepsLoop old.looping mid → new.looping.from ≡ mid.from
    → KeepsMarks mid.marks new.looping.marks → deque_capacity new.processes ≡ deque_capacity old.processes → ReviverKeepsEnds old new
keeps_turn old new mid ready sender going keeps from marks room =
    let looping : KeepsLoop old.looping new.looping = record {
      receiving_end = subst (λ (t : PipeTake LifeMessage). KeepsReceiver old.looping.from t) (sym from) keeps.receiving_end;
      marks = record { room = marks.room ∙ keeps.marks.room; log = marks.log ∙ keeps.marks.log };
    } in
    record {
      ready = record { looping = ready_still old.looping new.looping ready.looping looping; sender = sender.0; engine = sender.1 ∙ ready.engine; going = going };
      sender = sender;
      looping = looping;
      processes = room;
    }
