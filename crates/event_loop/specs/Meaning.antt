-- The meaning of a mediator's turns.
use Rattle.std.specs.Prelude.{◌≡◌, ℕ, List, [], ◌∷◌, Bool, true, false}
use Rattle.line_io.specs.Event.{Event, Open}
use Rattle.line_io.specs.Out.{Text, with}
use Rattle.event_pipe.specs.declared.message.Peer.{Peer}
use Rattle.event_pipe.specs.declared.message.Peer.TheVariants as peers
use Rattle.event_pipe.specs.Events.{EventMayFollow}
use Rattle.event_loop.specs.Turns.{Turn, new_turn, events_of_turns, loss, turns_have_loss, TurnGave}

-- The behaviour of a mediator.
pub record MediatorMeaning (M : Type 0) : Type 1 where
  -- it has not begun
  pub fresh : M → Type 0
  -- from what it was when it was fresh, it did these turns, and is now so
  pub did : M → List Turn → M → Type 0
  -- the lines that it gave to a peer in its last turn
  pub gave : M → Peer → List ℕ
  -- the event may come now
  pub may : M → Event → Bool
  -- of the events of a peer it takes such a one; others are passed over
  pub reported : Event → Bool
  -- it takes the loss of a peer
  pub hears_loss : Bool

-- the turn in which it took an event and became so, if this was put for the log
abbrev pub turn_of_mediator : {M : Type 0} → MediatorMeaning M → Event → M → List ℕ → Turn
turn_of_mediator means e m piece = new_turn e (means.gave m peers.Iface) (means.gave m peers.Engine) piece

-- It began: its first turn is that of Open.
pub record Opens {M : Type 0} (means : MediatorMeaning M) (m : M) (held : Text) (m' : M)
    (held' : Text) : Type 0 where
  pub piece : List ℕ
  pub put : held' ≡ with held piece
  pub did : means.did m (turn_of_mediator means Open m' piece ∷ []) m'

-- Whatever turns it did, it did one more, of this event.
pub record MediatorSteps {M : Type 0} (means : MediatorMeaning M) (e : Event) (m : M) (held : Text) (m' : M)
    (held' : Text) : Type 0 where
  pub piece : List ℕ
  pub put : held' ≡ with held piece
  pub goes : (m0 : M) (turns : List Turn) → means.did m0 turns m
      → means.did m0 (turn_of_mediator means e m' piece ∷ turns) m'

-- Whatever turns it did, this is when an event may come.
pub record Allows {M : Type 0} (means : MediatorMeaning M) (m : M) (e : Event) : Type 0 where
  -- an event of a peer that has not ended may come if it takes such events at all
  pub follows : (m0 : M) (turns : List Turn) → means.did m0 turns m
      → EventMayFollow (events_of_turns turns) e → means.may m e ≡ means.reported e
  -- the loss of a peer may come if something was given to it,
  pub owed : (p : Peer) (m0 : M) (turns : List Turn) → means.did m0 turns m → e ≡ loss p
      → means.hears_loss ≡ true → TurnGave p turns → turns_have_loss p turns ≡ false → means.may m e ≡ true
  -- once
  pub once : (p : Peer) (m0 : M) (turns : List Turn) → means.did m0 turns m → e ≡ loss p
      → means.may m e ≡ true → turns_have_loss p turns ≡ false
