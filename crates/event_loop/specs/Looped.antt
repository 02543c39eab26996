-- The result of the loop.
use Rattle.std.specs.Prelude.{◌≡◌, ◌≢◌, ◌⊎◌, ℕ, List, [], ◌∷◌, ◌++◌, Bool, true, Option, filter}
use Rattle.std.specs.Io.KnownBytes.{Appends}
use Rattle.line_io.specs.Event.{Event, Open}
use Rattle.line_io.specs.Source.{Received}
use Rattle.event_pipe.specs.declared.message.Peer.{Peer}
use Rattle.event_pipe.specs.declared.message.Peer.TheVariants as peers
use Rattle.event_pipe.specs.Events.{sent_by, has_last_event}
use Rattle.program_lifecycle.specs.declared.offering.LoopEnd.{LoopEnd}
use Rattle.program_lifecycle.specs.Streams.{Sinks}
use Rattle.program_lifecycle.specs.Took.{LogTook}
use Rattle.event_loop.specs.Turns.{Turn, given, log_of_turn, turn_texts}
use Rattle.event_loop.specs.Turns.{events_of_turns, loss, turns_have_loss, stands_between}
use Rattle.event_loop.specs.Meaning.{MediatorMeaning}

-- a sink took the texts of all earlier turns, and failed within that of this one
pub record FailsAt (p : Peer) (t : Turn) (earlier : List Turn)
    (old new : Option (List ℕ)) : Type 0 where
  pub prefix : List ℕ
  pub rest : List ℕ
  pub is : given p t ≡ prefix ++ rest
  pub some : given p t ≢ []
  pub took : Appends old new (turn_texts (given p) earlier ++ prefix)

-- the sink failed at the newest turn, or before the other peer's loss
abbrev pub Fails : Peer → List Turn → Option (List ℕ) → Option (List ℕ) → Type 0
Fails p [] old new = ⊥
Fails p (t ∷ ts) old new =
    FailsAt p t ts old new ⊎ ((stands_between p t.event ≡ true) × Fails p ts old new)

-- the peer's loss stands after the turn at which its sink failed
pub record LostBehind (p : Peer) (turns : List Turn) (old new : Option (List ℕ)) : Type 0 where
  pub later : List Turn
  pub lost : Turn
  pub earlier : List Turn
  pub is : turns ≡ later ++ lost ∷ earlier
  pub event : lost.event ≡ loss p
  pub fails : Fails p earlier old new

-- The bytes that the sink of a peer took.
pub record SideTook (hears : Bool) (p : Peer) (turns : List Turn) (failed : Bool)
    (old new : Received) : Type 0 where
  -- all that was given to the peer, or a prefix if it failed
  pub took : LogTook (turn_texts (given p) turns) failed old new
  -- if the mediator is not told that it failed, nothing else tells it so
  pub only : turns_have_loss p turns ≡ true → failed ≡ true
  -- a mediator that hears of losses is told of each at once
  pub lost : hears ≡ true → failed ≡ true → LostBehind p turns old.taken new.taken

-- its first turn is that of Open
pub record BeginsWithOpen (turns : List Turn) : Type 0 where
  pub later : List Turn
  pub first : Turn
  pub is : turns ≡ later ++ first ∷ []
  pub event : first.event ≡ Open

-- The loop is over: the mediator did these turns, and both peers have ended.
pub record Looped {M : Type 0} (means : MediatorMeaning M) (m0 m : M) (events : List Event)
    (before after : Sinks) (end : LoopEnd) : Type 0 where
  pub turns : List Turn
  pub did : means.did m0 turns m
  pub begins : BeginsWithOpen turns
  -- each event that came was taken once, in order, if the mediator takes such events
  pub received_is : events_of_turns turns ≡ filter means.reported events
  pub iface_ended : has_last_event (sent_by peers.Iface events) ≡ true
  pub engine_ended : has_last_event (sent_by peers.Engine events) ≡ true
  pub iface : SideTook means.hears_loss peers.Iface turns end.output before.output after.output
  pub engine : SideTook means.hears_loss peers.Engine turns end.engine before.engine after.engine
  pub log : LogTook (turn_texts log_of_turn turns) end.log before.log after.log
