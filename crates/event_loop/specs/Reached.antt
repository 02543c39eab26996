-- The progress of the loop.
use Rattle.std.specs.Prelude.{◌≡◌, ◌≢◌, ◌⊎◌, ℕ, List, [], ◌∷◌, ◌++◌}
use Rattle.std.specs.Prelude.{Bool, true, false, ◌||◌, filter}
use Rattle.line_io.specs.Event.{Event, Iface, IfaceEnd, EngineEnd}
use Rattle.line_io.specs.Source.{Received}
use Rattle.protocol_tokens.specs.Quit.{is_quit}
use Rattle.event_pipe.specs.declared.message.Peer.{Peer}
use Rattle.event_pipe.specs.declared.message.Peer.TheVariants as peers
use Rattle.event_pipe.specs.Events.{sent_by, has_last_event}
use Rattle.program_lifecycle.specs.declared.offering.LoopEnd.{LoopEnd}
use Rattle.program_lifecycle.specs.Streams.{Sinks, Offered}
use Rattle.program_lifecycle.specs.Took.{LogTook}
use Rattle.event_loop.specs.declared.looping.Sides.{Sides}
use Rattle.event_loop.specs.Turns.{Turn, given, log_of_turn, turn_texts, events_of_turns, turns_have_loss}
use Rattle.event_loop.specs.Meaning.{MediatorMeaning, turn_of_mediator}
use Rattle.event_loop.specs.First.{first_events}
use Rattle.event_loop.specs.Looped.{Fails, LostBehind, BeginsWithOpen}

-- the bytes that the sinks took when a turn's texts were offered to them
pub record AllOffered (to_iface to_engine to_log : List ℕ) (before after : Sinks)
    (from to : LoopEnd) : Type 0 where
  pub output : Offered from.output to.output before.output after.output to_iface
  pub engine : Offered from.engine to.engine before.engine after.engine to_engine
  pub log : Offered from.log to.log before.log after.log to_log

-- Whatever turns it did, it did one more, whose texts were offered to the sinks.
pub record Stepped {M : Type 0} (means : MediatorMeaning M) (e : Event) (m m' : M) (before after : Sinks)
    (from to : LoopEnd) : Type 0 where
  pub piece : List ℕ
  pub goes : (m0 : M) (turns : List Turn) → means.did m0 turns m
      → means.did m0 (turn_of_mediator means e m' piece ∷ turns) m'
  pub offered :
      AllOffered (means.gave m' peers.Iface) (means.gave m' peers.Engine) piece before after from to

-- a received event was not taken, and nothing changed
pub record PassedOver {M : Type 0} (means : MediatorMeaning M) (e : Event) (m m' : M) (before after : Sinks)
    (from to : LoopEnd) : Type 0 where
  pub not : means.may m e ≡ false
  pub same : m' ≡ m
  pub sinks : after ≡ before
  pub at : to ≡ from

-- a received event was taken, or passed over
abbrev pub Receives : {M : Type 0} → MediatorMeaning M → Event → M → M → Sinks → Sinks → LoopEnd → LoopEnd
    → Type 0
Receives means e m m' before after from to =
    ((means.may m e ≡ true) × Stepped means e m m' before after from to)
    ⊎ PassedOver means e m m' before after from to

-- which sides have ended, after this event
abbrev pub sides_ended_by : Sides → Event → Sides
sides_ended_by s (Iface line) = record { iface = s.iface || is_quit line; engine = s.engine }
sides_ended_by s IfaceEnd = record { iface = true; engine = s.engine }
sides_ended_by s EngineEnd = record { iface = s.iface; engine = true }
sides_ended_by s event = s

-- The bytes that the sink of a peer took so far, and whether the mediator was told that it failed.
pub record SideSoFar (hears : Bool) (p : Peer) (turns : List Turn) (failed reported : Bool)
    (old new : Received) : Type 0 where
  pub took : LogTook (turn_texts (given p) turns) failed old new
  pub only : reported ≡ true → failed ≡ true
  pub owes : hears ≡ true → failed ≡ true → reported ≡ false → Fails p turns old.taken new.taken
  pub lost : hears ≡ true → failed ≡ true → reported ≡ true → LostBehind p turns old.taken new.taken

-- The mediator did these turns.
pub record MediatorReached {M : Type 0} (means : MediatorMeaning M) (m0 m : M) (events : List Event) (sides : Sides)
    (before after : Sinks) (at : LoopEnd) : Type 0 where
  pub turns : List Turn
  pub did : means.did m0 turns m
  pub begins : BeginsWithOpen turns
  pub received_is : events_of_turns turns ≡ filter means.reported events
  pub iface_ended : sides.iface ≡ has_last_event (sent_by peers.Iface events)
  pub engine_ended : sides.engine ≡ has_last_event (sent_by peers.Engine events)
  pub iface : SideSoFar means.hears_loss peers.Iface turns at.output (turns_have_loss peers.Iface turns)
      before.output after.output
  pub engine : SideSoFar means.hears_loss peers.Engine turns at.engine (turns_have_loss peers.Engine turns)
      before.engine after.engine
  pub log : LogTook (turn_texts log_of_turn turns) at.log before.log after.log

-- The same, if of the first lines these are left, and this was taken from the channel.
pub record Opened {M : Type 0} (means : MediatorMeaning M) (m0 m : M) (first rest : List ℕ)
    (taken : List Event) (sides : Sides) (before after : Sinks) (at : LoopEnd) : Type 0 where
  pub events : List Event
  pub reached : MediatorReached means m0 m events sides before after at
  pub are : events ++ first_events rest ≡ first_events first ++ taken
  -- nothing is taken before the first lines
  pub none : rest ≢ [] → taken ≡ []
