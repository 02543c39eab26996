-- The record of a run of the tap in the ledger of a host that reports its bytes.
use Rattle.std.specs.Prelude.{◌≡◌, ℕ, true, false, List, [], ◌∷◌, ◌++◌, Some, IfSome}
use Rattle.std.specs.Io.KnownBytes.{Appends, IsAtEnd}
use Rattle.line_io.specs.Lines.{SourceGave}
use Rattle.event_pipe.specs.declared.message.Peer.TheVariants as peers
use Rattle.tap_runner.specs.declared.message.TapMessage.{TapMessage}
use Rattle.tap_runner.specs.Messages.{marks_of}
use Rattle.child_engine.specs.Hosts.{ShownRun, Ledger}
use Rattle.program_lifecycle.specs.declared.failures.Failures.{Failures}
use Rattle.program_lifecycle.specs.Outside.{Outside}
use Rattle.program_lifecycle.specs.Reporting.{LogHasPrefix}
use Rattle.tap_runner.specs.Marks.{log_text, channel_marks}

-- The engine says these bytes. Those that were read are a prefix of them, and all if
-- nothing failed on their way.
pub record SaidPrefix (bytes got : List ℕ) (run : ShownRun) (failures : Failures) : Type 0 where
  pub rest : List ℕ
  pub is : bytes ≡ got ++ rest
  pub given : run.given ≡ Some got
  pub left : run.left ≡ Some rest
  pub all : failures.engine_read ≡ false → failures.iface_write ≡ false → rest ≡ []

-- The ledger's record of a run that read these bytes of the bridge and of the engine, and in which
-- these messages went through the channel, if the host reports its bytes.
pub record TapRecorded (wrote said : List ℕ) (messages : List TapMessage) (before after : Ledger)
    (failures : Failures) : Type 0 where
  pub run : ShownRun
  pub only : after.runs ≡ run ∷ []
  -- the log's bytes are the marks of the messages
  pub log : before.sinks_report ≡ true → after.logs_out ≡ 1 → failures.log ≡ false
      → after.logs ≡ Some (log_text messages) ∷ []
  -- and a prefix of them, if the log failed
  pub prefix : before.sinks_report ≡ true → after.logs_out ≡ 1 → LogHasPrefix (log_text messages) after
  -- the engine took what was read of the bridge
  pub passed : before.sinks_report ≡ true → failures.engine_write ≡ false → run.taken ≡ Some wrote
  pub gave : (bytes : List ℕ) → before.says ≡ Some bytes → SaidPrefix bytes said run failures

-- A run in which nothing failed, over a host that reports its bytes, whose engine says these: each
-- side took the bytes of the other, and the log has the marks of both.
pub record TapRunIsWhole (bytes : List ℕ) (before after : Outside) : Type 0 where
  -- the bytes that the bridge wrote, to its end
  pub wrote : List ℕ
  pub reads : SourceGave before.input after.input wrote
  pub at_end : IfSome before.input.left (λ _. IsAtEnd after.input.left)
  -- the engine took it, and gave all that it says
  pub run :
      after.ledger.runs ≡ record { given = Some bytes; left = Some []; taken = Some wrote } ∷ []
  -- the bridge took all that the engine says
  pub output : Appends before.output.taken after.output.taken bytes
  -- the log's bytes are the marks of the lines of both, and of both ends, in one order
  pub messages : List TapMessage
  pub from_bridge : marks_of peers.Iface messages ≡ channel_marks peers.Iface wrote
  pub from_engine : marks_of peers.Engine messages ≡ channel_marks peers.Engine bytes
  pub log : after.ledger.logs ≡ Some (log_text messages) ∷ []
