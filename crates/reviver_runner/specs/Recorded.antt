-- The record of a run of all lives in the ledger of a host that reports its bytes.
use Rattle.std.specs.Prelude.{◌≡◌, ℕ, ◌<◌, ◌≤◌, true, false, List, [], ◌∷◌, ◌++◌, map, length, Some}
use Rattle.std.specs.List.{AllByRecursion, flat_map}
use Rattle.std.specs.Io.KnownBytes.{Appends}
use Rattle.line_io.specs.Event.{Event}
use Rattle.line_io.specs.Lines.{items}
use Rattle.event_pipe.specs.declared.message.Peer.TheVariants as peers
use Rattle.event_pipe.specs.declared.reader.ReadEnd.TheVariants as read_ends
use Rattle.event_pipe.specs.Arrivals.{Arrived, line_limit}
use Rattle.event_pipe.specs.Events.{sent_by}
use Rattle.child_engine.specs.Hosts.{ShownRun, Ledger}
use Rattle.engine_revival.specs.Script.{AllMayHappen, state_behind, revival_script}
use Rattle.engine_revival.specs.Steps.{opening_revival}
use Rattle.engine_revival.specs.Talk.{IsAlwaysLawful}
use Rattle.program_lifecycle.specs.declared.failures.Failures.{Failures}
use Rattle.program_lifecycle.specs.Outside.{Outside}
use Rattle.program_lifecycle.specs.Reporting.{LogHasPrefix}
use Rattle.reviver_runner.specs.Messages.{life_end}
use Rattle.reviver_runner.specs.Played.{revival_lines_up, as_long, reported_of, has_refusal}
use Rattle.reviver_runner.specs.Reading.{line_events}
use Rattle.reviver_runner.specs.Lives.{Life, to_none, to_lives}

-- the report at its end of a life that gave all of these bytes, and took this text
abbrev pub gave_all : List ℕ → List ℕ → ShownRun
gave_all bytes text = record { given = Some bytes; left = Some []; taken = Some text }

-- the lines of a life that gave all of these bytes, and the mark of its end
abbrev pub all_lines : List ℕ → List Event
all_lines bytes = line_events (items line_limit bytes) ++ life_end ∷ []

-- A life gave a prefix of these bytes.
pub record GavePrefix (bytes : List ℕ) (life : Life) : Type 0 where
  pub got : List ℕ
  pub rest : List ℕ
  pub is : bytes ≡ got ++ rest
  pub given : life.read.given ≡ Some got
  pub left : life.read.left ≡ Some rest

-- A life gave all of these bytes, and its lines are theirs.
pub record GaveAll (bytes : List ℕ) (life : Life) : Type 0 where
  pub given : life.read.given ≡ Some bytes
  pub left : life.read.left ≡ Some []
  pub lines : life.lines ≡ line_events (items line_limit bytes)

-- The ledger's record of a run of these lives that heard these events, if the host reports its bytes.
pub record ReviverRecorded (number : ℕ) (lives : List Life) (events : List Event) (before after : Ledger)
    (failures : Failures) : Type 0 where
  -- the log's bytes are the script of the events
  pub log : before.sinks_report ≡ true → after.logs_out ≡ 1 → failures.log ≡ false
      → after.logs ≡ Some (revival_script number events) ∷ []
  -- and a prefix of it, if the log failed
  pub prefix : before.sinks_report ≡ true → after.logs_out ≡ 1
      → LogHasPrefix (revival_script number events) after
  -- each life took its text
  pub texts : before.sinks_report ≡ true → failures.engine_write ≡ false
      → map (λ run. run.taken) after.runs ≡ map (λ life. Some life.text) lives
  -- each life gave a prefix of what the engine says, and all of it if no reading failed
  pub gave : (bytes : List ℕ) → before.says ≡ Some bytes → AllByRecursion (GavePrefix bytes) lives
  pub all : (bytes : List ℕ) → before.says ≡ Some bytes → failures.engine_read ≡ false
      → failures.memory ≡ false → AllByRecursion (GaveAll bytes) lives

-- A run in which nothing failed, over a host that reports its bytes, each of whose engines says
-- these: one list of events, which might come, was heard of so many lives at most.
pub record ReviverRunIsWhole (number : ℕ) (bytes : List ℕ) (before after : Outside) : Type 0 where
  pub events : List Event
  pub may : AllMayHappen (opening_revival number) events
  -- the talk that they bring about is lawful up to each of them
  pub lawful : IsAlwaysLawful number events
  pub unrefused : has_refusal events ≡ false
  -- the log's bytes are their script
  pub log : after.ledger.logs ≡ Some (revival_script number events) ∷ []
  -- the orders are what came of the interface, to its end, without long lines
  pub arrived : List Event
  pub iface : Arrived peers.Iface before.input after.input arrived read_ends.Done
  pub orders : sent_by peers.Iface events ≡ reported_of arrived
  -- the text to each life; and each life gave all that an engine says, and took that
  pub texts : List (List ℕ)
  -- as many lives were run as these events begin: one at least, and so many at most
  pub begun : (state_behind (opening_revival number) events).begun ≡ length texts
  pub some : 0 < length texts
  pub few : length texts ≤ number
  pub texts_are : to_lives to_none (opening_revival number) events ≡ record { ended = texts; present = [] }
  pub runs : after.ledger.runs ≡ map (gave_all bytes) texts
  -- the engine's events are the lines of all lives
  pub marks : map as_long (sent_by peers.Engine events) ≡ flat_map (λ _. all_lines bytes) texts
  pub output : Appends before.output.taken after.output.taken (revival_lines_up (opening_revival number) events)
