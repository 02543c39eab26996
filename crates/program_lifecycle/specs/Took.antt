-- The part of a text that a log took.
use Rattle.std.specs.Prelude.{◌≡◌, ℕ, List, Bool, true, false}
use Rattle.std.specs.Io.KnownBytes.{Appends}
use Rattle.line_io.specs.Source.{Received}
use Rattle.event_pipe.specs.Counts.{CountsFault}
use Rattle.program_lifecycle.specs.Streams.{TookPrefix}

-- the log took the whole script, or a prefix of it if it failed
pub record LogTook (whole_script : List ℕ) (failed : Bool) (old new : Received) : Type 0 where
  pub whole : failed ≡ false → Appends old.taken new.taken whole_script
  pub prefix : failed ≡ true → TookPrefix whole_script old.taken new.taken
  pub count : CountsFault old.faults new.faults failed
