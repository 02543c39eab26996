-- The state of a host in memory.
use Rattle.std.specs.Prelude.{ℕ, List, Bool, true, Some, map, string_bytes, Vec, vec_items}
use Rattle.line_io.specs.Memory.{supply_of, store_of}
use Rattle.line_io.specs.Source.{Supplied, Received}
use Rattle.line_io.specs.declared.memory.MemSource.{MemSource}
use Rattle.line_io.specs.declared.memory.MemSink.{MemSink}
use Rattle.child_engine.specs.Asked.{Asked}
use Rattle.child_engine.specs.Hosts.{Ledger, shown_run}
use Rattle.child_engine.specs.Places.{Disk, LogAsked, log_file, new_log}
use Rattle.child_engine.specs.declared.mem_files.MemFiles.{MemFiles}
use Rattle.child_engine.specs.declared.memory.MemHost.{MemHost}
use Rattle.child_engine.specs.declared.places.AskedLog.{AskedLog}
use Rattle.child_engine.specs.declared.places.AskedLog.TheVariants as asked_logs

-- the reports of a source and a sink in memory
abbrev pub shown_by_memory_source : MemSource → Supplied
shown_by_memory_source s = record {
  given = Some (supply_of s).given;
  left = Some (supply_of s).left;
  faults = (supply_of s).faults;
}

abbrev pub shown_by_sink : MemSink → Received
shown_by_sink s = record { taken = Some (store_of s).taken; faults = (store_of s).faults }

abbrev pub memory_ledger : MemHost → Ledger
memory_ledger h =
    record {
      says = Some h.engine.items;
      sinks_report = true;
      runs_out = h.runs_out;
      logs_out = h.logs_out;
      runs = map (λ run. shown_run (shown_by_memory_source run.source) (shown_by_sink run.sink))
          h.runs.items;
      logs = map (λ log. (shown_by_sink log).taken) h.closed_logs.items;
    }

-- the place of a log that it was asked for
abbrev pub kept_place : AskedLog → LogAsked
kept_place (asked_logs.File name) = log_file (string_bytes name)
kept_place (asked_logs.New folder name) = new_log (string_bytes folder) (string_bytes name)

-- the files and folders that are there
abbrev pub disk_of : MemFiles → Disk
disk_of f =
    record { files = map string_bytes f.files.items; folders = map string_bytes f.folders.items }

-- the requests so far
abbrev pub asked_of : MemHost → Asked
asked_of h =
    record {
      engines = Some (map (λ arguments. map string_bytes (vec_items arguments)) h.engines.items);
      logs = Some (map kept_place h.log_places.items);
    }

-- The means of a host: what each engine says and how much of it a read gives, the room of each
-- sink and log, and the calls that fail, those of sources, sinks and logs by their numbers.
pub record Means : Type 0 where
  pub engine : List ℕ
  pub piece : ℕ
  pub room : ℕ
  pub reads : List ℕ
  pub writes : List ℕ
  pub logs : List ℕ
  pub fails_start : Bool
  pub fails_log : Bool
  pub fails_wait : Bool

abbrev pub means_of : MemHost → Means
means_of h =
    record {
      engine = h.engine.items;
      piece = h.piece;
      room = h.room;
      reads = h.failing_reads.items;
      writes = h.failing_writes.items;
      logs = h.failing_logs.items;
      fails_start = h.fails_start;
      fails_log = h.fails_log;
      fails_wait = h.fails_wait;
    }
