-- The folder was made, and each name with a lower number is taken.
use Rattle.std.proofs.Common.{◌≡◌, ◌<◌, ◌≤◌, ℕ, true, option_map}
use Rattle.std.specs.Prelude.{IfSome}
use Rattle.child_engine.specs.Places.{Disk, is_there, numbered_log, with_folder}
use Rattle.child_engine.proofs.new_files.make_log.Given as goal

abbrev pub invariant-loop-number : goal.invariant-loop-number
invariant-loop-number g l = record {
  least : 1 ≤ l.number;
  folder : g.F.NewFiles.disk l.files ≡ option_map (with_folder l.fn.log.folder.now) (g.F.NewFiles.disk l.fn.files);
  taken : IfSome (g.F.NewFiles.disk l.fn.files) (λ (before : Disk). (n : ℕ) → 0 < n → n < l.number → is_there (numbered_log l.fn.log.folder.now l.fn.log.name.now n) before.files ≡ true);
}
