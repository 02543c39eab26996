use Rattle.std.proofs.Common.{◌≡◌, ◌+◌, ◌≤◌, length}
use Rattle.scripted_engine.specs.Script.{first_bad, blocks_of, lines_of, some_stand}
use Rattle.scripted_engine.proofs.Made.{continued, bad_after}
use Rattle.scripted_engine.proofs.script.read_blocks.Given as goal

abbrev pub invariant-loop-rest : goal.invariant-loop-rest
invariant-loop-rest l = record {
  blocks : continued l.blocks.items (lines_of l.rest) ≡ blocks_of l.script;
  bad : bad_after l.number (some_stand l.blocks.items) (lines_of l.rest) ≡ first_bad l.script;
  count : l.number + length l.rest ≤ length l.script;
}

abbrev pub decreases-loop-rest : goal.decreases-loop-rest
decreases-loop-rest l = length l.rest
