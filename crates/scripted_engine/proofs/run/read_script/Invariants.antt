use Rattle.std.proofs.Common.{◌≡◌, ◌-◌, ◌≤◌, length, vec_len}
use Rattle.line_io.specs.Lines.{SourceGave}
use Rattle.scripted_engine.proofs.run.read_script.Given as goal

abbrev pub invariant-loop-script : goal.invariant-loop-script
invariant-loop-script g l = record {
  gave : SourceGave (g.F.Source.state l.initial.file) (g.F.Source.state l.file) l.script.items;
  fits : length l.script.items ≤ 16777216;
  chunk : vec_len l.chunk ≡ 65536;
  later : (g.F.Source.state l.initial.file).faults ≤ (g.F.Source.state l.file).faults;
}

abbrev pub decreases-loop-script : goal.decreases-loop-script
decreases-loop-script g l = 16777216 - length l.script.items
