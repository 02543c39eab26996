use Rattle.std.proofs.Common.{◌≡◌, ◌+◌, ◌*◌, ◌≤◌, length, take, map}
use Rattle.line_io.specs.Out.{with}
use Rattle.cecp_lines.specs.Replies as cecp
use Rattle.option_map.specs.FeatureLists.Features.{reply_lines}
use Rattle.desk_rules.proofs.answers.put_pongs.Given as goal

abbrev pub invariant-loop-number : goal.invariant-loop-number
invariant-loop-number l = record {
  lines : l.out ≡ with l.fn.out (reply_lines (map cecp.Pong (take l.number-index l.numbers)));
  room : length l.out.text ≤ length l.fn.out.text + 16 * l.number-index;
}
