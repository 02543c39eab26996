-- The rest of the options completes the lines.
use Rattle.std.proofs.Common.{◌≡◌, ◌++◌, drop, map}
use Rattle.std.specs.List.{flat_map}
use Rattle.bridge_command_line.specs.WineravineArguments.{cecp_option_line}
use Rattle.bridge_command_line.proofs.lines.option_lines.Given as goal

abbrev pub invariant-loop-option : goal.invariant-loop-option
invariant-loop-option l = record {
  lines : l.lines.items ++ flat_map cecp_option_line (map (λ s. s.now) (drop l.option-index l.options)) ≡ flat_map cecp_option_line (map (λ s. s.now) l.options);
}
