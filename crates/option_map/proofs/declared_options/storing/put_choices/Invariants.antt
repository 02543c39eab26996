use Rattle.std.proofs.Common.{◌≡◌, length}
use Rattle.line_io.specs.Out.{with}
use Rattle.uci_lines.specs.Choices.{values}
use Rattle.option_map.specs.DeclaredOptions.Choices.{with_quotes, with_star}
use Rattle.option_map.proofs.declared_options.storing.put_choices.Given as goal

abbrev pub invariant-loop-value : goal.invariant-loop-value
invariant-loop-value l = with l.out (with_quotes (with_star l.default (values l.others))) ≡ with l.fn.out (with_quotes (with_star l.default (values l.fn.text)))

abbrev pub decreases-loop-value : goal.decreases-loop-value
decreases-loop-value l = length (values l.others)
