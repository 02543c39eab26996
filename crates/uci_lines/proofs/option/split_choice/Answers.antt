use Rattle.std.proofs.Common.{sym}
use Rattle.uci_lines.specs.Cuts.{is_choice, found_of}
use Rattle.uci_lines.proofs.Cutting.{before_fits}
use Rattle.uci_lines.proofs.option.split_choice.Goals as goal

pub split_at-requires : goal.split_at-requires
split_at-requires c = before_fits is_choice c.args.text.now (found_of c.in-Some.found) (sym c.in-Some.ensures)
