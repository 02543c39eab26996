use Rattle.std.proofs.Common.{codes}
use Rattle.line_io.proofs.Puts.{put_two}
use Rattle.uci_interface_lines.specs.Said.{spaced_text}
use Rattle.uci_interface_lines.proofs.canonical.put_name.Goals as goal

pub returns : goal.returns
returns c = put_two c.args.out.now c.put.new.self c.put_spaced.new.out (codes "option name") (spaced_text c.args.name.now) c.put.ensures c.put_spaced.ensures
