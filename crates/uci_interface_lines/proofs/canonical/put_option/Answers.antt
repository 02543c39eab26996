use Rattle.std.proofs.Common.{◌++◌, codes}
use Rattle.line_io.proofs.Puts.{put_two}
use Rattle.uci_lines.specs.Messages.{option_kind_of}
use Rattle.uci_interface_lines.specs.Said.{spaced_text, shape_text}
use Rattle.uci_interface_lines.proofs.canonical.put_option.Goals as goal

pub returns : goal.returns
returns c = put_two c.args.out.now c.put_name.new.out c.put_kind.new.out (codes "option name" ++ spaced_text c.args.option.now.name.now) (shape_text (option_kind_of c.args.option.now.kind)) c.put_name.ensures c.put_kind.ensures
