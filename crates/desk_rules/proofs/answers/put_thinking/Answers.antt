use Rattle.std.proofs.Common.{sym, ap, ◌∙◌}
use Rattle.uci_lines.specs.Info.{info_of}
use Rattle.think_text.specs.Line.{thinking_line}
use Rattle.think_text.proofs.Hints.{differ, taken, untaken}
use Rattle.desk_rules.proofs.LastLines.{kept_room}
use Rattle.desk_rules.proofs.answers.put_thinking.Goals as goal

pub take-requires-clause-room : goal.take-requires-clause-room
take-requires-clause-room c = kept_room c.args.spelling (info_of c.args.info.now) c.args.at.now c.requires.said
