use Rattle.script_lines.proofs.Headers.{header_again, header_length}
use Rattle.script_lines.proofs.header.write_header.Goals as goal

pub header_text-requires : goal.header_text-requires
header_text-requires c = header_length c.args.settings.now c.requires.proper

pub returns-clause-short : goal.returns-clause-short
returns-clause-short c = header_length c.args.settings.now c.requires.proper

pub returns-clause-again : goal.returns-clause-again
returns-clause-again c = header_again c.args.settings.now c.requires.proper
