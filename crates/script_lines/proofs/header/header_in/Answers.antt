use Rattle.script_lines.proofs.Headers.{header_length}
use Rattle.script_lines.proofs.header.header_in.Goals as goal

pub header_text-requires : goal.header_text-requires
header_text-requires c = header_length _ c.in_ok-settings.ensures.proper
