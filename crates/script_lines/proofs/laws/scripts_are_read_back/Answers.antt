use Rattle.script_lines.proofs.Scripts.{reads_spelling, has_lines, has_short_lines, reads_back, one_way}
use Rattle.script_lines.proofs.laws.scripts_are_read_back.Goals as goal

pub returns : goal.returns
returns c = record { spelling = reads_spelling; lines = has_lines; short = has_short_lines; back = reads_back; one_way = one_way }
