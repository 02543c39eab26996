use Rattle.script_lines.proofs.Spelled.{read_ok, read_none}
use Rattle.script_lines.proofs.marks.read_mark.Goals as goal

pub returns : goal.returns
returns c =
    let e = c.mark_in.ensures in
    record { exact = e; spelled = read_ok c.args.line.now c.mark_in.result e; bad = read_none c.args.line.now c.mark_in.result e }
