use Rattle.scripted_engine.specs.Script.{blocks_of}
use Rattle.scripted_engine.proofs.Sessions.{opened_none, unread, answered}
use Rattle.scripted_engine.proofs.run.run.Goals as goal

pub returns-in_default : goal.returns-in_default
returns-in_default g c =
    opened_none (g.F.Source.state c.args.file.now)
    (g.I.Source.state c.args.input.now)
    (g.O.Sink.state c.args.output.now)

pub returns-in-Ok-open_script : goal.returns-in-Ok-open_script
returns-in-Ok-open_script g c =
    let o = c.in-Ok-open_script.ensures in
    answered c.answer_lines.result
    (g.F.Source.state c.args.file.now)
    (g.F.Source.state c.open_script.new.file)
    (g.I.Source.state c.args.input.now)
    (g.I.Source.state c.answer_lines.new.input)
    (g.O.Sink.state c.args.output.now)
    (g.O.Sink.state c.answer_lines.new.output)
    o.0 o.1 o.2.0 o.2.1 (c.answer_lines.ensures (blocks_of o.0) (g.F.Source.state c.args.file.now) (g.F.Source.state c.open_script.new.file) o.2.2)

pub returns : goal.returns
returns g c =
    let o = c.in-Err.ensures in
    unread c.in-Err.ending
    (g.F.Source.state c.args.file.now)
    (g.F.Source.state c.open_script.new.file)
    (g.I.Source.state c.args.input.now)
    (g.O.Sink.state c.args.output.now)
    o.0 o.1 o.2
