use Rattle.std.proofs.Common.{ℕ, sym, subst, ap}
use Rattle.line_io.specs.Lines.{Held}
use Rattle.line_io.specs.Taken.{Taken, reading_place}
use Rattle.scripted_engine.specs.Ends.{Answered, scripted_streams}
use Rattle.scripted_engine.specs.Heard.{answers_of}
use Rattle.scripted_engine.specs.declared.ending.ScriptedEnding.{ScriptedEnding}
use Rattle.scripted_engine.proofs.Hearing.{answered_by}
use Rattle.scripted_engine.proofs.run.answer_lines.Goals as goal

pub returns : goal.returns
returns g c = λ blocks file file' stands.
    let see = λ (o : g.row.O.Denot). g.O.Sink.state o in
    let old = reading_place c.args.scripted.now c.args.output.now (g.I.Source.state c.args.input.now) in
    let new = reading_place c.take_lines.new.consumer c.take_lines.new.output (g.I.Source.state c.take_lines.new.input) in
    subst (λ (e : ScriptedEnding). Answered e blocks (scripted_streams file old.input (see old.output)) (scripted_streams file' new.input (see new.output))) (sym c.ending_of.ensures)
    (answered_by see c.take_lines.result old new blocks file file' stands
    (subst (λ (k : ℕ). Taken (answers_of see) k c.take_lines.result old new) (ap (λ (h : Held). h.limit) c.requires) c.take_lines.ensures))
