use Rattle.std.proofs.Common.{◌∙◌, sym}
use Rattle.script_replay.proofs.LineFaults.{left_cut, left_written}
use Rattle.script_replay.proofs.player.Player.stop.Goals as goal

pub returns-then-is_cut-clause-left : goal.returns-then-is_cut-clause-left
returns-then-is_cut-clause-left g c = λ o lines first h.
    left_cut o lines c.args.ending c.args.self.now first (g.O.Sink.state c.args.output.now) (sym c.is_cut.ensures ∙ c.if-is_cut.true) h

pub returns-clause-left : goal.returns-clause-left
returns-clause-left g c = λ o lines first h.
    left_written o lines c.args.ending c.write_last.result c.args.self.now first (g.O.Sink.state c.args.output.now) (g.O.Sink.state c.write_last.new.output) (sym c.is_cut.ensures ∙ c.if-is_cut.false) h
    (λ s f. c.write_last.ensures.finished o lines first s f)
