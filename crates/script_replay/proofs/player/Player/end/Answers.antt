use Rattle.std.proofs.Common.{◌∙◌, sym}
use Rattle.script_replay.proofs.Hearing.{scripted_opened}
use Rattle.script_replay.proofs.player.Player.end.Goals as goal

pub returns-then-is_new-clause-finished : goal.returns-then-is_new-clause-finished
returns-then-is_new-clause-finished g c = λ o lines first s.
    c.write_last.ensures.finished o lines first
    (scripted_opened o lines c.args.self.now c.open_plain.new.self first (g.O.Sink.state c.args.output.now) (sym c.is_new.ensures ∙ c.if-is_new.true) s c.open_plain.ensures.begun) s.no_failure
