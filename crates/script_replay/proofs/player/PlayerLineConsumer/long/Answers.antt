use Rattle.std.proofs.Common.{◌∙◌, Some, sym}
use Rattle.line_io.specs.Lines.{TooLong}
use Rattle.replay_command_base.specs.declared.ending.Ending.TheVariants as endings
use Rattle.script_replay.proofs.Hearing.{came_by, may_plain}
use Rattle.script_replay.proofs.Players.{first_long, next_long}
use Rattle.script_replay.proofs.player.PlayerLineConsumer.long.Goals as goal

pub returns-then-is_new-clause-takes : goal.returns-then-is_new-clause-takes
returns-then-is_new-clause-takes g c = λ s0 o0 pieces t n o fresh.
    let first = g.O.Sink.state o0 in
    let here = g.O.Sink.state c.args._output.now in
    let old = c.args.self.now in
    let new = c.open_plain.new.self in
    let s = t o fresh in
    came_by o pieces TooLong (Some (endings.NoMark c.args.number)) new first here
    (first_long o old.core old.stage old.text first here pieces c.args.number new.core new.stage new.text (sym c.is_new.ensures ∙ c.if-is_new.true) s.took n c.open_plain.ensures.begun)
    (may_plain new c.open_plain.ensures.begun.1 (c.open_plain.ensures.room ∙ s.may.room)) s.no_failure

pub returns-clause-takes : goal.returns-clause-takes
returns-clause-takes g c = λ s0 o0 pieces t n o fresh.
    let first = g.O.Sink.state o0 in
    let here = g.O.Sink.state c.args._output.now in
    let old = c.args.self.now in
    let s = t o fresh in
    came_by o pieces TooLong (Some (endings.NoMark c.args.number)) old first here
    (next_long o old.core old.stage old.text first here pieces c.args.number (sym c.is_new.ensures ∙ c.if-is_new.false) s.took n)
    s.may s.no_failure
