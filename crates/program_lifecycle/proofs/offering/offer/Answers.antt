use Rattle.std.proofs.Common.{◌≡◌, ◌∙◌, sym}
use Rattle.program_lifecycle.proofs.Writes.{offered}
use Rattle.program_lifecycle.proofs.offering.offer.Goals as goal

pub returns : goal.returns
returns g c =
    offered _ _ (g.S.Sink.state c.args.sink.now) (g.S.Sink.state c.write_all.new.sink) _ c.write_all.result c.if-failed.false c.is_err.ensures.value c.write_all.ensures.ok c.write_all.ensures.err c.write_all.ensures.some c.write_all.ensures.cause
