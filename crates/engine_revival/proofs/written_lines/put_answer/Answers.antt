use Rattle.std.proofs.Common.{ap, length, length-append, arith}
use Rattle.line_io.specs.Out.{Text}
use Rattle.engine_revival.specs.Steps.{readyoks}
use Rattle.engine_revival.proofs.Marks.{readyoks_length}
use Rattle.engine_revival.proofs.written_lines.put_answer.Goals as goal

pub put-requires-in-NoMove : goal.put-requires-in-NoMove
put-requires-in-NoMove c = omega (
  arith,
  c.requires,
  ap (λ (t : Text). length t.text) c.put_readyoks-in-NoMove.ensures,
  ap (λ (t : Text). t.room) c.put_readyoks-in-NoMove.ensures,
  length-append c.args.up.now.text (readyoks c.args.held),
  readyoks_length c.args.held,
)
