use Rattle.std.proofs.Common.{arith}
use Rattle.cecp_engine_lines.proofs.Sans.{no_more}
use Rattle.cecp_engine_lines.proofs.san.has_form.Goals as goal

pub returns-in_default : goal.returns-in_default
returns-in_default c = no_more c.args.form.now c.args.text.now c.loop-place.rest.now c.loop-place.place-index (omega arith) (omega arith) c.loop-place.invariant
