use Rattle.wineravine_runner.proofs.LastPart.{all_read}
use Rattle.wineravine_runner.proofs.log_names.behind_slash.Goals as goal

pub returns : goal.returns
returns c = all_read c.loop-byte.part.items c.args.text.now c.loop-byte.byte-index c.loop-byte-test.false c.loop-byte.invariant.part
