use Rattle.std.proofs.Common.{refl}
use Rattle.std.specs.Prelude.{codes}
use Rattle.core_tests.proofs.examples.interface_lines.an_engine_replies.Goals as goal

pub write_iface-requires-clause-form : goal.write_iface-requires-clause-form
write_iface-requires-clause-form g c = (codes "new", refl)
