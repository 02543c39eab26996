use Rattle.std.proofs.Common.{refl}
use Rattle.std.specs.Prelude.{codes}
use Rattle.core_tests.proofs.grammar.iface_side.writes.Goals as goal

pub write_iface-requires-clause-form : goal.write_iface-requires-clause-form
write_iface-requires-clause-form g c = (codes "quit", refl)
