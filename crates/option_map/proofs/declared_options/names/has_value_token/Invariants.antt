use Rattle.std.proofs.Common.{◌≡◌, length}
use Rattle.option_map.specs.DeclaredOptions.Names.{has_value_token}
use Rattle.option_map.proofs.declared_options.names.has_value_token.Given as goal

abbrev pub invariant-loop-token : goal.invariant-loop-token
invariant-loop-token l = has_value_token l.others ≡ has_value_token l.name

abbrev pub decreases-loop-token : goal.decreases-loop-token
decreases-loop-token l = length l.others
