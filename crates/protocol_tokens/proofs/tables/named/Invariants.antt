use Rattle.std.proofs.Common.{◌≡◌, length, map}
use Rattle.std.specs.Str.{bytes_eq}
use Rattle.std.specs.Map.{lookup}
use Rattle.protocol_tokens.proofs.tables.named.Given as goal

abbrev pub invariant-loop-rest : goal.invariant-loop-rest
invariant-loop-rest g l = lookup (bytes_eq l.word) (map (λ row. (row.0.now, row.1)) l.rest) ≡ lookup (bytes_eq l.word) (map (λ row. (row.0.now, row.1)) l.rows)

abbrev pub decreases-loop-rest : goal.decreases-loop-rest
decreases-loop-rest g l = length l.rest
