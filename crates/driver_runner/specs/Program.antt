-- The behaviour of the program.
use Rattle.std.specs.Prelude.{ℕ, List, codes}

-- the name of the program, which stands in a diagnostic
abbrev pub program : List ℕ
program = codes "driver"
