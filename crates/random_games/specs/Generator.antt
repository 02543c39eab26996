-- The numbers of a drill.
use Rattle.std.specs.Prelude.{ℕ, ◌+◌, ◌*◌, ◌/◌, ◌%◌}
use Rattle.random_games.specs.declared.generator.TheConstants.{MULTIPLIER, INCREMENT, MODULUS, LOW_PART}

-- the number after another
abbrev pub next : ℕ → ℕ
next x = (x * MULTIPLIER + INCREMENT) % MODULUS

-- a place among so many, from 0
abbrev pub place_of : ℕ → ℕ → ℕ
place_of x count = (x / LOW_PART) % count
