-- The value behind a reference that may be missing.
use Rattle.std.specs.Prelude.{ℕ, List, Option}
use Rattle.std.specs.Option.{option_map}
use Rattle.std.specs.Borrow.{Bor}

-- the bytes, if there are some
abbrev pub optional_bytes : Option (Bor (List ℕ)) → Option (List ℕ)
optional_bytes = option_map (λ bytes. bytes.now)
