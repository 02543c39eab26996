-- The clocks after the messages of the interface. All times are in milliseconds.
use Rattle.std.specs.Prelude.{ℕ, ◌<◌, ◌^◌, ◌==◌, if◌then◌else◌, ℤ, pos}
use Rattle.std.specs.Prelude.{negsuc, ◌*ℤ◌, max, Option, Some, None}
use Rattle.cecp_lines.specs.Messages.{IfaceMsg, Level, St, Sd, Time, Otim}
use Rattle.cecp_lines.specs.Reading.{CanBeRead}
use Rattle.clock_map.specs.declared.clocks.Clocks.{Clocks}
use Rattle.clock_map.specs.declared.clocks.Control.{Control}
use Rattle.clock_map.specs.declared.clocks.TheConstants.{FIVE_MINUTES}
use Rattle.clock_map.specs.declared.clocks.Control.TheVariants.{Session, Fixed}

-- five minutes for the whole game
abbrev pub first_clocks : Clocks
first_clocks = record {
  control = Session;
  moves = 0;
  base = FIVE_MINUTES;
  increment = 0;
  depth = None;
  engine = FIVE_MINUTES;
  opponent = FIVE_MINUTES;
}

-- both clocks show the base
abbrev pub after_level : Clocks → ℕ → ℕ → ℕ → Clocks
after_level c moves base increment = record {
  control = Session;
  moves = moves;
  base = pos base;
  increment = increment;
  depth = c.depth;
  engine = pos base;
  opponent = pos base;
}

abbrev pub with_control : Clocks → Control → Clocks
with_control c control = record {
  control = control;
  moves = c.moves;
  base = c.base;
  increment = c.increment;
  depth = c.depth;
  engine = c.engine;
  opponent = c.opponent;
}

abbrev pub with_depth : Clocks → Option ℕ → Clocks
with_depth c depth = record {
  control = c.control;
  moves = c.moves;
  base = c.base;
  increment = c.increment;
  depth = depth;
  engine = c.engine;
  opponent = c.opponent;
}

abbrev pub with_engine : Clocks → ℤ → Clocks
with_engine c time = record {
  control = c.control;
  moves = c.moves;
  base = c.base;
  increment = c.increment;
  depth = c.depth;
  engine = time;
  opponent = c.opponent;
}

abbrev pub with_opponent : Clocks → ℤ → Clocks
with_opponent c time = record {
  control = c.control;
  moves = c.moves;
  base = c.base;
  increment = c.increment;
  depth = c.depth;
  engine = c.engine;
  opponent = time;
}

-- a depth of 0 is no limit
abbrev pub limit : ℕ → Option ℕ
limit depth = if depth == 0 then None else Some depth

-- The clocks of `time` and `otim` come in hundredths of a second.
abbrev pub of_centis : ℤ → ℤ
of_centis n = pos 10 *ℤ n

abbrev pub after_message : Clocks → IfaceMsg → Clocks
after_message c (Level mps base_ms inc_ms) = after_level c mps base_ms inc_ms
after_message c (St ms) = with_control c (Fixed ms)
after_message c (Sd n) = with_depth c (limit n)
after_message c (Time n) = with_engine c (of_centis n)
after_message c (Otim n) = with_opponent c (of_centis n)
after_message c _ = c

-- at a new game
abbrev pub after_new : Clocks → Clocks
after_new c = record {
  control = c.control;
  moves = c.moves;
  base = c.base;
  increment = c.increment;
  depth = None;
  engine = c.base;
  opponent = c.base;
}

-- a time as it is written, at least 1
abbrev pub at_least_one : ℤ → ℕ
at_least_one (pos n) = max n 1
at_least_one (negsuc n) = 1

-- at most ten digits
abbrev pub HasTenDigits : ℕ → Type 0
HasTenDigits n = n < 10 ^ 10

abbrev pub IsShortControl : Control → Type 0
IsShortControl Session = Unit {0}
IsShortControl (Fixed time) = HasTenDigits time

abbrev pub IsShortLimit : Option ℕ → Type 0
IsShortLimit None = Unit {0}
IsShortLimit (Some depth) = (0 < depth) × HasTenDigits depth

-- all numbers of the clocks have at most ten digits
pub record ClocksAreShort (c : Clocks) : Type 0 where
  pub control : IsShortControl c.control
  pub moves : HasTenDigits c.moves
  pub base : HasTenDigits (at_least_one c.base)
  pub increment : HasTenDigits c.increment
  pub depth : IsShortLimit c.depth
  pub engine : HasTenDigits (at_least_one c.engine)
  pub opponent : HasTenDigits (at_least_one c.opponent)

-- The messages of lines keep them so.
abbrev pub StayShort : Type 0
StayShort = (c : Clocks) (m : IfaceMsg) → ClocksAreShort c → CanBeRead m → ClocksAreShort (after_message c m)

abbrev pub StayShortAtNew : Type 0
StayShortAtNew = (c : Clocks) → ClocksAreShort c → ClocksAreShort (after_new c)
