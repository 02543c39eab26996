-- Step lines: the lines that number the steps of a script with a header.
use Rattle.std.specs.Prelude.{◌≡◌, ℕ, ◌%◌, ◌^◌, ◌<◌, List, ◌∷◌, ◌++◌, ◌==◌, ◌&&◌}
use Rattle.std.specs.Prelude.{codes, decimal, if◌then◌else◌, Option, Some, None}
use Rattle.std.specs.Str.{bytes_eq}
use Rattle.protocol_tokens.specs.Bytes.{blank}
use Rattle.protocol_tokens.specs.Numbers.{digits}

abbrev pub hash : ℕ
hash = 35

-- the line that numbers a step, without its line feed
abbrev pub step_number_line : ℕ → List ℕ
step_number_line number = codes "# " ++ decimal number

-- The line numbers a step so; the number has at most 18 digits.
pub record SpellsStep (line : List ℕ) (number : ℕ) : Type 0 where
  pub below : number < 10 ^ 18
  pub text : line ≡ step_number_line number

abbrev pub as_written : Option ℕ → List ℕ → Option ℕ
as_written None text = None
as_written (Some number) text = if bytes_eq (decimal number) text then Some number else None

-- the number of so many digits at most that is written so, without leading zeros
abbrev pub numeral : ℕ → List ℕ → Option ℕ
numeral most text = as_written (digits most text) text

-- the number in a step line
abbrev pub step_of : List ℕ → Option ℕ
step_of (first ∷ second ∷ text) = if first == hash && second == blank then numeral 18 text else None
step_of line = None

-- the number of step k, counted from 0: the last 18 digits of k
abbrev pub step_number : ℕ → ℕ
step_number k = k % 10 ^ 18
