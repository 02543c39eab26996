-- The bytes read of an input.
use Rattle.std.specs.Prelude.{◌≡◌, ℕ, List, ◌++◌, Option, IfSome}
use Rattle.line_io.specs.Lines.{Piece, SourceGave, items}
use Rattle.replay_command_base.specs.Streams.{FilterStreams}
use Rattle.line_io.specs.declared.limits.TheConstants.{SCRIPT_LINE}

-- between two moments the input gave these bytes
abbrev pub Got : FilterStreams → FilterStreams → List ℕ → Type 0
Got start now got = SourceGave start.input now.input got

-- the bytes are all that was left
abbrev pub IsAll : Option (List ℕ) → List ℕ → Type 0
IsAll left got = IfSome left (λ x. x ≡ got)

-- the lines are the first of the input
abbrev pub AreFirst : Option (List ℕ) → List Piece → Type 0
AreFirst left lines = IfSome left (λ x. (ls : List Piece) × (items SCRIPT_LINE x ≡ lines ++ ls))

-- the lines were read: they are the first of the bytes got, and of all bytes that were left
pub record AreRead (start now : FilterStreams) (lines : List Piece) : Type 0 where
  pub got : List ℕ
  pub reads : Got start now got
  pub of_got : (ls : List Piece) × (items SCRIPT_LINE got ≡ lines ++ ls)
  pub of_left : AreFirst start.input.left lines
