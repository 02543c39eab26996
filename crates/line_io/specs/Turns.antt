-- Where the taking of lines has come to.
use Rattle.std.specs.Prelude.{◌≡◌, ◌≤◌, ℕ, suc, ◌+◌, not, List, length, true, Option, Some, None}
use Rattle.line_io.specs.Lines.{Piece, Held, SourceGave, IsWaiting, reading_weight, flag}
use Rattle.line_io.specs.Runs.{SourceCalls}
use Rattle.line_io.specs.Source.{Supplied}
use Rattle.line_io.specs.LineConsumers.{ConsumerMeaning}
use Rattle.line_io.specs.Taken.{Place, IsOver, Taken}
use Rattle.line_io.specs.declared.consumer.LinesEnd.{LinesEnd}

-- so many calls got these bytes and gave these lines
pub record ReadingCourse (limit : ℕ) (held : Held) (given : List ℕ) (pieces : List Piece)
    (old new : Supplied) (calls : ℕ) : Type 0 where
  pub gave : SourceGave old new given
  pub runs : SourceCalls limit held given pieces calls
  pub at_end : held.ended ≡ true → IsOver old new
  pub no_fault : new.faults ≡ old.faults

-- and the consumer took these lines, so many
pub record ConsumerReached {S O X : Type 0} (means : ConsumerMeaning S O X) (limit : ℕ) (first now : Place S O)
    (held : Held) (calls number : ℕ) : Type 0 where
  pub given : List ℕ
  pub pieces : List Piece
  pub course : ReadingCourse limit held given pieces first.input now.input calls
  pub count : number ≡ length pieces
  pub took : means.took first.consumer first.output pieces now.consumer now.output

-- one call more, or an end
abbrev pub After : {S O X : Type 0} → ConsumerMeaning S O X → ℕ → Option (LinesEnd X) → Place S O
    → Place S O → Held → ℕ → ℕ → Type 0
After means limit None first now held calls number =
    ConsumerReached means limit first now held (suc calls) number
After means limit (Some ending) first now held calls number = Taken means limit ending first now

-- the bytes that the calls to come have to take away, if nothing more is read
abbrev pub work : Held → ℕ
work held = reading_weight held + flag (not held.ended)

-- no line that is held is whole, or an end
abbrev pub HasNoWholeLine : {S O X : Type 0} → ConsumerMeaning S O X → ℕ → Option (LinesEnd X) → Place S O
    → Place S O → Held → ℕ → ℕ → Type 0
HasNoWholeLine means limit None first now held calls number =
    IsWaiting held
    × ((later : ℕ) × (calls ≤ later) × ConsumerReached means limit first now held later number)
HasNoWholeLine means limit (Some ending) first now held calls number = Taken means limit ending first now
