-- The sizes of the scores that lines report.
use Rattle.std.specs.Prelude.{◌≡◌, ℕ, ◌^◌, ◌<◌, nat_abs, List, IfSome}
use Rattle.uci_lines.specs.declared.messages.Score.{Score}
use Rattle.uci_lines.specs.declared.messages.Score.TheVariants.{Cp, Mate}
use Rattle.uci_lines.specs.Info.{Info as AnyInfo}
use Rattle.uci_lines.specs.Messages.{Info}
use Rattle.uci_lines.specs.Engine.{engine_message}

-- at most nine digits
abbrev pub IsCentis : Score → Type 0
IsCentis (Cp score) = nat_abs score < 10 ^ 9
IsCentis (Mate moves) = nat_abs moves < 10 ^ 9

-- The scores that lines report have at most nine digits.
abbrev pub ScoresAreCentis : Type 0
ScoresAreCentis =
    (line : List ℕ) (facts : AnyInfo) → engine_message line ≡ Info facts
    → IfSome facts.score IsCentis
