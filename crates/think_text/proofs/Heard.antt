-- The score of a line has at most nine digits.
use Rattle.std.proofs.Common.{◌≡◌, Option, Some, subst}
use Rattle.std.specs.Prelude.{IfSome}
use Rattle.uci_lines.specs.declared.messages.Score.{Score}
use Rattle.uci_lines.specs.Info.{Info}
use Rattle.uci_lines.specs.Scores.{IsCentis}
use Rattle.uci_lines.proofs.Scores.{scores_are_centis}
use Rattle.think_text.specs.Line.{InfoIsHeard}

pub score_small : (f : Info) (s : Score) → InfoIsHeard f → f.score ≡ Some s → IsCentis s
score_small f s h e = subst (λ (x : Option Score). IfSome x IsCentis) e (scores_are_centis h.0 f h.1)
