use Rattle.std.proofs.Common.{sym, subst, Option}
use Rattle.think_text.specs.declared.line.Pondered.{Pondered}
use Rattle.think_text.specs.Line.{IsPlayableAsHint}
use Rattle.desk_rules.proofs.Ponders.{hint_played}
use Rattle.desk_rules.proofs.desk.Desk.think.Goals as goal

pub put_thinking-requires-clause-hint : goal.put_thinking-requires-clause-hint
put_thinking-requires-clause-hint c =
    subst (λ (hint : Option Pondered). IsPlayableAsHint hint) (sym c.named_hint-hint.ensures) (hint_played c.args.kind c.args.self.now.game c.args.self.now.hint c.requires.sound.hint)
