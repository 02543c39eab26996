use Rattle.std.proofs.Common.{subst}
use Rattle.random_games.specs.declared.round.Drill.{Drill}
use Rattle.random_games.specs.Rounds.{answer_with}
use Rattle.random_games.specs.Sent.{Sent}
use Rattle.random_games.proofs.Rounds.{hint_kept}
use Rattle.random_games.proofs.round.Drill.answer_with_hint.Goals as goal

pub returns-clause-moves : goal.returns-clause-moves
returns-clause-moves c = record {
  hint = c.draw-hint.result;
  drawn = c.draw-hint.ensures.drawn;
  sent = subst (λ (d : Drill). Sent d.session c.answer_with.new.self (answer_with c.args.m c.draw-hint.result)) c.draw-hint.ensures.after c.answer_with.ensures.sent;
  stand = hint_kept c.args.self.now c.draw-hint.new.self c.draw-hint.result c.kept-self.result c.draw-hint.ensures.after c.kept-self.ensures;
}
