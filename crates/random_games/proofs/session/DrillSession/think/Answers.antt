use Rattle.std.proofs.Common.{List, ℕ, ◌∙◌, subst}
use Rattle.line_io.specs.Event.{Engine}
use Rattle.random_games.specs.Sent.{DrillSends}
use Rattle.random_games.proofs.session.DrillSession.think.Goals as goal

pub returns-clause-sends : goal.returns-clause-sends
returns-clause-sends c = subst (λ (l : List ℕ). DrillSends c.args.self.now c.engine.new.self (Engine l)) (c.as_slice.ensures.value ∙ c.line_with.ensures.text) c.engine.ensures.sends
