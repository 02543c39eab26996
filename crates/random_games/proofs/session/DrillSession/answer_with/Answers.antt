use Rattle.std.proofs.Common.{List, ℕ, ◌∙◌, subst, refl}
use Rattle.line_io.specs.Event.{Engine}
use Rattle.random_games.specs.Sent.{DrillSends}
use Rattle.random_games.proofs.session.DrillSession.answer_with.Goals as goal

pub returns-clause-sent : goal.returns-clause-sent
returns-clause-sent c =
    let last = subst (λ (l : List ℕ). DrillSends c.think.new.self c.engine.new.self (Engine l)) (c.as_slice.ensures.value ∙ c.answer_with.ensures) c.engine.ensures.sends in
    (c.think.new.self, c.think.ensures.sends, (c.engine.new.self, last, refl))
