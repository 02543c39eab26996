use Rattle.std.proofs.Common.{List, ℕ, ◌∙◌, subst, refl}
use Rattle.line_io.specs.Event.{Iface}
use Rattle.random_games.specs.Sent.{DrillSends}
use Rattle.random_games.proofs.session.DrillSession.enter.Goals as goal

pub returns-clause-sent : goal.returns-clause-sent
returns-clause-sent c =
    let last = subst (λ (l : List ℕ). DrillSends c.iface-2.new.self c.iface-3.new.self (Iface l)) (c.as_slice.ensures.value ∙ c.line_with.ensures.text) c.iface-3.ensures.sends in
    (c.iface.new.self, c.iface.ensures.sends, (c.iface-2.new.self, c.iface-2.ensures.sends, (c.iface-3.new.self, last, refl)))
