use Rattle.std.proofs.Common.{◌≡◌, true, sym, subst}
use Rattle.line_io.specs.Event.{event_of}
use Rattle.adapter_core.specs.Ends.{may, ends_after}
use Rattle.random_games.specs.Sent.{DrillSession, DrillSends}
use Rattle.random_games.proofs.Stepping.{steady_on, sends_on, ends_on}
use Rattle.random_games.proofs.session.DrillSession.send.Goals as goal

pub step-requires-clause-may : goal.step-requires-clause-may
step-requires-clause-may c = subst (λ (p : DrillSession). may p.core.ends (event_of c.args.event.now) ≡ true) (sym c.self.view_is) c.requires.may

pub invariant_of-self : goal.invariant_of-self
invariant_of-self c = steady_on c.self.inside.core c.step.new.core (event_of c.args.event.now) c.self.inside.tally c.step.new.tally c.self.invariant c.step.ensures

pub returns-clause-sends : goal.returns-clause-sends
returns-clause-sends c =
    let e = event_of c.args.event.now in
    subst (λ (p : DrillSession). DrillSends p (record { core = c.step.new.core; tally = c.step.new.tally }) e) c.self.view_is (sends_on c.self.inside.core c.step.new.core e c.self.inside.tally c.step.new.tally c.self.invariant c.step.ensures)

pub returns-clause-ends : goal.returns-clause-ends
returns-clause-ends c =
    let e = event_of c.args.event.now in
    subst (λ (p : DrillSession). c.step.new.core.ends ≡ ends_after p.core.ends e) c.self.view_is (ends_on c.self.inside.core c.step.new.core e c.self.inside.tally c.step.new.tally c.self.invariant c.step.ensures)
