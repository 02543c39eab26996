use Rattle.std.proofs.Common.{ap, sym, ◌∙◌}
use Rattle.desk_rules.specs.Desk.{at}
use Rattle.desk_rules.specs.Steps.{begins_epoch}
use Rattle.desk_rules.specs.Orders.{asked_by_effect}
use Rattle.desk_rules.proofs.desk.Desk.decide_message.Goals as goal

pub returns-in-Some-clause-asks : goal.returns-in-Some-clause-asks
returns-in-Some-clause-asks c =
    let h = at c.args.context c.args.self.now in
    c.decision.ensures.asks c.args.context ∙ ap (asked_by_effect h) (sym c.decision.ensures.effect)

pub returns-in-Some-clause-epoch : goal.returns-in-Some-clause-epoch
returns-in-Some-clause-epoch c =
    let h = at c.args.context c.args.self.now in
    c.decision.ensures.epoch c.args.context ∙ ap (begins_epoch h) (sym c.decision.ensures.effect)
