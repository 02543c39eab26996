use Rattle.std.proofs.Common.{List, sym, subst}
use Rattle.line_io.specs.Event.{event_of}
use Rattle.uci_lines.specs.Orders.{Order}
use Rattle.desk_rules.specs.Desk.{Situation, at}
use Rattle.desk_rules.specs.Steps.{Effect, classify}
use Rattle.desk_rules.specs.Orders.{asked_by_effect, AllJoin}
use Rattle.desk_rules.proofs.Joins.{asked_join}
use Rattle.adapter_core.specs.Parts.{CoreCanFollow}
use Rattle.adapter_core.proofs.session.CoreParts.take.Goals as goal

pub hold-requires : goal.hold-requires
hold-requires c =
    let held = c.args.self.now.held in
    let e = event_of c.args.event.now in
    let r = c.requires.ready in
    let h = at c.context-context.result c.args.self.now.desk in
    let joined = subst (λ (x : Situation). AllJoin held (asked_by_effect x (classify x held e))) (sym c.context-context.ensures) (asked_join _ held _ r.follow.sound r.fits r.holds) in
    let decided = subst (λ (d : Effect). AllJoin held (asked_by_effect h d)) (sym c.decide-decision.ensures.effect) joined in
    subst (λ (os : List Order). AllJoin held os) (sym c.decide-decision.ensures.asks) decided

pub go_on-requires-clause-follow : goal.go_on-requires-clause-follow
go_on-requires-clause-follow c =
    let held = c.args.self.now.held in
    let e = event_of c.args.event.now in
    let h = at c.context-context.result c.args.self.now.desk in
    let search_info = subst (λ (x : Situation). CoreCanFollow x (classify x held e)) (sym c.context-context.ensures) c.requires.ready.follow in
    subst (λ (d : Effect). CoreCanFollow h d) (sym c.decide-decision.ensures.effect) search_info
