use Rattle.std.proofs.Common.{◌≡◌, ◌∙◌, ap}
use Rattle.cecp_driver.specs.declared.driver.DriverParts.{DriverParts}
use Rattle.cecp_driver.specs.Driver.{placed_if}
use Rattle.cecp_driver.proofs.Acting.{order_ready, order_keeps, order_done}
use Rattle.cecp_driver.proofs.driver.DriverParts.order.Goals as goal

pub act-requires : goal.act-requires
act-requires c =
    let o = c.read_ordered-ordered.result in
    let placed = c.place_if.ensures ∙ ap (λ (x : DriverParts). placed_if o x c.args.line.now) c.clear.ensures in
    order_ready c.args.self.now c.place_if.new.self c.args.line.now o c.asked-call.result c.requires placed c.asked-call.ensures

pub returns-clause-orders : goal.returns-clause-orders
returns-clause-orders c =
    let o = c.read_ordered-ordered.result in
    let placed = c.place_if.ensures ∙ ap (λ (x : DriverParts). placed_if o x c.args.line.now) c.clear.ensures in
    order_done c.args.self.now c.place_if.new.self c.act.new.self c.args.line.now o c.asked-call.result c.read_ordered-ordered.ensures placed c.asked-call.ensures c.act.ensures

pub returns-clause-keeps : goal.returns-clause-keeps
returns-clause-keeps c =
    let o = c.read_ordered-ordered.result in
    let placed = c.place_if.ensures ∙ ap (λ (x : DriverParts). placed_if o x c.args.line.now) c.clear.ensures in
    order_keeps c.args.self.now c.place_if.new.self c.act.new.self c.args.line.now o c.asked-call.result c.requires placed c.asked-call.ensures c.act.ensures
