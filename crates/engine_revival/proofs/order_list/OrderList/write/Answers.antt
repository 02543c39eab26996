use Rattle.std.proofs.Common.{List, subst}
use Rattle.engine_revival.specs.Orders.{RevivalOrder}
use Rattle.engine_revival.specs.declared.order_list.TheConstants.{LIST_ORDERS}
use Rattle.engine_revival.specs.Marks.{OrdersAreLines}
use Rattle.engine_revival.proofs.Marks.{kept_lines}
use Rattle.engine_revival.proofs.order_list.OrderList.write.Goals as goal

pub returns-clause-lines : goal.returns-clause-lines
returns-clause-lines c =
    let list = c.self.inside in
    subst (λ (l : List RevivalOrder). OrdersAreLines l LIST_ORDERS) c.self.view_is (kept_lines list.texts.text list.lines.items c.self.invariant.within c.self.invariant.few)
