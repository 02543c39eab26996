use Rattle.std.proofs.Common.{◌≡◌, List, ℕ, Option, ap, sym, subst, ◌∙◌}
use Rattle.std.specs.Option.{option_to_list}
use Rattle.line_io.specs.Lines.{parts_by_feed}
use Rattle.uci_lines.specs.Orders.{Order}
use Rattle.option_map.specs.WaitingOrders.Held.{with_orders}
use Rattle.desk_rules.specs.Lines.{order_asked_by}
use Rattle.desk_rules.specs.Orders.{AllJoin, early_order, early_orders}
use Rattle.desk_rules.proofs.Joins.{orders_append, parts_join}
use Rattle.desk_rules.proofs.early.hold_lines.Goals as goal

pub hold-requires : goal.hold-requires
hold-requires c =
    let os = c.args.options.now in
    let line = c.in-Some.line.now in
    let here = subst (λ (ls : List (List ℕ)). AllJoin c.loop-line.held (early_orders os ls)) c.in-Some.ensures.first c.loop-line.invariant.1 in
    let asked = c.set.ensures ∙ ap order_asked_by c.early_answer.ensures in
    subst (λ (o : Option Order). AllJoin c.loop-line.held (option_to_list o)) (sym asked) (parts_join c.loop-line.held (early_order os line) (early_orders os (parts_by_feed c.in-Some.after.now)) here).0

pub loop-line-preserved : goal.loop-line-preserved
loop-line-preserved c =
    let os = c.args.options.now in
    let line = c.in-Some.line.now in
    let later = early_orders os (parts_by_feed c.in-Some.after.now) in
    let here = subst (λ (ls : List (List ℕ)). AllJoin c.loop-line.held (early_orders os ls)) c.in-Some.ensures.first c.loop-line.invariant.1 in
    let asked = c.set.ensures ∙ ap order_asked_by c.early_answer.ensures in
    let held : c.hold.new.held ≡ with_orders c.loop-line.held (early_order os line) = c.hold.ensures ∙ ap (λ (o : Option Order). with_orders c.loop-line.held (option_to_list o)) asked in (
      ap (λ (os' : List Order). with_orders os' later) held ∙ sym (orders_append c.loop-line.held (early_order os line) later)
          ∙ ap (λ (ls : List (List ℕ)). with_orders c.loop-line.held (early_orders os ls)) (sym c.in-Some.ensures.first) ∙ c.loop-line.invariant.0,
      subst (λ (os' : List Order). AllJoin os' later) (sym held) (parts_join c.loop-line.held (early_order os line) later here).1,
    )
