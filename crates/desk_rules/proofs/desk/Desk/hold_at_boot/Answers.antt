use Rattle.std.proofs.Common.{◌≡◌, ◌++◌, List, Option, ap, sym, subst, ◌∙◌}
use Rattle.std.specs.Option.{option_to_list}
use Rattle.uci_lines.specs.Orders.{Order}
use Rattle.option_map.specs.WaitingOrders.Held.{with_orders}
use Rattle.desk_rules.specs.declared.desk.Desk.{Desk}
use Rattle.desk_rules.specs.Orders.{ponder_at_boot, analysis_at_boot, early_orders, asked_at_boot, AllJoin}
use Rattle.desk_rules.proofs.Joins.{orders_append, parts_join}
use Rattle.desk_rules.proofs.desk.Desk.hold_at_boot.Goals as goal

-- that each of the three parts joins in its turn
record Turns (d : Desk) (held : List Order) : Type 0 where
  early : AllJoin held (early_orders d.options d.early)
  ponder : AllJoin (with_orders held (early_orders d.options d.early)) (option_to_list (ponder_at_boot d))
  analysis : AllJoin (with_orders (with_orders held (early_orders d.options d.early)) (option_to_list (ponder_at_boot d))) (option_to_list (analysis_at_boot d))

turns : (d : Desk) (held : List Order) → AllJoin held (asked_at_boot d) → Turns d held
turns d held a =
    let early = early_orders d.options d.early in
    let ponder = option_to_list (ponder_at_boot d) in
    let both = parts_join held (early ++ ponder) (option_to_list (analysis_at_boot d)) a in
    let first = parts_join held early ponder both.0 in
    record {
      early = first.0;
      ponder = first.1;
      analysis = subst (λ (os : List Order). AllJoin os (option_to_list (analysis_at_boot d))) (orders_append held early ponder) both.1;
    }

-- the orders after both
held_then : (d : Desk) (held one two : List Order) (asked : Option Order) → one ≡ with_orders held (early_orders d.options d.early) → two ≡ with_orders one (option_to_list asked) → asked ≡ ponder_at_boot d
    → two ≡ with_orders (with_orders held (early_orders d.options d.early)) (option_to_list (ponder_at_boot d))
held_then d held one two asked e f g = f ∙ ap (λ (os : List Order). with_orders os (option_to_list asked)) e ∙ ap (λ (o : Option Order). with_orders (with_orders held (early_orders d.options d.early)) (option_to_list o)) g

pub hold_all-requires : goal.hold_all-requires
hold_all-requires c = (turns c.args.self.now c.args.held.now c.requires).early

pub hold-requires : goal.hold-requires
hold-requires c =
    let d = c.args.self.now in
    let here = subst (λ (os : List Order). AllJoin os (option_to_list (ponder_at_boot d))) (sym c.hold_all.ensures) (turns d c.args.held.now c.requires).ponder in
    subst (λ (o : Option Order). AllJoin c.hold_all.new.held (option_to_list o)) (sym c.ponder_at_boot.ensures) here

pub hold-requires-2 : goal.hold-requires-2
hold-requires-2 c =
    let d = c.args.self.now in
    let held = held_then d c.args.held.now c.hold_all.new.held c.hold.new.held _ c.hold_all.ensures c.hold.ensures c.ponder_at_boot.ensures in
    let here = subst (λ (os : List Order). AllJoin os (option_to_list (analysis_at_boot d))) (sym held) (turns d c.args.held.now c.requires).analysis in
    subst (λ (o : Option Order). AllJoin c.hold.new.held (option_to_list o)) (sym c.analysis_at_boot.ensures) here

pub returns : goal.returns
returns c =
    let d = c.args.self.now in
    let early = early_orders d.options d.early in
    let ponder = option_to_list (ponder_at_boot d) in
    let held = held_then d c.args.held.now c.hold_all.new.held c.hold.new.held _ c.hold_all.ensures c.hold.ensures c.ponder_at_boot.ensures in
    c.hold-2.ensures ∙ ap (λ (o : Option Order). with_orders c.hold.new.held (option_to_list o)) c.analysis_at_boot.ensures
    ∙ ap (λ (os : List Order). with_orders os (option_to_list (analysis_at_boot d))) (held ∙ sym (orders_append c.args.held.now early ponder))
    ∙ sym (orders_append c.args.held.now (early ++ ponder) (option_to_list (analysis_at_boot d)))
