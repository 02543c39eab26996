use Rattle.std.proofs.Common.{◌≡◌, ◌+◌, ◌++◌, List, ap, sym, subst, length, length-append, arith}
use Rattle.line_io.specs.Out.{Text}
use Rattle.engine_revival.specs.Orders.{RevivalOrder}
use Rattle.engine_revival.specs.declared.order_list.TheConstants.{LIST_ORDERS}
use Rattle.engine_revival.specs.declared.state.RevivalState.{RevivalState}
use Rattle.engine_revival.specs.declared.state.TheConstants.{DUE_ORDERS, MOST_READY}
use Rattle.engine_revival.specs.declared.words.DueOrders.{DueOrders}
use Rattle.engine_revival.specs.Lists.{revival_batch_text}
use Rattle.engine_revival.specs.Marks.{OrdersAreLines}
use Rattle.engine_revival.specs.Steps.{due_orders, readies}
use Rattle.engine_revival.proofs.Marks.{both_lines, readies_length, readies_lines}
use Rattle.engine_revival.proofs.state.RevivalState.write_due.Goals as goal

pub write-requires : goal.write-requires
write-requires c =
    let s = c.args.self.now in
    let search : c.hand_on-in-Search.new.self.search ≡ s.search = ap (λ (x : RevivalState). x.search) c.hand_on-in-Search.ensures.state in
    omega (
      arith,
      c.requires.room,
      c.requires.roomy.ready,
      c.requires.roomy.search.short,
      ap (λ (x : List RevivalOrder). length (revival_batch_text x)) search,
      ap (λ (t : Text). length t.text) c.hand_on-in-Search.ensures.child,
      ap (λ (t : Text). t.room) c.hand_on-in-Search.ensures.child,
      length-append c.args.child.now.text (revival_batch_text s.unsent ++ revival_batch_text (readies s.held_ready)),
      length-append (revival_batch_text s.unsent) (revival_batch_text (readies s.held_ready)),
      readies_length s.held_ready,
    )

pub returns-in-Settings-clause-lines : goal.returns-in-Settings-clause-lines
returns-in-Settings-clause-lines c =
    let s = c.args.self.now in
    subst (λ (d : DueOrders). OrdersAreLines (due_orders d s.unsent s.held_ready s.search) DUE_ORDERS) (sym c.in-Settings.is)
    (both_lines s.unsent (readies s.held_ready) LIST_ORDERS s.held_ready DUE_ORDERS c.hand_on.ensures.lines (readies_lines s.held_ready) (omega (arith, c.requires.roomy.ready)))

pub returns-in-Search-clause-lines : goal.returns-in-Search-clause-lines
returns-in-Search-clause-lines c =
    let s = c.args.self.now in
    let search = subst (λ (x : List RevivalOrder). OrdersAreLines x LIST_ORDERS) (ap (λ (x : RevivalState). x.search) c.hand_on-in-Search.ensures.state) c.write.ensures.lines in
    let more = both_lines (readies s.held_ready) s.search s.held_ready LIST_ORDERS (MOST_READY + LIST_ORDERS) (readies_lines s.held_ready) search (omega (arith, c.requires.roomy.ready)) in
    subst (λ (d : DueOrders). OrdersAreLines (due_orders d s.unsent s.held_ready s.search) DUE_ORDERS) (sym c.in-Search.is)
    (both_lines s.unsent (readies s.held_ready ++ s.search) LIST_ORDERS (MOST_READY + LIST_ORDERS) DUE_ORDERS c.hand_on-in-Search.ensures.lines more (omega arith))
