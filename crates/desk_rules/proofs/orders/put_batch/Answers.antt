use Rattle.std.proofs.Common.{ℕ, List, ◌++◌, length, ap, ◌∙◌, arith, length-append, append_assoc}
use Rattle.uci_lines.specs.Orders.{IsReady}
use Rattle.line_io.specs.Out.{Text, with}
use Rattle.option_map.specs.WaitingOrders.Held.{held_batch_text, held_order_line}
use Rattle.desk_rules.proofs.Batches.{batch_lines, ready_size}
use Rattle.desk_rules.proofs.orders.put_batch.Goals as goal

pub put_order-requires : goal.put_order-requires
put_order-requires c =
    let out = c.args.out.now in
    let held = c.args.held.now in
    omega (
      arith,
      c.requires,
      c.facts.ensures.short,
      ap (λ (t : Text). length t.text) c.write.ensures,
      ap (λ (t : Text). t.room) c.write.ensures,
      length-append out.text (held_batch_text held),
      ready_size,
    )

pub returns-clause-lines : goal.returns-clause-lines
returns-clause-lines c =
    let out = c.args.out.now in
    let held = c.args.held.now in
    c.put_order.ensures ∙ ap (λ (t : Text). with t (held_order_line IsReady)) c.write.ensures
    ∙ ap (λ (l : List ℕ). let t : Text = record { text = l; room = out.room } in t) (append_assoc out.text (held_batch_text held) (held_order_line IsReady) ∙ ap (λ (l : List ℕ). out.text ++ l) (batch_lines held))

pub returns-clause-short : goal.returns-clause-short
returns-clause-short c =
    let held = c.args.held.now in
    omega (arith, c.facts.ensures.short, ap length (batch_lines held), length-append (held_batch_text held) (held_order_line IsReady), ready_size)
