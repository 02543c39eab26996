use Rattle.std.proofs.Common.{◌≡◌, ◌++◌, ◌∷◌, [], length, List, ℕ, ap, sym, ◌∙◌, subst, arith, true}
use Rattle.line_io.specs.Out.{Text}
use Rattle.uci_lines.specs.Orders.{Order}
use Rattle.option_map.specs.WaitingOrders.Held.{held_list_with}
use Rattle.option_map.specs.declared.declared_options.keeping.KeptOrder.{KeptOrder}
use Rattle.option_map.specs.DeclaredOptions.Data.{setup_seen}
use Rattle.option_map.specs.WaitingOrders.Held.{held_orders_staying, held_batch_text, held_order_can_join}
use Rattle.option_map.specs.WaitingOrders.KeptOrders.{orders_in, KeptOrdersAreIn}
use Rattle.option_map.proofs.WaitingOrders.KeptOrders.{join_few, join_short, join_room}
use Rattle.option_map.proofs.waiting_orders.held.HeldOrders.add_order.Goals as goal

pub put_staying-requires-clause-room : goal.put_staying-requires-clause-room
put_staying-requires-clause-room c =
    let asked = setup_seen c.args.asked in
    let held = orders_in c.self.inside.texts.text c.self.inside.orders.items in
    let may : held_order_can_join held asked ≡ true = ap (λ (h : List Order). held_order_can_join h asked) c.self.view_is ∙ c.requires in
    let same : orders_in c.bytes.result.now c.as_slice.result.now ≡ held = ap (λ (t : List ℕ). orders_in t c.as_slice.result.now) c.bytes.ensures.text ∙ ap (orders_in c.self.inside.texts.text) c.as_slice.ensures.value in
    omega (arith, ap (λ (t : Text). length t.text) c.clear.ensures, ap (λ (t : Text). t.room) c.clear.ensures, c.self.invariant.other, ap (λ (l : List Order). length (held_batch_text (held_orders_staying asked l))) same, join_room held asked may)

pub put-requires-clause-few : goal.put-requires-clause-few
put-requires-clause-few c =
    let asked = setup_seen c.args.asked in
    let held = orders_in c.self.inside.texts.text c.self.inside.orders.items in
    let may : held_order_can_join held asked ≡ true = ap (λ (h : List Order). held_order_can_join h asked) c.self.view_is ∙ c.requires in
    let same : orders_in c.bytes.result.now c.as_slice.result.now ≡ held = ap (λ (t : List ℕ). orders_in t c.as_slice.result.now) c.bytes.ensures.text ∙ ap (orders_in c.self.inside.texts.text) c.as_slice.ensures.value in
    omega (arith, c.put_staying.ensures.few, ap length c.new-orders.ensures, ap (λ (l : List Order). length (held_orders_staying asked l)) same, join_few held asked may)

pub put-requires-clause-room : goal.put-requires-clause-room
put-requires-clause-room c =
    let asked = setup_seen c.args.asked in
    let held = orders_in c.self.inside.texts.text c.self.inside.orders.items in
    let may : held_order_can_join held asked ≡ true = ap (λ (h : List Order). held_order_can_join h asked) c.self.view_is ∙ c.requires in
    let same : orders_in c.bytes.result.now c.as_slice.result.now ≡ held = ap (λ (t : List ℕ). orders_in t c.as_slice.result.now) c.bytes.ensures.text ∙ ap (orders_in c.self.inside.texts.text) c.as_slice.ensures.value in
    omega (arith, c.put_staying.ensures.length, c.put_staying.ensures.room, ap (λ (t : Text). length t.text) c.clear.ensures, ap (λ (t : Text). t.room) c.clear.ensures, c.self.invariant.other, ap (λ (l : List Order). length (held_batch_text (held_orders_staying asked l))) same, join_room held asked may)

pub invariant_of-self : goal.invariant_of-self
invariant_of-self c =
    let asked = setup_seen c.args.asked in
    let held = orders_in c.self.inside.texts.text c.self.inside.orders.items in
    let may : held_order_can_join held asked ≡ true = ap (λ (h : List Order). held_order_can_join h asked) c.self.view_is ∙ c.requires in
    let same : orders_in c.bytes.result.now c.as_slice.result.now ≡ held = ap (λ (t : List ℕ). orders_in t c.as_slice.result.now) c.bytes.ensures.text ∙ ap (orders_in c.self.inside.texts.text) c.as_slice.ensures.value in
    let stayed : orders_in c.put_staying.new.texts.text c.put_staying.new.orders.items ≡ held_orders_staying asked held =
    c.put_staying.ensures.orders ∙ ap (λ (os : List KeptOrder). orders_in c.clear.new.self.text os ++ held_orders_staying asked (orders_in c.bytes.result.now c.as_slice.result.now)) c.new-orders.ensures
    ∙ ap (λ (l : List Order). held_orders_staying asked l) same in
    let after : orders_in c.put.new.texts.text c.put.new.orders.items ≡ held_list_with held asked = c.put.ensures.orders ∙ ap (λ (l : List Order). l ++ asked ∷ []) stayed in
    let swapped : c.swap.new.x ≡ c.put.new.texts = c.swap.ensures.x_after in
    record {
      within = subst (λ (t : Text). KeptOrdersAreIn (length t.text) c.put.new.orders.items) (sym swapped) c.put.ensures.within;
      few = omega (arith, c.put.ensures.few, c.put_staying.ensures.few, ap length c.new-orders.ensures, ap (λ (l : List Order). length (held_orders_staying asked l)) same, join_few held asked may);
      fits = omega (arith, ap (λ (t : Text). length (held_batch_text (orders_in t.text c.put.new.orders.items))) swapped, ap (λ (l : List Order). length (held_batch_text l)) after, join_short held asked may);
      room = omega (arith, ap (λ (t : Text). t.room) swapped, c.put.ensures.room, c.put_staying.ensures.room, ap (λ (t : Text). t.room) c.clear.ensures, c.self.invariant.other);
      other = ap (λ (t : Text). t.room) c.swap.ensures.y_after ∙ c.self.invariant.room;
    }
