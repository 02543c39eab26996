-- Kept orders, and the room for them.
use Rattle.std.proofs.Common.{◌≡◌, ℕ, ◌+◌, ◌≤◌, List, [], ◌∷◌, ◌++◌, length, true, false, not, cond, nat_le, Option, Some, None, refl, ap, ◌∙◌, arith, length-append}
use Rattle.std.proofs.lemmas.List.{map-append}
use Rattle.std.proofs.lemmas.Bool.{leb-true, and_parts}
use Rattle.std.specs.Fmt.{signed_decimal}
use Rattle.std.specs.Option.{option_map}
use Rattle.option_map.specs.declared.waiting_orders.order.OptionValue.{OptionValue}
use Rattle.option_map.specs.declared.waiting_orders.order.OptionValue.TheVariants as value
use Rattle.option_map.specs.declared.waiting_orders.order.SetupOrder.{SetupOrder}
use Rattle.option_map.specs.declared.waiting_orders.order.SetupOrder.TheVariants as setup
use Rattle.option_map.specs.declared.declared_options.keeping.KeptValue.{KeptValue}
use Rattle.option_map.specs.declared.declared_options.keeping.KeptValue.TheVariants.{Nothing, Text, Number}
use Rattle.option_map.specs.declared.declared_options.keeping.KeptOrder.{KeptOrder}
use Rattle.option_map.specs.declared.declared_options.keeping.KeptOrder.TheVariants as kept
use Rattle.uci_lines.specs.Orders.{Order, SetOption, uci_order_text}
use Rattle.option_map.specs.DeclaredOptions.Data.{value_seen, order_size, setup_seen}
use Rattle.option_map.specs.DeclaredOptions.Stored.{text_at}
use Rattle.option_map.specs.WaitingOrders.Held.{held_for_same, held_orders_staying, held_list_with, held_batch_text, held_order_can_join}
use Rattle.option_map.specs.WaitingOrders.KeptOrders.{value_in, kept_order_in, orders_in, IsValueIn, IsOrderIn, KeptOrdersAreIn, value_bytes, setup_bytes}
use Rattle.option_map.proofs.WaitingOrders.Kept.{text_stays}
use Rattle.option_map.proofs.DeclaredOptions.Short.{order_length, button_length}

pub value_stays : (texts more : List ℕ) (v : KeptValue) → IsValueIn (length texts) v → value_in (texts ++ more) v ≡ value_in texts v
value_stays texts more Nothing h = refl
value_stays texts more (Text s) h = ap (λ (t : List ℕ). Some t) (text_stays texts more s h)
value_stays texts more (Number n) h = refl

pub order_stays : (texts more : List ℕ) (o : KeptOrder) → IsOrderIn (length texts) o → kept_order_in (texts ++ more) o ≡ kept_order_in texts o
order_stays texts more kept.NewGame h = refl
order_stays texts more (kept.Set name value) h =
    ap (λ (t : List ℕ). SetOption t (value_in (texts ++ more) value)) (text_stays texts more name h.0)
    ∙ ap (λ (v : Option (List ℕ)). SetOption (text_at texts name) v) (value_stays texts more value h.1)

pub orders_stay : (texts more : List ℕ) (os : List KeptOrder) → KeptOrdersAreIn (length texts) os → orders_in (texts ++ more) os ≡ orders_in texts os
orders_stay texts more [] h = refl
orders_stay texts more (o ∷ os) h =
    ap (λ (c : Order). c ∷ orders_in (texts ++ more) os) (order_stays texts more o h.0)
    ∙ ap (λ (cs : List Order). kept_order_in texts o ∷ cs) (orders_stay texts more os h.1)

value_wider : (n m : ℕ) (v : KeptValue) → n ≤ m → IsValueIn n v → IsValueIn m v
value_wider n m Nothing l h = tt
value_wider n m (Text s) l h = omega (arith, l, h)
value_wider n m (Number x) l h = tt

order_wider : (n m : ℕ) (o : KeptOrder) → n ≤ m → IsOrderIn n o → IsOrderIn m o
order_wider n m kept.NewGame l h = tt
order_wider n m (kept.Set name value) l h = (omega (arith, l, h.0), value_wider n m value l h.1)

-- The orders with one more are there too.
pub in_more : (n m : ℕ) (os : List KeptOrder) (o : KeptOrder) → n ≤ m → KeptOrdersAreIn n os → IsOrderIn m o → KeptOrdersAreIn m (os ++ o ∷ [])
in_more n m [] o l h k = (k, tt)
in_more n m (p ∷ os) o l h k = (order_wider n m p l h.0, in_more n m os o l h.1 k)

pub one_more_order : (texts more new : List ℕ) (os after : List KeptOrder) (o : KeptOrder) (c : Order) → new ≡ texts ++ more → after ≡ os ++ o ∷ [] → KeptOrdersAreIn (length texts) os → kept_order_in new o ≡ c → orders_in new after ≡ orders_in texts os ++ c ∷ []
one_more_order texts more new os after o c e f h is =
    ap (λ (l : List KeptOrder). orders_in new l) f
    ∙ map-append (kept_order_in new) os (o ∷ [])
    ∙ ap (λ (t : List ℕ). orders_in t os ++ kept_order_in new o ∷ []) e
    ∙ ap (λ (l : List Order). l ++ kept_order_in new o ∷ []) (orders_stay texts more os h)
    ∙ ap (λ (x : Order). orders_in texts os ++ x ∷ []) is

set_less : (name : List ℕ) (v : Option OptionValue) → length (name ++ value_bytes v) ≤ length (uci_order_text (SetOption name (option_map value_seen v)))
set_less name None = omega (arith, length-append name [], button_length name)
set_less name (Some (value.Text t)) = omega (arith, length-append name t.now, order_length name t.now)
set_less name (Some (value.Number n)) = omega (arith, length-append name [], order_length name (signed_decimal n))

-- The texts that are kept are no longer than the order.
pub bytes_less : (s : SetupOrder) → length (setup_bytes s) ≤ length (uci_order_text (setup_seen s))
bytes_less setup.NewGame = omega arith
bytes_less (setup.Set a) = set_less a.name.now a.value

-- WHAT STAYS

pub stays_here : (asked : Order) (texts : List ℕ) (all after : List KeptOrder) (o : KeptOrder) → all ≡ o ∷ after → held_for_same asked (kept_order_in texts o) ≡ false → held_orders_staying asked (orders_in texts all) ≡ kept_order_in texts o ∷ held_orders_staying asked (orders_in texts after)
stays_here asked texts all after o e h =
    let rest = held_orders_staying asked (orders_in texts after) in
    ap (λ (l : List KeptOrder). held_orders_staying asked (orders_in texts l)) e ∙ ap (λ w. cond (not w) (kept_order_in texts o ∷ rest) rest) h

pub gives_way : (asked : Order) (texts : List ℕ) (all after : List KeptOrder) (o : KeptOrder) → all ≡ o ∷ after → held_for_same asked (kept_order_in texts o) ≡ true → held_orders_staying asked (orders_in texts all) ≡ held_orders_staying asked (orders_in texts after)
gives_way asked texts all after o e h =
    let rest = held_orders_staying asked (orders_in texts after) in
    ap (λ (l : List KeptOrder). held_orders_staying asked (orders_in texts l)) e ∙ ap (λ w. cond (not w) (kept_order_in texts o ∷ rest) rest) h

pub batch_first : (c : Order) (cs : List Order) → length (held_batch_text (c ∷ cs)) ≡ length (uci_order_text c) + 1 + length (held_batch_text cs)
batch_first c cs = omega (arith, length-append (uci_order_text c ++ 10 ∷ []) (held_batch_text cs), length-append (uci_order_text c) (10 ∷ []))

pub batch_last : (cs : List Order) (c : Order) → length (held_batch_text (cs ++ c ∷ [])) ≡ length (held_batch_text cs) + (length (uci_order_text c) + 1)
batch_last [] c = omega (arith, batch_first c [])
batch_last (x ∷ xs) c = omega (arith, batch_first x (xs ++ c ∷ []), batch_first x xs, batch_last xs c)

-- an order that may join has room
pub join_few : (held : List Order) (asked : Order) → held_order_can_join held asked ≡ true → length (held_orders_staying asked held) + 1 ≤ 256
join_few held asked h =
    let all = held_list_with held asked in
    omega (arith, leb-true (length all) 256 (and_parts (nat_le (length all) 256) (nat_le (length (held_batch_text all)) 65536) h).0, length-append (held_orders_staying asked held) (asked ∷ []))

pub join_short : (held : List Order) (asked : Order) → held_order_can_join held asked ≡ true → length (held_batch_text (held_list_with held asked)) ≤ 65536
join_short held asked h =
    let all = held_list_with held asked in
    leb-true (length (held_batch_text all)) 65536 (and_parts (nat_le (length all) 256) (nat_le (length (held_batch_text all)) 65536) h).1

pub join_room : (held : List Order) (asked : Order) → held_order_can_join held asked ≡ true → length (held_batch_text (held_orders_staying asked held)) + (length (uci_order_text asked) + 1) ≤ 65536
join_room held asked h = omega (arith, join_short held asked h, batch_last (held_orders_staying asked held) asked)

-- HOW LONG AN ORDER IS

pub order_sized : (name : List ℕ) (v : Option OptionValue) → length (uci_order_text (SetOption name (option_map value_seen v))) ≡ order_size name v
order_sized name None = button_length name
order_sized name (Some (value.Text t)) = order_length name t.now
order_sized name (Some (value.Number n)) = order_length name (signed_decimal n)
