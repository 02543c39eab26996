-- The orders asked for fit beside the orders held.
use Rattle.std.proofs.Common.{◌≡◌, ℕ, ◌+◌, ◌*◌, ◌<◌, ◌≤◌, List, [], ◌∷◌, ◌++◌, length, Bool, true, false, not, cond, ◌&&◌, nat_le, filter, Option, Some, None, refl, sym, ap, subst, arith, length-append, inl, inr}
use Rattle.std.specs.Prelude.{IfSome, codes}
use Rattle.std.specs.Option.{option_map, option_to_list}
use Rattle.std.proofs.lemmas.Bool.Decides.{nat_tests}
use Rattle.uci_lines.specs.Orders.{Order, NewGame, uci_order_text}
use Rattle.option_map.specs.DeclaredOptions.Settings.{OptionSetting}
use Rattle.option_map.specs.DeclaredOptions.Shown.{check_named}
use Rattle.option_map.specs.WaitingOrders.Held.{held_for_same, held_orders_staying, held_list_with, with_orders, held_batch_text, held_order_can_join}
use Rattle.option_map.specs.DeclaredOptions.Spelled.{AreDeclared, OrderIsSpelled}
use Rattle.option_map.proofs.WaitingOrders.KeptOrders.{batch_first, batch_last}
use Rattle.option_map.proofs.WaitingOrders.Asking.{switches_spelled}
use Rattle.desk_rules.specs.declared.desk.Desk.{Desk}
use Rattle.desk_rules.specs.Desk.{Situation, analyses, is_gone, ponder_name, analyse_name}
use Rattle.desk_rules.specs.Early.{lines_with_feeds}
use Rattle.desk_rules.specs.Lines.{switches, check_order, asks, order_asked_by, does_not_fit, early_answer}
use Rattle.desk_rules.specs.Steps.{Effect, Accepts, Boots}
use Rattle.desk_rules.specs.Orders.{ponder_at_boot, analysis_at_boot, early_orders, asked_at_boot, asked_by_effect, AllJoin}
use Rattle.desk_rules.specs.Fits.{EffectFitsDesk, DeskInvariant, OnlyNewGameIsHeld, CanHold, OrdersAreFew}
use Rattle.desk_rules.proofs.EarlyLines.{fed_first}
use Rattle.desk_rules.proofs.EarlyOrders.{IsShortFor, early_short}
use Rattle.desk_rules.proofs.Passes.{passes}

-- an order that may be written, with its line of bounded length
abbrev IfSpelled : ℕ → Option Order → Type 0
IfSpelled most o = IfSome o (OrderIsSpelled most)

switched : (os : List OptionSetting) (name : List ℕ) (on : Bool) (o : Option (List ℕ)) → AreDeclared os → check_named name os ≡ o → IfSpelled 200 (option_map (switches on) o)
switched os name on None h e = tt
switched os name true (Some spelled) h e = switches_spelled os name spelled (codes "true") h e refl refl (omega arith)
switched os name false (Some spelled) h e = switches_spelled os name spelled (codes "false") h e refl refl (omega arith)

reports_spelled : (os : List OptionSetting) (name : List ℕ) (on : Bool) → AreDeclared os → IfSpelled 200 (check_order os name on)
reports_spelled os name on h = switched os name on (check_named name os) h refl

ponder_spelled : (d : Desk) → AreDeclared d.options → IfSpelled 200 (ponder_at_boot d)
ponder_spelled d h = reports_spelled d.options ponder_name d.pondering h

analysis_if : (b : Bool) (o : Option Order) → IfSpelled 200 o → IfSpelled 200 (cond b o None)
analysis_if true o h = h
analysis_if false o h = tt

analysis_spelled : (d : Desk) → AreDeclared d.options → IfSpelled 200 (analysis_at_boot d)
analysis_spelled d h = analysis_if (analyses d.mode) (check_order d.options analyse_name true) (reports_spelled d.options analyse_name true h)

-- FEW ORDERS

fewer_step : (b : Bool) (o : Order) (os more : List Order) → length os ≤ length more → length (held_batch_text os) ≤ length (held_batch_text more)
    → (length (cond b (o ∷ os) os) ≤ length (o ∷ more)) × (length (held_batch_text (cond b (o ∷ os) os)) ≤ length (held_batch_text (o ∷ more)))
fewer_step true o os more h k = (omega (arith, h), omega (arith, batch_first o os, batch_first o more, k))
fewer_step false o os more h k = (omega (arith, h), omega (arith, batch_first o more, k))

fewer : (p : Order → Bool) (os : List Order) → (length (filter p os) ≤ length os) × (length (held_batch_text (filter p os)) ≤ length (held_batch_text os))
fewer p [] = (omega arith, omega arith)
fewer p (o ∷ os) = let f = fewer p os in fewer_step (p o) o (filter p os) os f.0 f.1

joined_few : (n b : ℕ) (held : List Order) (order : Order) → OrdersAreFew n b held → OrdersAreFew (n + 1) (b + (length (uci_order_text order) + 1)) (held_list_with held order)
joined_few n b held order f =
    let less = fewer (λ o. not (held_for_same order o)) held in (
      omega (arith, f.0, less.0, length-append (held_orders_staying order held) (order ∷ [])),
      omega (arith, f.1, less.1, batch_last (held_orders_staying order held) order),
    )

wider_few : (n b n' b' : ℕ) (held : List Order) → n ≤ n' → b ≤ b' → OrdersAreFew n b held → OrdersAreFew n' b' held
wider_few n b n' b' held l m f = (omega (arith, f.0, l), omega (arith, f.1, m))

within : (a b : ℕ) → a ≤ 256 → b ≤ 65536 → (nat_le a 256 && nat_le b 65536) ≡ true
within a b h k = grind (arith, nat_tests)

few_join : (n b : ℕ) (held : List Order) (order : Order) → n < 256 → b + (length (uci_order_text order) + 1) ≤ 65536 → OrdersAreFew n b held → held_order_can_join held order ≡ true
few_join n b held order m l f =
    let j = joined_few n b held order f in
    within (length (held_list_with held order)) (length (held_batch_text (held_list_with held order))) (omega (arith, j.0, m)) (omega (arith, j.1, l))

-- the orders join, and so few are held then
record Join (n b : ℕ) (held asked : List Order) : Type 0 where
  join : AllJoin held asked
  few : OrdersAreFew n b (with_orders held asked)

one_joins : (n b : ℕ) (held : List Order) (o : Option Order) → n < 256 → b + 201 ≤ 65536 → OrdersAreFew n b held → IfSpelled 200 o → Join (n + 1) (b + 201) held (option_to_list o)
one_joins n b held None m l f s = record { join = tt; few = wider_few n b (n + 1) (b + 201) held (omega arith) (omega arith) f }
one_joins n b held (Some order) m l f s = record {
  join = (few_join n b held order m (omega (arith, s.short, l)) f, tt);
  few = wider_few (n + 1) (b + (length (uci_order_text order) + 1)) (n + 1) (b + 201) (held_list_with held order) (omega arith) (omega (arith, s.short)) (joined_few n b held order f);
}

-- orders that join one after the other
pub orders_append : (held xs ys : List Order) → with_orders held (xs ++ ys) ≡ with_orders (with_orders held xs) ys
orders_append held [] ys = refl
orders_append held (x ∷ xs) ys = orders_append (held_list_with held x) xs ys

both_join : (held xs ys : List Order) → AllJoin held xs → AllJoin (with_orders held xs) ys → AllJoin held (xs ++ ys)
both_join held [] ys a b = b
both_join held (x ∷ xs) ys a b = (a.0, both_join (held_list_with held x) xs ys a.1 b)

pub parts_join : (held xs ys : List Order) → AllJoin held (xs ++ ys) → AllJoin held xs × AllJoin (with_orders held xs) ys
parts_join held [] ys a = (tt, a)
parts_join held (x ∷ xs) ys a = let p = parts_join (held_list_with held x) xs ys a.1 in ((a.0, p.0), p.1)

-- the orders of early lines join
early_join : (os : List OptionSetting) (lines : List (List ℕ)) (n b : ℕ) (held : List Order) → AreDeclared os → n + length lines ≤ 255 → b + (length (lines_with_feeds lines) + 64 * length lines) ≤ 65000 → OrdersAreFew n b held
    → Join (n + length lines) (b + (length (lines_with_feeds lines) + 64 * length lines)) held (early_orders os lines)
early_join os [] n b held d m l f = record { join = tt; few = wider_few n b (n + 0) (b + (0 + 64 * 0)) held (omega arith) (omega arith) f }
early_join os (line ∷ lines) n b held d m l f = by_order (order_asked_by (early_answer os line)) (early_short os line d) (λ k c later m' l' f'. early_join os lines k c later d m' l' f') where
  by_order : (o : Option Order) → IfSome o (IsShortFor line)
      → ((k c : ℕ) (later : List Order) → k + length lines ≤ 255 → c + (length (lines_with_feeds lines) + 64 * length lines) ≤ 65000 → OrdersAreFew k c later
      → Join (k + length lines) (c + (length (lines_with_feeds lines) + 64 * length lines)) later (early_orders os lines))
      → Join (n + length (line ∷ lines)) (b + (length (lines_with_feeds (line ∷ lines)) + 64 * length (line ∷ lines))) held (option_to_list o ++ early_orders os lines)
  by_order None s joins =
      let j = joins n b held (omega (arith, m)) (omega (arith, l, fed_first line lines)) f in
      record {
        join = j.join;
        few = wider_few (n + length lines) (b + (length (lines_with_feeds lines) + 64 * length lines)) _ _ (with_orders held (early_orders os lines)) (omega arith) (omega (arith, fed_first line lines)) j.few;
      }
  by_order (Some order) s joins =
      let c = b + (length (uci_order_text order) + 1) in
      let j = joins (n + 1) c (held_list_with held order) (omega (arith, m)) (omega (arith, l, s, fed_first line lines)) (joined_few n b held order f) in
      record {
        join = (few_join n b held order (omega (arith, m)) (omega (arith, l, s, fed_first line lines)) f, j.join);
        few = wider_few (n + 1 + length lines) (c + (length (lines_with_feeds lines) + 64 * length lines)) _ _ (with_orders held (order ∷ early_orders os lines)) (omega arith) (omega (arith, s, fed_first line lines)) j.few;
      }

-- what is asked for when Boot is left joins
boot_join : (d : Desk) (held : List Order) → DeskInvariant d → OrdersAreFew 1 300 held → AllJoin held (asked_at_boot d)
boot_join d held s f =
    let early = early_join d.options d.early 1 300 held s.options (omega (arith, s.early.few)) (omega (arith, s.early.few, s.early.short)) f in
    let few = wider_few (1 + length d.early) (300 + (length (lines_with_feeds d.early) + 64 * length d.early)) 251 50000 (with_orders held (early_orders d.options d.early)) (omega (arith, s.early.few)) (omega (arith, s.early.few, s.early.short)) early.few in
    let one = one_joins 251 50000 (with_orders held (early_orders d.options d.early)) (ponder_at_boot d) (omega arith) (omega arith) few (ponder_spelled d s.options) in
    let prefix = early_orders d.options d.early ++ option_to_list (ponder_at_boot d) in
    let few' : OrdersAreFew 252 50201 (with_orders held prefix) =
    subst (OrdersAreFew 252 50201) (sym (orders_append held (early_orders d.options d.early) (option_to_list (ponder_at_boot d)))) one.few in
    both_join held prefix (option_to_list (analysis_at_boot d)) (both_join held (early_orders d.options d.early) (option_to_list (ponder_at_boot d)) early.join one.join)
    (one_joins 252 50201 (with_orders held prefix) (analysis_at_boot d) (omega arith) (omega arith) few' (analysis_spelled d s.options)).join

first_few : (held : List Order) → OnlyNewGameIsHeld held → OrdersAreFew 1 300 held
unfolding uci_order_text
first_few held (inl e) = subst (OrdersAreFew 1 300) (sym e) (omega arith, omega arith)
first_few held (inr e) = subst (OrdersAreFew 1 300) (sym e) (omega arith, omega arith)

fits_joins : (held : List Order) (o : Option Order) → does_not_fit held o ≡ false → AllJoin held (option_to_list o)
fits_joins held None e = tt
fits_joins held (Some order) e = (not_false (held_order_can_join held order) e, tt) where
  not_false : (b : Bool) → not b ≡ false → b ≡ true
  not_false true e = refl
  not_false false e = cc

-- what an effect asks for joins what is held
pub asked_join : (h : Situation) (held : List Order) (d : Effect) → DeskInvariant h.desk → EffectFitsDesk h held d → CanHold held d → AllJoin held (asked_by_effect h d)
unfolding asked_by_effect
asked_join h held (Accepts m) s f c = fits_joins held (asks (is_gone h.engine) h.desk m) (passes h held m f.passes).fits
asked_join h held Boots s f c = boot_join h.desk held s (first_few held c)
asked_join h held d s f c = tt
