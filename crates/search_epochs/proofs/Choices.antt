-- The choice for an open search that was not stopped, by its tests alone.
use Rattle.std.proofs.Common.{◌≡◌, Bool, true, false, if◌then◌else◌, ◌&&◌, ◌||◌, refl}
use Rattle.protocol_tokens.specs.declared.kinds.GoKind.{GoKind}
use Rattle.search_epochs.specs.declared.words.Orders.{Orders}
use Rattle.search_epochs.specs.declared.words.Orders.TheVariants as orders
use Rattle.search_epochs.specs.Dialogue.{choose_search, is_ponder, is_move_kind}

-- what holds of `ponderhit` where it hits, else of `stop` where that is due, and else of no order, holds of the order that is chosen
pub of_choice : (P : Orders → Type 0) (k : GoKind) (stale wants matches move_now : Bool)
    → ((is_ponder k && matches && wants) ≡ true → P orders.Hit)
    → ((is_ponder k && matches && wants) ≡ false → (stale || (move_now && is_move_kind k)) ≡ true → P orders.Stop)
    → ((is_ponder k && matches && wants) ≡ false → (stale || (move_now && is_move_kind k)) ≡ false → P orders.None)
    → P (choose_search k stale wants matches move_now)
of_choice P k stale wants matches move_now = by (is_ponder k && matches && wants) stale (move_now && is_move_kind k) where
  by : (hits old hurries : Bool) → (hits ≡ true → P orders.Hit) → (hits ≡ false → (old || hurries) ≡ true → P orders.Stop) → (hits ≡ false → (old || hurries) ≡ false → P orders.None)
      → P (if hits then orders.Hit else (if old then orders.Stop else (if hurries then orders.Stop else orders.None)))
  by true old hurries hit stop none = hit refl
  by false false false hit stop none = none refl refl
  by false old hurries hit stop none = stop refl refl
