-- Before `uciok` no more than a new game is asked for, and no option counts.
use Rattle.std.proofs.Common.{◌≡◌, ℕ, List, [], ◌∷◌, ◌++◌, map, codes, Bool, true, false, not, cond, Option, Some, None, Result, Ok, Err, refl, ap, subst, sym, ◌∙◌, inl, inr}
use Rattle.std.specs.Option.{option_to_list}
use Rattle.chess_board.specs.Position.{Position}
use Rattle.fen_text.specs.declared.fault.FenFault.{FenFault}
use Rattle.fen_text.specs.Fen.{position_of}
use Rattle.cecp_lines.specs.Messages.{IfaceMsg}
use Rattle.cecp_lines.specs.Messages as says
use Rattle.uci_lines.specs.Orders.{Order}
use Rattle.uci_lines.specs.Orders as orders
use Rattle.option_map.specs.DeclaredOptions.Names.{same_text}
use Rattle.option_map.specs.DeclaredOptions.Settings.{OptionSetting}
use Rattle.option_map.specs.WaitingOrders.Asked.{asked}
use Rattle.option_map.specs.WaitingOrders.Held.{held_list_with, with_orders}
use Rattle.desk_rules.specs.declared.desk.Desk.{Desk}
use Rattle.desk_rules.specs.Desk.{Situation, table, analyses, is_boot, is_gone, ponder_name, analyse_name}
use Rattle.desk_rules.specs.Lines.{check_order, asks_for_mode, order_asked_by, asks_of, asks, change, desk_at_position}
use Rattle.desk_rules.specs.Steps.{Effect, Accepts, Boots, desk_after_effect}
use Rattle.desk_rules.specs.Orders.{asked_by_effect, orders_waiting}
use Rattle.desk_rules.specs.Fits.{OnlyNewGameIsHeld}

abbrev pub IsBoots : Effect → Type 0
IsBoots Boots = Unit {0}
IsBoots d = ⊥

-- WHAT A LINE ASKS WHERE NO OPTION COUNTS

-- a new game or nothing
abbrev IsNewGame : Option Order → Type 0
IsNewGame None = Unit {0}
IsNewGame (Some orders.NewGame) = Unit {0}
IsNewGame (Some order) = ⊥

no_order : (o : Option Order) → o ≡ None → IsNewGame o
no_order o e = subst IsNewGame (sym e) tt

pub reports_none : (os : List OptionSetting) (name : List ℕ) (on : Bool) → os ≡ [] → check_order os name on ≡ None
reports_none os name on e = ap (λ (l : List OptionSetting). check_order l name on) e

mode_none : (os : List OptionSetting) (before after : Bool) → os ≡ [] → asks_for_mode os before after ≡ None
mode_none os false true e = reports_none os analyse_name true e
mode_none os true false e = reports_none os analyse_name false e
mode_none os true true e = refl
mode_none os false false e = refl

either_none : (b : Bool) → order_asked_by (Ok (cond b None None)) ≡ None
either_none true = refl
either_none false = refl

sets_none : (m : IfaceMsg) → order_asked_by (asked [] m) ≡ None
sets_none (says.EgtPath kind path) = either_none (same_text (codes "nalimov") kind)
sets_none m = refl

set_none : (os : List OptionSetting) (m : IfaceMsg) → os ≡ [] → order_asked_by (asked os m) ≡ None
set_none os m e = ap (λ (l : List OptionSetting). order_asked_by (asked l m)) e ∙ sets_none m

desk_first : (d : Desk) (m : IfaceMsg) → table d ≡ [] → IsNewGame (asks_of d m)
desk_first d says.New e = tt
desk_first d says.Force e = no_order (asks_for_mode (table d) (analyses d.mode) false) (mode_none (table d) (analyses d.mode) false e)
desk_first d says.Go e = no_order (asks_for_mode (table d) (analyses d.mode) false) (mode_none (table d) (analyses d.mode) false e)
desk_first d says.PlayOther e = no_order (asks_for_mode (table d) (analyses d.mode) false) (mode_none (table d) (analyses d.mode) false e)
desk_first d says.Analyze e = no_order (asks_for_mode (table d) (analyses d.mode) true) (mode_none (table d) (analyses d.mode) true e)
desk_first d says.Exit e = no_order (asks_for_mode (table d) (analyses d.mode) false) (mode_none (table d) (analyses d.mode) false e)
desk_first d says.Result e = no_order (asks_for_mode (table d) (analyses d.mode) false) (mode_none (table d) (analyses d.mode) false e)
desk_first d says.Hard e = no_order (check_order (table d) ponder_name true) (reports_none (table d) ponder_name true e)
desk_first d says.Easy e = no_order (check_order (table d) ponder_name false) (reports_none (table d) ponder_name false e)
desk_first d m e = no_order (order_asked_by (asked (table d) m)) (set_none (table d) m e)

gone_first : (gone : Bool) (o : Option Order) → IsNewGame o → IsNewGame (cond gone None o)
gone_first true o h = tt
gone_first false o h = h

asks_first : (gone : Bool) (d : Desk) (m : IfaceMsg) → table d ≡ [] → IsNewGame (asks gone d m)
unfolding asks
asks_first gone d m e = gone_first gone (asks_of d m) (desk_first d m e)

-- WHAT IS HELD THEN

-- a new game takes the place of a new game
joined_first : (held : List Order) → OnlyNewGameIsHeld held → OnlyNewGameIsHeld (held_list_with held orders.NewGame)
joined_first held (inl e) = inr (ap (λ (os : List Order). held_list_with os orders.NewGame) e)
joined_first held (inr e) = inr (ap (λ (os : List Order). held_list_with os orders.NewGame) e)

order_first : (held : List Order) (o : Option Order) → OnlyNewGameIsHeld held → IsNewGame o → OnlyNewGameIsHeld (with_orders held (option_to_list o))
order_first held None f n = f
order_first held (Some orders.NewGame) f n = joined_first held f
order_first held (Some order) f n = absurd n

pub no_table : (b : Bool) (os : List OptionSetting) → b ≡ false → cond b os [] ≡ []
no_table true os e = cc
no_table false os e = refl

-- what is held after an effect
pub orders_first : (h : Situation) (held : List Order) (d : Effect) → (IsBoots d → ⊥) → h.desk.booted ≡ false → OnlyNewGameIsHeld held → OnlyNewGameIsHeld (orders_waiting h held d)
unfolding asked_by_effect
orders_first h held (Accepts m) n b f = order_first held (asks (is_gone h.engine) h.desk m) f (asks_first (is_gone h.engine) h.desk m (no_table h.desk.booted h.desk.options b))
orders_first h held Boots n b f = absurd (n tt)
orders_first h held d n b f = f

position_booted : (d : Desk) (r : Result Position FenFault) → (desk_at_position d r).booted ≡ d.booted
position_booted d (Ok p) = refl
position_booted d (Err fault) = refl

pub line_booted : (boot : Bool) (d : Desk) (m : IfaceMsg) → (change boot d m).booted ≡ d.booted
unfolding change
line_booted boot d (says.SetBoard text) = position_booted d (position_of text)
line_booted boot d m = refl

pub effect_booted : (h : Situation) (d : Effect) → (IsBoots d → ⊥) → (desk_after_effect h d).booted ≡ h.desk.booted
unfolding desk_after_effect
effect_booted h (Accepts m) n = line_booted (is_boot h.engine) h.desk m
effect_booted h Boots n = absurd (n tt)
effect_booted h d n = refl
