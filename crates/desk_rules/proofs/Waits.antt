-- The orders that wait for the engine: they may be held.
use Rattle.std.proofs.Common.{◌≡◌, ℕ, ◌≤◌, List, [], ◌∷◌, ◌++◌, length, map, filter, codes, Bool, true, false, not, cond, Option, Some, None, IfSome, Result, Ok, Err, refl, ap, ◌∙◌, arith}
use Rattle.std.specs.List.{AllByRecursion}
use Rattle.std.specs.Option.{option_to_list, option_map}
use Rattle.line_io.specs.Event.{is_line}
use Rattle.cecp_lines.specs.Messages.{IfaceMsg}
use Rattle.cecp_lines.specs.Messages as says
use Rattle.cecp_lines.specs.Reading.{message_or_fault}
use Rattle.uci_lines.specs.Written.{is_trimmed_text}
use Rattle.uci_lines.specs.Orders.{Order}
use Rattle.uci_lines.specs.Orders as orders
use Rattle.uci_lines.specs.OrderReading.{is_writable_order}
use Rattle.option_map.specs.declared.declared_options.fault.OptionFault.{OptionFault}
use Rattle.option_map.specs.declared.declared_options.fault.OptionFault.TheVariants.{UnknownOption, BadValue}
use Rattle.option_map.specs.DeclaredOptions.Names.{same_text}
use Rattle.option_map.specs.DeclaredOptions.Shown.{check_named}
use Rattle.option_map.specs.WaitingOrders.Asked.{asked}
use Rattle.option_map.specs.WaitingOrders.Held.{HasNoLineFeed}
use Rattle.option_map.specs.DeclaredOptions.Spelled.{AreDeclared}
use Rattle.option_map.specs.DeclaredOptions.Settings.{OptionSetting, SettingKind, Spin, Text, option_by_name}
use Rattle.option_map.specs.WaitingOrders.Asked.{set_found, set_by, set_to, value_by, is_button, clamped, clamped_by, path_for, path_by}
use Rattle.option_map.proofs.WaitingOrders.Orders.{all_stay}
use Rattle.option_map.proofs.WaitingOrders.Asking.{asked_spelled, switches_spelled}
use Rattle.search_epochs.specs.Tickets.{AllSetup, Word}
use Rattle.desk_rules.specs.declared.desk.Desk.{Desk}
use Rattle.desk_rules.specs.Desk.{Situation, table, analyses, is_gone, ponder_name, analyse_name}
use Rattle.cecp_lines.specs.declared.iface.IfaceFault.{IfaceFault}
use Rattle.desk_rules.specs.Lines.{switch_text, switches, check_order, asks_for_mode, order_asked_by, asks_of, asks, answered_by, early_answer}
use Rattle.desk_rules.proofs.EarlyOrders.{early_all}
use Rattle.desk_rules.specs.Steps.{Effect, Accepts, Boots}
use Rattle.desk_rules.specs.Orders.{ponder_at_boot, analysis_at_boot, early_orders, asked_by_effect, orders_waiting, dialogue_word_of, IsHeld, AreHeld}
use Rattle.desk_rules.specs.Fits.{EffectFitsDesk, DeskInvariant}

-- SETTINGS

-- a new game, or the value of an option
abbrev IsSetting : Order → Type 0
IsSetting orders.NewGame = Unit {0}
IsSetting (orders.SetOption name value) = Unit {0}
IsSetting order = ⊥

set_value : (name : List ℕ) (value : Option (List ℕ)) → IfSome (order_asked_by (set_to name value)) IsSetting
set_value name None = tt
set_value name (Some value) = tt

set_button : (name : List ℕ) (b : Bool) → IfSome (order_asked_by (cond b (Ok (Some (orders.SetOption name None))) (Err BadValue))) IsSetting
set_button name true = tt
set_button name false = tt

set_option : (o : OptionSetting) (value : Option (List ℕ)) → IfSome (order_asked_by (set_by o value)) IsSetting
set_option o None = set_button o.name (is_button o.kind)
set_option o (Some value) = set_value o.name (value_by o.kind value)

unless_hidden : (b : Bool) (r : Result (Option Order) OptionFault) → IfSome (order_asked_by r) IsSetting → IfSome (order_asked_by (cond b (Err UnknownOption) r)) IsSetting
unless_hidden true r i = tt
unless_hidden false r i = i

set_named : (o : Option OptionSetting) (value : Option (List ℕ)) → IfSome (order_asked_by (set_found o value)) IsSetting
set_named None value = tt
set_named (Some o) value = unless_hidden o.hidden (set_by o value) (set_option o value)

set_spin : (name : List ℕ) (k : SettingKind) (n : ℕ) → IfSome (clamped_by name k n) IsSetting
set_spin name (Spin default min max) n = tt
set_spin name k n = tt

set_number : (o : Option OptionSetting) (n : ℕ) → IfSome (clamped o n) IsSetting
set_number None n = tt
set_number (Some o) n = set_spin o.name o.kind n

set_text : (name : List ℕ) (k : SettingKind) (path : List ℕ) → IfSome (path_by name k path) IsSetting
set_text name (Text default) path = tt
set_text name k path = tt

set_path : (o : Option OptionSetting) (path : List ℕ) → IfSome (path_for o path) IsSetting
set_path None path = tt
set_path (Some o) path = set_text o.name o.kind path

where_some : (P : Order → Type 0) (b : Bool) (o : Option Order) → IfSome o P → IfSome (cond b o None) P
where_some P true o h = h
where_some P false o h = tt

asked_sets : (os : List OptionSetting) (m : IfaceMsg) → IfSome (order_asked_by (asked os m)) IsSetting
asked_sets os (says.SetOption name value) = set_named (option_by_name name os) value
asked_sets os (says.Memory n) = set_number (option_by_name (codes "Hash") os) n
asked_sets os (says.Cores n) = set_number (option_by_name (codes "Threads") os) n
asked_sets os (says.EgtPath kind path) = where_some IsSetting (same_text (codes "nalimov") kind) (path_for (option_by_name (codes "NalimovPath") os) path) (set_path (option_by_name (codes "NalimovPath") os) path)
asked_sets os m = tt

setting_held : (o : Order) → IsSetting o → is_writable_order o ≡ true → IsHeld o
setting_held orders.NewGame s e = tt
setting_held (orders.SetOption name value) s e = e
setting_held o s e = absurd s

-- WHAT A LINE ASKS

switch_is_text : (on : Bool) → is_trimmed_text (switch_text on) ≡ true
switch_is_text true = refl
switch_is_text false = refl

switch_is_line : (on : Bool) → HasNoLineFeed (switch_text on)
switch_is_line true = refl
switch_is_line false = refl

switch_is_short : (on : Bool) → length (switch_text on) ≤ 5
switch_is_short true = omega arith
switch_is_short false = omega arith

-- what is told may be held
shown_held : (os : List OptionSetting) (name : List ℕ) (on : Bool) → AreDeclared os → IfSome (check_order os name on) IsHeld
shown_held os name on d = named (check_named name os) refl where
  named : (o : Option (List ℕ)) → check_named name os ≡ o → IfSome (option_map (switches on) o) IsHeld
  named None e = tt
  named (Some spelled) e = (switches_spelled os name spelled (switch_text on) d e (switch_is_text on) (switch_is_line on) (switch_is_short on)).fits

mode_held : (os : List OptionSetting) (before after : Bool) → AreDeclared os → IfSome (asks_for_mode os before after) IsHeld
mode_held os false true d = shown_held os analyse_name true d
mode_held os true false d = shown_held os analyse_name false d
mode_held os true true d = tt
mode_held os false false d = tt

set_held : (os : List OptionSetting) (line : List ℕ) (m : IfaceMsg) → AreDeclared os → is_line line ≡ true → message_or_fault line ≡ Ok m → IfSome (order_asked_by (asked os m)) IsHeld
set_held os line m d l r = by_answer (asked os m) refl (asked_sets os m) where
  by_answer : (a : Result (Option Order) OptionFault) → asked os m ≡ a → IfSome (order_asked_by a) IsSetting → IfSome (order_asked_by a) IsHeld
  by_answer (Ok None) e s = tt
  by_answer (Ok (Some order)) e s = setting_held order s (asked_spelled os line m order d l r e).fits
  by_answer (Err fault) e s = tt

desk_held : (d : Desk) (line : List ℕ) (m : IfaceMsg) → AreDeclared (table d) → is_line line ≡ true → message_or_fault line ≡ Ok m → IfSome (asks_of d m) IsHeld
desk_held d line says.New o l r = tt
desk_held d line says.Force o l r = mode_held (table d) (analyses d.mode) false o
desk_held d line says.Go o l r = mode_held (table d) (analyses d.mode) false o
desk_held d line says.PlayOther o l r = mode_held (table d) (analyses d.mode) false o
desk_held d line says.Analyze o l r = mode_held (table d) (analyses d.mode) true o
desk_held d line says.Exit o l r = mode_held (table d) (analyses d.mode) false o
desk_held d line says.Result o l r = mode_held (table d) (analyses d.mode) false o
desk_held d line says.Hard o l r = shown_held (table d) ponder_name true o
desk_held d line says.Easy o l r = shown_held (table d) ponder_name false o
desk_held d line m o l r = set_held (table d) line m o l r

pub table_declared : (b : Bool) (os : List OptionSetting) → AreDeclared os → AreDeclared (cond b os [])
table_declared true os d = d
table_declared false os d = tt

gone_held : (gone : Bool) (o : Option Order) → IfSome o IsHeld → IfSome (cond gone None o) IsHeld
gone_held true o h = tt
gone_held false o h = h

asks_held : (gone : Bool) (d : Desk) (line : List ℕ) (m : IfaceMsg) → AreDeclared d.options → is_line line ≡ true → message_or_fault line ≡ Ok m → IfSome (asks gone d m) IsHeld
unfolding asks
asks_held gone d line m o l r = gone_held gone (asks_of d m) (desk_held d line m (table_declared d.booted d.options o) l r)

-- WHAT WAITS

one_held : (o : Option Order) → IfSome o IsHeld → AreHeld (option_to_list o)
one_held None h = tt
one_held (Some order) h = (h, tt)

both_held : (xs ys : List Order) → AreHeld xs → AreHeld ys → AreHeld (xs ++ ys)
both_held [] ys f g = g
both_held (x ∷ xs) ys f g = (f.0, both_held xs ys f.1 g)

three_held : (xs : List Order) (a b : Option Order) → AreHeld xs → IfSome a IsHeld → IfSome b IsHeld → AreHeld (xs ++ option_to_list a ++ option_to_list b)
three_held xs a b f g h = both_held (xs ++ option_to_list a) (option_to_list b) (both_held xs (option_to_list a) f (one_held a g)) (one_held b h)

early_answer_held : (os : List OptionSetting) (line : List ℕ) (r : Result IfaceMsg IfaceFault) → AreDeclared os → is_line line ≡ true → message_or_fault line ≡ r → IfSome (order_asked_by (answered_by os r)) IsHeld
early_answer_held os line (Ok m) d l e = set_held os line m d l e
early_answer_held os line (Err fault) d l e = tt

early_held : (os : List OptionSetting) (lines : List (List ℕ)) → AreDeclared os → AllByRecursion (λ line. is_line line ≡ true) lines → AreHeld (early_orders os lines)
early_held os lines d l = early_all IsHeld os lines (each lines l) where
  each : (lines : List (List ℕ)) → AllByRecursion (λ line. is_line line ≡ true) lines → AllByRecursion (λ line. IfSome (order_asked_by (early_answer os line)) IsHeld) lines
  each [] l = tt
  each (line ∷ lines) l = (early_answer_held os line (message_or_fault line) d l.0 refl, each lines l.1)

-- what an effect asks may be held
pub asked_held : (h : Situation) (held : List Order) (d : Effect) → DeskInvariant h.desk → EffectFitsDesk h held d → AreHeld (asked_by_effect h d)
unfolding asked_by_effect
asked_held h held (Accepts m) s f = one_held (asks (is_gone h.engine) h.desk m) (asks_held (is_gone h.engine) h.desk f.line m s.options f.is_line f.reads)
asked_held h held Boots s f =
    three_held (early_orders h.desk.options h.desk.early) (ponder_at_boot h.desk) (analysis_at_boot h.desk) (early_held h.desk.options h.desk.early s.options s.early.lines)
    (shown_held h.desk.options ponder_name h.desk.pondering s.options)
    (where_some IsHeld (analyses h.desk.mode) (check_order h.desk.options analyse_name true) (shown_held h.desk.options analyse_name true s.options))
asked_held h held d s f = tt

-- what waits after an effect may be held
pub all_held : (h : Situation) (held : List Order) (d : Effect) → DeskInvariant h.desk → EffectFitsDesk h held d → AreHeld held → AreHeld (orders_waiting h held d)
all_held h held d s f a = all_stay IsHeld held (asked_by_effect h d) a (asked_held h held d s f)

held_word : (o : Order) (ws : List Word) → IsHeld o → AllSetup ws → AllSetup (dialogue_word_of o ∷ ws)
held_word orders.NewGame ws h a = a
held_word (orders.SetOption name value) ws h a = a
held_word o ws h a = absurd h

-- to the dialogue it is what is set up
pub all_setup : (os : List Order) → AreHeld os → AllSetup (map dialogue_word_of os)
all_setup [] a = tt
all_setup (o ∷ os) a = held_word o (map dialogue_word_of os) a.0 (all_setup os a.1)
