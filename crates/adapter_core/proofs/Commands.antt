-- The commands of a message and the causes of its refusal, by the parts of the desk that the interface commands.
use Rattle.std.proofs.Common.{◌≡◌, ℕ, List, [], length, Bool, true, false, not, ◌&&◌, nat_le, Option, Some, None, Ok, Err, refl, sym, ap, ◌∙◌}
use Rattle.cecp_lines.specs.Messages.{IfaceMsg}
use Rattle.cecp_lines.specs.Messages as says
use Rattle.cecp_lines.specs.declared.reply.Reason.TheVariants as reasons
use Rattle.uci_lines.specs.Orders.{Order, uci_order_text}
use Rattle.game_record.specs.Game.{Game, game_from}
use Rattle.option_map.specs.DeclaredOptions.Settings.{OptionSetting}
use Rattle.option_map.specs.WaitingOrders.Asked.{asked}
use Rattle.policy_rules.specs.declared.setting_rules.settings.Settings.{Settings}
use Rattle.desk_rules.specs.declared.mode.Mode.{Mode}
use Rattle.desk_rules.specs.declared.effect.Refusal.{Refusal}
use Rattle.desk_rules.specs.declared.effect.Refusal.TheVariants as refusals
use Rattle.desk_rules.specs.declared.desk.Desk.{Desk}
use Rattle.desk_rules.specs.Desk.{Situation, opening_desk, table, analyses, is_gone, owes_move, ponder_name, analyse_name}
use Rattle.desk_rules.specs.Early.{is_setting}
use Rattle.desk_rules.specs.Lines.{asks, asks_for_mode, or_else, reason_where, needs_engine, needs_analysis, lacks_moves, illegal_move, move_too_many, illegal_position, refused_option, does_not_fit, pings_too_often, refusal, desk_at_position, change}
use Rattle.desk_rules.proofs.Firsts.{reports_none}
use Rattle.adapter_core.specs.Alone.{Commanded, commanded_part}

-- WHAT A MESSAGE COMMANDS

-- a desk with these parts
as_desk : Commanded → Desk
as_desk c = record opening_desk { game = c.game; mode = c.mode; post = c.post; pondering = c.pondering; clocks = c.clocks; pings = c.pings }

set_position : (d d' : Desk) (r : _) → commanded_part d ≡ commanded_part d' → commanded_part (desk_at_position d r) ≡ commanded_part (desk_at_position d' r)
set_position d d' (Ok p) e = ap (λ (c : Commanded). let x : Commanded = record c { game = game_from p } in x) e
set_position d d' (Err fault) e = e

changed : (boot : Bool) (d : Desk) (m : IfaceMsg) → commanded_part (change boot d m) ≡ commanded_part (change false (as_desk (commanded_part d)) m)
unfolding change as_desk
changed boot d (says.SetBoard text) = set_position d (as_desk (commanded_part d)) _ refl
changed boot d m = refl

-- the same message changes the same
pub alike_changed : (boot boot' : Bool) (d d' : Desk) (m : IfaceMsg) → commanded_part d ≡ commanded_part d' → commanded_part (change boot d m) ≡ commanded_part (change boot' d' m)
alike_changed boot boot' d d' m e = changed boot d m ∙ ap (λ (c : Commanded). commanded_part (change false (as_desk c) m)) e ∙ sym (changed boot' d' m)

-- SETTINGS

-- the messages that set options change nothing
pub setting_changes : (boot : Bool) (d : Desk) (m : IfaceMsg) → is_setting m ≡ true → change boot d m ≡ d
unfolding change
setting_changes boot d (says.SetOption name value) e = refl
setting_changes boot d (says.Memory n) e = refl
setting_changes boot d (says.Cores n) e = refl
setting_changes boot d (says.EgtPath kind path) e = refl
setting_changes boot d m e = cc

-- other messages set none
pub plain_option : (os : List OptionSetting) (m : IfaceMsg) → is_setting m ≡ false → refused_option (asked os m) ≡ None
plain_option os (says.SetOption name value) e = cc
plain_option os (says.Memory n) e = cc
plain_option os (says.Cores n) e = cc
plain_option os (says.EgtPath kind path) e = cc
plain_option os m e = refl

-- REFUSALS

abbrev pings_by : Bool → List ℕ → IfaceMsg → Bool
pings_by owes pings (says.Ping n) = owes && nat_le 64 (length pings)
pings_by owes pings m = false

pings_are : (h : Situation) (m : IfaceMsg) → pings_too_often h m ≡ pings_by (owes_move h) h.desk.pings m
pings_are h (says.Ping n) = refl
pings_are h m = refl

-- why a message is refused, by the settings, the parts that the interface commands, whether the engine is Gone and a Move is owed, and what is said of options
pub refused_by : Settings → Bool → Game → Mode → List ℕ → Bool → Option Refusal → Option Refusal → IfaceMsg → Option Refusal
refused_by o gone g mode pings owes option fit m =
    or_else (reason_where (needs_engine o m && gone) reasons.EngineEnded)
    (or_else (reason_where (needs_analysis m && not (analyses mode)) reasons.NotAnalyzing)
    (or_else (reason_where (lacks_moves g m) reasons.NoMoveToUndo)
    (or_else (illegal_move g m)
    (or_else (move_too_many g m)
    (or_else (illegal_position m)
    (or_else option
    (or_else fit
    (reason_where (pings_by owes pings m) reasons.TooManyPings))))))))

abbrev pub option_refusal : Situation → IfaceMsg → Option Refusal
option_refusal h m = refused_option (asked (table h.desk) m)

abbrev pub fit_refusal : Situation → List Order → IfaceMsg → Option Refusal
fit_refusal h held m = reason_where (does_not_fit held (asks (is_gone h.engine) h.desk m)) reasons.TooManySettings

pub refusal_is : (h : Situation) (held : List Order) (m : IfaceMsg)
    → refusal h held m ≡ refused_by h.settings (is_gone h.engine) h.desk.game h.desk.mode h.desk.pings (owes_move h) (option_refusal h m) (fit_refusal h held m) m
unfolding refusal refused_by
refusal_is h held m =
    ap (λ (b : Bool). or_else (reason_where (needs_engine h.settings m && is_gone h.engine) reasons.EngineEnded)
    (or_else (reason_where (needs_analysis m && not (analyses h.desk.mode)) reasons.NotAnalyzing)
    (or_else (reason_where (lacks_moves h.desk.game m) reasons.NoMoveToUndo)
    (or_else (illegal_move h.desk.game m)
    (or_else (move_too_many h.desk.game m)
    (or_else (illegal_position m)
    (or_else (option_refusal h m)
    (or_else (fit_refusal h held m)
    (reason_where b reasons.TooManyPings))))))))) (pings_are h m)

-- refused for too many settings
abbrev pub is_full_refusal : Option Refusal → Bool
is_full_refusal (Some (refusals.Because reasons.TooManySettings)) = true
is_full_refusal o = false

behind : (a x y : Option Refusal) → (is_full_refusal x ≡ false → x ≡ y) → is_full_refusal (or_else a x) ≡ false → or_else a x ≡ or_else a y
behind None x y f n = f n
behind (Some r) x y f n = refl

fits_last : (b : Bool) (x : Option Refusal) → is_full_refusal (or_else (reason_where b reasons.TooManySettings) x) ≡ false → or_else (reason_where b reasons.TooManySettings) x ≡ or_else None x
fits_last true x n = cc
fits_last false x n = refl

-- where that is not so, the settings do not matter
pub unfilled : (o : Settings) (gone : Bool) (g : Game) (mode : Mode) (pings : List ℕ) (owes : Bool) (option : Option Refusal) (b : Bool) (m : IfaceMsg)
    → is_full_refusal (refused_by o gone g mode pings owes option (reason_where b reasons.TooManySettings) m) ≡ false
    → refused_by o gone g mode pings owes option (reason_where b reasons.TooManySettings) m ≡ refused_by o gone g mode pings owes option None m
unfolding refused_by
unfilled o gone g mode pings owes option b m n =
    behind (reason_where (needs_engine o m && gone) reasons.EngineEnded) _ _
    (behind (reason_where (needs_analysis m && not (analyses mode)) reasons.NotAnalyzing) _ _
    (behind (reason_where (lacks_moves g m) reasons.NoMoveToUndo) _ _
    (behind (illegal_move g m) _ _
    (behind (move_too_many g m) _ _
    (behind (illegal_position m) _ _
    (behind option _ _
    (fits_last b (reason_where (pings_by owes pings m) reasons.TooManyPings)))))))) n

-- WITH NO OPTIONS

none_for_mode : (os : List OptionSetting) (before after : Bool) → os ≡ [] → asks_for_mode os before after ≡ None
none_for_mode os false true e = reports_none os analyse_name true e
none_for_mode os true false e = reports_none os analyse_name false e
none_for_mode os true true e = refl
none_for_mode os false false e = refl

-- every order fits where none is held and no option is declared
pub lone_fits : (d : Desk) (m : IfaceMsg) → table d ≡ [] → is_setting m ≡ false → does_not_fit [] (asks false d m) ≡ false
unfolding asks uci_order_text
lone_fits d says.Force e p = ap (does_not_fit []) (none_for_mode (table d) (analyses d.mode) false e)
lone_fits d says.Go e p = ap (does_not_fit []) (none_for_mode (table d) (analyses d.mode) false e)
lone_fits d says.PlayOther e p = ap (does_not_fit []) (none_for_mode (table d) (analyses d.mode) false e)
lone_fits d says.Analyze e p = ap (does_not_fit []) (none_for_mode (table d) (analyses d.mode) true e)
lone_fits d says.Exit e p = ap (does_not_fit []) (none_for_mode (table d) (analyses d.mode) false e)
lone_fits d says.Result e p = ap (does_not_fit []) (none_for_mode (table d) (analyses d.mode) false e)
lone_fits d says.Hard e p = ap (does_not_fit []) (reports_none (table d) ponder_name true e)
lone_fits d says.Easy e p = ap (does_not_fit []) (reports_none (table d) ponder_name false e)
lone_fits d m e p = cc
