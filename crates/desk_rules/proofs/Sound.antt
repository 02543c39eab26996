-- The invariant of the desk between steps stays.
use Rattle.std.proofs.Common.{◌≡◌, ℕ, List, Bool, true, false, cond, Option, Some, None, Result, Ok, Err, refl}
use Rattle.std.specs.Prelude.{IfSome}
use Rattle.chess_board.specs.declared.board.Move.{Move}
use Rattle.chess_board.specs.Place.{legal}
use Rattle.chess_board.specs.Position.{Position}
use Rattle.chess_board.proofs.LegalMoves.{is_legal}
use Rattle.fen_text.specs.declared.fault.FenFault.{FenFault}
use Rattle.fen_text.specs.Fen.{position_of}
use Rattle.cecp_lines.specs.Messages.{IfaceMsg}
use Rattle.cecp_lines.specs.Messages as says
use Rattle.cecp_lines.specs.Reading.{CanBeRead}
use Rattle.cecp_lines.specs.Replies.{IsWritable}
use Rattle.cecp_lines.proofs.Spellings.{reading_spells}
use Rattle.uci_lines.specs.Orders.{Order}
use Rattle.game_record.specs.Game.{Game, ply_of, current_position, IsPlayablePly}
use Rattle.clock_map.specs.declared.clocks.Clocks.{Clocks}
use Rattle.clock_map.specs.Clocks.{ClocksAreShort, after_new}
use Rattle.clock_map.proofs.Messages.{stay_short}
use Rattle.think_text.specs.declared.search_info.SearchInfo.{SearchInfo}
use Rattle.think_text.specs.Kept.{nothing_seen}
use Rattle.think_text.proofs.Legal.{stays_writable}
use Rattle.option_map.proofs.DeclaredOptions.Usable.{stay_declared}
use Rattle.desk_rules.specs.declared.desk.Desk.{Desk}
use Rattle.desk_rules.specs.Desk.{Situation, is_boot, game_played}
use Rattle.desk_rules.specs.Lines.{change, desk_at_position}
use Rattle.desk_rules.specs.Steps.{Effect, Accepts, Defers, Declares, Boots, Dies, Thinks, Shows, hint_after, searched_by, feature_style, desk_after_effect, desk_after, clears_seen, begins_epoch}
use Rattle.desk_rules.specs.Fits.{EffectFitsDesk, DeskInvariant}
use Rattle.desk_rules.proofs.EarlyLines.{early_more, none_early, early_left}

-- a hint that counts can be played
hint_counts : (g : Game) (m : Move) (b : Bool) → legal (current_position g) m ≡ b → IfSome (cond b (Some m) None) (λ m. IsPlayablePly (current_position g) (ply_of m))
hint_counts g m true e = is_legal (current_position g) m e
hint_counts g m false e = tt

hint_sound : (g : Game) (hint : Option Move) → IfSome (hint_after g hint) (λ m. IsPlayablePly (current_position g) (ply_of m))
hint_sound g None = tt
hint_sound g (Some m) = hint_counts g m (legal (current_position g) m) refl

new_short : (c : Clocks) → ClocksAreShort c → ClocksAreShort (after_new c)
new_short c s = record { control = s.control; moves = s.moves; base = s.base; increment = s.increment; depth = tt; engine = s.base; opponent = s.base }

position_sound : (d : Desk) (r : Result Position FenFault) → DeskInvariant d → DeskInvariant (desk_at_position d r)
position_sound d (Ok p) s = record { hint = tt; clocks = s.clocks; current = s.current; options = s.options; early = s.early }
position_sound d (Err fault) s = s

change_sound : (boot : Bool) (d : Desk) (m : IfaceMsg) → CanBeRead m → DeskInvariant d → DeskInvariant (change boot d m)
unfolding change
change_sound boot d says.New r s = record { hint = tt; clocks = new_short d.clocks s.clocks; current = s.current; options = s.options; early = s.early }
change_sound boot d (says.UserMove m) r s = record { hint = tt; clocks = s.clocks; current = s.current; options = s.options; early = s.early }
change_sound boot d says.Undo r s = record { hint = tt; clocks = s.clocks; current = s.current; options = s.options; early = s.early }
change_sound boot d says.Remove r s = record { hint = tt; clocks = s.clocks; current = s.current; options = s.options; early = s.early }
change_sound boot d (says.SetBoard text) r s = position_sound d (position_of text) s
change_sound boot d (says.Level mps base_ms inc_ms) r s =
    record { hint = s.hint; clocks = stay_short d.clocks (says.Level mps base_ms inc_ms) s.clocks r; current = s.current; options = s.options; early = s.early }
change_sound boot d (says.St ms) r s = record { hint = s.hint; clocks = stay_short d.clocks (says.St ms) s.clocks r; current = s.current; options = s.options; early = s.early }
change_sound boot d (says.Sd n) r s = record { hint = s.hint; clocks = stay_short d.clocks (says.Sd n) s.clocks r; current = s.current; options = s.options; early = s.early }
change_sound boot d (says.Time n) r s = record { hint = s.hint; clocks = stay_short d.clocks (says.Time n) s.clocks r; current = s.current; options = s.options; early = s.early }
change_sound boot d (says.Otim n) r s = record { hint = s.hint; clocks = stay_short d.clocks (says.Otim n) s.clocks r; current = s.current; options = s.options; early = s.early }
change_sound boot d m r s = record { hint = s.hint; clocks = s.clocks; current = s.current; options = s.options; early = s.early }

-- after an effect
pub stays_sound : (h : Situation) (held : List Order) (d : Effect) → DeskInvariant h.desk → EffectFitsDesk h held d → DeskInvariant (desk_after_effect h d)
unfolding desk_after_effect
stays_sound h held (Accepts m) s f = change_sound (is_boot h.engine) h.desk m (f.line, reading_spells f.line m f.reads) s
stays_sound h held (Defers line) s f =
    record { hint = s.hint; clocks = s.clocks; current = s.current; options = s.options; early = early_more h.desk.early line s.early f.is_line f.waits }
stays_sound h held Boots s f = record { hint = s.hint; clocks = s.clocks; current = s.current; options = s.options; early = none_early }
stays_sound h held Dies s f = record { hint = s.hint; clocks = s.clocks; current = s.current; options = s.options; early = none_early }
stays_sound h held (Declares name shape) s f =
    record { hint = s.hint; clocks = s.clocks; current = s.current; options = stay_declared (feature_style h.settings) h.desk.options f.2.line name shape s.options f.2.is_line f.2.says; early = s.early }
stays_sound h held (Thinks k facts) s f =
    record { hint = s.hint; clocks = s.clocks; current = stays_writable h.desk.search_info facts (current_position (searched_by k h.desk.game h.desk.hint)) s.current; options = s.options; early = s.early }
stays_sound h held (Shows best hint) s f = record { hint = hint_sound (game_played h.desk.game best) hint; clocks = s.clocks; current = s.current; options = s.options; early = s.early }
stays_sound h held d s f = record { hint = s.hint; clocks = s.clocks; current = s.current; options = s.options; early = s.early }

cleared_sound : (b : Bool) (search_info : SearchInfo) → IfSome search_info.current IsWritable → IfSome (cond b nothing_seen search_info).current IsWritable
cleared_sound true search_info s = tt
cleared_sound false search_info s = s

-- after the step
pub step_sound : (closed owes hits : Bool) (h : Situation) (held : List Order) (d : Effect) → DeskInvariant h.desk → EffectFitsDesk h held d → DeskInvariant (desk_after closed owes hits h d)
step_sound closed owes hits h held d s f =
    let t = stays_sound h held d s f in
    record { hint = t.hint; clocks = t.clocks; current = cleared_sound (clears_seen (begins_epoch h d) hits) (desk_after_effect h d).search_info t.current; options = t.options; early = early_left closed (desk_after_effect h d).early t.early }
