-- The lines of an accepted message, those of the desk before it and those of the desk after it.
use Rattle.std.proofs.Common.{◌≡◌, ◌++◌, Bool, refl, sym}
use Rattle.std.proofs.lemmas.List.{append-nil}
use Rattle.cecp_lines.specs.Messages.{IfaceMsg}
use Rattle.cecp_lines.specs.Messages as says
use Rattle.option_map.specs.WaitingOrders.Due.{protover_answer}
use Rattle.desk_rules.specs.Desk.{Situation, is_boot}
use Rattle.desk_rules.specs.Lines.{change}
use Rattle.desk_rules.specs.Replies.{protover_row, draw_row, hint_row, row_accepted, row_before, row_after}

pub rows : (boot : Bool) (h : Situation) (m : IfaceMsg) → row_accepted h m ≡ row_before h m ++ row_after (change boot h.desk m) m
unfolding row_accepted change
rows boot h (says.Protover n) = sym (append-nil (protover_row (protover_answer (is_boot h.engine)) h.desk))
rows boot h says.Draw = sym (append-nil (draw_row h))
rows boot h says.Hint = sym (append-nil (hint_row h.desk.hint))
rows boot h m = refl
