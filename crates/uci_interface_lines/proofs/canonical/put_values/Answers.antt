use Rattle.std.proofs.Common.{◌++◌, ◌∙◌, codes, sym, ap}
use Rattle.line_io.specs.Out.{with}
use Rattle.uci_lines.specs.Choices.{values}
use Rattle.uci_interface_lines.specs.Said.{spaced_text, each_value}
use Rattle.uci_interface_lines.proofs.Rooms.{room_for}
use Rattle.uci_interface_lines.proofs.canonical.put_values.Goals as goal

pub put_value-requires : goal.put_value-requires
put_value-requires c =
    room_for c.loop-value.out c.args.out.now (codes " var" ++ spaced_text c.in-Some.value.now) (each_value (values c.in-Some.after.now)) (each_value (values c.args.text.now))
    (ap (λ t. with c.loop-value.out (each_value t)) (sym c.in-Some.ensures.first) ∙ c.loop-value.invariant) c.requires
