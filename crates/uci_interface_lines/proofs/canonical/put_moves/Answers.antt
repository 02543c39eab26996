use Rattle.std.proofs.Common.{◌++◌, ◌∙◌, codes, sym, ap}
use Rattle.line_io.specs.Out.{with}
use Rattle.protocol_tokens.specs.Tokens.{tokens}
use Rattle.chess_board.specs.Text.{text_of_move}
use Rattle.uci_lines.specs.Moves.{longest_move_run}
use Rattle.uci_interface_lines.specs.Said.{each_move}
use Rattle.uci_interface_lines.proofs.Rooms.{room_for}
use Rattle.uci_interface_lines.proofs.canonical.put_moves.Goals as goal

pub put_move-requires-clause-room : goal.put_move-requires-clause-room
put_move-requires-clause-room c =
    room_for c.loop-m.out c.args.out.now (codes " " ++ text_of_move c.in-Some.m) (each_move (longest_move_run (tokens c.in-Some.after.now))) (each_move (longest_move_run (tokens c.args.pv.now)))
    (ap (λ t. with c.loop-m.out (each_move t)) (sym c.in-Some.ensures.first) ∙ c.loop-m.invariant) c.requires
