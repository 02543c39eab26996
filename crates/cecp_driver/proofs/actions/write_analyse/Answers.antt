use Rattle.driver_state_machine.specs.Lines.{Analyze, driver_line_text, lines_text}
use Rattle.cecp_driver.specs.Actions.{leave_lines}
use Rattle.cecp_driver.proofs.Puts.{setup_then}
use Rattle.std.proofs.Common.{◌∷◌}
use Rattle.line_io.proofs.Puts.{put_two}
use Rattle.cecp_driver.proofs.actions.write_analyse.Goals as goal

pub returns-clause-text : goal.returns-clause-text
returns-clause-text c = setup_then c.args.out.now c.set_up.new.out c.write_leave.new.out c.args.sent_game.now c.args.game.now c.args.has_usermove _ _ (Analyze ∷ leave_lines c.args.ping) c.has_depth.ensures c.set_up.ensures.text
    (put_two c.set_up.new.out c.write_word.new.out c.write_leave.new.out (driver_line_text Analyze) (lines_text (leave_lines c.args.ping)) c.write_word.ensures.text c.write_leave.ensures)
