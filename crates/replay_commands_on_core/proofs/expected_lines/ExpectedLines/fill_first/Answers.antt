use Rattle.std.proofs.Common.{◌≡◌, ◌∙◌, [], ◌∷◌, ◌++◌, length, length-append, ap, arith}
use Rattle.line_io.specs.Out.{Text, with}
use Rattle.script_lines.specs.StepLine.{step_number_line}
use Rattle.replay_commands_on_core.proofs.expected_lines.ExpectedLines.fill_first.Goals as goal

pub put_written-requires : goal.put_written-requires
put_written-requires c =
    let put = c.put.ensures ∙ ap (λ (t : Text). with t (10 ∷ [])) (c.write_step.ensures.written ∙ ap (λ (t : Text). with t (step_number_line 0)) c.clear.ensures) in
    let size : length c.put.new.self.text ≡ length (step_number_line 0 ++ 10 ∷ []) = ap (λ (t : Text). length t.text) put in
    let room : c.put.new.self.room ≡ 1048608 = ap (λ (t : Text). t.room) put ∙ c.self.invariant.1 in
    omega (arith, size, room, length-append (step_number_line 0) (10 ∷ []), c.write_step.ensures.short, c.requires.iface, c.requires.engine)
