use Rattle.std.proofs.Common.{◌≡◌, ◌↔◌, Option, Some, ℕ, sym, subst}
use Rattle.script_lines.specs.StepLine.{SpellsStep}
use Rattle.script_lines.proofs.Numerals.{step_exact}
use Rattle.script_lines.proofs.step_line.read_step.Goals as goal

pub returns-clause-exact : goal.returns-clause-exact
returns-clause-exact c = λ n. subst (λ (o : Option ℕ). (o ≡ Some n) ↔ SpellsStep c.args.line.now n) (sym c.step_in.ensures) (step_exact c.args.line.now n)
