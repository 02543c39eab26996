use Rattle.std.proofs.Common.{sym, ◌∙◌}
use Rattle.script_lines.proofs.Headers.{header_spelled, spelled_header, some_proper}
use Rattle.script_lines.proofs.header.read_header.Goals as goal

pub returns-clause-exact : goal.returns-clause-exact
returns-clause-exact c = λ s. (
  λ h. header_spelled c.args.line.now s (some_proper _ s h c.header_in.ensures.proper) (sym c.header_in.ensures.value ∙ h),
  λ h. c.header_in.ensures.value ∙ spelled_header c.args.line.now s h,
)
