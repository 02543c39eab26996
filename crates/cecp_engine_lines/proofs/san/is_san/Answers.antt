use Rattle.std.proofs.Common.{◌∙◌}
use Rattle.cecp_engine_lines.proofs.Sans.{forms_joined}
use Rattle.cecp_engine_lines.proofs.san.is_san.Goals as goal

pub returns : goal.returns
returns c = c.is_any_move.ensures ∙ forms_joined c.args.text.now
