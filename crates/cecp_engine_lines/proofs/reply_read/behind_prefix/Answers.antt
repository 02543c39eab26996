use Rattle.std.proofs.lemmas.Bool.Decides.{Decides-eqb}
use Rattle.std.proofs.lemmas.Slice.Eq.{strip_prefix_is}
use Rattle.cecp_engine_lines.proofs.Prefixes.{prefix_found}
use Rattle.cecp_engine_lines.proofs.reply_read.behind_prefix.Goals as goal

pub returns : goal.returns
returns c = prefix_found c.args.prefix.now c.args.line.now c.strip_prefix.result (strip_prefix_is Decides-eqb c.args.line.now c.args.prefix.now c.strip_prefix.result c.strip_prefix.ensures.cases)
