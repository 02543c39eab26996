use Rattle.cecp_engine_lines.proofs.Exact.{reported_exact}
use Rattle.cecp_engine_lines.proofs.reply_read.read_reply.Goals as goal

pub returns : goal.returns
returns c = record {
  value = c.read_longer.ensures;
  reported = reported_exact c.args.line.now c.read_longer.result c.read_longer.ensures;
}
