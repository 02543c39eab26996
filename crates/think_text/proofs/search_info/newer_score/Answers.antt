use Rattle.uci_lines.specs.Info.{info_of}
use Rattle.think_text.proofs.Heard.{score_small}
use Rattle.think_text.proofs.search_info.newer_score.Goals as goal

pub value_of-requires : goal.value_of-requires
value_of-requires c = score_small (info_of c.args.info.now) c.in-Some.score c.requires c.in-Some.is
