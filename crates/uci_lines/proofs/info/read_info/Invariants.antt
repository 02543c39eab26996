use Rattle.std.proofs.Common.{◌≡◌, length}
use Rattle.protocol_tokens.specs.Tokens.{tokens}
use Rattle.uci_lines.specs.Info.{info_of}
use Rattle.uci_lines.specs.Writable.{can_write}
use Rattle.uci_lines.specs.Infos.{facts_from, no_facts}
use Rattle.uci_lines.proofs.info.read_info.Given as goal

abbrev pub invariant-loop-word : goal.invariant-loop-word
invariant-loop-word l = record {
  same : facts_from (info_of l.info) (tokens l.others) ≡ facts_from no_facts (tokens l.fn.text);
  officer : can_write l.info.current;
}

abbrev pub decreases-loop-word : goal.decreases-loop-word
decreases-loop-word l = length l.others
