use Rattle.clap.specs.Words.{found_of}
use Rattle.clap.proofs.WalkLemmas.{one_text-rows}
use Rattle.bridge_command_line.proofs.Numbers.{number_of}
use Rattle.bridge_command_line.proofs.found.number.Goals as goal

pub returns-clause-value : goal.returns-clause-value
returns-clause-value c =
    number_of c.args.least c.args.most c.args.usual _ _ c.get_one.result c.within.result (one_text-rows (found_of c.args.found.now) c.args.name.now) c.get_one.ensures.none c.get_one.ensures.value c.within.ensures.value
