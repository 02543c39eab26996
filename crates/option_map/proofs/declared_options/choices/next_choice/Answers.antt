use Rattle.std.proofs.Common.{arith}
use Rattle.option_map.proofs.DeclaredOptions.Pieces.{some_choices}
use Rattle.option_map.proofs.declared_options.choices.next_choice.Goals as goal

pub returns-else-is_empty : goal.returns-else-is_empty
returns-else-is_empty c = record {
  first = some_choices c.args.text.now c.split_at_quote.result.0.now c.split_at_quote.result.1.now (grind arith) c.split_at_quote.ensures.choice c.split_at_quote.ensures.others;
}
