use Rattle.option_map.proofs.DeclaredOptions.Lists.{by_bits}
use Rattle.option_map.proofs.feature_lists.list.put_by_options.Goals as goal

pub returns : goal.returns
returns c =
    by_bits c.args.out.now c.put_memory.new.out c.put_cores.new.out c.put_tables.new.out c.args.options.now c.can_memory.result c.can_cores.result c.can_egt.result c.put_memory.ensures c.put_cores.ensures c.put_tables.ensures
    c.can_memory.ensures c.can_cores.ensures c.can_egt.ensures
