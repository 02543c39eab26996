use Rattle.std.specs.Prelude.{codes}
use Rattle.option_map.specs.DeclaredOptions.Settings.{option_by_name}
use Rattle.option_map.proofs.DeclaredOptions.Short.{features_length, orders_short, range_seen}
use Rattle.option_map.proofs.declared_options.options.Options.facts.Goals as goal

pub returns-clause-orders : goal.returns-clause-orders
returns-clause-orders c =
    let os = c.args.self.now in
    orders_short os (range_seen c.find-hash.result (option_by_name (codes "Hash") os) c.find-hash.ensures.setting c.find-hash.ensures.range)
    (range_seen c.find-threads.result (option_by_name (codes "Threads") os) c.find-threads.ensures.setting c.find-threads.ensures.range)

pub returns-clause-features : goal.returns-clause-features
returns-clause-features c = features_length c.args.self.now
