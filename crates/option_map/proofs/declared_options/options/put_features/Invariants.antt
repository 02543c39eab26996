use Rattle.std.proofs.Common.{◌≡◌, map, length}
use Rattle.std.specs.List.{AllByRecursion}
use Rattle.line_io.specs.Out.{with}
use Rattle.option_map.specs.DeclaredOptions.Settings.{features}
use Rattle.option_map.specs.DeclaredOptions.Stored.{setting_in, stored_settings_in, IsKindIn}
use Rattle.option_map.proofs.declared_options.options.put_features.Given as goal

abbrev pub invariant-loop-stored : goal.invariant-loop-stored
invariant-loop-stored l =
    (goal.iterator-loop-stored).can_next l.stored-iterator × (goal.iterator-loop-stored).is_finite l.stored-iterator
    × (with l.out (features (map (setting_in l.texts) l.stored-iterator)) ≡ with l.fn.out (features (stored_settings_in l.texts l.table.entries)))
    × AllByRecursion (λ s. IsKindIn (length l.texts) s.kind) l.stored-iterator
