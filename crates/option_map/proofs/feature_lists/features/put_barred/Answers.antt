use Rattle.std.proofs.Common.{ap, List, ℕ}
use Rattle.std.specs.List.{flat_map}
use Rattle.option_map.specs.DeclaredOptions.Choices.{with_bars, choices_in}
use Rattle.option_map.proofs.FeatureLists.Rooms.{room_here}
use Rattle.option_map.proofs.feature_lists.features.put_barred.Goals as goal

pub put_bars_before-requires : goal.put_bars_before-requires
put_bars_before-requires c =
    room_here c.loop-choice.out c.args.out.now (with_bars c.in-Some.choice.now) (flat_map with_bars (choices_in c.in-Some.after.now)) (flat_map with_bars (choices_in c.loop-choice.others.now)) (flat_map with_bars (choices_in c.args.choices.now))
    (ap (λ (cs : List (List ℕ)). flat_map with_bars cs) c.in-Some.ensures.first) c.loop-choice.invariant c.requires
