use Rattle.std.proofs.Common.{ap, ◌++◌, ◌∷◌, []}
use Rattle.uci_lines.specs.Choices.{values}
use Rattle.option_map.specs.DeclaredOptions.Choices.{with_quotes}
use Rattle.option_map.proofs.FeatureLists.Rooms.{room_here}
use Rattle.option_map.proofs.declared_options.storing.put_plain.Goals as goal

pub put_quoted-requires : goal.put_quoted-requires
put_quoted-requires c =
    room_here c.loop-value.out c.args.out.now (c.in-Some.value.now ++ 34 ∷ []) (with_quotes (values c.in-Some.after.now)) (with_quotes (values c.loop-value.others.now)) (with_quotes (values c.args.text.now))
    (ap with_quotes c.in-Some.ensures.first) c.loop-value.invariant c.requires
