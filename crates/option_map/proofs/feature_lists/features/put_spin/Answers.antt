use Rattle.std.proofs.Common.{◌≡◌, ℤ, arith, ap, w64, to_z, of_z, length, codes, List, ℕ}
use Rattle.std.proofs.lemmas.Int.{to_z-of_z}
use Rattle.std.specs.Fmt.{signed_decimal}
use Rattle.option_map.proofs.FeatureLists.Measured.{spin_text}
use Rattle.option_map.proofs.FeatureLists.Rooms.{spin_room}
use Rattle.option_map.proofs.feature_lists.features.put_spin.Goals as goal

same : (z : ℤ) → to_z w64 (of_z w64 z) ≡ z → length (signed_decimal (to_z w64 (of_z w64 z))) ≡ length (signed_decimal z)
same z e = ap (λ (n : ℤ). length (signed_decimal n)) e

pub put_number-requires-3 : goal.put_number-requires-3
put_number-requires-3 c =
    let text : ℤ → List ℕ = λ z. signed_decimal (to_z w64 (of_z w64 z)) in
    spin_room c.args.out.now c.put.new.self c.put_number.new.out c.put-2.new.self c.put_number-2.new.out c.put-3.new.self (codes " -spin ") (text c.args.default) (text c.args.min) (text c.args.max)
    c.put.ensures c.put_number.ensures c.put-2.ensures c.put_number-2.ensures c.put-3.ensures
    (omega (
      arith,
      c.requires,
      spin_text (signed_decimal c.args.default) (signed_decimal c.args.min) (signed_decimal c.args.max),
      same c.args.default (to_z-of_z w64 c.args.default c.ranges.default),
      same c.args.min (to_z-of_z w64 c.args.min c.ranges.min),
      same c.args.max (to_z-of_z w64 c.args.max c.ranges.max),
    ))
