use Rattle.std.proofs.Common.{◌≡◌, arith, ◌∙◌, ap, w64, length}
use Rattle.std.proofs.lemmas.Int.{to_z-of_z}
use Rattle.std.specs.Fmt.{signed_decimal}
use Rattle.option_map.proofs.FeatureLists.Measured.{spin_text}
use Rattle.option_map.proofs.feature_lists.measure.spin_length.Goals as goal

pub returns : goal.returns
returns c =
    let a : c.number_length.result ≡ length (signed_decimal c.args.default) = c.number_length.ensures.length ∙ ap (λ z. length (signed_decimal z)) (to_z-of_z w64 c.args.default c.ranges.default) in
    let b : c.number_length-2.result ≡ length (signed_decimal c.args.min) = c.number_length-2.ensures.length ∙ ap (λ z. length (signed_decimal z)) (to_z-of_z w64 c.args.min c.ranges.min) in
    let d : c.number_length-3.result ≡ length (signed_decimal c.args.max) = c.number_length-3.ensures.length ∙ ap (λ z. length (signed_decimal z)) (to_z-of_z w64 c.args.max c.ranges.max) in
    omega (arith, spin_text (signed_decimal c.args.default) (signed_decimal c.args.min) (signed_decimal c.args.max), a, b, d)
