use Rattle.std.proofs.Common.{◌≡◌, ◌∙◌, ap, arith, length}
use Rattle.line_io.specs.Out.{Text}
use Rattle.driver_state_machine.specs.Parts.{feature_parts, cut_seen}
use Rattle.cecp_driver.specs.Features.{feature_weight}
use Rattle.cecp_driver.proofs.Heard.{has_step, name_step, up_step, down_step, value_within, down_within, weighs}
use Rattle.cecp_driver.proofs.features.hear_features.Goals as goal

pub hear_cut-has-requires-clause-value : goal.hear_cut-has-requires-clause-value
hear_cut-has-requires-clause-value c =
    let i = c.loop-cut.invariant in
    value_within c.loop-cut.others.now (cut_seen c.in-Some.cut).part (cut_seen c.in-Some.cut).rest c.loop-cut.name.room c.in-Some.ensures.fits (omega (arith, i.short, i.name_room, c.requires.name))

pub hear_cut-has-requires-clause-up : goal.hear_cut-has-requires-clause-up
hear_cut-has-requires-clause-up c = c.loop-cut.invariant.up_fits

pub hear_cut-has-requires-clause-down : goal.hear_cut-has-requires-clause-down
hear_cut-has-requires-clause-down c =
    let i = c.loop-cut.invariant in
    down_within c.loop-cut.others.now (cut_seen c.in-Some.cut).part (cut_seen c.in-Some.cut).rest (length c.loop-cut.down.text) c.loop-cut.down.room c.in-Some.ensures.fits c.in-Some.ensures.named (omega (arith, i.down_fits, i.down_room, c.requires.down))

pub loop-cut-preserved : goal.loop-cut-preserved
loop-cut-preserved c =
    let i = c.loop-cut.invariant in
    let p = (cut_seen c.in-Some.cut).part in
    let rest = (cut_seen c.in-Some.cut).rest in
    let e = c.hear_cut-has.ensures in
    let all = c.in-Some.ensures.parts in
    record {
      has = has_step p c.loop-cut.has c.hear_cut-has.result (feature_parts rest) _ _ all e.has i.has;
      name = name_step p c.loop-cut.name.text c.hear_cut-has.new.name.text (feature_parts rest) _ _ all e.name i.name;
      up = up_step p c.loop-cut.has c.hear_cut-has.result c.loop-cut.name.text c.hear_cut-has.new.name.text c.loop-cut.up c.hear_cut-has.new.up (feature_parts rest) _ _ all e.has e.name e.up i.up;
      down = down_step p c.loop-cut.down c.hear_cut-has.new.down (feature_parts rest) _ _ all e.down i.down;
      name_room = e.name_room ∙ i.name_room;
      up_room = ap (λ (t : Text). t.room) e.up ∙ i.up_room;
      down_room = ap (λ (t : Text). t.room) e.down ∙ i.down_room;
      short = omega (arith, i.short, c.in-Some.ensures.shorter);
      down_fits = omega (arith, i.down_fits, e.down_short, weighs c.loop-cut.others.now p rest (omega (arith, c.in-Some.ensures.shorter)) c.in-Some.ensures.fits);
      up_fits = λ d. let s = e.silent d in let same = ap (λ (t : Text). length t.text) s.1 in let room = ap (λ (t : Text). t.room) s.1 in let fits = i.up_fits s.0 in omega (arith, same, room, fits, e.name_room);
    }
