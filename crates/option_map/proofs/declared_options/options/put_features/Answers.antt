use Rattle.std.proofs.Common.{ap, sym, ◌∙◌, ◌++◌, subst, map, length, List}
use Rattle.std.specs.List.{AllByRecursion}
use Rattle.line_io.specs.Out.{with}
use Rattle.option_map.specs.declared.declared_options.stored.Stored.{Stored}
use Rattle.option_map.specs.DeclaredOptions.Settings.{OptionSetting, features, feature_text}
use Rattle.option_map.specs.DeclaredOptions.Stored.{setting_in, stored_settings_in, setting_seen, IsKindIn}
use Rattle.option_map.proofs.WaitingOrders.Kept.{values_seen, values_within}
use Rattle.option_map.proofs.FeatureLists.Rooms.{room_here, put_on}
use Rattle.option_map.proofs.declared_options.options.put_features.Goals as goal

pub loop-stored-init : goal.loop-stored-init
loop-stored-init c =
    let texts = c.args.texts.now in
    let n = length texts in
    let es = c.args.table.now.entries in
    let rest = c.into_iter-stored-iterator.ensures.into_iter_gives ∙ c.values-stored-items.ensures.rest in (
      tt,
      tt,
      ap (λ (vs : List Stored). with c.args.out.now (features (map (setting_in texts) vs))) rest ∙ ap (λ (os : List OptionSetting). with c.args.out.now (features os)) (values_seen texts es),
      subst (λ (vs : List Stored). AllByRecursion (λ (o : Stored). IsKindIn n o.kind) vs) (sym rest) (values_within n es c.requires.stored),
    )

pub put_feature-requires : goal.put_feature-requires
put_feature-requires c =
    let texts = c.args.texts.now in
    let more = features (map (setting_in texts) c.next.new.self) in
    room_here c.loop-stored.out c.args.out.now (feature_text (setting_seen c.setting_in.result)) more (features (map (setting_in texts) c.loop-stored.stored-iterator)) (features (stored_settings_in texts c.args.table.now.entries))
    (ap (λ (vs : List Stored). features (map (setting_in texts) vs)) c.in-Some.ensures.steps ∙ ap (λ (o : OptionSetting). feature_text o ++ more) (sym c.setting_in.ensures.setting)) c.loop-stored.invariant.2 c.requires.room

pub loop-stored-preserved : goal.loop-stored-preserved
loop-stored-preserved c =
    let texts = c.args.texts.now in
    let n = length texts in
    let more = features (map (setting_in texts) c.next.new.self) in (
      tt,
      tt,
      put_on c.loop-stored.out c.args.out.now c.put_feature.new.out (feature_text (setting_seen c.setting_in.result)) more (features (map (setting_in texts) c.loop-stored.stored-iterator)) (features (stored_settings_in texts c.args.table.now.entries))
          c.put_feature.ensures (ap (λ (vs : List Stored). features (map (setting_in texts) vs)) c.in-Some.ensures.steps ∙ ap (λ (o : OptionSetting). feature_text o ++ more) (sym c.setting_in.ensures.setting)) c.loop-stored.invariant.2,
      (subst (λ (vs : List Stored). AllByRecursion (λ (o : Stored). IsKindIn n o.kind) vs) c.in-Some.ensures.steps c.loop-stored.invariant.3).1,
    )
