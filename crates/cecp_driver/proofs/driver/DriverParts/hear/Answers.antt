use Rattle.std.proofs.Common.{◌≡◌, ◌∙◌, ap, sym, length, arith}
use Rattle.driver_state_machine.specs.Says.{engine_message_seen}
use Rattle.cecp_driver.specs.declared.driver.DriverParts.{DriverParts}
use Rattle.driver_state_machine.proofs.FeatureText.{feature_short}
use Rattle.cecp_driver.proofs.Acting.{from_cleared, heard_at, features_done, features_keeps}
use Rattle.cecp_driver.proofs.driver.DriverParts.hear.Goals as goal

pub hear_features-requires-clause-name : goal.hear_features-requires-clause-name
hear_features-requires-clause-name c =
    let short = feature_short c.args.line.now c.in-Some.text.now (sym c.read_said-said.ensures ∙ c.in-Some.ensures) in
    let room = ap (λ (v : DriverParts). v.name.room) c.clear.ensures in
    omega (arith, short, room, c.requires.keeps.name_room, c.requires.short)

pub hear_features-requires-clause-down : goal.hear_features-requires-clause-down
hear_features-requires-clause-down c =
    let short = feature_short c.args.line.now c.in-Some.text.now (sym c.read_said-said.ensures ∙ c.in-Some.ensures) in
    let room = ap (λ (v : DriverParts). v.down.room) c.clear.ensures in
    let blank = ap (λ (v : DriverParts). length v.down.text) c.clear.ensures in
    omega (arith, short, room, blank, c.requires.keeps.down_room, c.requires.short)

pub returns-in-Some-clause-hears : goal.returns-in-Some-clause-hears
returns-in-Some-clause-hears c = features_done c.args.self.now c.clear.new.self c.hear_features.new.self c.args.line.now c.in-Some.text.now (sym c.in-Some.ensures ∙ c.read_said-said.ensures) c.clear.ensures c.hear_features.ensures

pub returns-in-Some-clause-keeps : goal.returns-in-Some-clause-keeps
returns-in-Some-clause-keeps c = features_keeps c.args.self.now c.clear.new.self c.hear_features.new.self c.in-Some.text.now c.requires.keeps c.clear.ensures c.hear_features.ensures

pub hear_plain-requires-clause-keeps : goal.hear_plain-requires-clause-keeps
hear_plain-requires-clause-keeps c = from_cleared c.args.self.now c.clear.new.self c.requires.keeps c.clear.ensures

pub returns-in-None-clause-hears : goal.returns-in-None-clause-hears
returns-in-None-clause-hears c = heard_at c.args.self.now c.clear.new.self c.hear_plain.new.self c.args.line.now (engine_message_seen c.read_said-said.result) c.read_said-said.ensures c.clear.ensures c.hear_plain.ensures.heard
