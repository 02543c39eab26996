use Rattle.std.proofs.Common.{◌≤◌, Bool, cond, [], length, subst, sym, arith}
use Rattle.option_map.specs.FeatureLists.Features.{feature_list, reply_lines}
use Rattle.desk_rules.proofs.Rooms.{list_le}
use Rattle.desk_rules.proofs.desk.Desk.put_list.Goals as goal

pub write_list-requires : goal.write_list-requires
write_list-requires c = omega (arith, c.requires, list_le c.args.self.now.options c.text-then-booted.result.now c.text.ensures.short c.count.ensures.few)

pub returns-then-booted-clause-short : goal.returns-then-booted-clause-short
returns-then-booted-clause-short c =
    let os = c.args.self.now.options in
    let name = c.args.self.now.name in
    subst (λ (b : Bool). length (reply_lines (feature_list (cond b os []) name)) ≤ 67000) (sym c.if-booted.true) (list_le os name c.text.ensures.short c.count.ensures.few)
