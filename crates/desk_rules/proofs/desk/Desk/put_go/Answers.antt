use Rattle.std.proofs.Common.{arith, [], ◌∷◌, length-append}
use Rattle.uci_lines.specs.Orders.{uci_order_text}
use Rattle.clock_map.specs.Search.{search_order}
use Rattle.clock_map.proofs.Lengths.{few_bytes}
use Rattle.desk_rules.proofs.Rooms.{put_le}
use Rattle.desk_rules.proofs.desk.Desk.put_go.Goals as goal

pub write_go-requires : goal.write_go-requires
write_go-requires c = omega (arith, c.requires.room, few_bytes c.args.request c.args.self.now.clocks c.requires.sound.clocks)

pub put-requires : goal.put-requires
put-requires c =
    let few = few_bytes c.args.request c.args.self.now.clocks c.requires.sound.clocks in
    let put = put_le c.args.out.now c.write_go.new.out (uci_order_text (search_order c.args.request c.args.self.now.clocks)) 113 c.write_go.ensures.text few in
    omega (arith, c.requires.room, put.0, put.1)

pub returns-clause-short : goal.returns-clause-short
returns-clause-short c =
    omega (arith, few_bytes c.args.request c.args.self.now.clocks c.requires.sound.clocks, length-append (uci_order_text (search_order c.args.request c.args.self.now.clocks)) (10 ∷ []))
