use Rattle.std.proofs.Common.{◌∙◌, arith, ap, length, get_or, List, ℕ, length-append}
use Rattle.line_io.specs.Out.{Text, with}
use Rattle.cecp_lines.specs.Replies as cecp
use Rattle.option_map.specs.FeatureLists.Features.{reply_line}
use Rattle.desk_rules.proofs.Rooms.{pong_more}
use Rattle.desk_rules.proofs.answers.put_pongs.Goals as goal

pub put_pong-requires : goal.put_pong-requires
put_pong-requires c = omega (arith, c.requires, c.loop-number.invariant.room, ap (λ (t : Text). t.room) c.loop-number.invariant.lines)

pub loop-number-preserved : goal.loop-number-preserved
loop-number-preserved c = record {
  lines = c.put_pong.ensures.line ∙ ap (λ (t : Text). with t (reply_line (cecp.Pong (get_or c.args.numbers.now c.loop-number.number-index 0)))) c.loop-number.invariant.lines
      ∙ ap (λ (l : List ℕ). let t : Text = record { text = l; room = c.args.out.now.room } in t) (pong_more c.args.out.now.text c.args.numbers.now c.loop-number.number-index (omega arith));
  room = omega (arith, c.loop-number.invariant.room, c.put_pong.ensures.short, ap (λ (t : Text). length t.text) c.put_pong.ensures.line, length-append c.loop-number.out.text (reply_line (cecp.Pong (get_or c.args.numbers.now c.loop-number.number-index 0))));
}
