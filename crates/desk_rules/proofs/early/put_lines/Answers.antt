use Rattle.std.proofs.Common.{◌≡◌, ◌∷◌, ◌++◌, List, ℕ, ap, ◌∙◌}
use Rattle.line_io.specs.Lines.{parts_by_feed}
use Rattle.option_map.proofs.FeatureLists.Rooms.{room_here, put_on}
use Rattle.option_map.specs.FeatureLists.Features.{reply_lines}
use Rattle.desk_rules.specs.Lines.{refused_option, early_answer}
use Rattle.desk_rules.specs.Replies.{early_refusal, early_refusals}
use Rattle.desk_rules.proofs.Rooms.{lines-append}
use Rattle.desk_rules.proofs.early.put_lines.Goals as goal

-- the refusal of the first line, and those of the others
cut : (os : _) (line : List ℕ) (all rest : List (List ℕ)) → all ≡ line ∷ rest
    → reply_lines (early_refusals os all) ≡ reply_lines (early_refusal (refused_option (early_answer os line)) line) ++ reply_lines (early_refusals os rest)
cut os line all rest e =
    ap (λ (ls : List (List ℕ)). reply_lines (early_refusals os ls)) e ∙ lines-append (early_refusal (refused_option (early_answer os line)) line) (early_refusals os rest)

pub put_refusal-requires : goal.put_refusal-requires
put_refusal-requires c =
    let os = c.args.options.now in
    let line = c.in-Some.line.now in
    room_here c.loop-line.out c.args.out.now (reply_lines (early_refusal (refused_option (early_answer os line)) line)) (reply_lines (early_refusals os (parts_by_feed c.in-Some.after.now)))
    (reply_lines (early_refusals os (parts_by_feed c.loop-line.others.now))) (reply_lines (early_refusals os (parts_by_feed c.args.text.now)))
    (cut os line (parts_by_feed c.loop-line.others.now) (parts_by_feed c.in-Some.after.now) c.in-Some.ensures.first) c.loop-line.invariant c.requires

pub loop-line-preserved : goal.loop-line-preserved
loop-line-preserved c =
    let os = c.args.options.now in
    let line = c.in-Some.line.now in
    put_on c.loop-line.out c.args.out.now c.put_refusal.new.out (reply_lines (early_refusal (refused_option (early_answer os line)) line)) (reply_lines (early_refusals os (parts_by_feed c.in-Some.after.now)))
    (reply_lines (early_refusals os (parts_by_feed c.loop-line.others.now))) (reply_lines (early_refusals os (parts_by_feed c.args.text.now)))
    c.put_refusal.ensures (cut os line (parts_by_feed c.loop-line.others.now) (parts_by_feed c.in-Some.after.now) c.in-Some.ensures.first) c.loop-line.invariant
