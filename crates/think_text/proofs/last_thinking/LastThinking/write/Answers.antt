use Rattle.std.proofs.Common.{◌≤◌, ℕ, List, Option, Some, length, sym, ap, subst, ◌∙◌, arith}
use Rattle.std.specs.Prelude.{IfSome}
use Rattle.cecp_lines.specs.Replies.{reply_text}
use Rattle.think_text.specs.declared.last_thinking.LineStart.{LineStart}
use Rattle.think_text.specs.Last.{ThinkingLine, with_hint, thinking_line_from, last_line}
use Rattle.think_text.proofs.Hints.{kept_short}
use Rattle.think_text.proofs.last_thinking.LastThinking.write.Goals as goal

pub write_line-requires-clause-room : goal.write_line-requires-clause-room
write_line-requires-clause-room c =
    let short = kept_short c.self.inside.start c.in-Some.start c.self.inside.moves.text c.args.hint c.in-Some.is c.self.invariant.short c.requires.hint in
    omega (arith, ap (λ (t : List ℕ). length (reply_text (with_hint c.args.hint (thinking_line_from t c.in-Some.start)))) c.bytes.ensures.text, short, c.requires.room)

pub returns-in-Some-clause-short : goal.returns-in-Some-clause-short
returns-in-Some-clause-short c =
    let short = kept_short c.self.inside.start c.in-Some.start c.self.inside.moves.text c.args.hint c.in-Some.is c.self.invariant.short c.requires.hint in
    subst (λ (x : Option ThinkingLine). IfSome x (λ line. length (reply_text (with_hint c.args.hint line)) ≤ 104995))
    (sym (ap (λ (x : Option LineStart). last_line x c.self.inside.moves.text) c.in-Some.is) ∙ c.self.view_is) short
