use Rattle.std.proofs.Common.{◌≡◌, ◌++◌, ◌∷◌, [], List, ℕ, true, length, ap, ◌∙◌, arith, length-append}
use Rattle.line_io.specs.Out.{Text}
use Rattle.line_io.specs.Lines.{parts_by_feed}
use Rattle.desk_rules.specs.Early.{may_wait}
use Rattle.desk_rules.proofs.EarlyLines.{kept_more, fed_length, waits_short}
use Rattle.desk_rules.proofs.early.Early.add.Goals as goal

pub put-requires : goal.put-requires
put-requires c =
    let line = c.args.line.now in
    let old = parts_by_feed c.self.inside.texts.text in
    let waits : may_wait old line ≡ true = ap (λ (ls : List (List ℕ)). may_wait ls line) c.self.view_is ∙ c.requires.room in
    omega (arith, waits_short old line waits, fed_length old line, ap length c.self.invariant.closed, c.self.invariant.room)

pub put-requires-2 : goal.put-requires-2
put-requires-2 c =
    let line = c.args.line.now in
    let old = parts_by_feed c.self.inside.texts.text in
    let waits : may_wait old line ≡ true = ap (λ (ls : List (List ℕ)). may_wait ls line) c.self.view_is ∙ c.requires.room in
    omega (
      arith,
      waits_short old line waits,
      fed_length old line,
      ap length c.self.invariant.closed,
      c.self.invariant.room,
      ap (λ (t : Text). length t.text) c.put.ensures,
      ap (λ (t : Text). t.room) c.put.ensures,
      length-append c.self.inside.texts.text line,
    )

pub invariant_of-self : goal.invariant_of-self
invariant_of-self c =
    let text = ap (λ (t : Text). t.text) c.put-2.ensures ∙ ap (λ (t : Text). t.text ++ 10 ∷ []) c.put.ensures in
    let more = kept_more c.self.inside.texts.text c.put-2.new.self.text c.args.line.now c.self.invariant.closed text c.requires.line in
    record {
      closed = more.closed;
      count = omega (arith, c.self.invariant.count, ap length more.lines, length-append (parts_by_feed c.self.inside.texts.text) (c.args.line.now ∷ []));
      room = ap (λ (t : Text). t.room) c.put-2.ensures ∙ ap (λ (t : Text). t.room) c.put.ensures ∙ c.self.invariant.room;
    }

pub returns : goal.returns
returns c =
    let text = ap (λ (t : Text). t.text) c.put-2.ensures ∙ ap (λ (t : Text). t.text ++ 10 ∷ []) c.put.ensures in
    let more = kept_more c.self.inside.texts.text c.put-2.new.self.text c.args.line.now c.self.invariant.closed text c.requires.line in
    more.lines ∙ ap (λ (ls : List (List ℕ)). ls ++ c.args.line.now ∷ []) c.self.view_is
