use Rattle.std.proofs.Common.{◌∙◌, ◌-◌, arith, sym, length}
use Rattle.san_text.proofs.Unmarked.{last_mark, last_other}
use Rattle.san_text.proofs.spelling.unmarked.Goals as goal

pub loop-rest-preserved : goal.loop-rest-preserved
loop-rest-preserved c =
    last_mark c.loop-rest.rest.now (length c.loop-rest.rest.now - 1) (omega arith) (sym c.is_mark.ensures ∙ c.if-not-is_mark.false)
    ∙ c.loop-rest.invariant

pub returns-then-not-is_mark : goal.returns-then-not-is_mark
returns-then-not-is_mark c =
    sym (last_other c.loop-rest.rest.now (length c.loop-rest.rest.now - 1) (omega arith) (sym c.is_mark.ensures ∙ c.if-not-is_mark.true))
    ∙ c.loop-rest.invariant
