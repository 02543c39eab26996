use Rattle.std.proofs.Common.{◌∙◌, refl, sym}
use Rattle.tap_runner.proofs.Passes.{passing_first, passing_more, passed_all}
use Rattle.tap_runner.proofs.passing.hand_on.Goals as goal

pub loop-init : goal.loop-init
loop-init g c = record {
  keeps = (c.requires.sender, refl, refl);
  room = refl;
  passing = passing_first _ _ _ _ _ c.requires.part c.requires.unsent;
}

pub loop-preserved : goal.loop-preserved
loop-preserved g c = record {
  keeps = (c.pass_turn-turn.ensures.keeps.0, c.pass_turn-turn.ensures.keeps.1 ∙ c.loop.invariant.keeps.1, c.pass_turn-turn.ensures.keeps.2 ∙ c.loop.invariant.keeps.2);
  room = c.pass_turn-turn.ensures.room ∙ c.loop.invariant.room;
  passing = passing_more _ _ _ _ _ _ _ _ _ _ _ _ c.loop.invariant.passing c.pass_turn-turn.ensures.turned (sym c.is_last.ensures ∙ c.if-is_last.false);
}

pub returns-then-is_last-clause-passed : goal.returns-then-is_last-clause-passed
returns-then-is_last-clause-passed g c =
    passed_all _ _ _ _ _ _ _ _ _ _ _ _ c.loop.invariant.passing c.pass_turn-turn.ensures.turned (sym c.is_last.ensures ∙ c.if-is_last.true) _ _ c.end_pass.ensures.ends _ c.end_pass.ensures.shown _
    c.has_failed_to_read.ensures c.has_failed_to_write.ensures c.has_lacked_memory.ensures
