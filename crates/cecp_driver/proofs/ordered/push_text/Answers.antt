use Rattle.std.proofs.Common.{◌∙◌, sym}
use Rattle.cecp_driver.proofs.Pushing.{try_done, try_refused}
use Rattle.cecp_driver.proofs.ordered.push_text.Goals as goal

pub returns-in-Some-clause-played : goal.returns-in-Some-clause-played
returns-in-Some-clause-played c =
    try_done c.args.game.now c.try_play.new.self c.in-Some.m _ _ c.try_play.result (sym c.read_move.ensures.value ∙ c.in-Some.is) c.is_ok.ensures.value
    c.facts.ensures.few c.try_play.ensures.illegal c.try_play.ensures.long c.try_play.ensures.ok

pub returns-in-Some-clause-not : goal.returns-in-Some-clause-not
returns-in-Some-clause-not c =
    try_refused c.args.game.now c.try_play.new.self c.in-Some.m _ _ c.try_play.result (sym c.read_move.ensures.value ∙ c.in-Some.is) c.is_ok.ensures.value
    c.facts.ensures.few c.try_play.ensures.illegal c.try_play.ensures.long c.try_play.ensures.ok
