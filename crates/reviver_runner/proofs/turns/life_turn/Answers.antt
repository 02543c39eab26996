use Rattle.reviver_runner.proofs.LifeSteps.{lives_on}
use Rattle.reviver_runner.proofs.TurnSteps.{continues, keeps_turn}
use Rattle.reviver_runner.proofs.turns.life_turn.Goals as goal

pub returns-clause-keeps : goal.returns-clause-keeps
returns-clause-keeps g c =
    keeps_turn _ _ _ c.requires.ready c.one_life-end.ensures.sender c.one_life-end.ensures.going c.one_life-end.ensures.keeps c.after_life.ensures.from c.after_life.ensures.marks c.after_life.ensures.space

pub returns-clause-lived : goal.returns-clause-lived
returns-clause-lived g c =
    lives_on g.H.EngineSource.Source.state g.H.EngineSink.Sink.state _ _ _ _ _ _ _ _ _ _ _ _ _ _ _ c.one_life-end.ensures.looped c.after_life.ensures.ended c.one_life-end.ensures.read
    c.push_back_reserved.ensures.items c.with.ensures.read c.with.ensures.write c.with.ensures.memory

pub returns-clause-next : goal.returns-clause-next
returns-clause-next g c =
    continues _ _ _ _ _ c.one_life-end.ensures.looped.events c.after_life.result c.push_back_reserved.ensures.len c.requires.goes c.one_life-end.ensures.looped.played.up.state_is c.after_life.ensures.ended.follows
