use Rattle.std.proofs.Common.{subst, arith}
use Rattle.random_games.specs.Stood.{RoundsPlayed}
use Rattle.random_games.proofs.Rounds.{none_yet, one_more}
use Rattle.random_games.proofs.round.Drill.play_rounds.Goals as goal

pub loop-init : goal.loop-init
loop-init c = record { rounds = none_yet c.args.self.now; talking = c.requires.talking; few = omega arith }

pub loop-preserved : goal.loop-preserved
loop-preserved c = record {
  rounds = subst (λ n. RoundsPlayed n c.args.self.now c.round.new.self) (omega arith) (one_more c.loop.counter c.args.self.now c.loop.self c.round.new.self c.loop.invariant.rounds c.round.ensures.round);
  talking = c.round.ensures.talking;
  few = omega (arith, c.round.ensures.few, c.loop.invariant.few);
}
