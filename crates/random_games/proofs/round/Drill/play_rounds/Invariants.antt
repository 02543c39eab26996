use Rattle.std.proofs.Common.{◌≡◌, ◌+◌, ◌*◌, ◌≤◌}
use Rattle.random_games.specs.Sent.{both_sides_open}
use Rattle.random_games.specs.Stood.{RoundsPlayed}
use Rattle.random_games.proofs.round.Drill.play_rounds.Given as goal

abbrev pub invariant-loop : goal.invariant-loop
invariant-loop l = record {
  rounds : RoundsPlayed l.counter l.fn.self l.self;
  talking : l.self.session.core.ends ≡ both_sides_open;
  few : l.self.session.tally.steps ≤ l.fn.self.session.tally.steps + 9 * l.counter;
}
