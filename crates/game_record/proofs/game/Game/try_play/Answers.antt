use Rattle.std.proofs.Common.{arith}
use Rattle.std.proofs.lemmas.Grind.{common_steps}
use Rattle.game_record.proofs.game.Game.try_play.Goals as goal

pub returns-then-len-ge-MOST_PLIES-clause-long : goal.returns-then-len-ge-MOST_PLIES-clause-long
returns-then-len-ge-MOST_PLIES-clause-long c = grind (arith, common_steps)

pub play-requires-clause-room : goal.play-requires-clause-room
play-requires-clause-room c = grind (arith, common_steps)

pub returns-clause-long : goal.returns-clause-long
returns-clause-long c = grind (arith, common_steps)
