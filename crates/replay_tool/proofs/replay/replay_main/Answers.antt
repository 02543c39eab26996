use Rattle.replay_tool.proofs.Commands as does
use Rattle.replay_tool.proofs.replay.replay_main.Goals as goal

pub returns-clause-usage : goal.returns-clause-usage
returns-clause-usage g c = does.usage _ _ _ _ _ _ _ (does.at_code _ _ _ _ _ _ _ _ c.code.ensures c.run_arguments.ensures)

pub returns-clause-memory : goal.returns-clause-memory
returns-clause-memory g c = does.memory _ _ _ _ _ _ _ (does.at_code _ _ _ _ _ _ _ _ c.code.ensures c.run_arguments.ensures)

pub returns-clause-replay : goal.returns-clause-replay
returns-clause-replay g c = does.replayed _ _ _ _ _ _ _ (does.at_code _ _ _ _ _ _ _ _ c.code.ensures c.run_arguments.ensures)

pub returns-clause-check : goal.returns-clause-check
returns-clause-check g c = does.checked _ _ _ _ _ _ _ (does.at_code _ _ _ _ _ _ _ _ c.code.ensures c.run_arguments.ensures)

pub returns-clause-migrate : goal.returns-clause-migrate
returns-clause-migrate g c = does.migrated _ _ _ _ _ _ _ (does.at_code _ _ _ _ _ _ _ _ c.code.ensures c.run_arguments.ensures)

pub returns-clause-migrate_own : goal.returns-clause-migrate_own
returns-clause-migrate_own g c = does.migrated_own _ _ _ _ _ _ _ (does.at_code _ _ _ _ _ _ _ _ c.code.ensures c.run_arguments.ensures)

pub returns-clause-judge : goal.returns-clause-judge
returns-clause-judge g c = does.judged _ _ _ _ _ _ _ (does.at_code _ _ _ _ _ _ _ _ c.code.ensures c.run_arguments.ensures)

pub returns-clause-judge_engine : goal.returns-clause-judge_engine
returns-clause-judge_engine g c = does.engine_judged _ _ _ _ _ _ _ (does.at_code _ _ _ _ _ _ _ _ c.code.ensures c.run_arguments.ensures)

pub returns-clause-judge_own : goal.returns-clause-judge_own
returns-clause-judge_own g c = does.judged_own _ _ _ _ _ _ _ (does.at_code _ _ _ _ _ _ _ _ c.code.ensures c.run_arguments.ensures)

pub returns-clause-judge_tap : goal.returns-clause-judge_tap
returns-clause-judge_tap g c = c.taps_are_clean.ensures

pub returns-clause-revive : goal.returns-clause-revive
returns-clause-revive g c = does.revived _ _ _ _ _ _ _ (does.at_code _ _ _ _ _ _ _ _ c.code.ensures c.run_arguments.ensures)

pub returns-clause-drive : goal.returns-clause-drive
returns-clause-drive g c = does.driven _ _ _ _ _ _ _ (does.at_code _ _ _ _ _ _ _ _ c.code.ensures c.run_arguments.ensures)

pub returns-clause-drive_own : goal.returns-clause-drive_own
returns-clause-drive_own g c = does.driven_ordered _ _ _ _ _ _ c.engines_hear_the_ordered.ensures _ (does.at_code _ _ _ _ _ _ _ _ c.code.ensures c.run_arguments.ensures)

pub returns-clause-games : goal.returns-clause-games
returns-clause-games g c = does.games_written _ _ _ _ _ _ _ (does.at_code _ _ _ _ _ _ _ _ c.code.ensures c.run_arguments.ensures)

pub returns-clause-positions : goal.returns-clause-positions
returns-clause-positions g c = does.positions_written _ _ _ _ _ _ _ (does.at_code _ _ _ _ _ _ _ _ c.code.ensures c.run_arguments.ensures)

pub returns-clause-moves : goal.returns-clause-moves
returns-clause-moves g c = does.listed _ _ _ _ _ _ _ (does.at_code _ _ _ _ _ _ _ _ c.code.ensures c.run_arguments.ensures)

pub returns-clause-drill : goal.returns-clause-drill
returns-clause-drill g c = does.drilled _ _ _ _ _ _ _ (does.at_code _ _ _ _ _ _ _ _ c.code.ensures c.run_arguments.ensures)
