use Rattle.judge_and_driver_laws.proofs.Judge.Marked.{scripts1_are_clean, scripts2_are_clean}
use Rattle.judge_and_driver_laws.proofs.judge_laws.scripts_are_clean.Goals as goal

pub returns : goal.returns
returns c = record { version_1 = scripts1_are_clean c.args.settings; version_2 = scripts2_are_clean c.args.settings }
