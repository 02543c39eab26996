use Rattle.judge_and_driver_laws.proofs.Judge.Scripts as scripts
use Rattle.judge_and_driver_laws.proofs.judge_laws.logs_are_clean.Goals as goal

pub returns : goal.returns
returns c = record {
  clean = scripts.logs_are_clean c.args.settings;
  apart = scripts.no_order_crosses c.args.settings;
  position = scripts.searches_the_desk c.args.settings;
}
