use Rattle.std.proofs.Common.{◌∙◌, sym}
use Rattle.program_lifecycle.proofs.Causes as causes
use Rattle.bridge_runner.proofs.Whole.{whole_by}
use Rattle.bridge_runner.proofs.main_call.bridge_main.Goals as goal

pub returns-clause-answers : goal.returns-clause-answers
returns-clause-answers g c =
    causes.answers _ _ _ _ _ _ _ _ _ c.finish.ensures.status c.finish.ensures.reported c.end_of-ending.ensures.ends

pub returns-clause-status : goal.returns-clause-status
returns-clause-status g c = causes.status_says _ _ _ _ _ _ c.finish.ensures.status c.end_of-ending.ensures.ends

pub returns-clause-whole : goal.returns-clause-whole
returns-clause-whole g c z sinks_report = causes.fine _ _ _ _ _ c.end_of-ending.ensures.ends (sym c.finish.ensures.status ∙ z) (λ f run e. whole_by _ _ _ _ f run e sinks_report)

pub returns-clause-unstarted : goal.returns-clause-unstarted
returns-clause-unstarted g c z =
    causes.unstarted _ _ _ _ _ c.end_of-ending.ensures.ends (sym c.finish.ensures.status ∙ z) (λ f asked e. let leaves = asked.runs.leaves in leaves.nothing (leaves.unstarted e))
