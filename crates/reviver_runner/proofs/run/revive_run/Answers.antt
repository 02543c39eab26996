use Rattle.std.proofs.Common.{◌∙◌, ap, map, string_bytes, sym, vec_items}
use Rattle.child_engine.specs.Asked.{and_engines}
use Rattle.child_engine.specs.Places.{log_file}
use Rattle.program_lifecycle.proofs.Asked.{asks_as, asks_early, asks_many}
use Rattle.reviver_runner.proofs.RunSteps.{ran_as, unstarted}
use Rattle.reviver_runner.proofs.run.revive_run.Goals as goal

pub returns-in-Ok-clause-leaves : goal.returns-in-Ok-clause-leaves
returns-in-Ok-clause-leaves g c =
    ran_as _ _ (g.I.Source.state c.args.interface.now.input) (g.O.Sink.state c.args.interface.now.output) (g.H.Host.faults c.args.host.now) (g.H.Host.faults c.start.new.host) (g.H.Host.ledger c.args.host.now) (g.H.Host.ledger c.start.new.host) _ _
    c.in-Ok.ensures.faults c.in-Ok.ensures.ledger (ap (λ s. s.lives) c.in-Ok.ensures.made.begins) c.run_started.ensures.leaves

pub returns-in-Ok-clause-asked : goal.returns-in-Ok-clause-asked
returns-in-Ok-clause-asked g c =
    asks_as _ _ _ _ _ _ _ _ (ap (λ v. map string_bytes (vec_items v)) c.in-Ok.ensures.arguments) (ap log_file c.as_str.ensures.value)
    (asks_many _ _ _ _ _ _ _ _ _ c.requires.unused c.in-Ok.ensures.ledger
    (c.in-Ok.ensures.asked ∙ ap (λ v. and_engines 1 (map string_bytes (vec_items v)) (g.H.Host.asked c.args.host.now)) (sym c.in-Ok.ensures.arguments)) c.run_started.ensures.asked)

pub returns-clause-asked : goal.returns-clause-asked
returns-clause-asked g c = asks_early _ _ _ _ _ _ _ _ _ c.requires.unused c.in-Err.ensures.unstarted c.in-Err.ensures.asked c.in-Err.ensures.early

pub returns-clause-leaves : goal.returns-clause-leaves
returns-clause-leaves g c = unstarted _ _ _ _ _ _ _ _ c.in-Err.ensures.early c.requires.unused c.in-Err.ensures.unstarted
