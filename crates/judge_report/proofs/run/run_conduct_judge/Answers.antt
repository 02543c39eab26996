use Rattle.std.proofs.Common.{refl, subst}
use Rattle.std.specs.Prelude.{◌≡◌}
use Rattle.replay_command_base.specs.Diagnostics.{command_status}
use Rattle.replay_command_base.specs.Ran.{FilterRan}
use Rattle.replay_command_base.specs.Streams.{filter_streams}
use Rattle.replay_command_base.specs.Filtered.{FilterEndsBy}
use Rattle.replay_command_base.proofs.Outcomes.{outcome}
use Rattle.judge_report.specs.Conducts.{Tally, blames, no_tally}
use Rattle.judge_report.proofs.run.run_conduct_judge.Goals as goal

pub run_filter-requires-clause-fresh : goal.run_filter-requires-clause-fresh
run_filter-requires-clause-fresh g c = record { tally_is = refl; text_is = refl; goes_on = refl }

pub returns : goal.returns
returns g c =
    let old = filter_streams (g.I.Source.state c.args.input.now) (g.O.Sink.state c.args.output.now) (g.D.Sink.state c.args.diag.now) in
    let new = filter_streams (g.I.Source.state c.run_filter.new.input) (g.O.Sink.state c.run_filter.new.output) (g.D.Sink.state c.run_filter.new.diag) in
    let untouched : Type 0 = (c.run_filter.new.input ≡ c.args.input.now) × (c.run_filter.new.output ≡ c.args.output.now) in
    outcome blames (no_tally c.args.listener) untouched old new (command_status c.run_filter.result)
    (subst (λ (t : Tally). FilterRan (λ e. FilterEndsBy blames t untouched e old new) old new (command_status c.run_filter.result)) c.new.ensures c.run_filter.ensures)
