use Rattle.std.proofs.Common.{ℕ, subst}
use Rattle.std.specs.Prelude.{◌≡◌}
use Rattle.replay_command_base.specs.Diagnostics.{command_status}
use Rattle.replay_command_base.specs.Ran.{FilterRan}
use Rattle.replay_command_base.specs.Streams.{filter_streams}
use Rattle.replay_command_base.specs.Filtered.{FilterEndsBy}
use Rattle.session_judge.specs.declared.talk.JudgedTalk.{JudgedTalk}
use Rattle.judge_report.specs.Judging.{judges}
use Rattle.judge_report.proofs.Judgements.{judged}
use Rattle.judge_report.proofs.Reading.{stands_fresh}
use Rattle.judge_report.proofs.run.run_judge.Goals as goal

pub run_filter-requires-clause-fresh : goal.run_filter-requires-clause-fresh
run_filter-requires-clause-fresh g c = λ listener first. stands_fresh listener c.new.result first

pub returns : goal.returns
returns g c =
    let old = filter_streams (g.I.Source.state c.args.input.now) (g.O.Sink.state c.args.output.now) (g.D.Sink.state c.args.diag.now) in
    let new = filter_streams (g.I.Source.state c.run_filter.new.input) (g.O.Sink.state c.run_filter.new.output) (g.D.Sink.state c.run_filter.new.diag) in
    judged c.args.listener ((c.run_filter.new.input ≡ c.args.input.now) × (c.run_filter.new.output ≡ c.args.output.now)) old new (command_status c.run_filter.result)
    (subst (λ (t : JudgedTalk). FilterRan (λ e. FilterEndsBy judges t ((c.run_filter.new.input ≡ c.args.input.now) × (c.run_filter.new.output ≡ c.args.output.now)) e old new) old new (command_status c.run_filter.result)) c.new.ensures.opening c.run_filter.ensures)
