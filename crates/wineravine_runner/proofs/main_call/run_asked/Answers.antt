use Rattle.std.proofs.Common.{◌∙◌, ℕ, List, sym, ap, subst, map, string_bytes}
use Rattle.program_lifecycle.specs.Outside.{outside_of}
use Rattle.program_lifecycle.proofs.Asked.{asks_reported}
use Rattle.event_loop.specs.First.{AreOpening}
use Rattle.bridge_runner.specs.Program.{BridgeRuns}
use Rattle.program_command_line.specs.Arguments.Request.{argument_bytes_of}
use Rattle.bridge_command_line.specs.WineravineArguments.{wineravine_argument_values}
use Rattle.wineravine_runner.proofs.Opening.{are_opening}
use Rattle.wineravine_runner.proofs.main_call.run_asked.Goals as goal

pub run_bridge-requires-clause-first : goal.run_bridge-requires-clause-first
run_bridge-requires-clause-first g c κs within =
    let runnable = c.requires.runnable in
    let first = c.as_slice.ensures.value ∙ runnable.asked.first in
    subst (λ (t : List ℕ). AreOpening t) (sym first) (are_opening (wineravine_argument_values (argument_bytes_of c.args.call.now.arguments.now)) runnable.taken.no_feed)

pub returns-clause-asked : goal.returns-clause-asked
returns-clause-asked g c =
    let asked = c.requires.runnable.asked in
    let reported = c.run_bridge.ensures.runs.leaves.reported in
    asks_reported _ _ _ _ _ _ _ _ _ _ (ap (map string_bytes) c.as_slice-2.ensures.value ∙ asked.engine) c.requires.log reported.engine_start reported.log c.run_bridge.ensures.asked

pub returns-clause-runs : goal.returns-clause-runs
returns-clause-runs g c =
    let runnable = c.requires.runnable in
    let settings = c.args.run.now.request.now.settings in
    let before = outside_of g.I.Source.state g.O.Sink.state g.H.Host.faults g.H.Host.ledger c.args.interface.now c.args.host.now in
    let left = outside_of g.I.Source.state g.O.Sink.state g.H.Host.faults g.H.Host.ledger c.run_bridge.new.interface c.run_bridge.new.host in
    record {
      settings = settings;
      asked = runnable.asked.settings;
      proper = runnable.proper;
      runs =
          subst (λ (t : List ℕ). BridgeRuns settings t before left c.run_bridge.result)
          (c.as_slice.ensures.value ∙ runnable.asked.first) c.run_bridge.ensures.runs;
    }
