use Rattle.std.proofs.Common.{◌≡◌, ◌∙◌, ℕ, List, Option, inl, inr, refl, ap, subst, string_bytes}
use Rattle.line_io.specs.Source.{Received}
use Rattle.program_lifecycle.specs.Outside.{outside_of}
use Rattle.program_lifecycle.specs.Program.{IsReportedTo}
use Rattle.program_lifecycle.proofs.Causes as causes
use Rattle.program_command_line.specs.Arguments.Request.{argument_bytes_of}
use Rattle.bridge_command_line.specs.WineravineArguments.{Ask, IsRunnable, wineravine_argument_values, wineravine_log_folder, wineravine_log_name}
use Rattle.bridge_command_line.specs.declared.wineravine_request.AskedProgram.{AskedProgram}
use Rattle.wineravine_runner.specs.LogNames.{new_log_name, place_in}
use Rattle.wineravine_runner.specs.Program.{engine_named, not_started}
use Rattle.wineravine_runner.proofs.Parts.{head_named, shown}
use Rattle.wineravine_runner.proofs.main_call.answer.Goals as goal

pub returns-in-Ok-Help-clause-did : goal.returns-in-Ok-Help-clause-did
returns-in-Ok-Help-clause-did g c =
    let asked = subst (λ (a : AskedProgram). Ask (argument_bytes_of c.args.call.now.arguments.now) a) c.in-Ok-Help.field-0-is c.in-Ok-Help.ensures.asked in
    inl (asked, shown _ _ _ _ _ _ _ c.as_bytes.ensures.value refl c.show.ensures)

pub returns-in-Ok-version_line-clause-did : goal.returns-in-Ok-version_line-clause-did
returns-in-Ok-version_line-clause-did g c =
    let asked = subst (λ (a : AskedProgram). Ask (argument_bytes_of c.args.call.now.arguments.now) a) c.in-Ok-Version.field-0-is c.in-Ok-Version.ensures.asked in
    inr (inl (asked, shown _ _ _ _ _ _ _ (c.as_slice.ensures.value ∙ c.in-Ok-version_line.ensures) refl c.show-in-Ok-version_line.ensures))

pub returns-in-Err-clause-did : goal.returns-in-Err-clause-did
returns-in-Err-clause-did g c =
    inr (inr (inr (inr (record {
      nothing = refl;
      code_is = c.refuse_for_memory-in-Err.ensures.status;
      reported = c.refuse_for_memory-in-Err.ensures.reported;
    }))))

pub returns-in-Err-NoMemory-clause-did : goal.returns-in-Err-NoMemory-clause-did
returns-in-Err-NoMemory-clause-did g c =
    inr (inr (inr (inr (record {
      nothing = refl;
      code_is = c.refuse_for_memory-in-Err-NoMemory.ensures.status;
      reported = c.refuse_for_memory-in-Err-NoMemory.ensures.reported;
    }))))

pub returns-in_default-clause-did : goal.returns-in_default-clause-did
returns-in_default-clause-did g c =
    inr (inr (inr (inr (record {
      nothing = refl;
      code_is = c.refuse_for_memory.ensures.status;
      reported = c.refuse_for_memory.ensures.reported;
    }))))

pub run_asked-failures-requires-clause-log : goal.run_asked-failures-requires-clause-log
run_asked-failures-requires-clause-log g c κs within =
    let arguments = argument_bytes_of c.args.call.now.arguments.now in
    let rows = wineravine_argument_values arguments in
    let number = c.args.call.now.process_id in
    let request = c.in-Ok-Run.request in
    let runnable : IsRunnable arguments request =
    subst (λ (a : AskedProgram). Ask arguments a) c.in-Ok-Run.field-0-is c.in-Ok-Run.ensures.asked in
    let engine : c.as_str.result.now ≡ engine_named arguments =
    c.as_str.ensures.value ∙ ap string_bytes c.index.ensures
    ∙ head_named string_bytes request.engine.items c.index.result.now _ _ runnable.asked.engine in
    let name : c.as_str-in-Ok-Run.result.now ≡ new_log_name (engine_named arguments) number =
    c.as_str-in-Ok-Run.ensures.value ∙ c.in-Ok.ensures.name ∙ ap (λ (e : List ℕ). new_log_name e number) engine in
    c.log_place.ensures
    ∙ ap (λ (f : Option (List ℕ)). place_in f (string_bytes request.log_name) c.as_str-in-Ok-Run.result.now) runnable.asked.log_folder
    ∙ ap (λ (t : List ℕ). place_in (wineravine_log_folder rows) t c.as_str-in-Ok-Run.result.now) runnable.asked.log
    ∙ ap (place_in (wineravine_log_folder rows) (wineravine_log_name rows)) name

pub returns-in-Ok-clause-did : goal.returns-in-Ok-clause-did
returns-in-Ok-clause-did g c =
    let arguments = argument_bytes_of c.args.call.now.arguments.now in
    let runnable : IsRunnable arguments c.in-Ok-Run.request =
    subst (λ (a : AskedProgram). Ask arguments a) c.in-Ok-Run.field-0-is c.in-Ok-Run.ensures.asked in
    let left =
    outside_of g.I.Source.state g.O.Sink.state g.H.Host.faults g.H.Host.ledger c.run_asked-failures.new.interface c.run_asked-failures.new.host in
    let name : c.as_str.result.now ≡ engine_named arguments =
    c.as_str.ensures.value ∙ ap string_bytes c.index.ensures
    ∙ head_named string_bytes c.in-Ok-Run.request.engine.items c.index.result.now _ _ runnable.asked.engine in
    let line : c.as_slice-line.result.now ≡ not_started (engine_named arguments) =
    c.as_slice-line.ensures.value ∙ c.in-Ok.ensures.line ∙ ap not_started name in
    inr (inr (inr (inl (
      runnable.taken,
      record {
        left = left;
        answers =
            causes.answers _ _ _ _ _ _ _ _ _ c.report.ensures.code c.report.ensures.reported
            (causes.ran _ _ _ _ _ runnable.taken
            (record {
              failures = c.run_asked-failures.result;
              first = c.of-ending.ensures;
              reported = c.run_asked-failures.ensures.runs.runs.leaves.reported;
              left = c.run_asked-failures.ensures.runs;
            }));
        only_output = refl;
        unstarted = λ z.
            subst (λ (t : List ℕ). IsReportedTo left.output (g.O.Sink.state c.report.new.output) t) line
            (c.report.ensures.unstarted z);
        else_same = λ z. ap (λ (r : Received). record left { output = r }) (ap g.O.Sink.state (c.report.ensures.quiet z));
      },
    ))))
