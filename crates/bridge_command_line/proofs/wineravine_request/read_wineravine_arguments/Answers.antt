use Rattle.std.proofs.Common.{◌≡◌, ◌∙◌, List, ap, subst, map}
use Rattle.std.proofs.lemmas.Result.{IfOk-weaker}
use Rattle.clap.specs.Words.{HasKind, Text}
use Rattle.program_command_line.specs.Arguments.Request.{argument_bytes_of}
use Rattle.bridge_command_line.specs.WineravineArguments.{wineravine_argument_faults}
use Rattle.bridge_command_line.proofs.Reading.{asked_by}
use Rattle.bridge_command_line.proofs.wineravine_request.read_wineravine_arguments.Goals as goal

pub returns-clause-asked : goal.returns-clause-asked
returns-clause-asked c =
    let arguments = argument_bytes_of c.args.arguments.now in
    let same : map (λ s. s.now) c.as_slice.result.now ≡ arguments = ap (map (λ s. s.now)) c.as_slice.ensures.value ∙ c.in-Ok.ensures.texts in
    let fails = subst (λ (w : List Text). HasKind (wineravine_argument_faults w) c.in-Err.error) same c.in-Err.ensures.fails in
    IfOk-weaker c.asked_by.result _ _ (asked_by arguments c.in-Ok.ensures.utf8 c.in-Err.error fails) c.asked_by.ensures.shown
