use Rattle.std.proofs.Common.{◌≡◌, ◌∙◌, [], sym, true, subst, map}
use Rattle.clap.specs.Words.{App, HasKind, HasMatchesOf, Kinds, fault_of, is_simple_and_free}
use Rattle.bridge_command_line.proofs.Reading.{is_free, is_plain, faults_are, values_are}
use Rattle.bridge_command_line.proofs.wineravine_request.find_in.Goals as goal

pub returns-in-Ok-clause-found : goal.returns-in-Ok-clause-found
returns-in-Ok-clause-found c =
    let arguments = map (λ s. s.now) c.args.texts.now in
    let matches = subst (λ (a : App). HasMatchesOf a arguments c.in-Ok.found) c.in_ok-command.ensures c.in-Ok.ensures.matches in
    (matches is_plain).0 ∙ sym (values_are arguments)

pub returns-in-Ok-clause-taken : goal.returns-in-Ok-clause-taken
returns-in-Ok-clause-taken c =
    let arguments = map (λ s. s.now) c.args.texts.now in
    faults_are arguments
    ∙ subst (λ (a : App). is_simple_and_free a ≡ true → fault_of a arguments ≡ []) c.in_ok-command.ensures c.in-Ok.ensures.kinds is_free

pub returns-in-Err-clause-fails : goal.returns-in-Err-clause-fails
returns-in-Err-clause-fails c =
    let arguments = map (λ s. s.now) c.args.texts.now in
    subst (λ (k : Kinds). HasKind k c.in-Err.error) (sym (faults_are arguments))
    (subst (λ (a : App). is_simple_and_free a ≡ true → HasKind (fault_of a arguments) c.in-Err.error) c.in_ok-command.ensures c.in-Err.ensures.kinds is_free)
