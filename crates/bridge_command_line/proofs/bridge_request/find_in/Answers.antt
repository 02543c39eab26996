use Rattle.std.proofs.Common.{◌≡◌, ◌∙◌, [], sym, true, subst, map}
use Rattle.clap.specs.Words.{App, HasKind, HasMatchesOf, fault_of, is_simple_and_free}
use Rattle.bridge_command_line.proofs.Refused.{is_free, is_plain, faults_are, values_are, not_refused}
use Rattle.bridge_command_line.proofs.bridge_request.find_in.Goals as goal

pub returns-in-Ok-clause-found : goal.returns-in-Ok-clause-found
returns-in-Ok-clause-found c =
    let arguments = map (λ s. s.now) c.args.texts.now in
    let matches = subst (λ (a : App). HasMatchesOf a arguments c.in-Ok.found) c.in_ok-command.ensures c.in-Ok.ensures.matches in
    (matches is_plain).0 ∙ sym (values_are arguments)

pub returns-in-Ok-clause-taken : goal.returns-in-Ok-clause-taken
returns-in-Ok-clause-taken c =
    let arguments = map (λ s. s.now) c.args.texts.now in
    faults_are arguments
    ∙ subst (λ (a : App). is_simple_and_free a ≡ true → fault_of a arguments ≡ []) c.in_ok-command.ensures c.in-Ok.ensures.kinds is_free

pub returns-in-Err-clause-usage : goal.returns-in-Err-clause-usage
returns-in-Err-clause-usage c = λ u z.
    let arguments = map (λ s. s.now) c.args.texts.now in
    let fails = subst (λ (a : App). is_simple_and_free a ≡ true → HasKind (fault_of a arguments) c.in-Err.error) c.in_ok-command.ensures c.in-Err.ensures.kinds is_free in
    not_refused c.refusal_of.result c.in-Err.error _ _ c.refusal_of.ensures c.kind.ensures fails u (sym (faults_are arguments) ∙ z)
