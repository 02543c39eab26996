-- The command's answer to the arguments.
use Rattle.std.proofs.Common.{◌≡◌, ◌∙◌, List, [], true, refl, subst, inl, inr, Err, Result}
use Rattle.clap.specs.Words.{Text, HasKind, fault_of, is_simple, is_simple_and_free, kind_of, matches_of, IsAmong, Kinds}
use Rattle.clap.specs.declared.error.Error.{Error}
use Rattle.clap.specs.declared.error.kind.ErrorKind.{ErrorKind}
use Rattle.clap.specs.declared.error.kind.ErrorKind.TheVariants as kinds
use Rattle.clap.proofs.OnLiterals.{clap_on_literals}
use Rattle.bridge_command_line.specs.BridgeCommand.{bridge}
use Rattle.bridge_command_line.specs.BridgeArguments.{bridge_argument_faults, bridge_argument_values}
use Rattle.program_command_line.specs.declared.arguments.refusal.ArgumentsRefusal.{ArgumentsRefusal}
use Rattle.program_command_line.specs.declared.arguments.refusal.ArgumentsRefusal.TheVariants as refusals

pub is_free : is_simple_and_free bridge ≡ true
unfolding clap_on_literals
is_free = refl

pub is_plain : is_simple bridge ≡ true
unfolding clap_on_literals
is_plain = refl

-- an error that comes where there is no fault is want of memory
only_memory : (ks : Kinds) (e : Error) → HasKind ks e → ks ≡ [] → kind_of e ≡ kinds.OutOfMemory
only_memory ks e (inl m) z = m
only_memory ks e (inr m) z = absurd (subst (λ k. IsAmong (kind_of e) k) z m)

pub faults_are : (arguments : List Text) → bridge_argument_faults arguments ≡ fault_of bridge arguments
unfolding bridge_argument_faults
faults_are arguments = refl

pub values_are : (arguments : List Text) → bridge_argument_values arguments ≡ matches_of bridge arguments
unfolding bridge_argument_values
values_are arguments = refl

refusal : {T : Type 0} (r r' : ArgumentsRefusal) → ◌≡◌ {A = Result T ArgumentsRefusal} (Err r) (Err r') → r ≡ r'
refusal r r' e = cc

pub not_refused : {T : Type 0} (r : ArgumentsRefusal) (e : Error) (k : ErrorKind) (ks : Kinds) → (r ≡ refusals.Usage → k ≡ kinds.OutOfMemory → ⊥)
    → k ≡ kind_of e → HasKind ks e → ◌≡◌ {A = Result T ArgumentsRefusal} (Err r) (Err refusals.Usage) → ks ≡ [] → ⊥
not_refused {T} r e k ks not same h u z = not (refusal {T = T} r refusals.Usage u) (same ∙ only_memory ks e h z)
