-- The request that the arguments make, by the answer of the command.
use Rattle.std.proofs.Common.{◌≡◌, ◌∙◌, sym, subst, ◌⊎◌, inl, inr, List, [], ◌∷◌, true, false, Bool, refl}
use Rattle.clap.specs.Words.{Text, HasKind, IsAmong, Kinds, fault_of, is_simple, is_simple_and_free, kind_of, matches_of}
use Rattle.clap.specs.declared.error.Error.{Error}
use Rattle.clap.specs.declared.error.kind.ErrorKind.{ErrorKind}
use Rattle.clap.specs.declared.error.kind.ErrorKind.TheVariants as kinds
use Rattle.clap.specs.Simple.{built}
use Rattle.clap.specs.Walk.{nothing_held}
use Rattle.clap.proofs.OnLiterals.{clap_on_literals}
use Rattle.program_command_line.specs.Arguments.Request.{AreUtf8}
use Rattle.bridge_command_line.specs.WineravineCommand.{wineravine}
use Rattle.bridge_command_line.specs.WineravineArguments.{wineravine_argument_faults, wineravine_argument_values, has_feed_within, WineravineArgumentsAreTaken, AskFor, AreWrong, Ask, Fail, ErrorAsksFor, Blames, BlamesValues, has_two_logs}
use Rattle.bridge_command_line.specs.declared.wineravine_request.AskedProgram.{AskedProgram}
use Rattle.bridge_command_line.specs.declared.wineravine_request.AskedProgram.TheVariants as asked
use Rattle.bridge_command_line.specs.declared.wineravine_request.WrongArguments.{WrongArguments}
use Rattle.bridge_command_line.specs.declared.wineravine_request.WrongArguments.TheVariants as wrong
use Rattle.bridge_command_line.proofs.OneFault.{AreFew, of_built, only_one}

pub is_free : is_simple_and_free wineravine ≡ true
unfolding clap_on_literals
is_free = refl

pub faults_are : (arguments : List Text) → wineravine_argument_faults arguments ≡ fault_of wineravine arguments
unfolding wineravine_argument_faults
faults_are arguments = refl

pub is_plain : is_simple wineravine ≡ true
unfolding clap_on_literals
is_plain = refl

pub values_are : (arguments : List Text) → wineravine_argument_values arguments ≡ matches_of wineravine arguments
unfolding wineravine_argument_values
values_are arguments = refl

few_found : (arguments : List Text) → AreFew (wineravine_argument_faults arguments)
unfolding wineravine_argument_faults
few_found arguments = of_built (built wineravine).top refl nothing_held arguments

module _ (arguments : List Text) (utf8 : AreUtf8 arguments) (e : Error) (fails : HasKind (wineravine_argument_faults arguments) e) where
  -- an error that is not of memory has the kind of the only fault
  only_fault : (kind_of e ≡ kinds.OutOfMemory → ⊥) → wineravine_argument_faults arguments ≡ kind_of e ∷ []
  only_fault memory = elim fails [
    | inl m ↦ absurd (memory m)
    | inr among ↦ only_one (kind_of e) (wineravine_argument_faults arguments) (few_found arguments) among
  ]

  asks_for : (k : ErrorKind) → kind_of e ≡ k → (k ≡ kinds.OutOfMemory → ⊥) → AskFor k arguments
  asks_for k same other = record {
    utf8 = utf8;
    request = subst (λ (x : ErrorKind). wineravine_argument_faults arguments ≡ x ∷ []) same (only_fault (λ m. other (sym same ∙ m)));
  }

  pub asked_by : (a : AskedProgram) → ErrorAsksFor (kind_of e) a → Ask arguments a
  asked_by (asked.Run request) shows = absurd shows
  asked_by asked.Help shows = asks_for kinds.DisplayHelp shows (λ z. let bad : kinds.DisplayHelp ≡ kinds.OutOfMemory = z in cc)
  asked_by asked.Version shows = asks_for kinds.DisplayVersion shows (λ z. let bad : kinds.DisplayVersion ≡ kinds.OutOfMemory = z in cc)

  head : (k l : ErrorKind) → k ∷ [] ≡ l ∷ [] → k ≡ l
  head k l z = cc

  pub blamed_by : (w : WrongArguments) → Blames (kind_of e) w → Fail arguments w
  blamed_by wrong.NoMemory blames = tt
  blamed_by (wrong.Words text) blames =
      let only = only_fault blames.1.1 in
      record {
        no_run = λ taken. let z : [] ≡ kind_of e ∷ [] = sym taken.no_fault ∙ only in cc;
        no_help = λ help. blames.0 (head _ _ (sym only ∙ help.request));
        no_version = λ version. blames.1.0 (head _ _ (sym only ∙ version.request));
      }

-- arguments that are not UTF-8
pub not_utf8 : (arguments : List Text) (w : WrongArguments) → (AreUtf8 arguments → ⊥) → Fail arguments w
not_utf8 arguments wrong.NoMemory bad = tt
not_utf8 arguments (wrong.Words text) bad = record {
  no_run = λ taken. bad taken.utf8;
  no_help = λ help. bad help.utf8;
  no_version = λ version. bad version.utf8;
}

not_taken : (arguments : List Text) → WineravineArgumentsAreTaken arguments
    → (has_feed_within (wineravine_argument_values arguments) ≡ true) ⊎ (has_two_logs (wineravine_argument_values arguments) ≡ true) → ⊥
not_taken arguments taken (inl fed) = let z : false ≡ true = sym taken.no_feed ∙ fed in cc
not_taken arguments taken (inr two) = let z : false ≡ true = sym taken.one_log ∙ two in cc

-- a value has a line feed, or two logs are named
pub blamed_values : (arguments : List Text) (w : WrongArguments) → wineravine_argument_faults arguments ≡ [] → BlamesValues (wineravine_argument_values arguments) w → Fail arguments w
blamed_values arguments wrong.NoMemory fine blames = tt
blamed_values arguments (wrong.Words text) fine blames = record {
  no_run = λ taken. not_taken arguments taken blames;
  no_help = λ help. let z : [] ≡ kinds.DisplayHelp ∷ [] = sym fine ∙ help.request in cc;
  no_version = λ version. let z : [] ≡ kinds.DisplayVersion ∷ [] = sym fine ∙ version.request in cc;
}
