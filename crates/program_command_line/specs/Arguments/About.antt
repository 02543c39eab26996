-- The texts that the arguments of a program may ask for in place of its work.
use Rattle.std.specs.Prelude.{◌≡◌, ◌⊎◌, ℕ, List, [], ◌∷◌, ◌++◌, codes}
use Rattle.std.specs.Prelude.{if◌then◌else◌, Option, Some, None}
use Rattle.std.specs.Str.{bytes_eq}
use Rattle.std.specs.Io.KnownBytes.{Appends}
use Rattle.line_io.specs.Causes.{Rose}
use Rattle.line_io.specs.Lines.{line_feed}
use Rattle.line_io.specs.Source.{Received, TakesPrefix}
use Rattle.line_io.specs.declared.faults.Status.{Status}
use Rattle.program_command_line.specs.declared.arguments.about.About.{About}
use Rattle.program_command_line.specs.declared.arguments.about.OwnText.{OwnText}
use Rattle.program_command_line.specs.declared.arguments.about.OwnText.TheVariants as texts
use Rattle.program_command_line.specs.declared.arguments.version.TheConstants.{VERSION}

-- the text that the arguments ask for, by one word alone
abbrev pub own_text : List (List ℕ) → Option OwnText
own_text (argument ∷ []) =
    if bytes_eq argument (codes "--help") then Some texts.Help
    else (if bytes_eq argument (codes "--version") then Some texts.Version else None)
own_text arguments = None

-- the name of a program and the version
abbrev pub version_line : List ℕ → List ℕ
version_line name = name ++ codes " " ++ VERSION.now ++ line_feed ∷ []

abbrev pub text_of_about : About → OwnText → List ℕ
text_of_about about texts.Help = about.help.now
text_of_about about texts.Version = version_line about.name.now

-- the text was written
pub record AboutWrote (text : List ℕ) (before after : Received) (code : ℕ) : Type 0 where
  pub code_is : code ≡ 0
  pub written : Appends before.taken after.taken text
  pub same : after.faults ≡ before.faults

-- a prefix of it was written, and a write failed
pub record AboutFailed (text : List ℕ) (before after : Received) (code : ℕ) : Type 0 where
  pub code_is : code ≡ 5
  pub prefix : TakesPrefix before.taken after.taken text
  pub failed : Rose before.faults after.faults

-- there was no memory
pub record Lacked (before after : Received) (code : ℕ) : Type 0 where
  pub code_is : code ≡ 3
  pub nothing : after ≡ before

abbrev pub AboutIsShown : List ℕ → Received → Received → ℕ → Type 0
AboutIsShown text before after code =
    AboutWrote text before after code ⊎ (AboutFailed text before after code ⊎ Lacked before after code)

-- the text that was asked for is shown; if none was, nothing is done
abbrev pub IsShownAs : About → Option OwnText → Received → Received → Option Status → Type 0
IsShownAs about (Some text) before after (Some status) =
    AboutIsShown (text_of_about about text) before after status.code
IsShownAs about None before after None = after ≡ before
IsShownAs about (Some text) before after None = ⊥
IsShownAs about None before after (Some status) = ⊥
