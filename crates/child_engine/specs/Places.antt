-- The places of logs.
use Rattle.std.specs.Prelude.{◌≡◌, ⊤, ℕ, zero, suc, ◌<◌, ◌≤◌, Bool, true, false, if◌then◌else◌, codes}
use Rattle.std.specs.Prelude.{List, [], ◌∷◌, ◌++◌, Option, Some, None, Result, Ok, Err}
use Rattle.std.specs.Fmt.{decimal}
use Rattle.std.specs.List.{list_any}
use Rattle.std.specs.Str.{bytes_eq}
use Rattle.std.specs.Path.{slash}
use Rattle.child_engine.specs.declared.host.HostFault.{HostFault}
use Rattle.child_engine.specs.declared.places.LogPlace.{LogPlace}
use Rattle.child_engine.specs.declared.places.LogPlace.TheVariants as places
use Rattle.child_engine.specs.declared.places.TheConstants.{MOST_NEW_LOGS}

-- the place where a log is to be made: the file of this name, made anew; or a new file in this
-- folder, with this name before its number
pub data LogAsked : Type 0 where
  log_file : List ℕ → LogAsked
  new_log : List ℕ → List ℕ → LogAsked

abbrev pub asked_place : LogPlace → LogAsked
asked_place (places.File name) = log_file name.now
asked_place (places.New log) = new_log log.folder.now log.name.now

-- behind the name: nothing for the first log, `-2` for the second
abbrev pub log_number : ℕ → List ℕ
log_number zero = []
log_number (suc zero) = []
log_number (suc (suc n)) = codes "-" ++ decimal (suc (suc n))

-- the file of the log that has this number, from 1
abbrev pub numbered_log : List ℕ → List ℕ → ℕ → List ℕ
numbered_log folder name n = folder ++ slash ∷ [] ++ name ++ log_number n ++ codes ".log"

-- the names of the files and of the folders that are there
pub record Disk : Type 0 where
  pub files : List (List ℕ)
  pub folders : List (List ℕ)

abbrev pub no_disk : Disk
no_disk = record { files = []; folders = [] }

abbrev pub is_there : List ℕ → List (List ℕ) → Bool
is_there name names = list_any (bytes_eq name) names

abbrev pub and_name : List ℕ → List (List ℕ) → List (List ℕ)
and_name name names = if is_there name names then names else names ++ name ∷ []

-- with this folder too
abbrev pub with_folder : List ℕ → Disk → Disk
with_folder name disk = record disk { folders = and_name name disk.folders }

-- with this file too
abbrev pub with_file : List ℕ → Disk → Disk
with_file name disk = record disk { files = and_name name disk.files }

-- The file was made and is new, or there was one. If neither, nothing was made.
abbrev pub MakesFileOn : {F : Type 0} → List ℕ → Disk → Option Disk → Result (Option F) HostFault → Type 0
MakesFileOn name before after (Ok (Some file)) =
    (is_there name before.files ≡ false) × (after ≡ Some (with_file name before))
MakesFileOn name before after (Ok None) =
    (is_there name before.files ≡ true) × (after ≡ Some before)
MakesFileOn name before after (Err fault) = after ≡ Some before

-- the same, if it is known what is there; else it stays unknown
abbrev pub MakesFile : {F : Type 0} → List ℕ → Option Disk → Option Disk → Result (Option F) HostFault → Type 0
MakesFile name (Some before) after result = MakesFileOn name before after result
MakesFile name None after result = after ≡ None

-- Of the names with a number, this is the first that no file has.
pub record IsFirstFree (folder name : List ℕ) (files : List (List ℕ)) (number : ℕ) : Type 0 where
  pub least : 0 < number
  pub most : number ≤ MOST_NEW_LOGS
  pub free : is_there (numbered_log folder name number) files ≡ false
  pub taken : (n : ℕ) → 0 < n → n < number → is_there (numbered_log folder name n) files ≡ true

-- The folder is there, and one file more, which has the first free name.
pub record MakesFirstFree (folder name : List ℕ) (before : Disk) (after : Option Disk) : Type 0 where
  pub number : ℕ
  pub first : IsFirstFree folder name before.files number
  pub made : after ≡ Some (with_file (numbered_log folder name number) (with_folder folder before))

-- the same of a new log, if it is known what is there
abbrev pub MakesLog : List ℕ → List ℕ → Option Disk → Option Disk → Type 0
MakesLog folder name (Some before) after = MakesFirstFree folder name before after
MakesLog folder name None after = ⊤

-- the file of a log was made, anew or as the first free one
abbrev pub MakesLogAt : LogAsked → Disk → Disk → Type 0
MakesLogAt (log_file name) before after = after ≡ with_file name before
MakesLogAt (new_log folder name) before after = MakesFirstFree folder name before (Some after)
