-- The faults of lines, and what is written where one ends them.
use Rattle.std.proofs.Common.{◌≡◌, ◌⊎◌, inl, inr, ℕ, ◌+◌, List, [], ◌∷◌, true, false, Option, Some, None, refl, sym, ap, subst, ◌∙◌}
use Rattle.std.specs.Bool.{⊤}
use Rattle.line_io.specs.Lines.{Piece}
use Rattle.line_io.specs.Source.{Received}
use Rattle.policy_rules.specs.declared.setting_rules.settings.Settings.{Settings}
use Rattle.replay_command_base.specs.declared.ending.Ending.{Ending}
use Rattle.replay_command_base.specs.declared.ending.Ending.TheVariants as endings
use Rattle.script_replay.specs.declared.player.Player.{Player}
use Rattle.script_replay.specs.Versions.{LineSaid, Comes, Passes, Starts, HasNoMark, IsOutOfStep, Cannot, fault_said, first_fault, or_later, line_says, place_said, ScriptPlace as ReadingPlace, script_fault, version_in, script_beginning, behind_header, header_lines}
use Rattle.script_replay.specs.Playing.{OutputIsScript}
use Rattle.script_replay.specs.Replaying.{ReplayBroke, ReplayFaulted, ReplayHalted, ReplayFinished, ReplayLeft, is_cut}

-- WHICH FAULTS LINES HAVE

abbrev pub IsLineFault : Ending → Type 0
IsLineFault (endings.NoMark n) = ⊤
IsLineFault (endings.OutOfStep n) = ⊤
IsLineFault (endings.MayNotCome n) = ⊤
IsLineFault e = ⊥

said_fault : (n : ℕ) (s : LineSaid) (f : Ending) → fault_said n s ≡ Some f → IsLineFault f
said_fault n (Comes e) f h = cc
said_fault n Passes f h = cc
said_fault n (Starts k) f h = cc
said_fault n HasNoMark f h = let e : endings.NoMark n ≡ f = cc in subst IsLineFault e tt
said_fault n IsOutOfStep f h = let e : endings.OutOfStep n ≡ f = cc in subst IsLineFault e tt
said_fault n Cannot f h = let e : endings.MayNotCome n ≡ f = cc in subst IsLineFault e tt

either_fault : (a b : Option Ending) (f : Ending) → or_later a b ≡ Some f → (a ≡ Some f) ⊎ (b ≡ Some f)
either_fault None b f e = inr e
either_fault (Some x) b f e = inl e

line_fault : (n : ℕ) (place : ReadingPlace) (ls : List Piece) (f : Ending) → first_fault n place ls ≡ Some f → IsLineFault f
line_fault n place [] f e = cc
line_fault n place (l ∷ ls) f e =
    by (either_fault (fault_said n (line_says place l)) (first_fault (n + 1) (place_said place (line_says place l)) ls) f e) (line_fault (n + 1) (place_said place (line_says place l)) ls f) where
      by : (fault_said n (line_says place l) ≡ Some f) ⊎ (first_fault (n + 1) (place_said place (line_says place l)) ls ≡ Some f)
          → (first_fault (n + 1) (place_said place (line_says place l)) ls ≡ Some f → IsLineFault f) → IsLineFault f
      by (inl h) later = said_fault n (line_says place l) f h
      by (inr h) later = later h

pub script_has : (lines : List Piece) (f : Ending) → script_fault lines ≡ Some f → IsLineFault f
script_has lines f e = line_fault (1 + header_lines (version_in lines)) (script_beginning (version_in lines)) (behind_header (version_in lines) lines) f e

pub no_cut : (e : Ending) → IsLineFault e → e ≡ endings.WritingFailed → ⊥
no_cut e i h = subst IsLineFault h i

pub no_reading : (e : Ending) → IsLineFault e → e ≡ endings.ReadingFailed → ⊥
no_reading e i h = subst IsLineFault h i

cut_is : (e : Ending) → is_cut e ≡ true → e ≡ endings.WritingFailed
cut_is endings.WritingFailed h = refl
cut_is e h = cc

pub left_cut : (o : Settings) (lines : List Piece) (ending : Ending) (player : Player) (before after : Received) → is_cut ending ≡ true → ReplayHalted o ending lines player before after → ReplayLeft o lines ending ending before after
left_cut o lines ending player before after c h = by h.halts where
  by : ((ending ≡ endings.WritingFailed) × ReplayBroke o lines before after) ⊎ ReplayFaulted o ending lines player.text.text before after → ReplayLeft o lines ending ending before after
  by (inl b) = inr b
  by (inr f) = absurd (no_cut ending (script_has lines ending f.is_fault) (cut_is ending c))

pub left_written : (o : Settings) (lines : List Piece) (ending answer : Ending) (player : Player) (before after later : Received) → is_cut ending ≡ false → ReplayHalted o ending lines player before after
    → (OutputIsScript o lines player.text.text before after → after.faults ≡ before.faults → ReplayFinished o lines ending answer before later) → ReplayLeft o lines ending answer before later
left_written o lines ending answer player before after later c h f = by h.halts where
  then : script_fault lines ≡ Some ending → ReplayFinished o lines ending answer before later → ReplayLeft o lines ending answer before later
  then is (inl d) = inl (d.0, record { is_fault = is; scripted = d.1; no_failure = d.2 })
  then is (inr b) = inr b

  by : ((ending ≡ endings.WritingFailed) × ReplayBroke o lines before after) ⊎ ReplayFaulted o ending lines player.text.text before after → ReplayLeft o lines ending answer before later
  by (inl b) = let x : is_cut ending ≡ true = ap is_cut b.0 in let z = sym x ∙ c in cc
  by (inr k) = then k.is_fault (f k.scripted k.no_failure)
