-- Lines of a session that may not be opened yet.
use Rattle.std.proofs.Common.{◌≡◌, ℕ, ◌+◌, List, [], ◌∷◌, ◌++◌, length, true, false, Option, Some, None, refl, sym, ap, subst, ◌∙◌}
use Rattle.line_io.specs.Event.{Open}
use Rattle.line_io.specs.Lines.{Piece, Whole, TooLong}
use Rattle.line_io.specs.Out.{Text}
use Rattle.line_io.specs.Source.{Received}
use Rattle.script_lines.specs.Header.{header_of}
use Rattle.policy_rules.specs.declared.setting_rules.settings.Settings.{Settings}
use Rattle.adapter_core.specs.declared.ends.Ends.{Ends}
use Rattle.adapter_core.specs.Ends.{may}
use Rattle.adapter_core.specs.Parts.{CoreParts}
use Rattle.adapter_core.specs.Represents.{Represents}
use Rattle.replay_command_base.specs.declared.ending.Ending.{Ending}
use Rattle.replay_command_base.specs.declared.ending.Ending.TheVariants as endings
use Rattle.script_replay.specs.declared.stage.ScriptStage.{ScriptStage}
use Rattle.script_replay.specs.declared.stage.ScriptStage.TheVariants as stages
use Rattle.script_replay.specs.Stages.{is_first_stage}
use Rattle.script_replay.specs.Versions.{Version, First, Second, version_in, HasNone, kind_of_script_line, kind_says, LineSaid, Comes, Passes, Starts, HasNoMark, IsOutOfStep, Cannot, fault_said, stage_started, stage_after_event}
use Rattle.script_replay.specs.Playing.{CountIs, HasBegun, Playing, LinePlayed, LineIsPlayed, ReplayTook, Unbegun}
use Rattle.script_replay.proofs.VersionLines.{version_stays}
use Rattle.script_replay.proofs.Plays.{begun_plain, begun_numbered, on_line}

start_is : (stage : ScriptStage) → is_first_stage stage ≡ true → stage ≡ stages.Start
start_is stages.Start e = refl
start_is stages.Plain e = cc
start_is stages.Headed e = cc
start_is (stages.AfterEvent n) e = cc
start_is (stages.Numbered n) e = cc

no_count : (v : Version) (n : ℕ) → CountIs v stages.Start n → ⊥
no_count First n c = c
no_count (Second s) n c = c

module _ (o : Settings) (core : CoreParts) (stage : ScriptStage) (text : List ℕ) (before after : Received) where
  -- an opened session has a line
  pub started : (lines : List Piece) → is_first_stage stage ≡ false → ReplayTook o lines core stage text before after → Playing o lines core stage text before after
  started [] e t = let x : is_first_stage stage ≡ true = ap is_first_stage t.is_start in let z = sym x ∙ e in cc
  started (l ∷ ls) e t = t

  -- where it is not opened, no line came
  pub unstarted : (lines : List Piece) → is_first_stage stage ≡ true → ReplayTook o lines core stage text before after → (lines ≡ []) × Unbegun o core stage text before after
  unstarted [] e t = (refl, t)
  unstarted (l ∷ ls) e t = absurd (no_count (version_in (l ∷ ls)) (length t.trace) (subst (λ (x : ScriptStage). CountIs (version_in (l ∷ ls)) x (length t.trace)) (start_is stage e) t.count))

  -- a line after others
  pub next_line : (lines : List Piece) (p : Piece) (number : ℕ) (core' : CoreParts) (stage' : ScriptStage) (old new : Text) (answer : Option Ending) → is_first_stage stage ≡ false → ReplayTook o lines core stage text before after
      → number ≡ length lines + 1 → old.text ≡ text → answer ≡ fault_said number (kind_says stage core.ends (kind_of_script_line p)) → LineIsPlayed core stage old (kind_says stage core.ends (kind_of_script_line p)) core' stage' new
      → LinePlayed o (lines ++ p ∷ []) answer core' stage' new.text before after
  next_line [] p number core' stage' old new answer e t n x a k = let y : is_first_stage stage ≡ true = ap is_first_stage t.is_start in let z = sym y ∙ e in cc
  next_line (l ∷ ls) p number core' stage' old new answer e t n x a k =
      on_line o (l ∷ ls) core stage text before after t p (version_stays l ls (p ∷ [])) number n core' stage' old new answer x a k

-- the first line is a header
pub header_line : (o : Settings) (core : CoreParts) (stage : ScriptStage) (old : Text) (before after : Received) (lines : List Piece) (line : List ℕ) (settings : Settings) (core' : CoreParts) (stage' : ScriptStage) (new : Text)
    → is_first_stage stage ≡ true → header_of line ≡ Some settings → ReplayTook o lines core stage old.text before after → HasBegun (Some settings) core old core' stage' new
    → Playing o (lines ++ Whole line ∷ []) core' stage' new.text before after
header_line o core stage old before after lines line settings core' stage' new e h t b =
    let u = unstarted o core stage old.text before after lines e t in
    subst (λ (ls : List Piece). Playing o (ls ++ Whole line ∷ []) core' stage' new.text before after) (sym u.0)
    (begun_numbered o settings line b.0 core' stage' old new before after h b.1 u.1.is_empty u.1.appended b.2 b.3)

-- the first line is none, and the session is opened before it
pub first_line : (o : Settings) (core : CoreParts) (stage : ScriptStage) (old : Text) (before after : Received) (lines : List Piece) (p : Piece) (number : ℕ) (core' : CoreParts) (stage' : ScriptStage) (new : Text)
    (core'' : CoreParts) (stage'' : ScriptStage) (newer : Text) (answer : Option Ending) → is_first_stage stage ≡ true → version_in (p ∷ []) ≡ First → ReplayTook o lines core stage old.text before after → number ≡ length lines + 1
    → HasBegun None core old core' stage' new → answer ≡ fault_said number (kind_says stage' core'.ends (kind_of_script_line p)) → LineIsPlayed core' stage' new (kind_says stage' core'.ends (kind_of_script_line p)) core'' stage'' newer
    → LinePlayed o (lines ++ p ∷ []) answer core'' stage'' newer.text before after
first_line o core stage old before after lines p number core' stage' new core'' stage'' newer answer e h t n b a k =
    let u = unstarted o core stage old.text before after lines e t in
    let q = begun_plain o core core' stage' old new before after u.1.stands u.1.is_empty u.1.appended b.0 b.1 in
    subst (λ (ls : List Piece). LinePlayed o (ls ++ p ∷ []) answer core'' stage'' newer.text before after) (sym u.0)
    (on_line o [] core' stage' new.text before after q p h number (n ∙ ap (λ (ls : List Piece). length ls + 1) u.0) core'' stage'' new newer answer refl a k)

-- a line that is too long
pub first_long : (o : Settings) (core : CoreParts) (stage : ScriptStage) (old : Text) (before after : Received) (lines : List Piece) (number : ℕ) (core' : CoreParts) (stage' : ScriptStage) (new : Text)
    → is_first_stage stage ≡ true → ReplayTook o lines core stage old.text before after → number ≡ length lines + 1 → HasBegun None core old core' stage' new
    → LinePlayed o (lines ++ TooLong ∷ []) (Some (endings.NoMark number)) core' stage' new.text before after
first_long o core stage old before after lines number core' stage' new e t n b =
    subst (λ (s : ScriptStage). LinePlayed o (lines ++ TooLong ∷ []) (Some (endings.NoMark number)) core' s new.text before after) (sym b.1)
    (first_line o core stage old before after lines TooLong number core' stages.Plain new core' stages.Plain new (Some (endings.NoMark number)) e refl t n (b.0, refl) refl (refl, refl, refl))

long_says : (stage : ScriptStage) (core : CoreParts) → kind_says stage core.ends HasNone ≡ HasNoMark
long_says stages.Start core = refl
long_says stages.Plain core = refl
long_says stages.Headed core = refl
long_says (stages.AfterEvent k) core = refl
long_says (stages.Numbered k) core = refl

pub next_long : (o : Settings) (core : CoreParts) (stage : ScriptStage) (old : Text) (before after : Received) (lines : List Piece) (number : ℕ)
    → is_first_stage stage ≡ false → ReplayTook o lines core stage old.text before after → number ≡ length lines + 1
    → LinePlayed o (lines ++ TooLong ∷ []) (Some (endings.NoMark number)) core stage old.text before after
next_long o core stage old before after lines number e t n =
    let says : kind_says stage core.ends HasNone ≡ HasNoMark = long_says stage core in
    next_line o core stage old.text before after lines TooLong number core stage old old (Some (endings.NoMark number)) e t n refl (ap (fault_said number) (sym says)) (subst (λ (s : LineSaid). LineIsPlayed core stage old s core stage old) (sym says) (refl, refl, refl))

-- a core before its first step may open
pub may_open : (o : Settings) (core : CoreParts) → Represents o core [] → may core.ends Open ≡ true
may_open o core st = ap (λ (e : Ends). may e Open) (ap (λ (v : CoreParts). v.ends) st.0)

-- A SESSION STAYS OPEN

pub not_start : (stage : ScriptStage) → is_first_stage stage ≡ false → stage ≡ stages.Start → ⊥
not_start stage e s = let x : is_first_stage stage ≡ true = ap is_first_stage s in let z = sym x ∙ e in cc

announced_open : (stage : ScriptStage) → is_first_stage stage ≡ false → is_first_stage (stage_after_event stage) ≡ false
announced_open stages.Start e = e
announced_open stages.Plain e = e
announced_open stages.Headed e = e
announced_open (stages.AfterEvent n) e = e
announced_open (stages.Numbered n) e = refl

started_open : (stage : ScriptStage) (n : ℕ) → is_first_stage (stage_started stage n) ≡ false
started_open stages.Start n = refl
started_open stages.Plain n = refl
started_open stages.Headed n = refl
started_open (stages.AfterEvent k) n = refl
started_open (stages.Numbered k) n = refl

pub takes_open : (core : CoreParts) (stage : ScriptStage) (text : Text) (said : LineSaid) (core' : CoreParts) (stage' : ScriptStage) (text' : Text) → is_first_stage stage ≡ false → LineIsPlayed core stage text said core' stage' text' → is_first_stage stage' ≡ false
takes_open core stage text (Comes e) core' stage' text' is t = ap is_first_stage t.1 ∙ announced_open stage is
takes_open core stage text Passes core' stage' text' is t = ap is_first_stage t.1 ∙ is
takes_open core stage text (Starts n) core' stage' text' is t = ap is_first_stage t.1 ∙ started_open stage n
takes_open core stage text HasNoMark core' stage' text' is t = ap is_first_stage t.1 ∙ is
takes_open core stage text IsOutOfStep core' stage' text' is t = ap is_first_stage t.1 ∙ is
takes_open core stage text Cannot core' stage' text' is t = ap is_first_stage t.1 ∙ is
