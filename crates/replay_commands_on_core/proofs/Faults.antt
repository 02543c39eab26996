-- Lines after lines without a fault.
use Rattle.std.proofs.Common.{◌≡◌, ℕ, ◌+◌, List, [], ◌∷◌, ◌++◌, length, Bool, true, false, cond, ◌==◌, Option, Some, None, refl, ap, sym, subst, ◌∙◌, append-nil}
use Rattle.line_io.specs.Event.{Event}
use Rattle.line_io.specs.Lines.{Piece, Whole, TooLong}
use Rattle.script_lines.specs.Header.{header_of, header_text}
use Rattle.script_lines.specs.Marks.{Mark, Happens, mark_spelled}
use Rattle.script_lines.specs.StepLine.{step_number_line, step_number, step_of}
use Rattle.policy_rules.specs.declared.setting_rules.settings.Settings.{Settings}
use Rattle.adapter_core.specs.declared.ends.Ends.{Ends}
use Rattle.adapter_core.specs.Ends.{are_both_ended, may, ends_after, at_start}
use Rattle.adapter_core.specs.Trace.{Step, state}
use Rattle.trace_scripts.specs.Script.{events, marked_events}
use Rattle.trace_scripts.proofs.Numbered.{header_quiet}
use Rattle.trace_scripts.proofs.Scripts.{later_events, events_later}
use Rattle.replay_command_base.specs.declared.ending.Ending.TheVariants as endings
use Rattle.script_replay.specs.declared.stage.ScriptStage.{ScriptStage}
use Rattle.script_replay.specs.declared.stage.ScriptStage.TheVariants as stages
use Rattle.replay_commands_on_core.specs.Check.{lines_by, BeginBy, BeginScript, AwaitBy, AwaitEvent, line_kind_in, kind_under}
use Rattle.script_replay.specs.Versions.{LineKind, MarksEvent, Writes, Numbers, HasNone, script_line_kind_by, kind_of_script_line, Version, First, Second, version_by, version_in, behind_header, header_lines, settings_by, ScriptPlace, LineSaid, Comes, Passes, Starts, HasNoMark, IsOutOfStep, Cannot, kind_says, line_says, place_said, place_over, stage_after_event, fault_said, or_later, first_fault, ends_once_open, script_beginning, fault_by, script_fault}
use Rattle.replay_commands_on_core.specs.Replayed.{IsProperIn}
use Rattle.script_replay.proofs.VersionLines.{no_earlier, version_stays, behind_more}
use Rattle.replay_commands_on_core.proofs.ProperHeaders.{header_spells}
use Rattle.replay_commands_on_core.proofs.Checks.{reply_of, all_announced_of, awaited_announced, announces, lines_are}

pub version_prefix : (before : List Piece) (line : Piece) (later : List Piece) → version_in ((before ++ line ∷ []) ++ later) ≡ version_in (before ++ line ∷ [])
version_prefix [] line later = version_stays line [] later
version_prefix (l ∷ ls) line later = version_stays l (ls ++ line ∷ []) later

-- the first line, and what it says of the version
header_begins : (o : Settings) (line : Piece) (s : Settings) → version_in (line ∷ []) ≡ Second s → BeginScript o (line ∷ [])
header_begins o TooLong s e = cc
header_begins o (Whole line) s e = by (header_of line) refl e where
  by : (h : Option Settings) → header_of line ≡ h → version_by h ≡ Second s → BeginScript o (Whole line ∷ [])
  by None h x = cc
  by (Some y) h x =
      let spelled = header_spells line y h in
      subst (λ (v : Version). BeginBy o v (Whole line ∷ [])) (sym (ap version_by h)) (record {
        trace = [];
        lawful = tt;
        later = [];
        goes_on = lines_are o (Second y) spelled.proper [] tt ∙ ap (λ (l : List ℕ). Whole l ∷ []) (sym spelled.text);
      })

-- the version of all lines is that of those before a line that differs
version_before : (o : Settings) (before : List Piece) (line : Piece) (later : List Piece) → (BeginScript o (before ++ line ∷ []) → ⊥) → version_in (before ++ line ∷ later) ≡ version_in before
version_before o [] line later never = version_stays line [] later ∙ by (version_in (line ∷ [])) refl where
  by : (v : Version) → version_in (line ∷ []) ≡ v → v ≡ First
  by First e = refl
  by (Second s) e = absurd (never (header_begins o line s e))
version_before o (l ∷ ls) line later never = version_stays l ls (line ∷ later)

-- no line after is a fault
prefix_free : (n : ℕ) (place : ScriptPlace) (ls ms : List Piece) → first_fault n place (ls ++ ms) ≡ None → (first_fault n place ls ≡ None) × ((k : ℕ) × (first_fault k (place_over place ls) ms ≡ None))
prefix_free n place [] ms e = (refl, (n, e))
prefix_free n place (l ∷ ls) ms e =
    let p = no_earlier (fault_said n (line_says place l)) (first_fault (n + 1) (place_said place (line_says place l)) (ls ++ ms)) e in
    let q = prefix_free (n + 1) (place_said place (line_says place l)) ls ms p.1 in
    (ap (λ a. or_later a (first_fault (n + 1) (place_said place (line_says place l)) ls)) p.0 ∙ q.0, q.1)

-- the outcome of the line is no fault
module _ (o : Settings) (before : List Piece) (line : Piece) (later : List Piece) (never : BeginScript o (before ++ line ∷ []) → ⊥) (free : script_fault (before ++ line ∷ later) ≡ None) where
  abbrev v : Version
  v = version_in before

  body_is : behind_header v (before ++ line ∷ later) ≡ behind_header v before ++ line ∷ later
  body_is = behind_more v before (line ∷ later) refl

  pub both : (first_fault (1 + header_lines v) (script_beginning v) (behind_header v before) ≡ None) × ((k : ℕ) × (fault_said k (line_says (place_over (script_beginning v) (behind_header v before)) line) ≡ None))
  both =
      let f = prefix_free (1 + header_lines v) (script_beginning v) (behind_header v before) (line ∷ later)
      (ap (first_fault (1 + header_lines v) (script_beginning v)) (sym body_is) ∙ sym (ap (λ (x : Version). fault_by x (before ++ line ∷ later)) (version_before o before line later never)) ∙ free) in
      (f.0, (f.1.0, (no_earlier (fault_said f.1.0 (line_says (place_over (script_beginning v) (behind_header v before)) line)) _ f.1.1).0))

-- in version 1 the stage stays
plain_stays : (s : LineSaid) (place : ScriptPlace) → place.stage ≡ stages.Plain → ((n : ℕ) → s ≡ Starts n → ⊥) → (place_said place s).stage ≡ stages.Plain
plain_stays (Comes e) place h never = ap stage_after_event h
plain_stays (Starts n) place h never = absurd (never n refl)
plain_stays Passes place h never = h
plain_stays HasNoMark place h never = h
plain_stays IsOutOfStep place h never = h
plain_stays Cannot place h never = h

no_start : (place : ScriptPlace) (k : LineKind) (n : ℕ) → place.stage ≡ stages.Plain → kind_says place.stage place.ends k ≡ Starts n → ⊥
no_start place k n h e = by k (ap (λ (x : ScriptStage). kind_says x place.ends k) (sym h) ∙ e) where
  by : (k : LineKind) → kind_says stages.Plain place.ends k ≡ Starts n → ⊥
  by (MarksEvent x) e = may_by (may place.ends x) e where
    may_by : (b : Bool) → cond b (Comes x) Cannot ≡ Starts n → ⊥
    may_by true e = cc
    may_by false e = cc
  by Writes e = cc
  by (Numbers m) e = cc
  by HasNone e = cc

plain_over : (ls : List Piece) (place : ScriptPlace) → place.stage ≡ stages.Plain → (place_over place ls).stage ≡ stages.Plain
plain_over [] place h = h
plain_over (l ∷ ls) place h = plain_over ls (place_said place (line_says place l)) (plain_stays (line_says place l) place h (λ n e. no_start place (kind_of_script_line l) n h e))

says_bare : (stage : ScriptStage) (ends : Ends) → kind_says stage ends HasNone ≡ HasNoMark
says_bare stages.Start ends = refl
says_bare stages.Plain ends = refl
says_bare stages.Headed ends = refl
says_bare (stages.AfterEvent n) ends = refl
says_bare (stages.Numbered n) ends = refl

plain_bare : (k : LineKind) (ends : Ends) → kind_under First k ≡ HasNone → kind_says stages.Plain ends k ≡ HasNoMark
plain_bare (MarksEvent e) ends h = cc
plain_bare Writes ends h = cc
plain_bare (Numbers n) ends h = refl
plain_bare HasNone ends h = refl

bare_says : (w : Version) (ls : List Piece) (k : LineKind) → kind_under w k ≡ HasNone → (let place = place_over (script_beginning w) ls in kind_says place.stage place.ends k ≡ HasNoMark)
bare_says First ls k h = let place = place_over (script_beginning First) ls in ap (λ (x : ScriptStage). kind_says x place.ends k) (plain_over ls (script_beginning First) refl) ∙ plain_bare k place.ends h
bare_says (Second s) ls k h = let place = place_over (script_beginning (Second s)) ls in ap (kind_says place.stage place.ends) h ∙ says_bare place.stage place.ends

-- where no line is a fault, the line is marked
pub no_bare : (o : Settings) (before : List Piece) (line : Piece) (later : List Piece) → (BeginScript o (before ++ line ∷ []) → ⊥) → script_fault (before ++ line ∷ later) ≡ None → line_kind_in (version_in before) line ≡ HasNone → ⊥
no_bare o before line later never free bare =
    let b = (both o before line later never free).1 in
    let says = bare_says (version_in before) (behind_header (version_in before) before) (kind_of_script_line line) bare in
    let z : Some (endings.NoMark b.0) ≡ None = ap (fault_said b.0) (sym says) ∙ b.1 in
    cc

-- THE SIDES

abbrev ends_along : Ends → List Event → Ends
ends_along ends [] = ends
ends_along ends (e ∷ es) = ends_along (ends_after ends e) es

along_both : (ends : Ends) (es fs : List Event) → ends_along ends (es ++ fs) ≡ ends_along (ends_along ends es) fs
along_both ends [] fs = refl
along_both ends (e ∷ es) fs = along_both (ends_after ends e) es fs

along_state : (o : Settings) (t : List Step) → (state o t).ends ≡ ends_along at_start (events t)
along_state o [] = refl
along_state o (s ∷ t) = ap (λ (x : Ends). ends_after x s.event) (along_state o t) ∙ sym (along_both at_start (events t) (s.event ∷ []))

-- the events that a kind tells
abbrev kind_announced : LineKind → List Event
kind_announced (MarksEvent e) = e ∷ []
kind_announced k = []

announced_kind : (p : Piece) → reply_of p ≡ kind_announced (kind_of_script_line p)
announced_kind TooLong = refl
announced_kind (Whole line) = by (mark_spelled line) (step_of line) where
  by : (m : Option Mark) (s : Option ℕ) → marked_events m ≡ kind_announced (script_line_kind_by m s)
  by (Some (Happens e)) s = refl
  by (Some m) s = refl
  by None (Some n) = refl
  by None None = refl

one_said : (n : ℕ) (place : ScriptPlace) (k : LineKind) → fault_said n (kind_says place.stage place.ends k) ≡ None → (place_said place (kind_says place.stage place.ends k)).ends ≡ ends_along place.ends (kind_announced k)
one_said n place k = by place.stage k where
  may_by : (x : Event) (b : Bool) → fault_said n (cond b (Comes x) Cannot) ≡ None → (place_said place (cond b (Comes x) Cannot)).ends ≡ ends_after place.ends x
  may_by x true f = refl
  may_by x false f = cc

  due_by : (m : ℕ) (b : Bool) → (place_said place (cond b (Starts m) IsOutOfStep)).ends ≡ place.ends
  due_by m true = refl
  due_by m false = refl

  by : (stage : ScriptStage) (k : LineKind) → fault_said n (kind_says stage place.ends k) ≡ None → (place_said place (kind_says stage place.ends k)).ends ≡ ends_along place.ends (kind_announced k)
  by stages.Plain (MarksEvent x) f = may_by x (may place.ends x) f
  by stages.Plain Writes f = refl
  by stages.Headed (Numbers m) f = due_by m (m == 0)
  by (stages.AfterEvent last) Writes f = refl
  by (stages.AfterEvent last) (Numbers m) f = due_by m (m == step_number (last + 1))
  by (stages.Numbered last) (MarksEvent x) f = may_by x (may place.ends x) f
  by stage k f = cc

over_announced : (n : ℕ) (place : ScriptPlace) (ls : List Piece) → first_fault n place ls ≡ None → (place_over place ls).ends ≡ ends_along place.ends (all_announced_of ls)
over_announced n place [] e = refl
over_announced n place (l ∷ ls) e =
    let p = no_earlier (fault_said n (line_says place l)) (first_fault (n + 1) (place_said place (line_says place l)) ls) e in
    over_announced (n + 1) (place_said place (line_says place l)) ls p.1
    ∙ ap (λ (x : Ends). ends_along x (all_announced_of ls)) (one_said n place (kind_of_script_line l) p.0 ∙ ap (ends_along place.ends) (sym (announced_kind l)))
    ∙ sym (along_both place.ends (reply_of l) (all_announced_of ls))

says_cannot : (n : ℕ) (stage : ScriptStage) (ends : Ends) (e : Event) → may ends e ≡ false → fault_said n (kind_says stage ends (MarksEvent e)) ≡ None → ⊥
says_cannot n stages.Start ends e m f = cc
says_cannot n stages.Plain ends e m f = let z : fault_said n Cannot ≡ None = ap (λ (b : Bool). fault_said n (cond b (Comes e) Cannot)) (sym m) ∙ f in cc
says_cannot n stages.Headed ends e m f = cc
says_cannot n (stages.AfterEvent k) ends e m f = cc
says_cannot n (stages.Numbered k) ends e m f = let z : fault_said n Cannot ≡ None = ap (λ (b : Bool). fault_said n (cond b (Comes e) Cannot)) (sym m) ∙ f in cc

-- the version that the lines tell is proper, and its header marks no event
proper_in : (lines : List Piece) → IsProperIn (version_in lines)
proper_in [] = tt
proper_in (TooLong ∷ ls) = tt
proper_in (Whole line ∷ ls) = by (header_of line) refl where
  by : (h : Option Settings) → header_of line ≡ h → IsProperIn (version_by h)
  by None e = tt
  by (Some s) e = (header_spells line s e).proper

behind_announced : (o : Settings) (lines : List Piece) → all_announced_of (behind_header (version_in lines) lines) ≡ all_announced_of lines
behind_announced o [] = refl
behind_announced o (TooLong ∷ ls) = refl
behind_announced o (Whole line ∷ ls) = by (header_of line) refl where
  by : (h : Option Settings) → header_of line ≡ h → all_announced_of (behind_header (version_by h) (Whole line ∷ ls)) ≡ all_announced_of (Whole line ∷ ls)
  by None e = refl
  by (Some s) e = ap (λ es. es ++ all_announced_of ls) (sym (quiet (header_spells line s e).text)) where
    quiet : line ≡ header_text s → marked_events (mark_spelled line) ≡ []
    quiet t = ap (λ l. marked_events (mark_spelled l)) t ∙ header_quiet s

announced_await : (o : Settings) (v : Version) → IsProperIn v → (lines : List Piece) → (a : AwaitBy o v lines) → all_announced_of lines ≡ later_events a.trace
announced_await o First p lines a = ap all_announced_of (sym a.same) ∙ announces o First tt a.trace a.lawful
announced_await o (Second s) p lines a = ap all_announced_of (sym a.same) ∙ awaited_announced o s p a.trace a.lawful (are_both_ended (state s a.trace).ends)

-- the event that is due may come where no line is a fault
pub may_behind : (o : Settings) (before : List Piece) (line : Piece) (later : List Piece) (e : Event) (a : AwaitEvent o before) → (BeginScript o (before ++ line ∷ []) → ⊥) → script_fault (before ++ line ∷ later) ≡ None
    → kind_of_script_line line ≡ MarksEvent e → may (state (settings_by (version_in before) o) a.trace).ends e ≡ false → ⊥
may_behind o before line later e a never free k m =
    let v = version_in before in
    let q = settings_by v o in
    let b = both o before line later never free in
    let place = place_over (script_beginning v) (behind_header v before) in
    let ends : place.ends ≡ (state q a.trace).ends =
    over_announced (1 + header_lines v) (script_beginning v) (behind_header v before) b.0
    ∙ ap (ends_along ends_once_open) (behind_announced o before ∙ announced_await o v (proper_in before) before a)
    ∙ sym (along_state q a.trace ∙ ap (ends_along at_start) (events_later q a.trace a.lawful a.opened)) in
    says_cannot b.1.0 place.stage place.ends e (ap (λ (x : Ends). may x e) ends ∙ m) (ap (λ (x : LineKind). fault_said b.1.0 (kind_says place.stage place.ends x)) (sym k) ∙ b.1.1)
