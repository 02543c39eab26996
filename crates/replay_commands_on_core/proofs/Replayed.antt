-- A script that is replayed.
use Rattle.std.proofs.Common.{◌≡◌, ◌⊎◌, inl, inr, ℕ, suc, ◌+◌, ◌≤◌, ◌==◌, List, [], ◌∷◌, ◌++◌, map, length, Bool, true, false, cond, nat_le, Option, Some, None, is_some, refl, ap, sym, subst, ◌∙◌, arith, append_assoc, append-nil}
use Rattle.std.specs.List.{AllByRecursion}
use Rattle.std.proofs.lemmas.List.{map-append}
use Rattle.std.proofs.lemmas.Bool.Decides.{nat_tests}
use Rattle.line_io.specs.Event.{Event, Open}
use Rattle.line_io.specs.Lines.{Piece, Whole, TooLong, parts_by_feed, piece_of}
use Rattle.script_lines.specs.Marks.{Mark, Happens, ToIface, ToEngine, IsMarkSpelled, is_written, mark_spelled, mark_text, event_mark_text}
use Rattle.script_lines.specs.StepLine.{step_number, step_of}
use Rattle.script_lines.proofs.Numerals.{number_below, number_next, step_length}
use Rattle.script_lines.proofs.Scripts.{has_lines, has_short_lines}
use Rattle.script_lines.proofs.Spelled.{read_spelled}
use Rattle.policy_rules.specs.declared.setting_rules.settings.Settings.{Settings}
use Rattle.adapter_core.specs.declared.ends.Ends.{Ends}
use Rattle.adapter_core.specs.Ends.{may, ends_after, at_start}
use Rattle.adapter_core.specs.Trace.{Step, LawfulTrace, state, iface_text, engine_text}
use Rattle.adapter_core.specs.Represents.{IsOneDialogue}
use Rattle.trace_scripts.specs.OneWay.{IsOpened}
use Rattle.trace_scripts.specs.Script.{events, IsShortText, StepLinesAreShort}
use Rattle.trace_scripts.proofs.Short.{HaveMarks, written_marked}
use Rattle.trace_scripts.proofs.Lines.{behind, written_lines, event_lines, lines_of}
use Rattle.trace_scripts.proofs.Numbered.{number_line, numbered_lines, numbered_lines_added}
use Rattle.trace_scripts.proofs.Scripts.{goes_on, lines_added, later_event, later_events, some_opened, events_later, event_line, one_later, only_open}
use Rattle.replay_command_base.specs.declared.ending.Ending.{Ending}
use Rattle.script_replay.specs.declared.stage.ScriptStage.{ScriptStage}
use Rattle.script_replay.specs.declared.stage.ScriptStage.TheVariants as stages
use Rattle.script_replay.specs.Versions.{MarksEvent, Writes, Numbers, script_line_kind_by, kind_of_script_line, Version, First, Second, header_lines, settings_by, ScriptPlace, LineSaid, Comes, Passes, Starts, IsOutOfStep, Cannot, kind_says, line_says, place_said, place_over, fault_said, or_later, first_fault, events_said, replayed_events, ends_once_open, script_beginning}
use Rattle.script_replay.proofs.VersionLines.{no_earlier, said_more}
use Rattle.replay_commands_on_core.proofs.Checks.{more_in, event_kind, number_kind}

-- LINES BEHIND LINES WITHOUT A FAULT

over_both : (place : ScriptPlace) (ls ms : List Piece) → place_over place (ls ++ ms) ≡ place_over (place_over place ls) ms
over_both place [] ms = refl
over_both place (l ∷ ls) ms = over_both (place_said place (line_says place l)) ls ms

fault_both : (n : ℕ) (place : ScriptPlace) (ls ms : List Piece) → first_fault n place ls ≡ None → first_fault (n + length ls) (place_over place ls) ms ≡ None → first_fault n place (ls ++ ms) ≡ None
fault_both n place [] ms e f = subst (λ k. first_fault k place ms ≡ None) (let z : n + 0 ≡ n = omega arith in z) f
fault_both n place (l ∷ ls) ms e f =
    let p = no_earlier (fault_said n (line_says place l)) (first_fault (n + 1) (place_said place (line_says place l)) ls) e in
    ap (λ a. or_later a (first_fault (n + 1) (place_said place (line_says place l)) (ls ++ ms))) p.0
    ∙ fault_both (n + 1) (place_said place (line_says place l)) ls ms p.1 (subst (λ k. first_fault k (place_over place (l ∷ ls)) ms ≡ None) (let z : n + suc (length ls) ≡ n + 1 + length ls = omega arith in z) f)

-- without the lines after
fault_prefix : (n : ℕ) (place : ScriptPlace) (ls ms : List Piece) → first_fault n place (ls ++ ms) ≡ None → first_fault n place ls ≡ None
fault_prefix n place [] ms e = refl
fault_prefix n place (l ∷ ls) ms e =
    let p = no_earlier (fault_said n (line_says place l)) (first_fault (n + 1) (place_said place (line_says place l)) (ls ++ ms)) e in
    ap (λ a. or_later a (first_fault (n + 1) (place_said place (line_says place l)) ls)) p.0
    ∙ fault_prefix (n + 1) (place_said place (line_says place l)) ls ms p.1

events_both : (n : ℕ) (place : ScriptPlace) (ls ms : List Piece) → first_fault n place ls ≡ None → replayed_events place (ls ++ ms) ≡ replayed_events place ls ++ replayed_events (place_over place ls) ms
events_both n place [] ms e = refl
events_both n place (l ∷ ls) ms e =
    let p = no_earlier (fault_said n (line_says place l)) (first_fault (n + 1) (place_said place (line_says place l)) ls) e in
    ap (events_said (line_says place l)) (events_both (n + 1) (place_said place (line_says place l)) ls ms p.1)
    ∙ said_more n (line_says place l) (replayed_events (place_said place (line_says place l)) ls) (replayed_events (place_over place (l ∷ ls)) ms) p.0

-- lines that were read without a fault: the events, and where the reading stands after them
pub record Fine (n : ℕ) (place : ScriptPlace) (ls : List Piece) (es : List Event) (place' : ScriptPlace) : Type 0 where
  pub faultless : first_fault n place ls ≡ None
  pub events_are : replayed_events place ls ≡ es
  pub place_is : place_over place ls ≡ place'

fine_both : (n : ℕ) (place place' place'' : ScriptPlace) (ls ms : List Piece) (es fs : List Event) → Fine n place ls es place' → Fine (n + length ls) place' ms fs place'' → Fine n place (ls ++ ms) (es ++ fs) place''
fine_both n place place' place'' ls ms es fs f g = record {
  faultless = fault_both n place ls ms f.faultless (subst (λ (x : ScriptPlace). first_fault (n + length ls) x ms ≡ None) (sym f.place_is) g.faultless);
  events_are = events_both n place ls ms f.faultless ∙ ap (λ (xs : List Event). xs ++ replayed_events (place_over place ls) ms) f.events_are ∙ ap (λ (x : ScriptPlace). es ++ replayed_events x ms) f.place_is ∙ ap (λ (xs : List Event). es ++ xs) g.events_are;
  place_is = over_both place ls ms ∙ ap (λ (x : ScriptPlace). place_over x ms) f.place_is ∙ g.place_is;
}

none_fine : (n : ℕ) (place : ScriptPlace) → Fine n place [] [] place
none_fine n place = record { faultless = refl; events_are = refl; place_is = refl }

-- ONE LINE

one_fine : (n : ℕ) (place : ScriptPlace) (l : Piece) (s : LineSaid) (es : List Event) → line_says place l ≡ s → fault_said n s ≡ None → events_said s [] ≡ es → Fine n place (l ∷ []) es (place_said place s)
one_fine n place l s es says f e = record {
  faultless = ap (λ (x : LineSaid). or_later (fault_said n x) None) says ∙ ap (λ (a : Option Ending). or_later a None) f;
  events_are = ap (λ (x : LineSaid). events_said x []) says ∙ e;
  place_is = ap (place_said place) says;
}

pub short_whole : (line : List ℕ) → length line ≤ 131072 → piece_of 131072 line ≡ Whole line
short_whole line l = let t : nat_le (length line) 131072 ≡ true = grind (arith, nat_tests) in ap (λ b. cond b (Whole line) TooLong) t

whole_mark : (m : Mark) → IsMarkSpelled m → piece_of 131072 (mark_text m) ≡ Whole (mark_text m)
whole_mark m s = let z : piece_of 131072 (mark_text m) ∷ [] ≡ Whole (mark_text m) ∷ [] = ap (map (piece_of 131072)) (sym (has_lines (m ∷ []) (s, tt))) ∙ has_short_lines (m ∷ []) (s, tt) in cc

-- a line that has a mark is short
pub marked_piece : (line : List ℕ) → is_some (mark_spelled line) ≡ true → piece_of 131072 line ≡ Whole line
marked_piece line h = by (mark_spelled line) refl h where
  by : (m : Option Mark) → mark_spelled line ≡ m → is_some m ≡ true → piece_of 131072 line ≡ Whole line
  by None e h = cc
  by (Some m) e h = let s = read_spelled line m e in ap (piece_of 131072) s.1 ∙ whole_mark m s.0 ∙ ap Whole (sym s.1)

-- WHAT A STEP WROTE

abbrev pieces : List (List ℕ) → List Piece
pieces ls = map (piece_of 131072) ls

pieces_both : (ls ms : List (List ℕ)) → pieces (ls ++ ms) ≡ pieces ls ++ pieces ms
pieces_both ls ms = map-append (piece_of 131072) ls ms

marks_of : (ls ms : List (List ℕ)) → HaveMarks (ls ++ ms) → HaveMarks ls × HaveMarks ms
marks_of [] ms a = (tt, a)
marks_of (l ∷ ls) ms a = let b = marks_of ls ms a.1 in ((a.0, b.0), b.1)

-- where lines that were written are passed over
abbrev Passing : ScriptPlace → Type 0
Passing place = kind_says place.stage place.ends Writes ≡ Passes

iface_kind : (line : List ℕ) → is_some (mark_spelled (behind 88 line)) ≡ true → kind_of_script_line (Whole (behind 88 line)) ≡ Writes
iface_kind line h = by (is_written line) h where
  by : (b : Bool) → is_some (cond b (Some (ToIface line)) None) ≡ true → script_line_kind_by (cond b (Some (ToIface line)) None) (step_of (behind 88 line)) ≡ Writes
  by true h = refl
  by false h = cc

engine_kind : (line : List ℕ) → is_some (mark_spelled (behind 85 line)) ≡ true → kind_of_script_line (Whole (behind 85 line)) ≡ Writes
engine_kind line h = by (is_written line) h where
  by : (b : Bool) → is_some (cond b (Some (ToEngine line)) None) ≡ true → script_line_kind_by (cond b (Some (ToEngine line)) None) (step_of (behind 85 line)) ≡ Writes
  by true h = refl
  by false h = cc

one_passes : (n : ℕ) (place : ScriptPlace) → Passing place → (line : List ℕ) → is_some (mark_spelled line) ≡ true → kind_of_script_line (Whole line) ≡ Writes → Fine n place (piece_of 131072 line ∷ []) [] place
one_passes n place pass line h k = one_fine n place (piece_of 131072 line) Passes [] (ap (line_says place) (marked_piece line h) ∙ ap (kind_says place.stage place.ends) k ∙ pass) refl refl

iface_fine : (n : ℕ) (place : ScriptPlace) → Passing place → (ps : List (List ℕ)) → HaveMarks (map (behind 88) ps) → Fine n place (pieces (map (behind 88) ps)) [] place
iface_fine n place pass [] a = none_fine n place
iface_fine n place pass (p ∷ ps) a =
    fine_both n place place place (piece_of 131072 (behind 88 p) ∷ []) (pieces (map (behind 88) ps)) [] []
    (one_passes n place pass (behind 88 p) a.0 (iface_kind p a.0)) (iface_fine (n + 1) place pass ps a.1)

engine_fine : (n : ℕ) (place : ScriptPlace) → Passing place → (ps : List (List ℕ)) → HaveMarks (map (behind 85) ps) → Fine n place (pieces (map (behind 85) ps)) [] place
engine_fine n place pass [] a = none_fine n place
engine_fine n place pass (p ∷ ps) a =
    fine_both n place place place (piece_of 131072 (behind 85 p) ∷ []) (pieces (map (behind 85) ps)) [] []
    (one_passes n place pass (behind 85 p) a.0 (engine_kind p a.0)) (engine_fine (n + 1) place pass ps a.1)

abbrev wrote : Step → List (List ℕ)
wrote s = written_lines (iface_text s) (engine_text s)

-- the lines that a step wrote are passed over
wrote_fine : (n : ℕ) (place : ScriptPlace) → Passing place → (s : Step) → HaveMarks (wrote s) → Fine n place (pieces (wrote s)) [] place
wrote_fine n place pass s a =
    let xs = map (behind 88) (parts_by_feed (iface_text s)) in
    let ys = map (behind 85) (parts_by_feed (engine_text s)) in
    let m = marks_of xs ys a in
    subst (λ (ls : List Piece). Fine n place ls [] place) (sym (pieces_both xs ys))
    (fine_both n place place place (pieces xs) (pieces ys) [] [] (iface_fine n place pass (parts_by_feed (iface_text s)) m.0) (engine_fine (n + length (pieces xs)) place pass (parts_by_feed (engine_text s)) m.1))

-- THE LINES OF A SCRIPT

-- the lines after the header
abbrev pub lines_behind : Version → List Step → List (List ℕ)
lines_behind First t = lines_of t
lines_behind (Second s) t = numbered_lines t

-- those of step k before the lines that it wrote
abbrev head_lines : Version → ℕ → Event → List (List ℕ)
head_lines First k e = event_lines e
head_lines (Second s) k e = number_line k ∷ event_lines e

first_behind : (v : Version) (s : Step) → lines_behind v (s ∷ []) ≡ head_lines v 0 s.event ++ wrote s
first_behind First s = refl
first_behind (Second x) s = refl

next_behind : (v : Version) (s : Step) (t : List Step) → lines_behind v (s ∷ t) ≡ lines_behind v t ++ (head_lines v (length t) s.event ++ wrote s)
next_behind First s t = refl
next_behind (Second x) s t = refl

both_behind : (v : Version) (newer t : List Step) → lines_behind v (newer ++ t) ≡ lines_behind v t ++ more_in v newer t
both_behind First newer t = lines_added newer t
both_behind (Second s) newer t = numbered_lines_added newer t

-- where the reading stands after step k
abbrev stage_behind : Version → ℕ → ScriptStage
stage_behind First k = stages.Plain
stage_behind (Second s) k = stages.AfterEvent (step_number k)

abbrev place_behind : Version → ℕ → Ends → ScriptPlace
place_behind v k ends = record { stage = stage_behind v k; ends = ends }

pass_behind : (v : Version) (k : ℕ) (ends : Ends) → Passing (place_behind v k ends)
pass_behind First k ends = refl
pass_behind (Second s) k ends = refl

same_number : (x y : ℕ) → x ≡ y → (x == y) ≡ true
same_number x y e = grind (arith, nat_tests)

number_fine : (n : ℕ) (place : ScriptPlace) (k : ℕ) → kind_says place.stage place.ends (Numbers (step_number k)) ≡ Starts (step_number k) → Fine n place (piece_of 131072 (number_line k) ∷ []) [] (place_said place (Starts (step_number k)))
number_fine n place k says =
    let l : length (number_line k) ≤ 131072 = let s = step_length (step_number k) (number_below k) in omega (arith, s) in
    one_fine n place (piece_of 131072 (number_line k)) (Starts (step_number k)) []
    (ap (line_says place) (short_whole (number_line k) l) ∙ ap (kind_says place.stage place.ends) (number_kind (Whole (number_line k)) k refl) ∙ says) refl refl

-- Open has no mark
first_head : (v : Version) (n : ℕ) → Fine n (script_beginning v) (pieces (head_lines v 0 Open)) [] (place_behind v 0 ends_once_open)
first_head First n = none_fine n (script_beginning First)
first_head (Second s) n = number_fine n (script_beginning (Second s)) 0 refl

-- the mark of an event that may come
event_fine : (n : ℕ) (place : ScriptPlace) (e : Event) → event_lines e ≡ event_mark_text e ∷ [] → mark_spelled (event_mark_text e) ≡ Some (Happens e) → kind_says place.stage place.ends (MarksEvent e) ≡ Comes e → Fine n place (pieces (event_lines e)) (e ∷ []) (place_said place (Comes e))
event_fine n place e lines m says =
    let w = marked_piece (event_mark_text e) (ap is_some m) in
    subst (λ (ls : List (List ℕ)). Fine n place (pieces ls) (e ∷ []) (place_said place (Comes e))) (sym lines)
    (one_fine n place (piece_of 131072 (event_mark_text e)) (Comes e) (e ∷ [])
    (ap (line_says place) w ∙ ap (kind_says place.stage place.ends) (event_kind (Whole (event_mark_text e)) e refl m) ∙ says) refl refl)

next_head : (v : Version) (n k : ℕ) (ends : Ends) (e : Event) → event_lines e ≡ event_mark_text e ∷ [] → mark_spelled (event_mark_text e) ≡ Some (Happens e) → may ends e ≡ true
    → Fine n (place_behind v k ends) (pieces (head_lines v (suc k) e)) (e ∷ []) (place_behind v (suc k) (ends_after ends e))
next_head First n k ends e lines m c = event_fine n (place_behind First k ends) e lines m (ap (λ (b : Bool). cond b (Comes e) Cannot) c)
next_head (Second s) n k ends e lines m c =
    let started : ScriptPlace = record { stage = stages.Numbered (step_number (suc k)); ends = ends } in
    let due : (step_number (suc k) == step_number (step_number k + 1)) ≡ true = same_number (step_number (suc k)) (step_number (step_number k + 1)) (sym (number_next (step_number k) k refl)) in
    fine_both n (place_behind (Second s) k ends) started (place_behind (Second s) (suc k) (ends_after ends e)) (piece_of 131072 (number_line (suc k)) ∷ []) (pieces (event_lines e)) [] (e ∷ [])
    (number_fine n (place_behind (Second s) k ends) (suc k) (ap (λ (b : Bool). cond b (Starts (step_number (suc k))) IsOutOfStep) due))
    (event_fine (n + 1) started e lines m (ap (λ (b : Bool). cond b (Comes e) Cannot) c))

-- the lines that were written have marks
abbrev AreMarked : List Step → Type 0
AreMarked t = AllByRecursion (λ s. HaveMarks (wrote s)) t

module _ (o : Settings) (v : Version) where
  abbrev q : Settings
  q = settings_by v o

  abbrev first : ℕ
  first = 1 + header_lines v

  -- the lines of a lawful trace, the last step of which has number k, are read without a fault, and tell its events
  abbrev ReadsTo : List Step → ℕ → Type 0
  ReadsTo t k = Fine first (script_beginning v) (pieces (lines_behind v t)) (later_events t) (place_behind v k (state q t).ends)

  first_reads : (s : Step) → s.event ≡ Open → HaveMarks (wrote s) → ReadsTo (s ∷ []) 0
  first_reads s e a =
      let h = head_lines v 0 Open in
      let w = wrote_fine (first + length (pieces h)) (place_behind v 0 ends_once_open) (pass_behind v 0 ends_once_open) s a in
      let f = fine_both first (script_beginning v) (place_behind v 0 ends_once_open) (place_behind v 0 ends_once_open) (pieces h) (pieces (wrote s)) [] [] (first_head v first) w in
      subst (λ (ls : List (List ℕ)). Fine first (script_beginning v) (pieces ls) (later_events (s ∷ [])) (place_behind v 0 (state q (s ∷ [])).ends)) (sym (first_behind v s))
      (subst (λ (x : Event). Fine first (script_beginning v) (pieces (head_lines v 0 x ++ wrote s)) (later_event x) (place_behind v 0 (ends_after at_start x))) (sym e)
      (subst (λ (ls : List Piece). Fine first (script_beginning v) ls [] (place_behind v 0 ends_once_open)) (sym (pieces_both h (wrote s))) f))

  -- with the next step's number and event
  head_reads : (s r : Step) (t : List Step) → LawfulTrace q (s ∷ r ∷ t) → ReadsTo (r ∷ t) (length t)
      → Fine first (script_beginning v) (pieces (lines_behind v (r ∷ t)) ++ pieces (head_lines v (length (r ∷ t)) s.event)) (later_events (r ∷ t) ++ s.event ∷ []) (place_behind v (length (r ∷ t)) (state q (s ∷ r ∷ t)).ends)
  head_reads s r t l f =
      let ends = (state q (r ∷ t)).ends in
      let shown = event_line ends s.event (some_opened q r t l.0) l.1.may_come in
      let old = pieces (lines_behind v (r ∷ t)) in
      fine_both first (script_beginning v) (place_behind v (length t) ends) (place_behind v (length (r ∷ t)) (ends_after ends s.event)) old (pieces (head_lines v (length (r ∷ t)) s.event)) (later_events (r ∷ t)) (s.event ∷ []) f
      (next_head v (first + length old) (length t) ends s.event shown.0 shown.1 l.1.may_come)

  next_reads : (s r : Step) (t : List Step) → LawfulTrace q (s ∷ r ∷ t) → HaveMarks (wrote s) → ReadsTo (r ∷ t) (length t) → ReadsTo (s ∷ r ∷ t) (length (r ∷ t))
  next_reads s r t l a f =
      let ends = (state q (r ∷ t)).ends in
      let k = length (r ∷ t) in
      let place = place_behind v k (ends_after ends s.event) in
      let old = lines_behind v (r ∷ t) in
      let head = head_lines v k s.event in
      let prefix = pieces old ++ pieces head in
      let es = later_events (r ∷ t) ++ s.event ∷ [] in
      let w = wrote_fine (first + length prefix) place (pass_behind v k (ends_after ends s.event)) s a in
      let g = fine_both first (script_beginning v) place place prefix (pieces (wrote s)) es [] (head_reads s r t l f) w in
      let lines : prefix ++ pieces (wrote s) ≡ pieces (lines_behind v (s ∷ r ∷ t)) =
      append_assoc (pieces old) (pieces head) (pieces (wrote s)) ∙ ap (λ ls. pieces old ++ ls) (sym (pieces_both head (wrote s))) ∙ sym (pieces_both old (head ++ wrote s)) ∙ ap pieces (sym (next_behind v s (r ∷ t))) in
      let announced : es ++ [] ≡ later_events (s ∷ r ∷ t) =
      append-nil es ∙ ap (λ (x : List Event). later_events (r ∷ t) ++ x) (sym (one_later ends s.event (some_opened q r t l.0) l.1.may_come)) in
      subst (λ (x : List Event). Fine first (script_beginning v) (pieces (lines_behind v (s ∷ r ∷ t))) x place) announced
      (subst (λ (ls : List Piece). Fine first (script_beginning v) ls (es ++ []) place) lines g)

  abbrev last : List Step → ℕ
  last [] = 0
  last (s ∷ t) = length t

  script_reads : (t : List Step) → LawfulTrace q t → IsOpened q t → AreMarked t → ReadsTo t (last t)
  script_reads [] l op a = cc
  script_reads (s ∷ []) l op a = first_reads s (only_open s.event l.1.may_come) a.0
  script_reads (s ∷ r ∷ t) l op a = next_reads s r t l a.0 (script_reads (r ∷ t) l.0 (some_opened q r t l.0) a.1)

  -- A RUN OVER THE SCRIPT OF A LAWFUL TRACE

  short_in : (newer : List Step) (s : Step) (t : List Step) → StepLinesAreShort (newer ++ s ∷ t) → IsShortText (iface_text s) × IsShortText (engine_text s)
  short_in [] s t a = a.0
  short_in (x ∷ newer) s t a = short_in newer s t a.1

  -- The run took the events of the lines READ, which are as many of the script as stand before its first fault: it wrote short lines,
  -- so those of the trace, of which it took each step that was read, have marks.
  module _ (one : IsOneDialogue q) (run : List Step) (ran : LawfulTrace q run) (short : StepLinesAreShort run) (read ahead : List Piece) (announced : events run ≡ Open ∷ replayed_events (script_beginning v) read)
      (reached : (prefix later : List Piece) → prefix ++ later ≡ read ++ ahead → first_fault first (script_beginning v) prefix ≡ None → (more : List Piece) × (read ≡ prefix ++ more)) where
    -- a step that the run took
    taken : (s : Step) (t : List Step) → LawfulTrace q (s ∷ t) → (more : List Event) → events run ≡ events (s ∷ t) ++ more → HaveMarks (wrote s)
    taken s t l more e =
        let n = goes_on q one (s ∷ t) run l ran more e in
        let k = short_in n.0 s t (subst StepLinesAreShort n.1 short) in
        written_marked (iface_text s) (engine_text s) k.0 k.1

    -- the lines up to the mark of a step's event were read, so the run took the step
    next_marked : (s r : Step) (t : List Step) → LawfulTrace q (s ∷ r ∷ t) → ReadsTo (r ∷ t) (length t) → (later : List Piece)
        → (pieces (lines_behind v (r ∷ t)) ++ pieces (head_lines v (length (r ∷ t)) s.event)) ++ later ≡ read ++ ahead → HaveMarks (wrote s)
    next_marked s r t l f later e =
        let prefix = pieces (lines_behind v (r ∷ t)) ++ pieces (head_lines v (length (r ∷ t)) s.event) in
        let g = head_reads s r t l f in
        let m = reached prefix later e g.faultless in
        let more = replayed_events (place_over (script_beginning v) prefix) m.0 in
        let events_are : events (s ∷ r ∷ t) ≡ Open ∷ (later_events (r ∷ t) ++ s.event ∷ []) = ap (λ (es : List Event). es ++ s.event ∷ []) (events_later q (r ∷ t) l.0 (some_opened q r t l.0)) in
        taken s (r ∷ t) l more (
        announced ∙ ap (λ (ls : List Piece). Open ∷ replayed_events (script_beginning v) ls) m.1
        ∙ ap (λ (es : List Event). Open ∷ es) (events_both first (script_beginning v) prefix m.0 g.faultless ∙ ap (λ (es : List Event). es ++ more) g.events_are)
        ∙ ap (λ (es : List Event). es ++ more) (sym events_are))

    all_marked : (t newer : List Step) → LawfulTrace q t → pieces (lines_behind v (newer ++ t)) ≡ read ++ ahead → AreMarked t
    all_marked [] newer l e = tt
    all_marked (s ∷ []) newer l e =
        let open_is = only_open s.event l.1.may_come in
        (taken s [] l (replayed_events (script_beginning v) read) (announced ∙ ap (λ (x : Event). x ∷ replayed_events (script_beginning v) read) (sym open_is)), tt)
    all_marked (s ∷ r ∷ t) newer l e =
        let old = all_marked (r ∷ t) (newer ++ s ∷ []) l.0 (ap (λ (x : List Step). pieces (lines_behind v x)) (append_assoc newer (s ∷ []) (r ∷ t)) ∙ e) in
        let f = script_reads (r ∷ t) l.0 (some_opened q r t l.0) old in
        let before = lines_behind v (r ∷ t) in
        let head = head_lines v (length (r ∷ t)) s.event in
        let more = more_in v newer (s ∷ r ∷ t) in
        let lines : lines_behind v (newer ++ s ∷ r ∷ t) ≡ (before ++ head) ++ (wrote s ++ more) =
        both_behind v newer (s ∷ r ∷ t) ∙ ap (λ ls. ls ++ more) (next_behind v s (r ∷ t) ∙ sym (append_assoc before head (wrote s))) ∙ append_assoc (before ++ head) (wrote s) more in
        let prefix : (pieces before ++ pieces head) ++ pieces (wrote s ++ more) ≡ pieces (lines_behind v (newer ++ s ∷ r ∷ t)) =
        ap (λ ls. ls ++ pieces (wrote s ++ more)) (sym (pieces_both before head)) ∙ sym (pieces_both (before ++ head) (wrote s ++ more)) ∙ ap pieces (sym lines) in
        (next_marked s r t l f (pieces (wrote s ++ more)) (prefix ∙ e), old)

    run_reads : (t : List Step) → LawfulTrace q t → IsOpened q t → pieces (lines_behind v t) ≡ read ++ ahead → ReadsTo t (last t)
    run_reads t l op e = script_reads t l op (all_marked t [] l e)

  -- of two prefixes of one list, one is a prefix of the other
  prefixes : (xs ys cs bs : List Piece) → xs ++ ys ≡ cs ++ bs → ((m : List Piece) × (cs ≡ xs ++ m)) ⊎ ((m : List Piece) × (xs ≡ cs ++ m))
  prefixes [] ys cs bs e = inl (cs, refl)
  prefixes (x ∷ xs) ys [] bs e = inr (x ∷ xs, refl)
  prefixes (x ∷ xs) ys (a ∷ cs) bs e = onto (prefixes xs ys cs bs (let z : xs ++ ys ≡ cs ++ bs = cc in z)) (let z : x ≡ a = cc in z) where
    onto : ((m : List Piece) × (cs ≡ xs ++ m)) ⊎ ((m : List Piece) × (xs ≡ cs ++ m)) → x ≡ a → ((m : List Piece) × (a ∷ cs ≡ x ∷ xs ++ m)) ⊎ ((m : List Piece) × (x ∷ xs ≡ a ∷ cs ++ m))
    onto (inl p) h = inl (p.0, ap (λ y. y ∷ cs) (sym h) ∙ ap (λ l. x ∷ l) p.1)
    onto (inr p) h = inr (p.0, ap (λ y. y ∷ xs) h ∙ ap (λ l. a ∷ l) p.1)

  module _ (one : IsOneDialogue q) (run t : List Step) (ran : LawfulTrace q run) (short : StepLinesAreShort run) (l : LawfulTrace q t) (op : IsOpened q t) where
    -- a run that read all of the script took the events of the trace
    pub all_read : events run ≡ Open ∷ replayed_events (script_beginning v) (pieces (lines_behind v t)) → events run ≡ events t
    all_read announced =
        let read = pieces (lines_behind v t) in
        let f = run_reads one run ran short read [] announced (λ prefix later e c. (later, sym (append-nil read) ∙ sym e)) t l op (sym (append-nil read)) in
        announced ∙ ap (λ (es : List Event). Open ∷ es) f.events_are ∙ sym (events_later q t l op)

    -- and no line of the script is a fault
    pub no_fault_in : (read ahead : List Piece) (fault : Ending) → first_fault first (script_beginning v) read ≡ Some fault
        → events run ≡ Open ∷ replayed_events (script_beginning v) read → pieces (lines_behind v t) ≡ read ++ ahead → ⊥
    no_fault_in read ahead fault is_fault announced input = no_prefix (pieces (lines_behind v t)) ahead f.faultless input where
      no_prefix : (ls m : List Piece) → first_fault first (script_beginning v) ls ≡ None → ls ≡ read ++ m → ⊥
      no_prefix ls m e h =
          let f = fault_prefix first (script_beginning v) read m (ap (first_fault first (script_beginning v)) (sym h) ∙ e) in
          let z = sym f ∙ is_fault in cc

      reached : (prefix later : List Piece) → prefix ++ later ≡ read ++ ahead → first_fault first (script_beginning v) prefix ≡ None → (more : List Piece) × (read ≡ prefix ++ more)
      reached prefix later e c = by (prefixes read ahead prefix later (sym e)) where
        by : ((m : List Piece) × (prefix ≡ read ++ m)) ⊎ ((m : List Piece) × (read ≡ prefix ++ m)) → (more : List Piece) × (read ≡ prefix ++ more)
        by (inl p) = absurd (no_prefix prefix p.0 c p.1)
        by (inr p) = p

      f : ReadsTo t (last t)
      f = run_reads one run ran short read ahead announced reached t l op input
