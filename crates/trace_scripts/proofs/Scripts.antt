-- The part of its trace that the beginning of a script tells.
use Rattle.std.proofs.Common.{◌≡◌, ◌⊎◌, inl, inr, ℕ, zero, suc, ◌+◌, ◌-◌, List, [], ◌∷◌, ◌++◌, map, take, drop, length, reverse, Bool, true, false, not, cond, Some, None, refl, ap, sym, ◌∙◌, arith, length-append, append_assoc, append-nil}
use Rattle.std.proofs.lemmas.List.{reverse-append, take_all, take-append-le, take-append-drop}
use Rattle.std.proofs.Math.Seq.{take-append_seam}
use Rattle.line_io.specs.Event.{Event, Open}
use Rattle.line_io.specs.Event as events
use Rattle.line_io.specs.Lines.{parts_by_feed}
use Rattle.script_lines.specs.Marks.{Happens, ToIface, ToEngine, is_written, mark_spelled, event_mark_text}
use Rattle.script_lines.proofs.Spelled.{spelled_read}
use Rattle.policy_rules.specs.declared.setting_rules.settings.Settings.{Settings}
use Rattle.adapter_core.specs.declared.ends.Ends.{Ends}
use Rattle.adapter_core.specs.Ends.{may, at_start}
use Rattle.adapter_core.specs.Trace.{Step, LawfulTrace, state, event_of_step, iface_text, engine_text}
use Rattle.adapter_core.specs.Represents.{IsOneDialogue}
use Rattle.adapter_core.proofs.Closing.{opened_later}
use Rattle.trace_scripts.specs.OneWay.{IsOpened}
use Rattle.trace_scripts.specs.Script.{events, marked_events, script_events_in}
use Rattle.trace_scripts.proofs.Lines.{behind, written_lines, event_lines, IsMarked, marked, step_lines, lines_of, AreMarked}

-- THE EVENTS THAT LINES TELL

pub marked_both : (ls ms : List (List ℕ)) → script_events_in (ls ++ ms) ≡ script_events_in ls ++ script_events_in ms
marked_both [] ms = refl
marked_both (l ∷ ls) ms = ap (λ es. marked_events (mark_spelled l) ++ es) (marked_both ls ms) ∙ sym (append_assoc (marked_events (mark_spelled l)) (script_events_in ls) (script_events_in ms))

iface_quiet : (line : List ℕ) → marked_events (mark_spelled (behind 88 line)) ≡ []
iface_quiet line = by (is_written line) where
  by : (b : Bool) → marked_events (cond b (Some (ToIface line)) None) ≡ []
  by true = refl
  by false = refl

engine_quiet : (line : List ℕ) → marked_events (mark_spelled (behind 85 line)) ≡ []
engine_quiet line = by (is_written line) where
  by : (b : Bool) → marked_events (cond b (Some (ToEngine line)) None) ≡ []
  by true = refl
  by false = refl

all_iface : (ps : List (List ℕ)) → script_events_in (map (behind 88) ps) ≡ []
all_iface [] = refl
all_iface (p ∷ ps) = ap (λ es. es ++ script_events_in (map (behind 88) ps)) (iface_quiet p) ∙ all_iface ps

all_engine : (ps : List (List ℕ)) → script_events_in (map (behind 85) ps) ≡ []
all_engine [] = refl
all_engine (p ∷ ps) = ap (λ es. es ++ script_events_in (map (behind 85) ps)) (engine_quiet p) ∙ all_engine ps

-- written lines mark no event
pub written_quiet : (iface engine : List ℕ) → script_events_in (written_lines iface engine) ≡ []
written_quiet iface engine =
    marked_both (map (behind 88) (parts_by_feed iface)) (map (behind 85) (parts_by_feed engine))
    ∙ ap (λ es. es ++ script_events_in (map (behind 85) (parts_by_feed engine))) (all_iface (parts_by_feed iface)) ∙ all_engine (parts_by_feed engine)

abbrev pub later_event : Event → List Event
later_event Open = []
later_event e = e ∷ []

event_read : (e : Event) → IsMarked e → script_events_in (event_lines e) ≡ later_event e
event_read events.Open t = refl
event_read (events.Iface line) t = ap (λ m. marked_events m ++ []) (spelled_read (Happens (events.Iface line)) t)
event_read events.IfaceLong t = ap (λ m. marked_events m ++ []) (spelled_read (Happens events.IfaceLong) tt)
event_read events.IfaceEnd t = ap (λ m. marked_events m ++ []) (spelled_read (Happens events.IfaceEnd) tt)
event_read events.IfaceLost t = ap (λ m. marked_events m ++ []) (spelled_read (Happens events.IfaceLost) tt)
event_read (events.Engine line) t = ap (λ m. marked_events m ++ []) (spelled_read (Happens (events.Engine line)) t)
event_read events.EngineLong t = ap (λ m. marked_events m ++ []) (spelled_read (Happens events.EngineLong) tt)
event_read events.EngineEnd t = ap (λ m. marked_events m ++ []) (spelled_read (Happens events.EngineEnd) tt)
event_read events.EngineLost t = ap (λ m. marked_events m ++ []) (spelled_read (Happens events.EngineLost) tt)

-- the events of a trace but for Open
abbrev pub later_events : List Step → List Event
later_events [] = []
later_events (s ∷ t) = later_events t ++ later_event s.event

-- the lines of a step mark its event
pub step_marked : (s : Step) → IsMarked s.event → script_events_in (step_lines s) ≡ later_event s.event
step_marked s a =
    marked_both (event_lines s.event) (written_lines (iface_text s) (engine_text s))
    ∙ ap (λ es. es ++ script_events_in (written_lines (iface_text s) (engine_text s))) (event_read s.event a)
    ∙ ap (λ es. later_event s.event ++ es) (written_quiet (iface_text s) (engine_text s))
    ∙ append-nil (later_event s.event)

-- a script tells the events of its trace
pub script_marked : (t : List Step) → AreMarked t → script_events_in (lines_of t) ≡ later_events t
script_marked [] a = refl
script_marked (s ∷ t) a =
    marked_both (lines_of t) (step_lines s)
    ∙ ap (λ es. es ++ script_events_in (step_lines s)) (script_marked t a.1)
    ∙ ap (λ es. later_events t ++ es) (step_marked s a.0)

-- LAWFUL TRACES

pub all_marked : (o : Settings) (t : List Step) → LawfulTrace o t → AreMarked t
all_marked o [] l = tt
all_marked o (s ∷ t) l = (marked (state o t).ends s.event l.1.may_come, all_marked o t l.0)

pub some_opened : (o : Settings) (s : Step) (t : List Step) → LawfulTrace o (s ∷ t) → IsOpened o (s ∷ t)
some_opened o s t l = opened_later (state o t).ends s.event l.1.may_come

-- where the session is opened, an event that may come is not Open
pub one_later : (ends : Ends) (e : Event) → ends.opened ≡ true → may ends e ≡ true → later_event e ≡ e ∷ []
one_later ends events.Open o m = let n = sym (ap not o) ∙ m in cc
one_later ends (events.Iface line) o m = refl
one_later ends events.IfaceLong o m = refl
one_later ends events.IfaceEnd o m = refl
one_later ends events.IfaceLost o m = refl
one_later ends (events.Engine line) o m = refl
one_later ends events.EngineLong o m = refl
one_later ends events.EngineEnd o m = refl
one_later ends events.EngineLost o m = refl

-- the first event is Open
pub only_open : (e : Event) → may at_start e ≡ true → e ≡ Open
only_open events.Open m = refl
only_open (events.Iface line) m = cc
only_open events.IfaceLong m = cc
only_open events.IfaceEnd m = cc
only_open events.IfaceLost m = cc
only_open (events.Engine line) m = cc
only_open events.EngineLong m = cc
only_open events.EngineEnd m = cc
only_open events.EngineLost m = cc

-- the events are Open and the later ones
pub events_later : (o : Settings) (t : List Step) → LawfulTrace o t → IsOpened o t → events t ≡ Open ∷ later_events t
events_later o [] l op = cc
events_later o (s ∷ []) l op = let e = only_open s.event l.1.may_come in ap (λ (x : Event). x ∷ []) e ∙ ap (λ (x : Event). Open ∷ later_event x) (sym e)
events_later o (s ∷ r ∷ t) l op =
    let before = some_opened o r t l.0 in
    ap (λ (es : List Event). es ++ s.event ∷ []) (events_later o (r ∷ t) l.0 before)
    ∙ ap (λ (es : List Event). (Open ∷ later_events (r ∷ t)) ++ es) (sym (one_later (state o (r ∷ t)).ends s.event before l.1.may_come))

-- TWO TRACES

events_length : (t : List Step) → length (events t) ≡ length t
events_length [] = refl
events_length (s ∷ t) = let n = events_length t in omega (arith, length-append (events t) (s.event ∷ []))

-- the events of the older steps are the first events
events_drop : (k : ℕ) (t : List Step) → events (drop k t) ≡ take (length t - k) (events t)
events_drop zero t = sym (take_all (length t - 0) (events t) (let n = events_length t in omega arith))
events_drop (suc k) [] = sym (take_all (0 - suc k) [] (omega arith))
events_drop (suc k) (s ∷ t) =
    let n = events_length t in
    events_drop k t ∙ sym (ap (λ j. take j (events t ++ s.event ∷ [])) (let z : suc (length t) - suc k ≡ length t - k = omega arith in z) ∙ take-append-le (length t - k) (events t) (s.event ∷ []) (omega arith))

pub lawful_drop : (o : Settings) (k : ℕ) (t : List Step) → LawfulTrace o t → LawfulTrace o (drop k t)
lawful_drop o zero t l = l
lawful_drop o (suc k) [] l = tt
lawful_drop o (suc k) (s ∷ t) l = lawful_drop o k t l.0

events_reversed : (t : List Step) → map event_of_step t ≡ reverse (events t)
events_reversed [] = refl
events_reversed (s ∷ t) = ap (λ (es : List Event). s.event ∷ es) (events_reversed t) ∙ sym (reverse-append (events t) (s.event ∷ []))

pub same_trace : (o : Settings) → IsOneDialogue o → (t t' : List Step) → LawfulTrace o t → LawfulTrace o t' → events t ≡ events t' → t ≡ t'
same_trace o one t t' l l' e = one t t' l l' (events_reversed t ∙ ap reverse e ∙ sym (events_reversed t'))

-- a trace whose events begin with those of another goes on from it
pub goes_on : (o : Settings) → IsOneDialogue o → (t t' : List Step) → LawfulTrace o t → LawfulTrace o t' → (more : List Event) → events t' ≡ events t ++ more → (newer : List Step) × (t' ≡ newer ++ t)
goes_on o one t t' l l' more e =
    let k = length t' - length t in
    let n = events_length t in
    let n' = events_length t' in
    let all : length t' ≡ length t + length more = sym n' ∙ ap length e ∙ length-append (events t) more ∙ ap (λ j. j + length more) n in
    let older : drop k t' ≡ t = same_trace o one (drop k t') t (lawful_drop o k t' l') l
    (events_drop k t' ∙ ap (take (length t' - k)) e ∙ ap (λ j. take j (events t ++ more)) (let z : length t' - k ≡ length (events t) = omega arith in z) ∙ take-append_seam (events t) more) in
    (take k t', sym (take-append-drop k t') ∙ ap (λ (x : List Step). take k t' ++ x) older)

-- the first line that a longer trace adds to a script is the mark of an event that may come
pub record Next (o : Settings) (t : List Step) (more : List (List ℕ)) : Type 0 where
  pub event : Event
  pub may_come : may (state o t).ends event ≡ true
  pub spelled : mark_spelled (event_mark_text event) ≡ Some (Happens event)
  pub others : List (List ℕ)
  pub lines_are : more ≡ event_mark_text event ∷ others

-- the lines that newer steps add
abbrev pub added : List Step → List (List ℕ)
added [] = []
added (s ∷ newer) = added newer ++ step_lines s

pub lines_added : (newer t : List Step) → lines_of (newer ++ t) ≡ lines_of t ++ added newer
lines_added [] t = sym (append-nil (lines_of t))
lines_added (s ∷ newer) t = ap (λ ls. ls ++ step_lines s) (lines_added newer t) ∙ append_assoc (lines_of t) (added newer) (step_lines s)

pub event_line : (ends : Ends) (e : Event) → ends.opened ≡ true → may ends e ≡ true → (event_lines e ≡ event_mark_text e ∷ []) × (mark_spelled (event_mark_text e) ≡ Some (Happens e))
event_line ends events.Open o m = let n = sym (ap not o) ∙ m in cc
event_line ends (events.Iface line) o m = (refl, spelled_read (Happens (events.Iface line)) (marked ends (events.Iface line) m))
event_line ends events.IfaceLong o m = (refl, spelled_read (Happens events.IfaceLong) tt)
event_line ends events.IfaceEnd o m = (refl, spelled_read (Happens events.IfaceEnd) tt)
event_line ends events.IfaceLost o m = (refl, spelled_read (Happens events.IfaceLost) tt)
event_line ends (events.Engine line) o m = (refl, spelled_read (Happens (events.Engine line)) (marked ends (events.Engine line) m))
event_line ends events.EngineLong o m = (refl, spelled_read (Happens events.EngineLong) tt)
event_line ends events.EngineEnd o m = (refl, spelled_read (Happens events.EngineEnd) tt)
event_line ends events.EngineLost o m = (refl, spelled_read (Happens events.EngineLost) tt)

pub next_line : (o : Settings) (newer t : List Step) → LawfulTrace o (newer ++ t) → IsOpened o t → (newer ≡ []) ⊎ Next o t (added newer)
next_line o [] t l op = inl refl
next_line o (s ∷ newer) t l op = by (next_line o newer t l.0 op) where
  by : (newer ≡ []) ⊎ Next o t (added newer) → (s ∷ newer ≡ []) ⊎ Next o t (added newer ++ step_lines s)
  by (inl none) =
      let m : may (state o t).ends s.event ≡ true = ap (λ (x : List Step). may (state o (x ++ t)).ends s.event) (sym none) ∙ l.1.may_come in
      let e = event_line (state o t).ends s.event op m in
      inr (record {
        event = s.event;
        may_come = m;
        spelled = e.1;
        others = written_lines (iface_text s) (engine_text s);
        lines_are = ap (λ (x : List Step). added x ++ step_lines s) none ∙ ap (λ ls. ls ++ written_lines (iface_text s) (engine_text s)) e.0;
      })
  by (inr n) = inr (record { event = n.event; may_come = n.may_come; spelled = n.spelled; others = n.others ++ step_lines s; lines_are = ap (λ ls. ls ++ step_lines s) n.lines_are })
