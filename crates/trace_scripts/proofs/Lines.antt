-- The lines of a script, one step after the other.
use Rattle.std.proofs.Common.{◌≡◌, ℕ, List, [], ◌∷◌, ◌++◌, map, Bool, true, false, not, cond, ◌&&◌, refl, ap, sym, ◌∙◌, append_assoc, append-nil}
use Rattle.std.specs.List.{onto_first, flat_map, AllByRecursion}
use Rattle.std.proofs.lemmas.Bool.{not-true, or_from, and_parts}
use Rattle.line_io.specs.Event.{Event, Open, has_feed, is_line}
use Rattle.line_io.specs.Event as events
use Rattle.line_io.specs.Lines.{parts_by_feed, is_feed}
use Rattle.script_lines.specs.Marks.{line_marked, event_marked, event_mark_text}
use Rattle.script_lines.proofs.Scripts.{parts_line}
use Rattle.adapter_core.specs.declared.ends.Ends.{Ends}
use Rattle.adapter_core.specs.Ends.{may}
use Rattle.adapter_core.specs.Trace.{Step, iface_text, engine_text}
use Rattle.script_lines.specs.StepText.{lines_marked, written_marks}
use Rattle.trace_scripts.specs.Script.{step_text, script1}

-- no line feed stands in any of them
abbrev pub AreBare : List (List ℕ) → Type 0
AreBare ps = AllByRecursion (λ p. has_feed p ≡ false) ps

onto_bare : (x : ℕ) (ps : List (List ℕ)) → is_feed x ≡ false → AreBare ps → AreBare (onto_first x ps)
onto_bare x [] e b = (or_from (is_feed x) false e refl, tt)
onto_bare x (p ∷ ps) e b = (or_from (is_feed x) (has_feed p) e b.0, b.1)

bare_next : (x : ℕ) (ps : List (List ℕ)) (v : Bool) → is_feed x ≡ v → AreBare ps → AreBare (cond v ([] ∷ ps) (onto_first x ps))
bare_next x ps true e b = (refl, b)
bare_next x ps false e b = onto_bare x ps e b

pub bare_parts : (xs : List ℕ) → AreBare (parts_by_feed xs)
bare_parts [] = tt
bare_parts (x ∷ xs) = bare_next x (parts_by_feed xs) (is_feed x) refl (bare_parts xs)

-- a line after the letter of its mark
abbrev pub behind : ℕ → List ℕ → List ℕ
behind letter line = letter ∷ 32 ∷ line

marked_parts : (letter : ℕ) (ps : List (List ℕ)) (ys : List ℕ) → is_feed letter ≡ false → AreBare ps → parts_by_feed (flat_map (line_marked letter) ps ++ ys) ≡ map (behind letter) ps ++ parts_by_feed ys
marked_parts letter [] ys l b = refl
marked_parts letter (p ∷ ps) ys l b =
    let later = flat_map (line_marked letter) ps in
    ap parts_by_feed (append_assoc (line_marked letter p) later ys ∙ append_assoc (behind letter p) (10 ∷ []) (later ++ ys))
    ∙ parts_line (behind letter p) (later ++ ys) (or_from (is_feed letter) (has_feed p) l b.0)
    ∙ ap (λ qs. behind letter p ∷ qs) (marked_parts letter ps ys l b.1)

-- the lines that a step wrote, after their letters
abbrev pub written_lines : List ℕ → List ℕ → List (List ℕ)
written_lines iface engine = map (behind 88) (parts_by_feed iface) ++ map (behind 85) (parts_by_feed engine)

pub written_parts : (iface engine ys : List ℕ) → parts_by_feed (written_marks iface engine ++ ys) ≡ written_lines iface engine ++ parts_by_feed ys
written_parts iface engine ys =
    ap parts_by_feed (append_assoc (lines_marked 88 iface) (lines_marked 85 engine) ys)
    ∙ marked_parts 88 (parts_by_feed iface) (lines_marked 85 engine ++ ys) refl (bare_parts iface)
    ∙ ap (λ ps. map (behind 88) (parts_by_feed iface) ++ ps) (marked_parts 85 (parts_by_feed engine) ys refl (bare_parts engine))
    ∙ sym (append_assoc (map (behind 88) (parts_by_feed iface)) (map (behind 85) (parts_by_feed engine)) (parts_by_feed ys))

-- the line of an event's mark
abbrev pub event_lines : Event → List (List ℕ)
event_lines Open = []
event_lines e = event_mark_text e ∷ []

-- the events that a mark can stand for
abbrev pub IsMarked : Event → Type 0
IsMarked (events.Iface line) = is_line line ≡ true
IsMarked (events.Engine line) = is_line line ≡ true
IsMarked e = Unit {0}

pub marked : (ends : Ends) (e : Event) → may ends e ≡ true → IsMarked e
marked ends (events.Iface line) m = (and_parts (ends.opened && not ends.iface) (is_line line) m).1
marked ends (events.Engine line) m = (and_parts (ends.opened && not ends.engine) (is_line line) m).1
marked ends e m = tt

no_feed : (a : Bool) (line : List ℕ) → (a && not (has_feed line)) ≡ true → has_feed line ≡ false
no_feed a line e = not-true (has_feed line) (and_parts a (not (has_feed line)) e).1

event_parts : (e : Event) (ys : List ℕ) → IsMarked e → parts_by_feed (event_marked e ++ ys) ≡ event_lines e ++ parts_by_feed ys
event_parts events.Open ys t = refl
event_parts (events.Iface line) ys t = ap parts_by_feed (append_assoc (behind 120 line) (10 ∷ []) ys) ∙ parts_line (behind 120 line) ys (no_feed _ line t)
event_parts events.IfaceLong ys t = refl
event_parts events.IfaceEnd ys t = refl
event_parts events.IfaceLost ys t = refl
event_parts (events.Engine line) ys t = ap parts_by_feed (append_assoc (behind 117 line) (10 ∷ []) ys) ∙ parts_line (behind 117 line) ys (no_feed _ line t)
event_parts events.EngineLong ys t = refl
event_parts events.EngineEnd ys t = refl
event_parts events.EngineLost ys t = refl

abbrev pub step_lines : Step → List (List ℕ)
step_lines s = event_lines s.event ++ written_lines (iface_text s) (engine_text s)

pub step_parts : (s : Step) (ys : List ℕ) → IsMarked s.event → parts_by_feed (step_text s ++ ys) ≡ step_lines s ++ parts_by_feed ys
step_parts s ys t =
    let written = written_marks (iface_text s) (engine_text s) in
    ap parts_by_feed (append_assoc (event_marked s.event) written ys)
    ∙ event_parts s.event (written ++ ys) t
    ∙ ap (λ ps. event_lines s.event ++ ps) (written_parts (iface_text s) (engine_text s) ys)
    ∙ sym (append_assoc (event_lines s.event) (written_lines (iface_text s) (engine_text s)) (parts_by_feed ys))

-- the lines of a script, step by step
abbrev pub lines_of : List Step → List (List ℕ)
lines_of [] = []
lines_of (s ∷ t) = lines_of t ++ step_lines s

abbrev pub AreMarked : List Step → Type 0
AreMarked t = AllByRecursion (λ s. IsMarked s.event) t

script_parts : (t : List Step) (ys : List ℕ) → AreMarked t → parts_by_feed (script1 t ++ ys) ≡ lines_of t ++ parts_by_feed ys
script_parts [] ys a = refl
script_parts (s ∷ t) ys a =
    ap parts_by_feed (append_assoc (script1 t) (step_text s) ys)
    ∙ script_parts t (step_text s ++ ys) a.1
    ∙ ap (λ ps. lines_of t ++ ps) (step_parts s ys a.0)
    ∙ sym (append_assoc (lines_of t) (step_lines s) (parts_by_feed ys))

pub script1_lines : (t : List Step) → AreMarked t → parts_by_feed (script1 t) ≡ lines_of t
script1_lines t a = ap parts_by_feed (sym (append-nil (script1 t))) ∙ script_parts t [] a ∙ append-nil (lines_of t)
