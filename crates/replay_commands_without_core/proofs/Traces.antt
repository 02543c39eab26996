-- The script of a trace is migrated to its script of version 2.
use Rattle.std.proofs.Common.{◌≡◌, ℕ, suc, List, [], ◌∷◌, ◌++◌, length, map, Option, Some, refl, sym, ap, subst, ◌∙◌, append_assoc, append-nil}
use Rattle.std.specs.List.{flat_map, AllByRecursion}
use Rattle.std.proofs.lemmas.Grind.{flat_map-append}
use Rattle.std.proofs.lemmas.List.{map-append}
use Rattle.line_io.specs.Event.{Event, Open}
use Rattle.line_io.specs.Event as events
use Rattle.line_io.specs.Lines.{Piece, Whole, items, parts_by_feed}
use Rattle.policy_rules.specs.declared.setting_rules.settings.Settings.{Settings}
use Rattle.script_lines.specs.Header.{header_text}
use Rattle.script_lines.specs.Marks.{Mark, Happens, ToIface, ToEngine, IsMarkSpelled, mark_spelled, mark_text, mark_line, event_marked, event_mark_text, line_marked}
use Rattle.script_lines.specs.Scripts.{MarksAreSpelled, script_of}
use Rattle.script_lines.specs.StepLine.{step_number_line, step_number}
use Rattle.script_lines.specs.StepText.{written_marks, lines_marked}
use Rattle.script_lines.proofs.Scripts.{has_short_lines}
use Rattle.script_lines.proofs.Spelled.{spelled_read}
use Rattle.adapter_core.specs.Trace.{Step, iface_text, engine_text}
use Rattle.trace_scripts.specs.Script.{script1, script2, numbered_text, numbered_texts, step_text}
use Rattle.replay_commands_without_core.specs.Migration.{line_migrated, migrated_line_text, lines_migrated, mark_to_migrate, script_with_header, steps_after, steps_over}
use Rattle.replay_commands_without_core.specs.Traces.{AreEventsMarked, IsMarked, IsWrittenMarked}
use Rattle.replay_commands_without_core.proofs.Lines.{lines_more}

-- THE MARKS OF A TRACE

abbrev event_mark : Event → List Mark
event_mark Open = []
event_mark e = Happens e ∷ []

abbrev written : Step → List Mark
written s = map (λ line. ToIface line) (parts_by_feed (iface_text s)) ++ map (λ line. ToEngine line) (parts_by_feed (engine_text s))

abbrev marks_of_step : Step → List Mark
marks_of_step s = event_mark s.event ++ written s

abbrev marks_of : List Step → List Mark
marks_of [] = []
marks_of (s ∷ t) = marks_of t ++ marks_of_step s

iface_script : (ls : List (List ℕ)) → script_of (map (λ line. ToIface line) ls) ≡ flat_map (line_marked 88) ls
iface_script [] = refl
iface_script (l ∷ ls) = ap (λ t. line_marked 88 l ++ t) (iface_script ls)

engine_script : (ls : List (List ℕ)) → script_of (map (λ line. ToEngine line) ls) ≡ flat_map (line_marked 85) ls
engine_script [] = refl
engine_script (l ∷ ls) = ap (λ t. line_marked 85 l ++ t) (engine_script ls)

script_append : (a b : List Mark) → script_of (a ++ b) ≡ script_of a ++ script_of b
script_append a b = flat_map-append mark_line a b

written_script : (s : Step) → script_of (written s) ≡ written_marks (iface_text s) (engine_text s)
written_script s =
    script_append (map (λ line. ToIface line) (parts_by_feed (iface_text s))) (map (λ line. ToEngine line) (parts_by_feed (engine_text s)))
    ∙ ap (λ t. t ++ script_of (map (λ line. ToEngine line) (parts_by_feed (engine_text s)))) (iface_script (parts_by_feed (iface_text s)))
    ∙ ap (λ t. lines_marked 88 (iface_text s) ++ t) (engine_script (parts_by_feed (engine_text s)))

event_script : (e : Event) → script_of (event_mark e) ≡ event_marked e
event_script (events.Iface line) = append-nil (event_marked (events.Iface line))
event_script (events.Engine line) = append-nil (event_marked (events.Engine line))
event_script e = refl

step_script : (s : Step) → script_of (marks_of_step s) ≡ step_text s
step_script s =
    script_append (event_mark s.event) (written s)
    ∙ ap (λ t. t ++ script_of (written s)) (event_script s.event)
    ∙ ap (λ t. event_marked s.event ++ t) (written_script s)

trace_script : (t : List Step) → script_of (marks_of t) ≡ script1 t
trace_script [] = refl
trace_script (s ∷ t) =
    script_append (marks_of t) (marks_of_step s)
    ∙ ap (λ x. x ++ script_of (marks_of_step s)) (trace_script t)
    ∙ ap (λ x. script1 t ++ x) (step_script s)

-- THEY ARE SPELLED

spelled_append : (a b : List Mark) → MarksAreSpelled a → MarksAreSpelled b → MarksAreSpelled (a ++ b)
spelled_append [] b x y = y
spelled_append (m ∷ a) b x y = (x.0, spelled_append a b x.1 y)

iface_spelled : (ls : List (List ℕ)) → AllByRecursion (λ line. IsMarkSpelled (ToIface line)) ls → MarksAreSpelled (map (λ line. ToIface line) ls)
iface_spelled [] a = tt
iface_spelled (l ∷ ls) a = (a.0, iface_spelled ls a.1)

engine_spelled : (ls : List (List ℕ)) → AllByRecursion (λ line. IsMarkSpelled (ToEngine line)) ls → MarksAreSpelled (map (λ line. ToEngine line) ls)
engine_spelled [] a = tt
engine_spelled (l ∷ ls) a = (a.0, engine_spelled ls a.1)

written_spelled : (s : Step) → IsWrittenMarked s → MarksAreSpelled (written s)
written_spelled s w = spelled_append (map (λ line. ToIface line) (parts_by_feed (iface_text s))) (map (λ line. ToEngine line) (parts_by_feed (engine_text s))) (iface_spelled (parts_by_feed (iface_text s)) w.iface) (engine_spelled (parts_by_feed (engine_text s)) w.engine)

-- the mark of an event that has one
mark_is : (e : Event) → IsMarkSpelled (Happens e) → event_mark e ≡ Happens e ∷ []
mark_is Open i = absurd i
mark_is e i = refl

marked_is : (e : Event) → IsMarkSpelled (Happens e) → event_marked e ≡ migrated_line_text (event_mark_text e)
marked_is Open i = absurd i
marked_is e i = refl

event_spelled : (e : Event) → IsMarkSpelled (Happens e) → MarksAreSpelled (event_mark e)
event_spelled e i = subst MarksAreSpelled (sym (mark_is e i)) (i, tt)

trace_spelled : (t : List Step) → AreEventsMarked t → AllByRecursion IsWrittenMarked t → MarksAreSpelled (marks_of t)
trace_spelled [] e w = absurd e
trace_spelled (s ∷ []) e w = subst (λ (x : Event). MarksAreSpelled (event_mark x ++ written s)) (sym e) (written_spelled s w.0)
trace_spelled (s ∷ r ∷ t) e w = spelled_append (marks_of (r ∷ t)) (marks_of_step s) (trace_spelled (r ∷ t) e.1 w.1) (spelled_append (event_mark s.event) (written s) (event_spelled s.event e.0) (written_spelled s w.0))

-- THEY ARE MIGRATED

fed : (line rest : List ℕ) → migrated_line_text line ++ rest ≡ line ++ 10 ∷ rest
fed line rest = append_assoc line (10 ∷ []) rest

abbrev line_of : Mark → Piece
line_of mark = Whole (mark_text mark)

abbrev IsQuiet : Mark → Type 0
IsQuiet (Happens e) = ⊥
IsQuiet m = Unit {0}

quiet_line : (k : ℕ) (m : Mark) → IsQuiet m → (line_migrated k (Some m) (migrated_line_text (mark_text m)) ≡ mark_line m) × (steps_after k (Some m) ≡ k)
quiet_line k (Happens e) q = absurd q
quiet_line k (ToIface l) q = (refl, refl)
quiet_line k (ToEngine l) q = (refl, refl)

-- marks of written lines are copied
quiet : (k : ℕ) (ms : List Mark) → MarksAreSpelled ms → AllByRecursion IsQuiet ms → (lines_migrated k (map line_of ms) ≡ script_of ms) × (steps_over k (map line_of ms) ≡ k)
quiet k [] a q = (refl, refl)
quiet k (m ∷ ms) a q =
    let s = spelled_read m a.0 in
    let one = quiet_line k m q.0 in
    let text = migrated_line_text (mark_text m) in
    let later = quiet k ms a.1 q.1 in (
      ap (λ (x : Option Mark). line_migrated k x text ++ lines_migrated (steps_after k x) (map line_of ms)) s
          ∙ ap (λ j. line_migrated k (Some m) text ++ lines_migrated j (map line_of ms)) one.1
          ∙ ap (λ t. t ++ lines_migrated k (map line_of ms)) one.0
          ∙ ap (λ t. mark_line m ++ t) later.0,
      ap (λ (x : Option Mark). steps_over (steps_after k x) (map line_of ms)) s ∙ ap (λ j. steps_over j (map line_of ms)) one.1 ∙ later.1,
    )

quiet_append : (a b : List Mark) → AllByRecursion IsQuiet a → AllByRecursion IsQuiet b → AllByRecursion IsQuiet (a ++ b)
quiet_append [] b x y = y
quiet_append (m ∷ a) b x y = (x.0, quiet_append a b x.1 y)

iface_quiet : (ls : List (List ℕ)) → AllByRecursion IsQuiet (map (λ line. ToIface line) ls)
iface_quiet [] = tt
iface_quiet (l ∷ ls) = (tt, iface_quiet ls)

engine_quiet : (ls : List (List ℕ)) → AllByRecursion IsQuiet (map (λ line. ToEngine line) ls)
engine_quiet [] = tt
engine_quiet (l ∷ ls) = (tt, engine_quiet ls)

written_quiet : (k : ℕ) (s : Step) → IsWrittenMarked s → (lines_migrated k (map line_of (written s)) ≡ written_marks (iface_text s) (engine_text s)) × (steps_over k (map line_of (written s)) ≡ k)
written_quiet k s w =
    let q = quiet k (written s) (written_spelled s w) (quiet_append (map (λ line. ToIface line) (parts_by_feed (iface_text s))) (map (λ line. ToEngine line) (parts_by_feed (engine_text s))) (iface_quiet (parts_by_feed (iface_text s))) (engine_quiet (parts_by_feed (engine_text s)))) in
    (q.0 ∙ written_script s, q.1)

-- a step's text after its number
numbered : (number text said marked : List ℕ) → marked ≡ text → (migrated_line_text number ++ text) ++ said ≡ number ++ 10 ∷ (marked ++ said)
numbered number text said marked e = append_assoc (migrated_line_text number) text said ∙ fed number (text ++ said) ∙ ap (λ t. number ++ 10 ∷ (t ++ said)) (sym e)

-- the mark of an event begins a step
step_put : (k : ℕ) (s : Step) → IsMarkSpelled (Happens s.event) → IsWrittenMarked s → (lines_migrated k (map line_of (marks_of_step s)) ≡ numbered_text k s) × (steps_over k (map line_of (marks_of_step s)) ≡ suc k)
step_put k s i w =
    let e = s.event in
    let read = spelled_read (Happens e) i in
    let behind = map line_of (written s) in
    let later = written_quiet (suc k) s w in
    let text = migrated_line_text (event_mark_text e) in (
      ap (λ (ms : List Mark). lines_migrated k (map line_of (ms ++ written s))) (mark_is e i)
          ∙ ap (λ (x : Option Mark). line_migrated k x text ++ lines_migrated (steps_after k x) behind) read
          ∙ ap (λ t. (migrated_line_text (step_number_line (step_number k)) ++ text) ++ t) later.0
          ∙ numbered (step_number_line (step_number k)) text (written_marks (iface_text s) (engine_text s)) (event_marked e) (marked_is e i),
      ap (λ (ms : List Mark). steps_over k (map line_of (ms ++ written s))) (mark_is e i)
          ∙ ap (λ (x : Option Mark). steps_over (steps_after k x) behind) read
          ∙ later.1,
    )

steps_append : (k : ℕ) (a b : List Piece) → steps_over k (a ++ b) ≡ steps_over (steps_over k a) b
steps_append k [] b = refl
steps_append k (p ∷ ps) b = steps_append (steps_after k (mark_to_migrate p)) ps b

first_numbered : (number said marked : List ℕ) → marked ≡ [] → migrated_line_text number ++ said ≡ number ++ 10 ∷ (marked ++ said)
first_numbered number said marked e = fed number said ∙ ap (λ t. number ++ 10 ∷ (t ++ said)) (sym e)

traced : (t : List Step) → AreEventsMarked t → AllByRecursion IsWrittenMarked t
    → (migrated_line_text (step_number_line 0) ++ lines_migrated 1 (map line_of (marks_of t)) ≡ numbered_texts t) × (steps_over 1 (map line_of (marks_of t)) ≡ length t)
traced [] e w = absurd e
traced (s ∷ []) e w =
    let later = written_quiet 1 s w.0 in
    let said = written_marks (iface_text s) (engine_text s) in (
      ap (λ (x : Event). migrated_line_text (step_number_line 0) ++ lines_migrated 1 (map line_of (event_mark x ++ written s))) e
          ∙ ap (λ t. migrated_line_text (step_number_line 0) ++ t) later.0
          ∙ first_numbered (step_number_line 0) said (event_marked s.event) (ap event_marked e),
      ap (λ (x : Event). steps_over 1 (map line_of (event_mark x ++ written s))) e ∙ later.1,
    )
traced (s ∷ r ∷ t) e w =
    let before = traced (r ∷ t) e.1 w.1 in
    let a = map line_of (marks_of (r ∷ t)) in
    let b = map line_of (marks_of_step s) in
    let both = map-append line_of (marks_of (r ∷ t)) (marks_of_step s) in
    let step = step_put (length (r ∷ t)) s e.0 w.0 in (
      ap (λ (ps : List Piece). migrated_line_text (step_number_line 0) ++ lines_migrated 1 ps) both
          ∙ ap (λ x. migrated_line_text (step_number_line 0) ++ x) (lines_more 1 a b)
          ∙ sym (append_assoc (migrated_line_text (step_number_line 0)) (lines_migrated 1 a) (lines_migrated (steps_over 1 a) b))
          ∙ ap (λ x. x ++ lines_migrated (steps_over 1 a) b) before.0
          ∙ ap (λ k. numbered_texts (r ∷ t) ++ lines_migrated k b) before.1
          ∙ ap (λ x. numbered_texts (r ∷ t) ++ x) step.0,
      ap (steps_over 1) both ∙ steps_append 1 a b ∙ ap (λ k. steps_over k b) before.1 ∙ step.1,
    )

-- the law
pub trace_migrated : (settings : Settings) (t : List Step) → IsMarked t → script_with_header settings (items 131072 (script1 t)) ≡ script2 settings t
trace_migrated settings t m =
    let ms = marks_of t in
    let lines : items 131072 (script1 t) ≡ map line_of ms = ap (items 131072) (sym (trace_script t)) ∙ has_short_lines ms (trace_spelled t m.events m.written) in
    ap (script_with_header settings) lines
    ∙ append_assoc (migrated_line_text (header_text settings)) (migrated_line_text (step_number_line 0)) (lines_migrated 1 (map line_of ms))
    ∙ ap (λ x. migrated_line_text (header_text settings) ++ x) (traced t m.events m.written).0
    ∙ fed (header_text settings) (numbered_texts t)
