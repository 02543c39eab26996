-- Lines without a fault have none where they are driven, and a script is one of lines without a fault.
use Rattle.std.proofs.Common.{◌≡◌, ℕ, ◌+◌, List, [], ◌∷◌, ◌++◌, length, map, true, false, Option, Some, is_some, refl, sym, ap, subst, ◌∙◌, append_assoc}
use Rattle.std.specs.List.{AllByRecursion, flat_map}
use Rattle.std.proofs.lemmas.List.Concat.{flat_map-append}
use Rattle.line_io.specs.Event.{Event}
use Rattle.line_io.specs.Lines.{Piece, Whole, items, parts_by_feed}
use Rattle.script_lines.specs.Marks.{Mark, Happens, ToIface, ToEngine, event_marked, line_marked, mark_line, mark_text}
use Rattle.script_lines.specs.Scripts.{MarksAreSpelled, script_of}
use Rattle.script_lines.proofs.Scripts.{has_short_lines}
use Rattle.script_lines.proofs.Spelled.{spelled_read}
use Rattle.replay_command_base.specs.declared.ending.Ending.{Ending}
use Rattle.replay_command_base.specs.declared.ending.Ending.TheVariants as endings
use Rattle.cecp_driver.specs.declared.driver.DriverParts.{DriverParts}
use Rattle.cecp_driver.specs.Driver.{opening_driver}
use Rattle.cecp_driver.specs.Runs.{IsScriptOfDrive}
use Rattle.cecp_driver.specs.Script.{DriverTakesAll, given_marks, marks_given, script_marks, script_text}
use Rattle.cecp_driver.proofs.OneRun.{goes_part}
use Rattle.replay_commands_without_core.proofs.Spelled.{script_spelled}
use Rattle.replay_commands_without_core.specs.Scripts.{IsDriven, IsFirstUndriven, IsWrong, event_of_line, driven_events, mark_to_drive, driver_now}

-- NO FAULT WHERE ALL LINES ARE DRIVEN

is_marked : (before : List Piece) (line : Piece) (more : List Piece) → AllByRecursion (λ l. is_some (mark_to_drive l) ≡ true) (before ++ line ∷ more) → is_some (mark_to_drive line) ≡ true
is_marked [] line more h = h.0
is_marked (b ∷ bs) line more h = is_marked bs line more h.1

not_wrong : (before : List Piece) (line : Piece) (more : List Piece) (text whole : List ℕ) (n : ℕ) (fault : Ending) (driven : IsDriven before text) → IsDriven (before ++ line ∷ more) whole → IsWrong (driver_now driven) line n fault → ⊥
not_wrong before line more text whole n (endings.NoMark k) driven all r =
    let marked = is_marked before line more all.marked in
    let none : is_some (mark_to_drive line) ≡ false = ap (λ (x : Option Mark). is_some x) r.1 in
    let both = sym marked ∙ none in
    cc
not_wrong before line more text whole n (endings.MayNotCome k) driven all r =
    let e = r.1.0 in
    let events : driven_events (before ++ line ∷ more) ≡ driven_events before ++ e ∷ driven_events more =
    flat_map-append (λ (l : Piece). event_of_line (mark_to_drive l)) before (line ∷ more)
    ∙ ap (λ (x : Option Mark). driven_events before ++ (event_of_line x ++ driven_events more)) r.1.1.0 in
    let goes : DriverTakesAll opening_driver (driven_events before ++ e ∷ driven_events more) all.script.after = subst (λ (es : List Event). DriverTakesAll opening_driver es all.script.after) events all.script.goes in
    let comes = goes_part opening_driver (driven_events before) (driven_events more) e all.script.after driven.script.after goes driven.script.goes in
    let both = sym comes ∙ r.1.1.1 in
    cc
not_wrong before line more text whole n fault driven all r = absurd r

pub no_fault : (lines more all : List Piece) (fault : Ending) (text whole : List ℕ) → all ≡ lines ++ more → IsFirstUndriven lines fault text → IsDriven all whole → ⊥
no_fault lines more all fault text whole e i d =
    not_wrong i.before i.line more text whole (length i.before + 1) fault i.driven
    (subst (λ (ls : List Piece). IsDriven ls whole) (e ∙ ap (λ (ls : List Piece). ls ++ more) i.lines_are ∙ append_assoc i.before (i.line ∷ []) more) d)
    i.wrong

-- A SCRIPT AS MARKS

ups_text : (lines : List (List ℕ)) → script_of (map ToIface lines) ≡ flat_map (line_marked 88) lines
ups_text [] = refl
ups_text (l ∷ ls) = ap (λ (t : List ℕ). line_marked 88 l ++ t) (ups_text ls)

downs_text : (lines : List (List ℕ)) → script_of (map ToEngine lines) ≡ flat_map (line_marked 85) lines
downs_text [] = refl
downs_text (l ∷ ls) = ap (λ (t : List ℕ). line_marked 85 l ++ t) (downs_text ls)

given_text : (event : Event) (v' : DriverParts) → script_of (marks_given event v') ≡ given_marks event v'
given_text event v' =
    ap (λ (t : List ℕ). event_marked event ++ t)
    (flat_map-append mark_line (map ToIface (parts_by_feed v'.up.text)) (map ToEngine (parts_by_feed v'.down.text))
    ∙ ap (λ (t : List ℕ). t ++ script_of (map ToEngine (parts_by_feed v'.down.text))) (ups_text (parts_by_feed v'.up.text))
    ∙ ap (λ (t : List ℕ). flat_map (line_marked 88) (parts_by_feed v'.up.text) ++ t) (downs_text (parts_by_feed v'.down.text)))

marks_text : (events : List Event) (after : List DriverParts) → script_of (script_marks events after) ≡ script_text events after
marks_text [] after = refl
marks_text (event ∷ events) [] = refl
marks_text (event ∷ events) (v' ∷ later) =
    flat_map-append mark_line (marks_given event v') (script_marks events later)
    ∙ ap (λ (t : List ℕ). t ++ script_of (script_marks events later)) (given_text event v')
    ∙ ap (λ (t : List ℕ). given_marks event v' ++ t) (marks_text events later)

-- the events of marks
abbrev announced_by : Mark → List Event
announced_by (Happens event) = event ∷ []
announced_by mark = []

abbrev announced : List Mark → List Event
announced marks = flat_map announced_by marks

no_ups : (lines : List (List ℕ)) → announced (map ToIface lines) ≡ []
no_ups [] = refl
no_ups (l ∷ ls) = no_ups ls

no_downs : (lines : List (List ℕ)) → announced (map ToEngine lines) ≡ []
no_downs [] = refl
no_downs (l ∷ ls) = no_downs ls

given_announced : (event : Event) (v' : DriverParts) → announced (marks_given event v') ≡ event ∷ []
given_announced event v' =
    ap (λ (es : List Event). event ∷ es)
    (flat_map-append announced_by (map ToIface (parts_by_feed v'.up.text)) (map ToEngine (parts_by_feed v'.down.text))
    ∙ ap (λ (es : List Event). es ++ announced (map ToEngine (parts_by_feed v'.down.text))) (no_ups (parts_by_feed v'.up.text))
    ∙ no_downs (parts_by_feed v'.down.text))

marks_in_text : (v : DriverParts) (events : List Event) (after : List DriverParts) → DriverTakesAll v events after → announced (script_marks events after) ≡ events
marks_in_text v [] after h = refl
marks_in_text v (event ∷ events) [] h = absurd h
marks_in_text v (event ∷ events) (v' ∷ later) h =
    flat_map-append announced_by (marks_given event v') (script_marks events later)
    ∙ ap (λ (es : List Event). es ++ announced (script_marks events later)) (given_announced event v')
    ∙ ap (λ (es : List Event). event ∷ es) (marks_in_text v' events later h.1)

-- THE LINES OF A SCRIPT

abbrev whole_of : Mark → Piece
whole_of m = Whole (mark_text m)

same_announced : (m : Mark) → event_of_line (Some m) ≡ announced_by m
same_announced (Happens e) = refl
same_announced (ToIface line) = refl
same_announced (ToEngine line) = refl

lines_announced : (marks : List Mark) → MarksAreSpelled marks → driven_events (map whole_of marks) ≡ announced marks
lines_announced [] h = refl
lines_announced (m ∷ ms) h =
    ap (λ (x : Option Mark). event_of_line x ++ driven_events (map whole_of ms)) (spelled_read m h.0)
    ∙ ap (λ (es : List Event). es ++ driven_events (map whole_of ms)) (same_announced m)
    ∙ ap (λ (es : List Event). announced_by m ++ es) (lines_announced ms h.1)

all_marked : (marks : List Mark) → MarksAreSpelled marks → AllByRecursion (λ line. is_some (mark_to_drive line) ≡ true) (map whole_of marks)
all_marked [] h = tt
all_marked (m ∷ ms) h = (ap (λ (x : Option Mark). is_some x) (spelled_read m h.0), all_marked ms h.1)

pub script_again : (events : List Event) (text : List ℕ) → IsScriptOfDrive events text → IsDriven (items 131072 text) text
script_again events text script =
    let spelled = script_spelled events text script in
    let all = script_marks events script.after in
    let lines : items 131072 text ≡ map whole_of all = ap (λ (t : List ℕ). items 131072 t) (script.text_is ∙ sym (marks_text events script.after)) ∙ has_short_lines all spelled in
    let same : driven_events (items 131072 text) ≡ events = ap (λ (ls : List Piece). driven_events ls) lines ∙ lines_announced all spelled ∙ marks_in_text opening_driver events script.after script.goes in
    record {
      marked = subst (λ (ls : List Piece). AllByRecursion (λ line. is_some (mark_to_drive line) ≡ true) ls) (sym lines) (all_marked all spelled);
      script = subst (λ (es : List Event). IsScriptOfDrive es text) (sym same) script;
    }
