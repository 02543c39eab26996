-- The text written is a script, whose events are those that it was written for.
use Rattle.std.proofs.Common.{◌≡◌, ℕ, List, [], ◌∷◌, ◌++◌, map, true, Option, Some, is_some, refl, sym, ap, subst, ◌∙◌}
use Rattle.std.specs.List.{AllByRecursion}
use Rattle.line_io.specs.Event.{Event}
use Rattle.line_io.specs.Lines.{Piece, Whole, items}
use Rattle.script_lines.specs.Marks.{Mark, Happens, ToIface, ToEngine, mark_text}
use Rattle.script_lines.specs.Scripts.{MarksAreSpelled}
use Rattle.script_lines.proofs.Scripts.{has_short_lines}
use Rattle.script_lines.proofs.Spelled.{spelled_read}
use Rattle.engine_revival.specs.Steps.{opening_revival}
use Rattle.engine_revival.specs.Script.{AllMayHappen, revival_script}
use Rattle.engine_revival.proofs.Scripts.{from_spelled, from_text, from_reported, marks_from, no_marks, reported_in}
use Rattle.engine_revival.proofs.Scripts as marks
use Rattle.replay_commands_without_core.specs.Played.{ArePlayed, event_by, played_events, mark_to_play}

same_event : (m : Mark) → event_by (Some m) ≡ marks.event_by m
same_event (Happens e) = refl
same_event (ToIface line) = refl
same_event (ToEngine line) = refl

-- THE LINES OF A SCRIPT

abbrev whole_of : Mark → Piece
whole_of m = Whole (mark_text m)

events_announced : (marks : List Mark) → MarksAreSpelled marks → played_events (map whole_of marks) ≡ reported_in marks
events_announced [] h = refl
events_announced (m ∷ ms) h =
    ap (λ (x : Option Mark). event_by x ++ played_events (map whole_of ms)) (spelled_read m h.0)
    ∙ ap (λ (es : List Event). es ++ played_events (map whole_of ms)) (same_event m)
    ∙ ap (λ (es : List Event). marks.event_by m ++ es) (events_announced ms h.1)

all_marked : (marks : List Mark) → MarksAreSpelled marks → AllByRecursion (λ line. is_some (mark_to_play line) ≡ true) (map whole_of marks)
all_marked [] h = tt
all_marked (m ∷ ms) h = (ap (λ (x : Option Mark). is_some x) (spelled_read m h.0), all_marked ms h.1)

pub script_again : (lives : ℕ) (es : List Event) → MarksAreSpelled (map Happens es) → AllMayHappen (opening_revival lives) es
    → ArePlayed lives (items 131072 (revival_script lives es)) × (played_events (items 131072 (revival_script lives es)) ≡ es)
script_again lives es l may =
    let all = marks_from (opening_revival lives) es in
    let spelled : MarksAreSpelled all = from_spelled (opening_revival lives) es l (no_marks lives) in
    let lines : items 131072 (revival_script lives es) ≡ map whole_of all = ap (λ (t : List ℕ). items 131072 t) (from_text (opening_revival lives) es) ∙ has_short_lines all spelled in
    let announced : played_events (items 131072 (revival_script lives es)) ≡ es = ap (λ (ls : List Piece). played_events ls) lines ∙ events_announced all spelled ∙ from_reported (opening_revival lives) es in (
      record {
        marked = subst (λ (ls : List Piece). AllByRecursion (λ line. is_some (mark_to_play line) ≡ true) ls) (sym lines) (all_marked all spelled);
        may_come = subst (λ (x : List Event). AllMayHappen (opening_revival lives) x) (sym announced) may;
      },
      announced,
    )
