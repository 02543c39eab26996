-- One line more of a script.
use Rattle.std.proofs.Common.{◌≡◌, ℕ, ◌+◌, ◌≤◌, List, [], ◌∷◌, ◌++◌, length, Bool, true, false, not, ◌&&◌, Option, Some, None, is_some, refl, sym, ap, subst, ◌∙◌, append-nil, arith}
use Rattle.std.specs.Prelude.{IsTrue, nat_le, Result, Ok, IfOk}
use Rattle.std.specs.List.{AllByRecursion}
use Rattle.std.proofs.lemmas.Grind.{flat_map-append}
use Rattle.std.proofs.lemmas.Bool.Decides.{nat_tests}
use Rattle.line_io.specs.Event.{Event, Iface, Engine, event_of, has_feed}
use Rattle.line_io.specs.declared.events.Event as borrowed
use Rattle.line_io.specs.Lines.{Piece}
use Rattle.line_io.specs.Out.{Text}
use Rattle.line_io.proofs.Puts.{put_none}
use Rattle.script_lines.specs.Marks.{Mark, Happens, IsMarkSpelled, SpellsMark, plain_mark}
use Rattle.script_lines.specs.declared.marks.BadMark.{BadMark}
use Rattle.script_lines.specs.declared.marks.Mark as code
use Rattle.script_lines.specs.declared.marks.Mark.TheVariants as marks
use Rattle.replay_command_base.specs.declared.ending.Ending.{Ending}
use Rattle.replay_command_base.specs.declared.ending.Ending.TheVariants as endings
use Rattle.replay_command_base.specs.Putting.{FilterCloses, IsOfLine, Puts}
use Rattle.cecp_driver.specs.declared.driver.DriverParts.{DriverParts}
use Rattle.cecp_driver.specs.Driver.{opening_driver}
use Rattle.cecp_driver.specs.Script.{DriverTakesAll, IsPeerLine, DriverTakes, given_marks, last_of, may_come, script_text}
use Rattle.cecp_driver.proofs.Scripts.{goes_more, last_more, text_more}
use Rattle.cecp_driver.proofs.Sound.{runs_are_sound}
use Rattle.replay_commands_without_core.specs.Scripts.{IsDriven, IsFirstUndriven, DriveEndsWith, DriverAfterLines, Tries, drive_filter_meaning, event_of_line, driven_events, mark_to_drive}

-- A MARK'S LINE IS ONE

line_by : (n : ℕ) (feed : Bool) → IsTrue (nat_le n 65536 && not feed) → (n ≤ 65536) × (feed ≡ false)
line_by n false h = (grind (arith, nat_tests), refl)
line_by n true h = absurd (grind (arith, nat_tests))

pub line_event : (event : Event) → IsMarkSpelled (Happens event) → IsPeerLine event
line_event (Iface line) s = line_by (length line) (has_feed line) s
line_event (Engine line) s = line_by (length line) (has_feed line) s
line_event event s = tt

pub spelled_line : (line : List ℕ) (r : Result code.Mark BadMark) (e : borrowed.Event) → r ≡ Ok (marks.Event e) → IfOk r (λ mark. SpellsMark line (plain_mark mark)) → IsPeerLine (event_of e)
spelled_line line r e is h = line_event (event_of e) (subst (λ (x : Result code.Mark BadMark). IfOk x (λ mark. SpellsMark line (plain_mark mark))) is h).0

-- ONE LINE MORE

marked_more : (lines : List Piece) (p : Piece) → AllByRecursion (λ line. is_some (mark_to_drive line) ≡ true) lines → is_some (mark_to_drive p) ≡ true → AllByRecursion (λ line. is_some (mark_to_drive line) ≡ true) (lines ++ p ∷ [])
marked_more [] p a e = (e, tt)
marked_more (l ∷ ls) p a e = (a.0, marked_more ls p a.1 e)

events_more : (lines : List Piece) (p : Piece) → driven_events (lines ++ p ∷ []) ≡ driven_events lines ++ event_of_line (mark_to_drive p)
events_more lines p =
    flat_map-append (λ (line : Piece). event_of_line (mark_to_drive line)) lines (p ∷ [])
    ∙ ap (λ (x : List Event). driven_events lines ++ x) (append-nil (event_of_line (mark_to_drive p)))

-- an event
event_stands : (lines : List Piece) (v v' : DriverParts) (text : List ℕ) (p : Piece) (event : Event) → DriverAfterLines lines v text → mark_to_drive p ≡ Some (Happens event) → DriverTakes event v v' → DriverAfterLines (lines ++ p ∷ []) v' (text ++ given_marks event v')
event_stands lines v v' text p event s is t =
    let d = s.driven in
    let before : List Event = driven_events lines in
    let after : List DriverParts = d.script.after in
    let takes : DriverTakes event (last_of opening_driver after) v' = subst (λ (x : DriverParts). DriverTakes event x v') s.now t in
    let events : driven_events (lines ++ p ∷ []) ≡ before ++ event ∷ [] = events_more lines p ∙ ap (λ (m : Option Mark). before ++ event_of_line m) is in
    let run : DriverTakesAll opening_driver (driven_events (lines ++ p ∷ [])) (after ++ v' ∷ []) =
    subst (λ (es : List Event). DriverTakesAll opening_driver es (after ++ v' ∷ [])) (sym events) (goes_more opening_driver before after event v' d.script.goes takes) in
    record {
      driven = record {
        marked = marked_more lines p d.marked (ap (λ (m : Option Mark). is_some m) is);
        script = record {
          after = after ++ v' ∷ [];
          goes = run;
          sound = runs_are_sound (driven_events (lines ++ p ∷ [])) (after ++ v' ∷ []) run;
          text_is = ap (λ (x : List ℕ). x ++ given_marks event v') d.script.text_is
              ∙ sym (text_more opening_driver before after event v' d.script.goes)
              ∙ ap (λ (es : List Event). script_text es (after ++ v' ∷ [])) (sym events);
        };
      };
      now = sym (last_more opening_driver after v');
    }

-- a line that was written
passed_stands : (lines : List Piece) (v : DriverParts) (text : List ℕ) (p : Piece) → DriverAfterLines lines v text → is_some (mark_to_drive p) ≡ true → event_of_line (mark_to_drive p) ≡ [] → DriverAfterLines (lines ++ p ∷ []) v text
passed_stands lines v text p s is none =
    let d = s.driven in
    let events : driven_events (lines ++ p ∷ []) ≡ driven_events lines = events_more lines p ∙ ap (λ (x : List Event). driven_events lines ++ x) none ∙ append-nil (driven_events lines) in
    let run : DriverTakesAll opening_driver (driven_events (lines ++ p ∷ [])) d.script.after = subst (λ (es : List Event). DriverTakesAll opening_driver es d.script.after) (sym events) d.script.goes in
    record {
      driven = record {
        marked = marked_more lines p d.marked is;
        script = record {
          after = d.script.after;
          goes = run;
          sound = runs_are_sound (driven_events (lines ++ p ∷ [])) d.script.after run;
          text_is = d.script.text_is ∙ ap (λ (es : List Event). script_text es d.script.after) (sym events);
        };
      };
      now = s.now;
    }

unmarked : (lines : List Piece) (v : DriverParts) (text : List ℕ) (p : Piece) (n : ℕ) → DriverAfterLines lines v text → mark_to_drive p ≡ None → n ≡ length lines + 1 → IsFirstUndriven (lines ++ p ∷ []) (endings.NoMark n) text
unmarked lines v text p n s none e = record { before = lines; line = p; lines_are = refl; driven = s.driven; wrong = (e, none) }

barred : (lines : List Piece) (v : DriverParts) (text : List ℕ) (p : Piece) (event : Event) (n : ℕ) → DriverAfterLines lines v text → mark_to_drive p ≡ Some (Happens event) → may_come v event ≡ false → n ≡ length lines + 1 → IsFirstUndriven (lines ++ p ∷ []) (endings.MayNotCome n) text
barred lines v text p event n s is bars e =
    record { before = lines; line = p; lines_are = refl; driven = s.driven; wrong = (e, (event, (is, subst (λ (x : DriverParts). may_come x event ≡ false) s.now bars))) }

-- AS A LINE FILTER

fault_put : (lines : List Piece) (ending : Ending) (text : List ℕ) → DriveEndsWith lines ending text → DriveEndsWith lines ending (text ++ [])
fault_put lines ending text s = subst (λ (x : List ℕ). DriveEndsWith lines ending x) (sym (append-nil text)) s

pub puts_event : (n : ℕ) (p : Piece) (event : Event) (result : Option Ending) (v v' : DriverParts) (held held' : Text) → mark_to_drive p ≡ Some (Happens event) → Tries n event result v v' held held' → Puts drive_filter_meaning n p result v held v' held'
puts_event n p event None v v' held held' is t = record {
  more = given_marks event v';
  put = t.1;
  goes = λ v0 lines text s e first. event_stands lines v v' text p event (s first) is t.0;
}
puts_event n p event (Some ending) v v' held held' is t = record {
  more = [];
  put = t.1.1 ∙ put_none held;
  goes = λ v0 lines text s e first.
      subst (λ (x : Ending). DriveEndsWith (lines ++ p ∷ []) x (text ++ [])) (sym t.0)
      (fault_put (lines ++ p ∷ []) (endings.MayNotCome n) text (barred lines v text p event n (s first) is t.1.0 e));
}

pub puts_passed : (n : ℕ) (p : Piece) (v : DriverParts) (held : Text) → is_some (mark_to_drive p) ≡ true → event_of_line (mark_to_drive p) ≡ [] → Puts drive_filter_meaning n p None v held v held
puts_passed n p v held is none = record {
  more = [];
  put = put_none held;
  goes = λ v0 lines text s e first.
      subst (λ (x : List ℕ). DriverAfterLines (lines ++ p ∷ []) v x) (sym (append-nil text)) (passed_stands lines v text p (s first) is none);
}

pub puts_unmarked : (n : ℕ) (p : Piece) (v : DriverParts) (held : Text) → mark_to_drive p ≡ None → Puts drive_filter_meaning n p (Some (endings.NoMark n)) v held v held
puts_unmarked n p v held none = record {
  more = [];
  put = put_none held;
  goes = λ v0 lines text s e first. fault_put (lines ++ p ∷ []) (endings.NoMark n) text (unmarked lines v text p n (s first) none e);
}

said : (lines : List Piece) (ending : Ending) (text : List ℕ) → (IsOfLine ending → ⊥) → IsDriven lines text → DriveEndsWith lines ending text
said lines (endings.NoMark n) text i d = absurd (i tt)
said lines (endings.MayNotCome n) text i d = absurd (i tt)
said lines (endings.OutOfStep n) text i d = absurd (i tt)
said lines (endings.Differs n) text i d = absurd (i tt)
said lines (endings.Unlawful n) text i d = absurd (i tt)
said lines ending text i d = d

pub closes : (ending : Ending) (v : DriverParts) (held : Text) → (IsOfLine ending → ⊥) → FilterCloses drive_filter_meaning ending v held held
closes ending v held i = record {
  more = [];
  put = put_none held;
  says = λ v0 lines text s first. fault_put lines ending text (said lines ending text i (s first).driven);
}

-- before the first line
pub begins : (v : DriverParts) → v ≡ opening_driver → DriverAfterLines [] v []
begins v e = record { driven = record { marked = tt; script = record { after = []; goes = tt; sound = runs_are_sound [] [] tt; text_is = refl } }; now = e }
