-- One line more of a script that is played.
use Rattle.std.proofs.Common.{◌≡◌, ℕ, ◌+◌, List, [], ◌∷◌, ◌++◌, length, Bool, true, false, Option, Some, None, is_some, refl, sym, ap, subst, ◌∙◌, append_assoc, append-nil}
use Rattle.std.specs.List.{AllByRecursion, flat_map}
use Rattle.std.specs.Prelude.{IfSome}
use Rattle.std.proofs.lemmas.List.Concat.{flat_map-append}
use Rattle.line_io.specs.Event.{Event}
use Rattle.line_io.specs.Lines.{Piece, Whole, TooLong}
use Rattle.line_io.specs.Out.{Text}
use Rattle.line_io.proofs.Puts.{put_none}
use Rattle.script_lines.specs.Marks.{Mark, Happens, ToIface, ToEngine}
use Rattle.replay_command_base.specs.declared.ending.Ending.{Ending}
use Rattle.replay_command_base.specs.declared.ending.Ending.TheVariants as endings
use Rattle.replay_command_base.specs.Putting.{IsInputEnd, IsOfLine, Puts}
use Rattle.replay_command_base.specs.Putting as line_filter
use Rattle.engine_revival.specs.declared.state.RevivalState.{RevivalState}
use Rattle.engine_revival.specs.Steps.{opening_revival}
use Rattle.engine_revival.specs.Script.{AllMayHappen, revival_event_text, may_happen, revival_state_after, state_behind, texts_from}
use Rattle.replay_commands_without_core.specs.Played.{ArePlayed, IsFirstUnplayed, event_by, played_events, mark_to_play, revival_of_lines, state_over}
use Rattle.replay_commands_without_core.specs.Reviving.{ReviveCloses, HasPlayed, IsPlayed, IsPlayedAs, MarkIsRefused, IsSame, ReviveEndsWith, MarkIsPlayed, revives}

-- ONE EVENT MORE

state_more : (s : RevivalState) (events : List Event) (e : Event) → state_behind s (events ++ e ∷ []) ≡ revival_state_after (state_behind s events) e
state_more s [] e = refl
state_more s (x ∷ xs) e = state_more (revival_state_after s x) xs e

may_more : (s : RevivalState) (events : List Event) (e : Event) → AllMayHappen s events → may_happen (state_behind s events) e ≡ true → AllMayHappen s (events ++ e ∷ [])
may_more s [] e h k = (k, tt)
may_more s (x ∷ xs) e h k = (h.0, may_more (revival_state_after s x) xs e h.1 k)

texts_more : (s : RevivalState) (events : List Event) (e : Event) → texts_from s (events ++ e ∷ []) ≡ texts_from s events ++ revival_event_text (state_behind s events) e
texts_more s [] e = append-nil (revival_event_text s e)
texts_more s (x ∷ xs) e =
    ap (λ (t : List ℕ). revival_event_text s x ++ t) (texts_more (revival_state_after s x) xs e)
    ∙ sym (append_assoc (revival_event_text s x) (texts_from (revival_state_after s x) xs) (revival_event_text (state_behind (revival_state_after s x) xs) e))

-- ONE LINE MORE

marked_more : (lines : List Piece) (p : Piece) → AllByRecursion (λ line. is_some (mark_to_play line) ≡ true) lines → is_some (mark_to_play p) ≡ true → AllByRecursion (λ line. is_some (mark_to_play line) ≡ true) (lines ++ p ∷ [])
marked_more [] p h k = (k, tt)
marked_more (l ∷ ls) p h k = (h.0, marked_more ls p h.1 k)

events_more : (lines : List Piece) (p : Piece) (m : Option Mark) → mark_to_play p ≡ m → played_events (lines ++ p ∷ []) ≡ played_events lines ++ event_by m
events_more lines p m e =
    flat_map-append (λ (line : Piece). event_by (mark_to_play line)) lines (p ∷ [])
    ∙ ap (λ (t : List Event). played_events lines ++ t) (append-nil (event_by (mark_to_play p)) ∙ ap (λ (x : Option Mark). event_by x) e)

module _ (lives : ℕ) (lines : List Piece) (s : RevivalState) (text : List ℕ) (h : HasPlayed lives lines s text) (p : Piece) where
  -- with an event that may come
  event_played : (e : Event) (s' : RevivalState) → mark_to_play p ≡ Some (Happens e) → may_happen s e ≡ true → s' ≡ revival_state_after s e → HasPlayed lives (lines ++ p ∷ []) s' (text ++ revival_event_text s e)
  event_played e s' m may after =
      let events = played_events lines in
      let all : played_events (lines ++ p ∷ []) ≡ events ++ e ∷ [] = events_more lines p (Some (Happens e)) m in
      let comes : may_happen (state_over lives lines) e ≡ true = ap (λ (x : RevivalState). may_happen x e) (sym h.state_is) ∙ may in
      record {
        played = record {
          marked = marked_more lines p h.played.marked (ap (λ (x : Option Mark). is_some x) m);
          may_come = subst (λ (es : List Event). AllMayHappen (opening_revival lives) es) (sym all) (may_more (opening_revival lives) events e h.played.may_come comes);
        };
        state_is = after ∙ ap (λ (x : RevivalState). revival_state_after x e) h.state_is ∙ sym (state_more (opening_revival lives) events e) ∙ ap (λ (es : List Event). state_behind (opening_revival lives) es) (sym all);
        text_is =
            ap (λ (t : List ℕ). t ++ revival_event_text s e) h.text_is
            ∙ ap (λ (x : RevivalState). revival_of_lines lives lines ++ revival_event_text x e) h.state_is
            ∙ sym (texts_more (opening_revival lives) events e)
            ∙ ap (λ (es : List Event). texts_from (opening_revival lives) es) (sym all);
      }

  -- with one that was written
  line_passed : (mark : Mark) (s' : RevivalState) → mark_to_play p ≡ Some mark → event_by (Some mark) ≡ [] → s' ≡ s → HasPlayed lives (lines ++ p ∷ []) s' (text ++ [])
  line_passed mark s' m none same =
      let events = played_events lines in
      let all : played_events (lines ++ p ∷ []) ≡ events = events_more lines p (Some mark) m ∙ ap (λ (es : List Event). events ++ es) none ∙ append-nil events in
      record {
        played = record {
          marked = marked_more lines p h.played.marked (ap (λ (x : Option Mark). is_some x) m);
          may_come = subst (λ (es : List Event). AllMayHappen (opening_revival lives) es) (sym all) h.played.may_come;
        };
        state_is = same ∙ h.state_is ∙ ap (λ (es : List Event). state_behind (opening_revival lives) es) (sym all);
        text_is = append-nil text ∙ h.text_is ∙ ap (λ (es : List Event). texts_from (opening_revival lives) es) (sym all);
      }

  -- with one whose event may not come
  event_refused : (number : ℕ) (e : Event) (ending : Ending) → number ≡ length lines + 1 → mark_to_play p ≡ Some (Happens e) → may_happen s e ≡ false → ending ≡ endings.MayNotCome number → ReviveEndsWith lives (lines ++ p ∷ []) ending (text ++ [])
  event_refused number e ending n m refused is =
      let comes : may_happen (state_over lives lines) e ≡ false = ap (λ (x : RevivalState). may_happen x e) (sym h.state_is) ∙ refused in
      subst (λ (x : Ending). ReviveEndsWith lives (lines ++ p ∷ []) x (text ++ [])) (sym is)
      (record {
        is_fault = record { before = lines; line = p; lines_are = refl; played = h.played; reason = (n, (e, m, comes)) };
        text_is = append-nil text ∙ h.text_is;
      })

  -- with one that has no mark
  line_refused : (number : ℕ) (ending : Ending) → number ≡ length lines + 1 → mark_to_play p ≡ None → ending ≡ endings.NoMark number → ReviveEndsWith lives (lines ++ p ∷ []) ending (text ++ [])
  line_refused number ending n m is =
      subst (λ (x : Ending). ReviveEndsWith lives (lines ++ p ∷ []) x (text ++ [])) (sym is)
      (record {
        is_fault = record { before = lines; line = p; lines_are = refl; played = h.played; reason = (n, m) };
        text_is = append-nil text ∙ h.text_is;
      })

-- AS A LINE FILTER

pub puts_by : (number : ℕ) (p : Piece) (m : Option Mark) (result : Option Ending) (s s' : RevivalState) (held held' : Text) → mark_to_play p ≡ m → MarkIsPlayed number m result s held s' held' → Puts revives number p result s held s' held'
puts_by number p (Some (Happens e)) None s s' held held' m t = record {
  more = revival_event_text s e;
  put = t.put;
  goes = λ s0 lines text h n lives first. event_played lives lines s text (h lives first) p e s' m t.may_come t.state_is;
}
puts_by number p (Some (Happens e)) (Some ending) s s' held held' m t = record {
  more = [];
  put = t.1.same.put ∙ put_none held;
  goes = λ s0 lines text h n lives first. event_refused lives lines s text (h lives first) p number e ending n m t.0 t.1.ending_is;
}
puts_by number p (Some (ToIface line)) None s s' held held' m t = record {
  more = [];
  put = t.put ∙ put_none held;
  goes = λ s0 lines text h n lives first. line_passed lives lines s text (h lives first) p (ToIface line) s' m refl t.state_is;
}
puts_by number p (Some (ToIface line)) (Some ending) s s' held held' m t = absurd t
puts_by number p (Some (ToEngine line)) None s s' held held' m t = record {
  more = [];
  put = t.put ∙ put_none held;
  goes = λ s0 lines text h n lives first. line_passed lives lines s text (h lives first) p (ToEngine line) s' m refl t.state_is;
}
puts_by number p (Some (ToEngine line)) (Some ending) s s' held held' m t = absurd t
puts_by number p None None s s' held held' m t = absurd t
puts_by number p None (Some ending) s s' held held' m t = record {
  more = [];
  put = t.same.put ∙ put_none held;
  goes = λ s0 lines text h n lives first. line_refused lives lines s text (h lives first) p number ending n m t.ending_is;
}

-- a fault is one of a line
pub of_line : (number : ℕ) (m : Option Mark) (result : Option Ending) (s s' : RevivalState) (held held' : Text) → MarkIsPlayed number m result s held s' held' → IfSome result (λ ending. IsOfLine ending)
of_line number (Some (Happens e)) (Some ending) s s' held held' t = subst (λ (x : Ending). IsOfLine x) (sym t.1.ending_is) tt
of_line number None (Some ending) s s' held held' t = subst (λ (x : Ending). IsOfLine x) (sym t.ending_is) tt
of_line number m (Some ending) s s' held held' t = absurd t
of_line number m result s s' held held' t = tt

-- a line that is too long
pub puts_long : (number : ℕ) (s : RevivalState) (held : Text) → Puts revives number TooLong (Some (endings.NoMark number)) s held s held
puts_long number s held = puts_by number TooLong None (Some (endings.NoMark number)) s s held held refl (record { ending_is = refl; same = record { state_is = refl; put = refl } })

closed_by : (lives : ℕ) (lines : List Piece) (text : List ℕ) (ending : Ending) → IsInputEnd ending → ReviveCloses lives lines text → ReviveEndsWith lives lines ending text
closed_by lives lines text endings.Done i c = c
closed_by lives lines text endings.ReadingFailed i c = c
closed_by lives lines text endings.TooLong i c = c
closed_by lives lines text ending i c = absurd i

-- no more lines
pub closes_by : (ending : Ending) (s : RevivalState) (held held' : Text) → IsInputEnd ending → held' ≡ held → line_filter.FilterCloses revives ending s held held'
closes_by ending s held held' i e = record {
  more = [];
  put = e ∙ put_none held;
  says = λ s0 lines text h lives first.
      let p = h lives first in
      closed_by lives lines (text ++ []) ending i (record { played = p.played; text_is = append-nil text ∙ p.text_is });
}

-- before the first line
pub begins : (s0 : RevivalState) (lives : ℕ) → s0 ≡ opening_revival lives → HasPlayed lives [] s0 []
begins s0 lives first = record { played = record { marked = tt; may_come = tt }; state_is = first; text_is = refl }
