-- The evidence from the lines of a log.
use Rattle.std.proofs.Common.{◌≡◌, ◌⊎◌, inl, inr, ℕ, suc, ◌+◌, ◌≤◌, List, [], ◌∷◌, ◌++◌, map, length, length-append, Bool, true, false, Option, Some, None, refl, ap, sym, subst, ◌∙◌, arith, append_assoc, append-nil}
use Rattle.std.proofs.lemmas.List.{map-append, append_cancel_left}
use Rattle.line_io.specs.Event.{Event, Open}
use Rattle.line_io.specs.Lines.{Piece, Whole, parts_by_feed}
use Rattle.script_lines.specs.Header.{header_text}
use Rattle.script_lines.specs.Marks.{Mark, Happens, mark_spelled, event_mark_text}
use Rattle.script_lines.specs.StepLine.{step_number_line, step_number, step_of}
use Rattle.script_lines.proofs.Numerals.{step_again, number_below}
use Rattle.policy_rules.specs.declared.setting_rules.settings.Settings.{Settings}
use Rattle.adapter_core.specs.Ends.{may, are_both_ended}
use Rattle.adapter_core.specs.Trace.{Step, LawfulTrace, state}
use Rattle.adapter_core.specs.Parts.{CoreParts}
use Rattle.desk_rules.specs.Fits.{DeskInvariant}
use Rattle.adapter_core.specs.Represents.{Represents, step_by}
use Rattle.adapter_core.proofs.Unique.{unique}
use Rattle.adapter_core.proofs.StateInvariants.{extended}
use Rattle.adapter_core.proofs.Traces.{lasts}
use Rattle.trace_scripts.specs.Script.{marked_events, script_events_in}
use Rattle.trace_scripts.proofs.Lines.{lines_of, event_lines, step_lines, AreMarked, script1_lines}
use Rattle.trace_scripts.proofs.Numbered.{number_line, lines_of2, script2_lines, script2_marked, numbered_added, numbered_lines_added, NextNumbered, next_numbered}
use Rattle.trace_scripts.proofs.Scripts.{Next, added, later_events, script_marked, all_marked, some_opened, events_later, goes_on, same_trace, lines_added, next_line, event_line}
use Rattle.replay_commands_on_core.specs.Check.{lines_before, lines_by, ScriptBy, BeginBy, AwaitBy, mark_to_check}
use Rattle.replay_commands_on_core.specs.Replayed.{IsProperIn}
use Rattle.script_replay.specs.Versions.{Version, First, Second, settings_by, script_by, MarksEvent, Numbers, script_line_kind_by, kind_of_script_line}
use Rattle.replay_commands_on_core.proofs.StageLines.{some_may}

-- the events that lines tell
abbrev pub reply_of : Piece → List Event
reply_of l = marked_events (mark_to_check l)

abbrev pub all_announced_of : List Piece → List Event
all_announced_of [] = []
all_announced_of (l ∷ ls) = reply_of l ++ all_announced_of ls

pub both_announced : (ls ms : List Piece) → all_announced_of (ls ++ ms) ≡ all_announced_of ls ++ all_announced_of ms
both_announced [] ms = refl
both_announced (l ∷ ls) ms = ap (λ es. reply_of l ++ es) (both_announced ls ms) ∙ sym (append_assoc (reply_of l) (all_announced_of ls) (all_announced_of ms))

pub whole_announced : (ls : List (List ℕ)) → all_announced_of (map Whole ls) ≡ script_events_in ls
whole_announced [] = refl
whole_announced (l ∷ ls) = ap (λ es. marked_events (mark_spelled l) ++ es) (whole_announced ls)

-- THE LINES OF BOTH VERSIONS

abbrev pub lines_in : Version → List Step → List (List ℕ)
lines_in First t = lines_of t
lines_in (Second s) t = lines_of2 s t

abbrev pub more_in : Version → List Step → List Step → List (List ℕ)
more_in First newer t = added newer
more_in (Second s) newer t = numbered_added newer t

parts_in : (v : Version) (t : List Step) → IsProperIn v → AreMarked t → parts_by_feed (script_by v t) ≡ lines_in v t
parts_in First t p a = script1_lines t a
parts_in (Second s) t p a = script2_lines s t p a

both_in : (v : Version) (newer t : List Step) → lines_in v (newer ++ t) ≡ lines_in v t ++ more_in v newer t
both_in First newer t = lines_added newer t
both_in (Second s) newer t = ap (λ ls. header_text s ∷ ls) (numbered_lines_added newer t)

announced_by : (v : Version) (t : List Step) → AreMarked t → script_events_in (lines_in v t) ≡ later_events t
announced_by First t a = script_marked t a
announced_by (Second s) t a = script2_marked s t a

-- in version 2 there is a header
abbrev pub IsSomeIn : Version → List Piece → Type 0
IsSomeIn First ls = Unit {0}
IsSomeIn (Second s) ls = 1 ≤ length ls

module _ (o : Settings) (v : Version) (proper : IsProperIn v) where
  abbrev q : Settings
  q = settings_by v o

  pub lines_are : (t : List Step) → LawfulTrace q t → lines_by v t ≡ map Whole (lines_in v t)
  lines_are t l = ap (map Whole) (parts_in v t proper (all_marked q t l))

  -- the script of a lawful trace marks its events
  pub announces : (t : List Step) → LawfulTrace q t → all_announced_of (lines_by v t) ≡ later_events t
  announces t l = ap all_announced_of (lines_are t l) ∙ whole_announced (lines_in v t) ∙ announced_by v t (all_marked q t l)

  pub same_by : (t t' : List Step) → LawfulTrace q t → LawfulTrace q t' → (state q t).ends.opened ≡ true → (state q t').ends.opened ≡ true → later_events t ≡ later_events t' → t ≡ t'
  same_by t t' l l' op op' e = same_trace q (unique q) t t' l l' (events_later q t l op ∙ ap (λ (es : List Event). Open ∷ es) e ∙ sym (events_later q t' l' op'))

  -- the lines that a longer trace adds
  pub longer_lines : (newer t : List Step) → LawfulTrace q (newer ++ t) → LawfulTrace q t → lines_by v (newer ++ t) ≡ lines_by v t ++ map Whole (more_in v newer t)
  longer_lines newer t law l =
      lines_are (newer ++ t) law ∙ ap (map Whole) (both_in v newer t) ∙ map-append Whole (lines_in v t) (more_in v newer t)
      ∙ ap (λ ls. ls ++ map Whole (more_in v newer t)) (sym (lines_are t l))

  -- Lines that begin the script of a longer trace: T stands for all of its marks of events, and only lines that tell none are due.
  module _ (t : List Step) (l : LawfulTrace q t) (op : (state q t).ends.opened ≡ true) (before due : List Piece) (same : lines_by v t ≡ before ++ due) (quiet : all_announced_of due ≡ []) where
    pub announced_before : all_announced_of before ≡ later_events t
    announced_before = sym (append-nil (all_announced_of before)) ∙ ap (λ es. all_announced_of before ++ es) (sym quiet) ∙ sym (both_announced before due) ∙ ap all_announced_of (sym same) ∙ announces t l

    -- a lawful trace whose script begins with these lines goes on from T
    longer : (t' : List Step) → LawfulTrace q t' → (state q t').ends.opened ≡ true → (more : List Piece) → lines_by v t' ≡ before ++ more → (newer : List Step) × (t' ≡ newer ++ t)
    longer t' l' op' more same' =
        goes_on q (unique q) t t' l l' (all_announced_of more)
        (events_later q t' l' op'
        ∙ ap (λ (es : List Event). Open ∷ es) (sym (announces t' l') ∙ ap all_announced_of same' ∙ both_announced before more ∙ ap (λ es. es ++ all_announced_of more) announced_before)
        ∙ ap (λ (es : List Event). es ++ all_announced_of more) (sym (events_later q t l op)))

    -- and these are the lines that follow
    follows : (t' : List Step) → LawfulTrace q t' → (state q t').ends.opened ≡ true → (more : List Piece) → lines_by v t' ≡ before ++ more
        → (newer : List Step) × (LawfulTrace q (newer ++ t)) × (more ≡ due ++ map Whole (more_in v newer t))
    follows t' l' op' more same' =
        let n = longer t' l' op' more same' in
        let law : LawfulTrace q (n.0 ++ t) = subst (LawfulTrace q) n.1 l' in (
          n.0,
          law,
          append_cancel_left before more (due ++ map Whole (more_in v n.0 t)) (
              sym same' ∙ ap (lines_by v) n.1 ∙ longer_lines n.0 t law l ∙ ap (λ ls. ls ++ map Whole (more_in v n.0 t)) same ∙ append_assoc before due (map Whole (more_in v n.0 t))),
        )

    -- where the lines themselves are a script, nothing is due
    pub none_missing : ScriptBy o v before → due ≡ []
    none_missing a =
        let f = follows a.trace a.lawful a.opened [] (a.same ∙ sym (append-nil before)) in
        empty due (map Whole (more_in v f.0 t)) f.2 where
          empty : (xs ys : List Piece) → [] ≡ xs ++ ys → xs ≡ []
          empty [] ys e = refl
          empty (x ∷ xs) ys e = cc

    module _ (some : IsSomeIn v before) where
      -- a line that goes on with such a script is not that of an empty trace
      some_trace : (t' : List Step) → LawfulTrace q t' → (x : Piece) (later : List Piece) → lines_by v t' ≡ before ++ x ∷ later → (state q t').ends.opened ≡ true
      some_trace [] l' x later e = absurd (none v proper some (sym (lines_are [] l') ∙ e)) where
        none : (w : Version) → IsProperIn w → IsSomeIn w before → map Whole (lines_in w []) ≡ before ++ x ∷ later → ⊥
        none First p i h = let n : 0 ≡ length before + suc (length later) = ap length h ∙ length-append before (x ∷ later) in omega arith
        none (Second s) p i h = let n : 1 ≡ length before + suc (length later) = ap length h ∙ length-append before (x ∷ later) in omega (arith, i)
      some_trace (s ∷ t') l' x later e = some_opened q s t' l'

      -- the rest of a script that begins with these lines and more
      pub one_more : (x : Piece) (more : List Piece) (t' : List Step) → LawfulTrace q t' → lines_by v t' ≡ before ++ x ∷ more → (newer : List Step) × (LawfulTrace q (newer ++ t)) × (x ∷ more ≡ due ++ map Whole (more_in v newer t))
      one_more x more t' l' same' = follows t' l' (some_trace t' l' x more same') (x ∷ more) same'

      pub one_line : (x : Piece) → BeginBy o v (before ++ x ∷ []) → (newer : List Step) × (LawfulTrace q (newer ++ t)) × ((later : List Piece) × (x ∷ later ≡ due ++ map Whole (more_in v newer t)))
      one_line x b =
          let f = one_more x b.later b.trace b.lawful (b.goes_on ∙ append_assoc before (x ∷ []) b.later) in
          (f.0, f.1, (b.later, f.2))

      -- the line is the one that is due
      pub is_due : (x first : Piece) (others : List Piece) → due ≡ first ∷ others → BeginBy o v (before ++ x ∷ []) → x ≡ first
      is_due x first others d b =
          let m = one_line x b in
          let e : x ∷ m.2.0 ≡ first ∷ (others ++ map Whole (more_in v m.0 t)) = m.2.1 ∙ ap (λ (ls : List Piece). ls ++ map Whole (more_in v m.0 t)) d in
          cc

-- the mark of an event
pub event_kind : (p : Piece) (e : Event) → p ≡ Whole (event_mark_text e) → mark_spelled (event_mark_text e) ≡ Some (Happens e) → kind_of_script_line p ≡ MarksEvent e
event_kind p e w m = ap kind_of_script_line w ∙ ap (λ (x : Option Mark). script_line_kind_by x (step_of (event_mark_text e))) m

-- the line of a step's number
pub number_kind : (p : Piece) (k : ℕ) → p ≡ Whole (number_line k) → kind_of_script_line p ≡ Numbers (step_number k)
number_kind p k w = ap kind_of_script_line w ∙ ap (λ (x : Option ℕ). script_line_kind_by None x) (step_again (step_number k) (number_below k))

-- WHERE NO LINE IS DUE

-- in version 1 the next line is the mark of an event that may come
pub next_plain : (o : Settings) (t : List Step) → LawfulTrace o t → (state o t).ends.opened ≡ true → (before : List Piece) → lines_by First t ≡ before ++ [] → (p : Piece) → BeginBy o First (before ++ p ∷ [])
    → (e : Event) × (kind_of_script_line p ≡ MarksEvent e) × (may (state o t).ends e ≡ true)
next_plain o t l op before same p b =
    let m = one_line o First tt t l op before [] same refl tt p b in
    by m.0 m.2.1 (next_line o m.0 t m.1 op) where
      by : (newer : List Step) → {later : List Piece} → p ∷ later ≡ map Whole (added newer) → (newer ≡ []) ⊎ Next o t (added newer) → (e : Event) × (kind_of_script_line p ≡ MarksEvent e) × (may (state o t).ends e ≡ true)
      by newer {later} e (inl none) = let z : p ∷ later ≡ [] = e ∙ ap (λ (x : List Step). map Whole (added x)) none in cc
      by newer {later} e (inr n) =
          let z : p ∷ later ≡ Whole (event_mark_text n.event) ∷ map Whole n.others = e ∙ ap (map Whole) n.lines_are in
          let first : p ≡ Whole (event_mark_text n.event) = cc in
          (n.event, event_kind p n.event first n.spelled, n.may_come)

module _ (o s : Settings) (proper : IsProperIn (Second s)) (t : List Step) (l : LawfulTrace s t) (op : (state s t).ends.opened ≡ true) (before : List Piece) (same : lines_by (Second s) t ≡ before ++ []) (some : 1 ≤ length before) where
  abbrev number_piece : Piece
  number_piece = Whole (number_line (length t))

  -- in version 2 it is the number of the next step, and an event may come
  pub next_number : (p : Piece) → BeginBy o (Second s) (before ++ p ∷ []) → (p ≡ number_piece) × ((e : Event) × (may (state s t).ends e ≡ true))
  next_number p b =
      let m = one_line o (Second s) proper t l op before [] same refl some p b in
      by m.0 m.2.1 (next_numbered s m.0 t m.1) where
        by : (newer : List Step) → {later : List Piece} → p ∷ later ≡ map Whole (numbered_added newer t) → (newer ≡ []) ⊎ NextNumbered s t (numbered_added newer t) → (p ≡ number_piece) × ((e : Event) × (may (state s t).ends e ≡ true))
        by newer {later} e (inl none) = let z : p ∷ later ≡ [] = e ∙ ap (λ (x : List Step). map Whole (numbered_added x t)) none in cc
        by newer {later} e (inr n) =
            let z : p ∷ later ≡ number_piece ∷ map Whole (event_lines n.event ++ n.others) = e ∙ ap (map Whole) n.lines_are in
            let first : p ≡ number_piece = cc in
            (first, (n.event, n.may_come))

  -- and after that the mark of an event that may come
  pub next_event : (p : Piece) → BeginBy o (Second s) ((before ++ number_piece ∷ []) ++ p ∷ []) → (e : Event) × (kind_of_script_line p ≡ MarksEvent e) × (may (state s t).ends e ≡ true)
  next_event p b =
      let same' : lines_by (Second s) b.trace ≡ before ++ number_piece ∷ (p ∷ b.later) =
      b.goes_on ∙ append_assoc (before ++ number_piece ∷ []) (p ∷ []) b.later ∙ append_assoc before (number_piece ∷ []) (p ∷ b.later) in
      let m = one_more o (Second s) proper t l op before [] same refl some number_piece (p ∷ b.later) b.trace b.lawful same' in
      by m.0 m.2 (next_numbered s m.0 t m.1) where
        by : (newer : List Step) → number_piece ∷ p ∷ b.later ≡ map Whole (numbered_added newer t) → (newer ≡ []) ⊎ NextNumbered s t (numbered_added newer t) → (e : Event) × (kind_of_script_line p ≡ MarksEvent e) × (may (state s t).ends e ≡ true)
        by newer e (inl none) = let z : number_piece ∷ p ∷ b.later ≡ [] = e ∙ ap (λ (x : List Step). map Whole (numbered_added x t)) none in cc
        by newer e (inr n) =
            let shown = event_line (state s t).ends n.event op n.may_come in
            let z : number_piece ∷ p ∷ b.later ≡ number_piece ∷ Whole (event_mark_text n.event) ∷ map Whole n.others = e ∙ ap (map Whole) (n.lines_are ∙ ap (λ ls. number_line (length t) ∷ (ls ++ n.others)) shown.0) in
            let first : p ≡ Whole (event_mark_text n.event) = cc in
            (n.event, event_kind p n.event first shown.1, n.may_come)

-- the events of the lines after which one is awaited
pub awaited_announced : (o s : Settings) → IsProperIn (Second s) → (t : List Step) → LawfulTrace s t → (over : Bool) → all_announced_of (lines_before (Second s) over t) ≡ later_events t
awaited_announced o s proper t l true = announces o (Second s) proper t l
awaited_announced o s proper t l false =
    both_announced (lines_by (Second s) t) (Whole (step_number_line (step_number (length t))) ∷ []) ∙ append-nil (all_announced_of (lines_by (Second s) t)) ∙ announces o (Second s) proper t l

-- A number that stands after the script of a trace: the script has all of its marks of events.
module _ (o s : Settings) (proper : IsProperIn (Second s)) (t : List Step) (l : LawfulTrace s t) (op : (state s t).ends.opened ≡ true) where
  numbered_announced : (k : ℕ) → all_announced_of (lines_by (Second s) t ++ Whole (step_number_line k) ∷ []) ≡ later_events t
  numbered_announced k = both_announced (lines_by (Second s) t) (Whole (step_number_line k) ∷ []) ∙ append-nil (all_announced_of (lines_by (Second s) t)) ∙ announces o (Second s) proper t l

  -- such lines are no script
  pub no_whole : (k : ℕ) (lines : List Piece) → lines_by (Second s) t ++ Whole (step_number_line k) ∷ [] ≡ lines → ScriptBy o (Second s) lines → ⊥
  no_whole k lines e a =
      let same = same_by o (Second s) proper t a.trace l a.lawful op a.opened (sym (numbered_announced k) ∙ ap all_announced_of (e ∙ sym a.same) ∙ announces o (Second s) proper a.trace a.lawful) in
      let n : length (lines_by (Second s) t) + 1 ≡ length (lines_by (Second s) t) =
      sym (length-append (lines_by (Second s) t) (Whole (step_number_line k) ∷ [])) ∙ ap length (e ∙ sym a.same) ∙ ap (λ (x : List Step). length (lines_by (Second s) x)) (sym same) in
      omega arith

  -- and lines of the script itself await an event only if they are all, and both sides have ended
  pub no_await : (before due : List Piece) → lines_by (Second s) t ≡ before ++ due → all_announced_of due ≡ [] → (due ≡ [] → are_both_ended (state s t).ends ≡ true → ⊥) → AwaitBy o (Second s) before → ⊥
  no_await before due e quiet going a = by (are_both_ended (state s a.trace).ends) refl a.same where
    announced : later_events t ≡ later_events a.trace
    announced =
        sym (announced_before o (Second s) proper t l op before due e quiet) ∙ ap all_announced_of (sym a.same)
        ∙ awaited_announced o s proper a.trace a.lawful (are_both_ended (state s a.trace).ends)

    same : t ≡ a.trace
    same = same_by o (Second s) proper t a.trace l a.lawful op a.opened announced

    by : (b : Bool) → are_both_ended (state s a.trace).ends ≡ b → lines_before (Second s) b a.trace ≡ before → ⊥
    by true v h =
        going (none_missing o (Second s) proper t l op before due e quiet (record { trace = a.trace; lawful = a.lawful; opened = a.opened; same = h }))
        (ap (λ (x : List Step). are_both_ended (state s x).ends) same ∙ v)
    by false v h =
        let n : length (lines_by (Second s) t) + 1 ≡ length before =
        ap (λ (x : List Step). length (lines_by (Second s) x) + 1) same ∙ sym (length-append (lines_by (Second s) a.trace) (Whole (step_number_line (step_number (length a.trace))) ∷ [])) ∙ ap length h in
        let m : length (lines_by (Second s) t) ≡ length before + length due = ap length e ∙ length-append before due in
        omega arith

  -- where an event may come they begin a script
  pub begin_number : (core : CoreParts) → Represents s core t → are_both_ended core.ends ≡ false → (lines : List Piece) → lines_by (Second s) t ++ Whole (number_line (length t)) ∷ [] ≡ lines → BeginBy o (Second s) lines
  begin_number core st over lines e =
      let m = some_may core.ends (ap (λ (w : CoreParts). w.ends.opened) st.0 ∙ op) over in
      let sound = subst (λ (w : CoreParts). DeskInvariant w.desk) (sym st.0) ((lasts s t l).sound) in
      let x = extended s core t m.0 m.1 sound l st in
      let step = step_by core m.0 in
      let ls = longer_lines o (Second s) proper (step ∷ []) t x.0 l in
      record {
        trace = step ∷ t;
        lawful = x.0;
        later = map Whole (step_lines step);
        goes_on = ls ∙ sym (append_assoc (lines_by (Second s) t) (Whole (number_line (length t)) ∷ []) (map Whole (step_lines step))) ∙ ap (λ xs. xs ++ map Whole (step_lines step)) e;
      }

-- a script of version 2 has a header
pub header_some : (o s : Settings) → IsProperIn (Second s) → (t : List Step) → LawfulTrace s t → 1 ≤ length (lines_by (Second s) t)
header_some o s proper t l = let n = ap length (lines_are o (Second s) proper t l) in omega arith
