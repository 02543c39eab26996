-- The evidence from a line where a check stands.
use Rattle.std.proofs.Common.{◌≡◌, ◌≢◌, ◌⊎◌, inl, inr, ℕ, ◌+◌, List, [], ◌∷◌, ◌++◌, map, length, Bool, true, false, cond, ◌==◌, Option, Some, None, refl, ap, sym, subst, ◌∙◌, arith, append_assoc, append-nil}
use Rattle.std.specs.List.{before_first, after_first}
use Rattle.std.specs.Str.{bytes_eq}
use Rattle.std.proofs.lemmas.Slice.Eq.{bytes_eq-Decides}
use Rattle.std.proofs.lemmas.Bool.Decides.{nat_tests}
use Rattle.line_io.specs.Event.{Event}
use Rattle.line_io.specs.Lines.{Piece, Whole, TooLong, is_feed, parts_by_feed}
use Rattle.line_io.proofs.Parts.{parts_first}
use Rattle.script_lines.specs.Marks.{Mark, Happens, mark_spelled, event_mark_text}
use Rattle.script_lines.specs.StepLine.{step_number_line, step_of}
use Rattle.script_lines.proofs.Numerals.{step_spelled}
use Rattle.script_lines.proofs.Spelled.{read_spelled}
use Rattle.policy_rules.specs.declared.setting_rules.settings.Settings.{Settings}
use Rattle.adapter_core.specs.declared.ends.Ends.{Ends}
use Rattle.adapter_core.specs.Ends.{may}
use Rattle.adapter_core.specs.Trace.{Step, state, iface_text, engine_text}
use Rattle.adapter_core.specs.Parts.{CoreParts}
use Rattle.trace_scripts.specs.Script.{written_text, script_events_in, marked_events}
use Rattle.trace_scripts.proofs.Lines.{written_lines, written_parts, step_lines}
use Rattle.trace_scripts.proofs.Scripts.{event_line, some_opened, written_quiet}
use Rattle.replay_command_base.specs.declared.ending.Ending.{Ending}
use Rattle.replay_command_base.specs.declared.ending.Ending.TheVariants as endings
use Rattle.script_replay.specs.declared.stage.ScriptStage.{ScriptStage}
use Rattle.script_replay.specs.declared.stage.ScriptStage.TheVariants as stages
use Rattle.replay_commands_on_core.specs.Check.{lines_by, ScriptBy, BeginBy, AwaitBy, line_kind_in, kind_under}
use Rattle.script_replay.specs.Versions.{Version, First, settings_by, LineKind, MarksEvent, Writes, Numbers, HasNone, script_line_kind_by, kind_of_script_line, kind_says, LineSaid, Comes, Passes, Starts, HasNoMark, IsOutOfStep, Cannot}
use Rattle.replay_commands_on_core.specs.Walked.{CheckedLineIs, TakesEvent, TakesDue, Fails, said_undue, said_other, undue, other_than, fit, fault_in, Followed, at_end as ending_at, CheckShows, Standing}
use Rattle.replay_commands_on_core.proofs.Checks.{all_announced_of, whole_announced, IsSomeIn, longer_lines, none_missing, is_due, next_plain}

pub other_bytes : (a b : List ℕ) → bytes_eq a b ≡ false → a ≡ b → ⊥
other_bytes a b e same = let t = sym e ∙ (bytes_eq-Decides a b).1 same in cc

-- some lines are there, of which one is the first
pub some_parts : (xs : List ℕ) → (length xs == 0) ≡ false → parts_by_feed xs ≡ before_first is_feed xs ∷ parts_by_feed (after_first is_feed xs)
some_parts [] e = cc
some_parts (x ∷ xs) e = parts_first x xs

pub no_bytes : (xs : List ℕ) → (length xs == 0) ≡ true → xs ≡ []
no_bytes [] e = refl
no_bytes (x ∷ xs) e = absurd (let n : length (x ∷ xs) ≡ 0 = grind (arith, nat_tests) in omega arith)

tail_quiet : (xs ys : List Event) → xs ++ ys ≡ [] → ys ≡ []
tail_quiet [] ys h = h
tail_quiet (x ∷ xs) ys h = cc

-- the outcome of a line
pub data Taken (o : Settings) (v : Version) (before : List Piece) (p : Piece) (number : ℕ) (answer : Option Ending) (core : CoreParts) (stage : ScriptStage) (due : List ℕ) : Type 0 where
  Goes : answer ≡ None → Standing o v core stage due (before ++ p ∷ []) → Taken o v before p number answer core stage due
  Unmarked : answer ≡ Some (endings.NoMark number) → (BeginBy o v (before ++ p ∷ []) → ⊥) → line_kind_in v p ≡ HasNone → Taken o v before p number answer core stage due
  MayNot : answer ≡ Some (endings.MayNotCome number) → (BeginBy o v (before ++ p ∷ []) → ⊥) → (e : Event) → kind_of_script_line p ≡ MarksEvent e → (a : AwaitBy o v before) → may (state (settings_by v o) a.trace).ends e ≡ false
      → Taken o v before p number answer core stage due
  Other : answer ≡ Some (endings.Differs number) → (BeginBy o v (before ++ p ∷ []) → ⊥) → line_kind_in v p ≢ HasNone → ((e : Event) → kind_of_script_line p ≡ MarksEvent e → AwaitBy o v before → ⊥)
      → Taken o v before p number answer core stage due

-- a step's written lines
pub written_is : (s : Step) (due : List ℕ) → due ≡ written_text s → parts_by_feed due ≡ written_lines (iface_text s) (engine_text s)
written_is s due e = ap parts_by_feed (e ∙ sym (append-nil (written_text s))) ∙ written_parts (iface_text s) (engine_text s) [] ∙ append-nil (written_lines (iface_text s) (engine_text s))

pub written_still : (s : Step) (due : List ℕ) → due ≡ written_text s → script_events_in (parts_by_feed due) ≡ []
written_still s due e = ap script_events_in (written_is s due e) ∙ written_quiet (iface_text s) (engine_text s)

pub announces_text : (p : Piece) (e : Event) → kind_of_script_line p ≡ MarksEvent e → p ≡ Whole (event_mark_text e)
announces_text TooLong e k = cc
announces_text (Whole line) e k = by (mark_spelled line) refl k where
  by : (m : Option Mark) → mark_spelled line ≡ m → script_line_kind_by m (step_of line) ≡ MarksEvent e → Whole line ≡ Whole (event_mark_text e)
  by None h k = none (step_of line) k where
    none : (n : Option ℕ) → script_line_kind_by None n ≡ MarksEvent e → Whole line ≡ Whole (event_mark_text e)
    none None k = cc
    none (Some n) k = cc
  by (Some (Happens x)) h k = let same : x ≡ e = cc in ap Whole ((read_spelled line (Happens x) h).1 ∙ ap event_mark_text same)
  by (Some m) h k = cc

pub numbers_text : (p : Piece) (n : ℕ) → kind_of_script_line p ≡ Numbers n → p ≡ Whole (step_number_line n)
numbers_text TooLong n k = cc
numbers_text (Whole line) n k = by (mark_spelled line) (step_of line) refl k where
  by : (m : Option Mark) (s : Option ℕ) → step_of line ≡ s → script_line_kind_by m s ≡ Numbers n → Whole line ≡ Whole (step_number_line n)
  by None None h k = cc
  by None (Some x) h k = let same : x ≡ n = cc in ap Whole ((step_spelled line x h).text ∙ ap step_number_line same)
  by (Some (Happens e)) s h k = cc
  by (Some m) s h k = cc

module _ (o : Settings) (v : Version) (core : CoreParts) (stage : ScriptStage) (due : List ℕ) (before : List Piece) (st : Standing o v core stage due before) (some : IsSomeIn v before) where
  abbrev q : Settings
  q = settings_by v o

  abbrev due_lines : List Piece
  due_lines = map Whole (parts_by_feed due)

  abbrev t : List Step
  t = st.trace

  pub ends_are : core.ends ≡ (state q t).ends
  ends_are = ap (λ (w : CoreParts). w.ends) st.stands.0

  pub nothing : (length due == 0) ≡ true → due_lines ≡ []
  nothing e = ap (λ (xs : List ℕ). map Whole (parts_by_feed xs)) (no_bytes due e)

  pub something : (length due == 0) ≡ false → due_lines ≡ Whole (before_first is_feed due) ∷ map Whole (parts_by_feed (after_first is_feed due))
  something e = ap (map Whole) (some_parts due e)

  pub is_quiet : CheckShows v t due before → all_announced_of due_lines ≡ []
  is_quiet w = whole_announced (parts_by_feed due) ∙ w.quiet

  pub shows_begin : CheckShows v t due before → BeginBy o v before
  shows_begin w = record { trace = t; lawful = st.lawful; later = due_lines; goes_on = w.same }

  -- THE END

  pub shows_end : CheckShows v t due before → (n : ℕ) (answer : Ending) → answer ≡ ending_at due n → ((answer ≡ endings.Done) × ScriptBy o v before) ⊎ ((answer ≡ endings.Differs (n + 1)) × (ScriptBy o v before → ⊥))
  shows_end w n answer e = by (length due == 0) refl e where
    by : (b : Bool) → (length due == 0) ≡ b → answer ≡ cond b endings.Done (endings.Differs (n + 1)) → ((answer ≡ endings.Done) × ScriptBy o v before) ⊎ ((answer ≡ endings.Differs (n + 1)) × (ScriptBy o v before → ⊥))
    by true d e = inl (e, record { trace = t; lawful = st.lawful; opened = st.opened; same = w.same ∙ ap (λ ls. before ++ ls) (nothing d) ∙ append-nil before })
    by false d e = inr (e, λ a. let z = sym (something d) ∙ none_missing o v st.proper t st.lawful st.opened before due_lines w.same (is_quiet w) a in cc)

  -- THE LINE THAT IS DUE

  module _ (p : Piece) (number : ℕ) (core' : CoreParts) (stage' : ScriptStage) (due' : List ℕ) where
    abbrev Result : Option Ending → Type 0
    Result answer = Taken o v before p number answer core' stage' due'

    pub shows_next : CheckShows v t due before → (length due == 0) ≡ false → p ≡ Whole (before_first is_feed due) → due' ≡ after_first is_feed due → CheckShows v t due' (before ++ p ∷ [])
    shows_next w d e f = record {
      same = w.same ∙ ap (λ (ls : List Piece). before ++ ls) (something d ∙ ap (λ (x : Piece). x ∷ map Whole (parts_by_feed (after_first is_feed due))) (sym e) ∙ ap (λ (xs : List ℕ). p ∷ map Whole (parts_by_feed xs)) (sym f))
          ∙ sym (append_assoc before (p ∷ []) (map Whole (parts_by_feed due')));
      quiet = ap (λ (xs : List ℕ). script_events_in (parts_by_feed xs)) f ∙ tail_quiet (marked_events (mark_spelled (before_first is_feed due))) (script_events_in (parts_by_feed (after_first is_feed due))) (sym (ap script_events_in (some_parts due d)) ∙ w.quiet);
    }

    not_due : CheckShows v t due before → (length due == 0) ≡ false → (p ≡ Whole (before_first is_feed due) → ⊥) → BeginBy o v (before ++ p ∷ []) → ⊥
    not_due w d never b = never (is_due o v st.proper t st.lawful st.opened before due_lines w.same (is_quiet w) some p (Whole (before_first is_feed due)) (map Whole (parts_by_feed (after_first is_feed due))) (something d) b)

    goes : (answer : Option Ending) → answer ≡ None → Standing o v core' stage' due' (before ++ p ∷ []) → Result answer
    goes answer e s = Goes e s

    -- a line that is not the one that is due
    pub by_other : CheckShows v t due before → (length due == 0) ≡ false → (p ≡ Whole (before_first is_feed due) → ⊥) → ((e : Event) → kind_of_script_line p ≡ MarksEvent e → AwaitBy o v before → ⊥)
        → (s : LineSaid) → (s ≡ HasNoMark → line_kind_in v p ≡ HasNone) → ((s ≡ HasNoMark → ⊥) → line_kind_in v p ≢ HasNone) → (answer : Option Ending) → answer ≡ Some (said_other number s) → Result answer
    by_other w d never await HasNoMark u m answer a = Unmarked a (not_due w d never) (u refl)
    by_other w d never await (Comes e) u m answer a = Other a (not_due w d never) (m (λ h. cc)) await
    by_other w d never await (Starts n) u m answer a = Other a (not_due w d never) (m (λ h. cc)) await
    by_other w d never await Cannot u m answer a = Other a (not_due w d never) (m (λ h. cc)) await
    by_other w d never await Passes u m answer a = Other a (not_due w d never) (m (λ h. cc)) await
    by_other w d never await IsOutOfStep u m answer a = Other a (not_due w d never) (m (λ h. cc)) await

-- constructors
pub one_event : {x y : Event} → MarksEvent x ≡ MarksEvent y → x ≡ y
one_event h = cc

pub whole_one : {x y : List ℕ} → Whole x ≡ Whole y → x ≡ y
whole_one h = cc

-- VERSION 1

module _ (o : Settings) (core : CoreParts) (due : List ℕ) (before : List Piece) (st : Standing o First core stages.Plain due before) (line : List ℕ) (number : ℕ) (core' : CoreParts) (stage' : ScriptStage) (due' : List ℕ) where
  abbrev p : Piece
  p = Whole line

  abbrev Result1 : Option Ending → Type 0
  Result1 answer = Taken o First before p number answer core' stage' due'

  abbrev Goal1 : CheckedLineIs → Type 0
  Goal1 f = (answer : Option Ending) → answer ≡ fault_in f → Followed core stages.Plain due f core' stage' due' → Result1 answer

  same1 : (length due == 0) ≡ true → lines_by First st.trace ≡ before ++ []
  same1 d = st.at.same ∙ ap (λ (ls : List Piece). before ++ ls) (nothing o First core stages.Plain due before st tt d)

  next1 : (length due == 0) ≡ true → BeginBy o First (before ++ p ∷ []) → (e : Event) × (kind_of_script_line p ≡ MarksEvent e) × (may (state o st.trace).ends e ≡ true)
  next1 d b = next_plain o st.trace st.lawful st.opened before (same1 d) p b

  event1 : (length due == 0) ≡ true → (e : Event) → kind_of_script_line p ≡ MarksEvent e → may core.ends e ≡ true → Goal1 (TakesEvent e)
  event1 d e k m answer a f =
      let s = f.0.step in
      let next = f.0.adds.extends o st.trace st.lawful st.stands in
      let shown = event_line (state o st.trace).ends s.event st.opened next.0.1.may_come in
      let text : event_mark_text s.event ≡ line = ap event_mark_text f.0.adds.event ∙ sym (whole_one (announces_text p e k)) in
      Goes a (subst (λ (x : ScriptStage). Standing o First core' x due' (before ++ p ∷ [])) (sym f.1) (record {
        proper = tt;
        trace = s ∷ st.trace;
        lawful = next.0;
        opened = some_opened o s st.trace next.0;
        stands = next.1;
        at = record {
          same =
              longer_lines o First tt (s ∷ []) st.trace next.0 st.lawful
              ∙ ap (λ (ls : List Piece). ls ++ map Whole (step_lines s)) (same1 d ∙ append-nil before)
              ∙ ap (λ ls. before ++ map Whole (ls ++ written_lines (iface_text s) (engine_text s))) (shown.0 ∙ ap (λ (x : List ℕ). x ∷ []) text)
              ∙ ap (λ ls. before ++ p ∷ map Whole ls) (sym (written_is s due' f.0.due_is))
              ∙ sym (append_assoc before (p ∷ []) (map Whole (parts_by_feed due')));
          quiet = written_still s due' f.0.due_is;
        };
      }))

  none1 : (length due == 0) ≡ true → (k : LineKind) → kind_of_script_line p ≡ k → ((e : Event) → k ≡ MarksEvent e → ⊥) → BeginBy o First (before ++ p ∷ []) → ⊥
  none1 d k e never b = let n = next1 d b in never n.0 (sym e ∙ n.1)

  by_may1 : (length due == 0) ≡ true → (e : Event) → kind_of_script_line p ≡ MarksEvent e → (b : Bool) → may core.ends e ≡ b → Goal1 (said_undue core.ends number (MarksEvent e) (cond b (Comes e) Cannot))
  by_may1 d e k true m = event1 d e k m
  by_may1 d e k false m = λ answer a f.
      let ends = ends_are o First core stages.Plain due before st tt in
      let not : may (state o st.trace).ends e ≡ false = ap (λ (x : Ends). may x e) (sym ends) ∙ m in
      MayNot a (λ b. let n = next1 d b in let same = one_event (sym n.1 ∙ k) in let z = sym n.2 ∙ ap (may (state o st.trace).ends) same ∙ not in cc) e k
      (record { trace = st.trace; lawful = st.lawful; opened = st.opened; same = same1 d ∙ append-nil before }) not

  undue1 : (length due == 0) ≡ true → (k : LineKind) → kind_of_script_line p ≡ k → Goal1 (said_undue core.ends number k (kind_says stages.Plain core.ends k))
  undue1 d (MarksEvent e) k = by_may1 d e k (may core.ends e) refl
  undue1 d Writes k = λ answer a f. Other a (none1 d Writes k (λ e h. cc)) (λ h. let z = ap (kind_under First) (sym k) ∙ h in cc) (λ e h x. let z = sym k ∙ h in cc)
  undue1 d (Numbers n) k = λ answer a f. Unmarked a (none1 d (Numbers n) k (λ e h. cc)) (ap (kind_under First) k)
  undue1 d HasNone k = λ answer a f. Unmarked a (none1 d HasNone k (λ e h. cc)) (ap (kind_under First) k)

  bare1 : (k : LineKind) → kind_says stages.Plain core.ends k ≡ HasNoMark → kind_under First k ≡ HasNone
  bare1 (MarksEvent e) h = absurd (by (may core.ends e) h) where
    by : (b : Bool) → cond b (Comes e) Cannot ≡ HasNoMark → ⊥
    by true h = cc
    by false h = cc
  bare1 Writes h = cc
  bare1 (Numbers n) h = refl
  bare1 HasNone h = refl

  marked1 : (k : LineKind) → (kind_says stages.Plain core.ends k ≡ HasNoMark → ⊥) → kind_under First k ≢ HasNone
  marked1 (MarksEvent e) never h = cc
  marked1 Writes never h = cc
  marked1 (Numbers n) never h = never refl
  marked1 HasNone never h = never refl

  by_same1 : (length due == 0) ≡ false → (b : Bool) → bytes_eq line (before_first is_feed due) ≡ b → Goal1 (cond b TakesDue (Fails (other_than stages.Plain core.ends number line)))
  by_same1 d true e = λ answer a f. Goes a (subst (λ (x : CoreParts). Standing o First x stage' due' (before ++ p ∷ [])) (sym f.0) (subst (λ (x : ScriptStage). Standing o First core x due' (before ++ p ∷ [])) (sym f.1) (record {
    proper = tt;
    trace = st.trace;
    lawful = st.lawful;
    opened = st.opened;
    stands = st.stands;
    at = shows_next o First core stages.Plain due before st tt p number core' stage' due' st.at d (ap Whole ((bytes_eq-Decides line (before_first is_feed due)).0 e)) f.2;
  })))
  by_same1 d false e = λ answer a f.
      by_other o First core stages.Plain due before st tt p number core' stage' due' st.at d (λ h. other_bytes line (before_first is_feed due) e (whole_one h))
      (λ x k w. let z = sym (something o First core stages.Plain due before st tt d) ∙ none_missing o First tt st.trace st.lawful st.opened before (map Whole (parts_by_feed due)) st.at.same (is_quiet o First core stages.Plain due before st tt st.at)
      (record { trace = w.trace; lawful = w.lawful; opened = w.opened; same = w.same }) in cc)
      (kind_says stages.Plain core.ends (kind_of_script_line p)) (bare1 (kind_of_script_line p)) (marked1 (kind_of_script_line p)) answer a

  by_due1 : (b : Bool) → (length due == 0) ≡ b → Goal1 (cond b (undue stages.Plain core.ends number line) (cond (bytes_eq line (before_first is_feed due)) TakesDue (Fails (other_than stages.Plain core.ends number line))))
  by_due1 true d = undue1 d (kind_of_script_line p) refl
  by_due1 false d = by_same1 d (bytes_eq line (before_first is_feed due)) refl

  pub taken_plain : Goal1 (fit stages.Plain core.ends due number line)
  taken_plain = by_due1 (length due == 0) refl
