-- The evidence from a line in a check of version 2.
use Rattle.std.proofs.Common.{◌≡◌, ◌≢◌, ℕ, ◌+◌, ◌≤◌, List, [], ◌∷◌, ◌++◌, map, length, length-append, Bool, true, false, cond, ◌==◌, Option, refl, ap, sym, subst, ◌∙◌, arith, append_assoc, append-nil}
use Rattle.std.specs.List.{before_first}
use Rattle.std.specs.Str.{bytes_eq}
use Rattle.std.proofs.lemmas.Bool.Decides.{nat_tests}
use Rattle.std.proofs.lemmas.Slice.Eq.{bytes_eq-Decides}
use Rattle.line_io.specs.Event.{Event}
use Rattle.line_io.specs.Lines.{Piece, Whole, is_feed, parts_by_feed}
use Rattle.script_lines.specs.Marks.{event_mark_text}
use Rattle.script_lines.specs.StepLine.{step_number_line, step_number}
use Rattle.script_lines.proofs.Numerals.{number_next}
use Rattle.policy_rules.specs.declared.setting_rules.settings.Settings.{Settings}
use Rattle.adapter_core.specs.declared.ends.Ends.{Ends}
use Rattle.adapter_core.specs.Ends.{may, are_both_ended}
use Rattle.adapter_core.specs.Trace.{state, iface_text, engine_text}
use Rattle.adapter_core.specs.Parts.{CoreParts}
use Rattle.trace_scripts.proofs.Lines.{written_lines}
use Rattle.trace_scripts.proofs.Numbered.{number_line}
use Rattle.trace_scripts.proofs.Scripts.{event_line, some_opened}
use Rattle.replay_command_base.specs.declared.ending.Ending.{Ending}
use Rattle.replay_command_base.specs.declared.ending.Ending.TheVariants as endings
use Rattle.script_replay.specs.declared.stage.ScriptStage.{ScriptStage}
use Rattle.script_replay.specs.declared.stage.ScriptStage.TheVariants as stages
use Rattle.replay_commands_on_core.specs.Check.{lines_before, lines_by, BeginBy, AwaitBy, line_kind_in}
use Rattle.script_replay.specs.Versions.{Second, LineKind, MarksEvent, Writes, Numbers, HasNone, kind_of_script_line, kind_says, Comes, Starts, HasNoMark, IsOutOfStep, Cannot}
use Rattle.replay_commands_on_core.specs.Walked.{CheckedLineIs, TakesEvent, TakesNumber, TakesDue, Fails, said_undue, undue, other_than, fit, fault_in, Followed, Standing}
use Rattle.replay_commands_on_core.proofs.Checks.{longer_lines, next_number, next_event, no_await, number_kind, header_some}
use Rattle.replay_commands_on_core.proofs.Places.{Taken, Goes, Unmarked, MayNot, Other, other_bytes, no_bytes, nothing, something, is_quiet, shows_next, by_other, written_is, written_still, announces_text, numbers_text, one_event, whole_one, ends_are}
use Rattle.replay_commands_on_core.proofs.StageLines.{over_may}

more_some : (before : List Piece) (p : Piece) → 1 ≤ length (before ++ p ∷ [])
more_some before p = omega (arith, length-append before (p ∷ []))

-- BEHIND A STEP

module _ (o s : Settings) (core : CoreParts) (last : ℕ) (due : List ℕ) (before : List Piece) (st : Standing o (Second s) core (stages.AfterEvent last) due before) (some : 1 ≤ length before) (line : List ℕ) (number : ℕ) (core' : CoreParts) (stage' : ScriptStage) (due' : List ℕ) where
  abbrev p : Piece
  p = Whole line

  abbrev Goal2 : CheckedLineIs → Type 0
  Goal2 f = (answer : Option Ending) → answer ≡ fault_in f → Followed core (stages.AfterEvent last) due f core' stage' due' → Taken o (Second s) before p number answer core' stage' due'

  same2 : (length due == 0) ≡ true → lines_by (Second s) st.trace ≡ before ++ []
  same2 d = st.at.0.same ∙ ap (λ (ls : List Piece). before ++ ls) (nothing o (Second s) core (stages.AfterEvent last) due before st some d)

  next2 : (length due == 0) ≡ true → BeginBy o (Second s) (before ++ p ∷ []) → (p ≡ Whole (number_line (length st.trace))) × ((e : Event) × (may (state s st.trace).ends e ≡ true))
  next2 d b = next_number o s st.proper st.trace st.lawful st.opened before (same2 d) some p b

  -- no event is awaited if lines are due or a side has not ended
  await2 : (map Whole (parts_by_feed due) ≡ [] → are_both_ended core.ends ≡ true → ⊥) → (e : Event) → kind_of_script_line p ≡ MarksEvent e → AwaitBy o (Second s) before → ⊥
  await2 going e k a =
      no_await o s st.proper st.trace st.lawful st.opened before (map Whole (parts_by_feed due)) st.at.0.same (is_quiet o (Second s) core (stages.AfterEvent last) due before st some st.at.0)
      (λ none v. going none (ap are_both_ended (ends_are o (Second s) core (stages.AfterEvent last) due before st some) ∙ v)) a

  none2 : (length due == 0) ≡ true → (k : LineKind) → kind_of_script_line p ≡ k → ((n : ℕ) → k ≡ Numbers n → ⊥) → BeginBy o (Second s) (before ++ p ∷ []) → ⊥
  none2 d k e never b = never (step_number (length st.trace)) (sym e ∙ number_kind p (length st.trace) (next2 d b).0)

  number_is : step_number (last + 1) ≡ step_number (length st.trace)
  number_is = let w = st.at.1 in number_next last w.count w.number_is ∙ ap step_number (sym w.length_is)

  numbers_marked : (n : ℕ) → kind_of_script_line p ≡ Numbers n → line_kind_in (Second s) p ≡ HasNone → ⊥
  numbers_marked n k h = let z = sym k ∙ h in cc

  one_number : {x y : ℕ} → Numbers x ≡ Numbers y → x ≡ y
  one_number h = cc

  -- the number of the next step
  by_over : (length due == 0) ≡ true → (n : ℕ) → kind_of_script_line p ≡ Numbers n → n ≡ step_number (last + 1) → (b : Bool) → are_both_ended core.ends ≡ b → Goal2 (cond b (Fails (endings.Differs number)) (TakesNumber n))
  by_over d n k e true v = λ answer a f.
      let ends = ends_are o (Second s) core (stages.AfterEvent last) due before st some in
      Other a (λ b. let x = (next2 d b).1 in over_may (state s st.trace).ends x.0 st.opened (ap are_both_ended (sym ends) ∙ v) x.1) (numbers_marked n k) (λ x h w. let z = sym k ∙ h in cc)
  by_over d n k e false v = λ answer a f.
      Goes a (subst (λ (x : CoreParts). Standing o (Second s) x stage' due' (before ++ p ∷ [])) (sym f.0) (subst (λ (x : ScriptStage). Standing o (Second s) core x due' (before ++ p ∷ [])) (sym f.1) (record {
        proper = st.proper;
        trace = st.trace;
        lawful = st.lawful;
        opened = st.opened;
        stands = st.stands;
        at = record {
          same = ap (λ (ls : List Piece). ls ++ Whole (step_number_line n) ∷ []) (same2 d ∙ append-nil before) ∙ ap (λ (x : Piece). before ++ x ∷ []) (sym (numbers_text p n k));
          number_is = e ∙ number_is;
          none_due = f.2 ∙ no_bytes due d;
          not_over = v;
        };
      })))

  by_number : (length due == 0) ≡ true → (n : ℕ) → kind_of_script_line p ≡ Numbers n → (b : Bool) → (n == step_number (last + 1)) ≡ b → Goal2 (said_undue core.ends number (Numbers n) (cond b (Starts n) IsOutOfStep))
  by_number d n k true e = let y : n ≡ step_number (last + 1) = grind (arith, nat_tests) in by_over d n k y (are_both_ended core.ends) refl
  by_number d n k false e = λ answer a f.
      let differ : n ≡ step_number (last + 1) → ⊥ = λ h. other n (step_number (last + 1)) e h in
      Other a (λ b. differ (one_number (sym k ∙ number_kind p (length st.trace) (next2 d b).0) ∙ sym number_is)) (numbers_marked n k) (λ x h w. let z = sym k ∙ h in cc) where
        other : (x y : ℕ) → (x == y) ≡ false → x ≡ y → ⊥
        other x y e h = let z : (x == y) ≡ true = grind (arith, nat_tests) in let w = sym z ∙ e in cc

  -- no event may come once both sides have ended
  may_not2 : (e : Event) → are_both_ended core.ends ≡ true → may (state s st.trace).ends e ≡ false
  may_not2 e v = by (may (state s st.trace).ends e) refl where
    by : (b : Bool) → may (state s st.trace).ends e ≡ b → b ≡ false
    by true m = absurd (over_may (state s st.trace).ends e st.opened (ap are_both_ended (sym (ends_are o (Second s) core (stages.AfterEvent last) due before st some)) ∙ v) m)
    by false m = refl

  -- an event out of step
  by_astray : (length due == 0) ≡ true → (e : Event) → kind_of_script_line p ≡ MarksEvent e → (b : Bool) → are_both_ended core.ends ≡ b → Goal2 (Fails (cond b (endings.MayNotCome number) (endings.Differs number)))
  by_astray d e k true v = λ answer a f.
      let over : are_both_ended (state s st.trace).ends ≡ true = ap are_both_ended (sym (ends_are o (Second s) core (stages.AfterEvent last) due before st some)) ∙ v in
      MayNot a (none2 d (MarksEvent e) k (λ n h. cc)) e k
      (record { trace = st.trace; lawful = st.lawful; opened = st.opened; same = ap (λ (b : Bool). lines_before (Second s) b st.trace) over ∙ same2 d ∙ append-nil before })
      (may_not2 e v)
  by_astray d e k false v = λ answer a f.
      Other a (none2 d (MarksEvent e) k (λ n h. cc)) (λ h. let z = sym k ∙ h in cc) (await2 (λ none w. let z = sym v ∙ w in cc))

  undue2 : (length due == 0) ≡ true → (k : LineKind) → kind_of_script_line p ≡ k → Goal2 (said_undue core.ends number k (kind_says (stages.AfterEvent last) core.ends k))
  undue2 d (MarksEvent e) k = by_astray d e k (are_both_ended core.ends) refl
  undue2 d Writes k = λ answer a f. Other a (none2 d Writes k (λ n h. cc)) (λ h. let z = sym k ∙ h in cc) (λ x h w. let z = sym k ∙ h in cc)
  undue2 d (Numbers n) k = by_number d n k (n == step_number (last + 1)) refl
  undue2 d HasNone k = λ answer a f. Unmarked a (none2 d HasNone k (λ n h. cc)) k

  bare2 : (k : LineKind) → kind_says (stages.AfterEvent last) core.ends k ≡ HasNoMark → k ≡ HasNone
  bare2 (MarksEvent e) h = cc
  bare2 Writes h = cc
  bare2 (Numbers n) h = absurd (by (n == step_number (last + 1)) h) where
    by : (b : Bool) → cond b (Starts n) IsOutOfStep ≡ HasNoMark → ⊥
    by true h = cc
    by false h = cc
  bare2 HasNone h = refl

  marked2 : (k : LineKind) → (kind_says (stages.AfterEvent last) core.ends k ≡ HasNoMark → ⊥) → k ≢ HasNone
  marked2 (MarksEvent e) never h = cc
  marked2 Writes never h = cc
  marked2 (Numbers n) never h = cc
  marked2 HasNone never h = never refl

  by_same2 : (length due == 0) ≡ false → (b : Bool) → bytes_eq line (before_first is_feed due) ≡ b → Goal2 (cond b TakesDue (Fails (other_than (stages.AfterEvent last) core.ends number line)))
  by_same2 d true e = λ answer a f. Goes a (subst (λ (x : CoreParts). Standing o (Second s) x stage' due' (before ++ p ∷ [])) (sym f.0) (subst (λ (x : ScriptStage). Standing o (Second s) core x due' (before ++ p ∷ [])) (sym f.1) (record {
    proper = st.proper;
    trace = st.trace;
    lawful = st.lawful;
    opened = st.opened;
    stands = st.stands;
    at = (shows_next o (Second s) core (stages.AfterEvent last) due before st some p number core' stage' due' st.at.0 d (ap Whole ((bytes_eq-Decides line (before_first is_feed due)).0 e)) f.2, st.at.1);
  })))
  by_same2 d false e = λ answer a f.
      by_other o (Second s) core (stages.AfterEvent last) due before st some p number core' stage' due' st.at.0 d (λ h. other_bytes line (before_first is_feed due) e (whole_one h)) (await2 (λ none w. let z = sym (something o (Second s) core (stages.AfterEvent last) due before st some d) ∙ none in cc))
      (kind_says (stages.AfterEvent last) core.ends (kind_of_script_line p)) (bare2 (kind_of_script_line p)) (marked2 (kind_of_script_line p)) answer a

  by_due2 : (b : Bool) → (length due == 0) ≡ b → Goal2 (cond b (undue (stages.AfterEvent last) core.ends number line) (cond (bytes_eq line (before_first is_feed due)) TakesDue (Fails (other_than (stages.AfterEvent last) core.ends number line))))
  by_due2 true d = undue2 d (kind_of_script_line p) refl
  by_due2 false d = by_same2 d (bytes_eq line (before_first is_feed due)) refl

  pub taken_announced : Goal2 (fit (stages.AfterEvent last) core.ends due number line)
  taken_announced = by_due2 (length due == 0) refl

-- BEHIND A NUMBER

module _ (o s : Settings) (core : CoreParts) (step : ℕ) (due : List ℕ) (before : List Piece) (st : Standing o (Second s) core (stages.Numbered step) due before) (line : List ℕ) (number : ℕ) (core' : CoreParts) (stage' : ScriptStage) (due' : List ℕ) where
  abbrev p3 : Piece
  p3 = Whole line

  abbrev stage3 : ScriptStage
  stage3 = stages.Numbered step

  abbrev script3 : List Piece
  script3 = lines_by (Second s) st.trace

  abbrev Goal3 : CheckedLineIs → Type 0
  Goal3 f = (answer : Option Ending) → answer ≡ fault_in f → Followed core stage3 due f core' stage' due' → Taken o (Second s) before p3 number answer core' stage' due'

  number_piece : Whole (step_number_line step) ≡ Whole (number_line (length st.trace))
  number_piece = ap (λ n. Whole (step_number_line n)) st.at.number_is

  before_is : script3 ++ Whole (number_line (length st.trace)) ∷ [] ≡ before
  before_is = ap (λ (x : Piece). script3 ++ x ∷ []) (sym number_piece) ∙ st.at.same

  -- a side has not ended
  open3 : are_both_ended (state s st.trace).ends ≡ false
  open3 = ap (λ (w : CoreParts). are_both_ended w.ends) (sym st.stands.0) ∙ st.at.not_over

  -- a script of version 2 has a header
  script_some : 1 ≤ length script3
  script_some = header_some o s st.proper st.trace st.lawful

  next3 : BeginBy o (Second s) (before ++ p3 ∷ []) → (e : Event) × (kind_of_script_line p3 ≡ MarksEvent e) × (may (state s st.trace).ends e ≡ true)
  next3 b = next_event o s st.proper st.trace st.lawful st.opened script3 (sym (append-nil script3)) script_some p3 (subst (λ (ls : List Piece). BeginBy o (Second s) (ls ++ p3 ∷ [])) (sym before_is) b)

  none3 : (k : LineKind) → kind_of_script_line p3 ≡ k → ((e : Event) → k ≡ MarksEvent e → ⊥) → BeginBy o (Second s) (before ++ p3 ∷ []) → ⊥
  none3 k e never b = let n = next3 b in never n.0 (sym e ∙ n.1)

  event3 : (e : Event) → kind_of_script_line p3 ≡ MarksEvent e → may core.ends e ≡ true → Goal3 (TakesEvent e)
  event3 e k m answer a f =
      let x = f.0.step in
      let next = f.0.adds.extends s st.trace st.lawful st.stands in
      let shown = event_line (state s st.trace).ends x.event st.opened next.0.1.may_come in
      let text : event_mark_text x.event ≡ line = ap event_mark_text f.0.adds.event ∙ sym (whole_one (announces_text p3 e k)) in
      Goes a (subst (λ (y : ScriptStage). Standing o (Second s) core' y due' (before ++ p3 ∷ [])) (sym f.1) (record {
        proper = st.proper;
        trace = x ∷ st.trace;
        lawful = next.0;
        opened = some_opened s x st.trace next.0;
        stands = next.1;
        at = (
          record {
            same =
                longer_lines o (Second s) st.proper (x ∷ []) st.trace next.0 st.lawful
                ∙ ap (λ ls. script3 ++ Whole (number_line (length st.trace)) ∷ map Whole (ls ++ written_lines (iface_text x) (engine_text x))) (shown.0 ∙ ap (λ (y : List ℕ). y ∷ []) text)
                ∙ ap (λ ls. script3 ++ Whole (number_line (length st.trace)) ∷ p3 ∷ map Whole ls) (sym (written_is x due' f.0.due_is))
                ∙ sym (append_assoc script3 (Whole (number_line (length st.trace)) ∷ []) (p3 ∷ map Whole (parts_by_feed due')))
                ∙ ap (λ (ls : List Piece). ls ++ p3 ∷ map Whole (parts_by_feed due')) before_is
                ∙ sym (append_assoc before (p3 ∷ []) (map Whole (parts_by_feed due')));
            quiet = written_still x due' f.0.due_is;
          },
          record { count = length st.trace; length_is = refl; number_is = st.at.number_is },
        );
      }))

  by_may3 : (e : Event) → kind_of_script_line p3 ≡ MarksEvent e → (b : Bool) → may core.ends e ≡ b → Goal3 (said_undue core.ends number (MarksEvent e) (cond b (Comes e) Cannot))
  by_may3 e k true m = event3 e k m
  by_may3 e k false m = λ answer a f.
      let ends : core.ends ≡ (state s st.trace).ends = ap (λ (w : CoreParts). w.ends) st.stands.0 in
      let not : may (state s st.trace).ends e ≡ false = ap (λ (x : Ends). may x e) (sym ends) ∙ m in
      MayNot a (λ b. let n = next3 b in let same = one_event (sym n.1 ∙ k) in let z = sym n.2 ∙ ap (may (state s st.trace).ends) same ∙ not in cc) e k
      (record { trace = st.trace; lawful = st.lawful; opened = st.opened; same = ap (λ (b : Bool). lines_before (Second s) b st.trace) open3 ∙ before_is }) not

  undue3 : (k : LineKind) → kind_of_script_line p3 ≡ k → Goal3 (said_undue core.ends number k (kind_says stage3 core.ends k))
  undue3 (MarksEvent e) k = by_may3 e k (may core.ends e) refl
  undue3 Writes k = λ answer a f. Other a (none3 Writes k (λ e h. cc)) (λ h. let z = sym k ∙ h in cc) (λ e h x. let z = sym k ∙ h in cc)
  undue3 (Numbers n) k = λ answer a f. Other a (none3 (Numbers n) k (λ e h. cc)) (λ h. let z = sym k ∙ h in cc) (λ e h x. let z = sym k ∙ h in cc)
  undue3 HasNone k = λ answer a f. Unmarked a (none3 HasNone k (λ e h. cc)) k

  pub taken_numbered : Goal3 (fit stage3 core.ends due number line)
  taken_numbered = subst (λ (xs : List ℕ). Goal3 (fit stage3 core.ends xs number line)) (sym st.at.none_due) (undue3 (kind_of_script_line p3) refl)
