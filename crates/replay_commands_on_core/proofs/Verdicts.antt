-- The answer of a check.
use Rattle.std.proofs.Common.{◌≡◌, ◌≢◌, ◌⊎◌, ◌↔◌, inl, inr, ℕ, ◌^◌, ◌<◌, List, [], ◌∷◌, ◌++◌, length, append_assoc, Option, Some, None, refl, sym, ap, subst, ◌∙◌, arith}
use Rattle.std.specs.Io.KnownBytes.{Appends}
use Rattle.std.proofs.lemmas.List.{take_all}
use Rattle.line_io.specs.Causes.{Rose}
use Rattle.line_io.specs.Lines.{Piece, items}
use Rattle.line_io.specs.Source.{TakesPrefix}
use Rattle.policy_rules.specs.declared.setting_rules.settings.Settings.{Settings}
use Rattle.replay_command_base.specs.declared.ending.Ending.{Ending}
use Rattle.replay_command_base.specs.declared.ending.Ending.TheVariants as endings
use Rattle.replay_command_base.specs.Diagnostics.{command_status, command_diagnostic}
use Rattle.replay_commands_on_core.specs.Verdict.{check_verdict}
use Rattle.replay_command_base.specs.Reads.{AreFirst, IsAll}
use Rattle.script_replay.specs.Versions.{Version, version_in, script_fault}
use Rattle.replay_commands_on_core.proofs.Faults.{no_bare, may_behind, version_prefix}
use Rattle.replay_commands_on_core.specs.Check.{AreScript, BeginBy, BeginScript, Parts, Differs, ByLine, AtEnd, BeginsWhole, BeginsMuch, Finds, ChecksAs, WritesPart}
use Rattle.replay_command_base.specs.DiagnosticWritten.{DiagnosticWritten}
use Rattle.replay_commands_on_core.specs.Verdict.{VerdictWrote}
use Rattle.replay_commands_on_core.specs.Laws.{HaveLaws}
use Rattle.replay_command_base.specs.Ran.{FilterRan, WritingBroke}
use Rattle.replay_commands_on_core.specs.Checked.{InputFoundLawful, FoundDifference, FoundBadLine, IsExactCheck, CompletesCheck, CompletesMarked, Checked}
use Rattle.replay_command_base.specs.Streams.{FilterStreams, AreSame, HasNoFault}
use Rattle.replay_command_base.proofs.Readings.{few_got}

module _ (o : Settings) (unread kept : Type 0) (start now : FilterStreams) where
  abbrev Ends : Ending → Type 0
  Ends e = ChecksAs o unread kept e start now

  -- the finding was written
  pub wrote : (found answer : Ending) → Finds o found start now → answer ≡ found → Appends start.output.taken now.output.taken (check_verdict found) → (check_verdict found ≡ [] → kept) → Ends answer
  wrote found answer f e a k = subst Ends (sym e) (as_found found f a k) where
    as_found : (x : Ending) → Finds o x start now → Appends start.output.taken now.output.taken (check_verdict x) → (check_verdict x ≡ [] → kept) → Ends x
    as_found endings.WritingFailed f a k = absurd f
    as_found endings.Usage f a k = absurd f
    as_found (endings.Unlawful n) f a k = absurd f
    as_found (endings.OutOfStep n) f a k = absurd f
    as_found (endings.NoPosition fault) f a k = absurd f
    as_found endings.NoMemory f a k = absurd f
    as_found x f a k = (f, a, k)

  -- the end of the input, a failure to read it, or its length says nothing that is written
  quiet : check_verdict endings.ReadingFailed ≡ []
  quiet = refl

  pub broke : (found answer : Ending) → Finds o found start now → answer ≡ endings.WritingFailed → TakesPrefix start.output.taken now.output.taken (check_verdict found)
      → Rose start.output.faults now.output.faults → check_verdict found ≢ [] → (found ≢ endings.ReadingFailed → now.input.faults ≡ start.input.faults) → Ends answer
  broke found answer f e p rose some same = subst Ends (sym e) (record {
    found = found;
    finds = f;
    reading = λ r. absurd (some (ap check_verdict r ∙ quiet));
    read = same;
    part = p;
    unreported = inl (some, rose);
  })

  -- the text that is due was written, and its diagnostic could not be
  all_part : (x : Ending) → Finds o x start now → Appends start.output.taken now.output.taken (check_verdict x) → (x ≡ endings.ReadingFailed → Rose start.input.faults now.input.faults) → (x ≢ endings.ReadingFailed → now.input.faults ≡ start.input.faults)
      → Rose start.diag.faults now.diag.faults → WritesPart o start now
  all_part x f a read same rose = record {
    found = x;
    finds = f;
    reading = read;
    read = same;
    part = (length (check_verdict x), subst (Appends start.output.taken now.output.taken) (sym (take_all (length (check_verdict x)) (check_verdict x) (omega arith))) a);
    unreported = inr rose;
  }

  -- the ending is that writing failed, or the diagnostic of another could not be written
  ends_part : (e : Ending) → Ends e → (e ≡ endings.ReadingFailed → Rose start.input.faults now.input.faults) → (e ≢ endings.ReadingFailed → e ≢ endings.WritingFailed → now.input.faults ≡ start.input.faults)
      → (e ≢ endings.WritingFailed → Rose start.diag.faults now.diag.faults) → (unread × kept) ⊎ WritesPart o start now
  ends_part endings.NoMemory x read same rose = inl x
  ends_part endings.WritingFailed x read same rose = inr x
  ends_part endings.Usage x read same rose = absurd x.0
  ends_part (endings.Unlawful n) x read same rose = absurd x.0
  ends_part (endings.OutOfStep n) x read same rose = absurd x.0
  ends_part (endings.NoPosition fault) x read same rose = absurd x.0
  ends_part e x read same rose = inr (all_part e x.0 x.1 read (λ n. same n (λ w. cc)) (rose (λ w. cc)))

  abbrev R : ℕ → Type 0
  R code = FilterRan Ends start now code

  abbrev Said : ℕ → Ending → Type 0
  Said code e = DiagnosticWritten code (command_status e) (command_diagnostic e) start.diag now.diag

  not_broken : (x : Ending) → Finds o x start now → x ≡ endings.WritingFailed → ⊥
  not_broken x f e = subst (λ (y : Ending). Finds o y start now) e f

  -- a check ran
  pub ran : (code : ℕ) (found answer : Ending) → Finds o found start now → VerdictWrote found answer kept start.output now.output → Said code answer
      → (found ≡ endings.ReadingFailed → Rose start.input.faults now.input.faults) → (found ≢ endings.ReadingFailed → now.input.faults ≡ start.input.faults) → R code
  ran code found answer f (inl w) t rose same = record {
    ending = answer;
    ends = wrote found answer f w.0 w.1 w.2;
    announces = t;
    reading = λ e. rose (sym w.0 ∙ e);
    writing = λ e. absurd (not_broken found f (sym w.0 ∙ e));
    read = λ a b. same (λ e. a (w.0 ∙ e));
    written = λ e. w.3;
  }
  ran code found answer f (inr w) t rose same = record {
    ending = answer;
    ends = broke found answer f w.0 w.1 w.2 w.3 same;
    announces = t;
    reading = λ e. let z = sym w.0 ∙ e in cc;
    writing = λ e. w.2;
    read = λ a b. absurd (b w.0);
    written = λ e. absurd (e w.0);
  }

  module _ (laws : HaveLaws o) where
    -- a status other than 5 is that of the ending
    code_is : (code : ℕ) (e : Ending) → Said code e → (code ≡ 5 → ⊥) → (code ≡ command_status e) × Appends start.diag.taken now.diag.taken (command_diagnostic e) × (now.diag.faults ≡ start.diag.faults)
    code_is code e (inl x) other = x
    code_is code e (inr x) other = absurd (other x.0)

    -- by status
    ending_0 : (e : Ending) → 0 ≡ command_status e → e ≡ endings.Done
    ending_0 endings.Done c = refl
    ending_0 e c = cc

    ending_1 : (e : Ending) → Ends e → 1 ≡ command_status e → (n : ℕ) × (e ≡ endings.Differs n)
    ending_1 (endings.Differs n) x c = (n, refl)
    ending_1 (endings.Unlawful n) x c = absurd x.0
    ending_1 e x c = cc

    same_by : (e : Ending) (code : ℕ) (r : R code) → r.ending ≡ e → (e ≡ endings.ReadingFailed → ⊥) → (e ≡ endings.WritingFailed → ⊥) → (code ≡ 5 → ⊥) → AreSame start now
    same_by e code r is f g five = record {
      read = r.read (λ x. f (sym is ∙ x)) (λ x. g (sym is ∙ x));
      written = r.written (λ x. g (sym is ∙ x));
      announced = (code_is code r.ending r.announces five).2;
    }

    lawful : (code : ℕ) → R code → code ≡ 0 → InputFoundLawful o start now
    lawful code r z =
        let c = code_is code r.ending r.announces (λ f. cc) in
        let e = ending_0 r.ending (sym z ∙ c.0) in
        let x = subst Ends e r.ends in
        record { script = x.0; written = x.1; no_failure = same_by endings.Done code r e (λ f. cc) (λ f. cc) (λ f. cc) }

    differs : (code : ℕ) → R code → code ≡ 1 → FoundDifference o start now
    differs code r z =
        let c = code_is code r.ending r.announces (λ f. cc) in
        let n = ending_1 r.ending r.ends (sym z ∙ c.0) in
        let x = subst Ends n.1 r.ends in
        record { number = n.0; differs = x.0; written = x.1; no_failure = same_by (endings.Differs n.0) code r n.1 (λ f. cc) (λ f. cc) (λ f. cc) }

    bad_of : (e : Ending) → Ends e → 2 ≡ command_status e → Appends start.diag.taken now.diag.taken (command_diagnostic e) → FoundBadLine o kept start now
    bad_of (endings.NoMark n) x c a = record { fault = endings.NoMark n; is_fault = refl; found = x.0; announced = a; unwritten = x.2 refl }
    bad_of (endings.MayNotCome n) x c a = record { fault = endings.MayNotCome n; is_fault = refl; found = x.0; announced = a; unwritten = x.2 refl }
    bad_of endings.Usage x c a = absurd x.0
    bad_of (endings.OutOfStep n) x c a = absurd x.0
    bad_of (endings.NoPosition fault) x c a = absurd x.0
    bad_of e x c a = cc

    script : (code : ℕ) → R code → code ≡ 2 → FoundBadLine o kept start now
    script code r z = let c = code_is code r.ending r.announces (λ f. cc) in bad_of r.ending r.ends (sym z ∙ c.0) c.1

    memory_of : (e : Ending) → Ends e → 3 ≡ command_status e → unread × kept
    memory_of endings.NoMemory x c = x
    memory_of e x c = cc

    pub memory : (code : ℕ) → R code → code ≡ 3 → unread × kept
    memory code r z = memory_of r.ending r.ends (sym z ∙ (code_is code r.ending r.announces (λ f. cc)).0)

    reading_of : (e : Ending) → Ends e → 4 ≡ command_status e → (e ≡ endings.ReadingFailed → Rose start.input.faults now.input.faults) → Rose start.input.faults now.input.faults × BeginsWhole o start now × kept
    reading_of endings.ReadingFailed x c rose = (rose refl, x.0, x.2 refl)
    reading_of e x c rose = cc

    reading : (code : ℕ) → R code → code ≡ 4 → Rose start.input.faults now.input.faults × BeginsWhole o start now × kept
    reading code r z = reading_of r.ending r.ends (sym z ∙ (code_is code r.ending r.announces (λ f. cc)).0) r.reading

    long_of : (e : Ending) → Ends e → 6 ≡ command_status e → BeginsMuch o start now × kept
    long_of endings.TooLong x c = (x.0, x.2 refl)
    long_of e x c = cc

    too_long : (code : ℕ) → R code → code ≡ 6 → BeginsMuch o start now × kept
    too_long code r z = long_of r.ending r.ends (sym z ∙ (code_is code r.ending r.announces (λ f. cc)).0)

    writing_of : (e : Ending) → 5 ≡ command_status e → (e ≡ endings.WritingFailed → Rose start.output.faults now.output.faults) → Rose start.output.faults now.output.faults
    writing_of endings.WritingFailed c rose = rose refl
    writing_of e c rose = cc

    rises : (code : ℕ) (e : Ending) → Said code e → code ≡ 5 → (e ≡ endings.WritingFailed → Rose start.output.faults now.output.faults) → Rose start.output.faults now.output.faults ⊎ Rose start.diag.faults now.diag.faults
    rises code e (inl x) z rose = inl (writing_of e (sym z ∙ x.0) rose)
    rises code e (inr x) z rose = inr x.1

    -- the code of another ending is not 5, so its diagnostic could not be written
    five_of : (e : Ending) → 5 ≡ command_status e → e ≡ endings.WritingFailed
    five_of endings.WritingFailed c = refl
    five_of e c = cc

    unreported : (code : ℕ) (e : Ending) → Said code e → code ≡ 5 → e ≢ endings.WritingFailed → Rose start.diag.faults now.diag.faults
    unreported code e (inl x) z other = absurd (other (five_of e (sym z ∙ x.0)))
    unreported code e (inr x) z other = x.1

    writing : (code : ℕ) → R code → code ≡ 5 → WritingBroke start now × ((unread × kept) ⊎ WritesPart o start now)
    writing code r z = (rises code r.ending r.announces z r.writing, ends_part r.ending r.ends r.reading r.read (unreported code r.ending r.announces z))

    -- EXACT

    all_is : (got x : List ℕ) → IsAll start.input.left got → start.input.left ≡ Some x → items 131072 got ≡ items 131072 x
    all_is got x a e = ap (items 131072) (sym (subst (λ (l : Option (List ℕ)). IsAll l got) e a))

    -- lines that are the first of a script begin it
    begins_first : (x : List ℕ) (before : List Piece) (line : Piece) → AreFirst start.input.left (before ++ line ∷ []) → start.input.left ≡ Some x → AreScript o (items 131072 x) → BeginScript o (before ++ line ∷ [])
    begins_first x before line a e s =
        let f = subst (λ (l : Option (List ℕ)). AreFirst l (before ++ line ∷ [])) e a in
        let v : version_in (items 131072 x) ≡ version_in (before ++ line ∷ []) = ap version_in f.1 ∙ version_prefix before line f.0 in
        subst (λ (w : Version). BeginBy o w (before ++ line ∷ [])) v (record { trace = s.trace; lawful = s.lawful; later = f.0; goes_on = s.same ∙ f.1 })

    parts_no : (n : ℕ) (x : List ℕ) → Parts o n start now → start.input.left ≡ Some x → AreScript o (items 131072 x) → ⊥
    parts_no n x p e s = p.differs (begins_first x p.before p.line p.read.of_left e s)

    differs_no : (n : ℕ) (x : List ℕ) → Differs o n start now → start.input.left ≡ Some x → AreScript o (items 131072 x) → ⊥
    differs_no n x (ByLine p) e s = parts_no n x p.parts e s
    differs_no n x (AtEnd l) e s = l.lacks (subst (AreScript o) (sym (all_is l.got x l.all e)) s)

    exact_of : (e : Ending) → Ends e → (code : ℕ) → code ≡ command_status e → (x : List ℕ) → start.input.left ≡ Some x → code ≢ 3 → code ≢ 4 → code ≢ 5 → code ≢ 6 → (code ≡ 0) ↔ AreScript o (items 131072 x)
    exact_of endings.Done y code c x e n3 n4 n5 n6 = (λ z. subst (AreScript o) (all_is y.0.got x y.0.all e) y.0.script, λ s. c)
    exact_of (endings.Differs n) y code c x e n3 n4 n5 n6 = (λ z. let b = sym z ∙ c in cc, λ s. absurd (differs_no n x y.0 e s))
    exact_of (endings.NoMark n) y code c x e n3 n4 n5 n6 = (λ z. let b = sym z ∙ c in cc, λ s. absurd (parts_no n x y.0.parts e s))
    exact_of (endings.MayNotCome n) y code c x e n3 n4 n5 n6 = (λ z. let b = sym z ∙ c in cc, λ s. absurd (parts_no n x y.0.parts e s))
    exact_of endings.ReadingFailed y code c x e n3 n4 n5 n6 = absurd (n4 c)
    exact_of endings.TooLong y code c x e n3 n4 n5 n6 = absurd (n6 c)
    exact_of endings.WritingFailed y code c x e n3 n4 n5 n6 = absurd (n5 c)
    exact_of endings.NoMemory y code c x e n3 n4 n5 n6 = absurd (n3 c)
    exact_of z y code c x e n3 n4 n5 n6 = absurd y.0

    exact : (code : ℕ) → R code → IsExactCheck o start code
    exact code r x e n3 n4 n5 n6 = exact_of r.ending r.ends code (code_is code r.ending r.announces n5).0 x e n3 n4 n5 n6

    -- COMPLETE

    announced_as : (code : ℕ) (e : Ending) → Said code e → HasNoFault start now → code ≡ command_status e
    announced_as code e (inl t) s = t.0
    announced_as code e (inr t) s = absurd (s.announced t.1)

    complete_of : (e : Ending) → Ends e → (e ≡ endings.ReadingFailed → Rose start.input.faults now.input.faults) → (e ≡ endings.WritingFailed → Rose start.output.faults now.output.faults) → (code : ℕ) → code ≡ command_status e
        → (x : List ℕ) → start.input.left ≡ Some x → length x < 2 ^ 32 → HasNoFault start now → (code ≡ 0) ⊎ (code ≡ 1) ⊎ (code ≡ 2) ⊎ (code ≡ 3)
    complete_of endings.Done y read written code c x e l s = inl c
    complete_of (endings.Differs n) y read written code c x e l s = inr (inl c)
    complete_of (endings.NoMark n) y read written code c x e l s = inr (inr (inl c))
    complete_of (endings.MayNotCome n) y read written code c x e l s = inr (inr (inl c))
    complete_of endings.NoMemory y read written code c x e l s = inr (inr (inr c))
    complete_of endings.ReadingFailed y read written code c x e l s = absurd (s.read (read refl))
    complete_of endings.WritingFailed y read written code c x e l s = absurd (s.written (written refl))
    complete_of endings.TooLong y read written code c x e l s = let few = few_got start.input.left now.input.left y.0.begins.got x y.0.begins.reads.left e in absurd (omega (arith, y.0.least))
    complete_of z y read written code c x e l s = absurd y.0

    complete : (code : ℕ) → R code → CompletesCheck start now code
    complete code r x e l s = complete_of r.ending r.ends r.reading r.writing code (announced_as code r.ending r.announces s) x e l s

    -- WHERE NO LINE IS A FAULT

    -- the line, and those before and after it
    cut_at : (x : List ℕ) (ls : List Piece) (l : Piece) → AreFirst start.input.left (ls ++ l ∷ []) → start.input.left ≡ Some x → (ms : List Piece) × (items 131072 x ≡ ls ++ l ∷ ms)
    cut_at x ls l a e =
        let f = subst (λ (y : Option (List ℕ)). AreFirst y (ls ++ l ∷ [])) e a in
        (f.0, f.1 ∙ append_assoc ls (l ∷ []) f.0)

    no_fault_of : (e : Ending) → Ends e → (x : List ℕ) → start.input.left ≡ Some x → script_fault (items 131072 x) ≡ None → command_status e ≡ 2 → ⊥
    no_fault_of (endings.NoMark n) y x e free c =
        let p = y.0 in
        let at = cut_at x p.parts.before p.parts.line p.parts.read.of_left e in
        no_bare o p.parts.before p.parts.line at.0 p.parts.differs (ap script_fault (sym at.1) ∙ free) p.unmarked
    no_fault_of (endings.MayNotCome n) y x e free c =
        let p = y.0 in
        let at = cut_at x p.parts.before p.parts.line p.parts.read.of_left e in
        may_behind o p.parts.before p.parts.line at.0 p.event p.awaited p.parts.differs (ap script_fault (sym at.1) ∙ free) p.is_event p.may_not
    no_fault_of endings.Usage y x e free c = y.0
    no_fault_of (endings.OutOfStep n) y x e free c = y.0
    no_fault_of (endings.NoPosition fault) y x e free c = y.0
    no_fault_of z y x e free c = cc

    without : (code : ℕ) → (code ≡ 2 → ⊥) → (code ≡ 0) ⊎ (code ≡ 1) ⊎ (code ≡ 2) ⊎ (code ≡ 3) → (code ≡ 0) ⊎ (code ≡ 1) ⊎ (code ≡ 3)
    without code never (inl c) = inl c
    without code never (inr (inl c)) = inr (inl c)
    without code never (inr (inr (inl c))) = absurd (never c)
    without code never (inr (inr (inr c))) = inr (inr c)

    complete_marked : (code : ℕ) → R code → CompletesMarked start now code
    complete_marked code r x e l free s =
        without code (λ two. no_fault_of r.ending r.ends x e free (sym (announced_as code r.ending r.announces s) ∙ two)) (complete code r x e l s)

    pub checked : (code : ℕ) → R code → Checked o unread kept start now code
    checked code r = record {
      ended = r;
      lawful = lawful code r;
      differs = differs code r;
      bad_line = script code r;
      reading_failed = reading code r;
      writing_failed = writing code r;
      too_long = too_long code r;
      exact = exact code r;
      complete = complete code r;
      complete_marked = complete_marked code r;
      laws = laws;
    }
