-- A line that is replayed.
use Rattle.std.proofs.Common.{◌≡◌, ℕ, suc, ◌+◌, ◌<◌, ◌^◌, List, [], ◌∷◌, ◌++◌, length, Bool, true, false, cond, ◌==◌, Option, Some, None, refl, sym, ap, subst, ◌∙◌, arith, append_assoc, append-nil}
use Rattle.std.proofs.lemmas.Bool.Decides.{nat_tests}
use Rattle.std.specs.Io.KnownBytes.{Appends}
use Rattle.line_io.specs.Event.{Event, Open}
use Rattle.line_io.specs.Lines.{Piece, Whole}
use Rattle.line_io.specs.Out.{Text, with}
use Rattle.line_io.specs.Source.{Received}
use Rattle.script_lines.specs.Header.{header_of, header_text}
use Rattle.script_lines.specs.StepLine.{step_number}
use Rattle.script_lines.specs.StepText.{numbered_marks}
use Rattle.script_lines.proofs.Numerals.{number_below, number_next}
use Rattle.script_replay.specs.Stages.{IsNumbered}
use Rattle.policy_rules.specs.declared.setting_rules.settings.Settings.{Settings}
use Rattle.adapter_core.specs.declared.ends.Ends.{Ends}
use Rattle.adapter_core.specs.Ends.{may, ends_after}
use Rattle.adapter_core.specs.Trace.{Step, LawfulTrace, state, iface_text, engine_text}
use Rattle.adapter_core.specs.Parts.{CoreParts}
use Rattle.adapter_core.specs.Represents.{Represents}
use Rattle.trace_scripts.specs.Script.{numbered_text, numbered_texts, step_text}
use Rattle.replay_command_base.specs.declared.ending.Ending.{Ending}
use Rattle.replay_command_base.specs.declared.ending.Ending.TheVariants as endings
use Rattle.script_replay.specs.declared.stage.ScriptStage.{ScriptStage}
use Rattle.script_replay.specs.declared.stage.ScriptStage.TheVariants as stages
use Rattle.script_replay.specs.Versions.{LineKind, MarksEvent, Numbers, kind_of_script_line, Version, First, Second, version_by, version_in, behind_header, header_lines, settings_by, script_by, LineSaid, Comes, Passes, Starts, HasNoMark, IsOutOfStep, Cannot, event_says, number_says, kind_says, line_says, stage_started, stage_after_event, ScriptPlace, place_said, place_over, fault_said, first_fault, events_said, replayed_events, ends_once_open, script_beginning, fault_by, events_by, script_fault, script_events}
use Rattle.script_replay.specs.Playing.{StepIsPut, LineIsPlayed, step_text_at, CountIs, Playing, OutputIsScript, LinePlayed}
use Rattle.script_replay.proofs.VersionLines.{place_more, fault_more, events_more, behind_more, behind_length}

-- WHAT A STAGE LETS COME

-- an event comes in version 1, or after the number of its step
pub data Fits (v : Version) (stage : ScriptStage) (count : ℕ) : Type 0 where
  AtPlain : v ≡ First → stage ≡ stages.Plain → Fits v stage count
  AtNumber : (settings : Settings) (number : ℕ) → v ≡ Second settings → stage ≡ stages.Numbered number → number ≡ step_number count → Fits v stage count

no_start : (due n : ℕ) (e : Event) → number_says due n ≡ Comes e → ⊥
no_start due n e h = by (n == due) h where
  by : (b : Bool) → cond b (Starts n) IsOutOfStep ≡ Comes e → ⊥
  by true h = cc
  by false h = cc

comes_at : (v : Version) (stage : ScriptStage) (count : ℕ) (ends : Ends) (kind : LineKind) (e : Event) → CountIs v stage count → kind_says stage ends kind ≡ Comes e → Fits v stage count
comes_at First stages.Plain count ends kind e c h = AtPlain refl refl
comes_at (Second s) stages.Headed count ends (Numbers n) e c h = absurd (no_start 0 n e h)
comes_at (Second s) (stages.AfterEvent last) count ends (Numbers n) e c h = absurd (no_start (step_number (last + 1)) n e h)
comes_at (Second s) (stages.Numbered n) count ends kind e c h = AtNumber s n refl refl c
comes_at (Second s) stages.Plain count ends kind e c h = absurd c
comes_at (Second s) stages.Start count ends kind e c h = absurd c
comes_at (Second s) stage count ends kind e c h = cc
comes_at v stage count ends kind e c h = absurd c

pub no_event : (ends : Ends) (e : Event) (n : ℕ) → event_says ends e ≡ Starts n → ⊥
no_event ends e n h = by (may ends e) h where
  by : (b : Bool) → cond b (Comes e) Cannot ≡ Starts n → ⊥
  by true h = cc
  by false h = cc

pub is_due : (due n m : ℕ) → number_says due n ≡ Starts m → m ≡ due
is_due due n m h = by (n == due) refl h where
  by : (b : Bool) → (n == due) ≡ b → cond b (Starts n) IsOutOfStep ≡ Starts m → m ≡ due
  by true t h = let x : n ≡ m = cc in let y : n ≡ due = grind (arith, nat_tests) in sym x ∙ y
  by false t h = cc

-- the number of a step is counted
starts_at : (v : Version) (stage : ScriptStage) (count : ℕ) (ends : Ends) (kind : LineKind) (m : ℕ) → CountIs v stage count → kind_says stage ends kind ≡ Starts m → CountIs v (stage_started stage m) count
starts_at First stages.Plain count ends (MarksEvent e) m c h = absurd (no_event ends e m h)
starts_at First stages.Headed count ends kind m c h = absurd c
starts_at First (stages.AfterEvent n) count ends kind m c h = absurd c
starts_at First (stages.Numbered n) count ends kind m c h = absurd c
starts_at (Second s) stages.Plain count ends kind m c h = absurd c
starts_at (Second s) stages.Headed count ends (Numbers n) m c h = (0, c, is_due 0 n m h)
starts_at (Second s) (stages.AfterEvent last) count ends (Numbers n) m c h = is_due (step_number (last + 1)) n m h ∙ number_next last c.0 c.2 ∙ ap step_number (sym c.1)
starts_at (Second s) (stages.Numbered n) count ends (MarksEvent e) m c h = absurd (no_event ends e m h)
starts_at v stages.Start count ends kind m c h = absurd c
starts_at v stage count ends kind m c h = cc

-- after its event the step is counted
announced_at : (v : Version) (stage : ScriptStage) (count : ℕ) → Fits v stage count → CountIs v (stage_after_event stage) (suc count)
announced_at v stage count (AtPlain a b) = subst (λ (x : Version). CountIs x (stage_after_event stage) (suc count)) (sym a) (subst (λ (x : ScriptStage). CountIs First (stage_after_event x) (suc count)) (sym b) tt)
announced_at v stage count (AtNumber s n a b c) =
    subst (λ (x : Version). CountIs x (stage_after_event stage) (suc count)) (sym a) (subst (λ (x : ScriptStage). CountIs (Second s) (stage_after_event x) (suc count)) (sym b) (count, refl, c))

-- the text of a step goes on with the script
text_on : (v : Version) (stage : ScriptStage) (t : List Step) (s : Step) (prefix : List ℕ) → Fits v stage (length t) → prefix ≡ script_by v t → prefix ++ step_text_at stage s ≡ script_by v (s ∷ t)
text_on v stage t s prefix (AtPlain a b) e =
    ap (λ (x : ScriptStage). prefix ++ step_text_at x s) b ∙ ap (λ l. l ++ step_text s) (e ∙ ap (λ (x : Version). script_by x t) a) ∙ sym (ap (λ (x : Version). script_by x (s ∷ t)) a)
text_on v stage t s prefix (AtNumber o n a b c) e =
    ap (λ (x : ScriptStage). prefix ++ step_text_at x s) b
    ∙ ap (λ k. prefix ++ numbered_marks k s.event (iface_text s) (engine_text s)) c
    ∙ ap (λ l. l ++ numbered_text (length t) s) (e ∙ ap (λ (x : Version). script_by x t) a)
    ∙ append_assoc (header_text o) (10 ∷ numbered_texts t) (numbered_text (length t) s)
    ∙ sym (ap (λ (x : Version). script_by x (s ∷ t)) a)

-- ONE LINE

-- the sides after a step of a core
core_ends : (o : Settings) (old new : CoreParts) (t : List Step) (step : Step) (e : Event) → step.event ≡ e → Represents o old t → Represents o new (step ∷ t) → new.ends ≡ ends_after old.ends e
core_ends o old new t step e same st st' =
    ap (λ (v : CoreParts). v.ends) (st'.0) ∙ ap (λ (x : Event). ends_after (state o t).ends x) same ∙ ap (λ (v : CoreParts). ends_after v.ends e) (sym (st.0))

module _ (o : Settings) (lines : List Piece) (core : CoreParts) (stage : ScriptStage) (text : List ℕ) (before after : Received) (p : Playing o lines core stage text before after) (piece : Piece)
    (same : version_in (lines ++ piece ∷ []) ≡ version_in lines) (number : ℕ) (number_is : number ≡ length lines + 1) where
  abbrev v : Version
  v = version_in lines

  abbrev body : List Piece
  body = behind_header v lines

  abbrev more : List Piece
  more = lines ++ piece ∷ []

  abbrev here : ScriptPlace
  here = record { stage = stage; ends = core.ends }

  abbrev said : LineSaid
  said = line_says here piece

  behind : behind_header v more ≡ body ++ piece ∷ []
  behind = behind_more v lines (piece ∷ []) refl

  said_is : line_says (place_over (script_beginning v) body) piece ≡ said
  said_is = ap (λ (x : ScriptPlace). line_says x piece) p.place

  fault_is : script_fault more ≡ fault_said number said
  fault_is =
      ap (λ (x : Version). fault_by x more) same
      ∙ ap (first_fault (1 + header_lines v) (script_beginning v)) behind
      ∙ fault_more (1 + header_lines v) (script_beginning v) body piece p.fine
      ∙ ap (λ (x : LineSaid). fault_said (1 + header_lines v + length body) x) said_is
      ∙ ap (λ k. fault_said k said) (let n = behind_length v lines refl in let z : 1 + header_lines v + length body ≡ number = omega (arith, n, number_is) in z)

  events_on : script_events more ≡ script_events lines ++ events_said said []
  events_on =
      ap (λ (x : Version). events_by x more) same
      ∙ ap (λ (ls : List Piece). Open ∷ replayed_events (script_beginning v) ls) behind
      ∙ ap (λ (es : List Event). Open ∷ es)
      (events_more (1 + header_lines v) (script_beginning v) body piece p.fine ∙ ap (λ (x : LineSaid). replayed_events (script_beginning v) body ++ events_said x []) said_is)

  place_on : place_over (script_beginning (version_in more)) (behind_header (version_in more) more) ≡ place_said here said
  place_on =
      ap (λ (x : Version). place_over (script_beginning x) (behind_header x more)) same
      ∙ ap (place_over (script_beginning v)) behind
      ∙ place_more (script_beginning v) body piece
      ∙ ap (λ (x : ScriptPlace). place_said x (line_says x piece)) p.place

  lawful_on : (t : List Step) → LawfulTrace (settings_by v o) t → LawfulTrace (settings_by (version_in more) o) t
  lawful_on t l = subst (λ (x : Version). LawfulTrace (settings_by x o) t) (sym same) l

  -- the line is a fault
  on_fault : (f : Ending) → fault_said number said ≡ Some f → events_said said [] ≡ [] → LinePlayed o more (Some f) core stage text before after
  on_fault f is none = (
    fault_is ∙ is,
    record {
      trace = p.trace;
      lawful = lawful_on p.trace p.lawful;
      short = p.short;
      events_are = p.events_are ∙ sym (events_on ∙ ap (λ (es : List Event). script_events lines ++ es) none ∙ append-nil (script_events lines));
      written = p.written;
      appended = p.appended;
      script_is = p.script_is ∙ ap (λ (x : Version). script_by x p.trace) (sym same);
    },
  )

  -- the line marks no event
  on_quiet : (stage' : ScriptStage) → fault_said number said ≡ None → events_said said [] ≡ [] → place_said here said ≡ record { stage = stage'; ends = core.ends } → CountIs v stage' (length p.trace)
      → Playing o more core stage' text before after
  on_quiet stage' is none at count = record {
    fine = fault_is ∙ is;
    place = place_on ∙ at;
    trace = p.trace;
    count = subst (λ (x : Version). CountIs x stage' (length p.trace)) (sym same) count;
    lawful = lawful_on p.trace p.lawful;
    stands = subst (λ (x : Version). Represents (settings_by x o) core p.trace) (sym same) p.stands;
    short = p.short;
    events_are = p.events_are ∙ sym (events_on ∙ ap (λ (es : List Event). script_events lines ++ es) none ∙ append-nil (script_events lines));
    written = p.written;
    appended = p.appended;
    script_is = p.script_is ∙ ap (λ (x : Version). script_by x p.trace) (sym same);
  }

  -- its event was stepped
  on_event : (e : Event) (core' : CoreParts) (old new : Text) → old.text ≡ text → said ≡ Comes e → StepIsPut stage core core' e old new → Playing o more core' (stage_after_event stage) new.text before after
  on_event e core' old new is_text is s =
      let next = s.adds.extends (settings_by v o) p.trace p.lawful p.stands in
      let fits = comes_at v stage (length p.trace) core.ends (kind_of_script_line piece) e p.count is in
      record {
        fine = fault_is ∙ ap (fault_said number) is;
        place = place_on ∙ ap (place_said here) is ∙ ap (λ (x : Ends). let y : ScriptPlace = record { stage = stage_after_event stage; ends = x } in y) (sym (core_ends (settings_by v o) core core' p.trace s.step e s.adds.event p.stands next.1));
        trace = s.step ∷ p.trace;
        count = subst (λ (x : Version). CountIs x (stage_after_event stage) (suc (length p.trace))) (sym same) (announced_at v stage (length p.trace) fits);
        lawful = lawful_on (s.step ∷ p.trace) next.0;
        stands = subst (λ (x : Version). Represents (settings_by x o) core' (s.step ∷ p.trace)) (sym same) next.1;
        short = (s.short, p.short);
        events_are = ap (λ (es : List Event). es ++ s.step.event ∷ []) p.events_are ∙ ap (λ (x : Event). script_events lines ++ x ∷ []) s.adds.event
            ∙ sym (events_on ∙ ap (λ (x : LineSaid). script_events lines ++ events_said x []) is);
        written = p.written;
        appended = p.appended;
        script_is = ap (λ (t : Text). p.written ++ t.text) s.put ∙ ap (λ l. p.written ++ (l ++ step_text_at stage s.step)) is_text ∙ sym (append_assoc p.written text (step_text_at stage s.step))
            ∙ text_on v stage p.trace s.step (p.written ++ text) fits p.script_is ∙ ap (λ (x : Version). script_by x (s.step ∷ p.trace)) (sym same);
      }

  kept_at : (core' : CoreParts) (stage' to : ScriptStage) (old new : Text) → old.text ≡ text → core' ≡ core → stage' ≡ to → new ≡ old → Playing o more core to text before after → Playing o more core' stage' new.text before after
  kept_at core' stage' to old new is_text c s t x =
      subst (λ (w : CoreParts). Playing o more w stage' new.text before after) (sym c)
      (subst (λ (w : ScriptStage). Playing o more core w new.text before after) (sym s)
      (subst (λ (w : List ℕ). Playing o more core to w before after) (sym (ap (λ (y : Text). y.text) t ∙ is_text)) x))

  kept : (core' : CoreParts) (stage' : ScriptStage) (old new : Text) → old.text ≡ text → (core' ≡ core) × (stage' ≡ stage) × (new ≡ old) → Playing o more core stage text before after → Playing o more core' stage' new.text before after
  kept core' stage' old new is_text t x = kept_at core' stage' stage old new is_text t.0 t.1 t.2 x

  bad : (core' : CoreParts) (stage' : ScriptStage) (old new : Text) (f : Ending) → old.text ≡ text → (core' ≡ core) × (stage' ≡ stage) × (new ≡ old) → LinePlayed o more (Some f) core stage text before after → LinePlayed o more (Some f) core' stage' new.text before after
  bad core' stage' old new f is_text t x = (x.0, subst (λ (w : List ℕ). OutputIsScript o more w before after) (sym (ap (λ (y : Text). y.text) t.2 ∙ is_text)) x.1)

  of_said : (x : LineSaid) (core' : CoreParts) (stage' : ScriptStage) (old new : Text) → old.text ≡ text → said ≡ x → LineIsPlayed core stage old x core' stage' new
      → LinePlayed o more (fault_said number x) core' stage' new.text before after
  of_said (Comes e) core' stage' old new is_text is t = subst (λ (s : ScriptStage). Playing o more core' s new.text before after) (sym t.1) (on_event e core' old new is_text is t.0)
  of_said Passes core' stage' old new is_text is t =
      kept core' stage' old new is_text t (on_quiet stage (ap (fault_said number) is) (ap (λ (y : LineSaid). events_said y []) is) (ap (place_said here) is) p.count)
  of_said (Starts n) core' stage' old new is_text is t =
      kept_at core' stage' (stage_started stage n) old new is_text t.0 t.1 t.2
      (on_quiet (stage_started stage n) (ap (fault_said number) is) (ap (λ (y : LineSaid). events_said y []) is) (ap (place_said here) is) (starts_at v stage (length p.trace) core.ends (kind_of_script_line piece) n p.count is))
  of_said HasNoMark core' stage' old new is_text is t =
      bad core' stage' old new (endings.NoMark number) is_text t (on_fault (endings.NoMark number) (ap (fault_said number) is) (ap (λ (y : LineSaid). events_said y []) is))
  of_said IsOutOfStep core' stage' old new is_text is t =
      bad core' stage' old new (endings.OutOfStep number) is_text t (on_fault (endings.OutOfStep number) (ap (fault_said number) is) (ap (λ (y : LineSaid). events_said y []) is))
  of_said Cannot core' stage' old new is_text is t =
      bad core' stage' old new (endings.MayNotCome number) is_text t (on_fault (endings.MayNotCome number) (ap (fault_said number) is) (ap (λ (y : LineSaid). events_said y []) is))

  -- the order of the line was carried out
  pub on_line : (core' : CoreParts) (stage' : ScriptStage) (old new : Text) (answer : Option Ending) → old.text ≡ text → answer ≡ fault_said number said → LineIsPlayed core stage old said core' stage' new
      → LinePlayed o more answer core' stage' new.text before after
  on_line core' stage' old new answer is_text e t = subst (λ (a : Option Ending). LinePlayed o more a core' stage' new.text before after) (sym e) (of_said said core' stage' old new is_text refl t)

-- THE FIRST LINE

no_length : (n : ℕ) → n ≡ 0 + n
no_length n = omega arith

-- a session of version 1 was opened
pub begun_plain : (o : Settings) (core core' : CoreParts) (stage' : ScriptStage) (old new : Text) (before after : Received) → Represents o core [] → old.text ≡ [] → Appends before.taken after.taken []
    → StepIsPut stages.Plain core core' Open old new → stage' ≡ stages.Plain → Playing o [] core' stage' new.text before after
begun_plain o core core' stage' old new before after st empty a s is_plain = subst (λ (x : ScriptStage). Playing o [] core' x new.text before after) (sym is_plain) (
    let next = s.adds.extends o [] tt st in
    record {
      fine = refl;
      place = ap (λ (x : Ends). let y : ScriptPlace = record { stage = stages.Plain; ends = x } in y) (sym (ends_are next.1));
      trace = s.step ∷ [];
      count = tt;
      lawful = next.0;
      stands = next.1;
      short = (s.short, tt);
      events_are = ap (λ (x : Event). x ∷ []) s.adds.event;
      written = [];
      appended = a;
      script_is = ap (λ (t : Text). t.text) s.put ∙ ap (λ l. l ++ step_text s.step) empty;
    }) where
      ends_are : Represents o core' (s.step ∷ []) → core'.ends ≡ ends_once_open
      ends_are st' = core_ends o core core' [] s.step Open s.adds.event st st' ∙ ap (λ (x : Ends). ends_after x Open) (ap (λ (v : CoreParts). v.ends) st.0)

-- a session of version 2 was opened by its header
pub begun_numbered : (o settings : Settings) (line : List ℕ) (set core' : CoreParts) (stage' : ScriptStage) (old new : Text) (before after : Received) → header_of line ≡ Some settings → Represents settings set [] → old.text ≡ [] → Appends before.taken after.taken []
    → StepIsPut (stages.Numbered 0) set core' Open (with (with old (header_text settings)) (10 ∷ [])) new → stage' ≡ stages.Headed → Playing o (Whole line ∷ []) core' stage' new.text before after
begun_numbered o settings line set core' stage' old new before after is_header st empty a s is_headed = subst (λ (x : ScriptStage). Playing o (Whole line ∷ []) core' x new.text before after) (sym is_headed) (
    let next = s.adds.extends settings [] tt st in
    let is : version_in (Whole line ∷ []) ≡ Second settings = ap version_by is_header in
    record {
      fine = ap (λ (x : Version). fault_by x (Whole line ∷ [])) is;
      place = ap (λ (x : Version). place_over (script_beginning x) (behind_header x (Whole line ∷ []))) is ∙ ap (λ (x : Ends). let y : ScriptPlace = record { stage = stages.Headed; ends = x } in y) (sym (ends_are next.1));
      trace = s.step ∷ [];
      count = subst (λ (x : Version). CountIs x stages.Headed 1) (sym is) refl;
      lawful = subst (λ (x : Version). LawfulTrace (settings_by x o) (s.step ∷ [])) (sym is) next.0;
      stands = subst (λ (x : Version). Represents (settings_by x o) core' (s.step ∷ [])) (sym is) next.1;
      short = (s.short, tt);
      events_are = ap (λ (x : Event). x ∷ []) s.adds.event ∙ ap (λ (x : Version). events_by x (Whole line ∷ [])) (sym is);
      written = [];
      appended = a;
      script_is = ap (λ (t : Text). t.text) s.put ∙ ap (λ l. ((l ++ header_text settings) ++ 10 ∷ []) ++ numbered_marks 0 s.step.event (iface_text s.step) (engine_text s.step)) empty
          ∙ append_assoc (header_text settings) (10 ∷ []) (numbered_marks 0 s.step.event (iface_text s.step) (engine_text s.step))
          ∙ ap (λ (x : Version). script_by x (s.step ∷ [])) (sym is);
    }) where
      ends_are : Represents settings core' (s.step ∷ []) → core'.ends ≡ ends_once_open
      ends_are st' = core_ends settings set core' [] s.step Open s.adds.event st st' ∙ ap (λ (x : Ends). ends_after x Open) (ap (λ (v : CoreParts). v.ends) st.0)

-- WHAT THE CODE NEEDS OF A STAGE

event_may : (ends : Ends) (x e : Event) → event_says ends x ≡ Comes e → may ends e ≡ true
event_may ends x e h = by (may ends x) refl h where
  by : (b : Bool) → may ends x ≡ b → cond b (Comes x) Cannot ≡ Comes e → may ends e ≡ true
  by true t h = let same : x ≡ e = cc in ap (may ends) (sym same) ∙ t
  by false t h = cc

-- an event that comes may come
pub comes_may : (stage : ScriptStage) (ends : Ends) (kind : LineKind) (e : Event) → kind_says stage ends kind ≡ Comes e → may ends e ≡ true
comes_may stages.Plain ends (MarksEvent x) e h = event_may ends x e h
comes_may stages.Headed ends (Numbers n) e h = absurd (no_start 0 n e h)
comes_may (stages.AfterEvent last) ends (Numbers n) e h = absurd (no_start (step_number (last + 1)) n e h)
comes_may (stages.Numbered n) ends (MarksEvent x) e h = event_may ends x e h
comes_may stage ends kind e h = cc

pub announced_numbered : (stage : ScriptStage) → IsNumbered stage → IsNumbered (stage_after_event stage)
announced_numbered stages.Start i = i
announced_numbered stages.Plain i = i
announced_numbered stages.Headed i = i
announced_numbered (stages.AfterEvent n) i = i
announced_numbered (stages.Numbered n) i = i

started_numbered : (stage : ScriptStage) (n : ℕ) → n < 10 ^ 18 → IsNumbered (stage_started stage n)
started_numbered stages.Start n l = l
started_numbered stages.Plain n l = l
started_numbered stages.Headed n l = l
started_numbered (stages.AfterEvent k) n l = l
started_numbered (stages.Numbered k) n l = l

pub due_below : (k n m : ℕ) → number_says (step_number k) n ≡ Starts m → m < 10 ^ 18
due_below k n m h = let e = is_due (step_number k) n m h in let b = number_below k in omega (arith, e, b)

starts_below : (stage : ScriptStage) (ends : Ends) (kind : LineKind) (m : ℕ) → kind_says stage ends kind ≡ Starts m → m < 10 ^ 18
starts_below stages.Plain ends (MarksEvent x) m h = absurd (no_event ends x m h)
starts_below stages.Headed ends (Numbers n) m h = let e = is_due 0 n m h in omega (arith, e)
starts_below (stages.AfterEvent last) ends (Numbers n) m h = due_below (last + 1) n m h
starts_below (stages.Numbered n) ends (MarksEvent x) m h = absurd (no_event ends x m h)
starts_below stage ends kind m h = cc

pub starts_numbered : (stage : ScriptStage) (ends : Ends) (kind : LineKind) (m : ℕ) → kind_says stage ends kind ≡ Starts m → IsNumbered (stage_started stage m)
starts_numbered stage ends kind m h = started_numbered stage m (starts_below stage ends kind m h)
