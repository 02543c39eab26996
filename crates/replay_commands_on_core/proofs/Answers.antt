-- The answers of the program.
use Rattle.std.proofs.Common.{true, ◌≡◌, ℕ, ◌+◌, take, map, ◌^◌, ◌<◌, List, [], ◌∷◌, length, Option, Some, None, refl, sym, ap, subst, ◌∙◌, ◌⊎◌, inl, inr, arith, ◌≢◌, append-nil}
use Rattle.std.specs.Io.KnownBytes.{Appends}
use Rattle.line_io.specs.Causes.{Rose}
use Rattle.line_io.specs.Lines.{Piece, items, piece_of}
use Rattle.line_io.specs.Runs.{whole}
use Rattle.replay_command_base.specs.declared.ending.Ending.{Ending}
use Rattle.replay_command_base.specs.declared.ending.Ending.TheVariants as endings
use Rattle.replay_command_base.specs.Diagnostics.{command_status, command_diagnostic}
use Rattle.std.proofs.KnownBytes.{Appends-nil, Appends-trans}
use Rattle.policy_rules.specs.declared.setting_rules.settings.Settings.{Settings}
use Rattle.script_replay.specs.Versions.{Version, script_beginning, behind_header, events_by, replayed_events, fault_by, script_by, script_events, script_fault, settings_by, version_in}
use Rattle.line_io.specs.Event.{Event, Open}
use Rattle.adapter_core.specs.Trace.{Step, LawfulTrace, state}
use Rattle.adapter_core.proofs.Unique.{unique}
use Rattle.std.proofs.Math.Seq.{take-append-add}
use Rattle.trace_scripts.proofs.Scripts.{all_marked, same_trace}
use Rattle.replay_commands_on_core.proofs.HeaderLines.{fault_version, script_behind, script_version}
use Rattle.replay_commands_on_core.proofs.Replayed.{all_read, lines_behind, no_fault_in}
use Rattle.replay_command_base.specs.DiagnosticWritten.{DiagnosticWritten}
use Rattle.replay_command_base.specs.Reads.{AreFirst, AreRead, IsAll}
use Rattle.replay_commands_on_core.specs.Replay.{EndsAs, IsScripted, ReplaysAll, ReplaysTo, ReplaysWhole, ReplaysMuch, ReplayCutShort}
use Rattle.replay_command_base.specs.Ran.{FilterRan, WritingBroke}
use Rattle.replay_command_base.specs.Streams.{FilterStreams, AreSame, HasNoFault}
use Rattle.replay_commands_on_core.specs.Replayed.{IsTheSession, WritesScript, AllReplayed, ReplayFaultReported, WholeReplayed, MuchReplayed, ReplayPrefixWritten, CompletesReplay, ReplayReportsFault, IsProperIn, WritesItAgain, Replayed}
use Rattle.replay_commands_on_core.specs.Laws.{HaveLaws}
use Rattle.trace_scripts.specs.Script.{events}
use Rattle.script_replay.proofs.VersionLines.{behind_more, not_none, one_fault, same_fault, no_fault}
use Rattle.replay_command_base.proofs.Readings.{few_got, whole_first}

module _ (o : Settings) (unread kept : Type 0) (start now : FilterStreams) where
  abbrev untouched : Type 0
  untouched = unread × kept

  abbrev Said : ℕ → Ending → Type 0
  Said code e = DiagnosticWritten code (command_status e) (command_diagnostic e) start.diag now.diag

  abbrev Ends : Ending → Type 0
  Ends e = EndsAs o untouched e start now

  abbrev R : ℕ → Type 0
  R code = FilterRan Ends start now code

  the_session : (settings : Settings) (happened : List Event) (t : List Step) → LawfulTrace settings t → events t ≡ happened → IsTheSession settings happened t
  the_session settings happened t l e = record { lawful = l; events_are = e; only = λ other l' e'. same_trace settings (unique settings) other t l' l (e' ∙ sym e) }

  written_of : (lines : List Piece) → IsScripted o start now lines → WritesScript o start now lines
  written_of lines s = record {
    trace = s.trace;
    session = the_session (settings_by (version_in lines) o) (script_events lines) s.trace s.lawful s.events_are;
    short = s.short;
    written = subst (Appends start.output.taken now.output.taken) (sym (append-nil s.written) ∙ s.script_is) s.appended;
  }

  all_of : ReplaysAll o start now → AreSame start now → AllReplayed o start now
  all_of r same = record { got = r.got; reads = r.reads; all_read = r.all; faultless = r.fine; script = written_of (items 131072 r.got) r.scripted; no_failure = same }

  fault_of : (fault : Ending) → ReplaysTo o fault start now → Appends start.diag.taken now.diag.taken (command_diagnostic fault) → ReplayFaultReported o start now
  fault_of fault r a = record { fault = fault; announced = a; lines = r.lines; read = r.read; is_fault = r.is_fault; script = written_of r.lines r.scripted }

  whole_of : (least : ℕ) → ReplaysWhole o least start now → WholeReplayed o start now
  whole_of least r = record { got = r.got; reads = r.reads; first = r.first; faultless = r.fine; script = written_of (whole 131072 r.got) r.scripted }

  much_of : ReplaysMuch o start now → MuchReplayed o start now
  much_of m = let r = m.replays in record {
    replayed = record { got = r.got; reads = r.reads; first = r.first; faultless = r.fine; script = written_of (whole 131072 r.got) r.scripted };
    least = r.least_is;
  }

  prefix_of : ReplayCutShort o start now → ReplayPrefixWritten o start now
  prefix_of c = record {
    lines = c.lines;
    read = c.read;
    trace = c.trace;
    session = the_session (settings_by (version_in c.lines) o) (script_events c.lines) c.trace c.lawful c.events_are;
    prefix = c.prefix;
    written = c.appended;
  }

  -- a status other than 5 is that of the ending
  code_is : (code : ℕ) (e : Ending) → Said code e → (code ≡ 5 → ⊥) → (code ≡ command_status e) × Appends start.diag.taken now.diag.taken (command_diagnostic e) × (now.diag.faults ≡ start.diag.faults)
  code_is code e (inl x) other = x
  code_is code e (inr x) other = absurd (other x.0)

  same_of : (e : Ending) → 0 ≡ command_status e → e ≡ endings.Done
  same_of endings.Done c = refl
  same_of e c = cc

  done : (code : ℕ) → R code → code ≡ 0 → AllReplayed o start now
  done code r z =
      let c = code_is code r.ending r.announces (λ f. cc) in
      let e = same_of r.ending (sym z ∙ c.0) in
      all_of (subst (λ (x : Ending). Ends x) e r.ends)
      (record { read = r.read (λ f. let g = sym e ∙ f in cc) (λ f. let g = sym e ∙ f in cc); written = r.written (λ f. let g = sym e ∙ f in cc); announced = c.2 })

  script_of : (e : Ending) → Ends e → 2 ≡ command_status e → Appends start.diag.taken now.diag.taken (command_diagnostic e) → ReplayFaultReported o start now
  script_of endings.Usage ends c a = absurd ends
  script_of (endings.NoPosition fault) ends c a = absurd ends
  script_of (endings.NoMark n) ends c a = fault_of (endings.NoMark n) ends a
  script_of (endings.OutOfStep n) ends c a = fault_of (endings.OutOfStep n) ends a
  script_of (endings.MayNotCome n) ends c a = fault_of (endings.MayNotCome n) ends a
  script_of e ends c a = cc

  script : (code : ℕ) → R code → code ≡ 2 → ReplayFaultReported o start now
  script code r z = let c = code_is code r.ending r.announces (λ f. cc) in script_of r.ending r.ends (sym z ∙ c.0) c.1

  memory_of : (e : Ending) → Ends e → 3 ≡ command_status e → untouched
  memory_of endings.NoMemory ends c = ends
  memory_of e ends c = cc

  pub memory : (code : ℕ) → R code → code ≡ 3 → untouched
  memory code r z = memory_of r.ending r.ends (sym z ∙ (code_is code r.ending r.announces (λ f. cc)).0)

  reading_of : (e : Ending) → Ends e → 4 ≡ command_status e → (e ≡ endings.ReadingFailed → Rose start.input.faults now.input.faults) → Rose start.input.faults now.input.faults × WholeReplayed o start now
  reading_of endings.ReadingFailed ends c rose = (rose refl, whole_of 0 ends)
  reading_of e ends c rose = cc

  reading : (code : ℕ) → R code → code ≡ 4 → Rose start.input.faults now.input.faults × WholeReplayed o start now
  reading code r z = reading_of r.ending r.ends (sym z ∙ (code_is code r.ending r.announces (λ f. cc)).0) r.reading

  long_of : (e : Ending) → Ends e → 6 ≡ command_status e → MuchReplayed o start now
  long_of endings.TooLong ends c = much_of ends
  long_of e ends c = cc

  too_long : (code : ℕ) → R code → code ≡ 6 → MuchReplayed o start now
  too_long code r z = long_of r.ending r.ends (sym z ∙ (code_is code r.ending r.announces (λ f. cc)).0)

  cut_all : (lines : List Piece) → AreRead start now lines → IsScripted o start now lines → ReplayCutShort o start now
  cut_all lines r s = record {
    lines = lines;
    read = r;
    trace = s.trace;
    lawful = s.lawful;
    events_are = s.events_are;
    prefix = length s.written + 0;
    appended = subst (Appends start.output.taken now.output.taken) (sym (take-append-add s.written [] 0) ∙ ap (take (length s.written + 0)) s.script_is)
        (Appends-trans start.output.taken now.output.taken now.output.taken s.written [] s.appended (Appends-nil now.output.taken));
  }

  all_first : (l0 : Option (List ℕ)) (got : List ℕ) → IsAll l0 got → AreFirst l0 (items 131072 got)
  all_first None got a = tt
  all_first (Some x) got a = ([], ap (items 131072) a ∙ sym (append-nil (items 131072 got)))

  cut_done : ReplaysAll o start now → ReplayCutShort o start now
  cut_done r = cut_all (items 131072 r.got) (record { got = r.got; reads = r.reads; of_got = ([], sym (append-nil (items 131072 r.got))); of_left = all_first start.input.left r.got r.all }) r.scripted

  cut_to : (fault : Ending) → ReplaysTo o fault start now → ReplayCutShort o start now
  cut_to fault r = cut_all r.lines r.read r.scripted

  cut_whole : (least : ℕ) → ReplaysWhole o least start now → ReplayCutShort o start now
  cut_whole least r =
      let w = whole_first r.got [] in
      cut_all (whole 131072 r.got) (record { got = r.got; reads = r.reads; of_got = (w.0, ap (items 131072) (sym (append-nil r.got)) ∙ w.1); of_left = r.first }) r.scripted

  ends_cut : (e : Ending) → Ends e → untouched ⊎ ReplayCutShort o start now
  ends_cut endings.NoMemory ends = inl ends
  ends_cut endings.WritingFailed ends = inr ends
  ends_cut endings.Done ends = inr (cut_done ends)
  ends_cut (endings.NoMark n) ends = inr (cut_to (endings.NoMark n) ends)
  ends_cut (endings.OutOfStep n) ends = inr (cut_to (endings.OutOfStep n) ends)
  ends_cut (endings.MayNotCome n) ends = inr (cut_to (endings.MayNotCome n) ends)
  ends_cut endings.ReadingFailed ends = inr (cut_whole 0 ends)
  ends_cut endings.TooLong ends = inr (cut_whole (2 ^ 32) ends.replays)
  ends_cut e ends = absurd ends

  writing_of : (e : Ending) → 5 ≡ command_status e → (e ≡ endings.WritingFailed → Rose start.output.faults now.output.faults) → Rose start.output.faults now.output.faults
  writing_of endings.WritingFailed c rose = rose refl
  writing_of e c rose = cc

  rises : (code : ℕ) (e : Ending) → Said code e → code ≡ 5 → (e ≡ endings.WritingFailed → Rose start.output.faults now.output.faults) → Rose start.output.faults now.output.faults ⊎ Rose start.diag.faults now.diag.faults
  rises code e (inl x) z rose = inl (writing_of e (sym z ∙ x.0) rose)
  rises code e (inr x) z rose = inr x.1

  writing : (code : ℕ) → R code → code ≡ 5 → WritingBroke start now × (untouched ⊎ ReplayPrefixWritten o start now)
  writing code r z = (rises code r.ending r.announces z r.writing, prefix_or (ends_cut r.ending r.ends)) where
    prefix_or : untouched ⊎ ReplayCutShort o start now → untouched ⊎ ReplayPrefixWritten o start now
    prefix_or (inl u) = inl u
    prefix_or (inr c) = inr (prefix_of c)

  abbrev Premises : Ending → Type 0
  Premises e = Ends e × (e ≡ endings.ReadingFailed → Rose start.input.faults now.input.faults) × (e ≡ endings.WritingFailed → Rose start.output.faults now.output.faults)

  complete_of : (e : Ending) → Premises e → (x : List ℕ) → start.input.left ≡ Some x → length x < 2 ^ 32 → script_fault (items 131072 x) ≡ None → HasNoFault start now → (command_status e ≡ 0) ⊎ (command_status e ≡ 3)
  complete_of endings.Done p x e l n s = inl refl
  complete_of endings.NoMemory p x e l n s = inr refl
  complete_of (endings.NoMark k) p x e l n s = let r = p.0 in absurd (not_none (script_fault (items 131072 x)) (endings.NoMark k) n (same_fault start.input.left r.lines x (endings.NoMark k) r.read.of_left e r.is_fault))
  complete_of (endings.OutOfStep k) p x e l n s = let r = p.0 in absurd (not_none (script_fault (items 131072 x)) (endings.OutOfStep k) n (same_fault start.input.left r.lines x (endings.OutOfStep k) r.read.of_left e r.is_fault))
  complete_of (endings.MayNotCome k) p x e l n s = let r = p.0 in absurd (not_none (script_fault (items 131072 x)) (endings.MayNotCome k) n (same_fault start.input.left r.lines x (endings.MayNotCome k) r.read.of_left e r.is_fault))
  complete_of endings.ReadingFailed p x e l n s = absurd (s.read (p.1 refl))
  complete_of endings.WritingFailed p x e l n s = absurd (s.written (p.2 refl))
  complete_of endings.TooLong p x e l n s = let r = p.0.replays in let few = few_got start.input.left now.input.left r.got x r.reads.left e in absurd (omega (arith, r.least_is))
  complete_of y p x e l n s = absurd p.0

  announced_as : (code : ℕ) (e : Ending) → Said code e → HasNoFault start now → (code ≡ command_status e) × Appends start.diag.taken now.diag.taken (command_diagnostic e)
  announced_as code e (inl t) s = (t.0, t.1)
  announced_as code e (inr t) s = absurd (s.announced t.1)

  either : (code : ℕ) (e : Ending) → code ≡ command_status e → (command_status e ≡ 0) ⊎ (command_status e ≡ 3) → (code ≡ 0) ⊎ (code ≡ 3)
  either code e c (inl z) = inl (c ∙ z)
  either code e c (inr z) = inr (c ∙ z)

  complete : (code : ℕ) → R code → CompletesReplay start now code
  complete code r x e l n s = either code r.ending (announced_as code r.ending r.announces s).0 (complete_of r.ending (r.ends, r.reading, r.writing) x e l n s)

  abbrev MoveWritable : Ending → Ending → Type 0
  MoveWritable e fault = ((command_status e ≡ 2) × (e ≡ fault)) ⊎ (command_status e ≡ 3)

  faulty_of : (e : Ending) → Premises e → (x : List ℕ) (fault : Ending) → start.input.left ≡ Some x → length x < 2 ^ 32 → script_fault (items 131072 x) ≡ Some fault → HasNoFault start now → MoveWritable e fault
  faulty_of endings.Done p x fault e l n s = let r = p.0 in absurd (not_none (script_fault (items 131072 x)) fault (no_fault start.input.left r.got x r.all e r.fine) n)
  faulty_of endings.NoMemory p x fault e l n s = inr refl
  faulty_of (endings.NoMark k) p x fault e l n s = let r = p.0 in inl (refl, one_fault (script_fault (items 131072 x)) (endings.NoMark k) fault (same_fault start.input.left r.lines x (endings.NoMark k) r.read.of_left e r.is_fault) n)
  faulty_of (endings.OutOfStep k) p x fault e l n s = let r = p.0 in inl (refl, one_fault (script_fault (items 131072 x)) (endings.OutOfStep k) fault (same_fault start.input.left r.lines x (endings.OutOfStep k) r.read.of_left e r.is_fault) n)
  faulty_of (endings.MayNotCome k) p x fault e l n s = let r = p.0 in inl (refl, one_fault (script_fault (items 131072 x)) (endings.MayNotCome k) fault (same_fault start.input.left r.lines x (endings.MayNotCome k) r.read.of_left e r.is_fault) n)
  faulty_of endings.ReadingFailed p x fault e l n s = absurd (s.read (p.1 refl))
  faulty_of endings.WritingFailed p x fault e l n s = absurd (s.written (p.2 refl))
  faulty_of endings.TooLong p x fault e l n s = let r = p.0.replays in let few = few_got start.input.left now.input.left r.got x r.reads.left e in absurd (omega (arith, r.least_is))
  faulty_of y p x fault e l n s = absurd p.0

  fault_announced : (code : ℕ) (e fault : Ending) → (code ≡ command_status e) × Appends start.diag.taken now.diag.taken (command_diagnostic e) → MoveWritable e fault → ((code ≡ 2) × Appends start.diag.taken now.diag.taken (command_diagnostic fault)) ⊎ (code ≡ 3)
  fault_announced code e fault c (inl t) = inl (c.0 ∙ t.0, subst (λ (x : Ending). Appends start.diag.taken now.diag.taken (command_diagnostic x)) t.1 c.1)
  fault_announced code e fault c (inr t) = inr (c.0 ∙ t)

  faulty : (code : ℕ) → R code → ReplayReportsFault start now code
  faulty code r x fault e l n s = fault_announced code r.ending fault (announced_as code r.ending r.announces s) (faulty_of r.ending (r.ends, r.reading, r.writing) x fault e l n s)

  -- A SCRIPT THAT IS REPLAYED

  module _ (v : Version) (proper : IsProperIn v) (t : List Step) (lawful : LawfulTrace (settings_by v o) t) (op : (state (settings_by v o) t).ends.opened ≡ true) (input : start.input.left ≡ Some (script_by v t)) where
    abbrev q : Settings
    q = settings_by v o

    abbrev script_lines : List Piece
    script_lines = items 131072 (script_by v t)

    is_version : version_in script_lines ≡ v
    is_version = script_version v proper t (all_marked q t lawful)

    behind : behind_header v script_lines ≡ map (piece_of 131072) (lines_behind v t)
    behind = script_behind v proper t (all_marked q t lawful)

    whole_again : ReplaysAll o start now → Appends start.output.taken now.output.taken (script_by v t)
    whole_again r =
        let got : r.got ≡ script_by v t = sym (subst (λ (l : Option (List ℕ)). IsAll l r.got) input r.all) in
        let s = subst (IsScripted o start now) (ap (items 131072) got) r.scripted in
        let lawful' = subst (λ (x : Version). LawfulTrace (settings_by x o) s.trace) is_version s.lawful in
        let announced = s.events_are ∙ ap (λ (x : Version). events_by x script_lines) is_version ∙ ap (λ (ls : List Piece). Open ∷ replayed_events (script_beginning v) ls) behind in
        let same = same_trace q (unique q) s.trace t lawful' lawful (all_read o v (unique q) s.trace t lawful' s.short lawful op announced) in
        subst (Appends start.output.taken now.output.taken) (sym (append-nil s.written) ∙ s.script_is ∙ ap (λ (x : Version). script_by x s.trace) is_version ∙ ap (script_by v) same) s.appended

    -- a fault is none
    no_fault_to : (fault : Ending) → ReplaysTo o fault start now → ⊥
    no_fault_to fault p =
        let first = subst (λ (l : Option (List ℕ)). AreFirst l p.lines) input p.read.of_left in
        let w : version_in p.lines ≡ v = fault_version p.lines first.0 fault p.is_fault ∙ sym (ap version_in first.1) ∙ is_version in
        let s = p.scripted in
        no_fault_in o v (unique q) s.trace t (subst (λ (x : Version). LawfulTrace (settings_by x o) s.trace) w s.lawful) s.short lawful op (behind_header v p.lines) first.0 fault
        (sym (ap (λ (x : Version). fault_by x p.lines) w) ∙ p.is_fault) (s.events_are ∙ ap (λ (x : Version). events_by x p.lines) w)
        (sym behind ∙ ap (behind_header v) first.1 ∙ behind_more v p.lines first.0 w)

    again_of : (e : Ending) → Ends e → (code : ℕ) → code ≡ command_status e → code ≢ 3 → code ≢ 4 → code ≢ 5 → code ≢ 6 → (code ≡ 0) × Appends start.output.taken now.output.taken (script_by v t)
    again_of endings.Done p code c n3 n4 n5 n6 = (c, whole_again p)
    again_of (endings.NoMark k) p code c n3 n4 n5 n6 = absurd (no_fault_to (endings.NoMark k) p)
    again_of (endings.OutOfStep k) p code c n3 n4 n5 n6 = absurd (no_fault_to (endings.OutOfStep k) p)
    again_of (endings.MayNotCome k) p code c n3 n4 n5 n6 = absurd (no_fault_to (endings.MayNotCome k) p)
    again_of endings.NoMemory p code c n3 n4 n5 n6 = absurd (n3 c)
    again_of endings.ReadingFailed p code c n3 n4 n5 n6 = absurd (n4 c)
    again_of endings.WritingFailed p code c n3 n4 n5 n6 = absurd (n5 c)
    again_of endings.TooLong p code c n3 n4 n5 n6 = absurd (n6 c)
    again_of e p code c n3 n4 n5 n6 = absurd p

  again : (code : ℕ) → R code → WritesItAgain o start now code
  again code r v t p l op e n3 n4 n5 n6 = again_of v p t l op e r.ending r.ends code (code_is code r.ending r.announces n5).0 n3 n4 n5 n6

  pub replayed : (code : ℕ) → HaveLaws o → R code → Replayed o unread kept start now code
  replayed code laws r = record {
    ended = r;
    all_replayed = done code r;
    fault_reported = script code r;
    reading_failed = reading code r;
    writing_failed = writing code r;
    too_long = too_long code r;
    complete = complete code r;
    faults_announced = faulty code r;
    again = again code r;
    laws = laws;
  }
