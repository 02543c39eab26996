-- The result of a line, and of the end of the lines.
use Rattle.std.proofs.Common.{◌≡◌, ℕ, ◌+◌, List, [], ◌∷◌, ◌++◌, length, reverse, true, false, Option, Some, None, refl, sym, ap, subst, ◌∙◌, append-nil}
use Rattle.line_io.specs.Event.{Open}
use Rattle.line_io.specs.Lines.{Piece, Whole, TooLong}
use Rattle.line_io.specs.Out.{Text}
use Rattle.script_lines.specs.Header.{header_of}
use Rattle.policy_rules.specs.declared.setting_rules.settings.Settings.{Settings}
use Rattle.game_record.specs.Game.{Game}
use Rattle.adapter_core.specs.Trace.{Step, LawfulTrace}
use Rattle.adapter_core.specs.Parts.{CoreParts}
use Rattle.adapter_core.specs.Represents.{Represents}
use Rattle.trace_scripts.specs.Script.{events}
use Rattle.replay_command_base.specs.declared.ending.Ending.{Ending}
use Rattle.replay_command_base.specs.declared.ending.Ending.TheVariants as endings
use Rattle.script_replay.specs.declared.stage.ScriptStage.{ScriptStage}
use Rattle.script_replay.specs.declared.stage.ScriptStage.TheVariants as stages
use Rattle.script_replay.specs.Stages.{is_first_stage}
use Rattle.script_replay.specs.Versions.{Version, script_beginning, behind_header, header_lines, First, version_by, version_in, settings_by, events_by, fault_said, kind_of_script_line, kind_says, script_events, script_fault}
use Rattle.script_replay.specs.Playing.{HasBegun, Playing, LinePlayed, OutputIsScript, ReplayTook, Unbegun}
use Rattle.script_replay.proofs.VersionLines.{version_stays}
use Rattle.script_replay.proofs.Plays.{begun_plain}
use Rattle.script_replay.proofs.LineFaults.{script_has}
use Rattle.script_replay.proofs.Players.{first_line, first_long, header_line, next_line, started, unstarted}
use Rattle.replay_command_base.specs.Putting.{IsInputEnd, FilterThen}
use Rattle.session_export.specs.declared.writer.SessionWriter.{SessionWriter}
use Rattle.session_export.specs.Exporting.{Exporting, event_lines, numbers_of, steps_text, exported_text}
use Rattle.session_export.specs.Writing.{CameTo, ExportsLine, ExportFaulted, ExportFinished, HasOpened, HasSession, IsTextOf, IsExported, WriterIsUnused, ExportEndsWith, Written, silent_sink, export_meaning}
use Rattle.session_export.proofs.Stepped.{game_stands}
use Rattle.session_export.proofs.Sessions.{as_begun, as_takes, opened_text, text_on}

abbrev buffer : List ℕ → Text
buffer text = record { text = text; room = 0 }

module _ {T : Type 0} (means : Exporting T) where
  abbrev IsTextExported : Settings → List Piece → List ℕ → Type 0
  IsTextExported = IsTextOf (exported_text means)

  -- THE SESSION OF LINES

  written_more : (o : Settings) (lines : List Piece) (piece : Piece) (w : SessionWriter T) (text script : List ℕ)
      → Playing o (lines ++ piece ∷ []) w.core w.stage script silent_sink silent_sink → IsTextExported o (lines ++ piece ∷ []) text
      → Written means o (lines ++ piece ∷ []) w text
  written_more o [] piece w text script p t = record { script = script; took = p; announced = t }
  written_more o (l ∷ ls) piece w text script p t = record { script = script; took = p; announced = t }

  session : (o : Settings) (lines : List Piece) (script text : List ℕ) → OutputIsScript o lines script silent_sink silent_sink → IsTextExported o lines text → HasSession (exported_text means) o lines text
  session o lines script text s t = record { trace = s.trace; lawful = s.lawful; events_are = s.events_are; text_is = t s.trace s.lawful s.events_are }

  came : (o : Settings) (lines : List Piece) (piece : Piece) (answer : Option Ending) (w : SessionWriter T) (text script : List ℕ)
      → LinePlayed o (lines ++ piece ∷ []) answer w.core w.stage script silent_sink silent_sink → IsTextExported o (lines ++ piece ∷ []) text
      → CameTo means o (lines ++ piece ∷ []) answer w text
  came o lines piece None w text script p t = written_more o lines piece w text script p t
  came o lines piece (Some f) w text script p t = (p.0, session o (lines ++ piece ∷ []) script text p.1 t)

  -- lines of an opened session
  some_text : (o : Settings) (lines : List Piece) (core : CoreParts) (stage : ScriptStage) (script text : List ℕ) → is_first_stage stage ≡ false → ReplayTook o lines core stage script silent_sink silent_sink → IsExported means o lines text → IsTextExported o lines text
  some_text o [] core stage script text e t g = let x : is_first_stage stage ≡ true = ap is_first_stage t.is_start in let z = sym x ∙ e in cc
  some_text o (l ∷ ls) core stage script text e t g = g

  same_version : (o : Settings) (lines : List Piece) (piece : Piece) (core : CoreParts) (stage : ScriptStage) (script : List ℕ) → is_first_stage stage ≡ false → ReplayTook o lines core stage script silent_sink silent_sink → version_in (lines ++ piece ∷ []) ≡ version_in lines
  same_version o [] piece core stage script e t = let x : is_first_stage stage ≡ true = ap is_first_stage t.is_start in let z = sym x ∙ e in cc
  same_version o (l ∷ ls) piece core stage script e t = version_stays l ls (piece ∷ [])

  no_text : (o : Settings) (lines : List Piece) (text : List ℕ) → lines ≡ [] → IsExported means o lines text → text ≡ []
  no_text o [] text e t = t
  no_text o (l ∷ ls) text e t = cc

  -- THE END

  ends_by : (o : Settings) (lines : List Piece) (ending : Ending) (text : List ℕ) → IsInputEnd ending → ExportFinished means ending o lines text → ExportEndsWith means o lines ending text
  ends_by o lines endings.ReadingFailed text i f = f
  ends_by o lines endings.TooLong text i f = f
  ends_by o lines endings.Done text i f = f
  ends_by o lines ending text i f = absurd i

  -- the text of the end stands after what was told, by the game of the core
  ended : (o : Settings) (lines : List Piece) (ending : Ending) (core : CoreParts) (trace : List Step) (text : List ℕ) → script_fault lines ≡ None
      → LawfulTrace (settings_by (version_in lines) o) trace → events trace ≡ script_events lines → Represents (settings_by (version_in lines) o) core trace → text ≡ exported_text means o lines trace
      → ExportFinished means ending o lines (text ++ means.last_text ending core.desk.game)
  ended o lines ending core trace text f l e st is =
      let q = settings_by (version_in lines) o in (
        f,
        record {
          trace = trace;
          lawful = l;
          events_are = e;
          text_is = ap (λ (t : List ℕ). t ++ means.last_text ending core.desk.game) is
              ∙ ap (λ (g : Game). exported_text means o lines trace ++ means.last_text ending g) (game_stands q core trace st);
        },
      )

  pub finished_later : (o : Settings) (lines : List Piece) (old : SessionWriter T) (before : List ℕ) (ending : Ending)
      → IsInputEnd ending → is_first_stage old.stage ≡ false → Written means o lines old before
      → ExportEndsWith means o lines ending (before ++ means.last_text ending old.core.desk.game)
  finished_later o lines old before ending i e g =
      let p = started o old.core old.stage g.script silent_sink silent_sink lines e g.took in
      ends_by o lines ending (before ++ means.last_text ending old.core.desk.game) i
      (ended o lines ending old.core p.trace before p.fine p.lawful p.events_are p.stands
      (some_text o lines old.core old.stage g.script before e g.took g.announced p.trace p.lawful p.events_are))

  -- a fault is that of a line
  says_fault : (o : Settings) (lines : List Piece) (f : Ending) (text : List ℕ) → ExportFaulted means f o lines text → ExportEndsWith means o lines f text
  says_fault o lines (endings.NoMark n) text h = h
  says_fault o lines (endings.OutOfStep n) text h = h
  says_fault o lines (endings.MayNotCome n) text h = h
  says_fault o lines f text h = absurd (script_has lines f h.0)

  -- the outcome of a line, as a run asks for it
  pub then_by : (w0 : SessionWriter T) (lines : List Piece) (answer : Option Ending) (w : SessionWriter T) (text : List ℕ)
      → ((o : Settings) → WriterIsUnused means o w0 → CameTo means o lines answer w text) → FilterThen (export_meaning means) w0 lines answer w text
  then_by w0 lines None w text h = h
  then_by w0 lines (Some f) w text h = λ o u. says_fault o lines f text (h o u)

  -- A LINE

  -- after others
  pub later_line : (o : Settings) (lines : List Piece) (old new : SessionWriter T) (before put : List ℕ) (piece : Piece) (number : ℕ) (answer : Option Ending)
      → is_first_stage old.stage ≡ false → Written means o lines old before → number ≡ length lines + 1
      → answer ≡ fault_said number (kind_says old.stage old.core.ends (kind_of_script_line piece))
      → ExportsLine means number old.core old.stage (kind_says old.stage old.core.ends (kind_of_script_line piece)) new.core new.stage put
      → CameTo means o (lines ++ piece ∷ []) answer new (before ++ put)
  later_line o lines old new before put piece number answer e g n a t =
      let says = kind_says old.stage old.core.ends (kind_of_script_line piece) in
      let taken = as_takes means number old.core old.stage says new.core new.stage put (buffer g.script) t in
      let playing = started o old.core old.stage g.script silent_sink silent_sink lines e g.took in
      came o lines piece answer new (before ++ put) taken.0.text
      (next_line o old.core old.stage g.script silent_sink silent_sink lines piece number new.core new.stage (buffer g.script) taken.0 answer e g.took n refl a taken.1)
      (text_on means o lines old.core old.stage g.script playing before (some_text o lines old.core old.stage g.script before e g.took g.announced) piece
      (same_version o lines piece old.core old.stage g.script e g.took) new.core new.stage put
      (subst (λ (k : ℕ). ExportsLine means k old.core old.stage says new.core new.stage put) n t))

  -- a header alone has no event but Open
  alone_lines : (ls : List Piece) (v : Version) → version_in ls ≡ v → behind_header v ls ≡ [] → event_lines ls ≡ 0 ∷ []
  alone_lines ls v is none =
      ap (λ (x : Version). reverse (0 ∷ numbers_of (1 + header_lines x) (script_beginning x) (behind_header x ls))) is
      ∙ ap (λ (x : List Piece). reverse (0 ∷ numbers_of (1 + header_lines v) (script_beginning v) x)) none

  -- the first, a header
  pub header_came : (o : Settings) (lines : List Piece) (old new : SessionWriter T) (before put line : List ℕ) (settings : Settings)
      → is_first_stage old.stage ≡ true → header_of line ≡ Some settings → Written means o lines old before
      → HasOpened means (Some settings) old.core new.core new.stage put
      → CameTo means o (lines ++ Whole line ∷ []) None new (before ++ put)
  header_came o lines old new before put line settings e h g b =
      let begun = as_begun means (Some settings) old.core new.core new.stage put (buffer g.script) b in
      let none = (unstarted o old.core old.stage g.script silent_sink silent_sink lines e g.took).0 in
      let ls = Whole line ∷ [] in
      let is : version_in ls ≡ version_by (Some settings) = ap version_by h in
      let playing = header_line o old.core old.stage (buffer g.script) silent_sink silent_sink lines line settings new.core new.stage begun.0 e h g.took begun.1 in
      let alone : script_events ls ≡ Open ∷ [] = ap (λ (v : Version). events_by v ls) is in
      let numbers : 0 ∷ [] ≡ event_lines ls = sym (alone_lines ls (version_by (Some settings)) is refl) in
      let text : IsTextExported o ls (before ++ put) =
      λ trace l events_are.
      ap (λ (t : List ℕ). t ++ put) (no_text o lines before none g.announced)
      ∙ opened_text means settings b.0 new.core put trace b.1 b.2 (subst (λ (v : Version). LawfulTrace (settings_by v o) trace) is l) (events_are ∙ alone)
      ∙ ap (λ (v : Version). steps_text means (settings_by v o) (0 ∷ []) trace) (sym is)
      ∙ ap (λ (ns : List ℕ). steps_text means (settings_by (version_in ls) o) ns trace) numbers in
      written_more o lines (Whole line) new (before ++ put) begun.0.text playing
      (subst (λ (x : List Piece). IsTextExported o (x ++ ls) (before ++ put)) (sym none) text)

  -- the first, which is none: the session is opened before it
  module _ (o : Settings) (lines : List Piece) (old mid : SessionWriter T) (before opening : List ℕ) (e : is_first_stage old.stage ≡ true) (g : Written means o lines old before)
      (b : HasOpened means None old.core mid.core mid.stage opening) where
    begun : (new : Text) × HasBegun None old.core (buffer g.script) mid.core mid.stage new
    begun = as_begun means None old.core mid.core mid.stage opening (buffer g.script) b

    none : (lines ≡ []) × Unbegun o old.core old.stage g.script silent_sink silent_sink
    none = unstarted o old.core old.stage g.script silent_sink silent_sink lines e g.took

    opened : Playing o [] mid.core mid.stage begun.0.text silent_sink silent_sink
    opened = begun_plain o old.core mid.core mid.stage (buffer g.script) begun.0 silent_sink silent_sink none.1.stands none.1.is_empty none.1.appended begun.1.0 begun.1.1

    at_open : IsTextExported o [] opening
    at_open = λ trace l announced. opened_text means (settings_by First o) old.core mid.core opening trace none.1.stands b.0 l announced

    all_put : (put : List ℕ) → before ++ (opening ++ put) ≡ opening ++ put
    all_put put = ap (λ (t : List ℕ). t ++ (opening ++ put)) (no_text o lines before none.0 g.announced)

    pub first_came : (new : SessionWriter T) (put : List ℕ) (piece : Piece) (number : ℕ) (answer : Option Ending) → version_in (piece ∷ []) ≡ First → number ≡ length lines + 1
        → answer ≡ fault_said number (kind_says mid.stage mid.core.ends (kind_of_script_line piece))
        → ExportsLine means number mid.core mid.stage (kind_says mid.stage mid.core.ends (kind_of_script_line piece)) new.core new.stage put
        → CameTo means o (lines ++ piece ∷ []) answer new (before ++ (opening ++ put))
    first_came new put piece number answer h n a t =
        let says = kind_says mid.stage mid.core.ends (kind_of_script_line piece) in
        let taken = as_takes means number mid.core mid.stage says new.core new.stage put begun.0 t in
        let one : number ≡ 1 = n ∙ ap (λ (ls : List Piece). length ls + 1) none.0 in
        let text = text_on means o [] mid.core mid.stage begun.0.text opened opening at_open piece h new.core new.stage put
        (subst (λ (k : ℕ). ExportsLine means k mid.core mid.stage says new.core new.stage put) one t) in
        came o lines piece answer new (before ++ (opening ++ put)) taken.0.text
        (first_line o old.core old.stage (buffer g.script) silent_sink silent_sink lines piece number mid.core mid.stage begun.0 new.core new.stage taken.0 answer e h g.took n begun.1 a taken.1)
        (subst (λ (ls : List Piece). IsTextExported o (ls ++ piece ∷ []) (before ++ (opening ++ put))) (sym none.0)
        (subst (IsTextExported o (piece ∷ [])) (sym (all_put put)) text))

    pub long_first : (number : ℕ) → number ≡ length lines + 1 → CameTo means o (lines ++ TooLong ∷ []) (Some (endings.NoMark number)) mid (before ++ opening)
    long_first number n =
        let played = first_long o old.core old.stage (buffer g.script) silent_sink silent_sink lines number mid.core mid.stage begun.0 e g.took n begun.1 in
        let text : IsTextExported o (TooLong ∷ []) (opening ++ []) = text_on means o [] mid.core mid.stage begun.0.text opened opening at_open TooLong refl mid.core mid.stage [] (nothing mid.core mid.stage b.1) in
        let whole : before ++ opening ≡ opening ++ [] = ap (λ (t : List ℕ). before ++ t) (sym (append-nil opening)) ∙ all_put [] in
        came o lines TooLong (Some (endings.NoMark number)) mid (before ++ opening) begun.0.text played
        (subst (λ (ls : List Piece). IsTextExported o (ls ++ TooLong ∷ []) (before ++ opening)) (sym none.0)
        (subst (IsTextExported o (TooLong ∷ [])) (sym whole) text)) where
          nothing : (core : CoreParts) (stage : ScriptStage) → stage ≡ stages.Plain → ExportsLine means 1 core stage (kind_says stage core.ends (kind_of_script_line TooLong)) core stage []
          nothing core stage is = subst (λ (s : ScriptStage). ExportsLine means 1 core s (kind_says s core.ends (kind_of_script_line TooLong)) core s []) (sym is) (refl, refl, refl)

    -- no line came
    pub finished_first : (ending : Ending) → IsInputEnd ending → ExportEndsWith means o lines ending (before ++ (opening ++ means.last_text ending mid.core.desk.game))
    finished_first ending i =
        let last = means.last_text ending mid.core.desk.game in
        subst (λ (ls : List Piece). ExportEndsWith means o ls ending (before ++ (opening ++ last))) (sym none.0)
        (subst (λ (t : List ℕ). ExportEndsWith means o [] ending t) (sym (all_put last))
        (ends_by o [] ending (opening ++ last) i
        (ended o [] ending mid.core opened.trace opening opened.fine opened.lawful opened.events_are opened.stands
        (at_open opened.trace opened.lawful opened.events_are))))

  -- a long line after others
  pub long_later : (o : Settings) (lines : List Piece) (old : SessionWriter T) (before : List ℕ) (number : ℕ)
      → is_first_stage old.stage ≡ false → Written means o lines old before → number ≡ length lines + 1
      → CameTo means o (lines ++ TooLong ∷ []) (Some (endings.NoMark number)) old (before ++ [])
  long_later o lines old before number e g n =
      later_line o lines old old before [] TooLong number (Some (endings.NoMark number)) e g n (says old.stage) (nothing old.stage) where
        says : (stage : ScriptStage) → Some (endings.NoMark number) ≡ fault_said number (kind_says stage old.core.ends (kind_of_script_line TooLong))
        says stages.Start = refl
        says stages.Plain = refl
        says stages.Headed = refl
        says (stages.AfterEvent k) = refl
        says (stages.Numbered k) = refl

        nothing : (stage : ScriptStage) → ExportsLine means number old.core stage (kind_says stage old.core.ends (kind_of_script_line TooLong)) old.core stage []
        nothing stages.Start = (refl, refl, refl)
        nothing stages.Plain = (refl, refl, refl)
        nothing stages.Headed = (refl, refl, refl)
        nothing (stages.AfterEvent k) = (refl, refl, refl)
        nothing (stages.Numbered k) = (refl, refl, refl)
