-- The text of the session of some lines, and of one line more.
use Rattle.std.proofs.Common.{◌≡◌, ℕ, ◌+◌, List, [], ◌∷◌, ◌++◌, length, Option, Some, None, refl, sym, ap, subst, ◌∙◌, append-nil}
use Rattle.line_io.specs.Event.{Event, Open}
use Rattle.line_io.specs.Lines.{Piece}
use Rattle.line_io.specs.Out.{Text, with}
use Rattle.script_lines.specs.Header.{header_text}
use Rattle.policy_rules.specs.declared.setting_rules.settings.Settings.{Settings}
use Rattle.game_record.specs.Game.{Game}
use Rattle.adapter_core.specs.Trace.{Step, LawfulTrace}
use Rattle.adapter_core.specs.Parts.{CoreParts}
use Rattle.adapter_core.specs.Represents.{Represents}
use Rattle.adapter_core.proofs.Unique.{unique}
use Rattle.trace_scripts.specs.Script.{events}
use Rattle.trace_scripts.proofs.Scripts.{same_trace}
use Rattle.script_replay.specs.declared.stage.ScriptStage.{ScriptStage}
use Rattle.script_replay.specs.declared.stage.ScriptStage.TheVariants as stages
use Rattle.script_replay.specs.Versions.{Version, version_in, behind_header, header_lines, settings_by, LineSaid, Comes, Passes, Starts, HasNoMark, IsOutOfStep, Cannot, kind_of_script_line, kind_says, line_says, ScriptPlace, place_over, events_said, replayed_events, script_beginning, events_by, script_events}
use Rattle.script_replay.specs.Playing.{HasBegun, Playing, StepIsPut, LineIsPlayed, step_text_at}
use Rattle.script_replay.proofs.VersionLines.{events_more, behind_more}
use Rattle.session_export.specs.Exporting.{Exporting, event_lines, game_of, exported_game, steps_text, exported_text}
use Rattle.session_export.specs.Writing.{ExportsLine, HasOpened, IsTextOf, TakesStep, silent_sink}
use Rattle.session_export.proofs.Numbers.{event_lines_more, own}
use Rattle.session_export.proofs.Stepped.{game_stands}

-- THE STEPS OF A REPLAY

as_steps : (stage : ScriptStage) (text_of : Event → Option Game → Game → List ℕ) (before : Option Game) (core core' : CoreParts) (e : Event) (more : List ℕ) (old : Text) → TakesStep text_of before core core' e more → (new : Text) × StepIsPut stage core core' e old new
as_steps stage text_of before core core' e more old s = (with old (step_text_at stage s.step), record { step = s.step; adds = s.adds; put = refl; short = s.short })

pub as_takes : {T : Type 0} (means : Exporting T) (number : ℕ) (core : CoreParts) (stage : ScriptStage) (said : LineSaid) (core' : CoreParts) (stage' : ScriptStage) (more : List ℕ) (old : Text) → ExportsLine means number core stage said core' stage' more → (new : Text) × LineIsPlayed core stage old said core' stage' new
as_takes means number core stage (Comes e) core' stage' more old t = let s = as_steps stage (means.step_text number) (Some core.desk.game) core core' e more old t.0 in (s.0, (s.1, t.1))
as_takes means number core stage (Starts n) core' stage' more old t = (old, (t.0, t.1, refl))
as_takes means number core stage Passes core' stage' more old t = (old, (t.0, t.1, refl))
as_takes means number core stage HasNoMark core' stage' more old t = (old, (t.0, t.1, refl))
as_takes means number core stage IsOutOfStep core' stage' more old t = (old, (t.0, t.1, refl))
as_takes means number core stage Cannot core' stage' more old t = (old, (t.0, t.1, refl))

pub as_begun : {T : Type 0} (means : Exporting T) (first : Option Settings) (core core' : CoreParts) (stage' : ScriptStage) (more : List ℕ) (old : Text) → HasOpened means first core core' stage' more → (new : Text) × HasBegun first core old core' stage' new
as_begun means None core core' stage' more old h = let s = as_steps stages.Plain (means.step_text 0) None core core' Open more old h.0 in (s.0, (s.1, h.1))
as_begun means (Some settings) core core' stage' more old h =
    let s = as_steps (stages.Numbered 0) (means.step_text 0) None h.0 core' Open more (with (with old (header_text settings)) (10 ∷ [])) h.2 in
    (s.0, (h.0, h.1, s.1, h.3))

-- THE TEXT OF A STEP

-- the text of an equal event between equal games
text_same : (text_of : Event → Option Game → Game → List ℕ) (e e' : Event) (g g' : Option Game) (h h' : Game) → e ≡ e' → g ≡ g' → h ≡ h' → text_of e g h ≡ text_of e' g' h'
text_same text_of e e' g g' h h' a b c =
    ap (λ (x : Event). text_of x g h) a ∙ ap (λ (x : Option Game). text_of e' x h) b ∙ ap (text_of e' g') c

-- the text that was put at Open is that of the one session whose only event it is
pub opened_text : {T : Type 0} (means : Exporting T) (q : Settings) (core core' : CoreParts) (put : List ℕ) (trace : List Step) → Represents q core [] → TakesStep (means.step_text 0) None core core' Open put → LawfulTrace q trace → events trace ≡ Open ∷ []
    → put ≡ steps_text means q (0 ∷ []) trace
opened_text means q core core' put trace st s l announced =
    let next = s.adds.extends q [] tt st in
    let mine = s.step ∷ [] in
    let mine_events : events mine ≡ Open ∷ [] = ap (λ (x : Event). x ∷ []) s.adds.event in
    let one : mine ≡ trace = same_trace q (unique q) mine trace next.0 l (mine_events ∙ sym announced) in
    s.announced
    ∙ text_same (means.step_text 0) Open s.step.event None None core'.desk.game (game_of q mine) (sym s.adds.event) refl (game_stands q core' mine next.1)
    ∙ ap (steps_text means q (0 ∷ [])) one

-- the game of an opened session was told
announced_some : (q : Settings) (core : CoreParts) (trace : List Step) (e : Event) (later : List Event) → Represents q core trace → events trace ≡ e ∷ later → Some core.desk.game ≡ exported_game q trace
announced_some q core [] e later st is = cc
announced_some q core (s ∷ t) e later st is = ap (λ (g : Game). Some g) (game_stands q core (s ∷ t) st)

-- ONE LINE MORE

module _ {T : Type 0} (means : Exporting T) (o : Settings) (lines : List Piece) (core : CoreParts) (stage : ScriptStage) (script : List ℕ) (p : Playing o lines core stage script silent_sink silent_sink)
    (text : List ℕ) (announced : IsTextOf (exported_text means) o lines text) (piece : Piece) (same : version_in (lines ++ piece ∷ []) ≡ version_in lines) where
  abbrev v : Version
  v = version_in lines

  abbrev q : Settings
  q = settings_by v o

  abbrev more : List Piece
  more = lines ++ piece ∷ []

  abbrev number : ℕ
  number = length lines + 1

  abbrev said : LineSaid
  said = kind_says stage core.ends (kind_of_script_line piece)

  said_there : line_says (place_over (script_beginning v) (behind_header v lines)) piece ≡ said
  said_there = ap (λ (x : ScriptPlace). line_says x piece) p.place

  events_on : script_events more ≡ script_events lines ++ events_said said []
  events_on =
      ap (λ (x : Version). events_by x more) same
      ∙ ap (λ (ls : List Piece). Open ∷ replayed_events (script_beginning v) ls) (behind_more v lines (piece ∷ []) refl)
      ∙ ap (λ (es : List Event). Open ∷ es)
      (events_more (1 + header_lines v) (script_beginning v) (behind_header v lines) piece p.fine
      ∙ ap (λ (x : LineSaid). replayed_events (script_beginning v) (behind_header v lines) ++ events_said x []) said_there)

  numbers_on : event_lines more ≡ own number said ++ event_lines lines
  numbers_on =
      event_lines_more v lines piece refl same p.fine
      ∙ ap (λ (x : LineSaid). own number x ++ event_lines lines) said_there

  back : (trace : List Step) → LawfulTrace (settings_by (version_in more) o) trace → LawfulTrace q trace
  back trace l = subst (λ (x : Version). LawfulTrace (settings_by x o) trace) same l

  -- the text of the longer session, by the settings and numbers of the lines before
  forth : (ns : List ℕ) (trace : List Step) → ns ≡ event_lines more → steps_text means q ns trace ≡ exported_text means o more trace
  forth ns trace is =
      ap (λ (x : Version). steps_text means (settings_by x o) ns trace) (sym same)
      ∙ ap (λ (ms : List ℕ). steps_text means (settings_by (version_in more) o) ms trace) is

  quiet : (put : List ℕ) → events_said said [] ≡ [] → own number said ≡ [] → put ≡ [] → IsTextOf (exported_text means) o more (text ++ put)
  quiet put none no_number nothing = λ trace l e.
      ap (λ (t : List ℕ). text ++ t) nothing ∙ append-nil text
      ∙ announced trace (back trace l) (e ∙ events_on ∙ ap (λ (es : List Event). script_events lines ++ es) none ∙ append-nil (script_events lines))
      ∙ forth (event_lines lines) trace (sym (numbers_on ∙ ap (λ (ns : List ℕ). ns ++ event_lines lines) no_number))

  stepped : (e : Event) (core' : CoreParts) (put : List ℕ) → said ≡ Comes e → TakesStep (means.step_text number) (Some core.desk.game) core core' e put → IsTextOf (exported_text means) o more (text ++ put)
  stepped e core' put is s = λ trace l announced_events.
      let next = s.adds.extends q p.trace p.lawful p.stands in
      let mine = s.step ∷ p.trace in
      let mine_events : events mine ≡ script_events more =
      ap (λ (es : List Event). es ++ s.step.event ∷ []) p.events_are ∙ ap (λ (x : Event). script_events lines ++ x ∷ []) s.adds.event
      ∙ sym (events_on ∙ ap (λ (x : LineSaid). script_events lines ++ events_said x []) is) in
      let one : trace ≡ mine = same_trace q (unique q) trace mine (back trace l) next.0 (announced_events ∙ sym mine_events) in
      let numbers : number ∷ event_lines lines ≡ event_lines more = sym (numbers_on ∙ ap (λ (x : LineSaid). own number x ++ event_lines lines) is) in
      let put_is : put ≡ means.step_text number s.step.event (exported_game q p.trace) (game_of q mine) =
      s.announced ∙ text_same (means.step_text number) e s.step.event (Some core.desk.game) (exported_game q p.trace) core'.desk.game (game_of q mine) (sym s.adds.event)
      (announced_some q core p.trace Open (replayed_events (script_beginning v) (behind_header v lines)) p.stands p.events_are) (game_stands q core' mine next.1) in
      ap (λ (t : List ℕ). t ++ put) (announced p.trace p.lawful p.events_are)
      ∙ ap (λ (t : List ℕ). exported_text means o lines p.trace ++ t) put_is
      ∙ ap (steps_text means q (number ∷ event_lines lines)) (sym one)
      ∙ forth (number ∷ event_lines lines) trace numbers

  by_said : (x : LineSaid) (core' : CoreParts) (stage' : ScriptStage) (put : List ℕ) → said ≡ x → ExportsLine means number core stage x core' stage' put → IsTextOf (exported_text means) o more (text ++ put)
  by_said (Comes e) core' stage' put is t = stepped e core' put is t.0
  by_said (Starts n) core' stage' put is t = quiet put (ap (λ (y : LineSaid). events_said y []) is) (ap (own number) is) t.2
  by_said Passes core' stage' put is t = quiet put (ap (λ (y : LineSaid). events_said y []) is) (ap (own number) is) t.2
  by_said HasNoMark core' stage' put is t = quiet put (ap (λ (y : LineSaid). events_said y []) is) (ap (own number) is) t.2
  by_said IsOutOfStep core' stage' put is t = quiet put (ap (λ (y : LineSaid). events_said y []) is) (ap (own number) is) t.2
  by_said Cannot core' stage' put is t = quiet put (ap (λ (y : LineSaid). events_said y []) is) (ap (own number) is) t.2

  -- the text is that of the session with the line
  pub text_on : (core' : CoreParts) (stage' : ScriptStage) (put : List ℕ) → ExportsLine means number core stage said core' stage' put → IsTextOf (exported_text means) o more (text ++ put)
  text_on core' stage' put t = by_said said core' stage' put refl t
