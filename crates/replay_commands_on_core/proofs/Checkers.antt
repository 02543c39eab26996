-- The evidence from a line in a check.
use Rattle.std.proofs.Common.{◌≡◌, ◌⊎◌, inl, inr, ℕ, ◌+◌, ◌^◌, ◌≤◌, List, [], ◌∷◌, ◌++◌, map, length, Option, Some, None, refl, ap, sym, subst, ◌∙◌, arith, append_assoc, length-append}
use Rattle.line_io.specs.Event.{Event, Open}
use Rattle.line_io.specs.Lines.{Piece, Whole, TooLong, parts_by_feed, items}
use Rattle.line_io.specs.Runs.{SourceCalls, whole}
use Rattle.line_io.specs.LineConsumers.{ConsumerThen}
use Rattle.script_lines.specs.Header.{header_of, header_text}
use Rattle.script_lines.specs.StepLine.{step_number_line}
use Rattle.script_lines.proofs.KindLemmas.{step_fed}
use Rattle.script_lines.proofs.Scripts.{parts_line}
use Rattle.policy_rules.specs.declared.setting_rules.settings.Settings.{Settings}
use Rattle.adapter_core.specs.Trace.{iface_text, engine_text}
use Rattle.adapter_core.specs.Parts.{CoreParts as AnyParts}
use Rattle.adapter_core.specs.Represents.{Represents}
use Rattle.trace_scripts.specs.Script.{written_text, script_events_in}
use Rattle.trace_scripts.proofs.Lines.{written_lines, event_lines}
use Rattle.trace_scripts.proofs.Scripts.{some_opened}
use Rattle.replay_command_base.specs.declared.ending.Ending.{Ending}
use Rattle.replay_command_base.specs.declared.ending.Ending.TheVariants as endings
use Rattle.script_replay.specs.declared.stage.ScriptStage.{ScriptStage}
use Rattle.script_replay.specs.declared.stage.ScriptStage.TheVariants as stages
use Rattle.replay_commands_on_core.specs.declared.check.Checker.{Checker}
use Rattle.replay_commands_on_core.specs.Check.{lines_by, AreScript, BeginScript, ScriptBy, BeginBy, Parts, ByLine, AtEnd, BeginsWhole, BeginsMuch, Finds, line_kind_in}
use Rattle.script_replay.specs.Versions.{Version, First, Second, version_by, version_in, HasNone}
use Rattle.replay_commands_on_core.specs.Walked.{FillsDueLines, Heads, TakesFirst, TakesLater, TakesAny, OpensAtEnd, CheckEndsAt, IsUnread, CheckMayTake, Standing, Placed, LinesShow, Walked, checks}
use Rattle.replay_command_base.specs.Streams.{FilterStreams}
use Rattle.replay_command_base.specs.Reads.{Got, IsAll, AreRead}
use Rattle.replay_command_base.proofs.Readings.{whole_lines_read}
use Rattle.replay_commands_on_core.proofs.ProperHeaders.{header_spells}
use Rattle.replay_commands_on_core.proofs.Opens.{settings_at_first}
use Rattle.replay_commands_on_core.proofs.StageLines.{unread_takes}
use Rattle.script_replay.proofs.VersionLines.{version_stays}
use Rattle.replay_commands_on_core.proofs.Checks.{lines_are, longer_lines, IsSomeIn, no_whole, begin_number}
use Rattle.replay_commands_on_core.proofs.Places.{Taken, Goes, Unmarked, MayNot, Other, shows_begin, shows_end, taken_plain, written_is, written_still}
use Rattle.replay_commands_on_core.proofs.Numbers.{taken_announced, taken_numbered}

-- WHERE A SESSION WAS OPENED

abbrev Ended : Settings → Version → List Piece → ℕ → Ending → Type 0
Ended o v before n answer = ((answer ≡ endings.Done) × ScriptBy o v before) ⊎ ((answer ≡ endings.Differs (n + 1)) × (ScriptBy o v before → ⊥))

some_lines : (v : Version) (l : Piece) (ls : List Piece) → IsSomeIn v (l ∷ ls)
some_lines First l ls = tt
some_lines (Second s) l ls = omega arith

standing_begins : (o : Settings) (v : Version) (core : AnyParts) (stage : ScriptStage) (due : List ℕ) (before : List Piece) → Standing o v core stage due before → IsSomeIn v before → BeginBy o v before
standing_begins o First core stages.Plain due before st some = shows_begin o First core stages.Plain due before st some st.at
standing_begins o (Second s) core (stages.AfterEvent n) due before st some = shows_begin o (Second s) core (stages.AfterEvent n) due before st some st.at.0
standing_begins o (Second s) core (stages.Numbered n) due before st some =
    begin_number o s st.proper st.trace st.lawful st.opened core st.stands st.at.not_over before
    (ap (λ k. lines_by (Second s) st.trace ++ Whole (step_number_line k) ∷ []) (sym st.at.number_is) ∙ st.at.same)
standing_begins o v core stage due before st some = absurd st.at

standing_ends : (o : Settings) (v : Version) (core : AnyParts) (stage : ScriptStage) (due : List ℕ) (before : List Piece) → Standing o v core stage due before → IsSomeIn v before
    → (n : ℕ) (answer : Ending) → CheckEndsAt core stage due n answer → Ended o v before n answer
standing_ends o First core stages.Plain due before st some n answer e = shows_end o First core stages.Plain due before st some st.at n answer e
standing_ends o (Second s) core (stages.AfterEvent k) due before st some n answer e = shows_end o (Second s) core (stages.AfterEvent k) due before st some st.at.0 n answer e
standing_ends o (Second s) core (stages.Numbered k) due before st some n answer e = inr (e, no_whole o s st.proper st.trace st.lawful st.opened k before st.at.same)
standing_ends o v core stage due before st some n answer e = absurd st.at

standing_takes : (o : Settings) (v : Version) (core : AnyParts) (stage : ScriptStage) (due : List ℕ) (before : List Piece) → Standing o v core stage due before → IsSomeIn v before
    → (line : List ℕ) (number : ℕ) (answer : Option Ending) (core' : AnyParts) (stage' : ScriptStage) (due' : List ℕ) → TakesLater core stage due number line answer core' stage' due'
    → Taken o v before (Whole line) number answer core' stage' due'
standing_takes o First core stages.Plain due before st some line number answer core' stage' due' k = taken_plain o core due before st line number core' stage' due' answer k.ending k.follows
standing_takes o (Second s) core (stages.AfterEvent n) due before st some line number answer core' stage' due' k = taken_announced o s core n due before st some line number core' stage' due' answer k.ending k.follows
standing_takes o (Second s) core (stages.Numbered n) due before st some line number answer core' stage' due' k = taken_numbered o s core n due before st line number core' stage' due' answer k.ending k.follows
standing_takes o v core stage due before st some line number answer core' stage' due' k = absurd st.at

-- no session stands before its first line
started : (o : Settings) (v : Version) (core : AnyParts) (stage : ScriptStage) (due : List ℕ) (before : List Piece) → Standing o v core stage due before
    → (line : List ℕ) (number : ℕ) (answer : Option Ending) (core' : AnyParts) (stage' : ScriptStage) (due' : List ℕ) → TakesAny core stage due number line answer core' stage' due'
    → TakesLater core stage due number line answer core' stage' due'
started o v core stages.Plain due before st line number answer core' stage' due' k = k
started o v core stages.Headed due before st line number answer core' stage' due' k = k
started o v core (stages.AfterEvent n) due before st line number answer core' stage' due' k = k
started o v core (stages.Numbered n) due before st line number answer core' stage' due' k = k
started o First core stages.Start due before st line number answer core' stage' due' k = absurd st.at
started o (Second s) core stages.Start due before st line number answer core' stage' due' k = absurd st.at

-- OPENING

opens_plain : (o : Settings) (old core : AnyParts) (due : List ℕ) → Represents o old [] → FillsDueLines old core Open due → Standing o First core stages.Plain due []
opens_plain o old core due st f =
    let next = f.adds.extends o [] tt st in
    let s = f.step in
    record {
      proper = tt;
      trace = s ∷ [];
      lawful = next.0;
      opened = some_opened o s [] next.0;
      stands = next.1;
      at = record {
        same = longer_lines o First tt (s ∷ []) [] next.0 tt ∙ ap (λ (e : Event). map Whole (event_lines e ++ written_lines (iface_text s) (engine_text s))) f.adds.event ∙ ap (map Whole) (sym (written_is s due f.due_is));
        quiet = written_still s due f.due_is;
      };
    }

opens_numbered : (o s : Settings) (core : AnyParts) (due : List ℕ) (line : List ℕ) → header_of line ≡ Some s → Heads s core due → Standing o (Second s) core (stages.AfterEvent 0) due (Whole line ∷ [])
opens_numbered o s core due line h f =
    let spelled = header_spells line s h in
    let next = f.adds.extends s [] tt f.stands in
    let x = f.step in
    let due_parts : parts_by_feed due ≡ step_number_line 0 ∷ written_lines (iface_text x) (engine_text x) =
    ap parts_by_feed f.due_is ∙ parts_line (step_number_line 0) (written_text x) (step_fed 0 (omega arith)) ∙ ap (λ ls. step_number_line 0 ∷ ls) (written_is x (written_text x) refl) in
    record {
      proper = spelled.proper;
      trace = x ∷ [];
      lawful = next.0;
      opened = some_opened s x [] next.0;
      stands = next.1;
      at = (
        record {
          same =
              lines_are o (Second s) spelled.proper (x ∷ []) next.0
              ∙ ap (λ (e : Event). Whole (header_text s) ∷ Whole (step_number_line 0) ∷ map Whole (event_lines e ++ written_lines (iface_text x) (engine_text x))) f.adds.event
              ∙ ap (λ (l : List ℕ). Whole l ∷ Whole (step_number_line 0) ∷ map Whole (written_lines (iface_text x) (engine_text x))) (sym spelled.text)
              ∙ ap (λ ls. Whole line ∷ map Whole ls) (sym due_parts);
          quiet = ap script_events_in due_parts ∙ ap script_events_in (sym (written_is x (written_text x) refl)) ∙ written_still x (written_text x) refl;
        },
        record { count = 0; length_is = refl; number_is = refl },
      );
    }

-- A LINE MORE

begin_of : (o : Settings) (core : AnyParts) (stage : ScriptStage) (due : List ℕ) (lines : List Piece) → Placed o core stage due lines → BeginScript o lines
begin_of o core stage due [] p = record { trace = []; lawful = tt; later = []; goes_on = refl }
begin_of o core stage due (l ∷ ls) p = standing_begins o (version_in (l ∷ ls)) core stage due (l ∷ ls) p (some_lines (version_in (l ∷ ls)) l ls)

-- the result for lines, if the check is now so
abbrev pub Examined : Settings → List Piece → Option Ending → Checker → Type 0
Examined o lines None checker = Walked o checker lines
Examined o lines (Some ending) checker = LinesShow o ending lines

pub then_by : {O : Type 0} → (checker0 : Checker) (output0 : O) (lines : List Piece) (result : Option Ending) (checker : Checker) (output : O) → ((o : Settings) → IsUnread o checker0 → Examined o lines result checker) → ConsumerThen checks checker0 output0 lines result checker output
then_by checker0 output0 lines None checker output f = f
then_by checker0 output0 lines (Some ending) checker output f = f

module _ (o : Settings) (checker : Checker) (before : List Piece) (w : Walked o checker before) where
  begin : BeginScript o before
  begin = begin_of o checker.core checker.stage checker.due before w.placed

  module _ (p : Piece) (number : ℕ) (number_is : number ≡ length before + 1) where
    abbrev more : List Piece
    more = before ++ p ∷ []

    -- the line is the first up to which the lines begin no script
    abbrev parts_at : (BeginScript o more → ⊥) → (start now : FilterStreams) → AreRead start now more → Parts o number start now
    parts_at never start now read = record { before = before; line = p; read = read; number_is = number_is; begins = begin; differs = never }

    abbrev checker_with : AnyParts → ScriptStage → List ℕ → Checker
    checker_with core stage due = record { core = core; stage = stage; due = due; number = number }

    -- the lines with this one stand
    goes_to : (core : AnyParts) (stage : ScriptStage) (due : List ℕ) → CheckMayTake core stage → Placed o core stage due more → Walked o (checker_with core stage due) more
    goes_to core stage due may placed = record {
      number = let z : number ≡ length more = omega (arith, length-append before (p ∷ []), number_is) in z;
      placed = placed;
      may = may;
    }

    place_more : (ls : List Piece) (core : AnyParts) (stage : ScriptStage) (due : List ℕ) → Standing o (version_in (ls ++ p ∷ [])) core stage due (ls ++ p ∷ []) → Placed o core stage due (ls ++ p ∷ [])
    place_more [] core stage due st = st
    place_more (l ∷ ls) core stage due st = st

    -- the outcome of the line, if it does not name another version
    on_taken : version_in more ≡ version_in before → (answer : Option Ending) (core : AnyParts) (stage : ScriptStage) (due : List ℕ) → CheckMayTake core stage → Taken o (version_in before) before p number answer core stage due
        → Examined o more answer (checker_with core stage due)
    on_taken v answer core stage due may (Goes e st) =
        subst (λ (x : Option Ending). Examined o more x (checker_with core stage due)) (sym e)
        (goes_to core stage due may (place_more before core stage due (subst (λ (x : Version). Standing o x core stage due more) (sym v) st)))
    on_taken v answer core stage due may (Unmarked e never u) =
        subst (λ (x : Option Ending). Examined o more x (checker_with core stage due)) (sym e)
        (record { finds = λ start now read. record { parts = parts_at (λ b. never (subst (λ (x : Version). BeginBy o x more) v b)) start now read; unmarked = u }; of_line = λ h. cc })
    on_taken v answer core stage due may (MayNot e never event k a m) =
        subst (λ (x : Option Ending). Examined o more x (checker_with core stage due)) (sym e)
        (record { finds = λ start now read. record { parts = parts_at (λ b. never (subst (λ (x : Version). BeginBy o x more) v b)) start now read; event = event; is_event = k; awaited = a; may_not = m }; of_line = λ h. cc })
    on_taken v answer core stage due may (Other e never k a) =
        subst (λ (x : Option Ending). Examined o more x (checker_with core stage due)) (sym e)
        (record { finds = λ start now read. ByLine (record { parts = parts_at (λ b. never (subst (λ (x : Version). BeginBy o x more) v b)) start now read; is_marked = k; other = a }); of_line = λ h. cc })

    -- a line that is too long
    pub on_long : p ≡ TooLong → LinesShow o (endings.NoMark number) more
    on_long e = record {
      finds = λ start now read. record {
        parts = parts_at (λ b. none_long (version_in more) b) start now read;
        unmarked = ap (line_kind_in (version_in before)) e ∙ bare (version_in before);
      };
      of_line = λ h. cc;
    } where
      bare : (v : Version) → line_kind_in v TooLong ≡ HasNone
      bare First = refl
      bare (Second s) = refl

      never : (xs : List (List ℕ)) (ls ms : List Piece) → map Whole xs ≡ ls ++ TooLong ∷ ms → ⊥
      never [] [] ms h = cc
      never [] (l ∷ ls) ms h = cc
      never (x ∷ xs) [] ms h = cc
      never (x ∷ xs) (l ∷ ls) ms h = never xs ls ms (let z : map Whole xs ≡ ls ++ TooLong ∷ ms = cc in z)

      none_long : (v : Version) → BeginBy o v more → ⊥
      none_long v b = never _ before b.later (b.goes_on ∙ append_assoc before (p ∷ []) b.later ∙ ap (λ (x : Piece). before ++ x ∷ b.later) e)

    module _ (line : List ℕ) (line_is : p ≡ Whole line) (answer : Option Ending) (core : AnyParts) (stage : ScriptStage) (due : List ℕ) (may : CheckMayTake core stage) where
      abbrev Came : Type 0
      Came = Examined o more answer (checker_with core stage due)

      more_is : {ls : List Piece} → before ≡ ls → more ≡ ls ++ Whole line ∷ []
      more_is {ls} h = ap (λ (x : List Piece). x ++ p ∷ []) h ∙ ap (λ (x : Piece). ls ++ x ∷ []) line_is

      on_first : before ≡ [] → (header : Option Settings) → header_of line ≡ header → Represents o checker.core [] → TakesFirst header checker.core number line answer core stage due → Came
      on_first h None none st x =
          let taken = taken_plain o x.core x.lines [] (opens_plain o checker.core x.core x.lines st x.opens) line number core stage due answer x.ending x.follows in
          on_taken (ap version_in (more_is h) ∙ ap version_by none ∙ sym (ap version_in h)) answer core stage due may
          (subst (λ (ls : List Piece). Taken o (version_in ls) ls p number answer core stage due) (sym h)
          (subst (λ (x : Piece). Taken o First [] x number answer core stage due) (sym line_is) taken))
      on_first h (Some s) is st x =
          let opened = opens_numbered o s core due line is x.0 in
          let placed : Placed o core (stages.AfterEvent 0) due (Whole line ∷ []) = subst (λ (v : Version). Standing o v core (stages.AfterEvent 0) due (Whole line ∷ [])) (sym (ap version_by is)) opened in
          subst (λ (a : Option Ending). Examined o more a (checker_with core stage due)) (sym x.2)
          (goes_to core stage due may (subst (λ (y : ScriptStage). Placed o core y due more) (sym x.1) (subst (λ (ls : List Piece). Placed o core (stages.AfterEvent 0) due ls) (sym (more_is h)) placed)))

      pub on_line : TakesAny checker.core checker.stage checker.due number line answer core stage due → Came
      on_line k = by before refl w.placed where
        by : (ls : List Piece) → before ≡ ls → Placed o checker.core checker.stage checker.due ls → Came
        by [] h placed = on_first h (header_of line) refl placed.0 (subst (λ (x : ScriptStage). TakesAny checker.core x checker.due number line answer core stage due) placed.1 k)
        by (l ∷ ls) h st =
            let v = version_in (l ∷ ls) in
            let later = started o v checker.core checker.stage checker.due (l ∷ ls) st line number answer core stage due k in
            let taken = standing_takes o v checker.core checker.stage checker.due (l ∷ ls) st (some_lines v l ls) line number answer core stage due later in
            on_taken (ap version_in (more_is h) ∙ version_stays l ls (Whole line ∷ []) ∙ sym (ap version_in h)) answer core stage due may
            (subst (λ (x : List Piece). Taken o (version_in x) x p number answer core stage due) (sym h)
            (subst (λ (x : Piece). Taken o v (l ∷ ls) x number answer core stage due) (sym line_is) taken))

  -- THE END

  ended_of : (lines : List Piece) → Placed o checker.core checker.stage checker.due lines → (n : ℕ) (answer : Ending) → CheckEndsAt checker.core checker.stage checker.due n answer → Ended o (version_in lines) lines n answer
  ended_of [] p n answer e = opened (subst (λ (x : ScriptStage). CheckEndsAt checker.core x checker.due n answer) p.1 e) where
    opened : OpensAtEnd checker.core n answer → Ended o First [] n answer
    opened x = shows_end o First x.core stages.Plain x.lines [] (opens_plain o checker.core x.core x.lines p.0 x.opens) tt ((opens_plain o checker.core x.core x.lines p.0 x.opens).at) n answer x.ending
  ended_of (l ∷ ls) p n answer e = standing_ends o (version_in (l ∷ ls)) checker.core checker.stage checker.due (l ∷ ls) p (some_lines (version_in (l ∷ ls)) l ls) n answer e

  module _ (start now : FilterStreams) (got : List ℕ) (reads : Got start now got) where
    -- all lines were taken, up to the end of the input
    pub at_end : IsAll start.input.left got → before ≡ items 131072 got → (answer : Ending) → CheckEndsAt checker.core checker.stage checker.due checker.number answer → Finds o answer start now
    at_end all same answer e = by (ended_of before w.placed checker.number answer e) where
      by : Ended o (version_in before) before checker.number answer → Finds o answer start now
      by (inl x) = subst (λ (a : Ending). Finds o a start now) (sym x.0) (record {
        got = got;
        reads = reads;
        all = all;
        script = subst (AreScript o) same x.1;
      })
      by (inr x) = subst (λ (a : Ending). Finds o a start now) (sym x.0) (AtEnd (record {
        got = got;
        reads = reads;
        all = all;
        number_is = ap (λ k. k + 1) w.number ∙ ap (λ (ls : List Piece). length ls + 1) same;
        begins = subst (BeginScript o) same begin;
        lacks = λ a. x.1 (subst (AreScript o) (sym same) a);
      }))

    -- no whole line is left to be taken
    pub at_whole : before ≡ whole 131072 got → BeginsWhole o start now
    at_whole same = record {
      got = got;
      reads = reads;
      of_left = (whole_lines_read start now got reads).of_left;
      begins = subst (BeginScript o) same begin;
    }

    -- and the input is too long
    pub at_many : before ≡ whole 131072 got → 2 ^ 32 ≤ length got → BeginsMuch o start now
    unfolding at_whole
    at_many same many = record { begins = at_whole same; least = many }

-- before the first line
pub first_walk : (o : Settings) (checker : Checker) → IsUnread o checker → Walked o checker []
first_walk o checker new = record {
  number = new.number;
  placed = (new.core, new.stage);
  may = unread_takes checker.core checker.stage (subst (λ (s : Settings). Represents s checker.core []) (sym (settings_at_first o checker.core new.core)) new.core) new.stage;
}
