-- The report on the script of a lawful trace finds no fault.
use Rattle.std.proofs.Common.{◌≡◌, ◌⊎◌, inl, inr, ℕ, ◌+◌, List, [], ◌∷◌, ◌++◌, map, length, Bool, true, cond, ◌||◌, Option, Some, None, is_some, refl, sym, ap, subst, ◌∙◌, arith, append_assoc, append-nil}
use Rattle.std.specs.Prelude.{IfSome}
use Rattle.std.specs.List.{AllByRecursion}
use Rattle.std.specs.Option.{option_to_list}
use Rattle.std.specs.Io.KnownBytes.{Appends}
use Rattle.std.proofs.lemmas.Bool.{or_left, or_right}
use Rattle.line_io.specs.Lines.{Piece, Whole, items, piece_of}
use Rattle.policy_rules.specs.declared.setting_rules.settings.Settings.{Settings}
use Rattle.policy_rules.specs.SettingRules.Policy.{IsProper}
use Rattle.script_lines.specs.Header.{header_text, header_of}
use Rattle.script_lines.specs.Marks.{Mark, mark_spelled}
use Rattle.script_lines.specs.StepLine.{step_of}
use Rattle.script_lines.proofs.Headers.{header_again, header_length, header_words}
use Rattle.script_lines.proofs.Numerals.{step_length, step_spelled}
use Rattle.adapter_core.specs.Trace.{Step, LawfulTrace}
use Rattle.trace_scripts.specs.Script.{script1, script2}
use Rattle.trace_scripts.proofs.Lines.{lines_of, script1_lines}
use Rattle.trace_scripts.proofs.Numbered.{numbered_lines, script2_lines}
use Rattle.trace_scripts.proofs.Scripts.{all_marked}
use Rattle.replay_command_base.specs.declared.ending.Ending.{Ending}
use Rattle.replay_command_base.specs.Streams.{FilterStreams}
use Rattle.script_replay.specs.Versions.{Version, First, Second, script_by, settings_by}
use Rattle.session_judge.specs.declared.listener.Listener.{Listener}
use Rattle.session_judge.specs.declared.rule.Rule.{Rule}
use Rattle.session_judge.specs.declared.talk.JudgedTalk.{JudgedTalk}
use Rattle.session_judge.specs.DialogueEvents.{dialogue_event_of}
use Rattle.session_judge.specs.Talks.{opening_judgement}
use Rattle.judge_report.specs.Texts.{search_report, crossings_line, lawful_line}
use Rattle.judge_report.specs.Reports.{LogLineKind, Passes, HasNone, ReportCourse, log_line_kind_by, is_passed, of_dialogue_event, of_kind, with_outcome, read_on, over, report}
use Rattle.replay_command_base.specs.declared.ending.Ending.TheVariants as endings
use Rattle.judge_report.specs.Judged.{AllJudged, FaultFound, Judged, whole_report}
use Rattle.judge_and_driver_laws.specs.Judge.Scripts.{marks_in_text}
use Rattle.judge_and_driver_laws.proofs.Judge.Runs.{Runs}
use Rattle.judge_and_driver_laws.proofs.Judge.Marked.{IsLogLine, script1_log, script2_log}
use Rattle.judge_and_driver_laws.proofs.Judge.Scripts.{trace_runs}
use Rattle.replay_commands_on_core.specs.OwnScripts.{OwnScriptFoundLawful, NoFaultFound, JudgesOwnTalk, searches}
use Rattle.replay_commands_on_core.specs.Replayed.{IsProperIn}
use Rattle.replay_commands_on_core.proofs.Replayed.{short_whole, marked_piece}

-- THE LINES OF A LOG

-- no order crosses
abbrev Apart : JudgedTalk → Type 0
Apart t = t.crossings ≡ 0

-- the report has no fault yet, and in the lines to come no mark breaks a rule and no order crosses
record GoesOn (c : ReportCourse) (lines : List (List ℕ)) : Type 0 where
  faultless : c.ending ≡ None
  runs : Runs c.talk (marks_in_text lines) Apart

-- and so once a line of this kind was read
abbrev GoesOnBehind : ReportCourse → ℕ → List (List ℕ) → LogLineKind → Type 0
GoesOnBehind c n lines kind = GoesOn (with_outcome c (of_kind c.talk n kind)) lines

-- a line more
read_one : (c : ReportCourse) (n : ℕ) (l : List ℕ) (ls : List (List ℕ)) → IsLogLine l → GoesOn c (l ∷ ls) → GoesOn (read_on c.ending c n (Whole l)) ls
read_one c n l ls k g =
    subst (λ (x : Option Ending). GoesOn (read_on x c n (Whole l)) ls) (sym g.faultless) (by (mark_spelled l) refl)
  where
    by : (o : Option Mark) → mark_spelled l ≡ o → GoesOnBehind c n ls (log_line_kind_by (mark_spelled l) (is_passed n l))
    by (Some m) e =
        let r : Runs c.talk (m ∷ marks_in_text ls) Apart = subst (λ (x : Option Mark). Runs c.talk (option_to_list x ++ marks_in_text ls) Apart) e g.runs in
        subst (λ (x : Option Mark). GoesOnBehind c n ls (log_line_kind_by x (is_passed n l))) (sym e)
        (subst (λ (x : Option Rule). GoesOn (with_outcome c (of_dialogue_event c.talk n (dialogue_event_of m) x)) ls) (sym r.0) (record { faultless = refl; runs = r.1 n }))
    by None e =
        let r : Runs c.talk (marks_in_text ls) Apart = subst (λ (x : Option Mark). Runs c.talk (option_to_list x ++ marks_in_text ls) Apart) e g.runs in
        let step : is_some (step_of l) ≡ true = sym (ap (λ (x : Option Mark). is_some x || is_some (step_of l)) e) ∙ k in
        let passed : is_passed n l ≡ true = or_left (is_some (step_of l)) _ step in
        subst (λ (x : Option Mark). GoesOnBehind c n ls (log_line_kind_by x (is_passed n l))) (sym e)
        (subst (λ (x : Bool). GoesOnBehind c n ls (cond x Passes HasNone)) (sym passed) (record { faultless = refl; runs = r }))

-- and so once all were read
abbrev IsFaultless : ReportCourse → Type 0
IsFaultless c = (c.ending ≡ None) × Apart c.talk

over_log : (c : ReportCourse) (n : ℕ) (ls : List (List ℕ)) → AllByRecursion IsLogLine ls → GoesOn c ls → IsFaultless (over c n (map Whole ls))
over_log c n [] a g = (g.faultless, g.runs)
over_log c n (l ∷ ls) a g = over_log (read_on c.ending c n (Whole l)) (n + 1) ls a.1 (read_one c n l ls a.0 g)

-- none of them is too long
log_piece : (l : List ℕ) → IsLogLine l → piece_of 131072 l ≡ Whole l
log_piece l k = by (mark_spelled l) (step_of l) refl refl where
  by : (o : Option Mark) (s : Option ℕ) → mark_spelled l ≡ o → step_of l ≡ s → piece_of 131072 l ≡ Whole l
  by (Some m) s e f = marked_piece l (ap (λ (x : Option Mark). is_some x) e)
  by None (Some n) e f =
      let spelled = step_spelled l n f in
      short_whole l (omega (arith, step_length n spelled.below, ap length spelled.text))
  by None None e f = let none = sym k ∙ ap (λ (x : Option Mark). is_some x || is_some (step_of l)) e ∙ ap (λ (x : Option ℕ). is_some x) f in cc

log_pieces : (ls : List (List ℕ)) → AllByRecursion IsLogLine ls → map (piece_of 131072) ls ≡ map Whole ls
log_pieces [] a = refl
log_pieces (l ∷ ls) a = ap (λ (p : Piece). p ∷ map (piece_of 131072) ls) (log_piece l a.0) ∙ ap (λ (ps : List Piece). Whole l ∷ ps) (log_pieces ls a.1)

-- SCRIPTS

abbrev unread : Listener → ReportCourse
unread listener = record { talk = opening_judgement listener; text = []; ending = None }

log_faultless : (listener : Listener) (ls : List (List ℕ)) → AllByRecursion IsLogLine ls → GoesOn (unread listener) ls → IsFaultless (report listener (map (piece_of 131072) ls))
log_faultless listener ls known g = subst (λ (ps : List Piece). IsFaultless (report listener ps)) (sym (log_pieces ls known)) (over_log (unread listener) 1 ls known g)

script1_faultless : (listener : Listener) (o : Settings) (t : List Step) → LawfulTrace o t → IsFaultless (report listener (items 131072 (script1 t)))
script1_faultless listener o t l =
    let log = script1_log o t l in
    subst (λ (ls : List (List ℕ)). IsFaultless (report listener (map (piece_of 131072) ls))) (sym (script1_lines t (all_marked o t l)))
    (log_faultless listener (lines_of t) log.known (record { faultless = refl; runs = subst (λ (ms : List Mark). Runs (opening_judgement listener) ms Apart) (sym log.reported) (trace_runs o listener t l) }))

-- a header in line 1 is passed over
header_read : (listener : Listener) (o : Settings) (ls : List (List ℕ)) → IsProper o → GoesOn (unread listener) ls → GoesOn (read_on None (unread listener) 1 (Whole (header_text o))) ls
header_read listener o ls p g =
    let h = header_text o in
    let passed : is_passed 1 h ≡ true = or_right (is_some (step_of h)) (is_some (header_of h)) (ap (λ (x : Option Settings). is_some x) (header_again o p)) in
    subst (λ (x : Option Mark). GoesOnBehind (unread listener) 1 ls (log_line_kind_by x (is_passed 1 h))) (sym (ap mark_spelled (header_words o)))
    (subst (λ (x : Bool). GoesOnBehind (unread listener) 1 ls (cond x Passes HasNone)) (sym passed) (record { faultless = refl; runs = g.runs }))

script2_faultless : (listener : Listener) (o : Settings) (t : List Step) → IsProper o → LawfulTrace o t → IsFaultless (report listener (items 131072 (script2 o t)))
script2_faultless listener o t p l =
    let log = script2_log o t l in
    let h = header_text o in
    let short : piece_of 131072 h ≡ Whole h = short_whole h (omega (arith, header_length o p)) in
    let lines : items 131072 (script2 o t) ≡ Whole h ∷ map Whole (numbered_lines t) =
    ap (map (piece_of 131072)) (script2_lines o t p (all_marked o t l)) ∙ ap (λ (ps : List Piece). piece_of 131072 h ∷ ps) (log_pieces (numbered_lines t) log.known) ∙ ap (λ (x : Piece). x ∷ map Whole (numbered_lines t)) short in
    subst (λ (ps : List Piece). IsFaultless (report listener ps)) (sym lines)
    (over_log (read_on None (unread listener) 1 (Whole h)) 2 (numbered_lines t) log.known
    (header_read listener o (numbered_lines t) p (record { faultless = refl; runs = subst (λ (ms : List Mark). Runs (opening_judgement listener) ms Apart) (sym log.reported) (trace_runs o listener t l) })))

script_faultless : (listener : Listener) (v : Version) (o : Settings) (t : List Step) → IsProperIn v → LawfulTrace (settings_by v o) t → IsFaultless (report listener (items 131072 (script_by v t)))
script_faultless listener First o t p l = script1_faultless listener o t l
script_faultless listener (Second s) o t p l = script2_faultless listener s t p l

-- THE COMMAND

-- once there is a reason to end, no line is read
stopped : (c : ReportCourse) (n : ℕ) (ps : List Piece) (e : Ending) → c.ending ≡ Some e → (over c n ps).ending ≡ Some e
stopped c n [] e h = h
stopped c n (p ∷ ps) e h = stopped (read_on c.ending c n p) (n + 1) ps e (ap (λ (x : Option Ending). (read_on x c n p).ending) h ∙ h)

-- a fault in the first lines is one in all
fault_stays : (c : ReportCourse) (n : ℕ) (ps qs : List Piece) (e : Ending) → (over c n ps).ending ≡ Some e → (over c n (ps ++ qs)).ending ≡ Some e
fault_stays c n [] qs e h = stopped c n qs e h
fault_stays c n (p ∷ ps) qs e h = fault_stays (read_on c.ending c n p) (n + 1) ps qs e h

-- no line reports crossings
report_is : (text found : List ℕ) (n : ℕ) → n ≡ 0 → text ++ ((found ++ crossings_line n) ++ lawful_line) ≡ (text ++ found) ++ lawful_line
report_is text found n z =
    ap (λ (x : ℕ). text ++ ((found ++ crossings_line x) ++ lawful_line)) z ∙ ap (λ (xs : List ℕ). text ++ (xs ++ lawful_line)) (append-nil found)
    ∙ sym (append_assoc text found lawful_line)

module _ (listener : Listener) (U : Type 0) (before after : FilterStreams) (code : ℕ) (j : Judged listener U before after code) where
  module _ (x : List ℕ) (left : before.input.left ≡ Some x) (none : IsFaultless (report listener (items 131072 x))) where
    no_fault : (n : ℕ) → FaultFound listener before after n → ⊥
    no_fault n f =
        let first : IfSome (Some x) (λ y. (ls : List Piece) × (items 131072 y ≡ f.lines ++ ls)) = subst (λ (o : Option (List ℕ)). IfSome o (λ y. (ls : List Piece) × (items 131072 y ≡ f.lines ++ ls))) left f.read.of_left in
        let fault = sym none.0 ∙ ap (λ (ps : List Piece). (report listener ps).ending) first.1 ∙ fault_stays (unread listener) 1 f.lines first.0 f.fault f.is_fault in
        cc

    found : AllJudged listener before after → OwnScriptFoundLawful listener x before after
    found a =
        let c = report listener (items 131072 x) in
        let all : x ≡ a.got = subst (λ (o : Option (List ℕ)). IfSome o (λ y. y ≡ a.got)) left a.all_read in
        subst (λ (t : List ℕ). Appends before.output.taken after.output.taken t) (report_is c.text (search_report c.talk.search) c.talk.crossings none.1)
        (subst (λ (y : List ℕ). Appends before.output.taken after.output.taken (whole_report listener (items 131072 y) endings.Done)) (sym all) a.written)

    completed : ((code ≡ 0) × AllJudged listener before after) ⊎ FaultFound listener before after code ⊎ (code ≡ 3) → (code ≡ 0) ⊎ (code ≡ 3)
    completed (inl d) = inl d.0
    completed (inr (inl f)) = absurd (no_fault code f)
    completed (inr (inr m)) = inr m

    none_found : NoFaultFound listener x before after code
    none_found = record {
      lawful = λ z. found (j.lawful z).0;
      not_unlawful = λ z. no_fault 1 (j.unlawful z);
      no_line_without_mark = λ z. no_fault 2 (j.no_mark z);
      complete = λ l s. completed (j.complete x left l s);
    }

  pub judges_own_talk : JudgesOwnTalk listener before after code
  judges_own_talk v o t p l left = none_found (script_by v t) left (script_faultless listener v o t p l)
