-- A report is never taken back.
use Rattle.std.proofs.Common.{◌≡◌, ℕ, ◌+◌, List, [], ◌∷◌, ◌++◌, Option, Some, None, append-nil, append_assoc, refl, sym, ap, ◌∙◌}
use Rattle.line_io.specs.Lines.{Piece}
use Rattle.replay_command_base.specs.declared.ending.Ending.{Ending}
use Rattle.replay_command_base.specs.declared.ending.Ending.TheVariants as endings
use Rattle.replay_command_base.proofs.Prefixes.{IsPrefix, all_prefix, prefix_on}
use Rattle.session_judge.specs.declared.listener.Listener.{Listener}
use Rattle.session_judge.specs.Talks.{opening_judgement}
use Rattle.judge_report.specs.Reports.{ReportCourse, kind_of_log_line, of_kind, read_on, over, report, last_lines}
use Rattle.judge_report.specs.Judged.{due_by, due_report}

line_grows : (e : Option Ending) (c : ReportCourse) (n : ℕ) (p : Piece) → IsPrefix c.text (read_on e c n p).text
line_grows (Some ending) c n p = all_prefix c.text
line_grows None c n p = record { more = (of_kind c.talk n (kind_of_log_line n p)).more; whole_is = refl }

grows : (c : ReportCourse) (n : ℕ) (ps : List Piece) → IsPrefix c.text (over c n ps).text
grows c n [] = all_prefix c.text
grows c n (p ∷ ps) =
    let d : ReportCourse = read_on c.ending c n p in
    prefix_on c.text d.text (over d (n + 1) ps).text (line_grows c.ending c n p) (grows d (n + 1) ps)

over_prefix : (c : ReportCourse) (n : ℕ) (ps qs : List Piece) → IsPrefix (over c n ps).text (over c n (ps ++ qs)).text
over_prefix c n [] qs = grows c n qs
over_prefix c n (p ∷ ps) qs = over_prefix (read_on c.ending c n p) (n + 1) ps qs

due_prefix : (e : Option Ending) (c : ReportCourse) → IsPrefix c.text (due_by e c)
due_prefix (Some fault) c = all_prefix c.text
due_prefix None c = record { more = last_lines c.talk endings.Done; whole_is = refl }

-- the report of the first lines is a prefix of the one that is due for all
pub report_prefix : (listener : Listener) (lines later : List Piece) → IsPrefix (report listener lines).text (due_report listener (lines ++ later))
report_prefix listener lines later =
    let all = report listener (lines ++ later) in
    prefix_on (report listener lines).text all.text (due_report listener (lines ++ later))
    (over_prefix (record { talk = opening_judgement listener; text = []; ending = None }) 1 lines later) (due_prefix all.ending all)
