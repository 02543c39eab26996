-- The scripts of lawful traces are logs: what marks their lines spell.
use Rattle.std.proofs.Common.{◌≡◌, ℕ, List, [], ◌∷◌, ◌++◌, map, length, Bool, true, false, not, ◌&&◌, ◌||◌, nat_le, Option, Some, is_some, refl, ap, sym, subst, ◌∙◌, arith, append_assoc}
use Rattle.std.specs.List.{AllByRecursion}
use Rattle.std.specs.Option.{option_to_list}
use Rattle.std.proofs.lemmas.Bool.Decides.{nat_tests}
use Rattle.line_io.specs.Event.{Event, has_feed}
use Rattle.line_io.specs.Event as events
use Rattle.line_io.specs.Lines.{parts_by_feed}
use Rattle.script_lines.specs.Header.{header_text}
use Rattle.script_lines.specs.Marks.{Mark, Happens, ToIface, ToEngine, is_written, mark_spelled}
use Rattle.script_lines.specs.StepLine.{step_number, step_of}
use Rattle.script_lines.proofs.Headers.{header_words}
use Rattle.script_lines.proofs.Numerals.{number_below, step_again}
use Rattle.script_lines.proofs.Scripts.{parts_line}
use Rattle.script_lines.proofs.Spelled.{spelled_read}
use Rattle.cecp_lines.specs.Replies.{Reply, reply_text}
use Rattle.uci_lines.specs.Orders.{Order, uci_order_text}
use Rattle.option_map.specs.FeatureLists.Features.{reply_lines}
use Rattle.desk_rules.specs.Texts.{order_lines}
use Rattle.policy_rules.specs.declared.setting_rules.settings.Settings.{Settings}
use Rattle.adapter_core.specs.Trace.{Step, LawfulTrace, iface_text, engine_text}
use Rattle.trace_scripts.proofs.Lines.{behind, event_lines, written_lines, IsMarked, step_lines, lines_of, AreMarked, script1_lines}
use Rattle.trace_scripts.proofs.Scripts.{all_marked}
use Rattle.trace_scripts.proofs.Numbered.{number_line, numbered_lines, script2_lines}
use Rattle.trace_laws.specs.OneLine.{IsOneLogLine, WritesLines}
use Rattle.trace_laws.proofs.OneLine.{write_lines}
use Rattle.judge_and_driver_laws.specs.Judge.Logs.{event_marks, iface_mark, engine_mark, marks_of_log_step, trace_marks}
use Rattle.judge_and_driver_laws.specs.Judge.Scripts.{marks_in_text, Scripts1AreClean, Scripts2AreClean}
use Rattle.judge_and_driver_laws.proofs.Judge.Scripts.{logs_are_clean}

-- a line with a mark, or with the number of a step
abbrev pub IsLogLine : List ℕ → Type 0
IsLogLine line = (is_some (mark_spelled line) || is_some (step_of line)) ≡ true

-- the marks that lines tell, where each of them is a line of a log
pub record IsLog (lines : List (List ℕ)) (marks : List Mark) : Type 0 where
  pub reported : marks_in_text lines ≡ marks
  pub known : AllByRecursion IsLogLine lines

none_log : IsLog [] []
none_log = record { reported = refl; known = tt }

shown_both : (ls ms : List (List ℕ)) → marks_in_text (ls ++ ms) ≡ marks_in_text ls ++ marks_in_text ms
shown_both [] ms = refl
shown_both (l ∷ ls) ms = ap (λ (xs : List Mark). option_to_list (mark_spelled l) ++ xs) (shown_both ls ms) ∙ sym (append_assoc (option_to_list (mark_spelled l)) (marks_in_text ls) (marks_in_text ms))

known_both : (ls ms : List (List ℕ)) → AllByRecursion IsLogLine ls → AllByRecursion IsLogLine ms → AllByRecursion IsLogLine (ls ++ ms)
known_both [] ms a b = b
known_both (l ∷ ls) ms a b = (a.0, known_both ls ms a.1 b)

both_log : (ls ms : List (List ℕ)) (xs ys : List Mark) → IsLog ls xs → IsLog ms ys → IsLog (ls ++ ms) (xs ++ ys)
both_log ls ms xs ys a b = record {
  reported = shown_both ls ms ∙ ap (λ (zs : List Mark). zs ++ marks_in_text ms) a.reported ∙ ap (λ (zs : List Mark). xs ++ zs) b.reported;
  known = known_both ls ms a.known b.known;
}

-- a mark more
more_log : (l : List ℕ) (m : Mark) (ls : List (List ℕ)) (xs : List Mark) → mark_spelled l ≡ Some m → IsLog ls xs → IsLog (l ∷ ls) (m ∷ xs)
more_log l m ls xs e a = record {
  reported = ap (λ (o : Option Mark). option_to_list o ++ marks_in_text ls) e ∙ ap (λ (zs : List Mark). m ∷ zs) a.reported;
  known = (ap (λ (o : Option Mark). is_some o || is_some (step_of l)) e, a.known);
}

-- EVENTS

one_log : (l : List ℕ) (m : Mark) → mark_spelled l ≡ Some m → IsLog (l ∷ []) (m ∷ [])
one_log l m e = more_log l m [] [] e none_log

event_log : (e : Event) → IsMarked e → IsLog (event_lines e) (event_marks e)
event_log events.Open t = none_log
event_log (events.Iface line) t = one_log _ _ (spelled_read (Happens (events.Iface line)) t)
event_log (events.Engine line) t = one_log _ _ (spelled_read (Happens (events.Engine line)) t)
event_log e t = one_log _ _ (spelled_read (Happens e) tt)

-- LINES

short_bare : (a b : Bool) → a ≡ true → b ≡ false → (a && not b) ≡ true
short_bare true true e f = cc
short_bare true false e f = refl
short_bare false b e f = cc

pub can_be_marked : (text : List ℕ) → IsOneLogLine text → is_written text ≡ true
can_be_marked text i =
    let s : nat_le (length text) 131070 ≡ true = grind (arith, nat_tests, i.short) in
    short_bare (nat_le (length text) 131070) (has_feed text) s i.no_feed

one_part : (text others : List ℕ) → IsOneLogLine text → parts_by_feed ((text ++ 10 ∷ []) ++ others) ≡ text ∷ parts_by_feed others
one_part text others i = ap parts_by_feed (append_assoc text (10 ∷ []) others) ∙ parts_line text others i.no_feed

pub reply_parts : (rs : List Reply) → AllByRecursion (λ (r : Reply). IsOneLogLine (reply_text r)) rs → parts_by_feed (reply_lines rs) ≡ map reply_text rs
reply_parts [] a = refl
reply_parts (r ∷ rs) a = one_part (reply_text r) (reply_lines rs) a.0 ∙ ap (λ ps. reply_text r ∷ ps) (reply_parts rs a.1)

pub order_parts : (os : List Order) → AllByRecursion (λ (o : Order). IsOneLogLine (uci_order_text o)) os → parts_by_feed (order_lines os) ≡ map uci_order_text os
order_parts [] a = refl
order_parts (o ∷ os) a = one_part (uci_order_text o) (order_lines os) a.0 ∙ ap (λ ps. uci_order_text o ∷ ps) (order_parts os a.1)

replies_log : (rs : List Reply) → AllByRecursion (λ (r : Reply). IsOneLogLine (reply_text r)) rs → IsLog (map (behind 88) (map reply_text rs)) (map iface_mark rs)
replies_log [] a = none_log
replies_log (r ∷ rs) a =
    more_log (behind 88 (reply_text r)) (iface_mark r) (map (behind 88) (map reply_text rs)) (map iface_mark rs) (spelled_read (ToIface (reply_text r)) (can_be_marked (reply_text r) a.0)) (replies_log rs a.1)

orders_log : (os : List Order) → AllByRecursion (λ (o : Order). IsOneLogLine (uci_order_text o)) os → IsLog (map (behind 85) (map uci_order_text os)) (map engine_mark os)
orders_log [] a = none_log
orders_log (o ∷ os) a =
    more_log (behind 85 (uci_order_text o)) (engine_mark o) (map (behind 85) (map uci_order_text os)) (map engine_mark os) (spelled_read (ToEngine (uci_order_text o)) (can_be_marked (uci_order_text o) a.0)) (orders_log os a.1)

written_log : (step : Step) → WritesLines step → IsLog (written_lines (iface_text step) (engine_text step)) (map iface_mark step.replies ++ map engine_mark step.orders)
written_log step w =
    both_log (map (behind 88) (parts_by_feed (iface_text step))) (map (behind 85) (parts_by_feed (engine_text step))) (map iface_mark step.replies) (map engine_mark step.orders)
    (subst (λ (ps : List (List ℕ)). IsLog (map (behind 88) ps) (map iface_mark step.replies)) (sym (reply_parts step.replies w.replies)) (replies_log step.replies w.replies))
    (subst (λ (ps : List (List ℕ)). IsLog (map (behind 85) ps) (map engine_mark step.orders)) (sym (order_parts step.orders w.orders)) (orders_log step.orders w.orders))

step_log : (step : Step) → IsMarked step.event → WritesLines step → IsLog (step_lines step) (marks_of_log_step step)
step_log step t w =
    both_log (event_lines step.event) (written_lines (iface_text step) (engine_text step)) (event_marks step.event) (map iface_mark step.replies ++ map engine_mark step.orders)
    (event_log step.event t) (written_log step w)

-- the line with a step's number has no mark
number_log : (k : ℕ) (ls : List (List ℕ)) (xs : List Mark) → IsLog ls xs → IsLog (number_line k ∷ ls) xs
number_log k ls xs a = record { reported = a.reported; known = (ap (λ (o : Option ℕ). is_some o) (step_again (step_number k) (number_below k)), a.known) }

-- SCRIPTS

lines_log : (t : List Step) → AreMarked t → AllByRecursion WritesLines t → IsLog (lines_of t) (trace_marks t)
lines_log [] a w = none_log
lines_log (step ∷ t) a w = both_log (lines_of t) (step_lines step) (trace_marks t) (marks_of_log_step step) (lines_log t a.1 w.1) (step_log step a.0 w.0)

numbered_log : (t : List Step) → AreMarked t → AllByRecursion WritesLines t → IsLog (numbered_lines t) (trace_marks t)
numbered_log [] a w = none_log
numbered_log (step ∷ t) a w =
    both_log (numbered_lines t) (number_line (length t) ∷ step_lines step) (trace_marks t) (marks_of_log_step step) (numbered_log t a.1 w.1)
    (number_log (length t) (step_lines step) (marks_of_log_step step) (step_log step a.0 w.0))

-- the lines of the script of a lawful trace, in version 2 those after the header
pub script1_log : (o : Settings) (t : List Step) → LawfulTrace o t → IsLog (lines_of t) (trace_marks t)
script1_log o t l = lines_log t (all_marked o t l) (write_lines o t l)

pub script2_log : (o : Settings) (t : List Step) → LawfulTrace o t → IsLog (numbered_lines t) (trace_marks t)
script2_log o t l = numbered_log t (all_marked o t l) (write_lines o t l)

header_passed : (o : Settings) (ls : List (List ℕ)) → marks_in_text (header_text o ∷ ls) ≡ marks_in_text ls
header_passed o ls = ap (λ l. option_to_list (mark_spelled l) ++ marks_in_text ls) (header_words o)

pub scripts1_are_clean : (o : Settings) → Scripts1AreClean o
scripts1_are_clean o listener t log l e = logs_are_clean o listener t log l (e ∙ ap marks_in_text (script1_lines t (all_marked o t l)) ∙ (script1_log o t l).reported)

pub scripts2_are_clean : (o : Settings) → Scripts2AreClean o
scripts2_are_clean o listener t log p l e =
    logs_are_clean o listener t log l (e ∙ ap marks_in_text (script2_lines o t p (all_marked o t l)) ∙ header_passed o (numbered_lines t) ∙ (script2_log o t l).reported)
