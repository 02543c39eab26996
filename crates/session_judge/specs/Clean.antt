-- Whole logs: lists of marks with the numbers of their lines, the newest first.
use Rattle.std.specs.Prelude.{◌≡◌, ◌↔◌, ℕ, List, [], ◌∷◌, Option, Some, None, Result, Ok, Err}
use Rattle.script_lines.specs.Marks.{Mark}
use Rattle.session_judge.specs.declared.listener.Listener.{Listener}
use Rattle.session_judge.specs.declared.listener.Listener.TheVariants as listeners
use Rattle.session_judge.specs.declared.rule.Rule.{Rule}
use Rattle.session_judge.specs.declared.talk.JudgedTalk.{JudgedTalk}
use Rattle.session_judge.specs.DialogueEvents.{dialogue_event_of}
use Rattle.session_judge.specs.Rules.{broken}
use Rattle.session_judge.specs.Talks.{opening_judgement, judgement_after}

-- a mark, and the number of its line
pub record Entry : Type 0 where
  pub line : ℕ
  pub mark : Mark

-- what the marks of a log show, if this one wrote it
abbrev pub talk : Listener → List Entry → JudgedTalk
talk listener [] = opening_judgement listener
talk listener (entry ∷ log) = judgement_after (talk listener log) entry.line (dialogue_event_of entry.mark)

-- the first rule that a mark breaks after a log
abbrev pub broken_rule : Listener → List Entry → Mark → Option Rule
broken_rule listener log mark = broken (talk listener log) (dialogue_event_of mark)

-- no mark of the log breaks a rule
abbrev pub IsClean : Listener → List Entry → Type 0
IsClean listener [] = Unit {0}
IsClean listener (entry ∷ log) = IsClean listener log × (broken_rule listener log entry.mark ≡ None)

-- how many orders of a log of a tap crossed a line of the engine
abbrev pub crossings : List Entry → ℕ
crossings log = (talk listeners.Tap log).crossings

-- A log is clean as the bridge's own exactly if it is clean as a tap's, and no order crosses in it.
abbrev pub CrossingsAreTheDifference : Type 0
CrossingsAreTheDifference =
    (log : List Entry)
    → IsClean listeners.Bridge log ↔ (IsClean listeners.Tap log × (crossings log ≡ 0))

-- what a judge answers
abbrev pub judge_verdict : Option Rule → Result (Unit {0}) Rule
judge_verdict None = Ok tt
judge_verdict (Some rule) = Err rule
