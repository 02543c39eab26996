-- The end of a check.
use Rattle.std.proofs.Common.{◌≡◌, ℕ, ◌+◌, ◌<◌, ◌==◌, List, length, Bool, true, false, cond, sym, ◌∙◌, arith}
use Rattle.line_io.specs.Taken.{Place, Taken}
use Rattle.line_io.specs.declared.consumer.LinesEnd.TheVariants as ends
use Rattle.policy_rules.specs.declared.setting_rules.settings.Settings.{Settings}
use Rattle.replay_command_base.specs.declared.ending.Ending.{Ending}
use Rattle.replay_command_base.specs.declared.ending.Ending.TheVariants as endings
use Rattle.replay_command_base.specs.Streams.{FilterStreams, with_input}
use Rattle.script_replay.specs.declared.stage.ScriptStage.{ScriptStage}
use Rattle.script_replay.specs.declared.stage.ScriptStage.TheVariants as stages
use Rattle.adapter_core.specs.Parts.{CoreParts}
use Rattle.replay_command_base.proofs.Readings.{ended_all, stopped_read}
use Rattle.replay_commands_on_core.specs.declared.check.Checker.{Checker}
use Rattle.replay_commands_on_core.specs.Check.{Finds}
use Rattle.replay_commands_on_core.specs.Walked.{CheckEndsAt, IsUnread, CheckMayTake, at_end as ending_at, checks}
use Rattle.replay_commands_on_core.proofs.Checkers.{at_end, at_many, at_whole}

module _ {O : Type 0} (old new : Place Checker O) (o : Settings) (unread : IsUnread o old.consumer) where
  -- where all lines were taken, an end may be shown
  pub may_end : (t : Taken checks 131072 ends.Ended old new) → CheckMayTake new.consumer.core new.consumer.stage
  may_end t = (t.ends.took o unread).may

  pub few_lines : (t : Taken checks 131072 ends.Ended old new) → new.consumer.number < 18446744073709551615
  few_lines t = let f = t.few in let n = (t.ends.took o unread).number in omega arith

  module _ (start0 now0 : FilterStreams) where
    abbrev start : FilterStreams
    start = with_input start0 old.input

    abbrev now : FilterStreams
    now = with_input now0 new.input

    pub audit_left : (ending : Ending) (t : Taken checks 131072 (ends.Stopped ending) old new) → Finds o ending start now
    audit_left ending t = (t.ends.stopped o unread).finds start now (stopped_read checks old new start0.output now0.output start0.diag now0.diag ending t)

    pub audit_ended : (answer : Ending) (t : Taken checks 131072 ends.Ended old new) → CheckEndsAt new.consumer.core new.consumer.stage new.consumer.due new.consumer.number answer → Finds o answer start now
    audit_ended answer t e =
        at_end o new.consumer t.pieces (t.ends.took o unread) start now t.given (record { given = t.gave.given; left = t.gave.left })
        (ended_all checks old new start0.output now0.output start0.diag now0.diag t) t.ends.all answer e

    pub audit_failed : (t : Taken checks 131072 ends.ReadFailed old new) → Finds o endings.ReadingFailed start now
    audit_failed t = at_whole o new.consumer t.pieces (t.ends.took o unread) start now t.given (record { given = t.gave.given; left = t.gave.left }) t.ends.all

    pub audit_endless : (t : Taken checks 131072 ends.Endless old new) → Finds o endings.TooLong start now
    audit_endless t = at_many o new.consumer t.pieces (t.ends.took o unread) start now t.given (record { given = t.gave.given; left = t.gave.left }) t.ends.all t.ends.many

-- the end of the input is no failure of reading
end_other : (due : List ℕ) (n : ℕ) (answer : Ending) → answer ≡ ending_at due n → answer ≡ endings.ReadingFailed → ⊥
end_other due n answer e h = by (length due == 0) (sym e ∙ h) where
  by : (b : Bool) → cond b endings.Done (endings.Differs (n + 1)) ≡ endings.ReadingFailed → ⊥
  by true h = cc
  by false h = cc

pub ends_other : (core : CoreParts) (stage : ScriptStage) (due : List ℕ) (n : ℕ) (answer : Ending) → CheckEndsAt core stage due n answer → answer ≡ endings.ReadingFailed → ⊥
ends_other core stages.Start due n answer e h = end_other e.lines n answer e.ending h
ends_other core stages.Plain due n answer e h = end_other due n answer e h
ends_other core (stages.AfterEvent k) due n answer e h = end_other due n answer e h
ends_other core stages.Headed due n answer e h = let z = sym e ∙ h in cc
ends_other core (stages.Numbered k) due n answer e h = let z = sym e ∙ h in cc
