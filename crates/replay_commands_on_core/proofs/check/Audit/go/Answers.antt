use Rattle.std.proofs.Common.{ℕ, ap, refl, subst}
use Rattle.line_io.specs.Lines.{Held}
use Rattle.line_io.specs.Taken.{Taken, reading_place}
use Rattle.line_io.specs.declared.consumer.LinesEnd.{LinesEnd}
use Rattle.line_io.specs.declared.consumer.LinesEnd.TheVariants as ends
use Rattle.replay_command_base.specs.declared.ending.Ending.{Ending}
use Rattle.replay_commands_on_core.specs.Walked.{checks}
use Rattle.replay_commands_on_core.proofs.Audits.{audit_ended, audit_endless, audit_failed, audit_left, ends_other, few_lines, may_end}
use Rattle.replay_commands_on_core.proofs.Checkers.{first_walk}
use Rattle.replay_commands_on_core.proofs.StageLines.{unread_takes}
use Rattle.replay_commands_on_core.proofs.check.Audit.go.Goals as goal

pub take_lines-requires-clause-may : goal.take_lines-requires-clause-may
take_lines-requires-clause-may g c = unread_takes c.args.self.now.checker.core c.args.self.now.checker.stage c.requires.checker.core c.requires.checker.stage

pub take_lines-requires-clause-begins : goal.take_lines-requires-clause-begins
take_lines-requires-clause-begins g c = λ o unread. first_walk o c.args.self.now.checker unread

pub returns-in-Stopped-clause-finds : goal.returns-in-Stopped-clause-finds
returns-in-Stopped-clause-finds g c = λ o start now unread.
    let old = reading_place c.args.self.now.checker tt (g.I.Source.state c.args.input.now) in
    let new = reading_place c.take_lines.new.consumer c.take_lines.new.output (g.I.Source.state c.take_lines.new.input) in
    let taken : Taken checks 131072 c.take_lines.result old new = subst (λ (k : ℕ). Taken checks k c.take_lines.result old new) (ap (λ (h : Held). h.limit) c.requires.lines) c.take_lines.ensures in
    let t : Taken checks 131072 (ends.Stopped c.in-Stopped.ending) old new = subst (λ (e : LinesEnd Ending). Taken checks 131072 e old new) c.in-Stopped.is taken in
    audit_left old new o unread start now c.in-Stopped.ending t

pub returns-in-Stopped-clause-same : goal.returns-in-Stopped-clause-same
returns-in-Stopped-clause-same g c = λ other.
    let old = reading_place c.args.self.now.checker tt (g.I.Source.state c.args.input.now) in
    let new = reading_place c.take_lines.new.consumer c.take_lines.new.output (g.I.Source.state c.take_lines.new.input) in
    let taken : Taken checks 131072 c.take_lines.result old new = subst (λ (k : ℕ). Taken checks k c.take_lines.result old new) (ap (λ (h : Held). h.limit) c.requires.lines) c.take_lines.ensures in
    let t : Taken checks 131072 (ends.Stopped c.in-Stopped.ending) old new = subst (λ (e : LinesEnd Ending). Taken checks 131072 e old new) c.in-Stopped.is taken in
    t.ends.no_fault

pub returns-in-Stopped-clause-cause : goal.returns-in-Stopped-clause-cause
returns-in-Stopped-clause-cause g c = λ e.
    let old = reading_place c.args.self.now.checker tt (g.I.Source.state c.args.input.now) in
    let new = reading_place c.take_lines.new.consumer c.take_lines.new.output (g.I.Source.state c.take_lines.new.input) in
    let taken : Taken checks 131072 c.take_lines.result old new = subst (λ (k : ℕ). Taken checks k c.take_lines.result old new) (ap (λ (h : Held). h.limit) c.requires.lines) c.take_lines.ensures in
    let t : Taken checks 131072 (ends.Stopped c.in-Stopped.ending) old new = subst (λ (e : LinesEnd Ending). Taken checks 131072 e old new) c.in-Stopped.is taken in
    absurd ((t.ends.stopped c.args.self.now.checker.core.settings c.requires.checker).of_line e)

pub end_of-requires-clause-may : goal.end_of-requires-clause-may
end_of-requires-clause-may g c =
    let old = reading_place c.args.self.now.checker tt (g.I.Source.state c.args.input.now) in
    let new = reading_place c.take_lines.new.consumer c.take_lines.new.output (g.I.Source.state c.take_lines.new.input) in
    let taken : Taken checks 131072 c.take_lines.result old new = subst (λ (k : ℕ). Taken checks k c.take_lines.result old new) (ap (λ (h : Held). h.limit) c.requires.lines) c.take_lines.ensures in
    let t : Taken checks 131072 (ends.Ended) old new = subst (λ (e : LinesEnd Ending). Taken checks 131072 e old new) c.in-Ended.is taken in
    may_end old new c.args.self.now.checker.core.settings c.requires.checker t

pub end_of-requires-clause-number : goal.end_of-requires-clause-number
end_of-requires-clause-number g c =
    let old = reading_place c.args.self.now.checker tt (g.I.Source.state c.args.input.now) in
    let new = reading_place c.take_lines.new.consumer c.take_lines.new.output (g.I.Source.state c.take_lines.new.input) in
    let taken : Taken checks 131072 c.take_lines.result old new = subst (λ (k : ℕ). Taken checks k c.take_lines.result old new) (ap (λ (h : Held). h.limit) c.requires.lines) c.take_lines.ensures in
    let t : Taken checks 131072 (ends.Ended) old new = subst (λ (e : LinesEnd Ending). Taken checks 131072 e old new) c.in-Ended.is taken in
    few_lines old new c.args.self.now.checker.core.settings c.requires.checker t

pub returns-in-Ended-clause-finds : goal.returns-in-Ended-clause-finds
returns-in-Ended-clause-finds g c = λ o start now unread.
    let old = reading_place c.args.self.now.checker tt (g.I.Source.state c.args.input.now) in
    let new = reading_place c.take_lines.new.consumer c.take_lines.new.output (g.I.Source.state c.take_lines.new.input) in
    let taken : Taken checks 131072 c.take_lines.result old new = subst (λ (k : ℕ). Taken checks k c.take_lines.result old new) (ap (λ (h : Held). h.limit) c.requires.lines) c.take_lines.ensures in
    let t : Taken checks 131072 (ends.Ended) old new = subst (λ (e : LinesEnd Ending). Taken checks 131072 e old new) c.in-Ended.is taken in
    audit_ended old new o unread start now c.end_of.result t c.end_of.ensures

pub returns-in-Ended-clause-same : goal.returns-in-Ended-clause-same
returns-in-Ended-clause-same g c = λ other.
    let old = reading_place c.args.self.now.checker tt (g.I.Source.state c.args.input.now) in
    let new = reading_place c.take_lines.new.consumer c.take_lines.new.output (g.I.Source.state c.take_lines.new.input) in
    let taken : Taken checks 131072 c.take_lines.result old new = subst (λ (k : ℕ). Taken checks k c.take_lines.result old new) (ap (λ (h : Held). h.limit) c.requires.lines) c.take_lines.ensures in
    let t : Taken checks 131072 (ends.Ended) old new = subst (λ (e : LinesEnd Ending). Taken checks 131072 e old new) c.in-Ended.is taken in
    t.ends.no_fault

pub returns-in-Ended-clause-cause : goal.returns-in-Ended-clause-cause
returns-in-Ended-clause-cause g c = λ e.
    let old = reading_place c.args.self.now.checker tt (g.I.Source.state c.args.input.now) in
    let new = reading_place c.take_lines.new.consumer c.take_lines.new.output (g.I.Source.state c.take_lines.new.input) in
    let taken : Taken checks 131072 c.take_lines.result old new = subst (λ (k : ℕ). Taken checks k c.take_lines.result old new) (ap (λ (h : Held). h.limit) c.requires.lines) c.take_lines.ensures in
    let t : Taken checks 131072 (ends.Ended) old new = subst (λ (e : LinesEnd Ending). Taken checks 131072 e old new) c.in-Ended.is taken in
    absurd (ends_other new.consumer.core new.consumer.stage new.consumer.due new.consumer.number c.end_of.result c.end_of.ensures e)

pub returns-in-ReadFailed-clause-finds : goal.returns-in-ReadFailed-clause-finds
returns-in-ReadFailed-clause-finds g c = λ o start now unread.
    let old = reading_place c.args.self.now.checker tt (g.I.Source.state c.args.input.now) in
    let new = reading_place c.take_lines.new.consumer c.take_lines.new.output (g.I.Source.state c.take_lines.new.input) in
    let taken : Taken checks 131072 c.take_lines.result old new = subst (λ (k : ℕ). Taken checks k c.take_lines.result old new) (ap (λ (h : Held). h.limit) c.requires.lines) c.take_lines.ensures in
    let t : Taken checks 131072 (ends.ReadFailed) old new = subst (λ (e : LinesEnd Ending). Taken checks 131072 e old new) c.in-ReadFailed.is taken in
    audit_failed old new o unread start now t

pub returns-in-ReadFailed-clause-same : goal.returns-in-ReadFailed-clause-same
returns-in-ReadFailed-clause-same g c = λ other.
    absurd (other refl)

pub returns-in-ReadFailed-clause-cause : goal.returns-in-ReadFailed-clause-cause
returns-in-ReadFailed-clause-cause g c = λ e.
    let old = reading_place c.args.self.now.checker tt (g.I.Source.state c.args.input.now) in
    let new = reading_place c.take_lines.new.consumer c.take_lines.new.output (g.I.Source.state c.take_lines.new.input) in
    let taken : Taken checks 131072 c.take_lines.result old new = subst (λ (k : ℕ). Taken checks k c.take_lines.result old new) (ap (λ (h : Held). h.limit) c.requires.lines) c.take_lines.ensures in
    let t : Taken checks 131072 (ends.ReadFailed) old new = subst (λ (e : LinesEnd Ending). Taken checks 131072 e old new) c.in-ReadFailed.is taken in
    t.ends.fault

pub returns-in-Endless-clause-finds : goal.returns-in-Endless-clause-finds
returns-in-Endless-clause-finds g c = λ o start now unread.
    let old = reading_place c.args.self.now.checker tt (g.I.Source.state c.args.input.now) in
    let new = reading_place c.take_lines.new.consumer c.take_lines.new.output (g.I.Source.state c.take_lines.new.input) in
    let taken : Taken checks 131072 c.take_lines.result old new = subst (λ (k : ℕ). Taken checks k c.take_lines.result old new) (ap (λ (h : Held). h.limit) c.requires.lines) c.take_lines.ensures in
    let t : Taken checks 131072 (ends.Endless) old new = subst (λ (e : LinesEnd Ending). Taken checks 131072 e old new) c.in-Endless.is taken in
    audit_endless old new o unread start now t

pub returns-in-Endless-clause-same : goal.returns-in-Endless-clause-same
returns-in-Endless-clause-same g c = λ other.
    let old = reading_place c.args.self.now.checker tt (g.I.Source.state c.args.input.now) in
    let new = reading_place c.take_lines.new.consumer c.take_lines.new.output (g.I.Source.state c.take_lines.new.input) in
    let taken : Taken checks 131072 c.take_lines.result old new = subst (λ (k : ℕ). Taken checks k c.take_lines.result old new) (ap (λ (h : Held). h.limit) c.requires.lines) c.take_lines.ensures in
    let t : Taken checks 131072 (ends.Endless) old new = subst (λ (e : LinesEnd Ending). Taken checks 131072 e old new) c.in-Endless.is taken in
    t.ends.no_fault
