use Rattle.std.proofs.Common.{ℕ, ap, refl, subst}
use Rattle.line_io.specs.Lines.{Held}
use Rattle.line_io.specs.Taken.{Taken, reading_place}
use Rattle.line_io.specs.declared.consumer.LinesEnd.{LinesEnd}
use Rattle.line_io.specs.declared.consumer.LinesEnd.TheVariants as ends
use Rattle.replay_command_base.specs.declared.ending.Ending.{Ending}
use Rattle.replay_command_base.specs.declared.ending.Ending.TheVariants as endings
use Rattle.replay_command_base.specs.Writing.{filter_meaning}
use Rattle.replay_command_base.proofs.Endings.{causes_by, causes_left, go_ended, go_endless, go_failed, go_left}
use Rattle.replay_command_base.proofs.run.write_lines_of.Goals as goal

pub returns-in-Stopped-clause-scribed : goal.returns-in-Stopped-clause-scribed
returns-in-Stopped-clause-scribed g c = λ diag diag_now.
    let means = g.S.LineFilter.means in
    let see = λ (x : g.row.O.Denot). g.O.Sink.state x in
    let does = filter_meaning (λ w. w.line_filter) (λ w. w.text) means see in
    let old = reading_place c.args.writer.now c.args.output.now (g.I.Source.state c.args.input.now) in
    let new = reading_place c.take_lines.new.consumer c.take_lines.new.output (g.I.Source.state c.take_lines.new.input) in
    let taken : Taken does 131072 c.take_lines.result old new = subst (λ (k : ℕ). Taken does k c.take_lines.result old new) (ap (λ (h : Held). h.limit) c.requires.lines) c.take_lines.ensures in
    let t : Taken does 131072 (ends.Stopped c.in-Stopped.ending) old new = subst (λ (e : LinesEnd Ending). Taken does 131072 e old new) c.in-Stopped.is taken in
    go_left (λ w. w.line_filter) (λ w. w.text) means see old new (see c.stop.new.output) diag diag_now c.in-Stopped.ending c.stop.result t (c.stop.ensures c.args.writer.now.line_filter t.pieces (see old.output) t.ends.stopped)

pub returns-in-Stopped-clause-causes : goal.returns-in-Stopped-clause-causes
returns-in-Stopped-clause-causes g c =
    let means = g.S.LineFilter.means in
    let see = λ (x : g.row.O.Denot). g.O.Sink.state x in
    let does = filter_meaning (λ w. w.line_filter) (λ w. w.text) means see in
    let old = reading_place c.args.writer.now c.args.output.now (g.I.Source.state c.args.input.now) in
    let new = reading_place c.take_lines.new.consumer c.take_lines.new.output (g.I.Source.state c.take_lines.new.input) in
    let taken : Taken does 131072 c.take_lines.result old new = subst (λ (k : ℕ). Taken does k c.take_lines.result old new) (ap (λ (h : Held). h.limit) c.requires.lines) c.take_lines.ensures in
    let t : Taken does 131072 (ends.Stopped c.in-Stopped.ending) old new = subst (λ (e : LinesEnd Ending). Taken does 131072 e old new) c.in-Stopped.is taken in
    causes_left means c.args.writer.now.line_filter t.pieces c.in-Stopped.ending c.stop.result old.input new.input (see old.output) (see c.stop.new.output) (c.stop.ensures c.args.writer.now.line_filter t.pieces (see old.output) t.ends.stopped) t.ends.no_fault

pub returns-in-Ended-clause-scribed : goal.returns-in-Ended-clause-scribed
returns-in-Ended-clause-scribed g c = λ diag diag_now.
    let means = g.S.LineFilter.means in
    let see = λ (x : g.row.O.Denot). g.O.Sink.state x in
    let does = filter_meaning (λ w. w.line_filter) (λ w. w.text) means see in
    let old = reading_place c.args.writer.now c.args.output.now (g.I.Source.state c.args.input.now) in
    let new = reading_place c.take_lines.new.consumer c.take_lines.new.output (g.I.Source.state c.take_lines.new.input) in
    let taken : Taken does 131072 c.take_lines.result old new = subst (λ (k : ℕ). Taken does k c.take_lines.result old new) (ap (λ (h : Held). h.limit) c.requires.lines) c.take_lines.ensures in
    let t : Taken does 131072 ends.Ended old new = subst (λ (e : LinesEnd Ending). Taken does 131072 e old new) c.in-Ended.is taken in
    go_ended (λ w. w.line_filter) (λ w. w.text) means see old new (see c.end.new.output) diag diag_now c.end.result t (c.end.ensures c.args.writer.now.line_filter t.pieces (see old.output) t.ends.took)

pub returns-in-Ended-clause-causes : goal.returns-in-Ended-clause-causes
returns-in-Ended-clause-causes g c =
    let means = g.S.LineFilter.means in
    let see = λ (x : g.row.O.Denot). g.O.Sink.state x in
    let does = filter_meaning (λ w. w.line_filter) (λ w. w.text) means see in
    let old = reading_place c.args.writer.now c.args.output.now (g.I.Source.state c.args.input.now) in
    let new = reading_place c.take_lines.new.consumer c.take_lines.new.output (g.I.Source.state c.take_lines.new.input) in
    let taken : Taken does 131072 c.take_lines.result old new = subst (λ (k : ℕ). Taken does k c.take_lines.result old new) (ap (λ (h : Held). h.limit) c.requires.lines) c.take_lines.ensures in
    let t : Taken does 131072 ends.Ended old new = subst (λ (e : LinesEnd Ending). Taken does 131072 e old new) c.in-Ended.is taken in
    causes_by means c.args.writer.now.line_filter t.pieces new.consumer.text.text endings.Done c.end.result old.input new.input (see old.output) (see c.end.new.output) (c.end.ensures c.args.writer.now.line_filter t.pieces (see old.output) t.ends.took) (λ e. cc) (λ n. t.ends.no_fault) (λ e. cc)

pub end-requires-clause-may : goal.end-requires-clause-may
end-requires-clause-may g c =
    let means = g.S.LineFilter.means in
    let see = λ (x : g.row.O.Denot). g.O.Sink.state x in
    let does = filter_meaning (λ w. w.line_filter) (λ w. w.text) means see in
    let old = reading_place c.args.writer.now c.args.output.now (g.I.Source.state c.args.input.now) in
    let new = reading_place c.take_lines.new.consumer c.take_lines.new.output (g.I.Source.state c.take_lines.new.input) in
    let taken : Taken does 131072 c.take_lines.result old new = subst (λ (k : ℕ). Taken does k c.take_lines.result old new) (ap (λ (h : Held). h.limit) c.requires.lines) c.take_lines.ensures in
    let t : Taken does 131072 ends.Ended old new = subst (λ (e : LinesEnd Ending). Taken does 131072 e old new) c.in-Ended.is taken in
    t.ends.took.may

pub returns-in-ReadFailed-clause-scribed : goal.returns-in-ReadFailed-clause-scribed
returns-in-ReadFailed-clause-scribed g c = λ diag diag_now.
    let means = g.S.LineFilter.means in
    let see = λ (x : g.row.O.Denot). g.O.Sink.state x in
    let does = filter_meaning (λ w. w.line_filter) (λ w. w.text) means see in
    let old = reading_place c.args.writer.now c.args.output.now (g.I.Source.state c.args.input.now) in
    let new = reading_place c.take_lines.new.consumer c.take_lines.new.output (g.I.Source.state c.take_lines.new.input) in
    let taken : Taken does 131072 c.take_lines.result old new = subst (λ (k : ℕ). Taken does k c.take_lines.result old new) (ap (λ (h : Held). h.limit) c.requires.lines) c.take_lines.ensures in
    let t : Taken does 131072 ends.ReadFailed old new = subst (λ (e : LinesEnd Ending). Taken does 131072 e old new) c.in-ReadFailed.is taken in
    go_failed (λ w. w.line_filter) (λ w. w.text) means see old new (see c.end-in-ReadFailed.new.output) diag diag_now c.end-in-ReadFailed.result t (c.end-in-ReadFailed.ensures c.args.writer.now.line_filter t.pieces (see old.output) t.ends.took)

pub returns-in-ReadFailed-clause-causes : goal.returns-in-ReadFailed-clause-causes
returns-in-ReadFailed-clause-causes g c =
    let means = g.S.LineFilter.means in
    let see = λ (x : g.row.O.Denot). g.O.Sink.state x in
    let does = filter_meaning (λ w. w.line_filter) (λ w. w.text) means see in
    let old = reading_place c.args.writer.now c.args.output.now (g.I.Source.state c.args.input.now) in
    let new = reading_place c.take_lines.new.consumer c.take_lines.new.output (g.I.Source.state c.take_lines.new.input) in
    let taken : Taken does 131072 c.take_lines.result old new = subst (λ (k : ℕ). Taken does k c.take_lines.result old new) (ap (λ (h : Held). h.limit) c.requires.lines) c.take_lines.ensures in
    let t : Taken does 131072 ends.ReadFailed old new = subst (λ (e : LinesEnd Ending). Taken does 131072 e old new) c.in-ReadFailed.is taken in
    causes_by means c.args.writer.now.line_filter t.pieces new.consumer.text.text endings.ReadingFailed c.end-in-ReadFailed.result old.input new.input (see old.output) (see c.end-in-ReadFailed.new.output) (c.end-in-ReadFailed.ensures c.args.writer.now.line_filter t.pieces (see old.output) t.ends.took) (λ _. t.ends.fault) (λ n. absurd (n refl)) (λ e. cc)

pub end-requires-in-ReadFailed-clause-may : goal.end-requires-in-ReadFailed-clause-may
end-requires-in-ReadFailed-clause-may g c =
    let means = g.S.LineFilter.means in
    let see = λ (x : g.row.O.Denot). g.O.Sink.state x in
    let does = filter_meaning (λ w. w.line_filter) (λ w. w.text) means see in
    let old = reading_place c.args.writer.now c.args.output.now (g.I.Source.state c.args.input.now) in
    let new = reading_place c.take_lines.new.consumer c.take_lines.new.output (g.I.Source.state c.take_lines.new.input) in
    let taken : Taken does 131072 c.take_lines.result old new = subst (λ (k : ℕ). Taken does k c.take_lines.result old new) (ap (λ (h : Held). h.limit) c.requires.lines) c.take_lines.ensures in
    let t : Taken does 131072 ends.ReadFailed old new = subst (λ (e : LinesEnd Ending). Taken does 131072 e old new) c.in-ReadFailed.is taken in
    t.ends.took.may

pub returns-in-Endless-clause-scribed : goal.returns-in-Endless-clause-scribed
returns-in-Endless-clause-scribed g c = λ diag diag_now.
    let means = g.S.LineFilter.means in
    let see = λ (x : g.row.O.Denot). g.O.Sink.state x in
    let does = filter_meaning (λ w. w.line_filter) (λ w. w.text) means see in
    let old = reading_place c.args.writer.now c.args.output.now (g.I.Source.state c.args.input.now) in
    let new = reading_place c.take_lines.new.consumer c.take_lines.new.output (g.I.Source.state c.take_lines.new.input) in
    let taken : Taken does 131072 c.take_lines.result old new = subst (λ (k : ℕ). Taken does k c.take_lines.result old new) (ap (λ (h : Held). h.limit) c.requires.lines) c.take_lines.ensures in
    let t : Taken does 131072 ends.Endless old new = subst (λ (e : LinesEnd Ending). Taken does 131072 e old new) c.in-Endless.is taken in
    go_endless (λ w. w.line_filter) (λ w. w.text) means see old new (see c.end-in-Endless.new.output) diag diag_now c.end-in-Endless.result t (c.end-in-Endless.ensures c.args.writer.now.line_filter t.pieces (see old.output) t.ends.took)

pub returns-in-Endless-clause-causes : goal.returns-in-Endless-clause-causes
returns-in-Endless-clause-causes g c =
    let means = g.S.LineFilter.means in
    let see = λ (x : g.row.O.Denot). g.O.Sink.state x in
    let does = filter_meaning (λ w. w.line_filter) (λ w. w.text) means see in
    let old = reading_place c.args.writer.now c.args.output.now (g.I.Source.state c.args.input.now) in
    let new = reading_place c.take_lines.new.consumer c.take_lines.new.output (g.I.Source.state c.take_lines.new.input) in
    let taken : Taken does 131072 c.take_lines.result old new = subst (λ (k : ℕ). Taken does k c.take_lines.result old new) (ap (λ (h : Held). h.limit) c.requires.lines) c.take_lines.ensures in
    let t : Taken does 131072 ends.Endless old new = subst (λ (e : LinesEnd Ending). Taken does 131072 e old new) c.in-Endless.is taken in
    causes_by means c.args.writer.now.line_filter t.pieces new.consumer.text.text endings.TooLong c.end-in-Endless.result old.input new.input (see old.output) (see c.end-in-Endless.new.output) (c.end-in-Endless.ensures c.args.writer.now.line_filter t.pieces (see old.output) t.ends.took) (λ e. cc) (λ n. t.ends.no_fault) (λ e. cc)

pub end-requires-in-Endless-clause-may : goal.end-requires-in-Endless-clause-may
end-requires-in-Endless-clause-may g c =
    let means = g.S.LineFilter.means in
    let see = λ (x : g.row.O.Denot). g.O.Sink.state x in
    let does = filter_meaning (λ w. w.line_filter) (λ w. w.text) means see in
    let old = reading_place c.args.writer.now c.args.output.now (g.I.Source.state c.args.input.now) in
    let new = reading_place c.take_lines.new.consumer c.take_lines.new.output (g.I.Source.state c.take_lines.new.input) in
    let taken : Taken does 131072 c.take_lines.result old new = subst (λ (k : ℕ). Taken does k c.take_lines.result old new) (ap (λ (h : Held). h.limit) c.requires.lines) c.take_lines.ensures in
    let t : Taken does 131072 ends.Endless old new = subst (λ (e : LinesEnd Ending). Taken does 131072 e old new) c.in-Endless.is taken in
    t.ends.took.may
