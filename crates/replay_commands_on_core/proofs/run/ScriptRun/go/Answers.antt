use Rattle.std.proofs.Common.{ℕ, ap, refl, subst}
use Rattle.replay_command_base.specs.declared.ending.Ending.TheVariants as endings
use Rattle.line_io.specs.Lines.{Held}
use Rattle.line_io.specs.Taken.{Taken, reading_place}
use Rattle.line_io.specs.declared.consumer.LinesEnd.{LinesEnd}
use Rattle.line_io.specs.declared.consumer.LinesEnd.TheVariants as ends
use Rattle.replay_command_base.specs.declared.ending.Ending.{Ending}
use Rattle.script_replay.specs.Replaying.{replays}
use Rattle.replay_commands_on_core.proofs.Finishes.{causes_by, causes_left, go_ended, go_endless, go_failed, go_left}
use Rattle.replay_commands_on_core.proofs.run.ScriptRun.go.Goals as goal

pub returns-in-Stopped-clause-stopped : goal.returns-in-Stopped-clause-stopped
returns-in-Stopped-clause-stopped g c = λ o diag diag_now fresh.
    let see = λ (x : g.row.O.Denot). g.O.Sink.state x in
    let old = reading_place c.args.self.now.player c.args.output.now (g.I.Source.state c.args.input.now) in
    let new = reading_place c.take_lines.new.consumer c.take_lines.new.output (g.I.Source.state c.take_lines.new.input) in
    let taken : Taken (replays see) 131072 c.take_lines.result old new = subst (λ (k : ℕ). Taken (replays see) k c.take_lines.result old new) (ap (λ (h : Held). h.limit) c.requires.lines) c.take_lines.ensures in
    let t : Taken (replays see) 131072 (ends.Stopped c.in-Stopped.ending) old new = subst (λ (e : LinesEnd Ending). Taken (replays see) 131072 e old new) c.in-Stopped.is taken in
    go_left see old new o fresh (see c.stop.new.output) diag diag_now c.in-Stopped.ending c.stop.result t (c.stop.ensures.left o t.pieces (see old.output) (t.ends.stopped o fresh))

pub returns-in-Stopped-clause-causes : goal.returns-in-Stopped-clause-causes
returns-in-Stopped-clause-causes g c =
    let o = c.args.self.now.player.core.settings in
    let fresh = c.requires.player in
    let see = λ (x : g.row.O.Denot). g.O.Sink.state x in
    let old = reading_place c.args.self.now.player c.args.output.now (g.I.Source.state c.args.input.now) in
    let new = reading_place c.take_lines.new.consumer c.take_lines.new.output (g.I.Source.state c.take_lines.new.input) in
    let taken : Taken (replays see) 131072 c.take_lines.result old new = subst (λ (k : ℕ). Taken (replays see) k c.take_lines.result old new) (ap (λ (h : Held). h.limit) c.requires.lines) c.take_lines.ensures in
    let t : Taken (replays see) 131072 (ends.Stopped c.in-Stopped.ending) old new = subst (λ (e : LinesEnd Ending). Taken (replays see) 131072 e old new) c.in-Stopped.is taken in
    causes_left o t.pieces c.in-Stopped.ending c.stop.result old.input new.input (see old.output) (see c.stop.new.output) (c.stop.ensures.left o t.pieces (see old.output) (t.ends.stopped o fresh)) t.ends.no_fault

pub returns-in-Ended-clause-stopped : goal.returns-in-Ended-clause-stopped
returns-in-Ended-clause-stopped g c = λ o diag diag_now fresh.
    let see = λ (x : g.row.O.Denot). g.O.Sink.state x in
    let old = reading_place c.args.self.now.player c.args.output.now (g.I.Source.state c.args.input.now) in
    let new = reading_place c.take_lines.new.consumer c.take_lines.new.output (g.I.Source.state c.take_lines.new.input) in
    let taken : Taken (replays see) 131072 c.take_lines.result old new = subst (λ (k : ℕ). Taken (replays see) k c.take_lines.result old new) (ap (λ (h : Held). h.limit) c.requires.lines) c.take_lines.ensures in
    let t : Taken (replays see) 131072 ends.Ended old new = subst (λ (e : LinesEnd Ending). Taken (replays see) 131072 e old new) c.in-Ended.is taken in
    go_ended see old new o fresh (see c.end.new.output) diag diag_now c.end.result t (c.end.ensures.finished o t.pieces (see old.output) (t.ends.took o fresh))

pub returns-in-Ended-clause-causes : goal.returns-in-Ended-clause-causes
returns-in-Ended-clause-causes g c =
    let o = c.args.self.now.player.core.settings in
    let fresh = c.requires.player in
    let see = λ (x : g.row.O.Denot). g.O.Sink.state x in
    let old = reading_place c.args.self.now.player c.args.output.now (g.I.Source.state c.args.input.now) in
    let new = reading_place c.take_lines.new.consumer c.take_lines.new.output (g.I.Source.state c.take_lines.new.input) in
    let taken : Taken (replays see) 131072 c.take_lines.result old new = subst (λ (k : ℕ). Taken (replays see) k c.take_lines.result old new) (ap (λ (h : Held). h.limit) c.requires.lines) c.take_lines.ensures in
    let t : Taken (replays see) 131072 ends.Ended old new = subst (λ (e : LinesEnd Ending). Taken (replays see) 131072 e old new) c.in-Ended.is taken in
    causes_by o t.pieces endings.Done c.end.result old.input new.input (see old.output) (see c.end.new.output)
    (c.end.ensures.finished o t.pieces (see old.output) (t.ends.took o fresh)) (λ e. cc) (λ n. t.ends.no_fault) (λ e. cc)

pub returns-in-ReadFailed-clause-stopped : goal.returns-in-ReadFailed-clause-stopped
returns-in-ReadFailed-clause-stopped g c = λ o diag diag_now fresh.
    let see = λ (x : g.row.O.Denot). g.O.Sink.state x in
    let old = reading_place c.args.self.now.player c.args.output.now (g.I.Source.state c.args.input.now) in
    let new = reading_place c.take_lines.new.consumer c.take_lines.new.output (g.I.Source.state c.take_lines.new.input) in
    let taken : Taken (replays see) 131072 c.take_lines.result old new = subst (λ (k : ℕ). Taken (replays see) k c.take_lines.result old new) (ap (λ (h : Held). h.limit) c.requires.lines) c.take_lines.ensures in
    let t : Taken (replays see) 131072 ends.ReadFailed old new = subst (λ (e : LinesEnd Ending). Taken (replays see) 131072 e old new) c.in-ReadFailed.is taken in
    go_failed see old new o fresh (see c.end-in-ReadFailed.new.output) diag diag_now c.end-in-ReadFailed.result t (c.end-in-ReadFailed.ensures.finished o t.pieces (see old.output) (t.ends.took o fresh))

pub returns-in-Endless-clause-stopped : goal.returns-in-Endless-clause-stopped
returns-in-Endless-clause-stopped g c = λ o diag diag_now fresh.
    let see = λ (x : g.row.O.Denot). g.O.Sink.state x in
    let old = reading_place c.args.self.now.player c.args.output.now (g.I.Source.state c.args.input.now) in
    let new = reading_place c.take_lines.new.consumer c.take_lines.new.output (g.I.Source.state c.take_lines.new.input) in
    let taken : Taken (replays see) 131072 c.take_lines.result old new = subst (λ (k : ℕ). Taken (replays see) k c.take_lines.result old new) (ap (λ (h : Held). h.limit) c.requires.lines) c.take_lines.ensures in
    let t : Taken (replays see) 131072 ends.Endless old new = subst (λ (e : LinesEnd Ending). Taken (replays see) 131072 e old new) c.in-Endless.is taken in
    go_endless see old new o fresh (see c.end-in-Endless.new.output) diag diag_now c.end-in-Endless.result t (c.end-in-Endless.ensures.finished o t.pieces (see old.output) (t.ends.took o fresh))

pub returns-in-ReadFailed-clause-causes : goal.returns-in-ReadFailed-clause-causes
returns-in-ReadFailed-clause-causes g c =
    let o = c.args.self.now.player.core.settings in
    let fresh = c.requires.player in
    let see = λ (x : g.row.O.Denot). g.O.Sink.state x in
    let old = reading_place c.args.self.now.player c.args.output.now (g.I.Source.state c.args.input.now) in
    let new = reading_place c.take_lines.new.consumer c.take_lines.new.output (g.I.Source.state c.take_lines.new.input) in
    let taken : Taken (replays see) 131072 c.take_lines.result old new = subst (λ (k : ℕ). Taken (replays see) k c.take_lines.result old new) (ap (λ (h : Held). h.limit) c.requires.lines) c.take_lines.ensures in
    let t : Taken (replays see) 131072 ends.ReadFailed old new = subst (λ (e : LinesEnd Ending). Taken (replays see) 131072 e old new) c.in-ReadFailed.is taken in
    causes_by o t.pieces endings.ReadingFailed c.end-in-ReadFailed.result old.input new.input (see old.output) (see c.end-in-ReadFailed.new.output)
    (c.end-in-ReadFailed.ensures.finished o t.pieces (see old.output) (t.ends.took o fresh)) (λ _. t.ends.fault) (λ n. absurd (n refl)) (λ e. cc)

pub returns-in-Endless-clause-causes : goal.returns-in-Endless-clause-causes
returns-in-Endless-clause-causes g c =
    let o = c.args.self.now.player.core.settings in
    let fresh = c.requires.player in
    let see = λ (x : g.row.O.Denot). g.O.Sink.state x in
    let old = reading_place c.args.self.now.player c.args.output.now (g.I.Source.state c.args.input.now) in
    let new = reading_place c.take_lines.new.consumer c.take_lines.new.output (g.I.Source.state c.take_lines.new.input) in
    let taken : Taken (replays see) 131072 c.take_lines.result old new = subst (λ (k : ℕ). Taken (replays see) k c.take_lines.result old new) (ap (λ (h : Held). h.limit) c.requires.lines) c.take_lines.ensures in
    let t : Taken (replays see) 131072 ends.Endless old new = subst (λ (e : LinesEnd Ending). Taken (replays see) 131072 e old new) c.in-Endless.is taken in
    causes_by o t.pieces endings.TooLong c.end-in-Endless.result old.input new.input (see old.output) (see c.end-in-Endless.new.output)
    (c.end-in-Endless.ensures.finished o t.pieces (see old.output) (t.ends.took o fresh)) (λ e. cc) (λ n. t.ends.no_fault) (λ e. cc)
