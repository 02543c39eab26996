use Rattle.std.proofs.Common.{◌+◌, ◌∙◌, [], List, length, sym, ap}
use Rattle.line_io.specs.Lines.{Piece, Whole}
use Rattle.script_replay.specs.Versions.{version_by}
use Rattle.script_replay.proofs.Hearing.{came_first, may_headed, playing_of, playing_opened, then_by, took_more, version_more}
use Rattle.script_replay.proofs.Players.{header_line}
use Rattle.script_replay.proofs.player.PlayerLineConsumer.line.Goals as goal

pub returns-then-not-is_new-clause-takes : goal.returns-then-not-is_new-clause-takes
returns-then-not-is_new-clause-takes g c = λ s0 o0 pieces t n.
    let see = λ (o : g.row.O.Denot). g.O.Sink.state o in
    let here = see c.args.output.now in
    let is_open = sym c.is_new.ensures ∙ c.if-not-is_new.true in
    then_by see s0 o0 _ c.take_on.result c.take_on.new.self c.take_on.new.output (λ o fresh.
    let s = t o fresh in
    c.take_on.ensures.came o pieces (see o0) (version_more o pieces (Whole c.args.line.now) c.args.self.now (see o0) here is_open s) (playing_of o pieces c.args.self.now (see o0) here is_open s) s.no_failure n)

pub open_numbered-requires-clause-proper : goal.open_numbered-requires-clause-proper
open_numbered-requires-clause-proper g c = ((c.read_header.ensures.exact c.in-Some.settings).0 c.in-Some.is).proper

pub returns-in-Some-clause-takes : goal.returns-in-Some-clause-takes
returns-in-Some-clause-takes g c = λ s0 o0 pieces t n o fresh.
    let first = g.O.Sink.state o0 in
    let here = g.O.Sink.state c.args.output.now in
    let old = c.args.self.now in
    let new = c.open_numbered.new.self in
    let s = t o fresh in
    record {
      took = took_more o pieces (Whole c.args.line.now) new.core new.stage new.text.text first here
          (header_line o old.core old.stage old.text first here pieces c.args.line.now c.in-Some.settings new.core new.stage new.text
          (sym c.is_new.ensures ∙ c.if-not-is_new.false) (sym c.read_header.ensures.value ∙ c.in-Some.is) s.took c.open_numbered.ensures.begun);
      may = may_headed new c.open_numbered.ensures.begun.3 (c.open_numbered.ensures.room ∙ s.may.room);
      no_failure = s.no_failure;
    }

pub returns-in-None-clause-takes : goal.returns-in-None-clause-takes
returns-in-None-clause-takes g c = λ s0 o0 pieces t n.
    let see = λ (o : g.row.O.Denot). g.O.Sink.state o in
    let here = see c.args.output.now in
    then_by see s0 o0 _ c.take_on-in-None.result c.take_on-in-None.new.self c.take_on-in-None.new.output (λ o fresh.
    let s = t o fresh in
    let p = playing_opened o pieces c.args.self.now c.open_plain.new.self (see o0) here (sym c.is_new.ensures ∙ c.if-not-is_new.false) s c.open_plain.ensures.begun in
    came_first o pieces (Whole c.args.line.now) c.take_on-in-None.result c.take_on-in-None.new.self (see o0) (see c.take_on-in-None.new.output) p.0
    (c.take_on-in-None.ensures.came o [] (see o0) (ap version_by (sym c.read_header.ensures.value ∙ c.in-None.is)) p.1 s.no_failure (n ∙ ap (λ (ls : List Piece). length ls + 1) p.0)))
