use Rattle.std.proofs.Common.{◌∙◌, ◌+◌, ap, map, refl, string_bytes, sym, vec_items}
use Rattle.reviver_runner.specs.Lives.{lives_in}
use Rattle.reviver_runner.proofs.LoopSteps.{keeps_same, keeps_both, host_first, goes_first, empty, turn_host, turn_goes, turn_going, turn_over, turn_refused, first_goes, next_as, turn_process, last_process, room_for}
use Rattle.reviver_runner.proofs.outcome.run_lives.Goals as goal

pub loop-init : goal.loop-init
loop-init g c =
    let none = empty c.args.runs.now.ended.items _ c.args.runs.now.ended.ok.0 c.requires.runs.none in
    record {
      arguments = refl;
      space = refl;
      processes = c.requires.parts.process ∙ ap (λ n. n + 1) (sym c.requires.runs.none);
      keeps = keeps_same _ c.requires.parts.ready;
      lives = refl;
      goes = first_goes _ _ _ c.requires.parts.begins c.requires.parts.some c.requires.runs.none;
      host = host_first _ _ _ c.requires.runs.out c.requires.runs.none;
      going = goes_first g.H.EngineSource.Source.state g.H.EngineSink.Sink.state _ _ _ _ _ _ _ c.requires.parts.untaken c.requires.parts.unsent none c.requires.runs.tally c.requires.parts.unfailed c.requires.begun;
    }

pub life_turn-requires-clause-room : goal.life_turn-requires-clause-room
life_turn-requires-clause-room g c = λ κs o. room_for _ _ _ _ _ _ c.loop.invariant.processes c.loop.invariant.keeps.processes c.requires.parts.room c.loop.invariant.goes.few c.loop.invariant.lives c.requires.parts.few

pub loop-preserved : goal.loop-preserved
loop-preserved g c =
    let was = c.loop.invariant in
    let turn = c.life_turn.ensures in
    record {
      arguments = turn.arguments ∙ was.arguments;
      space = turn.space ∙ was.space;
      processes = turn_process g.H.EngineSource.Source.state g.H.EngineSink.Sink.state _ _ _ _ _ _ _ _ _ _ _ _ _ _ _ _ _ _
          (ap (λ v. map string_bytes (vec_items v)) c.loop.invariant.arguments) c.loop.invariant.host c.loop.invariant.going c.loop.invariant.goes c.loop.invariant.lives c.loop.runs.ended.ok.0 c.life_turn.new.runs.ended.ok.0
          c.life_turn.ensures.lived c.life_turn.ensures.next c.life_turn.ensures.host c.life_turn.ensures.asked _ c.in-Life.is _ _ was.processes turn.processes;
      keeps = keeps_both _ _ _ was.keeps turn.keeps;
      lives = turn.lived.lives ∙ was.lives;
      goes = turn_goes g.H.EngineSource.Source.state g.H.EngineSink.Sink.state _ _ _ _ _ _ _ _ _ _ _ _ _ _ _ _ _ _
          (ap (λ v. map string_bytes (vec_items v)) c.loop.invariant.arguments) c.loop.invariant.host c.loop.invariant.going c.loop.invariant.goes c.loop.invariant.lives c.loop.runs.ended.ok.0 c.life_turn.new.runs.ended.ok.0
          c.life_turn.ensures.lived c.life_turn.ensures.next c.life_turn.ensures.host c.life_turn.ensures.asked _ c.in-Life.is;
      host = turn_host g.H.EngineSource.Source.state g.H.EngineSink.Sink.state _ _ _ _ _ _ _ _ _ _ _ _ _ _ _ _ _ _
          (ap (λ v. map string_bytes (vec_items v)) c.loop.invariant.arguments) c.loop.invariant.host c.loop.invariant.going c.loop.invariant.goes c.loop.invariant.lives c.loop.runs.ended.ok.0 c.life_turn.new.runs.ended.ok.0
          c.life_turn.ensures.lived c.life_turn.ensures.next c.life_turn.ensures.host c.life_turn.ensures.asked _ c.in-Life.is;
      going = turn_going g.H.EngineSource.Source.state g.H.EngineSink.Sink.state _ _ _ _ _ _ _ _ _ _ _ _ _ _ _ _ _ _
          (ap (λ v. map string_bytes (vec_items v)) c.loop.invariant.arguments) c.loop.invariant.host c.loop.invariant.going c.loop.invariant.goes c.loop.invariant.lives c.loop.runs.ended.ok.0 c.life_turn.new.runs.ended.ok.0
          c.life_turn.ensures.lived c.life_turn.ensures.next c.life_turn.ensures.host c.life_turn.ensures.asked _ c.in-Life.is;
    }

pub returns-in-Over-clause-keeps : goal.returns-in-Over-clause-keeps
returns-in-Over-clause-keeps g c = keeps_both _ _ _ c.loop.invariant.keeps c.life_turn.ensures.keeps

pub returns-in-Over-clause-processes : goal.returns-in-Over-clause-processes
returns-in-Over-clause-processes g c = last_process g.H.EngineSource.Source.state g.H.EngineSink.Sink.state _ _ _ _ _ _ _ _ _ _ _ _ _ _ _ _ _ _
    (ap (λ v. map string_bytes (vec_items v)) c.loop.invariant.arguments) c.loop.invariant.host c.loop.invariant.going c.loop.invariant.goes c.loop.invariant.lives c.loop.runs.ended.ok.0 c.life_turn.new.runs.ended.ok.0
    c.life_turn.ensures.lived c.life_turn.ensures.next c.life_turn.ensures.host c.life_turn.ensures.asked (ap lives_in c.in-Over.is) _ _ c.loop.invariant.processes c.life_turn.ensures.processes

pub returns-in-Over-clause-over : goal.returns-in-Over-clause-over
returns-in-Over-clause-over g c = (next_as _ _ _ _ c.in-Over.is c.life_turn.ensures.next).1

pub returns-in-Over-clause-ran : goal.returns-in-Over-clause-ran
returns-in-Over-clause-ran g c = turn_over g.H.EngineSource.Source.state g.H.EngineSink.Sink.state _ _ _ _ _ _ _ _ _ _ _ _ _ _ _ _ _ _
    (ap (λ v. map string_bytes (vec_items v)) c.loop.invariant.arguments) c.loop.invariant.host c.loop.invariant.going c.loop.invariant.goes c.loop.invariant.lives c.loop.runs.ended.ok.0 c.life_turn.new.runs.ended.ok.0
    c.life_turn.ensures.lived c.life_turn.ensures.next c.life_turn.ensures.host c.life_turn.ensures.asked c.in-Over.is

pub returns-in-Refused-clause-keeps : goal.returns-in-Refused-clause-keeps
returns-in-Refused-clause-keeps g c = keeps_both _ _ _ c.loop.invariant.keeps c.life_turn.ensures.keeps

pub returns-in-Refused-clause-processes : goal.returns-in-Refused-clause-processes
returns-in-Refused-clause-processes g c = last_process g.H.EngineSource.Source.state g.H.EngineSink.Sink.state _ _ _ _ _ _ _ _ _ _ _ _ _ _ _ _ _ _
    (ap (λ v. map string_bytes (vec_items v)) c.loop.invariant.arguments) c.loop.invariant.host c.loop.invariant.going c.loop.invariant.goes c.loop.invariant.lives c.loop.runs.ended.ok.0 c.life_turn.new.runs.ended.ok.0
    c.life_turn.ensures.lived c.life_turn.ensures.next c.life_turn.ensures.host c.life_turn.ensures.asked (ap lives_in c.in-Refused.is) _ _ c.loop.invariant.processes c.life_turn.ensures.processes

pub returns-in-Refused-clause-over : goal.returns-in-Refused-clause-over
returns-in-Refused-clause-over g c = (next_as _ _ _ _ c.in-Refused.is c.life_turn.ensures.next).1

pub returns-in-Refused-clause-ran : goal.returns-in-Refused-clause-ran
returns-in-Refused-clause-ran g c = turn_refused g.H.EngineSource.Source.state g.H.EngineSink.Sink.state _ _ _ _ _ _ _ _ _ _ _ _ _ _ _ _ _ _
    (ap (λ v. map string_bytes (vec_items v)) c.loop.invariant.arguments) c.loop.invariant.host c.loop.invariant.going c.loop.invariant.goes c.loop.invariant.lives c.loop.runs.ended.ok.0 c.life_turn.new.runs.ended.ok.0
    c.life_turn.ensures.lived c.life_turn.ensures.next c.life_turn.ensures.host c.life_turn.ensures.asked _ c.in-Refused.is
