use Rattle.std.proofs.Common.{◌∙◌, ℕ, ◌≤◌, refl, subst}
use Rattle.event_pipe.proofs.Standing.{came_as}
use Rattle.reviver_runner.specs.Messages.{life_messages_stand}
use Rattle.reviver_runner.proofs.Appends.{took}
use Rattle.reviver_runner.proofs.EndSteps.{heard, lived_from, nothing_came}
use Rattle.reviver_runner.proofs.LifeSteps.{lived_drained}
use Rattle.reviver_runner.proofs.RunSteps.{lives_count}
use Rattle.reviver_runner.proofs.outcome.run_opened.Goals as goal

pub returns-clause-ran : goal.returns-clause-ran
returns-clause-ran g c =
    let beside = c.run_beside-upper.ensures in
    let iface = came_as _ _ life_messages_stand _ _ _ c.finish.ensures.iface in
    let engine = came_as _ _ life_messages_stand _ _ _ c.finish.ensures.engine in
    let ran = beside.ran.lives in
    let drained = beside.ran.drained in
    let many = lives_count g.H.EngineSource.Source.state g.H.EngineSink.Sink.state _ ran.lived.lives _ refl ran.lived.reported in
    let some = subst (λ (n : ℕ). 1 ≤ n) many ran.handed.some in
    let none = nothing_came _ _ _ _ _ _ _ _ _ _ ran.lived.so_far some drained.taken_is engine in
    let all = lived_drained _ _ _ _ _ _ _ _ ran.lived.so_far drained none in
    let lived = lived_from _ _ _ _ _ _ _ _ _ c.requires.made.begins all in
    record {
      runs = ran.lived.lives;
      events = lived.events;
      heard = heard _ _ _ _ _ _ _ _ _ _ _ _ lived iface engine some beside.quit _ _ _ beside.arrived (drained.begun ∙ ran.begun ∙ many);
      up = took _ _ _ _ lived.played.up;
      logged = took _ _ _ _ lived.played.marks;
      refusal = lived.refusal;
      each = lived.lived;
      reported = ran.lived.reported;
      tallies = ran.lived.tallies;
      tallied = ran.lived.tallied;
      handed = ran.handed;
      asked = ran.asked;
    }
