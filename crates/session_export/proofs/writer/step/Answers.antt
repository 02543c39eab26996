use Rattle.std.proofs.Common.{sym, subst}
use Rattle.line_io.specs.Event.{event_of}
use Rattle.game_record.specs.Game.{Game}
use Rattle.script_replay.specs.Playing.{StepExtends}
use Rattle.session_export.specs.Following.{GameFollows}
use Rattle.session_export.proofs.Stepped.{follows_on, reached_on}
use Rattle.session_export.proofs.writer.step.Goals as goal

pub put_step_text-requires-clause-follows : goal.put_step_text-requires-clause-follows
put_step_text-requires-clause-follows g c =
    let x = c.step-lines.follows.holds-at-none in
    let new = c.step-lines.follows.lender-at-none in
    let adds : StepExtends c.args.core.now new (event_of c.args.event.now) x.step = record { event = x.event; extends = x.extends } in
    let before = c.requires.at in (
      before.0,
      before.1,
      subst (λ (h : Game). GameFollows h c.game.result.now) (sym before.2)
          (subst (GameFollows c.args.core.now.desk.game) (sym c.game.ensures) (follows_on c.args.core.now new (event_of c.args.event.now) x.step adds c.requires.reached)),
    )

pub returns-clause-reached : goal.returns-clause-reached
returns-clause-reached g c =
    let x = c.step-lines.follows.holds-at-none in
    let new = c.step-lines.follows.lender-at-none in
    let adds : StepExtends c.args.core.now new (event_of c.args.event.now) x.step = record { event = x.event; extends = x.extends } in
    reached_on c.args.core.now new (event_of c.args.event.now) x.step adds c.requires.reached
