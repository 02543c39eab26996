use Rattle.std.proofs.Common.{◌++◌, ◌∷◌, [], refl, ◌∙◌, ap, sym, Ok}
use Rattle.line_io.specs.Event.{Engine}
use Rattle.line_io.specs.declared.lines.Item.TheVariants as answers
use Rattle.event_pipe.proofs.Reading.{reported_ok}
use Rattle.reviver_runner.specs.Messages.{events_sent}
use Rattle.reviver_runner.proofs.ReadSteps.{goes_line}
use Rattle.reviver_runner.proofs.reading.read_turn.Goals as goal

pub returns-in-Ok-clause-goes : goal.returns-in-Ok-clause-goes
returns-in-Ok-clause-goes g c =
    goes_line c.args.lines.now c.next.follows.lender-at-none _ _ _ _ c.next.result (answers.Line c.in-Ok-Line.line) c.in-Ok-Line.line.now (c.in-Ok-Line.is ∙ ap (λ i. Ok i) c.in-Ok-Line.field-0-is) refl refl
    c.requires.going
    (c.send_event.ensures.adds ∙ ap (λ b. events_sent c.args.to.now ++ Engine b ∷ []) c.in-Ok.ensures) (reported_ok _ _ _ _ c.in-Ok-Line.is c.next.ensures.cause) c.next.follows.holds-at-none
