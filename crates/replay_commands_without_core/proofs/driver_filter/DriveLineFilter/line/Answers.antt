use Rattle.std.proofs.Common.{Ok, ◌≡◌, ◌∙◌, Option, Some, is_some, sym, ap}
use Rattle.line_io.specs.Event.{event_of}
use Rattle.line_io.specs.Lines.{Whole}
use Rattle.script_lines.specs.Marks.{Mark, Happens, ToIface, ToEngine, mark_spelled, mark_if_read}
use Rattle.replay_commands_without_core.specs.Scripts.{event_of_line}
use Rattle.replay_commands_without_core.proofs.Reading.{puts_event, puts_passed, puts_unmarked, spelled_line}
use Rattle.replay_commands_without_core.proofs.driver_filter.DriveLineFilter.line.Goals as goal

pub try_event-requires-clause-line : goal.try_event-requires-clause-line
try_event-requires-clause-line c =
    spelled_line c.args.line.now c.read_mark.result c.in-Ok-Event.event (c.in-Ok-Event.is ∙ ap (λ x. Ok x) c.in-Ok-Event.field-0-is) c.read_mark.ensures.spelled

pub returns-in-Ok-Event-clause-puts : goal.returns-in-Ok-Event-clause-puts
returns-in-Ok-Event-clause-puts c =
    let is : mark_spelled c.args.line.now ≡ Some (Happens (event_of c.in-Ok-Event.event)) = sym c.read_mark.ensures.exact ∙ ap mark_if_read (c.in-Ok-Event.is ∙ ap (λ x. Ok x) c.in-Ok-Event.field-0-is) in
    puts_event c.args.number (Whole c.args.line.now) (event_of c.in-Ok-Event.event) c.try_event.result c.args.self.now c.try_event.new.self c.args.text.now c.try_event.new.text is c.try_event.ensures.tries

pub returns-in-Ok-ToIface-clause-puts : goal.returns-in-Ok-ToIface-clause-puts
returns-in-Ok-ToIface-clause-puts c =
    let is : mark_spelled c.args.line.now ≡ Some (ToIface c.in-Ok-ToIface.field-0-0.now) = sym c.read_mark.ensures.exact ∙ ap mark_if_read (c.in-Ok-ToIface.is ∙ ap (λ x. Ok x) c.in-Ok-ToIface.field-0-is) in
    puts_passed c.args.number (Whole c.args.line.now) c.args.self.now c.args.text.now (ap (λ (m : Option Mark). is_some m) is) (ap event_of_line is)

pub returns-in-Ok-ToEngine-clause-puts : goal.returns-in-Ok-ToEngine-clause-puts
returns-in-Ok-ToEngine-clause-puts c =
    let is : mark_spelled c.args.line.now ≡ Some (ToEngine c.in-Ok-ToEngine.field-0-0.now) = sym c.read_mark.ensures.exact ∙ ap mark_if_read (c.in-Ok-ToEngine.is ∙ ap (λ x. Ok x) c.in-Ok-ToEngine.field-0-is) in
    puts_passed c.args.number (Whole c.args.line.now) c.args.self.now c.args.text.now (ap (λ (m : Option Mark). is_some m) is) (ap event_of_line is)

pub returns-in-Err-clause-puts : goal.returns-in-Err-clause-puts
returns-in-Err-clause-puts c = puts_unmarked c.args.number (Whole c.args.line.now) c.args.self.now c.args.text.now (sym c.read_mark.ensures.exact ∙ ap mark_if_read c.in-Err.is)
