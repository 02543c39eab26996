use Rattle.std.proofs.Common.{◌++◌, ◌∷◌, [], refl, ◌∙◌, ap, map, sym, Ok}
use Rattle.event_pipe.specs.declared.message.MessageBody.TheVariants as says
use Rattle.line_io.specs.declared.lines.Item.TheVariants as answers
use Rattle.event_pipe.specs.Message.{sent_event}
use Rattle.event_pipe.specs.Ends.{messages_sent}
use Rattle.event_pipe.proofs.Reading.{goes_quit, goes_line, reported_ok}
use Rattle.event_pipe.proofs.reader.read_turn.Goals as goal

pub returns-then-last-clause-goes : goal.returns-then-last-clause-goes
returns-then-last-clause-goes g c =
    goes_quit c.args.to.now.peer c.args.lines.now c.next.follows.lender-at-none _ _ _ _ c.next.result (answers.Line c.in-Ok-Line.line) c.in-Ok-Line.line.now (c.in-Ok-Line.is ∙ ap (λ i. Ok i) c.in-Ok-Line.field-0-is) refl refl
    (c.send_event-in-Ok-Line.ensures.adds ∙ ap (λ b. map g.M.ReaderMessage.event (messages_sent c.args.to.now) ++ sent_event c.args.to.now.peer (says.Line b) ∷ []) c.in-Ok.ensures) (reported_ok _ _ _ _ c.in-Ok-Line.is c.next.ensures.cause) c.next.follows.holds-at-none (sym c.is_last-last.ensures ∙ c.if-last.true)

pub returns-else-last-clause-goes : goal.returns-else-last-clause-goes
returns-else-last-clause-goes g c =
    goes_line c.args.to.now.peer c.args.lines.now c.next.follows.lender-at-none _ _ _ _ c.next.result (answers.Line c.in-Ok-Line.line) c.in-Ok-Line.line.now (c.in-Ok-Line.is ∙ ap (λ i. Ok i) c.in-Ok-Line.field-0-is) refl refl
    (c.send_event-in-Ok-Line.ensures.adds ∙ ap (λ b. map g.M.ReaderMessage.event (messages_sent c.args.to.now) ++ sent_event c.args.to.now.peer (says.Line b) ∷ []) c.in-Ok.ensures) (reported_ok _ _ _ _ c.in-Ok-Line.is c.next.ensures.cause) c.next.follows.holds-at-none (sym c.is_last-last.ensures ∙ c.if-last.false)
