use Rattle.std.proofs.Common.{◌∙◌, ◌+◌, ap, refl, ℕ, Ok, Err}
use Rattle.line_io.specs.Lines.{Gave, Whole, TooLong}
use Rattle.line_io.specs.Taken.{reading_place}
use Rattle.line_io.specs.declared.lines.Item.{Item}
use Rattle.line_io.specs.declared.lines.Item.TheVariants as items
use Rattle.line_io.proofs.Calls.{next_is, went_on, none_came, stopped_at, ended_all, read_failed}
use Rattle.line_io.proofs.turns.take_next.Goals as goal

pub returns-in-Err-clause-after : goal.returns-in-Err-clause-after
returns-in-Err-clause-after g c = λ first limit calls h.
    let now = reading_place c.args.consumer.now c.args.output.now (g.I.Source.state c.args.input.now) in
    let input = g.I.Source.state c.next.new.source in
    let old = c.args.lines.now in
    let new = c.next.follows.lender-at-none in
    let came = next_is old new now.input input c.next.result (Err c.in-Err.field-0) (c.in-Err.is) c.next.follows.holds-at-none in
    read_failed g.T.LineConsumer.means limit first now input old new calls c.args.count.now c.in-Err.field-0 c.in-Err.ensures.cause.failed c.requires.written came c.requires.count h

pub returns-in-Ok-End-clause-after : goal.returns-in-Ok-End-clause-after
returns-in-Ok-End-clause-after g c = λ first limit calls h.
    let now = reading_place c.args.consumer.now c.args.output.now (g.I.Source.state c.args.input.now) in
    let input = g.I.Source.state c.next.new.source in
    let old = c.args.lines.now in
    let new = c.next.follows.lender-at-none in
    let came = next_is old new now.input input c.next.result (Ok items.End) (c.in-Ok-End.is ∙ ap (λ (i : Item). Ok i) c.in-Ok-End.field-0-is) c.next.follows.holds-at-none in
    ended_all g.T.LineConsumer.means limit first now input old new calls c.args.count.now c.in-Ok-End.ensures.cause.same came c.requires.count h

pub returns-in-Ok-More-clause-after : goal.returns-in-Ok-More-clause-after
returns-in-Ok-More-clause-after g c = λ first limit calls h.
    let now = reading_place c.args.consumer.now c.args.output.now (g.I.Source.state c.args.input.now) in
    let input = g.I.Source.state c.next.new.source in
    let old = c.args.lines.now in
    let new = c.next.follows.lender-at-none in
    let came = next_is old new now.input input c.next.result (Ok items.More) (c.in-Ok-More.is ∙ ap (λ (i : Item). Ok i) c.in-Ok-More.field-0-is) c.next.follows.holds-at-none in
    none_came g.T.LineConsumer.means limit first now input old new calls c.args.count.now c.in-Ok-More.ensures.cause.same came h

pub returns-in-Some-clause-after : goal.returns-in-Some-clause-after
returns-in-Some-clause-after g c = λ first limit calls h.
    let now = reading_place c.args.consumer.now c.args.output.now (g.I.Source.state c.args.input.now) in
    let input = g.I.Source.state c.next.new.source in
    let old = c.args.lines.now in
    let new = c.next.follows.lender-at-none in
    let later = reading_place c.long.new.self c.long.new.output input in
    let came = next_is old new now.input input c.next.result (Ok items.Long) (c.in-Ok-Long.is ∙ ap (λ (i : Item). Ok i) c.in-Ok-Long.field-0-is) c.next.follows.holds-at-none in
    let taken = c.in-Some.ensures.takes first.consumer first.output h.pieces h.took (ap (λ (n : ℕ). n + 1) h.count) in
    stopped_at g.T.LineConsumer.means limit first now later old new calls c.args.count.now (Ok items.Long) TooLong c.in-Some.stop refl refl c.in-Ok-Long.ensures.cause.same came c.requires.count h taken

pub returns-in-None-clause-after : goal.returns-in-None-clause-after
returns-in-None-clause-after g c = λ first limit calls h.
    let now = reading_place c.args.consumer.now c.args.output.now (g.I.Source.state c.args.input.now) in
    let input = g.I.Source.state c.next.new.source in
    let old = c.args.lines.now in
    let new = c.next.follows.lender-at-none in
    let later = reading_place c.long.new.self c.long.new.output input in
    let came = next_is old new now.input input c.next.result (Ok items.Long) (c.in-Ok-Long.is ∙ ap (λ (i : Item). Ok i) c.in-Ok-Long.field-0-is) c.next.follows.holds-at-none in
    let taken = c.in-None.ensures.takes first.consumer first.output h.pieces h.took (ap (λ (n : ℕ). n + 1) h.count) in
    went_on g.T.LineConsumer.means limit first now later old new calls c.args.count.now (c.args.count.now + 1) (Ok items.Long) (Gave TooLong) refl refl c.in-Ok-Long.ensures.cause.same came h refl taken

pub returns-in-Some-line-clause-after : goal.returns-in-Some-line-clause-after
returns-in-Some-line-clause-after g c = λ first limit calls h.
    let now = reading_place c.args.consumer.now c.args.output.now (g.I.Source.state c.args.input.now) in
    let input = g.I.Source.state c.next.new.source in
    let old = c.args.lines.now in
    let new = c.next.follows.lender-at-none in
    let later = reading_place c.line.new.self c.line.new.output input in
    let came = next_is old new now.input input c.next.result (Ok (items.Line c.in-Ok-Line.line)) (c.in-Ok-Line.is ∙ ap (λ (i : Item). Ok i) c.in-Ok-Line.field-0-is) c.next.follows.holds-at-none in
    let taken = c.in-Some-line.ensures.takes first.consumer first.output h.pieces h.took (ap (λ (n : ℕ). n + 1) h.count) in
    stopped_at g.T.LineConsumer.means limit first now later old new calls c.args.count.now (Ok (items.Line c.in-Ok-Line.line)) (Whole c.in-Ok-Line.line.now) c.in-Some-line.stop refl refl c.in-Ok-Line.ensures.cause.same came c.requires.count h taken

pub returns-in-None-line-clause-after : goal.returns-in-None-line-clause-after
returns-in-None-line-clause-after g c = λ first limit calls h.
    let now = reading_place c.args.consumer.now c.args.output.now (g.I.Source.state c.args.input.now) in
    let input = g.I.Source.state c.next.new.source in
    let old = c.args.lines.now in
    let new = c.next.follows.lender-at-none in
    let later = reading_place c.line.new.self c.line.new.output input in
    let came = next_is old new now.input input c.next.result (Ok (items.Line c.in-Ok-Line.line)) (c.in-Ok-Line.is ∙ ap (λ (i : Item). Ok i) c.in-Ok-Line.field-0-is) c.next.follows.holds-at-none in
    let taken = c.in-None-line.ensures.takes first.consumer first.output h.pieces h.took (ap (λ (n : ℕ). n + 1) h.count) in
    went_on g.T.LineConsumer.means limit first now later old new calls c.args.count.now (c.args.count.now + 1) (Ok (items.Line c.in-Ok-Line.line)) (Gave (Whole c.in-Ok-Line.line.now)) refl refl c.in-Ok-Line.ensures.cause.same came h refl taken
