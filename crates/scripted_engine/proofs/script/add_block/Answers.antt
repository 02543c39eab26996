use Rattle.scripted_engine.proofs.Built.{added_new, added_old, on_ok_as}
use Rattle.std.proofs.Common.{◌∙◌, ap, sym}
use Rattle.scripted_engine.specs.Queues.{Queue, queue_with_text}
use Rattle.scripted_engine.proofs.script.add_block.Goals as goal

pub returns-then-is_new-clause-added : goal.returns-then-is_new-clause-added
returns-then-is_new-clause-added c =
    added_new c.args.words.now.keys c.insert_full.new.self.keys c.args.queues.now.items c.push.new.self.items c.in_ok-word.word c.args.block.now c.answer.result.now _ c.requires
    (sym c.if-is_new.true ∙ c.in_ok-at.ensures.added) c.in_ok-at.ensures.keys (c.in_ok-word.ensures.items ∙ c.word.ensures) c.answer.ensures (c.in_ok-add.ensures.added ∙ ap (λ (x : Queue). queue_with_text x c.answer.result.now) c.new-queue.ensures) c.in_ok-push.ensures.items

pub returns-clause-added : goal.returns-clause-added
returns-clause-added c =
    on_ok_as c.add-2.result _ _ c.add-2.ensures.added (λ h.
    added_old c.args.words.now.keys c.insert_full.new.self.keys c.args.queues.now.items c.in_ok-word.word c.args.block.now c.answer-2.result.now c.in_ok-at.at c.add-2.new.self c.index_mut.result.now c.requires
    (sym c.if-is_new.false ∙ c.in_ok-at.ensures.added) c.in_ok-at.ensures.keys (c.in_ok-word.ensures.items ∙ c.word.ensures) c.answer-2.ensures c.in_ok-at.ensures.index h c.index_mut.ensures.value)
