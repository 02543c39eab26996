use Rattle.std.proofs.Common.{◌++◌, ◌∷◌, [], length, List, ℕ, ap, refl, ◌∙◌, append_assoc}
use Rattle.line_io.specs.Out.{Text}
use Rattle.engine_revival.proofs.Lines.{put_orders, put_within}
use Rattle.engine_revival.proofs.order_list.put_line.Goals as goal

pub returns-clause-orders : goal.returns-clause-orders
returns-clause-orders c =
    let text = ap (λ (t : Text). t.text) c.put-2.ensures ∙ ap (λ (t : Text). t.text ++ 10 ∷ []) c.put.ensures ∙ append_assoc c.args.texts.now.text c.args.line.now (10 ∷ []) in
    put_orders c.args.texts.now.text c.args.line.now _ c.args.lines.now.items _ _ text c.push.ensures.items (ap (λ (t : List ℕ). length t) c.bytes-at.ensures.text) refl c.requires.within

pub returns-clause-within : goal.returns-clause-within
returns-clause-within c =
    let text = ap (λ (t : Text). t.text) c.put-2.ensures ∙ ap (λ (t : Text). t.text ++ 10 ∷ []) c.put.ensures ∙ append_assoc c.args.texts.now.text c.args.line.now (10 ∷ []) in
    put_within c.args.texts.now.text c.args.line.now _ c.args.lines.now.items _ _ text c.push.ensures.items (ap (λ (t : List ℕ). length t) c.bytes-at.ensures.text) refl c.requires.within c.requires.spells
