use Rattle.std.proofs.Common.{ap, ◌∙◌}
use Rattle.search_epochs.specs.Dialogue.{Dialogue, settled_state}
use Rattle.search_epochs.proofs.Stands.{settled_by_view, settled_stands}
use Rattle.search_epochs.proofs.dialogue.Dialogue.settle.Goals as goal

pub returns-clause-settled : goal.returns-clause-settled
returns-clause-settled c = λ t hint waiting h a w. settled_by_view _ t hint _ _ _ _ waiting _ c.choose-orders.ensures h a w

pub returns-clause-tickets : goal.returns-clause-tickets
returns-clause-tickets c = λ t hint waiting h a.
    settled_stands _ t hint _ _ _ _ waiting _ c.choose-orders.ensures h a _
    (c.after-self-inside.ensures ∙ ap (λ (v : Dialogue). settled_state v.state c.choose-orders.result) c.self.view_is)
    (ap (λ (v : Dialogue). v.spent) c.self.view_is)
    c.pondered_after-self-inside.ensures
    c.unfenced_after-unfenced.ensures
