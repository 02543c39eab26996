use Rattle.std.proofs.Common.{◌+◌, ◌∙◌, ap, arith}
use Rattle.event_pipe.specs.declared.pipe.KnownOfPass.{KnownOfPass}
use Rattle.event_pipe.proofs.Keeps.{begins, forks}
use Rattle.event_pipe.proofs.pipe.Pipe.make.Goals as goal

pub bounded_with-requires-clause-rule : goal.bounded_with-requires-clause-rule
bounded_with-requires-clause-rule g c = begins g.M.Message.means

pub another-iface-requires-clause-rule : goal.another-iface-requires-clause-rule
another-iface-requires-clause-rule g c =
    let e = c.in_ok-sender.ensures.3 in
    forks g.M.Message.means 1 _ _ (ap (λ (h : KnownOfPass _). h.role) e) (ap (λ (h : KnownOfPass _). h.made + 1) e) (omega arith) (ap (λ (h : KnownOfPass _). h.joined) e)

pub another-engine-requires-clause-rule : goal.another-engine-requires-clause-rule
another-engine-requires-clause-rule g c =
    let e = c.in_ok-sender.ensures.3 in
    let f = c.another-iface.ensures.rule.0 in
    forks g.M.Message.means 2 _ _ (ap (λ (h : KnownOfPass _). h.role) f ∙ ap (λ (h : KnownOfPass _). h.role) e) (ap (λ (h : KnownOfPass _). h.made + 1) f) (omega arith) (ap (λ (h : KnownOfPass _). h.joined) f ∙ ap (λ (h : KnownOfPass _). h.joined) e)
