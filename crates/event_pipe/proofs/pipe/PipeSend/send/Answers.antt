use Rattle.std.proofs.Common.{◌∙◌, ap, sym}
use Rattle.event_pipe.specs.declared.pipe.KnownOfPass.{KnownOfPass}
use Rattle.event_pipe.specs.Rule.{has_last}
use Rattle.event_pipe.proofs.Keeps.{puts, role_low, role_high}
use Rattle.event_pipe.proofs.pipe.PipeSend.send.Goals as goal

pub send_as-requires-clause-rule : goal.send_as-requires-clause-rule
send_as-requires-clause-rule g c =
    let means = g.M.Message.means in
    let item = c.loop.invariant.item in
    let own = ap (λ (h : KnownOfPass _). h.role) c.loop.invariant.same ∙ c.requires.sender.role in
    let role = own ∙ sym c.requires.peer ∙ sym (ap means.role item) in
    (puts means _ _ _ c.loop.message c.loop.invariant.sender.room role (λ e. role_high c.args.self.now.peer (sym own ∙ e)) (λ e. role_low c.args.self.now.peer (sym own ∙ e)) (ap (λ (h : KnownOfPass _). has_last means h.sent) c.loop.invariant.same ∙ c.requires.ended) (ap means.is_good item ∙ c.requires.good), λ items views d at. tt)

pub try_send_as-requires-clause-rule : goal.try_send_as-requires-clause-rule
try_send_as-requires-clause-rule g c =
    let means = g.M.Message.means in
    let own = c.requires.sender.role in
    let role = own ∙ sym c.requires.peer in
    (puts means _ _ _ c.args.message c.requires.sender.room role (λ e. role_high c.args.self.now.peer (sym own ∙ e)) (λ e. role_low c.args.self.now.peer (sym own ∙ e)) c.requires.ended c.requires.good, λ items views d at. tt)
