use Rattle.std.proofs.Common.{ap, sym, ◌∙◌}
use Rattle.cecp_lines.specs.Messages.{message_of}
use Rattle.uci_lines.specs.Orders.{optional_now}
use Rattle.option_map.specs.WaitingOrders.Asked.{set_found, asked}
use Rattle.option_map.proofs.declared_options.options.Options.asked.Goals as goal

pub returns-in-SetOption : goal.returns-in-SetOption
returns-in-SetOption c =
    c.set_found.ensures ∙ ap (λ o. set_found o (optional_now c.in-SetOption.value)) c.find.ensures.setting
    ∙ sym (ap (λ m. asked c.args.self.now (message_of m)) c.in-SetOption.is)
