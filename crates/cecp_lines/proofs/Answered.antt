-- The clauses on what was read, from the function that gives it.
use Rattle.std.proofs.Common.{◌≡◌, ℕ, List, Result, Ok, Err, sym, ap, ◌∙◌}
use Rattle.std.specs.Prelude.{◌↔◌}
use Rattle.cecp_lines.specs.declared.iface.IfaceMsg.{IfaceMsg as CodeIfaceMsg}
use Rattle.cecp_lines.specs.declared.iface.IfaceFault.{IfaceFault}
use Rattle.cecp_lines.specs.declared.iface.IfaceFault.TheVariants.{UnknownCommand, BadArgument}
use Rattle.cecp_lines.specs.Messages.{IfaceMsg, read_as}
use Rattle.cecp_lines.specs.Reading.{message_or_fault, SpellsIfaceMsg, IsUnknown, IsBad}
use Rattle.cecp_lines.proofs.Spellings.{reading_spells}
use Rattle.cecp_lines.proofs.Complete.{spells_reading, reading_unknown, unknown_reading, reading_bad, bad_reading}

pub spelled : (line : List ℕ) (r : Result CodeIfaceMsg IfaceFault) → read_as r ≡ message_or_fault line → (m : IfaceMsg) → (read_as r ≡ Ok m) ↔ SpellsIfaceMsg line m
spelled line r e m = (λ h. reading_spells line m (sym e ∙ h), λ h. e ∙ spells_reading line m h)

fault_back : (r : Result CodeIfaceMsg IfaceFault) (fault : IfaceFault) → read_as r ≡ Err fault → r ≡ Err fault
fault_back (Ok msg) fault h = absurd (cc)
fault_back (Err f) fault h = let same : f ≡ fault = cc in ap Err same

fault_as : (r : Result CodeIfaceMsg IfaceFault) (fault : IfaceFault) → r ≡ Err fault → read_as r ≡ Err fault
fault_as r fault h = ap read_as h

pub unknown : (line : List ℕ) (r : Result CodeIfaceMsg IfaceFault) → read_as r ≡ message_or_fault line → (r ≡ Err UnknownCommand) ↔ IsUnknown line
unknown line r e = (λ h. reading_unknown line (sym e ∙ fault_as r UnknownCommand h), λ h. fault_back r UnknownCommand (e ∙ unknown_reading line h))

pub bad : (line : List ℕ) (r : Result CodeIfaceMsg IfaceFault) → read_as r ≡ message_or_fault line → (r ≡ Err BadArgument) ↔ IsBad line
bad line r e = (λ h. reading_bad line (sym e ∙ fault_as r BadArgument h), λ h. fault_back r BadArgument (e ∙ bad_reading line h))
