-- A line is read as `quit` if and only if that is its first token.
use Rattle.std.proofs.Common.{◌≡◌, ℕ, List, true, Result, Ok, Err, refl, ap}
use Rattle.std.specs.Prelude.{codes}
use Rattle.std.specs.Str.{bytes_eq}
use Rattle.std.specs.Cmp.{both_ways}
use Rattle.std.proofs.lemmas.Slice.Eq.{bytes_eq-Decides}
use Rattle.protocol_tokens.specs.Tokens.{first_token}
use Rattle.cecp_lines.specs.declared.iface.IfaceFault.{IfaceFault}
use Rattle.cecp_lines.specs.Messages as says
use Rattle.cecp_lines.specs.Messages.{IfaceMsg}
use Rattle.cecp_lines.specs.Reading.{message_or_fault}
use Rattle.protocol_tokens.specs.Quit.{is_quit}
use Rattle.cecp_lines.specs.Quit.{is_quit_message}
use Rattle.cecp_lines.proofs.Spellings.{reading_spells}
use Rattle.cecp_lines.proofs.Complete.{spells_reading}

quit_message : (r : Result IfaceMsg IfaceFault) → is_quit_message r ≡ true → r ≡ Ok says.Quit
quit_message (Ok says.Quit) h = refl
quit_message r h = absurd (cc)

pub quit_first : (line : List ℕ) → is_quit line ≡ is_quit_message (message_or_fault line)
quit_first line =
    let decides = bytes_eq-Decides (first_token line) (codes "quit") in
    both_ways (is_quit line) (is_quit_message (message_or_fault line))
    (λ e. ap is_quit_message (spells_reading line says.Quit (decides.0 e)))
    (λ h. decides.1 (reading_spells line says.Quit (quit_message (message_or_fault line) h)))
