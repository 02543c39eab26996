-- The lengths of the refusals of early lines.
use Rattle.std.proofs.Common.{◌≡◌, ℕ, ◌+◌, ◌*◌, ◌≤◌, List, [], ◌∷◌, ◌++◌, length, codes, true, Result, Ok, Err, Option, ap, arith, length-append}
use Rattle.protocol_tokens.specs.Tokens.{trimmed}
use Rattle.protocol_tokens.proofs.Lengths.{trimmed_length}
use Rattle.cecp_lines.specs.Replies.{reply_text}
use Rattle.cecp_lines.specs.Replies as cecp
use Rattle.cecp_lines.specs.declared.reply.Reason.TheVariants as reasons
use Rattle.uci_lines.specs.Orders.{Order}
use Rattle.option_map.specs.declared.declared_options.fault.OptionFault.{OptionFault}
use Rattle.option_map.specs.declared.declared_options.fault.OptionFault.TheVariants.{UnknownOption, BadValue}
use Rattle.option_map.specs.DeclaredOptions.Settings.{OptionSetting}
use Rattle.option_map.specs.FeatureLists.Features.{reply_line, reply_lines}
use Rattle.desk_rules.specs.declared.desk.Desk.{Desk}
use Rattle.desk_rules.specs.Early.{lines_with_feeds, EarlyLinesAreFew}
use Rattle.desk_rules.specs.Lines.{refused_option, early_answer}
use Rattle.desk_rules.specs.Replies.{early_refusal, early_refusals, list_where, boot_row}
use Rattle.desk_rules.proofs.Rooms.{lines-one, lines-append}
use Rattle.desk_rules.proofs.EarlyLines.{fed_first}

behind : (prefix line : List ℕ) → length ((prefix ++ trimmed line) ++ 10 ∷ []) ≤ length prefix + length line + 1
behind prefix line = omega (arith, length-append (prefix ++ trimmed line) (10 ∷ []), length-append prefix (trimmed line), trimmed_length line)

unknown_le : (line : List ℕ) → length (reply_lines (cecp.Error reasons.UnknownOption (trimmed line) ∷ [])) ≤ 64 + length line
unknown_le line = omega (arith, ap length (lines-one (cecp.Error reasons.UnknownOption (trimmed line))), behind (codes "Error (" ++ codes "unknown option" ++ codes "): ") line)

bad_le : (line : List ℕ) → length (reply_lines (cecp.Error reasons.BadValue (trimmed line) ∷ [])) ≤ 64 + length line
bad_le line = omega (arith, ap length (lines-one (cecp.Error reasons.BadValue (trimmed line))), behind (codes "Error (" ++ codes "bad value" ++ codes "): ") line)

refusal_le : (a : Result (Option Order) OptionFault) (line : List ℕ) → length (reply_lines (early_refusal (refused_option a) line)) ≤ 64 + length line
refusal_le (Ok order) line = omega arith
refusal_le (Err UnknownOption) line = unknown_le line
refusal_le (Err BadValue) line = bad_le line

pub refusals_le : (os : List OptionSetting) (lines : List (List ℕ)) → length (reply_lines (early_refusals os lines)) ≤ length (lines_with_feeds lines) + 64 * length lines
refusals_le os [] = omega arith
refusals_le os (line ∷ lines) =
    let first = early_refusal (refused_option (early_answer os line)) line in
    omega (
      arith,
      ap length (lines-append first (early_refusals os lines)),
      length-append (reply_lines first) (reply_lines (early_refusals os lines)),
      refusal_le (early_answer os line) line,
      refusals_le os lines,
      fed_first line lines,
    )

pub boot_le : (d : Desk) → EarlyLinesAreFew d.early → length (reply_lines (list_where d.due (record d { booted = true }))) ≤ 67000 → length (reply_lines (boot_row d)) ≤ 115768
boot_le d a h =
    let list = list_where d.due (record d { booted = true }) in
    let refused = early_refusals d.options d.early in
    omega (arith, ap length (lines-append list refused), length-append (reply_lines list) (reply_lines refused), refusals_le d.options d.early, a.few, a.short, h)
