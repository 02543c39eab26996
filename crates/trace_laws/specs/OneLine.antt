-- Each reply and each order is one line.
use Rattle.std.specs.Prelude.{◌≡◌, ℕ, ◌≤◌, ◌-◌, List, length, false}
use Rattle.std.specs.List.{AllByRecursion}
use Rattle.line_io.specs.Event.{has_feed}
use Rattle.cecp_lines.specs.Replies.{Reply, reply_text}
use Rattle.uci_lines.specs.Orders.{Order, uci_order_text}
use Rattle.policy_rules.specs.declared.setting_rules.settings.Settings.{Settings}
use Rattle.adapter_core.specs.Trace.{Step, LawfulTrace}
use Rattle.line_io.specs.declared.limits.TheConstants.{SCRIPT_LINE}

-- no line feed, and no more bytes than stand after a mark in a line of a script
pub record IsOneLogLine (text : List ℕ) : Type 0 where
  pub no_feed : has_feed text ≡ false
  pub short : length text ≤ SCRIPT_LINE - 2

pub record WritesLines (step : Step) : Type 0 where
  pub replies : AllByRecursion (λ (reply : Reply). IsOneLogLine (reply_text reply)) step.replies
  pub orders : AllByRecursion (λ (order : Order). IsOneLogLine (uci_order_text order)) step.orders

-- Each reply and each order of each step of a lawful trace is one line.
abbrev pub TracesWriteLines : Settings → Type 0
TracesWriteLines o = (trace : List Step) → LawfulTrace o trace → AllByRecursion WritesLines trace
