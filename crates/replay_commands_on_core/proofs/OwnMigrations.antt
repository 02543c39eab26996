-- The script of a lawful trace can be migrated.
use Rattle.std.proofs.Common.{◌≡◌, List, [], ◌∷◌, map, true, false, not, ℕ, sym, ap, subst, ◌∙◌}
use Rattle.std.specs.List.{AllByRecursion}
use Rattle.line_io.specs.Event.{Event}
use Rattle.line_io.specs.Event as events
use Rattle.line_io.specs.Lines.{parts_by_feed}
use Rattle.script_lines.specs.Marks.{Happens, ToIface, ToEngine, IsMarkSpelled}
use Rattle.cecp_lines.specs.Replies.{Reply, reply_text}
use Rattle.uci_lines.specs.Orders.{Order, uci_order_text}
use Rattle.policy_rules.specs.declared.setting_rules.settings.Settings.{Settings}
use Rattle.adapter_core.specs.declared.ends.Ends.{Ends}
use Rattle.adapter_core.specs.Ends.{may}
use Rattle.adapter_core.specs.Trace.{Step, LawfulTrace, state, iface_text, engine_text}
use Rattle.trace_scripts.specs.OneWay.{IsOpened}
use Rattle.trace_scripts.proofs.Lines.{marked}
use Rattle.trace_scripts.proofs.Scripts.{some_opened, only_open}
use Rattle.replay_command_base.specs.Streams.{FilterStreams}
use Rattle.trace_laws.specs.OneLine.{IsOneLogLine, WritesLines}
use Rattle.trace_laws.proofs.OneLine.{write_lines}
use Rattle.judge_and_driver_laws.proofs.Judge.Marked.{can_be_marked, reply_parts, order_parts}
use Rattle.replay_commands_without_core.specs.Migrated.{MigratesScripts}
use Rattle.replay_commands_without_core.specs.Traces.{AreEventsMarked, IsMarked, IsWrittenMarked}
use Rattle.replay_commands_on_core.specs.OwnScripts.{MigratesOwnScripts}

-- an event of an opened session that may come has a mark
event_spelled : (ends : Ends) (e : Event) → ends.opened ≡ true → may ends e ≡ true → IsMarkSpelled (Happens e)
event_spelled ends events.Open o m = let n = sym (ap not o) ∙ m in cc
event_spelled ends (events.Iface line) o m = marked ends (events.Iface line) m
event_spelled ends (events.Engine line) o m = marked ends (events.Engine line) m
event_spelled ends e o m = tt

events_marked : (o : Settings) (t : List Step) → LawfulTrace o t → IsOpened o t → AreEventsMarked t
events_marked o [] l op = cc
events_marked o (s ∷ []) l op = only_open s.event l.1.may_come
events_marked o (s ∷ r ∷ t) l op =
    let before = some_opened o r t l.0 in
    (event_spelled (state o (r ∷ t)).ends s.event before l.1.may_come, events_marked o (r ∷ t) l.0 before)

replies_spelled : (rs : List Reply) → AllByRecursion (λ (r : Reply). IsOneLogLine (reply_text r)) rs → AllByRecursion (λ line. IsMarkSpelled (ToIface line)) (map reply_text rs)
replies_spelled [] a = tt
replies_spelled (r ∷ rs) a = (can_be_marked (reply_text r) a.0, replies_spelled rs a.1)

orders_spelled : (os : List Order) → AllByRecursion (λ (c : Order). IsOneLogLine (uci_order_text c)) os → AllByRecursion (λ line. IsMarkSpelled (ToEngine line)) (map uci_order_text os)
orders_spelled [] a = tt
orders_spelled (c ∷ os) a = (can_be_marked (uci_order_text c) a.0, orders_spelled os a.1)

step_marked : (s : Step) → WritesLines s → IsWrittenMarked s
step_marked s w = record {
  iface = subst (λ (ls : List (List ℕ)). AllByRecursion (λ line. IsMarkSpelled (ToIface line)) ls) (sym (reply_parts s.replies w.replies)) (replies_spelled s.replies w.replies);
  engine = subst (λ (ls : List (List ℕ)). AllByRecursion (λ line. IsMarkSpelled (ToEngine line)) ls) (sym (order_parts s.orders w.orders)) (orders_spelled s.orders w.orders);
}

steps_marked : (t : List Step) → AllByRecursion WritesLines t → AllByRecursion IsWrittenMarked t
steps_marked [] w = tt
steps_marked (s ∷ t) w = (step_marked s w.0, steps_marked t w.1)

pub is_marked : (o : Settings) (t : List Step) → LawfulTrace o t → IsOpened o t → IsMarked t
is_marked o t l op = record { events = events_marked o t l op; written = steps_marked t (write_lines o t l) }

pub migrates_own : (settings : Settings) (before after : FilterStreams) (code : ℕ) → MigratesScripts settings before after code → MigratesOwnScripts settings before after code
migrates_own settings before after code m o t l op left z = m t (is_marked o t l op) left z
