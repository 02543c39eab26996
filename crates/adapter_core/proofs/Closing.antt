-- The opening and the closing of sessions.
use Rattle.std.proofs.Common.{sym, ◌≡◌, ℕ, List, Bool, true, false, not, cond, ◌&&◌, ◌||◌, Option, Some, None, Result, Ok, Err, refl, ◌∙◌}
use Rattle.std.proofs.lemmas.Bool.{or_left, and_parts}
use Rattle.line_io.specs.Event.{Event, is_line}
use Rattle.line_io.specs.Event as events
use Rattle.cecp_lines.specs.Messages.{IfaceMsg}
use Rattle.cecp_lines.specs.Messages as says
use Rattle.cecp_lines.specs.Reading.{message_or_fault}
use Rattle.cecp_lines.specs.declared.iface.IfaceFault.{IfaceFault}
use Rattle.cecp_lines.specs.declared.iface.IfaceFault.TheVariants as faults
use Rattle.uci_lines.specs.Orders.{Order}
use Rattle.uci_lines.specs.Engine.{engine_message}
use Rattle.desk_rules.specs.declared.effect.Refusal.{Refusal}
use Rattle.desk_rules.specs.Desk.{Situation, is_gone}
use Rattle.desk_rules.specs.Lines.{line_verdict, verdict_on, refusal, is_epoch_line}
use Rattle.desk_rules.specs.Steps.{Effect, Nothing, LongLine, Accepts, Boots, Dies, classify, line_effect, engine_says, begins_epoch}
use Rattle.desk_rules.specs.Fits.{IsLineEvent}
use Rattle.adapter_core.specs.declared.ends.Ends.{Ends}
use Rattle.adapter_core.specs.Ends.{may, ends_after, is_open}
use Rattle.protocol_tokens.specs.Quit.{is_quit}
use Rattle.cecp_lines.specs.Quit.{is_quit_message}
use Rattle.cecp_lines.proofs.Quits.{quit_first}

pub opened_before : (a b : Bool) (c : Bool) → (a && b && c) ≡ true → a ≡ true
opened_before true b c e = refl
opened_before false b c e = cc

pub opened_later : (ends : Ends) (e : Event) → may ends e ≡ true → (ends_after ends e).opened ≡ true
opened_later ends events.Open m = refl
opened_later ends (events.Iface line) m = opened_before ends.opened (not ends.iface) (is_line line) m
opened_later ends events.IfaceLost m = opened_before ends.opened (not ends.iface) (not ends.iface_lost) m
opened_later ends (events.Engine line) m = opened_before ends.opened (not ends.engine) (is_line line) m
opened_later ends events.EngineLong m = (and_parts ends.opened (not ends.engine) m).0
opened_later ends events.EngineEnd m = (and_parts ends.opened (not ends.engine) m).0
opened_later ends events.EngineLost m = opened_before ends.opened (not ends.engine) (not ends.engine_lost) m
opened_later ends e m = (and_parts ends.opened (not ends.iface) m).0

-- LINES

-- the line of an event that may come is a line
pub line_event : (ends : Ends) (e : Event) → may ends e ≡ true → IsLineEvent e
line_event ends (events.Iface line) m = (and_parts (ends.opened && not ends.iface) (is_line line) m).1
line_event ends (events.Engine line) m = (and_parts (ends.opened && not ends.engine) (is_line line) m).1
line_event ends e m = tt

-- CLOSED

pub closed_stays : (ends : Ends) (e : Event) → ends.closed ≡ true → (ends_after ends e).closed ≡ true
closed_stays ends events.Open c = c
closed_stays ends (events.Iface line) c = or_left ends.closed (is_quit line) c
closed_stays ends events.IfaceEnd c = refl
closed_stays ends events.IfaceLost c = refl
closed_stays ends e c = c

pub closes_later : (ends : Ends) (e : Event) → ends.closed ≡ false → (ends_after ends e).closed ≡ true → is_open e ≡ false
closes_later ends events.Open a b = cc
closes_later ends e a b = refl

pub open_before : (ends : Ends) (e : Event) → (ends_after ends e).closed ≡ false → ends.closed ≡ false
open_before ends e n = elim (ends.closed) as (λ b. ends.closed ≡ b → b ≡ false) [ true ↦ λ c. (let x = closed_stays ends e c in cc) | false ↦ λ c. refl ] refl

-- NOTHING RISES

-- nothing rises in a step after which the session is closed
nothing_rises : (h : Situation) (b : Bool) (d : Effect) → b ≡ true → begins_epoch h (cond b Nothing d) ≡ false
nothing_rises h true d e = refl
nothing_rises h false d e = cc

quit_rises : (h : Situation) (line : List ℕ) (r : Option Refusal) → begins_epoch h (line_effect (verdict_on says.Quit r) line) ≡ false
unfolding is_epoch_line
quit_rises h line None = refl
quit_rises h line (Some r) = refl

line_rises : (h : Situation) (held : List Order) (line : List ℕ) (r : Result IfaceMsg IfaceFault) → is_quit_message r ≡ true → begins_epoch h (line_effect (line_verdict h held line r) line) ≡ false
unfolding line_verdict
line_rises h held line (Err faults.UnknownCommand) q = cc
line_rises h held line (Err faults.BadArgument) q = cc
line_rises h held line (Ok says.Quit) q = quit_rises h line (refusal h held says.Quit)
line_rises h held line (Ok m) q = cc

either_rises : (h : Situation) (held : List Order) (b q : Bool) (line : List ℕ) (r : Result IfaceMsg IfaceFault) → is_quit_message r ≡ q → (b || q) ≡ true
    → begins_epoch h (cond b Nothing (line_effect (line_verdict h held line r) line)) ≡ false
either_rises h held true q line r e c = refl
either_rises h held false true line r e c = line_rises h held line r e
either_rises h held false false line r e c = cc

dead_rises : (h : Situation) (b : Bool) → begins_epoch h (cond b Nothing Dies) ≡ false
dead_rises h true = refl
dead_rises h false = refl

pub closed_rises : (ends : Ends) (h : Situation) (held : List Order) (e : Event) → h.closed ≡ ends.closed → (ends_after ends e).closed ≡ true → begins_epoch h (classify h held e) ≡ false
unfolding classify
closed_rises ends h held (events.Iface line) same c = either_rises h held h.closed (is_quit line) line (message_or_fault line) (sym (quit_first line)) (rw same c)
closed_rises ends h held events.IfaceLong same c = nothing_rises h h.closed LongLine (same ∙ c)
closed_rises ends h held (events.Engine line) same c = nothing_rises h h.closed (engine_says h line (engine_message line)) (same ∙ c)
closed_rises ends h held events.EngineEnd same c = dead_rises h (is_gone h.engine)
closed_rises ends h held events.EngineLost same c = dead_rises h (is_gone h.engine)
closed_rises ends h held e same c = refl

-- nor at Open
pub open_rises : (h : Situation) (held : List Order) (e : Event) → is_open e ≡ true → begins_epoch h (classify h held e) ≡ false
unfolding classify
open_rises h held events.Open o = refl
open_rises h held e o = cc

-- WHAT CLOSES

-- what can come in a step after which the session is closed
abbrev pub Closes : Effect → Type 0
Closes (Accepts says.Quit) = Unit {0}
Closes (Accepts m) = ⊥
Closes Boots = ⊥
Closes d = Unit {0}

quit_closes : (line : List ℕ) (r : Option Refusal) → Closes (line_effect (verdict_on says.Quit r) line)
quit_closes line None = tt
quit_closes line (Some r) = tt

line_closes : (h : Situation) (held : List Order) (line : List ℕ) (r : Result IfaceMsg IfaceFault) → is_quit_message r ≡ true → Closes (line_effect (line_verdict h held line r) line)
unfolding line_verdict
line_closes h held line (Err faults.UnknownCommand) q = cc
line_closes h held line (Err faults.BadArgument) q = cc
line_closes h held line (Ok says.Quit) q = quit_closes line (refusal h held says.Quit)
line_closes h held line (Ok m) q = cc

cond_closes : (b : Bool) (d : Effect) → b ≡ true → Closes (cond b Nothing d)
cond_closes true d e = tt
cond_closes false d e = cc

either_closes : (h : Situation) (held : List Order) (b q : Bool) (line : List ℕ) (r : Result IfaceMsg IfaceFault) → is_quit_message r ≡ q → (b || q) ≡ true → Closes (cond b Nothing (line_effect (line_verdict h held line r) line))
either_closes h held true q line r e c = tt
either_closes h held false true line r e c = line_closes h held line r e
either_closes h held false false line r e c = cc

dead_closes : (b : Bool) → Closes (cond b Nothing Dies)
dead_closes true = tt
dead_closes false = tt

pub closing : (ends : Ends) (h : Situation) (held : List Order) (e : Event) → h.closed ≡ ends.closed → (ends_after ends e).closed ≡ true → Closes (classify h held e)
unfolding classify
closing ends h held (events.Iface line) same c = either_closes h held h.closed (is_quit line) line (message_or_fault line) (sym (quit_first line)) (rw same c)
closing ends h held events.IfaceLong same c = cond_closes h.closed LongLine (same ∙ c)
closing ends h held (events.Engine line) same c = cond_closes h.closed (engine_says h line (engine_message line)) (same ∙ c)
closing ends h held events.EngineEnd same c = dead_closes (is_gone h.engine)
closing ends h held events.EngineLost same c = dead_closes (is_gone h.engine)
closing ends h held e same c = tt
