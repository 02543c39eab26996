-- The commands of the interface alone: the desk as it is folded over the events of the interface,
-- with an engine that never answers.
use Rattle.std.specs.Prelude.{ℕ, ◌≡◌, List, [], ◌∷◌, filter, map, Bool, true, false}
use Rattle.line_io.specs.Event.{Event}
use Rattle.line_io.specs.Event as events
use Rattle.cecp_lines.specs.Messages.{IfaceMsg}
use Rattle.cecp_lines.specs.Messages as says
use Rattle.cecp_lines.specs.Replies.{Reply}
use Rattle.cecp_lines.specs.declared.reply.Reason.TheVariants as reasons
use Rattle.game_record.specs.Game.{Game}
use Rattle.clock_map.specs.declared.clocks.Clocks.{Clocks}
use Rattle.policy_rules.specs.declared.setting_rules.settings.Settings.{Settings}
use Rattle.policy_rules.specs.ScoreRules.Scores.{does_accept}
use Rattle.search_epochs.specs.declared.words.EngineState.TheVariants as states
use Rattle.search_epochs.specs.Tickets.{is_move}
use Rattle.desk_rules.specs.declared.mode.Mode.{Mode}
use Rattle.desk_rules.specs.declared.effect.Refusal.TheVariants as refusals
use Rattle.desk_rules.specs.declared.desk.Desk.{Desk}
use Rattle.desk_rules.specs.Desk.{Situation, opening_desk, is_gone}
use Rattle.desk_rules.specs.Steps.{Effect, Refuses, Accepts, Defers, Shows}
use Rattle.desk_rules.specs.Steps.{Forfeits, classify, call_after, desk_after}
use Rattle.desk_rules.specs.Replies.{replies_of}
use Rattle.adapter_core.specs.declared.ends.Ends.{Ends}
use Rattle.adapter_core.specs.Ends.{ends_after, at_start}
use Rattle.adapter_core.specs.Trace.{Step, LawfulTrace, state, situation_of_state, effect, event_of_step}

-- the parts of the desk that the interface commands
pub record Commanded : Type 0 where
  pub game : Game
  pub mode : Mode
  pub post : Bool
  pub pondering : Bool
  pub clocks : Clocks
  pub pings : List ℕ

abbrev pub commanded_part : Desk → Commanded
commanded_part d = record {
  game = d.game;
  mode = d.mode;
  post = d.post;
  pondering = d.pondering;
  clocks = d.clocks;
  pings = d.pings;
}

-- THE INTERFACE ALONE

-- the situation if the engine never says anything: no move is shown, so the policy has no scores
abbrev pub lone : Settings → Bool → Desk → Situation
lone o closed d = record {
  settings = o;
  closed = closed;
  engine = states.Idle;
  spent = false;
  desk = d;
  resigns = false;
  accepts = does_accept o [];
}

-- which sides have ended, and the desk
pub record Alone : Type 0 where
  pub ends : Ends
  pub desk : Desk

abbrev pub lone_situation : Settings → Alone → Situation
lone_situation o a = lone o a.ends.closed a.desk

abbrev pub lone_effect : Settings → Alone → Event → Effect
lone_effect o a e = classify (lone_situation o a) [] e

-- a Move is owed wherever one is called for, since no call is spent
abbrev pub lone_owes : Settings → Alone → Event → Bool
lone_owes o a e =
    is_move (call_after (ends_after a.ends e).closed (lone_situation o a) (lone_effect o a e))

abbrev pub lone_after : Settings → Alone → Event → Alone
lone_after o a e = record {
  ends = ends_after a.ends e;
  desk =
      desk_after (ends_after a.ends e).closed (lone_owes o a e) false (lone_situation o a)
      (lone_effect o a e);
}

-- after these events, the newest first
abbrev pub commanded_alone : Settings → List Event → Alone
commanded_alone o [] = record { ends = at_start; desk = opening_desk }
commanded_alone o (e ∷ es) = lone_after o (commanded_alone o es) e

abbrev pub lone_replies : Settings → Alone → Event → List Reply
lone_replies o a e =
    replies_of (ends_after a.ends e).closed (lone_owes o a e) false (lone_situation o a)
    (lone_effect o a e)

-- TRACES IN WHICH THE ENGINE HAS NO SAY

abbrev pub is_of_iface : Event → Bool
is_of_iface (events.Iface line) = true
is_of_iface events.IfaceLong = true
is_of_iface events.IfaceEnd = true
is_of_iface events.IfaceLost = true
is_of_iface e = false

abbrev pub iface_events : List Step → List Event
iface_events trace = filter is_of_iface (map event_of_step trace)

-- an answer to a current search for a Move
abbrev pub is_move_answer : Effect → Bool
is_move_answer (Shows best hint) = true
is_move_answer (Forfeits answer) = true
is_move_answer d = false

-- a line that asks for more than may be held
abbrev pub is_overfull : Effect → Bool
is_overfull (Refuses (refusals.Because reasons.TooManySettings) line) = true
is_overfull d = false

-- No step answers, no line was refused for too many settings.
abbrev pub IsUnanswered : Settings → List Step → Type 0
IsUnanswered o [] = Unit {0}
IsUnanswered o (step ∷ trace) =
    IsUnanswered o trace × (is_move_answer (effect (state o trace) step.event) ≡ false)
    × (is_overfull (effect (state o trace) step.event) ≡ false)

-- and the engine is there
pub record IsWithoutSay (o : Settings) (trace : List Step) : Type 0 where
  pub unanswered : IsUnanswered o trace
  pub there : is_gone (situation_of_state (state o trace)).engine ≡ false

-- the replies to these may report on the engine's options and of its search
abbrev pub may_report_engine : Effect → Bool
may_report_engine (Accepts (says.Protover n)) = true
may_report_engine (Accepts (says.SetOption name value)) = true
may_report_engine (Accepts (says.Memory n)) = true
may_report_engine (Accepts (says.Cores n)) = true
may_report_engine (Accepts (says.EgtPath kind path)) = true
may_report_engine (Accepts says.Dot) = true
may_report_engine (Defers line) = true
may_report_engine (Refuses (refusals.Because reasons.UnknownOption) line) = true
may_report_engine (Refuses (refusals.Because reasons.BadValue) line) = true
may_report_engine d = false

-- If the engine has no say, the parts that the interface commands are those of the interface alone.
abbrev pub DeskIsAlone : Settings → Type 0
DeskIsAlone o =
    (trace : List Step) → LawfulTrace o trace → IsWithoutSay o trace
    → commanded_part (state o trace).desk ≡ commanded_part (commanded_alone o (iface_events trace)).desk

-- And so are the replies to its events, except those that report on the engine.
abbrev pub RepliesAreAlone : Settings → Type 0
RepliesAreAlone o =
    (step : Step) (trace : List Step) → LawfulTrace o (step ∷ trace) → IsWithoutSay o (step ∷ trace)
    → is_of_iface step.event ≡ true
    → may_report_engine (effect (state o trace) step.event) ≡ false
    → step.replies ≡ lone_replies o (commanded_alone o (iface_events trace)) step.event

-- So two traces with the same events of the interface have the same parts, whenever
-- the engine spoke in them.
abbrev pub IsApartFromEngine : Settings → Type 0
IsApartFromEngine o =
    (trace trace' : List Step) → LawfulTrace o trace → LawfulTrace o trace' → IsWithoutSay o trace
    → IsWithoutSay o trace' → iface_events trace ≡ iface_events trace'
    → commanded_part (state o trace).desk ≡ commanded_part (state o trace').desk
