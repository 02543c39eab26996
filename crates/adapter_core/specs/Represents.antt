-- When a core stands for a trace.
use Rattle.std.specs.Prelude.{◌≡◌, ℕ, ◌≤◌, List, [], ◌∷◌, ◌++◌, map}
use Rattle.std.specs.Prelude.{length, true, false, ◌||◌, IfSome}
use Rattle.std.specs.List.{flat_map}
use Rattle.line_io.specs.Event.{Event}
use Rattle.line_io.specs.Out.{Text}
use Rattle.uci_lines.specs.Orders.{Order}
use Rattle.policy_rules.specs.declared.setting_rules.settings.Settings.{Settings}
use Rattle.policy_rules.specs.SettingRules.Policy.{IsProper}
use Rattle.policy_rules.specs.ScoreRules.Scores.{score_counts}
use Rattle.search_epochs.specs.declared.words.EngineState.TheVariants as states
use Rattle.search_epochs.specs.Tickets.{Engine, Boot, Search, is_move}
use Rattle.search_epochs.specs.Dialogue as dialogues
use Rattle.search_epochs.specs.Dialogue.{dialogue_between_steps, mid_dialogue, owed_by_dialogue}
use Rattle.search_epochs.specs.Dialogue.{is_hit_order}
use Rattle.desk_rules.specs.Desk.{Situation, is_gone}
use Rattle.desk_rules.specs.Steps.{Effect, classify, what_of, begins_epoch, call_after, is_death}
use Rattle.desk_rules.specs.Orders.{orders_waiting, AreHeld}
use Rattle.desk_rules.specs.Replies.{replies_of}
use Rattle.desk_rules.specs.Fits.{DeskInvariant, OnlyNewGameIsHeld, IsServed}
use Rattle.adapter_core.specs.declared.session.TheConstants.{ROOM}
use Rattle.adapter_core.specs.Ends.{ends_after, is_open}
use Rattle.adapter_core.specs.Parts as parts
use Rattle.adapter_core.specs.Parts.{CoreParts, step_choice, desk_with, step_orders}
use Rattle.adapter_core.specs.Trace.{State, Step, LawfulTrace, state, event_of_step, iface_text, engine_text}
use Rattle.line_io.specs.Lines.{line_feed}
use Rattle.desk_rules.specs.declared.pings.TheConstants.{MOST_PINGS}

-- what the core keeps of a state, if these are its buffers
abbrev pub parts_of_state : State → Text → Text → CoreParts
parts_of_state s to_iface to_engine = record {
  settings = s.settings;
  ends = s.ends;
  desk = s.desk;
  scores = score_counts s.settings s.scores;
  held = s.held;
  dialogue = dialogue_between_steps s.dialogue s.desk.hint;
  to_iface = to_iface;
  to_engine = to_engine;
}

abbrev pub TicketIsWithin : ℕ → Engine → Type 0
TicketIsWithin epoch (Search k t s) = t ≤ epoch
TicketIsWithin epoch e = Unit {0}

-- what holds after each lawful trace
pub record StateInvariant (s : State) : Type 0 where
  pub proper : IsProper s.settings
  -- before Open nothing was written
  pub begins : s.ends.opened ≡ false → s.dialogue.engine ≡ Boot
  pub ticket : TicketIsWithin s.dialogue.epoch s.dialogue.engine
  pub last : IfSome s.dialogue.last (λ t. t ≤ s.dialogue.epoch)
  pub held : AreHeld s.held

-- The core stands for the trace.
abbrev pub Represents : Settings → CoreParts → List Step → Type 0
Represents o core trace =
    (core ≡ parts_of_state (state o trace) core.to_iface core.to_engine) × StateInvariant (state o trace)

-- The invariant of the core itself, whatever it stands for.
pub record CoreInvariant (v : CoreParts) : Type 0 where
  pub settings : IsProper v.settings
  pub sound : DeskInvariant v.desk
  -- a current search serves the call
  pub serves : IsServed (parts.situation_of_parts v)
  pub pings : length v.desk.pings ≤ MOST_PINGS
  pub first : v.dialogue.state ≡ states.Boot → OnlyNewGameIsHeld v.held × (v.desk.booted ≡ false)
  pub to_iface : v.to_iface.room ≡ ROOM
  pub to_engine : v.to_engine.room ≡ ROOM

-- the step that an event gives, by what stood, what came of the event, what is held then and
-- what the dialogue is then
abbrev pub step_from : Situation → Effect → CoreParts → Event → List Order → dialogues.Dialogue
    → Step
step_from h d v e held m =
    let owes = is_move (owed_by_dialogue m (call_after (ends_after v.ends e).closed h d)) in
    let o = step_choice (is_open e) (ends_after v.ends e).closed h held d m in
    record {
      event = e;
      replies = replies_of (ends_after v.ends e).closed owes (is_hit_order o) h d;
      orders = step_orders h.settings (is_open e) v.ends.closed (ends_after v.ends e).closed
          (is_gone h.engine || is_death d) held (desk_with h d e v owes o) o;
    }

abbrev pub step_at : Situation → Effect → CoreParts → Event → Step
step_at h d v e =
    step_from h d v e (orders_waiting h v.held d)
    (mid_dialogue v.dialogue (what_of d) (begins_epoch h d))

unfoldable pub step_by : CoreParts → Event → Step
step_by v e = step_at (parts.situation_of_parts v) (classify (parts.situation_of_parts v) v.held e) v e

-- two lawful traces with the same settings and the same events are equal
abbrev pub IsOneDialogue : Settings → Type 0
IsOneDialogue o =
    (t t' : List Step) → LawfulTrace o t → LawfulTrace o t' → map event_of_step t ≡ map event_of_step t' → t ≡ t'

-- nothing is written to the interface once it has ended or was lost
abbrev pub IsSilentToIface : Settings → Type 0
IsSilentToIface o =
    (t : List Step) (step : Step) → LawfulTrace o (step ∷ t)
    → ((state o (step ∷ t)).ends.iface || (state o (step ∷ t)).ends.iface_lost) ≡ true
    → step.replies ≡ []

-- nothing is written to the engine once it has ended or was lost
abbrev pub IsSilentToEngine : Settings → Type 0
IsSilentToEngine o =
    (t : List Step) (step : Step) → LawfulTrace o (step ∷ t)
    → ((state o (step ∷ t)).ends.engine || (state o (step ∷ t)).ends.engine_lost) ≡ true
    → step.orders ≡ []

-- There is a step of this event with these lines. It extends each lawful trace that the core stood
-- for, and then the core stands for that.
pub record Extends (old new : CoreParts) (e : Event) (iface engine : List ℕ) : Type 0 where
  pub step : Step
  pub event : step.event ≡ e
  pub iface_is : iface ≡ iface_text step
  pub engine_is : engine ≡ engine_text step
  pub extends : (o : Settings) (t : List Step) → LawfulTrace o t → Represents o old t
      → LawfulTrace o (step ∷ t) × Represents o new (step ∷ t)

-- the text is whole lines, each ended by a line feed
pub record IsWholeLines (text : List ℕ) : Type 0 where
  pub lines : List (List ℕ)
  pub text_is : text ≡ flat_map (λ line. line ++ line_feed ∷ []) lines
