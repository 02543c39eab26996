-- Traces: what was heard and written, step by step, the newest step first.
use Rattle.std.specs.Prelude.{◌≡◌, ℕ, List, [], ◌∷◌, ◌++◌, map, Bool}
use Rattle.std.specs.Prelude.{true, false, ◌||◌, if◌then◌else◌, None}
use Rattle.line_io.specs.Event.{Event}
use Rattle.cecp_lines.specs.Replies.{Reply}
use Rattle.uci_lines.specs.Orders.{Order}
use Rattle.uci_lines.specs.Orders as orders
use Rattle.policy_rules.specs.declared.setting_rules.settings.Settings.{Settings}
use Rattle.policy_rules.specs.ScoreRules.Scores.{Score, does_resign, does_accept}
use Rattle.search_epochs.specs.declared.words.Call.{Call}
use Rattle.search_epochs.specs.Tickets as dialogues
use Rattle.search_epochs.specs.Tickets.{Ticketed, DialogueTurn, Word, IsReady, Settled}
use Rattle.search_epochs.specs.Tickets.{before_orders, engine_after_orders, is_call_spent, owed}
use Rattle.search_epochs.specs.Tickets.{is_due, is_ponder_hit, is_move, is_move_now, has_go}
use Rattle.search_epochs.specs.Dialogue.{forget}
use Rattle.desk_rules.specs.declared.desk.Desk.{Desk}
use Rattle.desk_rules.specs.Desk.{Situation, opening_desk, is_gone}
use Rattle.desk_rules.specs.Steps.{Effect, classify, what_of, begins_epoch}
use Rattle.desk_rules.specs.Steps.{call_after, desk_after, scores_after, is_death}
use Rattle.desk_rules.specs.Orders.{orders_waiting, search_orders, dialogue_word_of}
use Rattle.desk_rules.specs.Replies.{replies_of}
use Rattle.option_map.specs.FeatureLists.Features.{reply_lines}
use Rattle.desk_rules.specs.Texts.{order_lines}
use Rattle.adapter_core.specs.declared.ends.Ends.{Ends}
use Rattle.adapter_core.specs.Ends.{may, ends_after, is_open, at_start}

-- an event, the lines to the interface and the orders to the engine
pub record Step : Type 0 where
  pub event : Event
  pub replies : List Reply
  pub orders : List Order

abbrev pub event_of_step : Step → Event
event_of_step step = step.event

-- what a step wrote to the interface and to the engine, each line with its line feed
abbrev pub iface_text : Step → List ℕ
iface_text step = reply_lines step.replies

abbrev pub engine_text : Step → List ℕ
engine_text step = order_lines step.orders

-- what a trace leaves: each part is a fold of it
pub record State : Type 0 where
  pub settings : Settings
  pub ends : Ends
  pub desk : Desk
  -- the scores of shown moves since they were cleared, the newest first
  pub scores : List Score
  -- the settings orders that were asked for and not written yet, the oldest first
  pub held : List Order
  pub dialogue : Ticketed

abbrev pub opening_state : Settings → State
opening_state o = record {
  settings = o;
  ends = at_start;
  desk = opening_desk;
  scores = [];
  held = [];
  dialogue = record { engine = dialogues.Boot; epoch = 0; last = None; unfenced = false };
}

-- the situation when an event comes
abbrev pub situation_of_state : State → Situation
situation_of_state s = record {
  settings = s.settings;
  closed = s.ends.closed;
  engine = forget s.dialogue.epoch s.dialogue.engine;
  spent = is_call_spent s.dialogue;
  desk = s.desk;
  resigns = does_resign s.settings (s.desk.search_info.score ∷ s.scores);
  accepts = does_accept s.settings s.scores;
}

abbrev pub effect : State → Event → Effect
effect s e = classify (situation_of_state s) s.held e

abbrev pub closed_after : State → Event → Bool
closed_after s e = (ends_after s.ends e).closed

-- what an event is to the dialogue
abbrev pub turn_of_event : State → Event → DialogueTurn
turn_of_event s e = record {
  what = what_of (effect s e);
  hint = s.desk.hint;
  begins_epoch = begins_epoch (situation_of_state s) (effect s e);
  call = call_after (closed_after s e) (situation_of_state s) (effect s e);
  waiting = map dialogue_word_of (orders_waiting (situation_of_state s) s.held (effect s e));
  fences = s.settings.fence_stops;
}

-- the dialogue after the event, before the orders
abbrev pub mid : State → Event → Ticketed
mid s e = before_orders s.dialogue (turn_of_event s e)

-- what is owed after an event
abbrev pub owed_after : State → Event → Call
owed_after s e = owed (mid s e) (turn_of_event s e).call

-- the step writes `ponderhit`
abbrev pub step_hits : State → Event → Bool
step_hits s e = is_ponder_hit s.dialogue (turn_of_event s e)

-- the lines to the interface
abbrev pub step_replies : State → Event → List Reply
step_replies s e =
    replies_of (closed_after s e) (is_move (owed_after s e)) (step_hits s e) (situation_of_state s)
    (effect s e)

-- the desk after an event
abbrev pub desk_of : State → Event → Desk
desk_of s e =
    desk_after (closed_after s e) (is_move (owed_after s e)) (step_hits s e) (situation_of_state s)
    (effect s e)

abbrev pub has_ready : List Word → Bool
has_ready [] = false
has_ready (IsReady ∷ ws) = true
has_ready (w ∷ ws) = has_ready ws

-- what is still held after these orders: `isready` takes all out
abbrev pub still_held : List Order → List Word → List Order
still_held waits ws = if has_ready ws then [] else waits

abbrev pub trace_state_after : State → Step → State
trace_state_after s step = record {
  settings = s.settings;
  ends = ends_after s.ends step.event;
  desk = desk_of s step.event;
  scores = scores_after (situation_of_state s) (effect s step.event) s.scores;
  held = still_held (orders_waiting (situation_of_state s) s.held (effect s step.event))
      (map dialogue_word_of step.orders);
  dialogue = engine_after_orders (mid s step.event) (map dialogue_word_of step.orders);
}

abbrev pub state : Settings → List Step → State
state o [] = opening_state o
state o (step ∷ trace) = trace_state_after (state o trace) step

-- the engine after the event is Gone
abbrev pub is_gone_after : State → Event → Bool
is_gone_after s e = is_gone (situation_of_state s).engine || is_death (effect s e)

-- the orders of a step that closes the session
abbrev pub closing_step_orders : Bool → List Order
closing_step_orders gone = if gone then [] else orders.Quit ∷ []

-- The orders of a step after which the session is not closed.
pub record AreSettled (s : State) (e : Event) (os : List Order) : Type 0 where
  pub words : Settled (mid s e).engine (mid s e).epoch (owed_after s e) (turn_of_event s e).waiting
      (is_due s.dialogue (turn_of_event s e)) (is_ponder_hit s.dialogue (turn_of_event s e)) (is_move_now (turn_of_event s e).what)
      (map dialogue_word_of os)
  -- a batch is all that is held, in order, and then `isready`
  pub batch : is_due s.dialogue (turn_of_event s e) ≡ true
      → os ≡ orders_waiting (situation_of_state s) s.held (effect s e) ++ orders.IsReady ∷ []
  -- a search is for what is owed, in the position and by the clocks after the event
  pub search : has_go (map dialogue_word_of os) ≡ true
      → os ≡ search_orders s.settings (desk_of s e) (owed_after s e)
  -- with FenceStops on it is written only where no `stop` is unfenced
  pub fenced : s.settings.fence_stops ≡ true → has_go (map dialogue_word_of os) ≡ true
      → (mid s e).unfenced ≡ false

-- a step that may follow
pub record IsLawfulStep (s : State) (step : Step) : Type 0 where
  pub may_come : may s.ends step.event ≡ true
  pub replies : step.replies ≡ step_replies s step.event
  pub opens : is_open step.event ≡ true → step.orders ≡ orders.Uci ∷ []
  pub closes : s.ends.closed ≡ false → closed_after s step.event ≡ true
      → step.orders ≡ closing_step_orders (is_gone_after s step.event)
  pub closed : is_open step.event ≡ false → s.ends.closed ≡ true → step.orders ≡ []
  pub settled : is_open step.event ≡ false → closed_after s step.event ≡ false
      → AreSettled s step.event step.orders

abbrev pub LawfulTrace : Settings → List Step → Type 0
LawfulTrace o [] = Unit {0}
LawfulTrace o (step ∷ trace) = LawfulTrace o trace × IsLawfulStep (state o trace) step
