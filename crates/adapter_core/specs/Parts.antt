-- The parts of the core, and how an event changes them.
use Rattle.std.specs.Prelude.{List, [], ◌∷◌, Bool, true, false, not}
use Rattle.std.specs.Prelude.{◌||◌, ◌&&◌, if◌then◌else◌, ◌≤◌, length, ◌≡◌, ◌+◌}
use Rattle.line_io.specs.Event.{Event}
use Rattle.line_io.specs.Out.{empty, with}
use Rattle.uci_lines.specs.Orders.{Order}
use Rattle.uci_lines.specs.Orders as orders
use Rattle.option_map.specs.FeatureLists.Features.{reply_lines}
use Rattle.policy_rules.specs.declared.setting_rules.settings.Settings.{Settings}
use Rattle.policy_rules.specs.declared.score_rules.scores.Scores.{Scores}
use Rattle.policy_rules.specs.ScoreRules.Scores.{Score, no_scores, after_shown, resigns_by, accepts_by}
use Rattle.search_epochs.specs.declared.words.Call.{Call}
use Rattle.search_epochs.specs.declared.words.Call.TheVariants as calls
use Rattle.search_epochs.specs.declared.words.EngineState.{EngineState}
use Rattle.search_epochs.specs.declared.words.EngineState.TheVariants as states
use Rattle.search_epochs.specs.declared.words.Orders.{Orders}
use Rattle.search_epochs.specs.declared.words.Orders.TheVariants as chosen
use Rattle.search_epochs.specs.Tickets.{is_move, is_move_now}
use Rattle.search_epochs.specs.Dialogue as dialogues
use Rattle.search_epochs.specs.Dialogue.{owed_by_dialogue, is_unfenced, mid_dialogue, settle, after_settled}
use Rattle.search_epochs.specs.Dialogue.{played_of, is_hit_order, is_batch_order}
use Rattle.desk_rules.specs.declared.effect.Context.{Context}
use Rattle.desk_rules.specs.declared.desk.Desk.{Desk}
use Rattle.desk_rules.specs.Desk.{at, Situation, opening_desk, is_gone}
use Rattle.desk_rules.specs.Steps.{Effect, classify, what_of, begins_epoch, call_after}
use Rattle.desk_rules.specs.Steps.{desk_after_effect, desk_after, is_boots, is_death, counts_after}
use Rattle.desk_rules.specs.Orders.{orders_waiting, order_list}
use Rattle.desk_rules.specs.Replies.{replies_of}
use Rattle.desk_rules.specs.Texts.{order_lines}
use Rattle.desk_rules.specs.Fits.{EffectFitsDesk, IsFit, DeskInvariant, IsServed, CanHold}
use Rattle.adapter_core.specs.declared.session.TheConstants.{ROOM}
use Rattle.adapter_core.specs.declared.session.CoreParts as code
use Rattle.adapter_core.specs.Ends.{ends_after, is_open, at_start}
use Rattle.desk_rules.specs.declared.pings.TheConstants.{MOST_PINGS}

-- the parts of the core
abbrev pub CoreParts : Type 0
CoreParts = code.CoreParts

abbrev pub opening_core_parts : Settings → CoreParts
opening_core_parts o = record {
  settings = o;
  ends = at_start;
  desk = opening_desk;
  scores = no_scores o;
  held = [];
  dialogue = dialogues.opening;
  to_iface = empty ROOM;
  to_engine = empty ROOM;
}

abbrev pub context_of : Settings → Bool → EngineState → Bool → Score → Scores → Context
context_of o closed engine spent score scores = record {
  settings = o;
  closed = closed;
  engine = engine;
  spent = spent;
  resigns = resigns_by (after_shown scores score);
  accepts = accepts_by scores;
}

abbrev pub situation_of_parts : CoreParts → Situation
situation_of_parts v =
    at (context_of v.settings v.ends.closed v.dialogue.state v.dialogue.spent v.desk.search_info.score
    v.scores) v.desk

abbrev pub none_held : List Order → Bool
none_held [] = true
none_held (order ∷ held) = false

-- orders wait, or Boot was left
abbrev pub is_step_unsent : List Order → Effect → Bool
is_step_unsent held d = is_boots d || not (none_held held)

-- a batch is unsent: orders wait, Boot was left, or with FenceStops on a `stop` is unfenced and
-- something is owed
abbrev pub is_batch_unsent : Situation → List Order → Effect → dialogues.Dialogue → Call → Bool
is_batch_unsent h held d mid call = is_step_unsent held d || (h.settings.fence_stops && is_unfenced mid call)

-- The part of a call that counts: in Idle the search that it asks for, and else whether it asks for a Move.
abbrev pub seen_call : EngineState → Call → Call
seen_call states.Idle call = call
seen_call e call = if is_move call then calls.Move else calls.Nothing

-- the orders that are chosen: none at Open and in a closed session
abbrev pub step_choice : Bool → Bool → Situation → List Order → Effect → dialogues.Dialogue → Orders
step_choice opens closed h held d mid =
    if opens || closed then chosen.None
    else settle mid (call_after closed h d) (is_batch_unsent h held d mid (call_after closed h d))
    (played_of (what_of d)) (is_move_now (what_of d))

-- the orders of a step, under these settings, if these are held
abbrev pub step_orders : Settings → Bool → Bool → Bool → Bool → List Order → Desk → Orders
    → List Order
step_orders o opens closed closed_now gone held desk step_choice =
    if opens then orders.Uci ∷ []
    else (if closed_now then (if closed || gone then [] else orders.Quit ∷ [])
    else order_list o held desk step_choice)

-- the core after an event: its parts, by what stood, what came of the event, what is held then,
-- what the dialogue is then, whether a Move is owed then, what was chosen and the desk then
abbrev pub finish : Situation → Effect → Event → CoreParts → List Order → dialogues.Dialogue → Bool
    → Orders → Desk → CoreParts
finish h d e v held m owes o desk = record {
  settings = v.settings;
  ends = ends_after v.ends e;
  desk = desk;
  scores = counts_after h.desk.search_info.score d v.scores;
  held = (if is_batch_order o then [] else held);
  dialogue = after_settled m o;
  to_iface =
      with (empty v.to_iface.room) (reply_lines (replies_of (ends_after v.ends e).closed owes (is_hit_order o) h d));
  to_engine =
      with (empty v.to_engine.room)
      (order_lines (step_orders h.settings (is_open e) v.ends.closed (ends_after v.ends e).closed
      (is_gone h.engine || is_death d) held desk o));
}

abbrev pub desk_with : Situation → Effect → Event → CoreParts → Bool → Orders → Desk
desk_with h d e v owes o = desk_after (ends_after v.ends e).closed owes (is_hit_order o) h d

abbrev pub advance_from : Situation → Effect → Event → CoreParts → List Order → dialogues.Dialogue
    → CoreParts
advance_from h d e v held m =
    let owes = is_move (owed_by_dialogue m (call_after (ends_after v.ends e).closed h d)) in
    let o = step_choice (is_open e) (ends_after v.ends e).closed h held d m in
    finish h d e v held m owes o (desk_with h d e v owes o)

abbrev pub advance_at : Situation → Effect → CoreParts → Event → CoreParts
advance_at h d v e =
    advance_from h d e v (orders_waiting h v.held d)
    (mid_dialogue v.dialogue (what_of d) (begins_epoch h d))

unfoldable pub advance : CoreParts → Event → CoreParts
advance v e = advance_at (situation_of_parts v) (classify (situation_of_parts v) v.held e) v e

-- The conditions for the core to go on from the effect of an event.
pub record CoreCanFollow (h : Situation) (d : Effect) : Type 0 where
  pub sound : DeskInvariant h.desk
  pub fits : IsFit h d
  pub served : IsServed h
  pub pings : length h.desk.pings ≤ MOST_PINGS
  -- the desk then
  pub sound_then : DeskInvariant (desk_after_effect h d)
  pub pings_then : length (desk_after_effect h d).pings ≤ MOST_PINGS + 1

-- The conditions for the core to take an event, in this situation and with this effect.
pub record IsReadyFor (h : Situation) (v : CoreParts) (d : Effect) : Type 0 where
  pub follow : CoreCanFollow h d
  pub fits : EffectFitsDesk h v.held d
  pub holds : CanHold v.held d
  pub to_iface : v.to_iface.room ≡ ROOM
  pub to_engine : v.to_engine.room ≡ ROOM
