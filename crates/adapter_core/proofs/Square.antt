-- A step of the core is a step of the trace that it stands for.
use Rattle.std.proofs.Common.{◌≡◌, ℕ, List, [], ◌∷◌, map, Bool, true, false, not, cond, ◌&&◌, ◌||◌, Option, Some, None, refl, sym, ap, subst, ◌∙◌}
use Rattle.std.proofs.lemmas.Bool.{not-true, both_ways, false_from_ne_true}
use Rattle.line_io.specs.Event.{Event}
use Rattle.line_io.specs.Event as events
use Rattle.line_io.specs.Out.{Text, empty, with}
use Rattle.chess_board.specs.declared.board.Move.{Move}
use Rattle.cecp_lines.specs.Replies.{Reply}
use Rattle.uci_lines.specs.Orders.{Order}
use Rattle.uci_lines.specs.Orders as orders
use Rattle.policy_rules.specs.declared.score_rules.scores.Scores.{Scores}
use Rattle.policy_rules.specs.ScoreRules.Scores.{score_counts}
use Rattle.search_epochs.specs.declared.words.Call.{Call}
use Rattle.search_epochs.specs.declared.words.Call.TheVariants as calls
use Rattle.search_epochs.specs.declared.words.Orders.{Orders}
use Rattle.search_epochs.specs.declared.words.Orders.TheVariants as chosen
use Rattle.search_epochs.specs.Tickets.{Ticketed, DialogueTurn, Engine, Boot, Getting, Idle, Search, Gone, Word, Uci, Quit, AllSetup, Settled, before_orders, engine_after_orders, ticket_ponders, ponders_at, engine_after_word, sent_all, is_due, is_ponder_hit, is_hint_played, Quiet, is_move, is_move_now, has_go, has_stop, leaves_boot, is_call_spent, needs_fence}
use Rattle.search_epochs.specs.Dialogue as dialogues
use Rattle.search_epochs.specs.Dialogue.{forget, dialogue_between_steps, words, settle, after_settled, is_pondered, played_of, is_hit_order, is_batch_order}
use Rattle.search_epochs.proofs.Whole.{mid_kept, kept_mid, is_unsent, settled_by, whole_mid, ponders_before, same_parts, hit_kept}
use Rattle.search_epochs.proofs.Fences.{go_fenced}
use Rattle.search_epochs.proofs.Turns.{TicketWithin}
use Rattle.search_epochs.proofs.Rests.{rested, hit_chosen, batch_chosen, begun}
use Rattle.search_epochs.proofs.Histories.{quit_sent}
use Rattle.option_map.specs.FeatureLists.Features.{reply_lines}
use Rattle.think_text.specs.Kept.{nothing_seen}
use Rattle.desk_rules.specs.declared.desk.Desk.{Desk}
use Rattle.desk_rules.specs.Desk.{Situation}
use Rattle.desk_rules.specs.Replies.{replies_of}
use Rattle.desk_rules.specs.Steps.{Effect, counts_after, classify, what_of, begins_epoch, desk_after_effect, answers_pings, scores_after, over_where, resigns_when_gone}
use Rattle.desk_rules.specs.Orders.{orders_waiting, order_list, dialogue_word_of}
use Rattle.desk_rules.specs.Texts.{order_lines}
use Rattle.desk_rules.specs.Fits.{EffectFitsDesk, DeskInvariant, IsLineEvent}
use Rattle.desk_rules.proofs.Effects.{comes_fits}
use Rattle.desk_rules.proofs.Hints.{hint_kept, call_hint}
use Rattle.desk_rules.proofs.Waits.{all_setup, all_held}
use Rattle.desk_rules.specs.Orders.{AreHeld}
use Rattle.adapter_core.specs.Ends.{may, ends_after, is_open}
use Rattle.adapter_core.specs.Trace.{State, Step, IsLawfulStep, AreSettled, trace_state_after, situation_of_state, effect, turn_of_event, mid, owed_after, closed_after, step_hits, desk_of, is_gone_after, step_replies, still_held, has_ready, closing_step_orders}
use Rattle.adapter_core.specs.Parts as parts
use Rattle.adapter_core.specs.Parts.{CoreParts, advance, advance_at, advance_from, finish, step_choice, desk_with, none_held, step_orders}
use Rattle.adapter_core.specs.Represents.{parts_of_state, StateInvariant, TicketIsWithin, step_from, step_at, step_by}
use Rattle.adapter_core.proofs.Policy.{situation_kept, counts_kept}
use Rattle.adapter_core.proofs.Closing.{closed_stays, closes_later, closed_rises, open_rises}
use Rattle.adapter_core.proofs.Orders.{words_are, ready_words, no_words, boots_are}

pub within : (epoch : ℕ) (e : Engine) → TicketIsWithin epoch e → TicketWithin epoch e
within epoch Boot w = tt
within epoch Getting w = tt
within epoch Idle w = tt
within epoch (Search k t s) w = w
within epoch Gone w = tt

clears : (r a b : Bool) → (r ≡ true → a ≡ b) → (r && not a) ≡ (r && not b)
clears true a b f = ap not (f refl)
clears false a b f = refl

not_skipped : (o c : Bool) (x : Orders) → o ≡ false → c ≡ false → cond (o || c) chosen.None x ≡ x
not_skipped true c x a b = cc
not_skipped false true x a b = cc
not_skipped false false x a b = refl

pub for_owed : (b : Bool) (c : Call) (g : Move) → cond b calls.Nothing c ≡ calls.Ponder g → c ≡ calls.Ponder g
for_owed true c g x = cc
for_owed false c g x = x

-- the dialogue where no orders are chosen
rest : (t : Ticketed) (u : DialogueTurn) (h' : Option Move) (ws : List Word) → TicketWithin t.epoch t.engine → (u.begins_epoch ≡ false → h' ≡ u.hint)
    → sent_all (before_orders t u).epoch (before_orders t u).engine ws ≡ (before_orders t u).engine
    → has_stop ws ≡ false
    → after_settled (kept_mid t u) chosen.None ≡ dialogue_between_steps (engine_after_orders (before_orders t u) ws) h'
rest t u h' ws w same e n =
    let m = before_orders t u in
    let hints : ticket_ponders m ≡ true → cond (ticket_ponders t) u.hint None ≡ h' = λ p. (let b = ponders_before t u w p in ap (λ c. cond c u.hint None) b.1 ∙ sym (same b.0)) in
    same_parts (ap (forget m.epoch) (sym e)) refl (rested m.epoch m.engine (cond (ticket_ponders t) u.hint None) h' hints ∙ ap (λ (x : Engine). cond (ponders_at m.epoch x) h' None) (sym e))
    (ap (λ b. b || m.unfenced) (sym n))

open_engine : (s : State) (e : Event) → is_open e ≡ true → may s.ends e ≡ true → (s.ends.opened ≡ false → s.dialogue.engine ≡ Boot) → (mid s e).engine ≡ Boot
unfolding classify
open_engine s events.Open o m b = b (not-true s.ends.opened m)
open_engine s e o m b = cc

-- no `ponderhit` is written at Open
opened_misses : (o c : Bool) (x : Orders) → o ≡ true → is_hit_order (cond (o || c) chosen.None x) ≡ false
opened_misses true c x e = refl
opened_misses false c x e = cc

quiet_misses : (ponders wants : Bool) (hint : Option Move) → (ponders && is_hint_played hint Quiet && wants) ≡ false
quiet_misses true wants None = refl
quiet_misses true wants (Some h) = refl
quiet_misses false wants None = refl
quiet_misses false wants (Some h) = refl

open_misses : (s : State) (e : Event) → is_open e ≡ true → step_hits s e ≡ false
unfolding classify
open_misses s events.Open o = quiet_misses (ticket_ponders s.dialogue) (is_move (owed_after s events.Open)) s.desk.hint
open_misses s e o = cc

hits_alike : (closed owes a b : Bool) (h : Situation) (d : Effect) → (closed ≡ false → a ≡ b) → replies_of closed owes a h d ≡ replies_of closed owes b h d
hits_alike true owes a b h d f = refl
hits_alike false owes a b h d f = ap (λ (x : Bool). replies_of false owes x h d) (f refl)

module _ (s : State) (to_iface to_engine : Text) (e : Event) (holds : StateInvariant s) (sound : DeskInvariant s.desk) (line : IsLineEvent e) where
  abbrev old : CoreParts
  old = parts_of_state s to_iface to_engine

  abbrev dialogue_mid : dialogues.Dialogue
  dialogue_mid = kept_mid s.dialogue (turn_of_event s e)

  abbrev owes : Bool
  owes = is_move (owed_after s e)

  abbrev waits : List Order
  waits = orders_waiting (situation_of_state s) s.held (effect s e)

  abbrev choice_situation : Orders
  choice_situation = step_choice (is_open e) (closed_after s e) (situation_of_state s) waits (effect s e) dialogue_mid

  ticket : TicketWithin s.dialogue.epoch s.dialogue.engine
  ticket = within s.dialogue.epoch s.dialogue.engine holds.ticket

  fits : EffectFitsDesk (situation_of_state s) s.held (effect s e)
  fits = comes_fits (situation_of_state s) s.held e line

  pub held : AreHeld waits
  held = all_held (situation_of_state s) s.held (effect s e) sound fits holds.held

  setup : AllSetup (map dialogue_word_of waits)
  setup = all_setup waits held

  unsent_kept : parts.is_batch_unsent (situation_of_state s) waits (effect s e) dialogue_mid (turn_of_event s e).call ≡ is_unsent s.dialogue (turn_of_event s e)
  unsent_kept =
      ap (λ b. (b || not (none_held waits)) || needs_fence (mid s e) (turn_of_event s e)) (boots_are s.dialogue.epoch s.dialogue.engine (situation_of_state s) s.held (effect s e) refl fits)
      ∙ ap (λ b. (leaves_boot s.dialogue.engine (what_of (effect s e)) || not b) || needs_fence (mid s e) (turn_of_event s e)) (no_words waits)

  -- in an open session the choice is the dialogue's
  chosen_by : is_open e ≡ false → closed_after s e ≡ false → choice_situation ≡ settled_by s.dialogue (turn_of_event s e)
  chosen_by o c =
      not_skipped (is_open e) (closed_after s e) (settle dialogue_mid (turn_of_event s e).call (parts.is_batch_unsent (situation_of_state s) waits (effect s e) dialogue_mid (turn_of_event s e).call) (played_of (what_of (effect s e))) (is_move_now (what_of (effect s e)))) o c
      ∙ ap (λ b. settle dialogue_mid (turn_of_event s e).call b (played_of (what_of (effect s e))) (is_move_now (what_of (effect s e)))) unsent_kept

  -- where an order may be chosen
  hit_settled : is_open e ≡ false → closed_after s e ≡ false → is_hit_order choice_situation ≡ step_hits s e
  hit_settled o c =
      let m = mid s e in
      ap is_hit_order (chosen_by o c)
      ∙ hit_chosen m.epoch m.engine (owed_after s e) (is_unsent s.dialogue (turn_of_event s e)) (is_pondered (cond (ticket_ponders s.dialogue) s.desk.hint None) (played_of (turn_of_event s e).what)) (is_move_now (turn_of_event s e).what)
      ∙ hit_kept s.dialogue.epoch s.dialogue.engine s.desk.hint (turn_of_event s e).what (is_move (owed_after s e))

  hit_open : (o : Bool) → is_open e ≡ o → closed_after s e ≡ false → is_hit_order choice_situation ≡ step_hits s e
  hit_open true o c =
      opened_misses (is_open e) (closed_after s e) (settle dialogue_mid (turn_of_event s e).call (parts.is_batch_unsent (situation_of_state s) waits (effect s e) dialogue_mid (turn_of_event s e).call) (played_of (what_of (effect s e))) (is_move_now (what_of (effect s e)))) o
      ∙ sym (open_misses s e o)
  hit_open false o c = hit_settled o c

  -- the replies that the core writes
  abbrev written : List Reply
  written = replies_of (closed_after s e) owes (is_hit_order choice_situation) (situation_of_state s) (effect s e)

  replies_kept : written ≡ step_replies s e
  replies_kept = hits_alike (closed_after s e) owes (is_hit_order choice_situation) (step_hits s e) (situation_of_state s) (effect s e) (hit_open (is_open e) refl)

  hit_situation : begins_epoch (situation_of_state s) (effect s e) ≡ true → is_hit_order choice_situation ≡ is_ponder_hit s.dialogue (turn_of_event s e)
  hit_situation r =
      let o : is_open e ≡ false = false_from_ne_true (is_open e) (λ x. both_ways (begins_epoch (situation_of_state s) (effect s e)) (open_rises (situation_of_state s) s.held e x) r) in
      let c : closed_after s e ≡ false = false_from_ne_true (closed_after s e) (λ x. both_ways (begins_epoch (situation_of_state s) (effect s e)) (closed_rises s.ends (situation_of_state s) s.held e refl x) r) in
      hit_settled o c

  desk_kept : desk_with (situation_of_state s) (effect s e) e old owes choice_situation ≡ desk_of s e
  desk_kept =
      ap (λ (c : Bool). let d : Desk = record (desk_after_effect (situation_of_state s) (effect s e)) {
        mode = over_where (resigns_when_gone (closed_after s e) (situation_of_state s) (effect s e)) (desk_after_effect (situation_of_state s) (effect s e)).mode;
        pings = cond (answers_pings (closed_after s e) owes) [] (desk_after_effect (situation_of_state s) (effect s e)).pings;
        early = cond (closed_after s e) [] (desk_after_effect (situation_of_state s) (effect s e)).early;
        search_info = cond c nothing_seen (desk_after_effect (situation_of_state s) (effect s e)).search_info;
        last_thinking = cond c None (desk_after_effect (situation_of_state s) (effect s e)).last_thinking;
      } in d) (clears (begins_epoch (situation_of_state s) (effect s e)) (is_hit_order choice_situation) (is_ponder_hit s.dialogue (turn_of_event s e)) hit_situation)

  -- THE CORE AFTER THE EVENT

  -- but for the desk
  advanced : advance old e ≡ finish (situation_of_state s) (effect s e) e old waits dialogue_mid owes choice_situation (desk_with (situation_of_state s) (effect s e) e old owes choice_situation)
  unfolding advance
  advanced =
      ap (λ (h : Situation). advance_at h (classify h old.held e) old e) (situation_kept s to_iface to_engine holds.proper)
      ∙ ap (λ (m : dialogues.Dialogue). advance_from (situation_of_state s) (effect s e) e old waits m) (mid_kept s.dialogue s.desk.hint (turn_of_event s e) ticket holds.last)

  pub advanced_to : advance old e ≡ finish (situation_of_state s) (effect s e) e old waits dialogue_mid owes choice_situation (desk_of s e)
  advanced_to = advanced ∙ ap (λ (d : Desk). finish (situation_of_state s) (effect s e) e old waits dialogue_mid owes choice_situation d) desk_kept

  -- THE STEP

  abbrev orders_situation : List Order
  orders_situation = step_orders s.settings (is_open e) s.ends.closed (closed_after s e) (is_gone_after s e) waits (desk_of s e) choice_situation

  -- the step that the event gives
  abbrev pub step_situation : Step
  step_situation = record { event = e; replies = step_replies s e; orders = orders_situation }

  -- is the one that the core gives
  pub step_is : step_by old e ≡ step_situation
  unfolding step_by
  step_is =
      ap (λ (h : Situation). step_at h (classify h old.held e) old e) (situation_kept s to_iface to_engine holds.proper)
      ∙ ap (λ (m : dialogues.Dialogue). step_from (situation_of_state s) (effect s e) old e waits m) (mid_kept s.dialogue s.desk.hint (turn_of_event s e) ticket holds.last)
      ∙ ap (λ (d : Desk). let x : Step = record {
        event = e;
        replies = written;
        orders = step_orders s.settings (is_open e) s.ends.closed (closed_after s e) (is_gone_after s e) waits d choice_situation;
      } in x) desk_kept
      ∙ ap (λ (rs : List Reply). let x : Step = record { event = e; replies = rs; orders = orders_situation } in x) replies_kept

  same_hint : begins_epoch (situation_of_state s) (effect s e) ≡ false → (desk_of s e).hint ≡ s.desk.hint
  same_hint r = hint_kept (situation_of_state s) (effect s e) r

  owed_hint : (g : Move) → owed_after s e ≡ calls.Ponder g → (desk_of s e).hint ≡ Some g
  owed_hint g x = call_hint (closed_after s e) (is_gone_after s e) (desk_after_effect (situation_of_state s) (effect s e)) g (for_owed (is_call_spent (mid s e)) (turn_of_event s e).call g x)

  abbrev IsWhole : Orders → Type 0
  IsWhole o =
      let m = mid s e in
      let u = turn_of_event s e in
      Settled m.engine m.epoch (owed_after s e) u.waiting (is_due s.dialogue u) (is_ponder_hit s.dialogue u) (is_move_now u.what) (words u.waiting o)
      × (after_settled dialogue_mid o ≡ dialogue_between_steps (engine_after_orders m (words u.waiting o)) (desk_of s e).hint)

  whole : is_open e ≡ false → closed_after s e ≡ false → IsWhole choice_situation
  whole o c = subst IsWhole (sym (chosen_by o c)) (whole_mid s.dialogue (turn_of_event s e) (desk_of s e).hint ticket setup same_hint owed_hint)

  -- the orders of a step that neither opens nor closes
  orders_settled : is_open e ≡ false → closed_after s e ≡ false → orders_situation ≡ order_list s.settings waits (desk_of s e) choice_situation
  orders_settled o c = skipped (is_open e) (closed_after s e) choice_situation o c where
    skipped : (o c : Bool) (x : Orders) → o ≡ false → c ≡ false → step_orders s.settings o s.ends.closed c (is_gone_after s e) waits (desk_of s e) x ≡ order_list s.settings waits (desk_of s e) x
    skipped true c x a b = cc
    skipped false true x a b = cc
    skipped false false x a b = refl

  words_settled : is_open e ≡ false → closed_after s e ≡ false → map dialogue_word_of orders_situation ≡ words (map dialogue_word_of waits) choice_situation
  words_settled o c = ap (map dialogue_word_of) (orders_settled o c) ∙ words_are s.settings waits (desk_of s e) choice_situation

  batched : is_open e ≡ false → closed_after s e ≡ false → is_due s.dialogue (turn_of_event s e) ≡ true → choice_situation ≡ chosen.Batch
  batched o c d =
      let m = mid s e in
      chosen_by o c ∙ batch_chosen m.epoch m.engine (owed_after s e) (is_unsent s.dialogue (turn_of_event s e)) (is_pondered (cond (ticket_ponders s.dialogue) s.desk.hint None) (played_of (turn_of_event s e).what)) (is_move_now (turn_of_event s e).what) d

  begins : is_open e ≡ false → closed_after s e ≡ false → has_go (map dialogue_word_of orders_situation) ≡ true → choice_situation ≡ chosen.Begin (owed_after s e)
  begins o c g =
      let m = mid s e in
      let g' : has_go (words (map dialogue_word_of waits) (settled_by s.dialogue (turn_of_event s e))) ≡ true = ap has_go (sym (words_settled o c ∙ ap (words (map dialogue_word_of waits)) (chosen_by o c))) ∙ g in
      chosen_by o c ∙ begun m.epoch m.engine (owed_after s e) (is_unsent s.dialogue (turn_of_event s e)) (is_pondered (cond (ticket_ponders s.dialogue) s.desk.hint None) (played_of (turn_of_event s e).what)) (is_move_now (turn_of_event s e).what) (map dialogue_word_of waits) setup g'

  settled_words : is_open e ≡ false → closed_after s e ≡ false → Settled (mid s e).engine (mid s e).epoch (owed_after s e) (turn_of_event s e).waiting (is_due s.dialogue (turn_of_event s e)) (is_ponder_hit s.dialogue (turn_of_event s e)) (is_move_now (turn_of_event s e).what) (map dialogue_word_of orders_situation)
  settled_words o c = subst (λ (ws : List Word). Settled (mid s e).engine (mid s e).epoch (owed_after s e) (turn_of_event s e).waiting (is_due s.dialogue (turn_of_event s e)) (is_ponder_hit s.dialogue (turn_of_event s e)) (is_move_now (turn_of_event s e).what) ws) (sym (words_settled o c)) ((whole o c).0)

  settled : is_open e ≡ false → closed_after s e ≡ false → AreSettled s e orders_situation
  settled o c = record {
    words = settled_words o c;
    batch = λ d. orders_settled o c ∙ ap (order_list s.settings waits (desk_of s e)) (batched o c d);
    search = λ g. orders_settled o c ∙ ap (order_list s.settings waits (desk_of s e)) (begins o c g);
    fenced = λ f g. go_fenced s.dialogue (turn_of_event s e) (is_ponder_hit s.dialogue (turn_of_event s e)) (is_move_now (turn_of_event s e).what) _ (settled_words o c) f g;
  }

  abbrev orders_by : Bool → Bool → Bool → Orders → List Order
  orders_by o before engine_after_orders x = step_orders s.settings o before engine_after_orders (is_gone_after s e) waits (desk_of s e) x

  opens_with : (o before engine_after_orders : Bool) (x : Orders) → o ≡ true → orders_by o before engine_after_orders x ≡ orders.Uci ∷ []
  opens_with true before engine_after_orders x p = refl
  opens_with false before engine_after_orders x p = cc

  closes_with : (o before engine_after_orders : Bool) (x : Orders) → o ≡ false → before ≡ false → engine_after_orders ≡ true → orders_by o before engine_after_orders x ≡ closing_step_orders (is_gone_after s e)
  closes_with true before engine_after_orders x p q r = cc
  closes_with false true engine_after_orders x p q r = cc
  closes_with false false false x p q r = cc
  closes_with false false true x p q r = refl

  closed_with : (o before engine_after_orders : Bool) (x : Orders) → o ≡ false → before ≡ true → engine_after_orders ≡ true → orders_by o before engine_after_orders x ≡ []
  closed_with true before engine_after_orders x p q r = cc
  closed_with false false engine_after_orders x p q r = cc
  closed_with false true false x p q r = cc
  closed_with false true true x p q r = refl

  pub lawful : may s.ends e ≡ true → IsLawfulStep s step_situation
  lawful m = record {
    may_come = m;
    replies = refl;
    opens = opens_with (is_open e) s.ends.closed (closed_after s e) choice_situation;
    closes = λ a b. closes_with (is_open e) s.ends.closed (closed_after s e) choice_situation (closes_later s.ends e a b) a b;
    closed = λ o c. closed_with (is_open e) s.ends.closed (closed_after s e) choice_situation o c (closed_stays s.ends e c);
    settled = settled;
  }

  -- THE STATE AFTER THE STEP

  -- the dialogue after the orders
  abbrev GoesOn : List Word → Orders → Type 0
  GoesOn ws o = after_settled dialogue_mid o ≡ dialogue_between_steps (engine_after_orders (mid s e) ws) (desk_of s e).hint

  abbrev choice_by : Bool → Bool → Orders
  choice_by o engine_after_orders = step_choice o engine_after_orders (situation_of_state s) waits (effect s e) dialogue_mid

  opens_on : (opens closed : Bool) → opens ≡ true → may s.ends e ≡ true → is_open e ≡ true → GoesOn (map dialogue_word_of (orders_by opens s.ends.closed closed (choice_by opens closed))) (choice_by opens closed)
  opens_on true closed x m o =
      let b = open_engine s e o m holds.begins in
      rest s.dialogue (turn_of_event s e) (desk_of s e).hint (Uci ∷ []) ticket same_hint (ap (λ (g : Engine). engine_after_word (mid s e).epoch g Uci) b ∙ sym b) refl
  opens_on false closed x m o = cc

  ends_on : (before gone : Bool) → GoesOn (map dialogue_word_of (cond (before || gone) [] (orders.Quit ∷ []))) chosen.None
  ends_on before gone =
      elim (before || gone) as (λ b. GoesOn (map dialogue_word_of (cond b [] (orders.Quit ∷ []))) chosen.None) [
        | true ↦ rest s.dialogue (turn_of_event s e) (desk_of s e).hint [] ticket same_hint refl refl
        | false ↦ rest s.dialogue (turn_of_event s e) (desk_of s e).hint (Quit ∷ []) ticket same_hint (quit_sent (mid s e).epoch (mid s e).engine) refl
      ]

  goes_on : (opens closed : Bool) → is_open e ≡ opens → closed_after s e ≡ closed → may s.ends e ≡ true → GoesOn (map dialogue_word_of orders_situation) choice_situation
  goes_on true closed o c m = rw o (opens_on true (closed_after s e) refl m o)
  goes_on false true o c m = rw (o, c) (ends_on s.ends.closed (is_gone_after s e))
  goes_on false false o c m = subst (λ (ws : List Word). GoesOn ws choice_situation) (sym (words_settled o c)) ((whole o c).1)

  ready_case : (opens closed : Bool) → is_open e ≡ opens → closed_after s e ≡ closed → is_batch_order choice_situation ≡ has_ready (map dialogue_word_of orders_situation)
  ready_case true closed o c = rw o refl
  ready_case false true o c = rw (o, c) (elim (s.ends.closed || is_gone_after s e) as (λ b. false ≡ has_ready (map dialogue_word_of (cond b [] (orders.Quit ∷ [])))) [ true ↦ refl | false ↦ refl ])
  ready_case false false o c = sym (ready_words (map dialogue_word_of waits) choice_situation setup) ∙ ap has_ready (sym (words_settled o c))

  abbrev part : List Reply → Scores → List Order → dialogues.Dialogue → CoreParts
  part replies scores held dialogue = record {
    settings = s.settings;
    ends = ends_after s.ends e;
    desk = desk_of s e;
    scores = scores;
    held = held;
    dialogue = dialogue;
    to_iface = with (empty to_iface.room) (reply_lines replies);
    to_engine = with (empty to_engine.room) (order_lines orders_situation);
  }

  abbrev StandsAfter : CoreParts → Type 0
  StandsAfter v = v ≡ parts_of_state (trace_state_after s step_situation) v.to_iface v.to_engine

  held_kept : cond (is_batch_order choice_situation) [] waits ≡ still_held waits (map dialogue_word_of orders_situation)
  held_kept = ap (λ b. cond b [] waits) (ready_case (is_open e) (closed_after s e) refl refl)

  parts_stand : may s.ends e ≡ true → StandsAfter (finish (situation_of_state s) (effect s e) e old waits dialogue_mid owes choice_situation (desk_of s e))
  parts_stand m =
      ap (λ (c : Scores). part written c (cond (is_batch_order choice_situation) [] waits) (after_settled dialogue_mid choice_situation)) (counts_kept s.settings (situation_of_state s) (effect s e) s.scores)
      ∙ ap (λ (os : List Order). part written (score_counts s.settings (scores_after (situation_of_state s) (effect s e) s.scores)) os (after_settled dialogue_mid choice_situation)) held_kept
      ∙ ap (λ (t : dialogues.Dialogue). part written (score_counts s.settings (scores_after (situation_of_state s) (effect s e) s.scores)) (still_held waits (map dialogue_word_of orders_situation)) t)
      (goes_on (is_open e) (closed_after s e) refl refl m)

  -- the core stands for the longer trace
  pub stands : may s.ends e ≡ true → StandsAfter (advance old e)
  stands m = subst StandsAfter (sym advanced_to) (parts_stand m)
