-- The invariant of the core itself stays.
use Rattle.std.proofs.Common.{◌≡◌, ℕ, ◌≤◌, List, [], length, Bool, true, false, cond, ◌||◌, Some, refl, sym, ap, subst, ◌∙◌, inl, arith}
use Rattle.line_io.specs.Event.{Event}
use Rattle.protocol_tokens.specs.declared.kinds.GoKind.{GoKind}
use Rattle.cecp_lines.specs.Messages as says
use Rattle.uci_lines.specs.Orders.{Order}
use Rattle.clock_map.specs.Clocks.{ClocksAreShort, first_clocks}
use Rattle.policy_rules.specs.declared.setting_rules.settings.Settings.{Settings}
use Rattle.policy_rules.specs.SettingRules.Policy.{IsProper}
use Rattle.search_epochs.specs.declared.words.Call.{Call}
use Rattle.search_epochs.specs.declared.words.Orders.{Orders}
use Rattle.search_epochs.specs.declared.words.Orders.TheVariants as chosen
use Rattle.search_epochs.specs.declared.words.EngineState.{EngineState}
use Rattle.search_epochs.specs.declared.words.EngineState.TheVariants as states
use Rattle.search_epochs.specs.Tickets.{SearchServesCall, is_move, is_move_now}
use Rattle.search_epochs.specs.Dialogue as dialogues
use Rattle.search_epochs.specs.Dialogue.{mid_dialogue, owed_by_dialogue, played_of, is_pondered, settled_state, is_batch_order, is_hit_order}
use Rattle.desk_rules.specs.Desk.{Situation, current, call_of_desk, is_gone, is_boot, owes_move, owed_at}
use Rattle.desk_rules.specs.Lines.{is_epoch_line}
use Rattle.desk_rules.specs.Steps.{Effect, Accepts, Boots, classify, what_of, begins_epoch, call_after, desk_after_effect, is_death, answers_pings}
use Rattle.desk_rules.specs.Orders.{orders_waiting}
use Rattle.desk_rules.specs.Fits.{EffectFitsDesk, OnlyNewGameIsHeld, CanHold}
use Rattle.desk_rules.proofs.Serves.{not_gone}
use Rattle.desk_rules.proofs.Sound.{stays_sound, step_sound}
use Rattle.desk_rules.proofs.EarlyLines.{none_early}
use Rattle.desk_rules.proofs.Effects.{comes_fits}
use Rattle.desk_rules.proofs.Quiet.{quiet_pings, effect_pings, owed_ping, ping_call}
use Rattle.adapter_core.specs.Ends.{may, ends_after, is_open}
use Rattle.adapter_core.specs.Parts.{CoreParts, situation_of_parts, advance, opening_core_parts, step_choice, is_batch_unsent, IsReadyFor}
use Rattle.adapter_core.specs.Represents.{CoreInvariant}
use Rattle.adapter_core.proofs.Closing.{line_event, open_before, Closes, closing}
use Rattle.adapter_core.proofs.Serving.{still, chosen_serves, not_gone_served, call_settled}
use Rattle.adapter_core.proofs.First.{first_after}

-- HELD PINGS

none_left : (b : Bool) (n : ℕ) (ps : List ℕ) → length ps ≤ n → length (cond b [] ps) ≤ n
none_left true n ps l = omega arith
none_left false n ps l = l

ping_left : (h : Situation) (held : List Order) (n : ℕ) (owes : Bool) → EffectFitsDesk h held (Accepts (says.Ping n)) → owes_move h ≡ owes
    → length (cond (answers_pings false owes) [] (desk_after_effect h (Accepts (says.Ping n))).pings) ≤ 64
ping_left h held n true f o = owed_ping h held n f o
ping_left h held n false f o = omega arith

-- a Move is owed after the event
abbrev owes_after : Bool → Situation → dialogues.Dialogue → Effect → Bool
owes_after closed h t d = is_move (owed_by_dialogue (mid_dialogue t (what_of d) (begins_epoch h d)) (call_after closed h d))

other_left : (h : Situation) (d : Effect) (b : Bool) → (desk_after_effect h d).pings ≡ h.desk.pings → length h.desk.pings ≤ 64 → length (cond b [] (desk_after_effect h d).pings) ≤ 64
other_left h d b e l = none_left b 64 (desk_after_effect h d).pings (omega (arith, ap length e))

few_pings : (h : Situation) (held : List Order) (t : dialogues.Dialogue) (d : Effect) (closed : Bool) → h.spent ≡ t.spent → (closed ≡ true → Closes d) → EffectFitsDesk h held d → length h.desk.pings ≤ 64
    → (closed ≡ false → h.closed ≡ false)
    → length (cond (answers_pings closed (owes_after closed h t d)) [] (desk_after_effect h d).pings) ≤ 64
unfolding is_epoch_line
few_pings h held t (Accepts (says.Ping n)) true same q f l o = absurd (q refl)
few_pings h held t (Accepts (says.Ping n)) false same q f l o =
    ping_left h held n (owes_after false h t (Accepts (says.Ping n))) f
    (ap (λ (c : Call). is_move (owed_at h.spent c)) (sym (ping_call h n)) ∙ ap (λ (x : Bool). is_move (owed_at h.spent (call_of_desk x (is_gone h.engine || false) (desk_after_effect h (Accepts (says.Ping n)))))) (o refl)
    ∙ ap (λ (x : Bool). is_move (owed_at x (call_of_desk false (is_gone h.engine || false) (desk_after_effect h (Accepts (says.Ping n)))))) same)
few_pings h held t (Accepts m) closed same q f l o = other_left h (Accepts m) (answers_pings closed (owes_after closed h t (Accepts m))) (quiet_pings h (Accepts m) (λ x. x)) l
few_pings h held t d closed same q f l o = other_left h d (answers_pings closed (owes_after closed h t d)) (quiet_pings h d (λ x. x)) l

-- WHAT THE CORE NEEDS

in_boot : (s : EngineState) → is_boot s ≡ true → s ≡ states.Boot
in_boot states.Boot b = refl
in_boot states.Getting b = cc
in_boot states.Idle b = cc
in_boot (states.Search k stale stopped) b = cc
in_boot states.Gone b = cc

holds : (h : Situation) (held : List Order) (d : Effect) → (h.engine ≡ states.Boot → OnlyNewGameIsHeld held) → EffectFitsDesk h held d → CanHold held d
holds h held Boots b f = b (in_boot h.engine f.1)
holds h held d b f = tt

module _ (v : CoreParts) (e : Event) (k : CoreInvariant v) (m : may v.ends e ≡ true) where
  abbrev h : Situation
  h = situation_of_parts v

  abbrev d : Effect
  d = classify h v.held e

  abbrev mid : dialogues.Dialogue
  mid = mid_dialogue v.dialogue (what_of d) (begins_epoch h d)

  abbrev closed_now : Bool
  closed_now = (ends_after v.ends e).closed

  abbrev o : Orders
  o = step_choice (is_open e) closed_now h (orders_waiting h v.held d) d mid

  fits : EffectFitsDesk h v.held d
  fits = comes_fits h v.held e (line_event v.ends e m)

  still_situation : closed_now ≡ false → (g : GoKind) → current mid.state ≡ Some g → SearchServesCall g (call_after closed_now h d)
  still_situation c g x =
      let b : v.ends.closed ≡ false = open_before v.ends e c in
      subst (λ (z : Bool). SearchServesCall g (call_after z h d)) (b ∙ sym c) (still h v.held d v.dialogue refl fits (k.serves b) g x)

  served : (rests : Bool) → closed_now ≡ false → (g : GoKind)
      → current (settled_state mid.state (cond rests chosen.None (dialogues.settle mid (call_after closed_now h d) (is_batch_unsent h (orders_waiting h v.held d) d mid (call_after closed_now h d)) (played_of (what_of d)) (is_move_now (what_of d))))) ≡ Some g → SearchServesCall g (call_after closed_now h d)
  served true c g x = still_situation c g x
  served false c g x =
      chosen_serves mid.state mid.spent (call_after closed_now h d) (is_batch_unsent h (orders_waiting h v.held d) d mid (call_after closed_now h d)) (is_pondered mid.pondered (played_of (what_of d))) (is_move_now (what_of d)) (still_situation c) g x

  serves_after : closed_now ≡ false → (g : GoKind) → current (settled_state mid.state o) ≡ Some g → SearchServesCall g (call_of_desk closed_now (is_gone (settled_state mid.state o)) (advance v e).desk)
  unfolding advance
  serves_after c g x =
      let y = served (is_open e || closed_now) c g x in
      let n = not_gone_served closed_now (is_gone h.engine || is_death d) (desk_after_effect h d) g y in
      let n' = not_gone (settled_state mid.state o) g x in
      subst (SearchServesCall g) (call_settled closed_now _ _ closed_now h d ∙ ap (λ z. call_of_desk closed_now z (advance v e).desk) (n ∙ sym n')) y

  -- what the core needs to take the event
  pub is_ready : IsReadyFor h v d
  is_ready = record {
    follow = record {
      sound = k.sound;
      fits = (v.held, fits);
      served = k.serves;
      pings = k.pings;
      sound_then = stays_sound h v.held d k.sound fits;
      pings_then = omega (arith, effect_pings h d, k.pings);
    };
    fits = fits;
    holds = holds h v.held d (λ b. (k.first b).0) fits;
    to_iface = k.to_iface;
    to_engine = k.to_engine;
  }

  pub keeps : CoreInvariant (advance v e)
  unfolding advance
  keeps = record {
    settings = k.settings;
    sound = step_sound closed_now (owes_after closed_now h v.dialogue d) (is_hit_order o) h v.held d k.sound fits;
    serves = serves_after;
    pings = few_pings h v.held v.dialogue d closed_now refl (closing v.ends h v.held e refl) fits k.pings (λ c. open_before v.ends e c);
    first = first_after h v.held d v.dialogue (begins_epoch h d) (is_batch_order o) o k.first;
    to_iface = k.to_iface;
    to_engine = k.to_engine;
  }

-- BEFORE THE FIRST STEP

pub first_short : ClocksAreShort first_clocks
first_short = record { control = tt; moves = omega arith; base = omega arith; increment = omega arith; depth = tt; engine = omega arith; opponent = omega arith }

pub opening_keeps : (settings : Settings) → IsProper settings → CoreInvariant (opening_core_parts settings)
opening_keeps settings p = record {
  settings = p;
  sound = record { hint = tt; clocks = first_short; current = tt; options = tt; early = none_early };
  serves = λ c g x. absurd (cc);
  pings = omega arith;
  first = λ b. (inl refl, refl);
  to_iface = refl;
  to_engine = refl;
}
