-- The kept state stands for what was heard and written, call by call.
use Rattle.std.proofs.Common.{◌≡◌, ◌↔◌, List, Bool, true, false, cond, ◌&&◌, ◌||◌, Option, refl, sym, ap, subst, ◌∙◌}
use Rattle.chess_board.specs.declared.board.Move.{Move}
use Rattle.search_epochs.specs.declared.words.EngineState.{EngineState}
use Rattle.search_epochs.specs.declared.words.EngineState.TheVariants as states
use Rattle.search_epochs.specs.declared.words.Said.{Said}
use Rattle.search_epochs.specs.declared.words.Said.TheVariants as said
use Rattle.search_epochs.specs.declared.words.Heard.TheVariants as hears
use Rattle.search_epochs.specs.declared.words.Call.{Call}
use Rattle.search_epochs.specs.declared.words.Call.TheVariants as calls
use Rattle.search_epochs.specs.declared.words.Orders.{Orders}
use Rattle.search_epochs.specs.declared.words.Orders.TheVariants as orders
use Rattle.search_epochs.specs.Tickets.{Ticketed, Word, TicketWithin, LastWithin, AllSetup, Settled, sent_all, ticketed_after_heard, rise, is_call_spent, owed, engine_after_orders, has_no_order, is_engine_idle, is_move, while_pondering, hint_after_orders}
use Rattle.search_epochs.specs.Dialogue.{Dialogue, StandsFor, forget, meaning, heard_state, heard_spent, heard_fence, is_stop_order, stale_state, settled_state, settled_pondered, dialogue_after_said, after_epoch, after_settled, settle, choose, hits, is_pondered, words}
use Rattle.search_epochs.proofs.Settles.{chosen}
use Rattle.search_epochs.proofs.Turns.{heard_both, spent_both, fence_both, risen, risen_spent, ordered, stop_words}
use Rattle.search_epochs.proofs.Rests.{rested}
use Rattle.search_epochs.proofs.Hints.{hint_kept}

pub heard_stands : (v : Dialogue) (t : Ticketed) (hint : Option Move) (s : Said) → StandsFor v t hint → StandsFor (dialogue_after_said v s) (ticketed_after_heard t s) hint
heard_stands v t hint s h = record {
  same_state = ap (λ (e : EngineState). heard_state e s) h.same_state ∙ heard_both t.epoch t.engine s;
  same_spent =
      ap (λ (e : EngineState). heard_spent e s v.spent) h.same_state
      ∙ ap (heard_spent (forget t.epoch t.engine) s) h.same_spent
      ∙ spent_both t.epoch t.engine s t.last;
  same_hint = h.same_hint;
  same_fence =
      ap (λ (e : EngineState). heard_fence e s v.unfenced) h.same_state
      ∙ ap (heard_fence (forget t.epoch t.engine) s) h.same_fence
      ∙ fence_both t.epoch t.engine s t.unfenced;
}

pub risen_stands : (v : Dialogue) (t : Ticketed) (hint : Option Move) → TicketWithin t.epoch t.engine → LastWithin t.epoch t.last → StandsFor v t hint → StandsFor (after_epoch v) (rise t) hint
risen_stands v t hint w l h = record {
  same_state = ap stale_state h.same_state ∙ sym (risen t.epoch t.engine w);
  same_spent = sym (risen_spent t.epoch t.last l);
  same_hint = h.same_hint;
  same_fence = h.same_fence;
}

-- no orders are written
pub rested_stands : (v v' : Dialogue) (t : Ticketed) (hint : Option Move) → v' ≡ after_settled v orders.None → StandsFor v t hint → StandsFor v' t (while_pondering t hint)
rested_stands v v' t hint e h = record {
  same_state = ap (λ (d : Dialogue). d.state) e ∙ h.same_state;
  same_spent = ap (λ (d : Dialogue). d.spent) e ∙ h.same_spent;
  same_hint =
      ap (λ (d : Dialogue). d.pondered) e
      ∙ ap (λ (s : EngineState). settled_pondered s v.pondered orders.None) h.same_state
      ∙ ap (λ (p : Option Move). settled_pondered (forget t.epoch t.engine) p orders.None) h.same_hint
      ∙ rested t.epoch t.engine hint hint (λ _. refl);
  same_fence = ap (λ (d : Dialogue). d.unfenced) e ∙ h.same_fence;
}

-- The orders o are what is chosen by what is kept.
module _ (v : Dialogue) (t : Ticketed) (hint : Option Move) (call : Call) (unsent : Bool) (played : Option Move) (move_now : Bool) (waiting : List Word) (o : Orders) (is : o ≡ settle v call unsent played move_now) (h : StandsFor v t hint) (a : AllSetup waiting) where
  -- the same is chosen by the dialogue
  chosen_by : o ≡ choose (forget t.epoch t.engine) (owed t call) unsent (is_pondered hint played) move_now
  chosen_by =
      is
      ∙ ap (λ (e : EngineState). choose e (cond v.spent calls.Nothing call) unsent (is_pondered v.pondered played) move_now) h.same_state
      ∙ ap (λ b. choose (forget t.epoch t.engine) (cond b calls.Nothing call) unsent (is_pondered v.pondered played) move_now) h.same_spent
      ∙ ap (λ (p : Option Move). choose (forget t.epoch t.engine) (owed t call) unsent (is_pondered p played) move_now) h.same_hint

  pub settled_by_view : (unsent ≡ false → has_no_order waiting ≡ true)
      → Settled t.engine t.epoch (owed t call) waiting (is_engine_idle t.engine && unsent) (hits t.engine (is_pondered hint played) (is_move (owed t call))) move_now (words waiting o)
  settled_by_view w =
      subst (λ (x : Orders). Settled t.engine t.epoch (owed t call) waiting (is_engine_idle t.engine && unsent) (hits t.engine (is_pondered hint played) (is_move (owed t call))) move_now (words waiting x)) (sym chosen_by)
      (chosen t.engine t.epoch (owed t call) waiting unsent (is_pondered hint played) move_now a w)

  pub settled_stands : (v' : Dialogue) → v'.state ≡ settled_state v.state o → v'.spent ≡ v.spent → v'.pondered ≡ settled_pondered v.state v.pondered o → v'.unfenced ≡ (is_stop_order o || v.unfenced)
      → StandsFor v' (engine_after_orders t (words waiting o)) (hint_after_orders t (words waiting o) (owed t call) hint)
  settled_stands v' state spent pondered unfenced = record {
    same_state =
        state ∙ ap (λ (e : EngineState). settled_state e o) h.same_state
        ∙ subst (λ (x : Orders). settled_state (forget t.epoch t.engine) x ≡ forget t.epoch (sent_all t.epoch t.engine (words waiting x))) (sym chosen_by)
        (ordered t.epoch t.engine (owed t call) waiting unsent (is_pondered hint played) move_now a);
    same_spent = spent ∙ h.same_spent;
    same_hint =
        pondered
        ∙ ap (λ (e : EngineState). settled_pondered e v.pondered o) h.same_state
        ∙ ap (λ (p : Option Move). settled_pondered (forget t.epoch t.engine) p o) h.same_hint
        ∙ subst (λ (x : Orders). settled_pondered (forget t.epoch t.engine) hint x ≡ hint_after_orders t (words waiting x) (owed t call) hint) (sym chosen_by)
        (hint_kept t.epoch t.engine hint (owed t call) waiting unsent (is_pondered hint played) move_now a);
    same_fence = unfenced ∙ ap (λ b. is_stop_order o || b) h.same_fence ∙ ap (λ b. b || t.unfenced) (stop_words waiting o a);
  }

-- nothing is heard if and only if the state stays
pub nothing_heard : (e : EngineState) (s : Said) → (meaning e s ≡ hears.Nothing) ↔ (heard_state e s ≡ e)
nothing_heard states.Boot said.UciOk = (λ h. cc, λ h. cc)
nothing_heard states.Getting said.ReadyOk = (λ h. cc, λ h. cc)
nothing_heard (states.Search k stale s) said.Best = (λ h. cc, λ h. cc)
nothing_heard states.Gone said.Ended = (λ h. refl, λ h. refl)
nothing_heard e said.Ended = (λ h. cc, λ h. cc)
nothing_heard e s = (λ h. refl, λ h. refl)
