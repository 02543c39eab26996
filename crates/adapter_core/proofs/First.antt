-- Before `uciok` no more than a new game is held, and no option counts.
use Rattle.std.proofs.Common.{◌≡◌, List, [], Bool, true, false, cond, refl, ◌∙◌, inl}
use Rattle.uci_lines.specs.Orders.{Order}
use Rattle.search_epochs.specs.declared.words.Said.TheVariants as said
use Rattle.search_epochs.specs.declared.words.EngineState.{EngineState}
use Rattle.search_epochs.specs.declared.words.EngineState.TheVariants as states
use Rattle.search_epochs.specs.declared.words.Orders.{Orders}
use Rattle.search_epochs.specs.declared.words.Orders.TheVariants as chosen
use Rattle.search_epochs.specs.Tickets.{What, Says}
use Rattle.search_epochs.specs.Dialogue as dialogues
use Rattle.search_epochs.specs.Dialogue.{after_what, mid_dialogue, stale_state, heard_state, settled_state}
use Rattle.desk_rules.specs.Desk.{Situation}
use Rattle.desk_rules.specs.Steps.{Effect, Boots, what_of, desk_after_effect}
use Rattle.desk_rules.specs.Orders.{orders_waiting}
use Rattle.desk_rules.specs.Fits.{OnlyNewGameIsHeld}
use Rattle.desk_rules.proofs.Firsts.{IsBoots, orders_first, effect_booted}

-- BOOT IS NEVER ENTERED AGAIN

was_stale : (e : EngineState) → stale_state e ≡ states.Boot → e ≡ states.Boot
was_stale (states.Search k stale s) x = cc
was_stale states.Boot x = x
was_stale states.Getting x = x
was_stale states.Idle x = x
was_stale states.Gone x = x

no_uciok : (e : EngineState) → heard_state e said.UciOk ≡ states.Boot → ⊥
no_uciok states.Boot x = cc
no_uciok states.Getting x = cc
no_uciok states.Idle x = cc
no_uciok (states.Search k stale s) x = cc
no_uciok states.Gone x = cc

was_readyok : (e : EngineState) → heard_state e said.ReadyOk ≡ states.Boot → e ≡ states.Boot
was_readyok states.Boot x = x
was_readyok states.Getting x = cc
was_readyok states.Idle x = x
was_readyok (states.Search k stale s) x = x
was_readyok states.Gone x = x

was_best : (e : EngineState) → heard_state e said.Best ≡ states.Boot → e ≡ states.Boot
was_best states.Boot x = x
was_best states.Getting x = x
was_best states.Idle x = x
was_best (states.Search k stale s) x = cc
was_best states.Gone x = x

no_end : (e : EngineState) → heard_state e said.Ended ≡ states.Boot → ⊥
no_end states.Boot x = cc
no_end states.Getting x = cc
no_end states.Idle x = cc
no_end (states.Search k stale s) x = cc
no_end states.Gone x = cc

was_what : (v : dialogues.Dialogue) (w : What) → (after_what v w).state ≡ states.Boot → v.state ≡ states.Boot
was_what v (Says said.UciOk) x = absurd (no_uciok v.state x)
was_what v (Says said.ReadyOk) x = was_readyok v.state x
was_what v (Says said.Best) x = was_best v.state x
was_what v (Says said.Ended) x = absurd (no_end v.state x)
was_what v w x = x

no_boots : (v : dialogues.Dialogue) (d : Effect) → (after_what v (what_of d)).state ≡ states.Boot → IsBoots d → ⊥
no_boots v Boots x b = no_uciok v.state x
no_boots v d x b = b

risen : (v : dialogues.Dialogue) (d : Effect) (r : Bool) → (mid_dialogue v (what_of d) r).state ≡ states.Boot → (after_what v (what_of d)).state ≡ states.Boot
risen v d true x = was_stale (after_what v (what_of d)).state x
risen v d false x = x

was_settled : (e : EngineState) (o : Orders) → settled_state e o ≡ states.Boot → e ≡ states.Boot
was_settled e chosen.Batch x = cc
was_settled e (chosen.Begin c) x = cc
was_settled e chosen.Hit x = cc
was_settled (states.Search k stale s) chosen.Stop x = cc
was_settled e o x = x

batch_first : (b : Bool) (ls : List Order) → OnlyNewGameIsHeld ls → OnlyNewGameIsHeld (cond b [] ls)
batch_first true ls f = inl refl
batch_first false ls f = f

-- what is held after the step, and whether options count, where the engine is in Boot then
pub first_after : (h : Situation) (held : List Order) (d : Effect) (v : dialogues.Dialogue) (r b : Bool) (o : Orders) → (v.state ≡ states.Boot → OnlyNewGameIsHeld held × (h.desk.booted ≡ false))
    → settled_state (mid_dialogue v (what_of d) r).state o ≡ states.Boot → OnlyNewGameIsHeld (cond b [] (orders_waiting h held d)) × ((desk_after_effect h d).booted ≡ false)
first_after h held d v r b o f x =
    let said = risen v d r (was_settled (mid_dialogue v (what_of d) r).state o x) in
    let none = no_boots v d said in
    let before = f (was_what v (what_of d) said) in
    (batch_first b (orders_waiting h held d) (orders_first h held d none before.1 before.0), effect_booted h d none ∙ before.1)
