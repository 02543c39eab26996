-- A current search goes on to serve the call.
use Rattle.std.proofs.Common.{◌≡◌, ℕ, List, Bool, true, false, cond, ◌&&◌, ◌||◌, Option, Some, refl, sym, ap, subst, ◌∙◌}
use Rattle.protocol_tokens.specs.declared.kinds.GoKind.{GoKind}
use Rattle.protocol_tokens.specs.declared.kinds.GoKind.TheVariants as kinds
use Rattle.uci_lines.specs.Orders.{Order}
use Rattle.search_epochs.specs.declared.words.Call.{Call}
use Rattle.search_epochs.specs.declared.words.Call.TheVariants as calls
use Rattle.search_epochs.specs.declared.words.Said.TheVariants as said
use Rattle.search_epochs.specs.declared.words.EngineState.{EngineState}
use Rattle.search_epochs.specs.declared.words.EngineState.TheVariants as states
use Rattle.search_epochs.specs.Tickets.{What, Says, SearchServesCall, kind_of, is_move}
use Rattle.think_text.specs.declared.search_info.SearchInfo.{SearchInfo}
use Rattle.think_text.specs.Last.{ThinkingLine}
use Rattle.search_epochs.specs.Dialogue as dialogues
use Rattle.search_epochs.specs.Dialogue.{after_what, mid_dialogue, stale_state, heard_state, settled_state, choose}
use Rattle.search_epochs.proofs.Current.{IfCurrent, settled_current}
use Rattle.search_epochs.proofs.Serving.{move_serves}
use Rattle.desk_rules.specs.declared.desk.Desk.{Desk}
use Rattle.desk_rules.specs.Desk.{Situation, is_gone, current, call_of_desk, call_before}
use Rattle.desk_rules.specs.Steps.{Effect, Shows, Forfeits, Answers, Dies, what_of, begins_epoch, call_after, desk_after, desk_after_effect, is_death, over_where, resigns_when_gone}
use Rattle.desk_rules.specs.Fits.{EffectFitsDesk}
use Rattle.desk_rules.proofs.Serves.{IsNoAnswer, still_serves}
use Rattle.desk_rules.proofs.Passes.{served_short}

-- OF AN OPEN CURRENT SEARCH

if_current : (P : GoKind → Type 0) (e : EngineState) → ((k : GoKind) → current e ≡ Some k → P k) → IfCurrent e P
if_current P states.Boot f = tt
if_current P states.Getting f = tt
if_current P states.Idle f = tt
if_current P states.Gone f = tt
if_current P (states.Search k true s) f = tt
if_current P (states.Search k false s) f = f k refl

of_current : (P : GoKind → Type 0) (e : EngineState) → IfCurrent e P → (k : GoKind) → current e ≡ Some k → P k
of_current P states.Boot h k c = absurd (cc)
of_current P states.Getting h k c = absurd (cc)
of_current P states.Idle h k c = absurd (cc)
of_current P states.Gone h k c = absurd (cc)
of_current P (states.Search g true s) h k c = absurd (cc)
of_current P (states.Search g false s) h k c = let same : g ≡ k = cc in subst P same h

-- THROUGH THE EVENT

never_stale : (e : EngineState) (k : GoKind) → current (stale_state e) ≡ Some k → ⊥
never_stale states.Boot k c = cc
never_stale states.Getting k c = cc
never_stale states.Idle k c = cc
never_stale states.Gone k c = cc
never_stale (states.Search g stale stopped) k c = cc

no_best : (e : EngineState) (k : GoKind) → current (heard_state e said.Best) ≡ Some k → ⊥
no_best states.Boot k c = cc
no_best states.Getting k c = cc
no_best states.Idle k c = cc
no_best states.Gone k c = cc
no_best (states.Search g stale stopped) k c = cc

no_end : (e : EngineState) (k : GoKind) → current (heard_state e said.Ended) ≡ Some k → ⊥
no_end states.Boot k c = cc
no_end states.Getting k c = cc
no_end states.Idle k c = cc
no_end states.Gone k c = cc
no_end (states.Search g stale stopped) k c = cc

was_uciok : (e : EngineState) (k : GoKind) → current (heard_state e said.UciOk) ≡ Some k → current e ≡ Some k
was_uciok states.Boot k c = cc
was_uciok states.Getting k c = cc
was_uciok states.Idle k c = cc
was_uciok states.Gone k c = cc
was_uciok (states.Search g stale stopped) k c = c

was_readyok : (e : EngineState) (k : GoKind) → current (heard_state e said.ReadyOk) ≡ Some k → current e ≡ Some k
was_readyok states.Boot k c = cc
was_readyok states.Getting k c = cc
was_readyok states.Idle k c = cc
was_readyok states.Gone k c = cc
was_readyok (states.Search g stale stopped) k c = c

was_what : (v : dialogues.Dialogue) (w : What) (k : GoKind) → current (after_what v w).state ≡ Some k → current v.state ≡ Some k
was_what v (Says said.UciOk) k c = was_uciok v.state k c
was_what v (Says said.ReadyOk) k c = was_readyok v.state k c
was_what v (Says said.Best) k c = absurd (no_best v.state k c)
was_what v (Says said.Ended) k c = absurd (no_end v.state k c)
was_what v w k c = c

no_answer : (v : dialogues.Dialogue) (d : Effect) (k : GoKind) → current (after_what v (what_of d)).state ≡ Some k → IsNoAnswer d
no_answer v (Shows m hint) k c = no_best v.state k c
no_answer v (Forfeits answer) k c = no_best v.state k c
no_answer v Answers k c = no_best v.state k c
no_answer v Dies k c = no_end v.state k c
no_answer v d k c = tt

still_by : (h : Situation) (held : List Order) (d : Effect) (v : dialogues.Dialogue) (r : Bool) (k : GoKind) → h.engine ≡ v.state → begins_epoch h d ≡ r → EffectFitsDesk h held d → (current h.engine ≡ Some k → SearchServesCall k (call_before h))
    → current (mid_dialogue v (what_of d) r).state ≡ Some k → SearchServesCall k (call_after h.closed h d)
still_by h held d v true k same r f s c = absurd (never_stale (after_what v (what_of d)).state k c)
still_by h held d v false k same r f s c =
    let b : current h.engine ≡ Some k = ap current same ∙ was_what v (what_of d) k c in
    still_serves h held d k f (no_answer v d k c) r b (s b)

-- a search that is current after the event was so before, and serves the call still
pub still : (h : Situation) (held : List Order) (d : Effect) (v : dialogues.Dialogue) → h.engine ≡ v.state → EffectFitsDesk h held d → ((k : GoKind) → current h.engine ≡ Some k → SearchServesCall k (call_before h))
    → (k : GoKind) → current (mid_dialogue v (what_of d) (begins_epoch h d)).state ≡ Some k → SearchServesCall k (call_after h.closed h d)
still h held d v same f s k c = still_by h held d v (begins_epoch h d) k same refl f (s k) c

-- THROUGH THE ORDERS

owed_serves : (spent : Bool) (c : Call) (k : GoKind) → SearchServesCall k (cond spent calls.Nothing c) → SearchServesCall k c
owed_serves true c k s = cc (s.0)
owed_serves false c k s = s

-- a search that is current after the orders was begun or renewed for what is owed, or was current before them
pub chosen_serves : (e : EngineState) (spent : Bool) (c : Call) (unsent matches move_now : Bool) → ((k : GoKind) → current e ≡ Some k → SearchServesCall k c)
    → (k : GoKind) → current (settled_state e (choose e (cond spent calls.Nothing c) unsent matches move_now)) ≡ Some k → SearchServesCall k c
chosen_serves e spent c unsent matches move_now s k x =
    let owing = cond spent calls.Nothing c in
    let before = if_current (λ g. SearchServesCall g c) e s in
    of_current (λ g. SearchServesCall g c) (settled_state e (choose e owing unsent matches move_now))
    (settled_current (λ o g. SearchServesCall g c) e owing unsent matches move_now before before
    (λ n. owed_serves spent c (kind_of owing) (n, refl))
    (λ m. owed_serves spent c kinds.Move (move_serves owing m))) k x

-- THE CALL ITSELF

middle : (a b c : Bool) → (a || b || c) ≡ false → b ≡ false
middle true b c e = cc
middle false true c e = cc
middle false false c e = refl

-- who is served calls, and so the engine is not Gone
pub not_gone_served : (closed gone : Bool) (d : Desk) (k : GoKind) → SearchServesCall k (call_of_desk closed gone d) → gone ≡ false
unfolding call_of_desk
not_gone_served closed gone d k s = middle closed gone _ (served_short _ _ k s)

-- a gone engine is called for nothing
pub gone_calls : (closed gone : Bool) (d : Desk) → gone ≡ true → call_of_desk closed gone d ≡ calls.Nothing
unfolding call_of_desk
gone_calls true true d e = refl
gone_calls false true d e = refl
gone_calls closed false d e = cc

-- one that resigns is gone
pub resigner_gone : (wants gone owes : Bool) → (wants && (gone && owes)) ≡ true → gone ≡ true
resigner_gone true true owes e = refl
resigner_gone true false owes e = cc
resigner_gone false gone owes e = cc

given_up : (closed gone : Bool) (d : Desk) (b : Bool) → (b ≡ true → gone ≡ true) → call_of_desk closed gone d ≡ call_of_desk closed gone (record d { mode = over_where b d.mode })
given_up closed gone d true f = gone_calls closed gone d (f refl) ∙ sym (gone_calls closed gone (record d { mode = over_where true d.mode }) (f refl))
given_up closed gone d false f = refl

other_parts : (closed gone : Bool) (d : Desk) (pings : List ℕ) (early : List (List ℕ)) (search_info : SearchInfo) (last : Option ThinkingLine)
    → call_of_desk closed gone d ≡ call_of_desk closed gone (record d { pings = pings; early = early; search_info = search_info; last_thinking = last })
unfolding call_of_desk
other_parts closed gone d pings early search_info last = refl

-- a game that is abandoned, answered pings and cleared values change no call
pub call_settled : (closed owes hits c : Bool) (h : Situation) (d : Effect)
    → call_of_desk closed (is_gone h.engine || is_death d) (desk_after_effect h d) ≡ call_of_desk closed (is_gone h.engine || is_death d) (desk_after c owes hits h d)
call_settled closed owes hits c h d =
    let gone = is_gone h.engine || is_death d in
    let desk = desk_after_effect h d in
    given_up closed gone desk (resigns_when_gone c h d) (resigner_gone h.settings.resign_when_gone gone (is_move (call_of_desk c false desk)))
    ∙ other_parts closed gone (record desk { mode = over_where (resigns_when_gone c h d) desk.mode }) _ _ _ _
