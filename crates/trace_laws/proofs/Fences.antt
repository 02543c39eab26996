-- With FenceStops on each `go` comes where the last `stop` is fenced.
use Rattle.std.proofs.Common.{◌≡◌, ℕ, List, [], ◌∷◌, ◌++◌, map, Bool, true, false, cond, ◌||◌, Option, Some, None, refl, sym, ap, subst, ◌∙◌}
use Rattle.line_io.specs.Event.{Event}
use Rattle.protocol_tokens.specs.declared.kinds.GoKind.{GoKind}
use Rattle.protocol_tokens.specs.declared.kinds.GoKind.TheVariants as kinds
use Rattle.uci_lines.specs.declared.orders.GoControl.{GoControl}
use Rattle.uci_lines.specs.Orders.{Order}
use Rattle.uci_lines.specs.Orders as orders
use Rattle.policy_rules.specs.declared.setting_rules.settings.Settings.{Settings}
use Rattle.search_epochs.specs.declared.words.Said.{Said}
use Rattle.search_epochs.specs.declared.words.Said.TheVariants as said
use Rattle.search_epochs.specs.Tickets as talks
use Rattle.search_epochs.specs.Tickets.{Engine, Word, Ticketed, Position, Go, MaySend, MaySendAll, engine_after_heard, engine_after_word, is_engine_idle, sent_all, unfenced_after, has_go, has_stop, said_of_event}
use Rattle.search_epochs.specs.History.{Exchange}
use Rattle.search_epochs.specs.Laws.{AllFence, IsFencedUnlessStopped}
use Rattle.search_epochs.proofs.Histories.{quit_sent}
use Rattle.search_epochs.proofs.Stops.{may_all}
use Rattle.search_epochs.proofs.Fences.{search_is_fenced}
use Rattle.desk_rules.specs.Steps.{what_of}
use Rattle.desk_rules.specs.Orders.{dialogue_word_of}
use Rattle.adapter_core.specs.Ends.{is_open}
use Rattle.adapter_core.specs.Trace.{State, Step, LawfulTrace, state, effect, mid, closed_after, is_gone_after, closing_step_orders}
use Rattle.adapter_core.proofs.Traces.{lasts}
use Rattle.trace_laws.specs.Wire.{Search, said_by_step, ends, on_wire}
use Rattle.trace_laws.specs.Dialogue.{exchange, exchanges}
use Rattle.trace_laws.specs.Fences.{Fence, Fenced, Stopped, Asked, fence_once_heard, fence_once_asked, fence_once_written, fence_all, fence, fence_at, is_left_unfenced, SearchesAreFenced, StoppedSearchIsUnfenced}
use Rattle.trace_laws.proofs.Dialogues.{dialogues, lawful_in, opening_dialogue}
use Rattle.trace_laws.proofs.Heard.{ends_on_wire, engine_on_wire, event_heard}
use Rattle.trace_laws.proofs.Places.{opening_says}

-- THE FENCE, BY THE ENGINE AND BY WHETHER A `stop` IS UNFENCED

abbrev FitsGetting : Fence → Bool → Type 0
FitsGetting Fenced unfenced = unfenced ≡ false
FitsGetting Stopped unfenced = ⊥
FitsGetting Asked unfenced = unfenced ≡ true

abbrev FitsOther : Fence → Bool → Type 0
FitsOther Fenced unfenced = unfenced ≡ false
FitsOther Stopped unfenced = unfenced ≡ true
FitsOther Asked unfenced = ⊥

abbrev Fits : Engine → Fence → Bool → Type 0
Fits talks.Gone f unfenced = Unit {0}
Fits talks.Getting f unfenced = FitsGetting f unfenced
Fits e f unfenced = FitsOther f unfenced

fits_heard : (e : Engine) (f : Fence) (unfenced : Bool) (w : Option Said) → Fits e f unfenced → Fits (engine_after_heard e w) (fence_once_heard f w) (unfenced_after e w unfenced)
fits_heard talks.Getting Fenced unfenced (Some said.ReadyOk) h = refl
fits_heard talks.Getting Stopped unfenced (Some said.ReadyOk) h = absurd h
fits_heard talks.Getting Asked unfenced (Some said.ReadyOk) h = refl
fits_heard talks.Gone f unfenced w h = gone w where
  gone : (w : Option Said) → Fits (engine_after_heard talks.Gone w) (fence_once_heard f w) (unfenced_after talks.Gone w unfenced)
  gone None = tt
  gone (Some said.UciOk) = tt
  gone (Some w) = tt
fits_heard e f unfenced (Some said.Ended) h = tt
fits_heard e Asked unfenced (Some said.ReadyOk) h = absurd h
fits_heard talks.Boot f unfenced (Some said.UciOk) h = h
fits_heard (talks.Search k t s) f unfenced (Some said.Best) h = h
fits_heard e f unfenced w h = h

-- an order for an idle engine
idle_fits : (epoch : ℕ) (w : Word) (f g : Fence) (unfenced : Bool) (e : Engine) → e ≡ talks.Idle → (FitsOther f unfenced → Fits (engine_after_word epoch talks.Idle w) g unfenced)
    → Fits e f unfenced → Fits (engine_after_word epoch e w) g unfenced
idle_fits epoch w f g unfenced talks.Idle i goes h = goes h
idle_fits epoch w f g unfenced e i goes h = cc

asked_fits : (f : Fence) (unfenced : Bool) → FitsOther f unfenced → FitsGetting (fence_once_asked f) unfenced
asked_fits Fenced unfenced h = h
asked_fits Stopped unfenced h = h
asked_fits Asked unfenced h = absurd h

abbrev is_stop : Word → Bool
is_stop talks.Stop = true
is_stop w = false

fits_written : (epoch : ℕ) (e : Engine) (f : Fence) (unfenced : Bool) (order : Order) → MaySend e (dialogue_word_of order) → Fits e f unfenced
    → Fits (engine_after_word epoch e (dialogue_word_of order)) (fence_once_written f order) (is_stop (dialogue_word_of order) || unfenced)
fits_written epoch e f unfenced orders.Uci m h = absurd m
fits_written epoch e f unfenced orders.NewGame m h = idle_fits epoch talks.Setup f f unfenced e m (λ x. x) h
fits_written epoch e f unfenced (orders.SetOption name value) m h = idle_fits epoch talks.Setup f f unfenced e m (λ x. x) h
fits_written epoch e f unfenced (orders.Position start moves) m h = idle_fits epoch talks.Position f f unfenced e m (λ x. x) h
fits_written epoch e f unfenced (orders.Go ponder control depth) m h = idle_fits epoch (dialogue_word_of (orders.Go ponder control depth)) f f unfenced e m (λ x. x) h
fits_written epoch e f unfenced orders.IsReady m h = idle_fits epoch talks.IsReady f (fence_once_asked f) unfenced e m (asked_fits f unfenced) h
fits_written epoch e f unfenced orders.Quit m h = subst (λ (x : Engine). Fits x f unfenced) (sym (quit_sent epoch e)) h
fits_written epoch (talks.Search k t s) f unfenced orders.Stop m h = refl
fits_written epoch (talks.Search kinds.Ponder t s) f unfenced orders.PonderHit m h = h
fits_written epoch (talks.Search k t s) f unfenced orders.PonderHit m h = h
fits_written epoch e f unfenced order m h = absurd m

or_true : (b : Bool) → (b || true) ≡ true
or_true true = refl
or_true false = refl

stop_more : (w : Word) (ws : List Word) (unfenced : Bool) → (has_stop ws || (is_stop w || unfenced)) ≡ (has_stop (w ∷ ws) || unfenced)
stop_more talks.Stop ws unfenced = or_true (has_stop ws)
stop_more w ws unfenced = refl

fits_all : (epoch : ℕ) (e : Engine) (f : Fence) (unfenced : Bool) (os : List Order) → MaySendAll epoch e (map dialogue_word_of os) → Fits e f unfenced
    → Fits (sent_all epoch e (map dialogue_word_of os)) (fence_all f os) (has_stop (map dialogue_word_of os) || unfenced)
fits_all epoch e f unfenced [] m h = h
fits_all epoch e f unfenced (order ∷ os) m h =
    subst (λ b. Fits (sent_all epoch (engine_after_word epoch e (dialogue_word_of order)) (map dialogue_word_of os)) (fence_all (fence_once_written f order) os) b) (stop_more (dialogue_word_of order) (map dialogue_word_of os) unfenced)
    (fits_all epoch (engine_after_word epoch e (dialogue_word_of order)) (fence_once_written f order) (is_stop (dialogue_word_of order) || unfenced) os m.1 (fits_written epoch e f unfenced order m.0 h))

-- WHAT IS HEARD

-- whether the engine's answer fences is told by the engine after it
abbrev answered : Engine → Bool → Bool → Bool
answered talks.Getting idle unfenced = cond idle false unfenced
answered e idle unfenced = unfenced

unfenced_told : (e : Engine) (w : Option Said) (unfenced : Bool) → unfenced_after e w unfenced ≡ answered e (is_engine_idle (engine_after_heard e w)) unfenced
unfenced_told talks.Getting None unfenced = refl
unfenced_told talks.Getting (Some said.UciOk) unfenced = refl
unfenced_told talks.Getting (Some w) unfenced = refl
unfenced_told e w unfenced = refl

-- THE FENCE OF EACH TRACE

settings_are : (o : Settings) (t : List Step) → (state o t).settings ≡ o
settings_are o [] = refl
settings_are o (step ∷ t) = settings_are o t

mid_fits : (o : Settings) (t : List Step) (e : Event) → Fits (state o t).dialogue.engine (fence t) (state o t).dialogue.unfenced
    → Fits (mid (state o t) e).engine (fence_once_heard (fence t) (said_by_step (ends t).closed e)) (mid (state o t) e).unfenced
mid_fits o t e h =
    let s = state o t in
    let w = said_by_step s.ends.closed e in
    let heard = event_heard s e in
    let unfenced : (mid s e).unfenced ≡ unfenced_after s.dialogue.engine w s.dialogue.unfenced =
    unfenced_told s.dialogue.engine (said_of_event (what_of (effect s e))) s.dialogue.unfenced
    ∙ ap (λ (x : Engine). answered s.dialogue.engine (is_engine_idle x) s.dialogue.unfenced) heard
    ∙ sym (unfenced_told s.dialogue.engine w s.dialogue.unfenced) in
    subst (λ (c : Bool). Fits (mid s e).engine (fence_once_heard (fence t) (said_by_step c e)) (mid s e).unfenced) (ap (λ x. x.closed) (ends_on_wire o t))
    (subst (λ (b : Bool). Fits (mid s e).engine (fence_once_heard (fence t) w) b) (sym unfenced)
    (subst (λ (x : Engine). Fits x (fence_once_heard (fence t) w) (unfenced_after s.dialogue.engine w s.dialogue.unfenced)) (sym heard)
    (fits_heard s.dialogue.engine (fence t) s.dialogue.unfenced w h)))

step_fits : (o : Settings) (step : Step) (t : List Step) → LawfulTrace o (step ∷ t) → Fits (state o t).dialogue.engine (fence t) (state o t).dialogue.unfenced
    → (b : Bool) → is_open step.event ≡ b → Fits (state o (step ∷ t)).dialogue.engine (fence (step ∷ t)) (state o (step ∷ t)).dialogue.unfenced
step_fits o step t l h true y =
    let s = state o t in
    let same : s.dialogue ≡ (state o (step ∷ t)).dialogue = opening_dialogue s step.event step.orders y l.1.may_come (lasts o t l.0).begins (l.1.opens y) in
    let stays : fence (step ∷ t) ≡ fence t =
    ap (fence_all (fence_once_heard (fence t) (said_by_step (ends t).closed step.event))) (l.1.opens y)
    ∙ ap (fence_once_heard (fence t)) (opening_says (ends t).closed step.event y) in
    subst (λ (f : Fence). Fits (state o (step ∷ t)).dialogue.engine f (state o (step ∷ t)).dialogue.unfenced) (sym stays)
    (subst (λ (d : Ticketed). Fits d.engine (fence t) d.unfenced) same h)
step_fits o step t l h false n =
    let s = state o t in
    let m = mid s step.event in
    fits_all m.epoch m.engine (fence_once_heard (fence t) (said_by_step (ends t).closed step.event)) m.unfenced step.orders
    (may_all s.dialogue s.ends.closed (exchange s step) (lawful_in s step (lasts o t l.0) l.1 n)) (mid_fits o t step.event h)

fits : (o : Settings) (t : List Step) → LawfulTrace o t → Fits (state o t).dialogue.engine (fence t) (state o t).dialogue.unfenced
fits o [] l = refl
fits o (step ∷ t) l = step_fits o step t l (fits o t l.0) (is_open step.event) refl

-- WHERE A SEARCH BEGINS

only_fenced : (f : Fence) (e : Engine) (unfenced : Bool) → e ≡ talks.Idle → unfenced ≡ false → Fits e f unfenced → f ≡ Fenced
only_fenced Fenced e unfenced i u h = refl
only_fenced Stopped talks.Idle unfenced i u h = let z = sym h ∙ u in cc
only_fenced Asked talks.Idle unfenced i u h = absurd h
only_fenced f e unfenced i u h = cc

has_go_at : (before behind : List Order) (ponder : Bool) (control : GoControl) (depth : Option ℕ) → has_go (map dialogue_word_of (before ++ orders.Go ponder control depth ∷ behind)) ≡ true
has_go_at [] behind ponder control depth = refl
has_go_at (orders.Go p c d ∷ before) behind ponder control depth = refl
has_go_at (order ∷ before) behind ponder control depth = has_go_at before behind ponder control depth

none_behind : (before behind : List Order) (order : Order) → map dialogue_word_of (before ++ order ∷ behind) ≡ [] → ⊥
none_behind [] behind order e = cc
none_behind (x ∷ before) behind order e = cc

position_written : (f : Fence) (order : Order) → dialogue_word_of order ≡ Position → fence_once_written f order ≡ f
position_written f orders.Stop e = cc
position_written f orders.IsReady e = cc
position_written f order e = refl

-- before a `go` there is only a `position`
before_go : (f : Fence) (before behind : List Order) (ponder : Bool) (control : GoControl) (depth : Option ℕ) (k : GoKind)
    → map dialogue_word_of (before ++ orders.Go ponder control depth ∷ behind) ≡ Position ∷ Go k ∷ [] → fence_all f before ≡ f
before_go f [] behind ponder control depth k e = refl
before_go f (x ∷ []) behind ponder control depth k e = position_written f x (let first : dialogue_word_of x ≡ Position = cc in first)
before_go f (x ∷ y ∷ before) behind ponder control depth k e =
    absurd (none_behind before behind (orders.Go ponder control depth) (let rest : map dialogue_word_of (before ++ orders.Go ponder control depth ∷ behind) ≡ [] = cc in rest))

no_go_closing : (gone : Bool) → has_go (map dialogue_word_of (closing_step_orders gone)) ≡ false
no_go_closing true = refl
no_go_closing false = refl

module _ (o : Settings) (on : o.fence_stops ≡ true) (step : Step) (t : List Step) (before behind : List Order) (ponder : Bool) (control : GoControl) (depth : Option ℕ)
    (l : LawfulTrace o (step ∷ t)) (at : step.orders ≡ before ++ orders.Go ponder control depth ∷ behind) where
  abbrev s : State
  s = state o t

  begins : has_go (map dialogue_word_of step.orders) ≡ true
  begins = ap (λ (os : List Order). has_go (map dialogue_word_of os)) at ∙ has_go_at before behind ponder control depth

  abbrev IsFenced : Type 0
  IsFenced = fence_at t step before ≡ Fenced

  no_go : {os : List Order} → step.orders ≡ os → has_go (map dialogue_word_of os) ≡ false → IsFenced
  no_go e n = let z = sym begins ∙ ap (λ (os : List Order). has_go (map dialogue_word_of os)) e ∙ n in cc

  settled : is_open step.event ≡ false → closed_after s step.event ≡ false → IsFenced
  settled n c =
      let a = l.1.settled n c in
      let words = (a.words.go begins).0 in
      let idle = (subst (MaySendAll (mid s step.event).epoch (mid s step.event).engine) words a.words.may_send).0 in
      let f = fence_once_heard (fence t) (said_by_step (ends t).closed step.event) in
      before_go f before behind ponder control depth _ (sym (ap (map dialogue_word_of) at) ∙ words)
      ∙ only_fenced f (mid s step.event).engine (mid s step.event).unfenced idle (a.fenced (ap (λ (x : Settings). x.fence_stops) (settings_are o t) ∙ on) begins) (mid_fits o t step.event (fits o t l.0))

  by_stage : (opens before after : Bool) → is_open step.event ≡ opens → s.ends.closed ≡ before → closed_after s step.event ≡ after → IsFenced
  by_stage true before after y c n = no_go (l.1.opens y) refl
  by_stage false true after y c n = no_go (l.1.closed y c) refl
  by_stage false false true y c n = no_go (l.1.closes c n) (no_go_closing (is_gone_after s step.event))
  by_stage false false false y c n = settled y n

  pub go_fenced_there : IsFenced
  go_fenced_there = by_stage (is_open step.event) s.ends.closed (closed_after s step.event) refl refl refl

pub searches_fenced : (o : Settings) → SearchesAreFenced o
searches_fenced o on step t before behind ponder control depth l at = go_fenced_there o on step t before behind ponder control depth l at

-- AN OPEN SEARCH

fences_by : (b : Bool) (s : State) (step : Step) (xs : List Exchange) → s.settings.fence_stops ≡ true → AllFence xs → AllFence (cond b xs (exchange s step ∷ xs))
fences_by true s step xs f a = a
fences_by false s step xs f a = (a, f)

all_fence : (o : Settings) (t : List Step) → o.fence_stops ≡ true → AllFence (exchanges o t)
all_fence o [] on = tt
all_fence o (step ∷ t) on = fences_by (is_open step.event) (state o t) step (exchanges o t) (ap (λ (x : Settings). x.fence_stops) (settings_are o t) ∙ on) (all_fence o t on)

both_told : (e : Engine) (f : Fence) (unfenced : Bool) (k : GoKind) (stopped : Bool) → on_wire e ≡ Search k stopped → Fits e f unfenced → IsFencedUnlessStopped e unfenced → is_left_unfenced f ≡ stopped
both_told (talks.Search g t s) Fenced unfenced k stopped w h i = let same : s ≡ stopped = cc in sym h ∙ i ∙ same
both_told (talks.Search g t s) Stopped unfenced k stopped w h i = let same : s ≡ stopped = cc in sym h ∙ i ∙ same
both_told (talks.Search g t s) Asked unfenced k stopped w h i = absurd h
both_told e f unfenced k stopped w h i = cc

pub stopped_unfenced : (o : Settings) → StoppedSearchIsUnfenced o
stopped_unfenced o on t k stopped l w =
    let d = dialogues o t l in
    both_told (state o t).dialogue.engine (fence t) (state o t).dialogue.unfenced k stopped (engine_on_wire o t ∙ w) (fits o t l)
    (subst (λ (x : Ticketed). IsFencedUnlessStopped x.engine x.unfenced) d.dialogue (search_is_fenced (exchanges o t) (all_fence o t on) d.lawful))
