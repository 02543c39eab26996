-- A search begins only where no `stop` is unfenced, and in an open one a `stop` is unfenced if and only if it is stopped.
use Rattle.std.proofs.Common.{◌≡◌, ℕ, List, [], ◌∷◌, ◌++◌, Bool, true, false, not, cond, ◌&&◌, ◌||◌, Option, Some, None, refl, sym, ap, subst, ◌∙◌}
use Rattle.protocol_tokens.specs.declared.kinds.GoKind.{GoKind}
use Rattle.protocol_tokens.specs.declared.kinds.GoKind.TheVariants as kinds
use Rattle.search_epochs.specs.declared.words.Said.{Said}
use Rattle.search_epochs.specs.declared.words.Said.TheVariants as said
use Rattle.search_epochs.specs.Tickets.{Engine, Boot, Getting, Idle, Search, Gone, Word, IsReady, Position, Go, Stop, PonderHit, Quit, Ticketed, DialogueTurn, AllSetup, MaySend, MaySendAll, Settled, before_orders, engine_after_heard, engine_after_word, sent_all, unfenced_after, owed, is_due, is_engine_idle, is_no_call, has_no_order, has_stop, has_go, leaves_boot, kind_of, orders_stop, said_of_event, needs_fence}
use Rattle.search_epochs.specs.History.{Exchange, AreLawful, LawfulHistory, dialogue, is_closed, closing_orders}
use Rattle.search_epochs.specs.Laws.{GoIsFenced, AllFence, IsFencedUnlessStopped, SearchIsFenced}
use Rattle.search_epochs.proofs.Batches.{batch}
use Rattle.search_epochs.proofs.Same.{only_orders}
use Rattle.search_epochs.proofs.Histories.{closing_after}

-- WHERE A SEARCH BEGINS

no_ready_behind : (ws : List Word) → ws ++ IsReady ∷ [] ≡ [] → ⊥
no_ready_behind [] e = cc
no_ready_behind (w ∷ ws) e = cc

-- a batch is no search
no_batch_begins : (k : GoKind) (ws : List Word) → ws ++ IsReady ∷ [] ≡ Position ∷ Go k ∷ [] → ⊥
no_batch_begins k [] e = cc
no_batch_begins k (w ∷ []) e = cc
no_batch_begins k (w ∷ x ∷ ws) e = no_ready_behind ws (let rest : ws ++ IsReady ∷ [] ≡ [] = cc in rest)

fence_open : (idle before fences unfenced none : Bool) → (idle && (before || (fences && (unfenced && not none)))) ≡ false → idle ≡ true → fences ≡ true → none ≡ false → unfenced ≡ false
fence_open idle before fences false none h i f n = refl
fence_open false before fences true none h i f n = cc
fence_open true true fences true none h i f n = cc
fence_open true false false true none h i f n = cc
fence_open true false true true true h i f n = cc
fence_open true false true true false h i f n = cc

-- in a turn that fences a search is begun only if no `stop` is unfenced
pub go_fenced : (t : Ticketed) (u : DialogueTurn) (hit hurries : Bool) (ws : List Word)
    → Settled (before_orders t u).engine (before_orders t u).epoch (owed (before_orders t u) u.call) u.waiting (is_due t u) hit hurries ws
    → u.fences ≡ true → has_go ws ≡ true → (before_orders t u).unfenced ≡ false
go_fenced t u hit hurries ws s f g = by_due (is_due t u) refl where
  begun : (ws ≡ Position ∷ Go (kind_of (owed (before_orders t u) u.call)) ∷ []) × (is_no_call (owed (before_orders t u) u.call) ≡ false)
  begun = s.go g

  idle : is_engine_idle (before_orders t u).engine ≡ true
  idle = ap is_engine_idle (subst (MaySendAll (before_orders t u).epoch (before_orders t u).engine) begun.0 s.may_send).0

  by_due : (b : Bool) → is_due t u ≡ b → (before_orders t u).unfenced ≡ false
  by_due true d = absurd (no_batch_begins (kind_of (owed (before_orders t u) u.call)) u.waiting (sym (s.batch d) ∙ begun.0))
  by_due false d = fence_open (is_engine_idle (before_orders t u).engine) (leaves_boot t.engine u.what || not (has_no_order u.waiting)) u.fences (before_orders t u).unfenced (is_no_call (owed (before_orders t u) u.call)) d idle f begun.1

no_go_closing : (closed gone : Bool) → has_go (closing_orders closed gone) ≡ false
no_go_closing true gone = refl
no_go_closing false true = refl
no_go_closing false false = refl

pub go_is_fenced : GoIsFenced
go_is_fenced x xs l f g = by_closed x.closed refl where
  by_closed : (c : Bool) → x.closed ≡ c → (before_orders (dialogue xs) x.turn).unfenced ≡ false
  by_closed true c = let n = sym g ∙ ap has_go (l.2.closing c) ∙ no_go_closing (is_closed xs) _ in cc
  by_closed false c = go_fenced (dialogue xs) x.turn _ _ x.orders (l.2.settled c) f g

-- AN OPEN SEARCH

heard_fenced : (e : Engine) (s : Option Said) (unfenced : Bool) → IsFencedUnlessStopped e unfenced → IsFencedUnlessStopped (engine_after_heard e s) (unfenced_after e s unfenced)
heard_fenced (Search k t s) (Some said.Best) unfenced h = tt
heard_fenced (Search k t s) (Some said.Ended) unfenced h = tt
heard_fenced (Search k t s) None unfenced h = h
heard_fenced (Search k t s) (Some said.UciOk) unfenced h = h
heard_fenced (Search k t s) (Some said.ReadyOk) unfenced h = h
heard_fenced Boot (Some said.UciOk) unfenced h = tt
heard_fenced e (Some said.UciOk) unfenced h = tt
heard_fenced e s unfenced h = tt

hit_fenced : (epoch : ℕ) (e : Engine) (unfenced : Bool) → MaySend e PonderHit → IsFencedUnlessStopped e unfenced → IsFencedUnlessStopped (engine_after_word epoch e PonderHit) unfenced
hit_fenced epoch (Search kinds.Ponder t s) unfenced m h = h ∙ m.1
hit_fenced epoch (Search k t s) unfenced m h = h
hit_fenced epoch e unfenced m h = absurd m

stop_fenced : (epoch : ℕ) (e : Engine) (unfenced : Bool) → MaySend e Stop → IsFencedUnlessStopped (engine_after_word epoch e Stop) true
stop_fenced epoch (Search k t s) unfenced m = refl
stop_fenced epoch e unfenced m = absurd m

batch_fenced : (epoch : ℕ) (e : Engine) (waiting : List Word) (unfenced : Bool) → e ≡ Idle → AllSetup waiting → IsFencedUnlessStopped (sent_all epoch e (waiting ++ IsReady ∷ [])) unfenced
batch_fenced epoch e waiting unfenced i a =
    subst (λ (x : Engine). IsFencedUnlessStopped (sent_all epoch x (waiting ++ IsReady ∷ [])) unfenced) (sym i)
    (subst (λ (x : Engine). IsFencedUnlessStopped x unfenced) (sym (batch epoch waiting a).ends) tt)

idle_only : (e : Engine) (b : Bool) → (is_engine_idle e && b) ≡ true → e ≡ Idle
idle_only Idle b h = refl
idle_only Boot b h = cc
idle_only Getting b h = cc
idle_only (Search k t s) b h = cc
idle_only Gone b h = cc

module _ (t : Ticketed) (u : DialogueTurn) (hit hurries : Bool) (ws : List Word) (f : u.fences ≡ true) (a : AllSetup u.waiting)
    (s : Settled (before_orders t u).engine (before_orders t u).epoch (owed (before_orders t u) u.call) u.waiting (is_due t u) hit hurries ws)
    (h : IsFencedUnlessStopped (before_orders t u).engine (before_orders t u).unfenced) where
  abbrev m : Ticketed
  m = before_orders t u

  abbrev FencedBy : List Word → Type 0
  FencedBy os = IsFencedUnlessStopped (sent_all m.epoch m.engine os) (has_stop os || m.unfenced)

  abbrev search : List Word
  search = Position ∷ Go (kind_of (owed m u.call)) ∷ []

  by_tests : (due hits stops begins : Bool) → is_due t u ≡ due → ws ≡ cond due (u.waiting ++ IsReady ∷ []) (cond hits (PonderHit ∷ []) (cond stops (Stop ∷ []) (cond begins search []))) → FencedBy ws
  by_tests true hits stops begins d e = subst FencedBy (sym e) (batch_fenced m.epoch m.engine u.waiting _ (idle_only m.engine _ d) a)
  by_tests false true stops begins d e = subst FencedBy (sym e) (hit_fenced m.epoch m.engine m.unfenced (subst (MaySendAll m.epoch m.engine) e s.may_send).0 h)
  by_tests false false true begins d e = subst FencedBy (sym e) (stop_fenced m.epoch m.engine m.unfenced (subst (MaySendAll m.epoch m.engine) e s.may_send).0)
  by_tests false false false true d e =
      let i : m.engine ≡ Idle = (subst (MaySendAll m.epoch m.engine) e s.may_send).0 in
      subst FencedBy (sym e) (subst (λ (x : Engine). IsFencedUnlessStopped (sent_all m.epoch x search) m.unfenced) (sym i) (go_fenced t u hit hurries ws s f (ap has_go e)))
  by_tests false false false false d e = subst FencedBy (sym e) h

  pub turn_fenced : FencedBy ws
  turn_fenced =
      by_tests (is_due t u) hit (orders_stop hit m.epoch hurries m.engine) (is_engine_idle m.engine && not (is_no_call (owed m u.call))) refl
      (only_orders m.engine m.epoch (owed m u.call) u.waiting (is_due t u) hit hurries ws s)

abbrev FencedAfter : Ticketed → List Word → Type 0
FencedAfter m ws = IsFencedUnlessStopped (sent_all m.epoch m.engine ws) (has_stop ws || m.unfenced)

one_fenced : (t : Ticketed) (closed : Bool) (x : Exchange) → x.turn.fences ≡ true → AllSetup x.turn.waiting → AreLawful t closed x
    → IsFencedUnlessStopped (before_orders t x.turn).engine (before_orders t x.turn).unfenced → FencedAfter (before_orders t x.turn) x.orders
one_fenced t closed x f a l mid = by_closed x.closed refl where
  by_closed : (c : Bool) → x.closed ≡ c → FencedAfter (before_orders t x.turn) x.orders
  by_closed true c = subst (FencedAfter (before_orders t x.turn)) (sym (l.closing c)) (subst (λ (m : Ticketed). IsFencedUnlessStopped m.engine m.unfenced) (sym (closing_after (before_orders t x.turn) closed _)) mid)
  by_closed false c = turn_fenced t x.turn _ _ x.orders f a (l.settled c) mid

pub search_is_fenced : SearchIsFenced
search_is_fenced [] f l = tt
search_is_fenced (x ∷ xs) f l =
    let t = dialogue xs in
    one_fenced t (is_closed xs) x f.1 l.1.waiting l.2 (heard_fenced t.engine (said_of_event x.turn.what) t.unfenced (search_is_fenced xs f.0 l.0))
