-- Orders that a judge hears.
use Rattle.std.proofs.Common.{◌≡◌, ℕ, List, [], ◌∷◌, map, Bool, true, false, Option, Some, None, refl, sym, ap, subst, ◌∙◌}
use Rattle.protocol_tokens.specs.declared.kinds.GoKind.{GoKind}
use Rattle.protocol_tokens.specs.declared.kinds.GoKind.TheVariants as kinds
use Rattle.chess_board.specs.Position.{Position as Place}
use Rattle.uci_lines.specs.Orders.{Order}
use Rattle.uci_lines.specs.Orders as orders
use Rattle.search_epochs.specs.Tickets as talks
use Rattle.search_epochs.specs.Tickets.{Engine, Word, MaySend, MaySendAll, Paired, engine_after_word, sent_all, has_go, has_quit_order}
use Rattle.desk_rules.specs.Orders.{dialogue_word_of}
use Rattle.session_judge.specs.declared.dialogue_event.OrderKind.{OrderKind as Heard}
use Rattle.session_judge.specs.declared.dialogue_event.OrderKind.TheVariants as hears
use Rattle.session_judge.specs.declared.dialogue_event.DialogueEvent.TheVariants as dialogue_events
use Rattle.session_judge.specs.declared.engine.EnginePhase.{EnginePhase as Wire}
use Rattle.session_judge.specs.declared.engine.EnginePhase.TheVariants as wires
use Rattle.session_judge.specs.declared.talk.OrderStage.TheVariants as stages
use Rattle.session_judge.specs.declared.talk.JudgedTalk.{JudgedTalk}
use Rattle.session_judge.specs.Rules.{broken}
use Rattle.session_judge.specs.Talks.{judgement_after}
use Rattle.judge_and_driver_laws.specs.Judge.Logs.{engine_mark}
use Rattle.judge_and_driver_laws.proofs.Judge.Runs.{Runs, first_runs}
use Rattle.judge_and_driver_laws.proofs.Judge.Texts.{as_order, order_action}

-- the engine of a talk is there, and so
pub record Is (t : JudgedTalk) (w : Wire) : Type 0 where
  pub engine : t.engine ≡ w
  pub there : t.gone ≡ false

-- it is this engine without its ticket, or is gone as this one
abbrev pub Shows : JudgedTalk → Engine → Type 0
Shows t talks.Boot = Is t wires.Boot
Shows t talks.Getting = Is t wires.Getting
Shows t talks.Idle = Is t wires.Idle
Shows t (talks.Search k ticket s) = Is t (wires.Search k s)
Shows t talks.Gone = t.gone ≡ true

-- the invariant of a talk between the steps of an open session
pub record Agrees (t : JudgedTalk) (e : Engine) (p : Place) : Type 0 where
  pub engine : Shows t e
  pub stage : t.stage ≡ stages.Open
  pub placed : t.placed ≡ p

-- an order breaks no rule, and leads to this engine
record Takes (t : JudgedTalk) (e : Engine) (o : Heard) : Type 0 where
  passes : broken t (dialogue_events.Writes o) ≡ None
  leads : (line : ℕ) → Agrees (judgement_after t line (dialogue_events.Writes o)) e t.placed

setup_takes : (t : JudgedTalk) → Is t wires.Idle → t.stage ≡ stages.Open → Takes t talks.Idle hears.Setup
setup_takes t i s = record {
  passes = rw (s, i.engine, i.there) refl;
  leads = λ line. record { engine = record { engine = rw i.engine refl; there = i.there }; stage = rw s refl; placed = refl };
}

ready_takes : (t : JudgedTalk) → Is t wires.Idle → t.stage ≡ stages.Open → Takes t talks.Getting hears.IsReady
ready_takes t i s = record {
  passes = rw (s, i.engine, i.there) refl;
  leads = λ line. record { engine = record { engine = refl; there = i.there }; stage = rw s refl; placed = refl };
}

stop_takes : (t : JudgedTalk) (k : GoKind) (ticket : ℕ) → Is t (wires.Search k false) → t.stage ≡ stages.Open → Takes t (talks.Search k ticket true) hears.Stop
stop_takes t k ticket i s = record {
  passes = rw (s, i.engine, i.there) refl;
  leads = λ line. record { engine = record { engine = rw i.engine refl; there = i.there }; stage = rw s refl; placed = refl };
}

hit_takes : (t : JudgedTalk) (ticket : ℕ) → Is t (wires.Search kinds.Ponder false) → t.stage ≡ stages.Open → Takes t (talks.Search kinds.Move ticket false) hears.PonderHit
hit_takes t ticket i s = record {
  passes = rw (s, i.engine, i.there) refl;
  leads = λ line. record { engine = record { engine = rw i.engine refl; there = i.there }; stage = rw s refl; placed = refl };
}

-- of a search that is stopped or not
search_so : (t : JudgedTalk) (k : GoKind) (a b : Bool) → a ≡ b → Is t (wires.Search k a) → Is t (wires.Search k b)
search_so t k a b e i = subst (λ (x : Bool). Is t (wires.Search k x)) e i

-- an order that is neither `uci`, `position`, `go` nor `quit`
abbrev pub is_plain : Order → Bool
is_plain orders.Uci = false
is_plain (orders.Position start moves) = false
is_plain (orders.Go ponder control depth) = false
is_plain orders.Quit = false
is_plain o = true

by_idle : (n : ℕ) (e : Engine) (w : Word) (t : JudgedTalk) (o : Heard) → e ≡ talks.Idle → Takes t (engine_after_word n talks.Idle w) o → Takes t (engine_after_word n e w) o
by_idle n e w t o i k = subst (λ (x : Engine). Takes t (engine_after_word n x w) o) (sym i) k

stops_at : (n : ℕ) (e : Engine) (t : JudgedTalk) → Shows t e → t.stage ≡ stages.Open → MaySend e talks.Stop → Takes t (engine_after_word n e talks.Stop) hears.Stop
stops_at n talks.Boot t e s m = absurd m
stops_at n talks.Getting t e s m = absurd m
stops_at n talks.Idle t e s m = absurd m
stops_at n talks.Gone t e s m = absurd m
stops_at n (talks.Search kinds.Move ticket x) t e s m = stop_takes t kinds.Move ticket (search_so t kinds.Move x false m e) s
stops_at n (talks.Search kinds.Ponder ticket x) t e s m = stop_takes t kinds.Ponder ticket (search_so t kinds.Ponder x false m e) s
stops_at n (talks.Search kinds.Analyse ticket x) t e s m = stop_takes t kinds.Analyse ticket (search_so t kinds.Analyse x false m e) s

hits_at : (n : ℕ) (e : Engine) (t : JudgedTalk) → Shows t e → t.stage ≡ stages.Open → MaySend e talks.PonderHit → Takes t (engine_after_word n e talks.PonderHit) hears.PonderHit
hits_at n talks.Boot t e s m = absurd m
hits_at n talks.Getting t e s m = absurd m
hits_at n talks.Idle t e s m = absurd m
hits_at n talks.Gone t e s m = absurd m
hits_at n (talks.Search kinds.Move ticket x) t e s m = absurd (let a = m.0 in cc)
hits_at n (talks.Search kinds.Analyse ticket x) t e s m = absurd (let a = m.0 in cc)
hits_at n (talks.Search kinds.Ponder ticket x) t e s m = hit_takes t n (search_so t kinds.Ponder x false m.1 e) s

takes : (n : ℕ) (e : Engine) (o : Order) (t : JudgedTalk) → is_plain o ≡ true → Shows t e → t.stage ≡ stages.Open → MaySend e (dialogue_word_of o) → Takes t (engine_after_word n e (dialogue_word_of o)) (as_order o)
takes n e orders.IsReady t p a s m = by_idle n e talks.IsReady t hears.IsReady m (ready_takes t (subst (Shows t) m a) s)
takes n e orders.NewGame t p a s m = by_idle n e talks.Setup t hears.Setup m (setup_takes t (subst (Shows t) m a) s)
takes n e (orders.SetOption name value) t p a s m = by_idle n e talks.Setup t hears.Setup m (setup_takes t (subst (Shows t) m a) s)
takes n e orders.Stop t p a s m = stops_at n e t a s m
takes n e orders.PonderHit t p a s m = hits_at n e t a s m
takes n e o t p a s m = absurd (cc)

-- `position` comes only before `go`
no_position : (ws : List Word) → Paired (talks.Position ∷ ws) → has_go ws ≡ false → ⊥
no_position (talks.Go k ∷ ws) p g = cc
no_position ws p g = p

record Plain (o : Order) (os : List Order) : Type 0 where
  plain : is_plain o ≡ true
  paired : Paired (map dialogue_word_of os)
  no_go : has_go (map dialogue_word_of os) ≡ false
  no_quit : has_quit_order (map dialogue_word_of os) ≡ false

plain_first : (e : Engine) (o : Order) (os : List Order) → MaySend e (dialogue_word_of o) → Paired (dialogue_word_of o ∷ map dialogue_word_of os) → has_go (dialogue_word_of o ∷ map dialogue_word_of os) ≡ false
    → has_quit_order (dialogue_word_of o ∷ map dialogue_word_of os) ≡ false → Plain o os
plain_first e orders.Uci os m p g q = absurd m
plain_first e orders.Quit os m p g q = absurd (cc)
plain_first e (orders.Position start moves) os m p g q = absurd (no_position (map dialogue_word_of os) p g)
plain_first e (orders.Go ponder control depth) os m p g q = absurd (cc)
plain_first e o os m p g q = record { plain = refl; paired = p; no_go = g; no_quit = q }

-- orders without a search
pub plain_runs : (n : ℕ) (e : Engine) (os : List Order) (t : JudgedTalk) (p : Place) → Agrees t e p → MaySendAll n e (map dialogue_word_of os) → Paired (map dialogue_word_of os) → has_go (map dialogue_word_of os) ≡ false
    → has_quit_order (map dialogue_word_of os) ≡ false → Runs t (map engine_mark os) (λ u. Agrees u (sent_all n e (map dialogue_word_of os)) p)
plain_runs n e [] t p a m r g q = a
plain_runs n e (o ∷ os) t p a m r g q =
    let k = plain_first e o os m.0 r g q in
    let x = takes n e o t k.plain a.engine a.stage m.0 in
    first_runs t (engine_mark o) (map engine_mark os) (λ u. Agrees u (sent_all n e (map dialogue_word_of (o ∷ os))) p) (dialogue_events.Writes (as_order o)) (order_action o) x.passes (λ line.
    let b = x.leads line in
    plain_runs n (engine_after_word n e (dialogue_word_of o)) os (judgement_after t line (dialogue_events.Writes (as_order o))) p (record { engine = b.engine; stage = b.stage; placed = b.placed ∙ a.placed }) m.1 k.paired k.no_go k.no_quit
    )

-- THE ORDERS FOR A SEARCH

pub search_runs : (n : ℕ) (fen : Option (List ℕ)) (moves : List ℕ) (go : Order) (k : GoKind) (t : JudgedTalk) (p q : Place) → Agrees t talks.Idle p
    → as_order (orders.Position fen moves) ≡ hears.Position (Some q) → as_order go ≡ hears.Go k
    → Runs t (map engine_mark (orders.Position fen moves ∷ go ∷ [])) (λ u. Agrees u (talks.Search k n false) q)
search_runs n fen moves go k t p q a x y =
    let first = dialogue_events.Writes (hears.Position (Some q)) in
    let second = dialogue_events.Writes (hears.Go k) in
    let P : JudgedTalk → Type 0 = λ u. Agrees u (talks.Search k n false) q in
    first_runs t (engine_mark (orders.Position fen moves)) (engine_mark go ∷ []) P first (order_action (orders.Position fen moves) ∙ ap dialogue_events.Writes x) (rw (a.stage, a.engine.engine, a.engine.there) refl) (λ line.
    first_runs (judgement_after t line first) (engine_mark go) [] P second (order_action go ∙ ap dialogue_events.Writes y) (rw (a.stage, a.engine.engine, a.engine.there) refl)
    (λ line'. record { engine = record { engine = refl; there = a.engine.there }; stage = rw a.stage refl; placed = refl })
    )

-- `quit`
pub quit_runs : (e : Engine) (t : JudgedTalk) (p : Place) (P : JudgedTalk → Type 0) → Agrees t e p → (e ≡ talks.Gone → ⊥) → ((u : JudgedTalk) → P u) → Runs t (map engine_mark (orders.Quit ∷ [])) P
quit_runs talks.Boot t p P a n f = first_runs t (engine_mark orders.Quit) [] P (dialogue_events.Writes hears.Quit) (order_action orders.Quit) (rw (a.stage, a.engine.engine, a.engine.there) refl) (λ line. f _)
quit_runs talks.Getting t p P a n f = first_runs t (engine_mark orders.Quit) [] P (dialogue_events.Writes hears.Quit) (order_action orders.Quit) (rw (a.stage, a.engine.engine, a.engine.there) refl) (λ line. f _)
quit_runs talks.Idle t p P a n f = first_runs t (engine_mark orders.Quit) [] P (dialogue_events.Writes hears.Quit) (order_action orders.Quit) (rw (a.stage, a.engine.engine, a.engine.there) refl) (λ line. f _)
quit_runs (talks.Search k ticket s) t p P a n f = first_runs t (engine_mark orders.Quit) [] P (dialogue_events.Writes hears.Quit) (order_action orders.Quit) (rw (a.stage, a.engine.engine, a.engine.there) refl) (λ line. f _)
quit_runs talks.Gone t p P a n f = absurd (n refl)
