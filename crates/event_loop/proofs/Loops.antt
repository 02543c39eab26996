-- A turn of the loop.
use Rattle.std.proofs.Common.{◌≡◌, ◌≢◌, ◌⊎◌, inl, inr, ℕ, List, [], ◌∷◌, ◌++◌, Bool, true, false, not, cond, ◌&&◌, ◌||◌, Option, filter, refl, sym, ap, subst, ◌∙◌, append-nil}
use Rattle.std.specs.List.{list_any}
use Rattle.std.specs.Io.KnownBytes.{Appends}
use Rattle.std.proofs.KnownBytes.{Appends-trans}
use Rattle.std.proofs.lemmas.List.Elements.{filter-append}
use Rattle.std.proofs.lemmas.Bool.{and_parts}
use mathlib.Core.Bool.{or-false, or-true}
use Rattle.line_io.specs.Event.{Event, Open, Iface, IfaceEnd, IfaceLost, EngineEnd, EngineLost}
use Rattle.line_io.specs.Source.{Received}
use Rattle.line_io.specs.Out.{Text}
use Rattle.protocol_tokens.specs.Quit.{is_quit}
use Rattle.event_pipe.specs.declared.message.Peer.{Peer}
use Rattle.event_pipe.specs.declared.message.Peer.TheVariants as peers
use Rattle.event_pipe.specs.Message.{role_of_event, is_last_event}
use Rattle.event_pipe.specs.Events.{is_of_role, of, has_last_event, EventMayFollow}
use Rattle.event_pipe.proofs.Roles.{more_ended}
use Rattle.program_lifecycle.specs.declared.offering.LoopEnd.{LoopEnd}
use Rattle.program_lifecycle.specs.Streams.{Sinks, TookPrefix, Offered}
use Rattle.program_lifecycle.proofs.Took.{took_next, took_nothing}
use Rattle.event_loop.specs.declared.looping.Sides.{Sides}
use Rattle.event_loop.specs.Turns.{Turn, given, turn_texts, events_of_turns, is_own_event, loss, is_loss, turns_have_loss, stands_between, TurnGave}
use Rattle.event_loop.specs.Meaning.{MediatorMeaning, turn_of_mediator, Opens, Allows}
use Rattle.event_loop.specs.Looped.{FailsAt, Fails, LostBehind, SideTook, Looped}
use Rattle.event_loop.specs.Reached.{AllOffered, Stepped, Receives, sides_ended_by, SideSoFar, MediatorReached}

-- ONE SIDE

breaks : (p : Peer) (s : Turn) (t : List Turn) (o0 o o' : Option (List ℕ)) → Appends o0 o (turn_texts (given p) t) → (given p s ≢ []) × TookPrefix (given p s) o o' → FailsAt p s t o0 o'
breaks p s t o0 o o' a b = record { prefix = b.1.prefix; rest = b.1.rest; is = b.1.is; some = b.0; took = Appends-trans o0 o o' _ _ a b.1.took }

-- it stays owed over the other peer's loss
stays_owed : (p : Peer) (s : Turn) (t : List Turn) (o0 o : Option (List ℕ)) → Fails p t o0 o → (false ≡ true) ⊎ (stands_between p s.event ≡ true) → Fails p (s ∷ t) o0 o
stays_owed p s t o0 o f (inl h) = cc
stays_owed p s t o0 o f (inr b) = inr (b, f)

later_lost : (p : Peer) (s : Turn) (t : List Turn) (o0 o : Option (List ℕ)) → LostBehind p t o0 o → LostBehind p (s ∷ t) o0 o
later_lost p s t o0 o l = record { later = s ∷ l.later; lost = l.lost; earlier = l.earlier; is = ap (λ (ts : List Turn). s ∷ ts) l.is; event = l.event; fails = l.fails }

-- one turn more; `il` says that it is that of the peer's loss
pub side_next : (hears : Bool) (p : Peer) (failed failed' reported il : Bool) (s : Turn) (t : List Turn) (o0 o o' : Received)
    → (il ≡ true → s.event ≡ loss p)
    → (hears ≡ true → failed ≡ true → reported ≡ false → (il ≡ true) ⊎ (stands_between p s.event ≡ true))
    → (il ≡ true → (failed ≡ true) × (reported ≡ false))
    → SideSoFar hears p t failed reported o0 o → Offered failed failed' o o' (given p s) → SideSoFar hears p (s ∷ t) failed' (il || reported) o0 o'
side_next hears p false failed' reported true s t o0 o o' e c d x y = let z = (d refl).0 in cc
side_next hears p false false reported false s t o0 o o' e c d x y =
    record { took = took_next _ _ _ _ _ _ _ x.took y; only = λ q. let z = x.only q in cc; owes = λ h q. cc; lost = λ h q. cc }
side_next hears p false true reported false s t o0 o o' e c d x y =
    record {
      took = took_next _ _ _ _ _ _ _ x.took y;
      only = λ q. refl;
      owes = λ h q n. inl (breaks p s t o0.taken o.taken o'.taken (x.took.whole refl) (y.prefix refl refl));
      lost = λ h q n. let z = x.only n in cc;
    }
side_next hears p true false reported il s t o0 o o' e c d x y = let z = (y.stays refl).0 in cc
side_next hears p true true true true s t o0 o o' e c d x y = let z = (d refl).1 in cc
side_next hears p true true false true s t o0 o o' e c d x y =
    let k = (y.stays refl).1 in
    record {
      took = took_next _ _ _ _ _ _ _ x.took y;
      only = λ q. refl;
      owes = λ h q n. cc;
      lost = λ h q n. subst (λ (z : Received). LostBehind p (s ∷ t) o0.taken z.taken) (sym k)
          (record { later = []; lost = s; earlier = t; is = refl; event = e refl; fails = x.owes h refl refl });
    }
side_next hears p true true true false s t o0 o o' e c d x y =
    let k = (y.stays refl).1 in
    record {
      took = took_next _ _ _ _ _ _ _ x.took y;
      only = λ q. refl;
      owes = λ h q n. cc;
      lost = λ h q n. subst (λ (z : Received). LostBehind p (s ∷ t) o0.taken z.taken) (sym k) (later_lost p s t o0.taken o.taken (x.lost h refl refl));
    }
side_next hears p true true false false s t o0 o o' e c d x y =
    let k = (y.stays refl).1 in
    record {
      took = took_next _ _ _ _ _ _ _ x.took y;
      only = λ q. refl;
      owes = λ h q n. subst (λ (z : Received). Fails p (s ∷ t) o0.taken z.taken) (sym k) (stays_owed p s t o0.taken o.taken (x.owes h refl refl) (c h refl refl));
      lost = λ h q n. cc;
    }

loss_is : (p : Peer) (e : Event) → is_loss p e ≡ true → e ≡ loss p
loss_is peers.Iface IfaceLost h = refl
loss_is peers.Iface e h = cc
loss_is peers.Engine EngineLost h = refl
loss_is peers.Engine e h = cc

-- where the sink failed something was given
gave : (p : Peer) (t : List Turn) (o0 o : Option (List ℕ)) → Fails p t o0 o → TurnGave p t
gave p [] o0 o f = absurd f
gave p (s ∷ t) o0 o (inl f) = inl f.some
gave p (s ∷ t) o0 o (inr f) = inr (f.0, gave p t o0 o f.1)

side_took : (hears : Bool) (p : Peer) (t : List Turn) (failed reported : Bool) (o0 o : Received) → turns_have_loss p t ≡ reported → SideSoFar hears p t failed reported o0 o
    → (hears ≡ true → failed ≡ true → reported ≡ false → ⊥) → SideTook hears p t failed o0 o
side_took hears p t failed true o0 o e x n = record { took = x.took; only = λ q. x.only refl; lost = λ h f. x.lost h f refl }
side_took hears p t failed false o0 o e x n = record { took = x.took; only = λ q. x.only (sym e ∙ q); lost = λ h f. absurd (n h f refl) }

-- EVENTS

iface_by : (e : Sides) (x : Event) (b : Bool) → e.iface ≡ b → (sides_ended_by e x).iface ≡ (b || has_last_event (of 1 (x ∷ [])))
iface_by e (Iface line) b h = ap (λ x. x || is_quit line) h ∙ ap (λ x. b || x) (sym (or-false (is_quit line)))
iface_by e IfaceEnd b h = sym (or-true b)
iface_by e x b h = h ∙ sym (or-false b)

engine_by : (e : Sides) (x : Event) (b : Bool) → e.engine ≡ b → (sides_ended_by e x).engine ≡ (b || has_last_event (of 2 (x ∷ [])))
engine_by e EngineEnd b h = sym (or-true b)
engine_by e x b h = h ∙ sym (or-false b)

-- a list that was filtered has no end if the list has none
pub or_parts : (a b : Bool) → (a || b) ≡ false → (a ≡ false) × (b ≡ false)
or_parts true b h = cc
or_parts false b h = (refl, h)

pub neither : (a b : Bool) → a ≡ false → b ≡ false → (a || b) ≡ false
neither a b p q = rw (p, q) refl

any_cond : (f : Event → Bool) (b : Bool) (x : Event) (r : List Event) → (f x || list_any f r) ≡ false → list_any f r ≡ false → list_any f (cond b (x ∷ r) r) ≡ false
any_cond f true x r h g = h
any_cond f false x r h g = g

pub any_filter : (f g : Event → Bool) (es : List Event) → list_any f es ≡ false → list_any f (filter g es) ≡ false
any_filter f g [] h = refl
any_filter f g (x ∷ es) h =
    let w = or_parts (f x) (list_any f es) h in
    let i = any_filter f g es w.1 in
    any_cond f (g x) x (filter g es) (neither (f x) (list_any f (filter g es)) w.0 i) i

filter_one : (f : Event → Bool) (b : Bool) (x : Event) (r : List Event) → filter f (cond b (x ∷ r) r) ≡ cond b (cond (f x) (x ∷ filter f r) (filter f r)) (filter f r)
filter_one f true x r = refl
filter_one f false x r = refl

cond_swap : (a b : Bool) (u v : List Event) → cond b (cond a u v) v ≡ cond a (cond b u v) v
cond_swap true true u v = refl
cond_swap true false u v = refl
cond_swap false true u v = refl
cond_swap false false u v = refl

pub filter_swap : (f g : Event → Bool) (es : List Event) → filter f (filter g es) ≡ filter g (filter f es)
filter_swap f g [] = refl
filter_swap f g (x ∷ es) =
    filter_one f (g x) x (filter g es)
    ∙ cond_swap (f x) (g x) (x ∷ filter f (filter g es)) (filter f (filter g es))
    ∙ ap (λ (l : List Event). cond (f x) (cond (g x) (x ∷ l) l) l) (filter_swap f g es)
    ∙ sym (filter_one g (f x) x (filter f es))

no_ends : (role : ℕ) (g : Event → Bool) (es : List Event) → has_last_event (of role es) ≡ false → has_last_event (of role (filter g es)) ≡ false
no_ends role g es h = ap has_last_event (filter_swap (is_of_role role) g es) ∙ any_filter is_last_event g (of role es) h

-- a received event is none of the loop's own
comes : (x : Event) → role_of_event x ≢ 3 → (is_own_event x ≡ false) × (is_loss peers.Iface x ≡ false) × (is_loss peers.Engine x ≡ false)
comes Open n = absurd (n refl)
comes IfaceLost n = absurd (n refl)
comes EngineLost n = absurd (n refl)
comes x n = (refl, refl, refl)

not_both : (a b : Bool) → (a && b) ≡ false → a ≡ true → b ≡ true → ⊥
not_both true true h p q = cc
not_both true false h p q = cc
not_both false b h p q = cc

abbrev pub none_failed : LoopEnd
none_failed = record { output = false; engine = false; log = false }

abbrev pub none_ended : Sides
none_ended = record { iface = false; engine = false }

module _ {M : Type 0} (means : MediatorMeaning M) where
  new_side : (p : Peer) (o : Received) → SideSoFar means.hears_loss p [] false false o o
  new_side p o = record { took = took_nothing o; only = λ q. cc; owes = λ h q. cc; lost = λ h q. cc }

  -- after the first turn
  pub reached_first : (m0 m : M) (events : List Event) (held held' : Text) (b a : Sinks) (to : LoopEnd) → held.text ≡ [] → events ≡ []
      → Opens means m0 held m held' → AllOffered (means.gave m peers.Iface) (means.gave m peers.Engine) held'.text b a none_failed to → MediatorReached means m0 m events none_ended b a to
  reached_first m0 m events held held' b a to t e o f =
      let first = turn_of_mediator means Open m o.piece in
      let piece : held'.text ≡ o.piece = ap (λ (x : Text). x.text) o.put ∙ ap (λ (x : List ℕ). x ++ o.piece) t in
      record {
        turns = first ∷ [];
        did = o.did;
        begins = record { later = []; first = first; is = refl; event = refl };
        received_is = ap (λ (es : List Event). filter means.reported es) (sym e);
        iface_ended = ap (λ (es : List Event). has_last_event (of 1 es)) (sym e);
        engine_ended = ap (λ (es : List Event). has_last_event (of 2 es)) (sym e);
        iface = side_next means.hears_loss peers.Iface false to.output false false first [] b.output b.output a.output (λ q. cc) (λ h q. cc) (λ q. cc) (new_side peers.Iface b.output) f.output;
        engine = side_next means.hears_loss peers.Engine false to.engine false false first [] b.engine b.engine a.engine (λ q. cc) (λ h q. cc) (λ q. cc) (new_side peers.Engine b.engine) f.engine;
        log = took_next _ _ [] o.piece b.log b.log a.log (took_nothing b.log) (subst (λ (x : List ℕ). Offered false to.log b.log a.log x) piece f.log);
      }

  module _ (m0 m : M) (events : List Event) (sides : Sides) (b s : Sinks) (at : LoopEnd) (r : MediatorReached means m0 m events sides b s at) where
    abbrev has : Peer → Bool
    has p = turns_have_loss p r.turns

    next : (m' : M) (e : Event) (a : Sinks) (to : LoopEnd) → Stepped means e m m' s a at to → (events' : List Event) (sides' : Sides)
        → (events_of_turns r.turns ++ cond (is_own_event e) [] (e ∷ [])) ≡ filter means.reported events'
        → sides'.iface ≡ has_last_event (of 1 events') → sides'.engine ≡ has_last_event (of 2 events')
        → (means.hears_loss ≡ true → at.output ≡ true → has peers.Iface ≡ false → (is_loss peers.Iface e ≡ true) ⊎ (stands_between peers.Iface e ≡ true))
        → (is_loss peers.Iface e ≡ true → (at.output ≡ true) × (has peers.Iface ≡ false))
        → (means.hears_loss ≡ true → at.engine ≡ true → has peers.Engine ≡ false → (is_loss peers.Engine e ≡ true) ⊎ (stands_between peers.Engine e ≡ true))
        → (is_loss peers.Engine e ≡ true → (at.engine ≡ true) × (has peers.Engine ≡ false))
        → MediatorReached means m0 m' events' sides' b a to
    next m' e a to st events' sides' got i j c1 d1 c2 d2 =
        let one = turn_of_mediator means e m' st.piece in
        record {
          turns = one ∷ r.turns;
          did = st.goes m0 r.turns r.did;
          begins = record { later = one ∷ r.begins.later; first = r.begins.first; is = ap (λ (ts : List Turn). one ∷ ts) r.begins.is; event = r.begins.event };
          received_is = got;
          iface_ended = i;
          engine_ended = j;
          iface = side_next means.hears_loss peers.Iface at.output to.output (has peers.Iface) (is_loss peers.Iface e) one r.turns b.output s.output a.output (loss_is peers.Iface e) c1 d1 r.iface st.offered.output;
          engine = side_next means.hears_loss peers.Engine at.engine to.engine (has peers.Engine) (is_loss peers.Engine e) one r.turns b.engine s.engine a.engine (loss_is peers.Engine e) c2 d2 r.engine st.offered.engine;
          log = took_next _ _ _ _ _ _ _ r.log st.offered.log;
        }

    owed_once : (p : Peer) (failed : Bool) → Allows means m (loss p) → (failed && means.may m (loss p)) ≡ true → (failed ≡ true) × (has p ≡ false)
    owed_once p failed allows h = let w = and_parts failed (means.may m (loss p)) h in (w.0, allows.once p m0 r.turns r.did refl w.1)

    none_owed : (p : Peer) (failed : Bool) (o0 o : Received) → Allows means m (loss p) → (failed && means.may m (loss p)) ≡ false → SideSoFar means.hears_loss p r.turns failed (has p) o0 o
        → means.hears_loss ≡ true → failed ≡ true → has p ≡ false → ⊥
    none_owed p failed o0 o allows h x hears f n =
        not_both failed (means.may m (loss p)) h f (allows.owed p m0 r.turns r.did refl hears (gave p r.turns o0.taken o.taken (x.owes hears f n)) n)

    pub after_iface_lost : (m' : M) (a : Sinks) (to : LoopEnd) → Allows means m IfaceLost → (at.output && means.may m IfaceLost) ≡ true → Stepped means IfaceLost m m' s a at to → MediatorReached means m0 m' events sides b a to
    after_iface_lost m' a to allows h st =
        next m' IfaceLost a to st events sides (append-nil (events_of_turns r.turns) ∙ r.received_is) r.iface_ended r.engine_ended (λ _ _ _. inl refl) (λ _. owed_once peers.Iface at.output allows h) (λ _ _ _. inr refl) (λ q. cc)

    pub after_engine_lost : (m' : M) (a : Sinks) (to : LoopEnd) → Allows means m IfaceLost → (at.output && means.may m IfaceLost) ≡ false → Allows means m EngineLost → (at.engine && means.may m EngineLost) ≡ true
        → Stepped means EngineLost m m' s a at to → MediatorReached means m0 m' events sides b a to
    after_engine_lost m' a to allows h allows' h' st =
        next m' EngineLost a to st events sides (append-nil (events_of_turns r.turns) ∙ r.received_is) r.iface_ended r.engine_ended
        (λ q f n. absurd (none_owed peers.Iface at.output _ _ allows h r.iface q f n)) (λ q. cc) (λ _ _ _. inl refl) (λ _. owed_once peers.Engine at.engine allows' h')

    follows_received : (x : Event) → EventMayFollow events x → EventMayFollow (events_of_turns r.turns) x
    follows_received x f = (ap (λ (es : List Event). has_last_event (of (role_of_event x) es)) r.received_is ∙ no_ends (role_of_event x) means.reported events f.0, f.1, f.2)

    module _ (x : Event) (follows : EventMayFollow events x) (allows : Allows means m x) (events' : List Event) (got : events' ≡ events ++ x ∷ []) where
      reported_is : means.may m x ≡ means.reported x
      reported_is = allows.follows m0 r.turns r.did (follows_received x follows)

      iface_next : (sides_ended_by sides x).iface ≡ has_last_event (of 1 events')
      iface_next = iface_by sides x _ r.iface_ended ∙ sym (more_ended 1 events (x ∷ [])) ∙ ap (λ (es : List Event). has_last_event (of 1 es)) (sym got)

      engine_next : (sides_ended_by sides x).engine ≡ has_last_event (of 2 events')
      engine_next = engine_by sides x _ r.engine_ended ∙ sym (more_ended 2 events (x ∷ [])) ∙ ap (λ (es : List Event). has_last_event (of 2 es)) (sym got)

      filter_next : (c : Bool) → means.reported x ≡ c → filter means.reported events ++ cond c (x ∷ []) [] ≡ filter means.reported events'
      filter_next c h = ap (λ k. filter means.reported events ++ cond k (x ∷ []) []) (sym h) ∙ sym (filter-append means.reported events (x ∷ [])) ∙ ap (λ (es : List Event). filter means.reported es) (sym got)

      -- it was taken
      pub after_take : (m' : M) (a : Sinks) (to : LoopEnd) → means.may m x ≡ true
          → Allows means m IfaceLost → (at.output && means.may m IfaceLost) ≡ false → Allows means m EngineLost → (at.engine && means.may m EngineLost) ≡ false
          → Stepped means x m m' s a at to → MediatorReached means m0 m' events' (sides_ended_by sides x) b a to
      after_take m' a to may al h al' h' st =
          let c = comes x follows.2 in
          next m' x a to st events' (sides_ended_by sides x)
          (ap (λ k. events_of_turns r.turns ++ cond k [] (x ∷ [])) c.0 ∙ ap (λ (es : List Event). es ++ x ∷ []) r.received_is ∙ filter_next true (sym reported_is ∙ may))
          iface_next engine_next
          (λ q f n. absurd (none_owed peers.Iface at.output _ _ al h r.iface q f n)) (λ q. let z = c.1 in cc)
          (λ q f n. absurd (none_owed peers.Engine at.engine _ _ al' h' r.engine q f n)) (λ q. let z = c.2 in cc)

      -- it was passed over
      pub passed_over : means.may m x ≡ false → MediatorReached means m0 m events' (sides_ended_by sides x) b s at
      passed_over may =
          record {
            turns = r.turns;
            did = r.did;
            begins = r.begins;
            received_is = r.received_is ∙ sym (append-nil (filter means.reported events)) ∙ filter_next false (sym reported_is ∙ may);
            iface_ended = iface_next;
            engine_ended = engine_next;
            iface = r.iface;
            engine = r.engine;
            log = r.log;
          }

      -- it was the one or the other
      pub after_received : (m' : M) (a : Sinks) (to : LoopEnd)
          → Allows means m IfaceLost → (at.output && means.may m IfaceLost) ≡ false → Allows means m EngineLost → (at.engine && means.may m EngineLost) ≡ false
          → Receives means x m m' s a at to → MediatorReached means m0 m' events' (sides_ended_by sides x) b a to
      after_received m' a to al h al' h' (inl t) = after_take m' a to t.0 al h al' h' t.1
      after_received m' a to al h al' h' (inr p) =
          subst (λ (n : M). MediatorReached means m0 n events' (sides_ended_by sides x) b a to) (sym p.same)
          (subst (λ (k : Sinks). MediatorReached means m0 m events' (sides_ended_by sides x) b k to) (sym p.sinks)
          (subst (λ (k : LoopEnd). MediatorReached means m0 m events' (sides_ended_by sides x) b s k) (sym p.at) (passed_over p.not)))

    pub looped : (over : Bool) → Allows means m IfaceLost → (at.output && means.may m IfaceLost) ≡ false → Allows means m EngineLost → (at.engine && means.may m EngineLost) ≡ false
        → over ≡ (sides.iface && sides.engine) → over ≡ true → Looped means m0 m events b s at
    looped over al h al' h' e t =
        let w = and_parts sides.iface sides.engine (sym e ∙ t) in
        record {
          turns = r.turns;
          did = r.did;
          begins = r.begins;
          received_is = r.received_is;
          iface_ended = sym r.iface_ended ∙ w.0;
          engine_ended = sym r.engine_ended ∙ w.1;
          iface = side_took means.hears_loss peers.Iface r.turns at.output _ b.output s.output refl r.iface (none_owed peers.Iface at.output _ _ al h r.iface);
          engine = side_took means.hears_loss peers.Engine r.turns at.engine _ b.engine s.engine refl r.engine (none_owed peers.Engine at.engine _ _ al' h' r.engine);
          log = r.log;
        }
