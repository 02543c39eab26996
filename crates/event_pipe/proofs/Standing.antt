-- Messages that stand for events.
use Rattle.std.proofs.Common.{◌≡◌, ℕ, List, [], ◌∷◌, ◌++◌, map, Bool, true, false, cond, ◌==◌, ◌||◌, refl, sym, ap, subst, ◌∙◌}
use Rattle.std.proofs.lemmas.List.{map-append}
use Rattle.line_io.specs.Event.{Event}
use Rattle.line_io.specs.Source.{Supplied}
use Rattle.event_pipe.specs.declared.reader.ReadEnd.{ReadEnd}
use Rattle.event_pipe.specs.Arrivals.{Arrived}
use Rattle.event_pipe.specs.declared.message.MessageBody.{MessageBody}
use Rattle.event_pipe.specs.declared.message.MessageBody.TheVariants as says
use Rattle.event_pipe.specs.declared.message.Peer.{Peer}
use Rattle.event_pipe.specs.declared.message.Peer.TheVariants as peers
use Rattle.event_pipe.specs.Meaning.{MessageMeaning}
use Rattle.event_pipe.specs.Message.{role_of, role_of_event, sent_event, is_last_event, is_good, StandsForEvents}
use Rattle.event_pipe.specs.Rule.{messages_of, messages_by, has_last, MayFollow}
use Rattle.event_pipe.specs.Ends.{CameFrom}
use Rattle.event_pipe.specs.Events.{is_of_role, of, has_last_event, EventMayFollow, CameFromPeer}

sent_role : (p : Peer) (w : MessageBody) → role_of_event (sent_event p w) ≡ role_of p
sent_role peers.Iface (says.Line line) = refl
sent_role peers.Iface says.Long = refl
sent_role peers.Iface says.End = refl
sent_role peers.Engine (says.Line line) = refl
sent_role peers.Engine says.Long = refl
sent_role peers.Engine says.End = refl

-- each event stands for itself
pub map_self : (events : List Event) → map (λ e. e) events ≡ events
map_self [] = refl
map_self (e ∷ events) = ap (λ (l : List Event). e ∷ l) (map_self events)

pub arrived_self : (p : Peer) (before after : Supplied) (events : List Event) (r : ReadEnd) → Arrived p before after (map (λ e. e) events) r → Arrived p before after events r
arrived_self p before after events r a = subst (λ (l : List Event). Arrived p before after l r) (map_self events) a

module _ {M : Type 0} (means : MessageMeaning M) (event : M → Event) (s : StandsForEvents means event) where
  pub last_as : (ms : List M) → has_last means ms ≡ has_last_event (map event ms)
  last_as [] = refl
  last_as (m ∷ ms) = ap (λ b. b || has_last means ms) (s.is_last m) ∙ ap (λ b. is_last_event (event m) || b) (last_as ms)

  pub of_as : (role : ℕ) (ms : List M) → map event (messages_of means role ms) ≡ of role (map event ms)
  of_as role [] = refl
  of_as role (m ∷ ms) =
      ap (λ n. map event (cond (n == role) (m ∷ messages_of means role ms) (messages_of means role ms))) (s.role m)
      ∙ elim (is_of_role role (event m)) as (λ b. map event (cond b (m ∷ messages_of means role ms) (messages_of means role ms)) ≡ cond b (event m ∷ of role (map event ms)) (of role (map event ms)))
      [ true ↦ ap (λ (l : List Event). event m ∷ l) (of_as role ms) | false ↦ of_as role ms ]

  pub came_as : (p : Peer) (taken sent : List M) → CameFrom means p taken sent → CameFromPeer p (map event taken) (map event sent)
  came_as p taken sent c = record {
    left = map event c.left;
    prefix = ap (map event) c.prefix ∙ map-append event (messages_by means p taken) c.left ∙ ap (λ (l : List Event). l ++ map event c.left) (of_as (role_of p) taken);
    whole = λ e. ap (map event) (c.whole (last_as (messages_by means p taken) ∙ ap has_last_event (of_as (role_of p) taken) ∙ e));
  }

  pub follow_as : (taken : List M) (x : M) → MayFollow means taken x → EventMayFollow (map event taken) (event x)
  follow_as taken x f = (
    ap (λ (r : ℕ). has_last_event (of r (map event taken))) (sym (s.role x)) ∙ ap has_last_event (sym (of_as (means.role x) taken)) ∙ sym (last_as (messages_of means (means.role x) taken)) ∙ f.0,
    sym (s.is_good x) ∙ f.1,
    λ e. f.2 (s.role x ∙ e),
  )

  -- the message for an event
  pub role_sent : (m : M) (p : Peer) (what : MessageBody) → event m ≡ sent_event p what → means.role m ≡ role_of p
  role_sent m p what e = s.role m ∙ ap role_of_event e ∙ sent_role p what

  pub good_sent : (m : M) (e : Event) → event m ≡ e → is_good e ≡ true → means.is_good m ≡ true
  good_sent m e h g = s.is_good m ∙ ap is_good h ∙ g

  pub one_sent : (now before : List M) (m : M) (e : Event) → now ≡ before ++ m ∷ [] → event m ≡ e → map event now ≡ map event before ++ e ∷ []
  one_sent now before m e adds h = ap (map event) adds ∙ map-append event before (m ∷ []) ∙ ap (λ (x : Event). map event before ++ x ∷ []) h
