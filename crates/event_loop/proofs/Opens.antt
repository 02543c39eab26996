-- The first lines come before all that is taken from the channel.
use Rattle.std.proofs.Common.{◌≡◌, ◌≢◌, ℕ, ◌+◌, ◌<◌, List, [], ◌∷◌, ◌++◌, length, take, Bool, true, false, not, cond, ◌&&◌, ◌||◌, nat_le, ◌==◌, refl, sym, ap, subst, ◌∙◌, append-nil, append_assoc, one-add, arith}
use Rattle.std.proofs.lemmas.Bool.Decides.{nat_tests}
use Rattle.std.specs.List.{before_first, after_first, list_any}
use Rattle.line_io.specs.Event.{Event, IfaceLost, EngineLost, has_feed}
use Rattle.line_io.specs.Out.{Text}
use Rattle.line_io.specs.Lines.{Piece, Whole, TooLong, is_feed, feed_at, piece_of}
use Rattle.line_io.proofs.Parts.{items_first}
use Rattle.event_pipe.specs.declared.message.Peer.TheVariants as peers
use Rattle.event_pipe.specs.Ends.{KeepsReceiver, messages_taken}
use Rattle.event_pipe.specs.declared.pipe.PipeTake.{PipeTake}
use Rattle.event_pipe.specs.Message.{role_of_event, is_last_event, is_good}
use Rattle.event_pipe.specs.Events.{is_of_role, of, has_last_event, EventMayFollow}
use Rattle.event_pipe.specs.Arrivals.{piece_event, piece_events, line_limit}
use Rattle.event_pipe.proofs.Reading.{any_append}
use Rattle.event_pipe.proofs.Roles.{more_ended}
use Rattle.program_lifecycle.specs.declared.offering.LoopEnd.{LoopEnd}
use Rattle.program_lifecycle.specs.Streams.{Sinks}
use Rattle.event_loop.specs.declared.looping.Sides.{Sides}
use Rattle.event_loop.specs.Meaning.{MediatorMeaning, Opens, Allows}
use Rattle.event_loop.specs.First.{first_events, AreOpening}
use Rattle.event_loop.specs.Looped.{Looped}
use Rattle.event_loop.specs.Reached.{AllOffered, Receives, sides_ended_by, MediatorReached, Opened}
use Rattle.event_loop.proofs.Loops.{or_parts, neither, any_filter, none_failed, none_ended, reached_first, after_received, looped}

-- THE FIRST LINE

first_more : (xs : List ℕ) → 0 < length xs → first_events xs ≡ piece_event peers.Iface (piece_of line_limit (before_first is_feed xs)) ∷ first_events (after_first is_feed xs)
first_more xs h = ap (λ (ps : List Piece). piece_events peers.Iface ps) (items_first line_limit xs h)

no_feed : (xs : List ℕ) → has_feed (take (feed_at xs) xs) ≡ false
no_feed [] = refl
no_feed (x ∷ xs) =
    (elim (is_feed x) as (λ v. is_feed x ≡ v → has_feed (take (cond (not v) (1 + feed_at xs) 0) (x ∷ xs)) ≡ false) [
      | true ↦ λ h. refl
      | false ↦ λ h. rw one-add (rw h (no_feed xs))
    ]) refl

good_piece : (line : List ℕ) → has_feed line ≡ false → is_good (piece_event peers.Iface (piece_of line_limit line)) ≡ true
good_piece line h =
    (elim (nat_le (length line) line_limit) as (λ v. nat_le (length line) line_limit ≡ v → is_good (piece_event peers.Iface (cond v (Whole line) TooLong)) ≡ true) [
      | true ↦ λ e. rw (e, h) refl
      | false ↦ λ e. refl
    ]) refl

no_own : (p : Piece) → role_of_event (piece_event peers.Iface p) ≡ 3 → ⊥
no_own (Whole line) e = cc
no_own TooLong e = cc

pub none_is : (xs : List ℕ) → 0 < length xs → xs ≢ []
none_is [] h e = absurd (omega (arith, h))
none_is (x ∷ xs) h e = cc

-- an event of the code's
pub good_first : (rest : List ℕ) → 0 < length rest → (line : List ℕ) → line ≡ before_first is_feed rest → (y : Event) → y ≡ piece_event peers.Iface (piece_of line_limit line) → is_good y ≡ true
good_first rest some line cut y is = ap is_good is ∙ good_piece line (ap has_feed cut ∙ no_feed rest)

-- true if a first line is left
not_zero : (n : ℕ) → (n == 0) ≡ false → 0 < n
not_zero n h = grind (arith, nat_tests)

is_zero : (n : ℕ) → (n == 0) ≡ true → n ≡ 0
is_zero n h = grind (arith, nat_tests)

nil_is : (xs : List ℕ) → length xs ≡ 0 → xs ≡ []
nil_is [] h = refl
nil_is (x ∷ xs) h = absurd (omega (arith, h))

pub some_left : (rest : List ℕ) (empty : Bool) → empty ≡ (length rest == 0) → empty ≡ false → 0 < length rest
some_left rest empty e h = not_zero (length rest) (sym e ∙ h)

pub none_left : (rest : List ℕ) (empty : Bool) → empty ≡ (length rest == 0) → empty ≡ true → rest ≡ []
none_left rest empty e h = nil_is rest (is_zero (length rest) (sym e ∙ h))

-- WHAT CAME SO FAR

prefix_going : (xs ys zs : List Event) → xs ++ ys ≡ zs → has_last_event zs ≡ false → has_last_event xs ≡ false
prefix_going xs ys zs e h = (or_parts (has_last_event xs) (has_last_event ys) (sym (any_append is_last_event xs ys) ∙ ap has_last_event e ∙ h)).0

behind_first : (first taken : List Event) (t : Event) → has_last_event first ≡ false → EventMayFollow taken t → EventMayFollow (first ++ taken) t
behind_first first taken t going f = (more_ended (role_of_event t) first taken ∙ neither _ _ (any_filter is_last_event (is_of_role (role_of_event t)) first going) f.0, f.1, f.2)

pub opened_first : {M : Type 0} (means : MediatorMeaning M) (m0 m : M) (first : List ℕ) (taken : List Event) (held held' : Text) (b a : Sinks) (to : LoopEnd) → held.text ≡ [] → taken ≡ []
    → Opens means m0 held m held' → AllOffered (means.gave m peers.Iface) (means.gave m peers.Engine) held'.text b a none_failed to → Opened means m0 m first first taken none_ended b a to
opened_first means m0 m first taken held held' b a to t e o f =
    record {
      events = [];
      reached = reached_first means m0 m [] held held' b a to t refl o f;
      are = sym (append-nil (first_events first)) ∙ ap (λ (es : List Event). first_events first ++ es) (sym e);
      none = λ n. e;
    }

-- the receiving end was left as it was
pub kept_by : (t0 t t' : PipeTake Event) → t' ≡ t → KeepsReceiver t0 t → KeepsReceiver t0 t'
kept_by t0 t t' e k = subst (λ (x : PipeTake Event). KeepsReceiver t0 x) (sym e) k

pub none_taken : {M : Type 0} (means : MediatorMeaning M) (m0 m : M) (first rest : List ℕ) (t t' : PipeTake Event) (sides : Sides) (b a : Sinks) (at : LoopEnd) → t' ≡ t → Opened means m0 m first rest (messages_taken t) sides b a at
    → Opened means m0 m first rest (messages_taken t') sides b a at
none_taken means m0 m first rest t t' sides b a at e x = subst (λ (y : PipeTake Event). Opened means m0 m first rest (messages_taken y) sides b a at) (sym e) x

module _ {M : Type 0} (means : MediatorMeaning M) (m0 m : M) (first rest : List ℕ) (taken : List Event) (sides : Sides) (b s : Sinks) (at : LoopEnd) (x : Opened means m0 m first rest taken sides b s at) where
  pub still : (m' : M) (a : Sinks) (to : LoopEnd) → MediatorReached means m0 m' x.events sides b a to → Opened means m0 m' first rest taken sides b a to
  still m' a to r = record { events = x.events; reached = r; are = x.are; none = x.none }

  all_first : rest ≡ [] → x.events ≡ first_events first ++ taken
  all_first empty = sym (append-nil x.events) ∙ ap (λ (l : List ℕ). x.events ++ first_events l) (sym empty) ∙ x.are

  module _ (al : Allows means m IfaceLost) (h : (at.output && means.may m IfaceLost) ≡ false) (al' : Allows means m EngineLost) (h' : (at.engine && means.may m EngineLost) ≡ false) where
    more : (y : Event) → EventMayFollow x.events y → Allows means m y → (m' : M) (a : Sinks) (to : LoopEnd) → Receives means y m m' s a at to → (sides' : Sides) → sides' ≡ sides_ended_by sides y
        → MediatorReached means m0 m' (x.events ++ y ∷ []) sides' b a to
    more y f allows m' a to r sides' e =
        subst (λ (z : Sides). MediatorReached means m0 m' (x.events ++ y ∷ []) z b a to) (sym e)
        (after_received means m0 m x.events sides b s at x.reached y f allows (x.events ++ y ∷ []) refl m' a to al h al' h' r)

    -- the next of the first lines
    pub first_came : AreOpening first → 0 < length rest → (line after : List ℕ) → line ≡ before_first is_feed rest → after ≡ after_first is_feed rest
        → (y : Event) → y ≡ piece_event peers.Iface (piece_of line_limit line) → Allows means m y → (m' : M) (a : Sinks) (to : LoopEnd) → Receives means y m m' s a at to
        → (sides' : Sides) → sides' ≡ sides_ended_by sides y → Opened means m0 m' first after taken sides' b a to
    first_came opening some line after cut behind y is allows m' a to r sides' e =
        let none = x.none (none_is rest some) in
        let here : first_events rest ≡ y ∷ first_events after =
        first_more rest some ∙ ap (λ (l : List ℕ). piece_event peers.Iface (piece_of line_limit l) ∷ first_events (after_first is_feed rest)) (sym cut)
        ∙ ap (λ (l : List ℕ). piece_event peers.Iface (piece_of line_limit line) ∷ first_events l) (sym behind) ∙ ap (λ (z : Event). z ∷ first_events after) (sym is) in
        let split : x.events ++ y ∷ first_events after ≡ first_events first ++ taken = ap (λ (es : List Event). x.events ++ es) (sym here) ∙ x.are in
        let going : has_last_event x.events ≡ false =
        prefix_going x.events (y ∷ first_events after) (first_events first) (split ∙ ap (λ (es : List Event). first_events first ++ es) none ∙ append-nil (first_events first)) opening in
        let follows : EventMayFollow x.events y =
        (any_filter is_last_event (is_of_role (role_of_event y)) x.events going, ap is_good is ∙ good_piece line (ap has_feed cut ∙ no_feed rest), λ q. no_own (piece_of line_limit line) (ap role_of_event (sym is) ∙ q)) in
        record {
          events = x.events ++ y ∷ [];
          reached = more y follows allows m' a to r sides' e;
          are = append_assoc x.events (y ∷ []) (first_events after) ∙ split;
          none = λ n. none;
        }

    -- the events that were taken from the channel, of which the code holds this
    pub took : AreOpening first → rest ≡ [] → (t : Event) → EventMayFollow taken t → (y : Event) → y ≡ t → (taken' : List Event) → taken' ≡ taken ++ t ∷ [] → Allows means m y
        → (m' : M) (a : Sinks) (to : LoopEnd) → Receives means y m m' s a at to → (sides' : Sides) → sides' ≡ sides_ended_by sides y → Opened means m0 m' first rest taken' sides' b a to
    took opening empty t f y is taken' got allows m' a to r sides' e =
        let all = all_first empty in
        let follows : EventMayFollow x.events y =
        subst (λ (z : Event). EventMayFollow x.events z) (sym is) (subst (λ (es : List Event). EventMayFollow es t) (sym all) (behind_first (first_events first) taken t opening f)) in
        record {
          events = x.events ++ y ∷ [];
          reached = more y follows allows m' a to r sides' e;
          are =
              ap (λ (l : List ℕ). (x.events ++ y ∷ []) ++ first_events l) empty ∙ append-nil (x.events ++ y ∷ []) ∙ ap (λ (es : List Event). es ++ y ∷ []) all
              ∙ append_assoc (first_events first) taken (y ∷ []) ∙ ap (λ (z : Event). first_events first ++ (taken ++ z ∷ [])) is ∙ ap (λ (es : List Event). first_events first ++ es) (sym got);
          none = λ n. absurd (n empty);
        }

    pub opened_looped : rest ≡ [] → (over : Bool) → over ≡ (sides.iface && sides.engine) → over ≡ true → Looped means m0 m (first_events first ++ taken) b s at
    opened_looped empty over e t =
        subst (λ (es : List Event). Looped means m0 m es b s at) (all_first empty) (looped means m0 m x.events sides b s at x.reached over al h al' h' e t)
