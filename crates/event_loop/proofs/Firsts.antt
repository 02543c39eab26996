-- Whose events the first lines are.
use Rattle.std.proofs.Common.{◌≡◌, ℕ, List, [], ◌∷◌, ◌++◌, Bool, true, false, ◌||◌, refl, sym, ap, ◌∙◌}
use Rattle.line_io.specs.Event.{Event}
use Rattle.line_io.specs.Source.{Supplied}
use Rattle.line_io.specs.Lines.{Piece, Whole, TooLong, items}
use Rattle.event_pipe.specs.declared.message.Peer.TheVariants as peers
use Rattle.event_pipe.specs.declared.reader.ReadEnd.{ReadEnd}
use Rattle.event_pipe.specs.Events.{of, has_last_event, sent_by}
use Rattle.event_pipe.specs.Arrivals.{Arrived, piece_events, line_limit}
use Rattle.event_pipe.specs.Message.{is_last_event}
use Rattle.event_pipe.specs.Message.{event_meaning}
use Rattle.event_pipe.proofs.Keeps.{of-append}
use Rattle.event_pipe.proofs.Reading.{any_append}
use Rattle.event_loop.specs.First.{first_events, AreOpening, ArrivedBehind}

none_of_engine : (ps : List Piece) → of 2 (piece_events peers.Iface ps) ≡ []
none_of_engine [] = refl
none_of_engine (Whole line ∷ ps) = none_of_engine ps
none_of_engine (TooLong ∷ ps) = none_of_engine ps

all_of_iface : (ps : List Piece) → of 1 (piece_events peers.Iface ps) ≡ piece_events peers.Iface ps
all_of_iface [] = refl
all_of_iface (Whole line ∷ ps) = ap (λ (es : List Event). piece_events peers.Iface (Whole line ∷ []) ++ es) (all_of_iface ps)
all_of_iface (TooLong ∷ ps) = ap (λ (es : List Event). piece_events peers.Iface (TooLong ∷ []) ++ es) (all_of_iface ps)

-- the engine's events are those that came later
pub by_engine : (first : List ℕ) (later : List Event) → sent_by peers.Engine (first_events first ++ later) ≡ sent_by peers.Engine later
by_engine first later = of-append event_meaning 2 (first_events first) later ∙ ap (λ (es : List Event). es ++ of 2 later) (none_of_engine (items line_limit first))

pub by_iface : (first : List ℕ) (later : List Event) → sent_by peers.Iface (first_events first ++ later) ≡ first_events first ++ sent_by peers.Iface later
by_iface first later = of-append event_meaning 1 (first_events first) later ∙ ap (λ (es : List Event). es ++ of 1 later) (all_of_iface (items line_limit first))

second_true : (a b : Bool) → a ≡ false → (a || b) ≡ true → b ≡ true
second_true true b h e = cc
second_true false b h e = e

-- the interface ends later
pub iface_later : (first : List ℕ) (later : List Event) → AreOpening first → has_last_event (sent_by peers.Iface (first_events first ++ later)) ≡ true → has_last_event (sent_by peers.Iface later) ≡ true
iface_later first later opening e =
    second_true (has_last_event (first_events first)) (has_last_event (of 1 later)) opening (sym (any_append is_last_event (first_events first) (of 1 later)) ∙ ap has_last_event (sym (by_iface first later)) ∙ e)

pub engine_later : (first : List ℕ) (later : List Event) → has_last_event (sent_by peers.Engine (first_events first ++ later)) ≡ true → has_last_event (sent_by peers.Engine later) ≡ true
engine_later first later e = ap has_last_event (sym (by_engine first later)) ∙ e

pub arrived_behind : (es : List Event) (i i' : Supplied) (later : List Event) (end : ReadEnd) → Arrived peers.Iface i i' later end → ArrivedBehind es peers.Iface i i' (es ++ later) end
arrived_behind [] i i' later end a = a
arrived_behind (e ∷ es) i i' later end a = (es ++ later, refl, arrived_behind es i i' later end a)
