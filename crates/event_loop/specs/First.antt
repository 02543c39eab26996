-- Lines of the interface that come before all that its source gives.
use Rattle.std.specs.Prelude.{◌≡◌, ◌⊎◌, ℕ, List, [], ◌∷◌, ◌++◌, false}
use Rattle.line_io.specs.Event.{Event}
use Rattle.line_io.specs.Source.{Supplied}
use Rattle.line_io.specs.Lines.{items, line_feed}
use Rattle.event_pipe.specs.declared.message.Peer.{Peer}
use Rattle.event_pipe.specs.declared.message.Peer.TheVariants as peers
use Rattle.event_pipe.specs.declared.reader.ReadEnd.{ReadEnd}
use Rattle.event_pipe.specs.Events.{has_last_event}
use Rattle.event_pipe.specs.Arrivals.{Arrived, arrivals, piece_events, line_limit}

-- these lines, as events
abbrev pub first_events : List ℕ → List Event
first_events first = piece_events peers.Iface (items line_limit first)

-- none of them spells `quit`
abbrev pub AreOpening : List ℕ → Type 0
AreOpening first = has_last_event (first_events first) ≡ false

-- nothing stands after the last line feed
abbrev pub AreWholeLines : List ℕ → Type 0
AreWholeLines bytes = (bytes ≡ []) ⊎ ((prefix : List ℕ) × (bytes ≡ prefix ++ line_feed ∷ []))

-- The arrivals of whole first lines and of more bytes are the first lines, and then
-- what arrives of those bytes.
abbrev pub FirstLinesJoin : Type 0
FirstLinesJoin = (first got : List ℕ) → AreWholeLines first → AreOpening first
    → arrivals peers.Iface (items line_limit (first ++ got))
    ≡ first_events first ++ arrivals peers.Iface (items line_limit got)

-- these events, and then what arrived
abbrev pub ArrivedBehind : List Event → Peer → Supplied → Supplied → List Event → ReadEnd → Type 0
ArrivedBehind [] p before after sent end = Arrived p before after sent end
ArrivedBehind (e ∷ es) p before after sent end =
    (later : List Event) × (sent ≡ e ∷ later) × ArrivedBehind es p before after later end
