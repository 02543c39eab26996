-- The rule of the channel: of each reader, what it has sent is what was taken of it, and then what
-- the channel holds of it.
use Rattle.std.specs.Prelude.{◌≡◌, ◌≢◌, ℕ, ◌<◌, ◌≤◌, List, [], ◌∷◌, ◌++◌}
use Rattle.std.specs.Prelude.{length, Bool, true, false, filter, ◌==◌}
use Rattle.std.specs.List.{list_any}
use mathlib.Core.Option.{Option, some, none}
use lib.ListN.{get_elem?}
use Rattle.event_pipe.specs.Meaning.{MessageMeaning}
use Rattle.event_pipe.specs.declared.pipe.KnownOfPass.{KnownOfPass}
use Rattle.event_pipe.specs.declared.pipe.TheConstants.{CHANNEL_ROOM}
use Rattle.event_pipe.specs.declared.message.Peer.{Peer}
use Rattle.event_pipe.specs.Message.{role_of}

module _ {M : Type 0} (means : MessageMeaning M) where
  abbrev pub has_role : ℕ → M → Bool
  has_role role m = means.role m == role

  -- the messages of one sender, in order
  abbrev pub messages_of : ℕ → List M → List M
  messages_of role messages = filter (has_role role) messages

  -- the messages of one peer, in order
  abbrev pub messages_by : Peer → List M → List M
  messages_by peer messages = messages_of (role_of peer) messages

  -- the last message of a side is among them
  abbrev pub has_last : List M → Bool
  has_last messages = list_any means.is_last messages

  -- nothing follows an end
  abbrev pub Orderly : List M → Type 0
  Orderly [] = Unit {0}
  Orderly (m ∷ ms) = (means.is_last m ≡ true → ms ≡ []) × Orderly ms

  -- each may be sent
  abbrev pub AllGood : List M → Type 0
  AllGood [] = Unit {0}
  AllGood (m ∷ ms) = ((means.is_good m ≡ true) × (means.role m ≢ 3)) × AllGood ms

  -- after what was taken it may come: its side has not ended, and it may be sent
  abbrev pub MayFollow : List M → M → Type 0
  MayFollow taken x =
      (has_last (messages_of (means.role x) taken) ≡ false) × (means.is_good x ≡ true)
      × (means.role x ≢ 3)

abbrev pub knowledge_of_pass : {M : Type 0} → ℕ → ℕ → ℕ → List M → List M → List M → List M
    → KnownOfPass M
knowledge_of_pass role made joined sent taken first second = record {
  role = role;
  made = made;
  joined = joined;
  sent = sent;
  taken = taken;
  first = first;
  second = second;
}

-- a pass that knows nothing yet, of the receiving end
abbrev pub idle : {M : Type 0} → KnownOfPass M
idle = knowledge_of_pass 0 0 0 [] [] [] []

-- a send adds the message to what its sender has sent, and changes nothing else
abbrev pub SendAdds : {M : Type 0} → KnownOfPass M → M → KnownOfPass M → Type 0
SendAdds v x w = w ≡ record v { sent = v.sent ++ x ∷ [] }

-- a receive adds the message to what was taken, and changes nothing else
abbrev pub Gets : {M : Type 0} → MessageMeaning M → KnownOfPass M → M → KnownOfPass M → Type 0
Gets means v x w = (w ≡ record v { taken = v.taken ++ x ∷ [] }) × MayFollow means v.taken x

-- each role has one pass, which knows what was sent, or taken
pub record PassesFitRoles {M : Type 0} (seat : ℕ → Option ℕ) (sent : ℕ → List M) (taken : List M)
    (pass : ℕ) (v : KnownOfPass M) : Type 0 where
  pub seated : v.role ≢ 3 → seat v.role ≡ some pass
  pub sends : v.role ≢ 3 → v.role ≢ 0 → v.sent ≡ sent v.role
  pub takes : v.role ≡ 0 → v.taken ≡ taken
  -- the receiver makes the senders
  pub spare : v.role ≡ 0 → (r : ℕ) → v.made < r → r ≢ 3 → (seat r ≡ none) × (sent r ≡ [])
  -- and takes them in
  pub first : v.role ≡ 0 → 0 < v.joined → (seat 1 ≡ none) × (v.first ≡ sent 1)
  pub second : v.role ≡ 0 → 1 < v.joined → (seat 2 ≡ none) × (v.second ≡ sent 2)

-- The rule, if the channel holds these messages and the passes know this.
pub record Delivers {M : Type 0} (means : MessageMeaning M) (items : List M)
    (views : List (KnownOfPass M)) : Type 0 where
  pub seat : ℕ → Option ℕ
  pub sent : ℕ → List M
  pub taken : List M
  -- the messages of a role are those that were taken of it, and then those that the channel holds of it
  pub each : (role : ℕ) → messages_of means role (taken ++ items) ≡ sent role
  -- it never holds more
  pub room : length items ≤ CHANNEL_ROOM
  -- nothing was sent after an end
  pub orderly : (role : ℕ) → Orderly means (sent role)
  -- each might be sent
  pub good : AllGood means (taken ++ items)
  pub fits : (pass : ℕ) (v : KnownOfPass M) → get_elem? views pass ≡ some v
      → PassesFitRoles seat sent taken pass v

-- the fact that the receiving end learns when both senders were taken in
pub record Total {M : Type 0} (means : MessageMeaning M) (v : KnownOfPass M)
    (items : List M) : Type 0 where
  pub first : messages_of means 1 (v.taken ++ items) ≡ v.first
  pub second : messages_of means 2 (v.taken ++ items) ≡ v.second
  pub room : length items ≤ CHANNEL_ROOM
  pub first_orderly : Orderly means v.first
  pub second_orderly : Orderly means v.second

abbrev pub made_first : {M : Type 0} → KnownOfPass M → KnownOfPass M
made_first v = record v { made = 1 }

abbrev pub made_second : {M : Type 0} → KnownOfPass M → KnownOfPass M
made_second v = record v { made = 2 }

abbrev pub sender : {M : Type 0} → ℕ → KnownOfPass M
sender role = knowledge_of_pass role 0 0 [] [] [] []

abbrev pub joined_first : {M : Type 0} → KnownOfPass M → KnownOfPass M → KnownOfPass M
joined_first v w = record v { joined = 1; first = w.sent }

abbrev pub joined_second : {M : Type 0} → KnownOfPass M → KnownOfPass M → KnownOfPass M
joined_second v w = record v { joined = 2; second = w.sent }
