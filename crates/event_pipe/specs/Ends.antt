-- The ends of a pipe.
use Rattle.std.specs.Prelude.{◌≡◌, ◌≤◌, ◌+◌, List, [], ◌++◌, length, true}
use Rattle.crossbeam_channel.specs.Claims.{view, IsSeatAt}
use Rattle.crossbeam_channel.specs.Ends.{sends_on, receives_on, ruled_capacity}
use Rattle.event_pipe.specs.Meaning.{MessageMeaning}
use Rattle.event_pipe.specs.declared.message.Peer.{Peer}
use Rattle.event_pipe.specs.declared.pipe.PipeSend.{PipeSend}
use Rattle.event_pipe.specs.declared.pipe.PipeTake.{PipeTake}
use Rattle.event_pipe.specs.declared.pipe.TheConstants.{CHANNEL_ROOM}
use Rattle.event_pipe.specs.Message.{role_of}
use Rattle.event_pipe.specs.Rule.{messages_by, has_last}

-- a sender of a channel, with the pass of its peer
pub record IsSender {M : Type 0} (s : PipeSend M) : Type 0 where
  pub seat : IsSeatAt (sends_on s.sender) s.pass
  pub role : (view s.pass).role ≡ role_of s.peer
  -- the channel takes a message only while it holds fewer
  pub room : ruled_capacity (sends_on s.sender) ≡ CHANNEL_ROOM

-- the receiving end of a channel, which made both senders
pub record IsReceiver {M : Type 0} (t : PipeTake M) : Type 0 where
  pub seat : IsSeatAt (receives_on t.receiver) t.pass
  pub role : (view t.pass).role ≡ 0
  pub made : (view t.pass).made ≡ 2
  pub joined : (view t.pass).joined ≡ 0

-- the messages sent so far, the oldest first
abbrev pub messages_sent : {M : Type 0} → PipeSend M → List M
messages_sent s = (view s.pass).sent

-- the messages taken so far, the oldest first
abbrev pub messages_taken : {M : Type 0} → PipeTake M → List M
messages_taken t = (view t.pass).taken

abbrev pub IsFreshSender : {M : Type 0} → PipeSend M → Peer → Type 0
IsFreshSender s peer = IsSender s × (s.peer ≡ peer) × (messages_sent s ≡ [])

abbrev pub IsFreshReceiver : {M : Type 0} → PipeTake M → Type 0
IsFreshReceiver t = IsReceiver t × (messages_taken t ≡ [])

-- it is the sender of the same peer on the same channel
abbrev pub KeepsSender : {M : Type 0} → PipeSend M → PipeSend M → Type 0
KeepsSender old new =
    IsSender new × (new.peer ≡ old.peer) × (sends_on new.sender ≡ sends_on old.sender)

-- it is the receiving end of the same channel
abbrev pub KeepsReceiver : {M : Type 0} → PipeTake M → PipeTake M → Type 0
KeepsReceiver old new = IsReceiver new × (receives_on new.receiver ≡ receives_on old.receiver)

-- the three are the ends of one channel
abbrev pub AreOne : {M : Type 0} → PipeSend M → PipeSend M → PipeTake M → Type 0
AreOne a b t =
    (sends_on a.sender ≡ receives_on t.receiver) × (sends_on b.sender ≡ receives_on t.receiver)

-- both senders together are at most the channel's room ahead of the receiving end
abbrev pub AreWithinRoom : {M : Type 0} → PipeSend M → PipeSend M → PipeTake M → Type 0
AreWithinRoom a b t =
    length (messages_sent a) + length (messages_sent b) ≤ length (messages_taken t) + CHANNEL_ROOM

-- Of what a peer's sender sent a prefix was taken, and all of it if that has the peer's last.
pub record CameFrom {M : Type 0} (means : MessageMeaning M) (peer : Peer)
    (taken sent : List M) : Type 0 where
  pub left : List M
  pub prefix : sent ≡ messages_by means peer taken ++ left
  pub whole : has_last means (messages_by means peer taken) ≡ true → left ≡ []
