-- The messages of one role among all.
use Rattle.std.proofs.Common.{◌≡◌, ℕ, List, ◌++◌, true, ◌||◌, ap, ◌∙◌, append-nil}
use Rattle.std.proofs.lemmas.List.Folds.{list_any-append}
use Rattle.line_io.specs.Event.{Event}
use Rattle.event_pipe.specs.declared.message.Peer.{Peer}
use Rattle.event_pipe.specs.Meaning.{MessageMeaning}
use Rattle.event_pipe.specs.Message.{event_meaning}
use Rattle.event_pipe.specs.Rule.{messages_of, messages_by, has_last}
use Rattle.event_pipe.specs.Ends.{CameFrom}
use Rattle.event_pipe.specs.Events.{of, sent_by, has_last_event, CameFromPeer}
use Rattle.event_pipe.proofs.Keeps.{of-append}

module _ {M : Type 0} (means : MessageMeaning M) where
  pub more_last : (role : ℕ) (r xs : List M) → has_last means (messages_of means role (r ++ xs)) ≡ (has_last means (messages_of means role r) || has_last means (messages_of means role xs))
  more_last role r xs = ap (has_last means) (of-append means role r xs) ∙ list_any-append means.is_last (messages_of means role r) (messages_of means role xs)

  -- a peer that has ended has sent what came
  pub all_sent_came : (p : Peer) (messages sent : List M) → CameFrom means p messages sent → has_last means (messages_by means p messages) ≡ true → sent ≡ messages_by means p messages
  all_sent_came p messages sent c e = c.prefix ∙ ap (λ (l : List M). messages_by means p messages ++ l) (c.whole e) ∙ append-nil (messages_by means p messages)

pub more_ended : (role : ℕ) (r xs : List Event) → has_last_event (of role (r ++ xs)) ≡ (has_last_event (of role r) || has_last_event (of role xs))
more_ended role r xs = more_last event_meaning role r xs

pub all_came : (p : Peer) (events sent : List Event) → CameFromPeer p events sent → has_last_event (sent_by p events) ≡ true → sent ≡ sent_by p events
all_came p events sent c e = all_sent_came event_meaning p events sent c e
