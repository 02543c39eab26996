-- A turn of the log.
use Rattle.std.proofs.Common.{◌≡◌, ℕ, ◌≤◌, List, [], ◌∷◌, ◌++◌, length, Bool, true, false, not, ◌&&◌, refl, sym, ap, subst, ◌∙◌, append-nil, arith}
use Rattle.std.specs.Prelude.{nat_le}
use Rattle.std.proofs.lemmas.Bool.Decides.{nat_tests}
use Rattle.std.proofs.lemmas.List.Concat.{flat_map-append}
use Rattle.std.proofs.lemmas.Bool.{or_left, or_right, and_parts}
use Rattle.line_io.specs.Event.{has_feed}
use Rattle.line_io.specs.Source.{Received}
use Rattle.event_pipe.specs.Message.{role_of}
use Rattle.event_pipe.specs.declared.message.Peer.{Peer}
use Rattle.event_pipe.specs.declared.message.Peer.TheVariants as peers
use Rattle.event_pipe.proofs.Roles.{more_last}
use Rattle.program_lifecycle.specs.Streams.{Offered}
use Rattle.program_lifecycle.specs.Took.{LogTook}
use Rattle.tap_runner.specs.declared.message.TapMark.{TapMark}
use Rattle.tap_runner.specs.declared.message.TapMark.TheVariants as says
use Rattle.tap_runner.specs.declared.message.TapMessage.{TapMessage}
use Rattle.tap_runner.specs.Messages.{tap_meaning, tap_message, is_short_mark, marks_of, has_end_mark}
use Rattle.tap_runner.specs.declared.logging.EndedSides.{EndedSides}
use Rattle.tap_runner.specs.Marks.{log_of_message, log_text}
use Rattle.tap_runner.specs.Logging.{mark_length, ends_with_mark, tap_ends_after, Logged, Logging}
use Rattle.program_lifecycle.proofs.Took.{took_nothing, took_next}

within : (n : ℕ) → nat_le n 65536 ≡ true → n ≤ 65536
within n h = grind (arith, nat_tests)

-- a mark that came through the channel has room
pub short : (x : TapMark) → is_short_mark x ≡ true → mark_length x ≤ 65536
short (says.Line mark) h = within (length mark) (and_parts (nat_le (length mark) 65536) (not (has_feed mark)) h).0
short says.Long h = omega arith
short says.End h = omega arith

abbrev ended : Peer → List TapMessage → Bool
ended peer r = has_end_mark (marks_of peer r)

still : (peer : Peer) (r : List TapMessage) (x : TapMessage) → ended peer r ≡ true → ended peer (r ++ x ∷ []) ≡ true
still peer r x h = more_last tap_meaning (role_of peer) r (x ∷ []) ∙ or_left (ended peer r) (ended peer (x ∷ [])) h

now : (peer : Peer) (r : List TapMessage) (x : TapMessage) → ended peer (x ∷ []) ≡ true → ended peer (r ++ x ∷ []) ≡ true
now peer r x h = more_last tap_meaning (role_of peer) r (x ∷ []) ∙ or_right (ended peer r) (ended peer (x ∷ [])) h

bridge_next : (ends : EndedSides) (r : List TapMessage) (peer : Peer) (mark : TapMark) → (ends.bridge ≡ true → ended peers.Iface r ≡ true) → (ends_with_mark ends peer mark).bridge ≡ true → ended peers.Iface (r ++ tap_message peer mark ∷ []) ≡ true
bridge_next ends r peers.Iface (says.Line line) h b = still peers.Iface r _ (h b)
bridge_next ends r peers.Iface says.Long h b = still peers.Iface r _ (h b)
bridge_next ends r peers.Iface says.End h b = now peers.Iface r _ refl
bridge_next ends r peers.Engine (says.Line line) h b = still peers.Iface r _ (h b)
bridge_next ends r peers.Engine says.Long h b = still peers.Iface r _ (h b)
bridge_next ends r peers.Engine says.End h b = still peers.Iface r _ (h b)

engine_next : (ends : EndedSides) (r : List TapMessage) (peer : Peer) (mark : TapMark) → (ends.engine ≡ true → ended peers.Engine r ≡ true) → (ends_with_mark ends peer mark).engine ≡ true → ended peers.Engine (r ++ tap_message peer mark ∷ []) ≡ true
engine_next ends r peers.Iface (says.Line line) h b = still peers.Engine r _ (h b)
engine_next ends r peers.Iface says.Long h b = still peers.Engine r _ (h b)
engine_next ends r peers.Iface says.End h b = still peers.Engine r _ (h b)
engine_next ends r peers.Engine (says.Line line) h b = still peers.Engine r _ (h b)
engine_next ends r peers.Engine says.Long h b = still peers.Engine r _ (h b)
engine_next ends r peers.Engine says.End h b = now peers.Engine r _ refl

abbrev none_ended : EndedSides
none_ended = record { bridge = false; engine = false }

pub logging_first : (received : List TapMessage) (log : Received) → received ≡ [] → Logging received log log false none_ended
logging_first received log e =
    subst (λ (es : List TapMessage). Logging es log log false none_ended) (sym e) (record { text = took_nothing log; bridge = λ b. cc; engine = λ b. cc })

text_more : (received : List TapMessage) (x : TapMessage) → log_text (received ++ x ∷ []) ≡ log_text received ++ log_of_message x
text_more received x = flat_map-append log_of_message received (x ∷ []) ∙ ap (λ l. log_text received ++ l) (append-nil (log_of_message x))

pub logging_next : (received received' : List TapMessage) (x : TapMessage) (l0 l l' : Received) (failed failed' : Bool) (ends ends' : EndedSides)
    → Logging received l0 l failed ends → received' ≡ received ++ x ∷ [] → ends' ≡ tap_ends_after ends x → Offered failed failed' l l' (log_of_message x) → Logging received' l0 l' failed' ends'
logging_next received received' x l0 l l' failed failed' ends ends' h got e offered =
    subst (λ (ms : List TapMessage). Logging ms l0 l' failed' ends') (sym got)
    (subst (λ (k : EndedSides). Logging (received ++ x ∷ []) l0 l' failed' k) (sym e)
    (record {
      text = subst (λ t. LogTook t failed' l0 l') (sym (text_more received x)) (took_next failed failed' (log_text received) (log_of_message x) l0 l l' h.text offered);
      bridge = bridge_next ends received x.peer x.mark h.bridge;
      engine = engine_next ends received x.peer x.mark h.engine;
    }))

pub logged_all : (received : List TapMessage) (l0 l : Received) (failed : Bool) (ends : EndedSides) → Logging received l0 l failed ends → (ends.bridge && ends.engine) ≡ true → Logged received l0 l failed
logged_all received l0 l failed ends h both =
    record { text = h.text; bridge_ended = h.bridge (and_parts ends.bridge ends.engine both).0; engine_ended = h.engine (and_parts ends.bridge ends.engine both).1 }
