-- A log of a whole run is not empty.
use Rattle.std.proofs.Common.{◌≡◌, ◌∙◌, ℕ, refl, sym, List, [], ◌∷◌, ◌++◌, append_assoc}
use Rattle.line_io.specs.Lines.{line_feed, items}
use Rattle.event_pipe.specs.declared.message.Peer.TheVariants as peers
use Rattle.tap_runner.specs.declared.message.TapMessage.{TapMessage}
use Rattle.tap_runner.specs.declared.message.TapMark.{TapMark}
use Rattle.tap_runner.specs.declared.message.TapMark.TheVariants as says
use Rattle.event_pipe.specs.declared.message.Peer.{Peer}
use Rattle.tap_runner.specs.Messages.{marks_of}
use Rattle.program_lifecycle.proofs.Logs.{one_log, no_bytes, none_longer}
use Rattle.tap_runner.specs.Laws.{TapLogIsNotEmpty, TapLogIsNotLonger}
use Rattle.tap_runner.specs.Lines.{tap_line_limit}
use Rattle.tap_runner.specs.Marks.{log_text, log_of_mark, piece_messages, end_message}

-- a line of a mark has its line feed
line_there : {P : Type 0} (mark rest : List ℕ) → (mark ++ line_feed ∷ []) ++ rest ≡ [] → P
line_there mark rest e = absurd (no_bytes mark rest line_feed (sym (append_assoc mark (line_feed ∷ []) rest) ∙ e))

-- each message stands in the log
some_log : {P : Type 0} (peer : Peer) (mark : TapMark) (rest : List ℕ) → log_of_mark peer mark ++ rest ≡ [] → P
some_log peer (says.Line mark) rest e = line_there mark rest e
some_log peers.Iface says.Long rest e = cc
some_log peers.Iface says.End rest e = cc
some_log peers.Engine says.Long rest e = cc
some_log peers.Engine says.End rest e = cc

none_sent : (messages : List TapMessage) → log_text messages ≡ [] → marks_of peers.Iface messages ≡ []
none_sent [] e = refl
none_sent (m ∷ messages) e = some_log m.peer m.mark (log_text messages) e

some_marks : (xs : List TapMessage) (x : TapMessage) → xs ++ x ∷ [] ≡ [] → ⊥
some_marks [] x e = cc
some_marks (y ∷ xs) x e = cc

pub no_empty_log : TapLogIsNotEmpty
no_empty_log bytes before after run e =
    let nothing = one_log (log_text run.messages) [] after.ledger.logs run.log e in
    some_marks (piece_messages peers.Iface (items tap_line_limit run.wrote)) (end_message peers.Iface) (sym run.from_bridge ∙ none_sent run.messages nothing)

pub no_longer_log : TapLogIsNotLonger
no_longer_log bytes before after run byte more e = none_longer (log_text run.messages) more byte (one_log (log_text run.messages) _ after.ledger.logs run.log e)
