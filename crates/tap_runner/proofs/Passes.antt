-- Turns of one direction.
use Rattle.std.proofs.Common.{◌≡◌, ℕ, List, [], ◌∷◌, ◌++◌, length, length-append, arith, Bool, true, false, Option, Some, None, IfSome, refl, sym, ap, subst, ◌∙◌}
use Rattle.std.proofs.lemmas.List.{map-append, length-map}
use Rattle.std.specs.Io.KnownBytes.{IsAtEnd}
use Rattle.std.proofs.KnownBytes.{Appends-nil, Appends-trans, Consumes-nil, Consumes-trans}
use Rattle.line_io.specs.Lines.{SourceGave, items}
use Rattle.line_io.specs.Source.{Supplied, Received}
use Rattle.event_pipe.specs.declared.message.Peer.{Peer}
use Rattle.event_pipe.specs.Counts.{CountsFault}
use Rattle.tap_runner.specs.declared.message.TapMessage.{TapMessage}
use Rattle.tap_runner.specs.Messages.{has_end_mark}
use Rattle.program_lifecycle.specs.Took.{LogTook}
use Rattle.tap_runner.specs.declared.passing.PassingTurn.{PassingTurn}
use Rattle.tap_runner.specs.declared.passing.PassingTurn.TheVariants as turns
use Rattle.tap_runner.specs.declared.passing.PassEnd.{PassEnd}
use Rattle.tap_runner.specs.Lines.{tap_line_limit, lines_ended_by, line_after, last_pieces}
use Rattle.tap_runner.specs.Marks.{piece_message, piece_messages, end_message}
use Rattle.tap_runner.specs.Hearing.{Open, no_open_line, EndsHearing}
use Rattle.tap_runner.specs.Passing.{Passed, Passing, Turned, is_last_turn, has_failed_to_read, has_failed_to_write}
use Rattle.tap_runner.proofs.Splits.{line_append, pieces_append, items_all}
use Rattle.program_lifecycle.proofs.Took.{took_nothing, took_then}

unlacked : (a b : Bool) → (a ≡ true → b ≡ true) → b ≡ false → a ≡ false
unlacked true b f h = sym (f refl) ∙ h
unlacked false b f h = refl

pub passing_first : (peer : Peer) (part : Open) (s : Supplied) (k : Received) (sent : List TapMessage) → part ≡ no_open_line peer → sent ≡ [] → Passing peer part s s k k sent
passing_first peer part s k sent o e = record {
  got = [];
  reads = record { given = Appends-nil s.given; left = Consumes-nil s.left };
  handed = took_nothing k;
  same = refl;
  peer_is = ap (λ (x : Open). x.peer) o;
  line_is = ap (λ (x : Open). x.line) o;
  reported = λ _. e;
  count = ap length e;
  going = ap has_end_mark e;
}

at_end_from : (left : Option (List ℕ)) (now : Option (List ℕ)) → IsAtEnd now → IfSome left (λ _. IsAtEnd now)
at_end_from None now h = tt
at_end_from (Some x) now h = h

more_by : (x : PassingTurn) → is_last_turn x ≡ false → x ≡ turns.More
more_by turns.More l = refl
more_by turns.Ended l = cc
more_by turns.ReadFailed l = cc
more_by turns.WriteFailed l = cc

-- a last turn that failed in nothing saw the end
only_ended : (x : PassingTurn) → is_last_turn x ≡ true → (has_failed_to_read x ≡ false) → (has_failed_to_write x ≡ false) → x ≡ turns.Ended
only_ended turns.More n r w = cc
only_ended turns.Ended n r w = refl
only_ended turns.ReadFailed n r w = cc
only_ended turns.WriteFailed n r w = cc

module _ (peer : Peer) (old new : Open) (s0 s s' : Supplied) (k0 k k' : Received) (before now : List TapMessage) (turn : PassingTurn) (h : Passing peer old s0 s k0 k before) (t : Turned old new s s' k k' before now turn) where
  all_read : SourceGave s0 s' (h.got ++ t.got)
  all_read = record {
    given = Appends-trans s0.given s.given s'.given h.got t.got h.reads.given t.reads.given;
    left = Consumes-trans s0.left s.left s'.left h.got t.got h.reads.left t.reads.left;
  }

  all_handed : LogTook (h.got ++ t.got) (has_failed_to_write turn) k0 k'
  all_handed = took_then h.got t.got (has_failed_to_write turn) k0 k k' h.handed t.handed

  line_now : new.line ≡ line_after (Some []) (h.got ++ t.got)
  line_now = t.hears.line_is ∙ ap (λ (o : Option (List ℕ)). line_after o t.got) h.line_is ∙ sym (line_append (Some []) h.got t.got)

  reported_now : new.has_lacked ≡ false → now ≡ piece_messages peer (lines_ended_by (Some []) (h.got ++ t.got))
  reported_now e =
      t.hears.sends e
      ∙ ap (λ (es : List TapMessage). es ++ piece_messages old.peer (lines_ended_by old.line t.got)) (h.reported (unlacked old.has_lacked new.has_lacked t.hears.lacked e))
      ∙ ap (λ (p : Peer). piece_messages peer (lines_ended_by (Some []) h.got) ++ piece_messages p (lines_ended_by old.line t.got)) h.peer_is
      ∙ ap (λ (o : Option (List ℕ)). piece_messages peer (lines_ended_by (Some []) h.got) ++ piece_messages peer (lines_ended_by o t.got)) h.line_is
      ∙ sym (map-append (piece_message peer) (lines_ended_by (Some []) h.got) (lines_ended_by (line_after (Some []) h.got) t.got))
      ∙ ap (piece_messages peer) (sym (pieces_append (Some []) h.got t.got))

  sent_now : length now ≡ length (lines_ended_by (Some []) (h.got ++ t.got))
  sent_now =
      let parts = ap length (pieces_append (Some []) h.got t.got) ∙ length-append (lines_ended_by (Some []) h.got) (lines_ended_by (line_after (Some []) h.got) t.got) in
      let own = ap (λ (o : Option (List ℕ)). length (lines_ended_by o t.got)) h.line_is in
      omega (arith, t.hears.count, h.count, parts, own)

  count_now : CountsFault s0.faults s'.faults (has_failed_to_read turn)
  count_now = subst (λ n. CountsFault n s'.faults (has_failed_to_read turn)) h.same t.read_count

  pub passing_more : is_last_turn turn ≡ false → Passing peer new s0 s' k0 k' now
  passing_more goes = let e = more_by turn goes in record {
    got = h.got ++ t.got;
    reads = all_read;
    handed = subst (λ (b : Bool). LogTook (h.got ++ t.got) b k0 k') (ap has_failed_to_write e) all_handed;
    same = count_now.same (ap has_failed_to_read e);
    peer_is = t.hears.peer ∙ h.peer_is;
    line_is = line_now;
    reported = reported_now;
    count = sent_now;
    going = t.hears.going;
  }

  pub passed_all : is_last_turn turn ≡ true → (last : Open) (final : List TapMessage) → EndsHearing new last now final → (k'' : Received) → k'' ≡ k' → (end : PassEnd) → end.read_failed ≡ has_failed_to_read turn
      → end.write_failed ≡ has_failed_to_write turn → end.has_lacked_memory ≡ last.has_lacked → Passed peer s0 s' k0 k'' final end
  passed_all more last final ends k'' same end r w l = record {
    got = h.got ++ t.got;
    reads = all_read;
    handed = subst (λ (b : Bool). LogTook (h.got ++ t.got) b k0 k'') (sym w) (subst (λ (x : Received). LogTook (h.got ++ t.got) (has_failed_to_write turn) k0 x) (sym same) all_handed);
    all = λ rf wf. at_end_from s0.left s'.left (t.at_end (only_ended turn more (sym r ∙ rf) (sym w ∙ wf)));
    read_count = subst (λ (b : Bool). CountsFault s0.faults s'.faults b) (sym r) count_now;
    reported = λ e.
        let e' : last.has_lacked ≡ false = sym l ∙ e in
        let got = h.got ++ t.got in
        ends.sends e'
        ∙ ap (λ (es : List TapMessage). es ++ piece_messages new.peer (last_pieces new.line) ++ end_message new.peer ∷ []) (reported_now (unlacked new.has_lacked last.has_lacked ends.lacked e'))
        ∙ ap (λ (p : Peer). piece_messages peer (lines_ended_by (Some []) got) ++ piece_messages p (last_pieces new.line) ++ end_message p ∷ []) (t.hears.peer ∙ h.peer_is)
        ∙ ap (λ (o : Option (List ℕ)). piece_messages peer (lines_ended_by (Some []) got) ++ piece_messages peer (last_pieces o) ++ end_message peer ∷ []) line_now
        ∙ ap (λ (es : List TapMessage). es ++ end_message peer ∷ []) (sym (map-append (piece_message peer) (lines_ended_by (Some []) got) (last_pieces (line_after (Some []) got))) ∙ ap (piece_messages peer) (sym (items_all got)));
    count =
        let got = h.got ++ t.got in
        let own = ap (λ (o : Option (List ℕ)). length (last_pieces o)) line_now in
        let all = ap length (items_all got) ∙ length-append (lines_ended_by (Some []) got) (last_pieces (line_after (Some []) got)) in
        let marks = length-append (piece_messages peer (items tap_line_limit got)) (end_message peer ∷ []) in
        let messages = length-map (items tap_line_limit got) (piece_message peer) in
        omega (arith, ends.count, sent_now, own, all, marks, messages);
    over = ends.over;
  }
