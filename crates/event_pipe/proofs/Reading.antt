-- The events that a reader has sent.
use Rattle.std.proofs.Common.{◌≡◌, inl, inr, ℕ, ◌+◌, ◌≤◌, suc, List, [], ◌∷◌, ◌++◌, length, Bool, true, false, cond, ◌||◌, Option, Some, None, IfSome, Result, Ok, Err, IsTrue, refl, sym, ap, subst, ◌∙◌, arith, append-nil, append_assoc}
use Rattle.std.proofs.lemmas.List.{map-append}
use Rattle.std.specs.Prelude.{nat_le}
use Rattle.std.specs.List.{list_any}
use Rattle.std.specs.Io.KnownBytes.{Consumes, IsAtEnd}
use Rattle.std.proofs.KnownBytes.{Appends-nil, Appends-trans, Consumes-nil, Consumes-trans}
use Rattle.std.proofs.lemmas.Bool.{cases_lt, or_parts}
use Rattle.line_io.specs.Event.{Event, has_feed, is_line}
use Rattle.line_io.specs.Event as events
use Rattle.line_io.specs.Source.{Supplied}
use Rattle.line_io.specs.Causes.{ErrorIsCounted}
use Rattle.line_io.specs.Lines.{Piece, Whole, TooLong, Held, ReadGave, Gave, ReaderAdvances, NothingIsLeftAtEnd, IsLineReady, IsWaiting, SourceGave, feed_at, read_room, lines_to_come, items, empty_reader}
use Rattle.line_io.specs.Lending.{outcome, AnswersWhen}
use Rattle.line_io.specs.Runs.{SourceCalls, Call, reading_goes_on, lines_given, whole, LinesSoFar, LinesAtEnd, LinesAtFault}
use Rattle.line_io.specs.Runs as runs
use Rattle.line_io.specs.declared.lines.Item.{Item}
use Rattle.line_io.specs.declared.faults.ReadFault.{ReadFault}
use Rattle.line_io.proofs.Answered.{answers_fault, fault_given}
use Rattle.line_io.proofs.Calls.{over_now}
use Rattle.line_io.proofs.Found.{feed_le}
use Rattle.event_pipe.specs.declared.message.Peer.{Peer}
use Rattle.event_pipe.specs.declared.message.Peer.TheVariants as peers
use Rattle.event_pipe.specs.declared.message.MessageBody.TheVariants as says
use Rattle.event_pipe.specs.declared.reader.ReaderTurn.{ReaderTurn}
use Rattle.event_pipe.specs.declared.reader.ReaderTurn.TheVariants as turns
use Rattle.event_pipe.specs.declared.reader.ReadEnd.TheVariants as read_ends
use Rattle.event_pipe.specs.Counts.{CountsFault}
use Rattle.event_pipe.specs.Message.{sent_event, is_last_event, is_good}
use Rattle.event_pipe.specs.Events.{has_last_event}
use Rattle.event_pipe.specs.Arrivals.{piece_event, piece_events, last_event, arrivals, is_end_without_line, has_close_event, LastRead, ReaderTurnDone, LinesSentSoFar, Arrived}

or_assoc : (a b c : Bool) → (a || (b || c)) ≡ ((a || b) || c)
or_assoc true b c = refl
or_assoc false b c = refl

pub any_append : (f : Event → Bool) (xs ys : List Event) → list_any f (xs ++ ys) ≡ (list_any f xs || list_any f ys)
any_append f [] ys = refl
any_append f (x ∷ xs) ys = ap (λ b. f x || b) (any_append f xs ys) ∙ or_assoc (f x) (list_any f xs) (list_any f ys)

-- WHAT ARRIVES

last_ends : (p : Peer) → is_last_event (last_event p) ≡ true
last_ends peers.Iface = refl
last_ends peers.Engine = refl

-- where none of these is an end, what comes after them arrives after them
arrivals_behind : (p : Peer) (xs ys : List Piece) → has_last_event (piece_events p xs) ≡ false → arrivals p (xs ++ ys) ≡ piece_events p xs ++ arrivals p ys
arrivals_behind p [] ys h = refl
arrivals_behind p (x ∷ xs) ys h =
    let s = or_parts (is_last_event (piece_event p x)) (has_last_event (piece_events p xs)) h in
    ap (λ b. piece_event p x ∷ cond b [] (arrivals p (xs ++ ys))) s.0 ∙ ap (λ es. piece_event p x ∷ es) (arrivals_behind p xs ys s.1)

arrivals_all : (p : Peer) (xs : List Piece) → has_last_event (piece_events p xs) ≡ false → arrivals p xs ≡ piece_events p xs ++ last_event p ∷ []
arrivals_all p xs h = ap (arrivals p) (sym (append-nil xs)) ∙ arrivals_behind p xs [] h

arrivals_last : (p : Peer) (xs ys : List Piece) (x : Piece) → has_last_event (piece_events p xs) ≡ false → is_last_event (piece_event p x) ≡ true → arrivals p (xs ++ x ∷ ys) ≡ piece_events p xs ++ piece_event p x ∷ []
arrivals_last p xs ys x h e = arrivals_behind p xs (x ∷ ys) h ∙ ap (λ b. piece_events p xs ++ piece_event p x ∷ cond b [] (arrivals p ys)) e

-- NO END BEHIND A LINE

no_close : (p : Peer) (piece : Piece) → has_close_event (piece_event p piece ∷ []) ≡ false
no_close peers.Iface (Whole line) = refl
no_close peers.Iface TooLong = refl
no_close peers.Engine (Whole line) = refl
no_close peers.Engine TooLong = refl

close_ends : (e : Event) → is_last_event e ≡ false → is_end_without_line e ≡ false
close_ends events.Open h = refl
close_ends (events.Iface line) h = refl
close_ends events.IfaceLong h = refl
close_ends events.IfaceEnd h = cc
close_ends events.IfaceLost h = refl
close_ends (events.Engine line) h = refl
close_ends events.EngineLong h = refl
close_ends events.EngineEnd h = cc
close_ends events.EngineLost h = refl

closed_none : (es : List Event) → has_last_event es ≡ false → has_close_event es ≡ false
closed_none [] h = refl
closed_none (e ∷ es) h =
    let s = or_parts (is_last_event e) (has_last_event es) h in
    ap (λ b. b || has_close_event es) (close_ends e s.0) ∙ closed_none es s.1

-- A LINE THAT MAY BE SENT

pub long_goes : (p : Peer) → is_last_event (piece_event p TooLong) ≡ false
long_goes peers.Iface = refl
long_goes peers.Engine = refl

fits_line : (line : List ℕ) → nat_le (length line) 65536 ≡ true → has_feed line ≡ false → is_line line ≡ true
fits_line line a b = rw (a, b) refl

pub good_line : (p : Peer) (line : List ℕ) → is_line line ≡ true → is_good (sent_event p (says.Line line)) ≡ true
good_line peers.Iface line h = h
good_line peers.Engine line h = h

-- THE END OF THE SOURCE

end_kept : (a b c : Option (List ℕ)) (bs : List ℕ) → Consumes a b bs → IfSome a (λ _. IsAtEnd b) → Consumes b c [] → IfSome a (λ _. IsAtEnd c)
end_kept None b c bs r h k = tt
end_kept (Some x) None c bs r h k = absurd r
end_kept (Some x) (Some y) None bs r h k = absurd k
end_kept (Some x) (Some y) (Some z) bs r h k = cc

pub at_end_after : (b : Bool) (old new : Held) (l0 lo ln : Option (List ℕ)) (xs got : List ℕ) → old.ended ≡ b → Consumes l0 lo xs → Consumes lo ln got → (old.ended ≡ true → IfSome l0 (λ _. IsAtEnd lo))
    → (old.ended ≡ true → got ≡ []) → NothingIsLeftAtEnd old new ln → new.ended ≡ true → IfSome l0 (λ _. IsAtEnd ln)
at_end_after true old new l0 lo ln xs got b r s f g h e = end_kept l0 lo ln xs r (f b) (subst (Consumes lo ln) (g b) s)
at_end_after false old new l0 lo ln xs got b r s f g h e = over_now l0 ln (h (b, e))

-- THE LAST READ

nothing_read : (p : Peer) → LastRead p []
nothing_read p = record { first = []; last = []; is = refl; going = refl; few = omega arith }

not_over : (b : Bool) (x : ℕ) (xs : List ℕ) → (b ≡ true → x ∷ xs ≡ []) → b ≡ false
not_over true x xs f = let e = f refl in cc
not_over false x xs f = refl

-- a reader that reads something has no whole line
waiting : (old : Held) (x : ℕ) (xs : List ℕ) → (IsLineReady old → x ∷ xs ≡ []) → IsWaiting old
waiting old x xs idle =
    elim (cases_lt (feed_at old.bytes) (length old.bytes)) [
      | inl l ↦ let e = idle (inl l) in cc
      | inr ge ↦ (omega (arith, feed_le old.bytes), not_over old.ended x xs (λ e. idle (inr e)))
    ]

-- TURNS

pub heard_open : (p : Peer) (held : Held) (s : Supplied) (sent : List Event) → held ≡ empty_reader 65536 → sent ≡ [] → LinesSentSoFar p held s s sent
heard_open p held s sent h e = record {
  got = [];
  reads = record { given = Appends-nil s.given; left = Consumes-nil s.left };
  limit = ap (λ (x : Held). x.limit) h;
  given = [];
  calls = 0;
  runs = subst (λ (x : Held). SourceCalls 65536 x [] [] 0) (sym h) runs.begins;
  at_end = λ x. let n : false ≡ true = sym (ap (λ (x : Held). x.ended) h) ∙ x in cc;
  last_read = nothing_read p;
  sent_is = e;
  going = ap has_last_event e;
  same = refl;
}

pub counted : (a b c : ℕ) (f g : Bool) → b ≡ a → f ≡ g → CountsFault b c f → CountsFault a c g
counted a b c f g e h t = subst (λ (y : Bool). CountsFault a c y) h (subst (λ n. CountsFault n c f) e t)

pub reported_ok : {A E : Type 0} (a b : ℕ) (r : Result A E) (v : A) → r ≡ Ok v → ErrorIsCounted a b r → CountsFault a b false
reported_ok a b (Ok v) w e h = record { later = h.later; rose = λ x. cc; same = λ _. h.same }
reported_ok a b (Err x) w e h = cc

module _ (p : Peer) (old new : Held) (s0 so sn : Supplied) (before now : List Event) (h : LinesSentSoFar p old s0 so before) where
  all_got : (t : ReaderTurn) (g : ReaderTurnDone p old new so sn before now t) → SourceGave s0 sn (h.got ++ g.got)
  all_got t g = record { given = Appends-trans s0.given so.given sn.given _ _ h.reads.given g.reads.given; left = Consumes-trans s0.left so.left sn.left _ _ h.reads.left g.reads.left }

  end_after : (t : ReaderTurn) (g : ReaderTurnDone p old new so sn before now t) → new.ended ≡ true → IfSome s0.left (λ _. IsAtEnd sn.left)
  end_after t g e = at_end_after old.ended old new s0.left so.left sn.left h.got g.got refl h.reads.left g.reads.left h.at_end (λ o. g.call.advances.idle (inr o)) g.ends_at e

  -- its side has ended where its last event is an end
  over_by : (e : Event) → is_last_event e ≡ true → now ≡ before ++ e ∷ [] → has_last_event now ≡ true
  over_by e x s = ap has_last_event s ∙ any_append is_last_event before (e ∷ []) ∙ ap (λ b. b || has_last_event (e ∷ [])) h.going ∙ ap (λ b. b || false) x

  events_going : has_last_event (piece_events p h.given) ≡ false
  events_going = sym (ap has_last_event h.sent_is) ∙ h.going

  sent_last : (e : Event) → now ≡ before ++ e ∷ [] → now ≡ piece_events p h.given ++ e ∷ []
  sent_last e s = s ∙ ap (λ (es : List Event). es ++ e ∷ []) h.sent_is

  -- a reader that waits gave all whole lines
  none_came : LinesAtFault → IsWaiting old → has_last_event (piece_events p (whole 65536 h.got)) ≡ false
  none_came law waits =
      let fault : ReadFault = record {} in
      let call : Call old old [] (Err fault) = record { advances = fault_given old old refl waits; answers = answers_fault old old fault refl waits } in
      let all = law 65536 h.calls old old h.got [] h.given (Err fault) h.runs call refl in
      ap (λ (ps : List Piece). has_last_event (piece_events p ps)) (ap (whole 65536) (sym (append-nil h.got)) ∙ sym all) ∙ events_going

  last_after : LinesAtFault → (got : List ℕ) → (IsLineReady old → got ≡ []) → length got ≤ read_room old.limit → LastRead p (h.got ++ got)
  last_after law [] idle few = subst (LastRead p) (sym (append-nil h.got)) h.last_read
  last_after law (x ∷ xs) idle few =
      record { first = h.got; last = x ∷ xs; is = refl; going = none_came law (waiting old x xs idle); few = subst (λ n. length (x ∷ xs) ≤ read_room n) h.limit few }

  last_of : LinesAtFault → (t : ReaderTurn) (g : ReaderTurnDone p old new so sn before now t) → LastRead p (h.got ++ g.got)
  last_of law t g = last_after law g.got g.call.advances.idle g.call.advances.few

  pub heard_more : LinesAtFault → ReaderTurnDone p old new so sn before now turns.More → LinesSentSoFar p new s0 sn now
  heard_more fault_law g =
      let s = g.sends in
      let more = lines_given (outcome g.result) in
      record {
        got = h.got ++ g.got;
        reads = all_got turns.More g;
        limit = g.call.advances.limit ∙ h.limit;
        given = h.given ++ more;
        calls = suc h.calls;
        runs = runs.goes h.runs g.call s.0;
        at_end = end_after turns.More g;
        last_read = last_of fault_law turns.More g;
        sent_is = s.1 ∙ ap (λ (es : List Event). es ++ piece_events p more) h.sent_is ∙ sym (map-append (piece_event p) h.given more);
        going = ap has_last_event s.1 ∙ any_append is_last_event before (piece_events p more) ∙ ap (λ b. b || has_last_event (piece_events p more)) h.going ∙ s.2;
        same = g.count.same refl ∙ h.same;
      }

  pub arrived_done : LinesAtFault → LinesAtEnd → ReaderTurnDone p old new so sn before now turns.Done → Arrived p s0 sn now read_ends.Done
  arrived_done fault_law law g =
      let s = g.sends in
      let all = law 65536 h.calls old new h.got g.got h.given g.result h.runs g.call s.0 in
      record {
        got = h.got ++ g.got;
        reads = all_got turns.Done g;
        last_read = last_of fault_law turns.Done g;
        over = over_by (last_event p) (last_ends p) s.1;
        all = λ _. sent_last (last_event p) s.1 ∙ sym (arrivals_all p h.given events_going) ∙ ap (arrivals p) all;
        at_end = λ _ _. end_after turns.Done g (g.call.answers.end.0 s.0).0;
        at_fault = λ f x. cc;
        cut = λ x. cc;
        count = counted _ _ _ _ _ h.same refl g.count;
      }

  pub arrived_quit : LinesAtFault → LinesSoFar → ReaderTurnDone p old new so sn before now turns.Quit → Arrived p s0 sn now read_ends.Done
  arrived_quit fault_law law g =
      let s = g.sends in
      let piece = s.0 in
      let all = law 65536 (suc h.calls) new (h.got ++ g.got) [] (h.given ++ lines_given (outcome g.result)) (runs.goes h.runs g.call s.3) (λ _. refl) in
      let given : items 65536 (h.got ++ g.got) ≡ h.given ++ piece ∷ lines_to_come new [] =
      ap (items 65536) (sym (append-nil (h.got ++ g.got))) ∙ all ∙ ap (λ (x : ReadGave). (h.given ++ lines_given x) ++ lines_to_come new []) s.1 ∙ append_assoc h.given (piece ∷ []) (lines_to_come new []) in
      record {
        got = h.got ++ g.got;
        reads = all_got turns.Quit g;
        last_read = last_of fault_law turns.Quit g;
        over = over_by (piece_event p piece) s.2 s.4;
        all = λ _. sent_last (piece_event p piece) s.4 ∙ sym (arrivals_last p h.given (lines_to_come new []) piece events_going s.2) ∙ ap (arrivals p) (sym given);
        at_end = λ _ c.
            let n : has_close_event now ≡ false = ap has_close_event s.4 ∙ any_append is_end_without_line before (piece_event p piece ∷ []) ∙ ap (λ b. b || has_close_event (piece_event p piece ∷ [])) (closed_none before h.going) ∙ no_close p piece in
            let z : false ≡ true = sym n ∙ c in cc;
        at_fault = λ f x. cc;
        cut = λ x. cc;
        count = counted _ _ _ _ _ h.same refl g.count;
      }

  pub arrived_fault : (f : ReadFault) → LinesAtFault → ReaderTurnDone p old new so sn before now turns.Fault → Arrived p s0 sn now (read_ends.Fault f)
  arrived_fault f law g =
      let s = g.sends in
      let all = law 65536 h.calls old new h.got g.got h.given g.result h.runs g.call s.0 in
      record {
        got = h.got ++ g.got;
        reads = all_got turns.Fault g;
        last_read = last_of law turns.Fault g;
        over = over_by (last_event p) (last_ends p) s.1;
        all = λ x. cc;
        at_end = λ x. cc;
        at_fault = λ _ _. sent_last (last_event p) s.1 ∙ sym (arrivals_all p h.given events_going) ∙ ap (arrivals p) all;
        cut = λ x. cc;
        count = counted _ _ _ _ _ h.same refl g.count;
      }

  pub arrived_cut : LinesAtFault → LinesSoFar → ReaderTurnDone p old new so sn before now turns.NoMemory → Arrived p s0 sn now read_ends.NoMemory
  arrived_cut fault_law law g =
      let s = g.sends in
      let more = lines_given (outcome g.result) in
      let all = law 65536 (suc h.calls) new (h.got ++ g.got) [] (h.given ++ more) (runs.goes h.runs g.call s.0) (λ _. refl) in
      record {
        got = h.got ++ g.got;
        reads = all_got turns.NoMemory g;
        last_read = last_of fault_law turns.NoMemory g;
        over = over_by (last_event p) (last_ends p) s.1;
        all = λ x. cc;
        at_end = λ x. cc;
        at_fault = λ f x. cc;
        cut = λ _. record {
          prefix = h.given;
          rest = more ++ lines_to_come new [];
          is = ap (items 65536) (sym (append-nil (h.got ++ g.got))) ∙ all ∙ append_assoc h.given more (lines_to_come new []);
          sent_is = sent_last (last_event p) s.1;
          going = events_going;
        };
        count = counted _ _ _ _ _ h.same refl g.count;
      }

pub arrived_none : (p : Peer) (s : Supplied) (now : List Event) → now ≡ last_event p ∷ [] → Arrived p s s now read_ends.NoMemory
arrived_none p s now e = record {
  got = [];
  reads = record { given = Appends-nil s.given; left = Consumes-nil s.left };
  last_read = nothing_read p;
  over = ap has_last_event e ∙ ap (λ b. b || false) (last_ends p);
  all = λ x. cc;
  at_end = λ x. cc;
  at_fault = λ f x. cc;
  cut = λ _. record { prefix = []; rest = items 65536 []; is = refl; sent_is = e; going = refl };
  count = record { later = omega arith; rose = λ x. cc; same = λ _. refl };
}

pub goes_as : (p p' : Peer) (old new : Held) (so sn : Supplied) (before now : List Event) (t t' : ReaderTurn) → p ≡ p' → t ≡ t' → ReaderTurnDone p old new so sn before now t → ReaderTurnDone p' old new so sn before now t'
goes_as p p' old new so sn before now t t' e f g =
    subst (λ (x : ReaderTurn). ReaderTurnDone p' old new so sn before now x) f (subst (λ (x : Peer). ReaderTurnDone x old new so sn before now t) e g)

-- a line that was read
module _ (p : Peer) (old new : Held) (so sn : Supplied) (before now : List Event) (r : Result Item ReadFault) (item : Item) (line : List ℕ) (is : r ≡ Ok item) (gave : outcome (Ok item) ≡ Gave (Whole line)) (on : IsTrue (reading_goes_on (Ok item)))
    (adds : now ≡ before ++ sent_event p (says.Line line) ∷ []) (same : CountsFault so.faults sn.faults false)
    (k : (got : List ℕ) × SourceGave so sn got × ReaderAdvances old new got (outcome r) × NothingIsLeftAtEnd old new sn.left × AnswersWhen old new got r) where
  on_as : IsTrue (reading_goes_on r)
  on_as = subst (λ (x : Result Item ReadFault). IsTrue (reading_goes_on x)) (sym is) on

  gave_as : outcome r ≡ Gave (Whole line)
  gave_as = ap outcome is ∙ gave

  pub goes_quit : is_last_event (sent_event p (says.Line line)) ≡ true → ReaderTurnDone p old new so sn before now turns.Quit
  goes_quit last =
      record { got = k.0; reads = k.1; result = r; call = record { advances = k.2; answers = k.4 }; ends_at = k.3; sends = (Whole line, gave_as, last, on_as, adds); count = same }

  pub goes_line : is_last_event (sent_event p (says.Line line)) ≡ false → ReaderTurnDone p old new so sn before now turns.More
  goes_line last = record {
    got = k.0;
    reads = k.1;
    result = r;
    call = record { advances = k.2; answers = k.4 };
    ends_at = k.3;
    sends = (on_as, adds ∙ ap (λ (x : ReadGave). before ++ piece_events p (lines_given x)) (sym gave_as), ap (λ (x : ReadGave). has_last_event (piece_events p (lines_given x))) gave_as ∙ ap (λ b. b || false) last);
    count = same;
  }
