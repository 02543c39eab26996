-- The events that the reader of a life has sent.
use Rattle.std.proofs.Common.{◌≡◌, inr, ℕ, suc, List, [], ◌∷◌, ◌++◌, length, true, false, ◌||◌, IfSome, Result, Ok, Err, IsTrue, refl, sym, ap, subst, ◌∙◌, arith, append-nil, append_assoc}
use Rattle.std.proofs.lemmas.Grind.{flat_map-append}
use Rattle.std.specs.Io.KnownBytes.{IsAtEnd}
use Rattle.std.proofs.KnownBytes.{Appends-nil, Appends-trans, Consumes-nil, Consumes-trans}
use Rattle.line_io.specs.Event.{Event, Engine}
use Rattle.line_io.specs.Source.{Supplied}
use Rattle.line_io.specs.Causes.{ErrorIsCounted}
use Rattle.line_io.specs.Lines.{Piece, Whole, Held, ReadGave, Gave, ReaderAdvances, NothingIsLeftAtEnd, SourceGave, lines_to_come, items, empty_reader}
use Rattle.line_io.specs.Lending.{outcome, AnswersWhen}
use Rattle.line_io.specs.Runs.{SourceCalls, Call, reading_goes_on, lines_given, LinesSoFar, LinesAtEnd, LinesAtFault}
use Rattle.line_io.specs.Runs as runs
use Rattle.line_io.specs.declared.lines.Item.{Item}
use Rattle.line_io.specs.declared.faults.ReadFault.{ReadFault}
use Rattle.event_pipe.specs.declared.reader.ReadEnd.{ReadEnd}
use Rattle.event_pipe.specs.declared.reader.ReadEnd.TheVariants as read_ends
use Rattle.event_pipe.specs.Counts.{CountsFault}
use Rattle.event_pipe.specs.Message.{is_last_event}
use Rattle.event_pipe.specs.Events.{has_last_event}
use Rattle.event_pipe.proofs.Reading.{any_append, at_end_after, counted}
use Rattle.reviver_runner.specs.Messages.{life_end}
use Rattle.reviver_runner.specs.declared.reading.ReadingTurn.{ReadingTurn}
use Rattle.reviver_runner.specs.declared.reading.ReadingTurn.TheVariants as turns
use Rattle.reviver_runner.specs.Reading.{line_event, line_events, ReadLines, ReadLife, LinesOf, ReadingTurnDone, SoFar}

-- TURNS

pub opens : (held : Held) (s : Supplied) (sent : List Event) → held ≡ empty_reader 65536 → has_last_event sent ≡ false → SoFar held s s sent sent
opens held s sent h e = record {
  got = [];
  reads = record { given = Appends-nil s.given; left = Consumes-nil s.left };
  limit = ap (λ (x : Held). x.limit) h;
  given = [];
  calls = 0;
  runs = subst (λ (x : Held). SourceCalls 65536 x [] [] 0) (sym h) runs.begins;
  at_end = λ x. let n : false ≡ true = sym (ap (λ (x : Held). x.ended) h) ∙ x in cc;
  sent_is = sym (append-nil sent);
  going = e;
  same = refl;
}

pub turn_as : (old new : Held) (so sn : Supplied) (before now : List Event) (t t' : ReadingTurn) → t ≡ t' → ReadingTurnDone old new so sn before now t → ReadingTurnDone old new so sn before now t'
turn_as old new so sn before now t t' f g = subst (λ (x : ReadingTurn). ReadingTurnDone old new so sn before now x) f g

module _ (first : List Event) (old new : Held) (s0 so sn : Supplied) (before now : List Event) (h : SoFar old s0 so first before) where
  all_got : (t : ReadingTurn) (g : ReadingTurnDone old new so sn before now t) → SourceGave s0 sn (h.got ++ g.got)
  all_got t g = record { given = Appends-trans s0.given so.given sn.given _ _ h.reads.given g.reads.given; left = Consumes-trans s0.left so.left sn.left _ _ h.reads.left g.reads.left }

  end_after : (t : ReadingTurn) (g : ReadingTurnDone old new so sn before now t) → new.ended ≡ true → IfSome s0.left (λ _. IsAtEnd sn.left)
  end_after t g e = at_end_after old.ended old new s0.left so.left sn.left h.got g.got refl h.reads.left g.reads.left h.at_end (λ o. g.call.advances.idle (inr o)) g.ends_at e

  pub goes_more : ReadingTurnDone old new so sn before now turns.More → SoFar new s0 sn first now
  goes_more g =
      let s = g.sends in
      let more = lines_given (outcome g.result) in
      record {
        got = h.got ++ g.got;
        reads = all_got turns.More g;
        limit = g.call.advances.limit ∙ h.limit;
        given = h.given ++ more;
        calls = suc h.calls;
        runs = runs.goes h.runs g.call s.0;
        at_end = end_after turns.More g;
        sent_is = s.1 ∙ ap (λ (es : List Event). es ++ line_events more) h.sent_is ∙ append_assoc first (line_events h.given) (line_events more)
            ∙ ap (λ (es : List Event). first ++ es) (sym (flat_map-append line_event h.given more));
        going = s.2;
        same = g.count.same refl ∙ h.same;
      }

  same_lines : now ≡ before → now ≡ first ++ line_events h.given
  same_lines e = e ∙ h.sent_is

  pub read_done : LinesAtEnd → ReadingTurnDone old new so sn before now turns.Done → ReadLines s0 sn first now read_ends.Done
  read_done law g =
      let s = g.sends in
      let all = law 65536 h.calls old new h.got g.got h.given g.result h.runs g.call s.0 in
      record {
        lines = line_events h.given;
        sent_is = same_lines s.1;
        read = record {
          got = h.got ++ g.got;
          reads = all_got turns.Done g;
          all = λ _. ap line_events all;
          at_end = λ _. end_after turns.Done g (g.call.answers.end.0 s.0).0;
          at_fault = λ f x. cc;
          cut = λ x. cc;
          count = counted _ _ _ _ _ h.same refl g.count;
        };
      }

  pub read_fault : (f : ReadFault) → LinesAtFault → ReadingTurnDone old new so sn before now turns.Fault → ReadLines s0 sn first now (read_ends.Fault f)
  read_fault f law g =
      let s = g.sends in
      let all = law 65536 h.calls old new h.got g.got h.given g.result h.runs g.call s.0 in
      record {
        lines = line_events h.given;
        sent_is = same_lines s.1;
        read = record {
          got = h.got ++ g.got;
          reads = all_got turns.Fault g;
          all = λ x. cc;
          at_end = λ x. cc;
          at_fault = λ _ _. ap line_events all;
          cut = λ x. cc;
          count = counted _ _ _ _ _ h.same refl g.count;
        };
      }

  pub read_cut : LinesSoFar → ReadingTurnDone old new so sn before now turns.NoMemory → ReadLines s0 sn first now read_ends.NoMemory
  read_cut law g =
      let s = g.sends in
      let more = lines_given (outcome g.result) in
      let all = law 65536 (suc h.calls) new (h.got ++ g.got) [] (h.given ++ more) (runs.goes h.runs g.call s.0) (λ _. refl) in
      let pieces : items 65536 (h.got ++ g.got) ≡ h.given ++ (more ++ lines_to_come new []) =
      ap (items 65536) (sym (append-nil (h.got ++ g.got))) ∙ all ∙ append_assoc h.given more (lines_to_come new []) in
      record {
        lines = line_events h.given;
        sent_is = same_lines s.1;
        read = record {
          got = h.got ++ g.got;
          reads = all_got turns.NoMemory g;
          all = λ x. cc;
          at_end = λ x. cc;
          at_fault = λ f x. cc;
          cut = λ _. record {
            rest = line_events (more ++ lines_to_come new []);
            is = ap line_events pieces ∙ flat_map-append line_event h.given (more ++ lines_to_come new []);
          };
          count = counted _ _ _ _ _ h.same refl g.count;
        };
      }

pub read_none : (s : Supplied) (sent : List Event) → ReadLines s s sent sent read_ends.NoMemory
read_none s sent = record {
  lines = [];
  sent_is = sym (append-nil sent);
  read = record {
    got = [];
    reads = record { given = Appends-nil s.given; left = Consumes-nil s.left };
    all = λ x. cc;
    at_end = λ x. cc;
    at_fault = λ f x. cc;
    cut = λ _. record { rest = line_events (items 65536 []); is = refl };
    count = record { later = omega arith; rose = λ x. cc; same = λ _. refl };
  };
}

-- A LINE THAT WAS READ

module _ (old new : Held) (so sn : Supplied) (before now : List Event) (r : Result Item ReadFault) (item : Item) (line : List ℕ) (is : r ≡ Ok item) (gave : outcome (Ok item) ≡ Gave (Whole line)) (on : IsTrue (reading_goes_on (Ok item)))
    (going : has_last_event before ≡ false) (adds : now ≡ before ++ Engine line ∷ []) (same : CountsFault so.faults sn.faults false)
    (k : (got : List ℕ) × SourceGave so sn got × ReaderAdvances old new got (outcome r) × NothingIsLeftAtEnd old new sn.left × AnswersWhen old new got r) where
  pub goes_line : ReadingTurnDone old new so sn before now turns.More
  goes_line = record {
    got = k.0;
    reads = k.1;
    result = r;
    call = record { advances = k.2; answers = k.4 };
    ends_at = k.3;
    sends = (
      subst (λ (x : Result Item ReadFault). IsTrue (reading_goes_on x)) (sym is) on,
      adds ∙ ap (λ (x : ReadGave). before ++ line_events (lines_given x)) (sym (ap outcome is ∙ gave)),
      ap has_last_event adds ∙ any_append is_last_event before (Engine line ∷ []) ∙ ap (λ b. b || false) going,
    );
    count = same;
  }

-- where nothing was sent
pub nothing_sent : (before now : List Event) → now ≡ before → has_last_event before ≡ false → (now ≡ before ++ []) × (has_last_event now ≡ false)
nothing_sent before now e g = (e ∙ sym (append-nil before), ap has_last_event e ∙ g)

-- A LIFE THAT WAS READ

pub life_read : (s s' : Supplied) (sent lines now : List Event) (r : ReadEnd) → ReadLines s s' sent lines r → now ≡ lines ++ life_end ∷ [] → ReadLife s s' sent now r
life_read s s' sent lines now r x z = record {
  lines = x.lines;
  sent_is = z ∙ ap (λ (l : List Event). l ++ life_end ∷ []) x.sent_is ∙ append_assoc sent x.lines (life_end ∷ []);
  read = x.read;
}

pub end_going : (lines now : List Event) → has_last_event lines ≡ false → now ≡ lines ++ life_end ∷ [] → has_last_event now ≡ false
end_going lines now h z = ap has_last_event z ∙ any_append is_last_event lines (life_end ∷ []) ∙ ap (λ b. b || false) h
