-- The effect of one call of the reader of lines on the taking of lines.
use Rattle.std.proofs.Common.{◌≡◌, ℕ, suc, ◌+◌, ◌≤◌, ◌<◌, ◌^◌, List, [], ◌∷◌, ◌++◌, length, true, false, Bool, not, Option, Some, None, IfSome, Result, Ok, Err, IsTrue, refl, ap, sym, subst, ◌∙◌, append-nil, length-append, arith, inr}
use Rattle.std.specs.Io.KnownBytes.{Consumes, IsAtEnd}
use Rattle.std.proofs.KnownBytes.{Appends-trans, Consumes-trans, Appends-nil, Consumes-nil}
use Rattle.line_io.specs.Causes.{Rose}
use Rattle.line_io.specs.Lines.{Piece, Held, ReadGave, Gave, NotYet, ReaderAdvances, SourceGave, NothingIsLeftAtEnd, IsWaiting, empty_reader, flag, lines_to_come}
use Rattle.line_io.specs.Lending.{outcome, AnswersWhen}
use Rattle.line_io.specs.Runs.{SourceCalls, begins, goes, Call, reading_goes_on, lines_given}
use Rattle.line_io.specs.Source.{Supplied}
use Rattle.line_io.specs.LineConsumers.{ConsumerMeaning}
use Rattle.line_io.specs.Taken.{Place, reading_place, IsOver, Taken}
use Rattle.line_io.specs.Turns.{ReadingCourse, ConsumerReached, HasNoWholeLine, work}
use Rattle.line_io.proofs.Runs.{so_far, at_end, at_fault, at_wait, few_calls}
use Rattle.line_io.specs.declared.lines.Item.{Item}
use Rattle.line_io.specs.declared.lines.Item.TheVariants as answers
use Rattle.line_io.specs.declared.faults.ReadFault.{ReadFault}
use Rattle.line_io.specs.declared.consumer.LinesEnd.TheVariants as ends

-- the meaning of a call of `next`
abbrev pub Next : Held → Held → Supplied → Supplied → Result Item ReadFault → Type 0
Next old new input input' r = (got : List ℕ) × SourceGave input input' got × ReaderAdvances old new got (outcome r) × NothingIsLeftAtEnd old new input'.left × AnswersWhen old new got r

pub next_is : (old new : Held) (input input' : Supplied) (r r' : Result Item ReadFault) → r ≡ r' → Next old new input input' r → Next old new input input' r'
next_is old new input input' r r' e h = subst (λ (x : Result Item ReadFault). Next old new input input' x) e h

call_of : (old new : Held) (input input' : Supplied) (r : Result Item ReadFault) (n : Next old new input input' r) → Call old new n.0 r
call_of old new input input' r n = record { advances = n.2; answers = n.4 }

gave_more : (a b c : Supplied) (bs cs : List ℕ) → SourceGave a b bs → SourceGave b c cs → SourceGave a c (bs ++ cs)
gave_more a b c bs cs g h = record {
  given = Appends-trans a.given b.given c.given bs cs g.given h.given;
  left = Consumes-trans a.left b.left c.left bs cs g.left h.left;
}

-- nothing is left after the end, whatever is read then
over_kept : (a b c : Option (List ℕ)) (bs cs : List ℕ) → IfSome a (λ _. IsAtEnd b) → Consumes a b bs → cs ≡ [] → Consumes b c cs → IfSome a (λ _. IsAtEnd c)
over_kept None b c bs cs o g e h = tt
over_kept (Some x) None c bs cs o g e h = absurd g
over_kept (Some x) (Some y) None bs cs o g e h = absurd h
over_kept (Some x) (Some y) (Some z) bs cs o g e h = ap (λ l. l ++ z) (sym e) ∙ sym h ∙ o

pub over_now : (a b : Option (List ℕ)) → IsAtEnd b → IfSome a (λ _. IsAtEnd b)
over_now None b h = tt
over_now (Some x) b h = h

over_by : (ended : Bool) (old new : Held) (input0 input input' : Supplied) (r : Result Item ReadFault) (n : Next old new input input' r) (heard : List ℕ) → old.ended ≡ ended → SourceGave input0 input heard → (old.ended ≡ true → IsOver input0 input) → new.ended ≡ true → IsOver input0 input'
over_by true old new input0 input input' r n heard o g was e = over_kept input0.left input.left input'.left heard n.0 (was o) g.left (n.2.idle (inr o)) n.1.left
over_by false old new input0 input input' r n heard o g was e = over_now input0.left input'.left (n.3 (o, e))

-- one call more
course_more : (limit : ℕ) (old new : Held) (given : List ℕ) (pieces : List Piece) (input0 input input' : Supplied) (calls : ℕ) (r : Result Item ReadFault) (g : ReadGave)
    → outcome r ≡ g → IsTrue (reading_goes_on r) → input'.faults ≡ input.faults → (n : Next old new input input' r) → ReadingCourse limit old given pieces input0 input calls
    → ReadingCourse limit new (given ++ n.0) (pieces ++ lines_given g) input0 input' (suc calls)
course_more limit old new given pieces input0 input input' calls r g is on same n c = record {
  gave = gave_more input0 input input' given n.0 c.gave n.1;
  runs = subst (λ (x : ReadGave). SourceCalls limit new (given ++ n.0) (pieces ++ lines_given x) (suc calls)) is (goes c.runs (call_of old new input input' r n) on);
  at_end = over_by old.ended old new input0 input input' r n given refl c.gave c.at_end;
  no_fault = same ∙ c.no_fault;
}

-- the consumer took what came
pub went_on : {S O X : Type 0} (means : ConsumerMeaning S O X) (limit : ℕ) (first now later : Place S O) (old new : Held) (calls number number' : ℕ) (r : Result Item ReadFault) (g : ReadGave)
    → outcome r ≡ g → IsTrue (reading_goes_on r) → later.input.faults ≡ now.input.faults → Next old new now.input later.input r
    → (h : ConsumerReached means limit first now old calls number) → number' ≡ number + length (lines_given g)
    → means.took first.consumer first.output (h.pieces ++ lines_given g) later.consumer later.output → ConsumerReached means limit first later new (suc calls) number'
went_on means limit first now later old new calls number number' r g is on same n h counts took = record {
  given = h.given ++ n.0;
  pieces = h.pieces ++ lines_given g;
  course = course_more limit old new h.given h.pieces first.input now.input later.input calls r g is on same n h.course;
  count = counts ∙ omega (arith, h.count, length-append h.pieces (lines_given g));
  took = took;
}

-- no line came
pub none_came : {S O X : Type 0} (means : ConsumerMeaning S O X) (limit : ℕ) (first now : Place S O) (input : Supplied) (old new : Held) (calls number : ℕ)
    → input.faults ≡ now.input.faults → Next old new now.input input (Ok answers.More)
    → ConsumerReached means limit first now old calls number → ConsumerReached means limit first (reading_place now.consumer now.output input) new (suc calls) number
none_came {S} {O} {X} means limit first now input old new calls number same n h =
    went_on means limit first now (reading_place now.consumer now.output input) old new calls number number (Ok answers.More) NotYet refl refl same n h (omega arith)
    (subst (λ (ps : List Piece). means.took first.consumer first.output ps now.consumer now.output) (sym (append-nil h.pieces)) h.took)

-- the consumer stopped
stops_by : {S O X : Type 0} (means : ConsumerMeaning S O X) (limit : ℕ) (first now : Place S O) (held : Held) (given : List ℕ) (pieces : List Piece) (calls : ℕ) (stop : X)
    → ReadingCourse limit held given pieces first.input now.input calls → length pieces + 1 < 2 ^ 64 → means.stopped first.consumer first.output pieces stop now.consumer now.output
    → Taken means limit (ends.Stopped stop) first now
stops_by means limit first now held given pieces calls stop c few stopped = record {
  given = given;
  pieces = pieces;
  gave = c.gave;
  few = few;
  ends = record {
    stopped = stopped;
    ended = held.ended;
    prefix = λ left live. (lines_to_come held left, so_far limit calls held given left pieces c.runs live);
    at_end = c.at_end;
    no_fault = c.no_fault;
  };
}

-- where it was to write: nothing was read since
pub stopped_before : {S O X : Type 0} (means : ConsumerMeaning S O X) (limit : ℕ) (first now : Place S O) (s : S) (o : O) (held : Held) (calls number : ℕ) (stop : X)
    → number + 2 < 2 ^ 64 → (h : ConsumerReached means limit first now held calls number) → means.stopped first.consumer first.output h.pieces stop s o
    → Taken means limit (ends.Stopped stop) first (reading_place s o now.input)
stopped_before means limit first now s o held calls number stop few h stopped =
    stops_by means limit first (reading_place s o now.input) held h.given h.pieces calls stop h.course (omega (arith, h.count)) stopped

-- at a line
pub stopped_at : {S O X : Type 0} (means : ConsumerMeaning S O X) (limit : ℕ) (first now later : Place S O) (old new : Held) (calls number : ℕ) (r : Result Item ReadFault) (piece : Piece) (stop : X)
    → outcome r ≡ Gave piece → IsTrue (reading_goes_on r) → later.input.faults ≡ now.input.faults → Next old new now.input later.input r
    → number + 2 < 2 ^ 64 → (h : ConsumerReached means limit first now old calls number)
    → means.stopped first.consumer first.output (h.pieces ++ piece ∷ []) stop later.consumer later.output → Taken means limit (ends.Stopped stop) first later
stopped_at means limit first now later old new calls number r piece stop is on same n few h stopped =
    stops_by means limit first later new (h.given ++ n.0) (h.pieces ++ piece ∷ []) (suc calls) stop
    (course_more limit old new h.given h.pieces first.input now.input later.input calls r (Gave piece) is on same n h.course)
    (omega (arith, h.count, length-append h.pieces (piece ∷ []))) stopped

-- the end
pub ended_all : {S O X : Type 0} (means : ConsumerMeaning S O X) (limit : ℕ) (first now : Place S O) (input : Supplied) (old new : Held) (calls number : ℕ)
    → input.faults ≡ now.input.faults → Next old new now.input input (Ok answers.End) → number + 2 < 2 ^ 64
    → ConsumerReached means limit first now old calls number → Taken means limit ends.Ended first (reading_place now.consumer now.output input)
ended_all means limit first now input old new calls number same n few h =
    let r : Result Item ReadFault = Ok answers.End in
    record {
      given = h.given ++ n.0;
      pieces = h.pieces;
      gave = gave_more first.input now.input input h.given n.0 h.course.gave n.1;
      few = omega (arith, h.count);
      ends = record {
        took = h.took;
        all = at_end limit calls old new h.given n.0 h.pieces r h.course.runs (call_of old new now.input input r n) refl;
        over = over_by old.ended old new first.input now.input input r n h.given refl h.course.gave h.course.at_end (n.4.end.0 refl).0;
        no_fault = same ∙ h.course.no_fault;
      };
    }

-- a read failed
pub read_failed : {S O X : Type 0} (means : ConsumerMeaning S O X) (limit : ℕ) (first now : Place S O) (input : Supplied) (old new : Held) (calls number : ℕ) (fault : ReadFault)
    → Rose now.input.faults input.faults → (IsWaiting old → means.is_written now.consumer) → Next old new now.input input (Err fault) → number + 2 < 2 ^ 64
    → ConsumerReached means limit first now old calls number → Taken means limit ends.ReadFailed first (reading_place now.consumer now.output input)
read_failed means limit first now input old new calls number fault rose written n few h =
    let r : Result Item ReadFault = Err fault in
    record {
      given = h.given ++ n.0;
      pieces = h.pieces;
      gave = gave_more first.input now.input input h.given n.0 h.course.gave n.1;
      few = omega (arith, h.count);
      ends = record {
        took = h.took;
        written = written n.4.fault.1;
        all = at_fault limit calls old new h.given n.0 h.pieces r h.course.runs (call_of old new now.input input r n) refl;
        fault = subst (λ (k : ℕ). Rose k input.faults) h.course.no_fault rose;
      };
    }

-- before the first call
pub reached_first : {S O X : Type 0} (means : ConsumerMeaning S O X) (limit : ℕ) (held : Held) (first : Place S O) → held ≡ empty_reader limit → means.took first.consumer first.output [] first.consumer first.output → ConsumerReached means limit first first held 0 0
reached_first means limit held first fresh took = record {
  given = [];
  pieces = [];
  course = record {
    gave = record { given = Appends-nil first.input.given; left = Consumes-nil first.input.left };
    runs = subst (λ (x : Held). SourceCalls limit x [] [] 0) (sym fresh) begins;
    at_end = λ e. cc;
    no_fault = refl;
  };
  count = refl;
  took = took;
}

-- after so many calls
pub endless : {S O X : Type 0} (means : ConsumerMeaning S O X) (limit : ℕ) (first now : Place S O) (held : Held) (calls number : ℕ)
    → 8589934593 ≤ calls → number + 2 < 2 ^ 64 → HasNoWholeLine means limit None first now held calls number → Taken means limit ends.Endless first now
endless means limit first now held calls number many fits d =
    let h = d.1.2 in
    let open_still : flag held.ended ≡ 0 = ap flag d.0.1 in
    let few = few_calls limit d.1.0 held h.given h.pieces h.course.runs in
    record {
      given = h.given;
      pieces = h.pieces;
      gave = h.course.gave;
      few = omega (arith, h.count);
      ends = record { took = h.took; all = at_wait limit d.1.0 held h.given h.pieces h.course.runs d.0; many = omega (arith, d.1.1); no_fault = h.course.no_fault };
    }

flag_le : (b : Bool) → flag b ≤ 1
flag_le true = omega arith
flag_le false = omega arith

-- in memory that is there, few lines are held
pub work_le : (held : Held) → length held.bytes < 2 ^ 63 → work held ≤ 2 ^ 63 + 2
work_le held h = omega (arith, flag_le held.cut, flag_le (not held.ended))
