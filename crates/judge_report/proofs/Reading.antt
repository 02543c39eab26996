-- One line more of a report.
use Rattle.std.proofs.Common.{◌≡◌, ℕ, ◌+◌, suc, List, [], ◌∷◌, ◌++◌, length, Option, Some, None, inl, inr, refl, sym, ap, ◌∙◌, arith}
use Rattle.line_io.specs.Lines.{Piece}
use Rattle.line_io.specs.Out.{Text, with}
use Rattle.replay_command_base.specs.declared.ending.Ending.{Ending}
use Rattle.replay_command_base.specs.declared.ending.Ending.TheVariants as endings
use Rattle.session_judge.specs.declared.dialogue_event.DialogueEvent.{DialogueEvent}
use Rattle.session_judge.specs.declared.rule.Rule.{Rule}
use Rattle.session_judge.specs.declared.listener.Listener.{Listener}
use Rattle.session_judge.specs.declared.talk.JudgedTalk.{JudgedTalk}
use Rattle.session_judge.specs.Clean.{judge_verdict}
use Rattle.session_judge.specs.Talks.{judgement_after, opening_judgement}
use Rattle.std.specs.Prelude.{Ok, Err, IfSome}
use Rattle.judge_report.specs.Texts.{unlawful_line}
use Rattle.judge_report.specs.Reports.{ReportCourse, LineOutcome, brought_out, kind_of_log_line, of_dialogue_event, of_kind, report_before_end, with_outcome, read_on, over, report, last_lines}
use Rattle.replay_command_base.specs.Putting.{IsOfLine, Puts, FilterThen}
use Rattle.replay_command_base.specs.Putting as line_filter
use Rattle.judge_report.specs.Judging.{judges}
use Rattle.judge_report.specs.Reads.{ReportSoFar, ReportStops, ReportCloses, ReportComesTo, ReportReads, ReportEnds}

read_more : (c : ReportCourse) (n m : ℕ) (p : Piece) → n ≡ m → read_on c.ending c n p ≡ read_on c.ending c m p
read_more c n m p e = ap (λ k. read_on c.ending c k p) e

-- WHAT IS PUT FOR A MARK

-- for one that breaks no rule
pub put_ok : (t : JudgedTalk) (n : ℕ) (d : DialogueEvent) (o : Option Rule) (held held' : Text) → Ok tt ≡ judge_verdict o → held' ≡ with held (brought_out t.search d) → held' ≡ with held (of_dialogue_event t n d o).more
put_ok t n d None held held' e h = h
put_ok t n d (Some r) held held' e h = absurd (cc)

-- and for one that breaks this one first
pub put_err : (t : JudgedTalk) (n : ℕ) (d : DialogueEvent) (o : Option Rule) (rule : Rule) (held held' : Text) → Err rule ≡ judge_verdict o → held' ≡ with held (report_before_end t ++ unlawful_line n rule) → held' ≡ with held (of_dialogue_event t n d o).more
put_err t n d None rule held held' e h = absurd (cc)
put_err t n d (Some r) rule held held' e h = let same : rule ≡ r = cc in h ∙ ap (λ x. with held (report_before_end t ++ unlawful_line n x)) same

-- the reason to end, and the talk then
pub ending_ok : (t : JudgedTalk) (n : ℕ) (d : DialogueEvent) (o : Option Rule) → Ok tt ≡ judge_verdict o → None ≡ (of_dialogue_event t n d o).ending
ending_ok t n d None e = refl
ending_ok t n d (Some r) e = absurd (cc)

pub ending_err : (t : JudgedTalk) (n : ℕ) (d : DialogueEvent) (o : Option Rule) (rule : Rule) → Err rule ≡ judge_verdict o → Some (endings.Unlawful n) ≡ (of_dialogue_event t n d o).ending
ending_err t n d None rule e = absurd (cc)
ending_err t n d (Some r) rule e = refl

pub talk_ok : (t u : JudgedTalk) (n : ℕ) (d : DialogueEvent) (o : Option Rule) → Ok tt ≡ judge_verdict o → u ≡ judgement_after t n d → u ≡ (of_dialogue_event t n d o).talk
talk_ok t u n d None e h = h
talk_ok t u n d (Some r) e h = absurd (cc)

pub talk_err : (t u : JudgedTalk) (n : ℕ) (d : DialogueEvent) (o : Option Rule) (rule : Rule) → Err rule ≡ judge_verdict o → u ≡ t → u ≡ (of_dialogue_event t n d o).talk
talk_err t u n d None rule e h = absurd (cc)
talk_err t u n d (Some r) rule e h = h

-- the last of some lines
over_last : (c : ReportCourse) (n : ℕ) (ps : List Piece) (p : Piece) → over c n (ps ++ p ∷ []) ≡ read_on (over c n ps).ending (over c n ps) (n + length ps) p
over_last c n [] p = read_more c n (n + 0) p (omega arith)
over_last c n (q ∷ qs) p =
    let d : ReportCourse = read_on c.ending c n q in
    let i : over d (n + 1) (qs ++ p ∷ []) ≡ read_on (over d (n + 1) qs).ending (over d (n + 1) qs) ((n + 1) + length qs) p = over_last d (n + 1) qs p in
    i ∙ read_more (over d (n + 1) qs) ((n + 1) + length qs) (n + suc (length qs)) p (omega arith)

-- the outcome of a line after these
abbrev grown : JudgedTalk → List ℕ → ℕ → Piece → ReportCourse
grown t text n p = record { talk = (of_kind t n (kind_of_log_line n p)).talk; text = text ++ (of_kind t n (kind_of_log_line n p)).more; ending = (of_kind t n (kind_of_log_line n p)).ending }

next : (listener : Listener) (lines : List Piece) (t : JudgedTalk) (text : List ℕ) (number : ℕ) (piece : Piece) → ReportSoFar listener lines t text → number ≡ length lines + 1 → report listener (lines ++ piece ∷ []) ≡ grown t text number piece
next listener lines t text number piece s e =
    let c : ReportCourse = report listener lines in
    over_last (record { talk = opening_judgement listener; text = []; ending = None }) 1 lines piece
    ∙ read_more c (1 + length lines) number piece (omega arith)
    ∙ ap (λ o. read_on o c number piece) s.goes_on
    ∙ ap (λ u. grown u c.text number piece) s.talk_is
    ∙ ap (λ x. grown t x number piece) s.text_is

comes : (listener : Listener) (o : Option Ending) (lines : List Piece) (t : JudgedTalk) (text : List ℕ) (c : ReportCourse) → IfSome o IsOfLine → report listener lines ≡ c → o ≡ c.ending → t ≡ c.talk → text ≡ c.text → ReportComesTo listener lines o t text
comes listener None lines t text c w e o h x = record {
  talk_is = ap (λ (d : ReportCourse). d.talk) e ∙ sym h;
  text_is = ap (λ (d : ReportCourse). d.text) e ∙ sym x;
  goes_on = ap (λ (d : ReportCourse). d.ending) e ∙ sym o;
}
comes listener (Some ending) lines t text c w e o h x = record {
  of_line = w;
  ends = ap (λ (d : ReportCourse). d.ending) e ∙ sym o;
  text_is = ap (λ (d : ReportCourse). d.text) e ∙ sym x;
}

-- A line is read by what comes of it.
pub reads : (number : ℕ) (piece : Piece) (result : Option Ending) (t t' : JudgedTalk) (held held' : Text)
    → result ≡ (of_kind t number (kind_of_log_line number piece)).ending → t' ≡ (of_kind t number (kind_of_log_line number piece)).talk
    → held' ≡ with held (of_kind t number (kind_of_log_line number piece)).more → IfSome result IsOfLine → ReportReads number piece result t t' held held'
reads number piece result t t' held held' r h p w = record {
  more = (of_kind t number (kind_of_log_line number piece)).more;
  put = p;
  goes = λ listener lines text s e. comes listener result (lines ++ piece ∷ []) t' (text ++ (of_kind t number (kind_of_log_line number piece)).more)
      (grown t text number piece) w (next listener lines t text number piece s e) r h refl;
}

-- The report is closed by what is put last.
pub ends : (ending : Ending) (t : JudgedTalk) (held held' : Text) → held' ≡ with held (last_lines t ending) → ReportEnds ending t held held'
ends ending t held held' p = record {
  more = last_lines t ending;
  put = p;
  goes = λ listener lines text s. record {
    goes_on = s.goes_on;
    text_is = ap (λ (u : JudgedTalk). (report listener lines).text ++ last_lines u ending) s.talk_is ∙ ap (λ x. x ++ last_lines t ending) s.text_is;
  };
}

-- AS A LINE FILTER

then_by : (o : Option Ending) (t0 : JudgedTalk) (lines : List Piece) (t : JudgedTalk) (text : List ℕ) → ((listener : Listener) → t0 ≡ opening_judgement listener → ReportComesTo listener lines o t text) → FilterThen judges t0 lines o t text
then_by None t0 lines t text h = h
then_by (Some ending) t0 lines t text h = λ listener first. inl (h listener first)

pub puts : (number : ℕ) (piece : Piece) (result : Option Ending) (t t' : JudgedTalk) (held held' : Text) → ReportReads number piece result t t' held held' → Puts judges number piece result t held t' held'
puts number piece result t t' held held' r = record {
  more = r.more;
  put = r.put;
  goes = λ t0 lines text p e. then_by result t0 (lines ++ piece ∷ []) t' (text ++ r.more) (λ listener first. r.goes listener lines text (p listener first) e);
}

pub closes : (ending : Ending) (t : JudgedTalk) (held held' : Text) → (IsOfLine ending → ⊥) → ReportEnds ending t held held' → line_filter.FilterCloses judges ending t held held'
closes ending t held held' unlined r = record {
  more = r.more;
  put = r.put;
  says = λ t0 lines text p listener first. inr (unlined, r.goes listener lines text (p listener first));
}

-- before the first line
pub stands_fresh : (listener : Listener) (t : JudgedTalk) → t ≡ opening_judgement listener → ReportSoFar listener [] t []
stands_fresh listener t e = record { talk_is = sym e; text_is = refl; goes_on = refl }
