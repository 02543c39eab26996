-- The report on an engine's conduct goes on line by line.
use Rattle.std.proofs.Common.{◌≡◌, ◌⊎◌, inl, inr, ℕ, suc, ◌+◌, List, [], ◌∷◌, ◌++◌, length, nat_lt, Bool, true, false, cond, Option, Some, None, IfSome, refl, sym, ap, subst, ◌∙◌, arith}
use Rattle.line_io.specs.Lines.{Piece}
use Rattle.line_io.specs.Out.{Text, with}
use Rattle.replay_command_base.specs.declared.ending.Ending.{Ending}
use Rattle.replay_command_base.specs.declared.ending.Ending.TheVariants as endings
use Rattle.replay_command_base.specs.Putting.{IsOfLine, IsVerdict, FilterCloses, FilterThen, Puts}
use Rattle.judge_report.specs.Reports.{kind_of_log_line}
use Rattle.judge_report.specs.Conducts.{ConductCourse, ConductSoFar, Tally, blames, conduct_end, conduct_over, conduct_read_on, conduct_report, conduct_verdict, of_conduct_line}

read_more : (c : ConductCourse) (m n : ℕ) (p : Piece) → m ≡ n → conduct_read_on c.ending c m p ≡ conduct_read_on c.ending c n p
read_more c m n p e = ap (λ k. conduct_read_on c.ending c k p) e

over_last : (c : ConductCourse) (n : ℕ) (ps : List Piece) (p : Piece) → conduct_over c n (ps ++ p ∷ []) ≡ conduct_read_on (conduct_over c n ps).ending (conduct_over c n ps) (n + length ps) p
over_last c n [] p = read_more c n (n + 0) p (omega arith)
over_last c n (q ∷ qs) p =
    let d : ConductCourse = conduct_read_on c.ending c n q in
    let i : conduct_over d (n + 1) (qs ++ p ∷ []) ≡ conduct_read_on (conduct_over d (n + 1) qs).ending (conduct_over d (n + 1) qs) ((n + 1) + length qs) p = over_last d (n + 1) qs p in
    i ∙ read_more (conduct_over d (n + 1) qs) ((n + 1) + length qs) (n + suc (length qs)) p (omega arith)

-- what comes of a line after these
abbrev grown : Tally → List ℕ → ℕ → Piece → ConductCourse
grown t text n p = record { tally = (of_conduct_line t n (kind_of_log_line n p)).tally; text = text ++ (of_conduct_line t n (kind_of_log_line n p)).more; ending = (of_conduct_line t n (kind_of_log_line n p)).ending }

next : (first : Tally) (lines : List Piece) (t : Tally) (text : List ℕ) (number : ℕ) (piece : Piece) → ConductSoFar first lines t text → number ≡ length lines + 1 → conduct_report first (lines ++ piece ∷ []) ≡ grown t text number piece
next first lines t text number piece s e =
    let c : ConductCourse = conduct_report first lines in
    over_last (record { tally = first; text = []; ending = None }) 1 lines piece
    ∙ read_more c (1 + length lines) number piece (omega arith)
    ∙ ap (λ o. conduct_read_on o c number piece) s.goes_on
    ∙ ap (λ u. grown u c.text number piece) s.tally_is
    ∙ ap (λ x. grown t x number piece) s.text_is

comes : (o : Option Ending) (first : Tally) (lines : List Piece) (t : Tally) (text : List ℕ) (c : ConductCourse) → conduct_report first lines ≡ c → o ≡ c.ending → t ≡ c.tally → text ≡ c.text → FilterThen blames first lines o t text
comes None first lines t text c e o h x = record {
  tally_is = ap (λ (d : ConductCourse). d.tally) e ∙ sym h;
  text_is = ap (λ (d : ConductCourse). d.text) e ∙ sym x;
  goes_on = ap (λ (d : ConductCourse). d.ending) e ∙ sym o;
}
comes (Some ending) first lines t text c e o h x = inl (record {
  ends = ap (λ (d : ConductCourse). d.ending) e ∙ sym o;
  text_is = ap (λ (d : ConductCourse). d.text) e ∙ sym x;
})

-- A line is read by what comes of it.
pub puts : (number : ℕ) (piece : Piece) (result : Option Ending) (t t' : Tally) (held held' : Text)
    → result ≡ (of_conduct_line t number (kind_of_log_line number piece)).ending → t' ≡ (of_conduct_line t number (kind_of_log_line number piece)).tally
    → held' ≡ with held (of_conduct_line t number (kind_of_log_line number piece)).more → Puts blames number piece result t held t' held'
puts number piece result t t' held held' r h p = record {
  more = (of_conduct_line t number (kind_of_log_line number piece)).more;
  put = p;
  goes = λ first lines text s e. comes result first (lines ++ piece ∷ []) t' (text ++ (of_conduct_line t number (kind_of_log_line number piece)).more)
      (grown t text number piece) (next first lines t text number piece s e) r h refl;
}

-- The verdict is an end of the input, or if all was read the line that was blamed last.
verdict_by : (b : Bool) (n : ℕ) → IsVerdict endings.Done (cond b (endings.Unlawful n) endings.Done)
verdict_by true n = inr (refl, tt)
verdict_by false n = inl refl

pub is_verdict : (t : Tally) (ending verdict : Ending) → verdict ≡ conduct_verdict t ending → IsVerdict ending verdict
is_verdict t endings.Done verdict e = subst (IsVerdict endings.Done) (sym e) (verdict_by (nat_lt 0 t.faults) t.last)
is_verdict t ending verdict e = inl e

pub closes : (ending verdict : Ending) (t : Tally) (held held' : Text) → verdict ≡ conduct_verdict t ending → held' ≡ with held (conduct_end t ending) → FilterCloses blames verdict t held held'
closes ending verdict t held held' v p = record {
  more = conduct_end t ending;
  put = p;
  says = λ first lines text s. inr (record {
    ending = ending;
    goes_on = s.goes_on;
    verdict_is = ap (λ (u : Tally). conduct_verdict u ending) s.tally_is ∙ sym v;
    text_is = ap (λ (u : Tally). (conduct_report first lines).text ++ conduct_end u ending) s.tally_is ∙ ap (λ x. x ++ conduct_end t ending) s.text_is;
  });
}
