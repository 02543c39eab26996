-- The lines of a script, and what they spell.
use Rattle.std.proofs.Common.{◌≡◌, ℕ, ◌≤◌, List, [], ◌∷◌, ◌++◌, map, length, Bool, true, false, cond, not, ◌&&◌, ◌||◌, Some, ap, sym, ◌∙◌, refl, arith, append_assoc}
use Rattle.std.specs.List.{onto_first}
use Rattle.std.proofs.lemmas.Bool.Decides.{nat_tests}
use Rattle.line_io.specs.Event.{Open, Iface, IfaceLong, IfaceEnd, IfaceLost, Engine, EngineLong, EngineEnd, EngineLost, has_feed}
use Rattle.line_io.specs.Lines.{Whole, is_feed, parts_by_feed, piece_of}
use Rattle.script_lines.specs.Marks.{Mark, Happens, ToIface, ToEngine, IsMarkSpelled, mark_spelled, mark_text, mark_line}
use Rattle.script_lines.specs.Scripts.{script_of, MarksAreSpelled, ReadsSpelling, HasLines, HasShortLines, marks_in_script, ScriptReadsBack, ReadsOneWay}
use Rattle.line_io.proofs.Dropped.{fits_whole}
use Rattle.script_lines.proofs.Spelled.{read_spelled, read_of, spelled_read}

-- a line, and what follows its line feed
pub parts_line : (line rest : List ℕ) → has_feed line ≡ false → parts_by_feed (line ++ 10 ∷ rest) ≡ line ∷ parts_by_feed rest
parts_line [] rest none = refl
parts_line (x ∷ xs) rest none =
    (elim (is_feed x) as (λ v. (v || has_feed xs) ≡ false → cond v ([] ∷ parts_by_feed (xs ++ 10 ∷ rest)) (onto_first x (parts_by_feed (xs ++ 10 ∷ rest))) ≡ (x ∷ xs) ∷ parts_by_feed rest) [
      | true ↦ λ e. cc
      | false ↦ λ e. ap (onto_first x) (parts_line xs rest e)
    ]) none

-- what the test of a line says
tested : (short any : Bool) → (short && not any) ≡ true → (short ≡ true) × (any ≡ false)
tested true true e = cc
tested true false e = (refl, refl)
tested false any e = cc

one_line : (mark : Mark) → IsMarkSpelled mark → has_feed (mark_text mark) ≡ false
one_line (Happens Open) s = absurd s
one_line (Happens (Iface line)) s = (tested _ (has_feed line) s).1
one_line (Happens IfaceLong) s = refl
one_line (Happens IfaceEnd) s = refl
one_line (Happens IfaceLost) s = refl
one_line (Happens (Engine line)) s = (tested _ (has_feed line) s).1
one_line (Happens EngineLong) s = refl
one_line (Happens EngineEnd) s = refl
one_line (Happens EngineLost) s = refl
one_line (ToIface line) s = (tested _ (has_feed line) s).1
one_line (ToEngine line) s = (tested _ (has_feed line) s).1

short_line : (mark : Mark) → IsMarkSpelled mark → length (mark_text mark) ≤ 131072
short_line (Happens Open) s = absurd s
short_line (Happens (Iface line)) s = let t = (tested _ (has_feed line) s).0 in let l : length line ≤ 65536 = grind (arith, nat_tests) in omega arith
short_line (Happens IfaceLong) s = omega arith
short_line (Happens IfaceEnd) s = omega arith
short_line (Happens IfaceLost) s = omega arith
short_line (Happens (Engine line)) s = let t = (tested _ (has_feed line) s).0 in let l : length line ≤ 65536 = grind (arith, nat_tests) in omega arith
short_line (Happens EngineLong) s = omega arith
short_line (Happens EngineEnd) s = omega arith
short_line (Happens EngineLost) s = omega arith
short_line (ToIface line) s = let t = (tested _ (has_feed line) s).0 in let l : length line ≤ 131070 = grind (arith, nat_tests) in omega arith
short_line (ToEngine line) s = let t = (tested _ (has_feed line) s).0 in let l : length line ≤ 131070 = grind (arith, nat_tests) in omega arith

-- a spelled mark ends with a line feed
ended_line : (mark : Mark) → IsMarkSpelled mark → mark_line mark ≡ mark_text mark ++ 10 ∷ []
ended_line (Happens Open) s = absurd s
ended_line (Happens (Iface line)) s = refl
ended_line (Happens IfaceLong) s = refl
ended_line (Happens IfaceEnd) s = refl
ended_line (Happens IfaceLost) s = refl
ended_line (Happens (Engine line)) s = refl
ended_line (Happens EngineLong) s = refl
ended_line (Happens EngineEnd) s = refl
ended_line (Happens EngineLost) s = refl
ended_line (ToIface line) s = refl
ended_line (ToEngine line) s = refl

pub has_lines : HasLines
has_lines [] s = refl
has_lines (mark ∷ marks) s =
    ap (λ l. parts_by_feed (l ++ script_of marks)) (ended_line mark s.0)
    ∙ ap parts_by_feed (append_assoc (mark_text mark) (10 ∷ []) (script_of marks))
    ∙ parts_line (mark_text mark) (script_of marks) (one_line mark s.0)
    ∙ ap (λ ps. mark_text mark ∷ ps) (has_lines marks s.1)

whole_texts : (marks : List Mark) → MarksAreSpelled marks → map (piece_of 131072) (map mark_text marks) ≡ map (λ mark. Whole (mark_text mark)) marks
whole_texts [] s = refl
whole_texts (mark ∷ marks) s =
    ap (λ p. p ∷ map (piece_of 131072) (map mark_text marks)) (fits_whole 131072 (mark_text mark) (short_line mark s.0))
    ∙ ap (λ ps. Whole (mark_text mark) ∷ ps) (whole_texts marks s.1)

pub has_short_lines : HasShortLines
has_short_lines marks s = ap (map (piece_of 131072)) (has_lines marks s) ∙ whole_texts marks s

read_texts : (marks : List Mark) → MarksAreSpelled marks → map mark_spelled (map mark_text marks) ≡ map Some marks
read_texts [] s = refl
read_texts (mark ∷ marks) s =
    ap (λ m. m ∷ map mark_spelled (map mark_text marks)) (spelled_read mark s.0)
    ∙ ap (λ ms. Some mark ∷ ms) (read_texts marks s.1)

pub reads_back : ScriptReadsBack
reads_back marks s = ap (map mark_spelled) (has_lines marks s) ∙ read_texts marks s

same_somes : (a b : List Mark) → map Some a ≡ map Some b → a ≡ b
same_somes [] [] e = refl
same_somes [] (y ∷ ys) e = cc
same_somes (x ∷ xs) [] e = cc
same_somes (x ∷ xs) (y ∷ ys) e =
    let heads : x ≡ y = cc in
    let tails : map Some xs ≡ map Some ys = cc in
    ap (λ h. h ∷ xs) heads ∙ ap (λ t. y ∷ t) (same_somes xs ys tails)

pub one_way : ReadsOneWay
one_way a b sa sb e = same_somes a b (sym (reads_back a sa) ∙ ap marks_in_script e ∙ reads_back b sb)

pub reads_spelling : ReadsSpelling
reads_spelling line mark = (read_spelled line mark, read_of line mark)
