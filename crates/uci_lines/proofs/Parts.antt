-- Looking for ` value ` and for the sixth blank byte by byte.
use Rattle.std.proofs.Common.{◌≡◌, ◌≢◌, ℕ, zero, suc, ◌+◌, ◌-◌, ◌<◌, ◌≤◌, List, [], ◌∷◌, ◌++◌, Bool, true, false, not, ◌&&◌, cond, eqb, ltb, Option, Some, None, codes, length, position, take, drop, get_or, refl, sym, ap, ◌∙◌, arith, add-one, append_assoc, subst}
use Rattle.std.proofs.Math.Seq.{drop-cons}
use Rattle.std.proofs.lemmas.List.{take_more, append-nil}
use Rattle.std.proofs.lemmas.List.Splits.{slice_split_first}
use Rattle.std.proofs.lemmas.List.Sums.{prefix_len-le-length}
use Rattle.std.proofs.lemmas.Bool.Decides.{nat_tests}
use Rattle.std.specs.List.{list_all, slice_split, before_first, position_or_len}
use Rattle.std.specs.Option.{option_map}
use Rattle.uci_lines.specs.Behind.{after}
use Rattle.uci_lines.specs.Written.{onto_first_of, value_here, option_value_cut, split_onto, fields_before, is_written_move, is_blank_byte, is_moves}

abbrev pub moved : List ℕ → List ℕ × List ℕ → List ℕ × List ℕ
moved bytes halves = (bytes ++ halves.0, halves.1)

abbrev pub all_moved : List ℕ → Option (List ℕ × List ℕ) → Option (List ℕ × List ℕ)
all_moved bytes halves = option_map (moved bytes) halves

pub from : (text : List ℕ) (i : ℕ) → i < length text → drop i text ≡ get_or text i 0 ∷ drop (i + 1) text
from text i h = rw add-one (drop-cons text i 0 h)

onto_moved : (bytes : List ℕ) (b : ℕ) (o : Option (List ℕ × List ℕ)) → all_moved bytes (option_map (onto_first_of b) o) ≡ all_moved (bytes ++ (b ∷ [])) o
onto_moved bytes b None = refl
onto_moved bytes b (Some halves) = rw append_assoc refl

no_value_at : (bytes others more : List ℕ) (b : ℕ) (all : Option (List ℕ × List ℕ)) → others ≡ b ∷ more → after (codes " value ") others ≡ None → all ≡ all_moved bytes (option_value_cut others) → all ≡ all_moved (bytes ++ (b ∷ [])) (option_value_cut more)
no_value_at bytes [] more b all e h k = absurd (cc)
no_value_at bytes (c ∷ cs) more b all e h k =
    let same : c ≡ b = cc in
    let rest : cs ≡ more = cc in
    k ∙ ap (λ o. all_moved bytes (value_here o (option_map (onto_first_of c) (option_value_cut cs)))) h ∙ onto_moved bytes c (option_value_cut cs) ∙ rw (same, rest) refl

pub value_passed : (text : List ℕ) (i : ℕ) (all : Option (List ℕ × List ℕ)) → i < length text → after (codes " value ") (drop i text) ≡ None → all ≡ all_moved (take i text) (option_value_cut (drop i text)) → all ≡ all_moved (take (i + 1) text) (option_value_cut (drop (i + 1) text))
value_passed text i all l e h =
    no_value_at (take i text) (drop i text) (drop (i + 1) text) (get_or text i 0) all (from text i l) e h
    ∙ ap (λ t. all_moved t (option_value_cut (drop (i + 1) text))) (sym (take_more text i 0 l))

value_at : (bytes others more value : List ℕ) (b : ℕ) (all : Option (List ℕ × List ℕ)) → others ≡ b ∷ more → after (codes " value ") others ≡ Some value → all ≡ all_moved bytes (option_value_cut others) → all ≡ Some (bytes ++ [], value)
value_at bytes [] more value b all e h k = absurd (cc)
value_at bytes (c ∷ cs) more value b all e h k = k ∙ ap (λ o. all_moved bytes (value_here o (option_map (onto_first_of c) (option_value_cut cs)))) h

pub value_found : (text value : List ℕ) (i : ℕ) (all : Option (List ℕ × List ℕ)) → i < length text → after (codes " value ") (drop i text) ≡ Some value → all ≡ all_moved (take i text) (option_value_cut (drop i text)) → all ≡ Some (take i text, value)
value_found text value i all l e h =
    value_at (take i text) (drop i text) (drop (i + 1) text) value (get_or text i 0) all (from text i l) e h
    ∙ ap (λ t. Some (t, value)) (append-nil (take i text))

-- the fields, byte by byte
sixth_step : (blanks b : ℕ) (bs : List ℕ) → eqb b 32 ≡ false → fields_before blanks (b ∷ bs) ≡ split_onto b (fields_before blanks bs)
sixth_step zero b bs e = rw e refl
sixth_step (suc blanks) b bs e = rw e refl

blank_step : (blanks b : ℕ) (bs : List ℕ) → eqb b 32 ≡ true → 0 < blanks → fields_before blanks (b ∷ bs) ≡ split_onto b (fields_before (blanks - 1) bs)
blank_step zero b bs e h = absurd (omega arith)
blank_step (suc blanks) b bs e h = let less : suc blanks - 1 ≡ blanks = omega arith in rw (e, less) refl

moved_onto : (bytes : List ℕ) (b : ℕ) (halves : List ℕ × List ℕ) → moved bytes (split_onto b halves) ≡ moved (bytes ++ (b ∷ [])) halves
moved_onto bytes b halves = ap (λ t. (t, halves.1)) (sym (append_assoc bytes (b ∷ []) halves.0))

field_at : (bytes others more : List ℕ) (b blanks later : ℕ) (all : List ℕ × List ℕ) → others ≡ b ∷ more → fields_before blanks (b ∷ more) ≡ split_onto b (fields_before later more) → all ≡ moved bytes (fields_before blanks others) → all ≡ moved (bytes ++ (b ∷ [])) (fields_before later more)
field_at bytes others more b blanks later all e h k =
    k ∙ ap (λ t. moved bytes (fields_before blanks t)) e ∙ ap (moved bytes) h ∙ moved_onto bytes b (fields_before later more)

pub field_passed : (text : List ℕ) (i blanks later : ℕ) (all : List ℕ × List ℕ) → i < length text → fields_before blanks (get_or text i 0 ∷ drop (i + 1) text) ≡ split_onto (get_or text i 0) (fields_before later (drop (i + 1) text)) → all ≡ moved (take i text) (fields_before blanks (drop i text)) → all ≡ moved (take (i + 1) text) (fields_before later (drop (i + 1) text))
field_passed text i blanks later all l e h =
    field_at (take i text) (drop i text) (drop (i + 1) text) (get_or text i 0) blanks later all (from text i l) e h
    ∙ ap (λ t. moved t (fields_before later (drop (i + 1) text))) (sym (take_more text i 0 l))

pub byte_passed : (text : List ℕ) (i blanks : ℕ) (all : List ℕ × List ℕ) → i < length text → eqb (get_or text i 0) 32 ≡ false → all ≡ moved (take i text) (fields_before blanks (drop i text)) → all ≡ moved (take (i + 1) text) (fields_before blanks (drop (i + 1) text))
byte_passed text i blanks all l e h = field_passed text i blanks blanks all l (sixth_step blanks (get_or text i 0) (drop (i + 1) text) e) h

pub blank_passed : (text : List ℕ) (i blanks : ℕ) (all : List ℕ × List ℕ) → i < length text → eqb (get_or text i 0) 32 ≡ true → 0 < blanks → all ≡ moved (take i text) (fields_before blanks (drop i text)) → all ≡ moved (take (i + 1) text) (fields_before (blanks - 1) (drop (i + 1) text))
blank_passed text i blanks all l e p h = field_passed text i blanks (blanks - 1) all l (blank_step blanks (get_or text i 0) (drop (i + 1) text) e p) h

at_last : (b : ℕ) (bs : List ℕ) → eqb b 32 ≡ true → fields_before 0 (b ∷ bs) ≡ ([], b ∷ bs)
at_last b bs e = rw e refl

pub last_blank : (text : List ℕ) (i : ℕ) (all : List ℕ × List ℕ) → i < length text → eqb (get_or text i 0) 32 ≡ true → all ≡ moved (take i text) (fields_before 0 (drop i text)) → all ≡ (take i text, drop i text)
last_blank text i all l e h =
    h ∙ ap (λ t. moved (take i text) (fields_before 0 t)) (from text i l)
    ∙ ap (moved (take i text)) (at_last (get_or text i 0) (drop (i + 1) text) e)
    ∙ ap (λ t. (t, get_or text i 0 ∷ drop (i + 1) text)) (append-nil (take i text))
    ∙ ap (λ t. (take i text, t)) (sym (from text i l))

-- the moves, one by one
pub move_passed : (text : List ℕ) (at : ℕ) → at ≡ position_or_len is_blank_byte text → at < length text → is_written_move (take at text) ≡ true → is_moves (drop (at + 1) text) ≡ is_moves text
move_passed text at e h k =
    let l : position_or_len is_blank_byte text < length text = subst (λ (n : ℕ). n < length text) e h in
    let word : is_written_move (before_first is_blank_byte text) ≡ true = ap (λ n. is_written_move (take n text)) (sym e) ∙ k in
    let split = slice_split_first is_blank_byte text 0 l in
    ap (λ n. is_moves (drop (n + 1) text)) e ∙ sym (ap (list_all is_written_move) split ∙ rw word refl)

pub move_refused : (text : List ℕ) (at : ℕ) → at ≡ position_or_len is_blank_byte text → at < length text → is_written_move (take at text) ≡ false → is_moves text ≡ false
move_refused text at e h k =
    let l : position_or_len is_blank_byte text < length text = subst (λ (n : ℕ). n < length text) e h in
    let word : is_written_move (before_first is_blank_byte text) ≡ false = ap (λ n. is_written_move (take n text)) (sym e) ∙ k in
    ap (list_all is_written_move) (slice_split_first is_blank_byte text 0 l) ∙ rw word refl

pub blank_is : (x : ℕ) → x ≡ 32 → eqb x 32 ≡ true
blank_is x h = grind (arith, nat_tests)

pub blank_is_not : (x : ℕ) → x ≢ 32 → eqb x 32 ≡ false
blank_is_not x h = grind (arith, nat_tests)

place_if : (b : Bool) (i n : ℕ) → Some i ≡ cond b (Some n) None → (b ≡ true) × (i ≡ n)
place_if true i n h = (refl, cc)
place_if false i n h = absurd (cc)

-- where the first blank is
pub place_of : (text : List ℕ) (i : ℕ) → Some i ≡ position is_blank_byte text → (i ≡ position_or_len is_blank_byte text) × (i < length text)
place_of text i h =
    let both = place_if (ltb (position_or_len is_blank_byte text) (length text)) i (position_or_len is_blank_byte text) h in
    let test : ltb (position_or_len is_blank_byte text) (length text) ≡ true = both.0 in
    let same : i ≡ position_or_len is_blank_byte text = both.1 in
    (same, grind (arith, nat_tests))

nowhere_if : (b : Bool) (n : ℕ) → None ≡ cond b (Some n) None → b ≡ false
nowhere_if true n h = absurd (cc)
nowhere_if false n h = refl

unsplit_step : (b : Bool) (x n : ℕ) (xs : List ℕ) → is_blank_byte x ≡ b → cond (not b) (1 + n) 0 ≡ suc (length xs) → (n ≡ length xs → slice_split is_blank_byte xs ≡ xs ∷ []) → slice_split is_blank_byte (x ∷ xs) ≡ (x ∷ xs) ∷ []
unsplit_step true x n xs e h k = absurd (omega (arith, h))
unsplit_step false x n xs e h k = let at : n ≡ length xs = omega (arith, h) in rw e (rw (k at) refl)

unsplit : (xs : List ℕ) → position_or_len is_blank_byte xs ≡ length xs → slice_split is_blank_byte xs ≡ xs ∷ []
unsplit [] h = refl
unsplit (x ∷ xs) h = unsplit_step (is_blank_byte x) x (position_or_len is_blank_byte xs) xs refl h (unsplit xs)

pub last_move : (text : List ℕ) → None ≡ position is_blank_byte text → is_written_move text ≡ is_moves text
last_move text h =
    let test : ltb (position_or_len is_blank_byte text) (length text) ≡ false = nowhere_if (ltb (position_or_len is_blank_byte text) (length text)) (position_or_len is_blank_byte text) h in
    let most : position_or_len is_blank_byte text ≤ length text = prefix_len-le-length (λ b. not (is_blank_byte b)) text in
    let end : position_or_len is_blank_byte text ≡ length text = grind (arith, nat_tests) in
    sym (ap (list_all is_written_move) (unsplit text end) ∙ and_end (is_written_move text))
  where
    and_end : (b : Bool) → (b && true) ≡ b
    and_end true = refl
    and_end false = refl
