-- The lines of bytes, taken one byte after the other.
use Rattle.std.proofs.Common.{◌≡◌, ℕ, ◌+◌, List, [], ◌∷◌, ◌++◌, length, map, true, false, cond, ◌||◌, Option, Some, None, refl, sym, ap, ◌∙◌, arith, append_assoc, append-nil, length-append}
use Rattle.std.specs.Prelude.{nat_le}
use Rattle.std.specs.List.{onto_first}
use Rattle.std.proofs.lemmas.Bool.Decides.{nat_tests}
use Rattle.std.proofs.lemmas.Bool.{or_parts}
use Rattle.line_io.specs.Event.{has_feed}
use Rattle.line_io.specs.Lines.{Whole, TooLong, is_feed, parts_by_feed, piece_of, items}
use Rattle.tap_runner.specs.Lines.{tap_line_limit, with_byte, piece_in, lines_ended_by, line_after, last_pieces}

pub line_append : (o : Option (List ℕ)) (xs ys : List ℕ) → line_after o (xs ++ ys) ≡ line_after (line_after o xs) ys
line_append o [] ys = refl
line_append o (x ∷ xs) ys = elim (is_feed x) as (λ b. cond b (line_after (Some []) (xs ++ ys)) (line_after (with_byte o x) (xs ++ ys)) ≡ line_after (cond b (line_after (Some []) xs) (line_after (with_byte o x) xs)) ys)
    [ true ↦ line_append (Some []) xs ys | false ↦ line_append (with_byte o x) xs ys ]

pub pieces_append : (o : Option (List ℕ)) (xs ys : List ℕ) → lines_ended_by o (xs ++ ys) ≡ lines_ended_by o xs ++ lines_ended_by (line_after o xs) ys
pieces_append o [] ys = refl
pieces_append o (x ∷ xs) ys = elim (is_feed x) as (λ b. cond b (piece_in o ∷ lines_ended_by (Some []) (xs ++ ys)) (lines_ended_by (with_byte o x) (xs ++ ys))
    ≡ cond b (piece_in o ∷ lines_ended_by (Some []) xs) (lines_ended_by (with_byte o x) xs) ++ lines_ended_by (cond b (line_after (Some []) xs) (line_after (with_byte o x) xs)) ys)
    [ true ↦ ap (λ l. piece_in o ∷ l) (pieces_append (Some []) xs ys) | false ↦ pieces_append (with_byte o x) xs ys ]

-- the part that is kept of an open line
abbrev kept : List ℕ → Option (List ℕ)
kept line = cond (nat_le (length line) 65534) (Some line) None

kept_more : (n : ℕ) (m : ℕ) (line : List ℕ) (b : ℕ) → n ≡ length line → m ≡ n + 1 → with_byte (cond (nat_le n 65534) (Some line) None) b ≡ cond (nat_le m 65534) (Some (line ++ b ∷ [])) None
kept_more n m line b e f = grind (arith, nat_tests, e, f)

kept_byte : (line : List ℕ) (b : ℕ) → with_byte (kept line) b ≡ kept (line ++ b ∷ [])
kept_byte line b = kept_more (length line) (length (line ++ b ∷ [])) line b refl (length-append line (b ∷ []))

kept_piece : (line : List ℕ) → piece_in (kept line) ≡ piece_of 65534 line
kept_piece line = elim (nat_le (length line) 65534) as (λ c. piece_in (cond c (Some line) None) ≡ cond c (Whole line) TooLong) [ true ↦ refl | false ↦ refl ]

abbrev last_part : List ℕ → List (List ℕ)
last_part [] = []
last_part (x ∷ xs) = (x ∷ xs) ∷ []

kept_last : (line : List ℕ) → last_pieces (kept line) ≡ map (piece_of 65534) (last_part line)
kept_last [] = refl
kept_last (x ∷ xs) = elim (nat_le (length (x ∷ xs)) 65534) as (λ c. last_pieces (cond c (Some (x ∷ xs)) None) ≡ cond c (Whole (x ∷ xs)) TooLong ∷ []) [ true ↦ refl | false ↦ refl ]

parts_feed : (line : List ℕ) (bs : List ℕ) → has_feed line ≡ false → parts_by_feed (line ++ 10 ∷ bs) ≡ line ∷ parts_by_feed bs
parts_feed [] bs h = refl
parts_feed (x ∷ xs) bs h =
    ap (λ c. cond c ([] ∷ parts_by_feed (xs ++ 10 ∷ bs)) (onto_first x (parts_by_feed (xs ++ 10 ∷ bs)))) (or_parts (is_feed x) (has_feed xs) h).0
    ∙ ap (onto_first x) (parts_feed xs bs (or_parts (is_feed x) (has_feed xs) h).1)

onto_last : (x : ℕ) (xs : List ℕ) → onto_first x (last_part xs) ≡ (x ∷ xs) ∷ []
onto_last x [] = refl
onto_last x (y ∷ ys) = refl

parts_last : (line : List ℕ) → has_feed line ≡ false → parts_by_feed line ≡ last_part line
parts_last [] h = refl
parts_last (x ∷ xs) h =
    ap (λ c. cond c ([] ∷ parts_by_feed xs) (onto_first x (parts_by_feed xs))) (or_parts (is_feed x) (has_feed xs) h).0
    ∙ ap (onto_first x) (parts_last xs (or_parts (is_feed x) (has_feed xs) h).1) ∙ onto_last x xs

feed_append : (xs : List ℕ) (x : ℕ) → has_feed xs ≡ false → is_feed x ≡ false → has_feed (xs ++ x ∷ []) ≡ false
feed_append [] x h e = ap (λ c. c || false) e
feed_append (y ∷ ys) x h e = ap (λ c. c || has_feed (ys ++ x ∷ [])) (or_parts (is_feed y) (has_feed ys) h).0 ∙ feed_append ys x (or_parts (is_feed y) (has_feed ys) h).1 e

feed_is : (x : ℕ) → is_feed x ≡ true → x ≡ 10
feed_is x e = grind (arith, nat_tests)

abbrev All : List ℕ → List ℕ → Type 0
All line bytes = items 65534 (line ++ bytes) ≡ lines_ended_by (kept line) bytes ++ last_pieces (line_after (kept line) bytes)

items_kept : (line bytes : List ℕ) → has_feed line ≡ false → All line bytes
items_kept line [] h = ap (items 65534) (append-nil line) ∙ ap (map (piece_of 65534)) (parts_last line h) ∙ sym (kept_last line)
items_kept line (b ∷ bs) h =
    (elim (is_feed b) as (λ c. is_feed b ≡ c → items 65534 (line ++ b ∷ bs) ≡ cond c (piece_in (kept line) ∷ lines_ended_by (Some []) bs) (lines_ended_by (with_byte (kept line) b) bs) ++ last_pieces (cond c (line_after (Some []) bs) (line_after (with_byte (kept line) b) bs))) [
      | true ↦ λ e.
          ap (λ x. items 65534 (line ++ x ∷ bs)) (feed_is b e) ∙ ap (map (piece_of 65534)) (parts_feed line bs h)
          ∙ ap (λ p. p ∷ items 65534 bs) (sym (kept_piece line)) ∙ ap (λ l. piece_in (kept line) ∷ l) (items_kept [] bs refl)
      | false ↦ λ e.
          ap (items 65534) (sym (append_assoc line (b ∷ []) bs)) ∙ items_kept (line ++ b ∷ []) bs (feed_append line b h e)
          ∙ ap (λ k. lines_ended_by k bs ++ last_pieces (line_after k bs)) (sym (kept_byte line b))
    ]) refl

-- the lines that were ended and the last one are the lines of all bytes
pub items_all : (bytes : List ℕ) → items tap_line_limit bytes ≡ lines_ended_by (Some []) bytes ++ last_pieces (line_after (Some []) bytes)
items_all bytes = items_kept [] bytes refl
