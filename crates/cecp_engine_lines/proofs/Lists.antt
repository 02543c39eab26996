-- Lists of moves, hints and whole lines are read as they are written.
use Rattle.std.proofs.Common.{◌≡◌, ℕ, ◌+◌, ◌^◌, ◌<◌, List, [], ◌∷◌, ◌++◌, Bool, true, false, not, ◌&&◌, eqb, length, drop, Option, Some, None, refl, sym, ap, ◌∙◌, arith, append_assoc}
use Rattle.std.specs.Prelude.{codes, position, is_some, IfSome}
use Rattle.std.specs.Option.{option_map, option_and_then}
use Rattle.std.specs.List.{list_all, slice_split, join_with_byte, AllByRecursion}
use Rattle.std.specs.Fmt.{decimal}
use Rattle.std.proofs.lemmas.Bool.Decides.{nat_tests}
use Rattle.std.proofs.lemmas.List.{append-nil}
use Rattle.std.proofs.Math.Seq.{take-append_seam, drop-append_seam}
use Rattle.std.proofs.lemmas.Bool.{and_parts, not-true}
use Rattle.chess_board.specs.declared.board.Move.{Move as AnyMove}
use Rattle.chess_board.specs.Text.{text_of_move}
use Rattle.cecp_lines.specs.declared.reply.Spelling.{Spelling}
use Rattle.cecp_lines.specs.declared.reply.Spelling.TheVariants.{Coordinates, San}
use Rattle.cecp_lines.specs.Replies.{hint_in_parentheses, current_text, IsWritable, IsMoveText, AreMoves}
use Rattle.cecp_engine_lines.specs.ReplyReading.{rest_after_prefix, number_in_64_bits, written_move, is_space, is_paren, is_move_text, are_moves, is_hint, spelling_of_moves, last_at, last_in, hint_at, hint_of, hint_in_reply}
use Rattle.cecp_engine_lines.proofs.Plain.{decimal_written, move_written}
use Rattle.cecp_engine_lines.proofs.Rereads.{cut_position, no_position, after_cut, decimal_solid}
use Rattle.cecp_engine_lines.proofs.Sans.{move_text_solid, no_both}

split_solid : (xs : List ℕ) → list_all (λ b. not (eqb b 32)) xs ≡ true → slice_split is_space xs ≡ xs ∷ []
split_solid [] h = refl
split_solid (x ∷ xs) h = let both = and_parts (not (eqb x 32)) (list_all (λ b. not (eqb b 32)) xs) h in rw (not-true (eqb x 32) both.0, split_solid xs both.1) refl

split_more : (xs ys : List ℕ) → list_all (λ b. not (eqb b 32)) xs ≡ true → slice_split is_space (xs ++ (32 ∷ ys)) ≡ xs ∷ slice_split is_space ys
split_more [] ys h = refl
split_more (x ∷ xs) ys h = let both = and_parts (not (eqb x 32)) (list_all (λ b. not (eqb b 32)) xs) h in rw (not-true (eqb x 32) both.0, split_more xs ys both.1) refl

-- texts that are moves in a spelling
abbrev pub AreTexts : Spelling → List (List ℕ) → Type 0
AreTexts s texts = AllByRecursion (IsMoveText s) texts

split_joined : (s : Spelling) (t : List ℕ) (ts : List (List ℕ)) → AreTexts s (t ∷ ts) → slice_split is_space (join_with_byte 32 (t ∷ ts)) ≡ t ∷ ts
split_joined s t [] h = split_solid t (move_text_solid s t h.0).blank
split_joined s t (u ∷ ts) h = split_more t (join_with_byte 32 (u ∷ ts)) (move_text_solid s t h.0).blank ∙ ap (λ l. t ∷ l) (split_joined s u ts h.1)

text_read : (s : Spelling) (t : List ℕ) → IsMoveText s t → is_move_text s t ≡ true
text_read Coordinates t h = ap (λ x. is_some (written_move x)) h.is ∙ ap is_some (move_written h.move h.writable)
text_read San t h = h

all_read : (s : Spelling) (ts : List (List ℕ)) → AreTexts s ts → list_all (is_move_text s) ts ≡ true
all_read s [] h = refl
all_read s (t ∷ ts) h = ap (λ b. b && list_all (is_move_text s) ts) (text_read s t h.0) ∙ all_read s ts h.1

moves_by : (s : Spelling) (pv : List ℕ) (ts : List (List ℕ)) → 0 < length ts → AreTexts s ts → pv ≡ join_with_byte 32 ts → are_moves s pv ≡ true
moves_by s pv [] some h e = absurd (omega arith)
moves_by s pv (t ∷ ts) some h e = ap (are_moves s) e ∙ ap (list_all (is_move_text s)) (split_joined s t ts h) ∙ all_read s (t ∷ ts) h

moves_read : (s : Spelling) (pv : List ℕ) → AreMoves s pv → are_moves s pv ≡ true
moves_read s pv a = moves_by s pv a.texts a.some a.moves a.text

-- moves in standard algebraic notation are no squares
no_squares_by : (pv : List ℕ) (ts : List (List ℕ)) → 0 < length ts → AreTexts San ts → pv ≡ join_with_byte 32 ts → are_moves Coordinates pv ≡ false
no_squares_by pv [] some h e = absurd (omega arith)
no_squares_by pv (t ∷ ts) some h e =
    ap (are_moves Coordinates) e ∙ ap (list_all (is_move_text Coordinates)) (split_joined San t ts h) ∙ ap (λ b. b && list_all (is_move_text Coordinates) ts) (no_both t h.0)

hint_spelled : (s : Spelling) (hint : Option (List ℕ)) → IfSome hint (IsMoveText s) → is_hint s hint ≡ true
hint_spelled s None h = refl
hint_spelled s (Some t) h = text_read s t h

and_false_is : (b : Bool) → (b && false) ≡ false
and_false_is true = refl
and_false_is false = refl

pub spelling_read : (s : Spelling) (hint : Option (List ℕ)) (pv : List ℕ) → IfSome hint (IsMoveText s) → AreMoves s pv → spelling_of_moves hint pv ≡ Some s
spelling_read Coordinates hint pv w a = rw (hint_spelled Coordinates hint w, moves_read Coordinates pv a) refl
spelling_read San hint pv w a =
    rw (no_squares_by pv a.texts a.some a.moves a.text, and_false_is (is_hint Coordinates hint), hint_spelled San hint w, moves_read San pv a) refl

-- HINTS

no_paren_first : (t more : List ℕ) → 0 < length t → list_all (λ b. not (eqb b 40)) t ≡ true → rest_after_prefix (codes "(") (t ++ more) ≡ None
no_paren_first [] more some h = absurd (omega arith)
no_paren_first (b ∷ t) more some h =
    let other = (and_parts (not (eqb b 40)) (list_all (λ c. not (eqb c 40)) t) h).0 in
    let e : eqb 40 b ≡ false = grind (arith, nat_tests) in
    rw e refl

no_paren : (s : Spelling) (t : List ℕ) (ts : List (List ℕ)) → AreTexts s (t ∷ ts) → rest_after_prefix (codes "(") (join_with_byte 32 (t ∷ ts)) ≡ None
no_paren s t [] h = let k = move_text_solid s t h.0 in ap (rest_after_prefix (codes "(")) (sym (append-nil t)) ∙ no_paren_first t [] k.some k.opening
no_paren s t (u ∷ ts) h = let k = move_text_solid s t h.0 in no_paren_first t (32 ∷ join_with_byte 32 (u ∷ ts)) k.some k.opening

no_paren_by : (s : Spelling) (pv : List ℕ) (ts : List (List ℕ)) → 0 < length ts → AreTexts s ts → pv ≡ join_with_byte 32 ts → rest_after_prefix (codes "(") pv ≡ None
no_paren_by s pv [] some h e = absurd (omega arith)
no_paren_by s pv (t ∷ ts) some h e = ap (rest_after_prefix (codes "(")) e ∙ no_paren s t ts h

hint_inner : (t pv : List ℕ) → list_all (λ b. not (eqb b 41)) t ≡ true → hint_at (position is_paren (t ++ (41 ∷ (32 ∷ pv)))) (t ++ (41 ∷ (32 ∷ pv))) ≡ Some (Some t, pv)
hint_inner t pv h =
    ap (λ o. hint_at o (t ++ (41 ∷ (32 ∷ pv)))) (cut_position 41 t (32 ∷ pv) h)
    ∙ ap (λ x. option_map (λ rest. (Some x, rest)) (rest_after_prefix (codes ") ") (drop (length t) (t ++ (41 ∷ (32 ∷ pv)))))) (take-append_seam t (41 ∷ (32 ∷ pv)))
    ∙ ap (λ x. option_map (λ rest. (Some t, rest)) (rest_after_prefix (codes ") ") x)) (drop-append_seam t (41 ∷ (32 ∷ pv)))

inner_text : (t pv : List ℕ) → (t ++ (41 ∷ 32 ∷ [])) ++ pv ≡ t ++ (41 ∷ (32 ∷ pv))
inner_text t pv = simp append_assoc

pub hint_read : (s : Spelling) (hint : Option (List ℕ)) (pv : List ℕ) → IfSome hint (IsMoveText s) → AreMoves s pv → hint_in_reply (hint_in_parentheses hint ++ pv) ≡ Some (hint, pv)
hint_read s None pv w a = ap (λ o. hint_of o pv) (no_paren_by s pv a.texts a.some a.moves a.text)
hint_read s (Some t) pv w a = ap (λ x. hint_at (position is_paren x) x) (inner_text t pv) ∙ hint_inner t pv (move_text_solid s t w).closing

-- THE END OF STAT01

pub last_read : (n : ℕ) (current : Option AnyMove) → n < 2 ^ 64 → IfSome current IsWritable → last_in (decimal n ++ current_text current) ≡ Some (n, current)
last_read n None h w =
    ap last_in (append-nil (decimal n))
    ∙ ap (λ o. last_at o (decimal n)) (no_position 32 (decimal n) (decimal_solid n h))
    ∙ ap (option_map (λ k. (k, None))) (decimal_written n h)
last_read n (Some m) h w =
    ap (λ o. last_at o (decimal n ++ (32 ∷ text_of_move m))) (cut_position 32 (decimal n) (text_of_move m) (decimal_solid n h))
    ∙ ap (λ t. option_and_then (λ k. option_map (λ x. (k, Some x)) (written_move (drop (length (decimal n) + 1) (decimal n ++ (32 ∷ text_of_move m))))) (number_in_64_bits t)) (take-append_seam (decimal n) (32 ∷ text_of_move m))
    ∙ ap (λ o. option_and_then (λ k. option_map (λ x. (k, Some x)) (written_move (drop (length (decimal n) + 1) (decimal n ++ (32 ∷ text_of_move m))))) o) (decimal_written n h)
    ∙ ap (λ t. option_map (λ x. (n, Some x)) (written_move t)) (after_cut 32 (decimal n) (text_of_move m))
    ∙ ap (option_map (λ x. (n, Some x))) (move_written m w)
