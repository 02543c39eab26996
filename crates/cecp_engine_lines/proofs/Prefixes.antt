-- The rest behind a prefix, and the parts of a text at its blanks.
use Rattle.std.proofs.Common.{◌≡◌, ℕ, suc, ltb, ◌+◌, ◌<◌, List, [], ◌∷◌, ◌++◌, Bool, true, false, not, ◌&&◌, eqb, cond, length, take, drop, Option, Some, None, refl, sym, ap, ◌∙◌, arith}
use Rattle.std.specs.Prelude.{MatchOption, ◌≢◌, position}
use Rattle.std.specs.Option.{option_map}
use Rattle.std.specs.List.{list_all, slice_split, position_or_len, prefix_len}
use Rattle.std.proofs.lemmas.Bool.Decides.{nat_tests, Decides-eqb}
use Rattle.std.proofs.lemmas.Option.{cond_some}
use Rattle.std.proofs.lemmas.List.Sums.{prefix_len-le-length}
use denote.Ref.{Bor}
use Rattle.std.proofs.lemmas.List.Splits.{slice_split_first}
use Rattle.cecp_lines.specs.declared.reply.Spelling.{Spelling}
use Rattle.cecp_engine_lines.specs.ReplyReading.{rest_after_prefix, is_space, is_move_text, are_moves}

strip_step : (f b : ℕ) (fs bs rest : List ℕ) (t : Bool) → eqb f b ≡ t → (rest_after_prefix fs bs ≡ Some rest → bs ≡ fs ++ rest) → cond t (rest_after_prefix fs bs) None ≡ Some rest → b ∷ bs ≡ (f ∷ fs) ++ rest
strip_step f b fs bs rest true e k h = let same : f ≡ b = (Decides-eqb f b).0 e in let more = k h in cc
strip_step f b fs bs rest false e k h = absurd (cc)

pub stripped_is : (prefix line rest : List ℕ) → rest_after_prefix prefix line ≡ Some rest → line ≡ prefix ++ rest
stripped_is [] line rest h = cc
stripped_is (f ∷ fs) [] rest h = absurd (cc)
stripped_is (f ∷ fs) (b ∷ bs) rest h = strip_step f b fs bs rest (eqb f b) refl (stripped_is fs bs rest) h

pub stripped_prefix : (prefix rest : List ℕ) → rest_after_prefix prefix (prefix ++ rest) ≡ Some rest
stripped_prefix [] rest = refl
stripped_prefix (f ∷ fs) rest = rw ((Decides-eqb f f).1 refl) (stripped_prefix fs rest)

no_prefix : (prefix line : List ℕ) (o : Option (List ℕ)) → rest_after_prefix prefix line ≡ o → ((rest : List ℕ) → line ≢ prefix ++ rest) → None ≡ o
no_prefix prefix line None e h = refl
no_prefix prefix line (Some rest) e h = absurd (h rest (stripped_is prefix line rest e))

-- the result of `strip_prefix`
pub prefix_found : (prefix line : List ℕ) (r : Option (Bor (List ℕ))) → MatchOption r ((rest : List ℕ) → line ≢ prefix ++ rest) (λ x. line ≡ prefix ++ x.now) → option_map (λ t. t.now) r ≡ rest_after_prefix prefix line
prefix_found prefix line None h = no_prefix prefix line (rest_after_prefix prefix line) refl h
prefix_found prefix line (Some x) h = sym (ap (rest_after_prefix prefix) h ∙ stripped_prefix prefix x.now)

-- A LIST OF MOVES

split_step : (b : Bool) (x : ℕ) (xs : List ℕ) → is_space x ≡ b → cond (not b) (1 + prefix_len (λ c. not (is_space c)) xs) 0 ≡ suc (length xs) → (prefix_len (λ c. not (is_space c)) xs ≡ length xs → slice_split is_space xs ≡ xs ∷ []) → slice_split is_space (x ∷ xs) ≡ (x ∷ xs) ∷ []
split_step true x xs e h k = absurd (omega arith)
split_step false x xs e h k = rw (e, k (omega arith)) refl

whole_part : (xs : List ℕ) → prefix_len (λ c. not (is_space c)) xs ≡ length xs → slice_split is_space xs ≡ xs ∷ []
whole_part [] h = refl
whole_part (x ∷ xs) h = split_step (is_space x) x xs refl h (whole_part xs)

pub found_at : (xs : List ℕ) (at : ℕ) → position is_space xs ≡ Some at → (position_or_len is_space xs ≡ at) × (position_or_len is_space xs < length xs)
found_at xs at h =
    let k = cond_some (ltb (position_or_len is_space xs) (length xs)) (position_or_len is_space xs) at h in
    (k.1, grind (arith, nat_tests, k.0))

nowhere_by : (xs : List ℕ) (b : Bool) → ltb (position_or_len is_space xs) (length xs) ≡ b → cond b (Some (position_or_len is_space xs)) None ≡ None → position_or_len is_space xs ≡ length xs
nowhere_by xs true e h = absurd (cc)
nowhere_by xs false e h = let le = prefix_len-le-length (λ c. not (is_space c)) xs in grind (arith, nat_tests)

nowhere : (xs : List ℕ) → position is_space xs ≡ None → position_or_len is_space xs ≡ length xs
nowhere xs h = nowhere_by xs (ltb (position_or_len is_space xs) (length xs)) refl h

and_true_is : (b : Bool) → (b && true) ≡ b
and_true_is true = refl
and_true_is false = refl

pub moves_last : (s : Spelling) (text : List ℕ) → position is_space text ≡ None → are_moves s text ≡ is_move_text s text
moves_last s text h = ap (list_all (is_move_text s)) (whole_part text (nowhere text h)) ∙ and_true_is (is_move_text s text)

pub moves_more : (s : Spelling) (text : List ℕ) (at : ℕ) → position is_space text ≡ Some at → are_moves s text ≡ (is_move_text s (take at text) && are_moves s (drop (at + 1) text))
moves_more s text at h =
    let k = found_at text at h in
    ap (list_all (is_move_text s)) (slice_split_first is_space text 0 k.1)
    ∙ ap (λ n. is_move_text s (take n text) && are_moves s (drop (n + 1) text)) k.0

pub moves_skip : (s : Spelling) (text : List ℕ) (at : ℕ) (b : Bool) → position is_space text ≡ Some at → is_move_text s (take at text) ≡ b → b ≡ true → are_moves s (drop (at + 1) text) ≡ are_moves s text
moves_skip s text at b h e f = sym (moves_more s text at h ∙ ap (λ c. c && are_moves s (drop (at + 1) text)) (e ∙ f))

pub moves_stop : (s : Spelling) (text : List ℕ) (at : ℕ) (b : Bool) → position is_space text ≡ Some at → is_move_text s (take at text) ≡ b → b ≡ false → are_moves s text ≡ false
moves_stop s text at b h e f = moves_more s text at h ∙ ap (λ c. c && are_moves s (drop (at + 1) text)) (e ∙ f)
