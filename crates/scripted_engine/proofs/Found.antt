-- The answers that are found for a word.
use Rattle.std.proofs.Common.{◌≡◌, ℕ, suc, ◌+◌, ◌<◌, ◌≤◌, List, [], ◌∷◌, ◌++◌, length, set, get_or, Bool, true, false, not, ltb, cond, Some, None, refl, ap, sym, ◌∙◌, arith}
use Rattle.std.proofs.lemmas.Bool.Decides.{nat_tests}
use Rattle.std.proofs.lemmas.Slice.Eq.{bytes_eq-Decides}
use Rattle.std.specs.List.{position, position_or_len}
use Rattle.std.specs.Str.{bytes_eq}
use Rattle.std.specs.Global.{Vec}
use Rattle.std.specs.Vec.{vec_items}
use Rattle.scripted_engine.specs.Queues.{Queue, none, find, names}

pub same_word : (a b : List ℕ) → bytes_eq a b ≡ true → a ≡ b
same_word a b e = (bytes_eq-Decides a b).0 e

eq_by : (p q : Bool) (a b : List ℕ) → bytes_eq a b ≡ p → bytes_eq b a ≡ q → p ≡ q
eq_by true true a b e f = refl
eq_by false false a b e f = refl
eq_by true false a b e f = sym ((bytes_eq-Decides b a).1 (sym (same_word a b e))) ∙ f
eq_by false true a b e f = sym e ∙ (bytes_eq-Decides a b).1 (sym (same_word b a f))

pub eq_sym : (a b : List ℕ) → bytes_eq a b ≡ bytes_eq b a
eq_sym a b = eq_by (bytes_eq a b) (bytes_eq b a) a b refl refl

-- the place of a word, or how many there are
abbrev pub place_of : List ℕ → List (List ℕ) → ℕ
place_of word words = position_or_len (bytes_eq word) words

place_here : (word w : List ℕ) (ws : List (List ℕ)) → bytes_eq word w ≡ true → place_of word (w ∷ ws) ≡ 0
place_here word w ws e = rw e refl

place_later : (word w : List ℕ) (ws : List (List ℕ)) → bytes_eq word w ≡ false → place_of word (w ∷ ws) ≡ suc (place_of word ws)
place_later word w ws e = rw e (omega arith)

-- of two tests of which one at most passes, the order does not matter
swapped : {A : Type 0} (p q : Bool) (x y z : A) → (p ≡ true → q ≡ true → ⊥) → cond p x (cond q y z) ≡ cond q y (cond p x z)
swapped true true x y z h = absurd (h refl refl)
swapped true false x y z h = refl
swapped false q x y z h = refl

apart : (v u w : List ℕ) → bytes_eq w u ≡ false → bytes_eq v u ≡ true → bytes_eq v w ≡ true → ⊥
apart v u w e f g = let same = (bytes_eq-Decides w u).1 (sym (same_word v w g) ∙ same_word v u f) in cc (e, same)

-- the first of some words passes the test, or not
by_first : (P : Bool → Type 0) (b : Bool) → P true → P false → P b
by_first P true t f = t
by_first P false t f = f

here_again : {A : Type 0} (p : Bool) (q x z : A) → cond p q z ≡ cond p q (cond p x z)
here_again true q x z = refl
here_again false q x z = refl

-- the answers that are found once those for one word are others
set_by : (same : Bool) (w u v : List ℕ) (us : List (List ℕ)) (x : Queue) (xs : List Queue) (q : Queue) → bytes_eq w u ≡ same → place_of w (u ∷ us) < suc (length us)
    → (place_of w us < length us → find v us (set xs (place_of w us) q) ≡ cond (bytes_eq v w) q (find v us xs))
    → find v (u ∷ us) (set (x ∷ xs) (place_of w (u ∷ us)) q) ≡ cond (bytes_eq v w) q (find v (u ∷ us) (x ∷ xs))
set_by true w u v us x xs q e h ih =
    ap (λ i. find v (u ∷ us) (set (x ∷ xs) i q)) (place_here w u us e)
    ∙ ap (λ y. cond (bytes_eq v y) q (find v us xs)) (sym (same_word w u e))
    ∙ here_again (bytes_eq v w) q x (find v us xs)
    ∙ ap (λ y. cond (bytes_eq v w) q (cond (bytes_eq v y) x (find v us xs))) (same_word w u e)
set_by false w u v us x xs q e h ih =
    let later = place_later w u us e in
    ap (λ i. find v (u ∷ us) (set (x ∷ xs) i q)) later
    ∙ ap (λ (r : Queue). cond (bytes_eq v u) x r) (ih (omega (arith, later)))
    ∙ swapped (bytes_eq v u) (bytes_eq v w) x q (find v us xs) (apart v u w e)

pub find_set : (w v : List ℕ) (ws : List (List ℕ)) (xs : List Queue) (q : Queue) → length ws ≡ length xs → place_of w ws < length ws → find v ws (set xs (place_of w ws) q) ≡ cond (bytes_eq v w) q (find v ws xs)
find_set w v [] xs q n h = absurd (omega (arith, h))
find_set w v (u ∷ us) [] q n h = absurd (omega (arith, n))
find_set w v (u ∷ us) (x ∷ xs) q n h = set_by (bytes_eq w u) w u v us x xs q refl h (λ l. find_set w v us xs q (omega (arith, n)) l)

here_by : (same : Bool) (w u : List ℕ) (us : List (List ℕ)) (x d : Queue) (xs : List Queue) → bytes_eq w u ≡ same → place_of w (u ∷ us) < suc (length us)
    → (place_of w us < length us → get_or xs (place_of w us) d ≡ find w us xs) → get_or (x ∷ xs) (place_of w (u ∷ us)) d ≡ find w (u ∷ us) (x ∷ xs)
here_by true w u us x d xs e h ih = ap (λ i. get_or (x ∷ xs) i d) (place_here w u us e) ∙ sym (ap (λ b. cond b x (find w us xs)) e)
here_by false w u us x d xs e h ih =
    let later = place_later w u us e in ap (λ i. get_or (x ∷ xs) i d) later ∙ ih (omega (arith, later)) ∙ sym (ap (λ b. cond b x (find w us xs)) e)

-- the answers at the place of a word are those that are found
pub find_here : (w : List ℕ) (ws : List (List ℕ)) (xs : List Queue) (d : Queue) → length ws ≡ length xs → place_of w ws < length ws → get_or xs (place_of w ws) d ≡ find w ws xs
find_here w [] xs d n h = absurd (omega (arith, h))
find_here w (u ∷ us) [] d n h = absurd (omega (arith, n))
find_here w (u ∷ us) (x ∷ xs) d n h = here_by (bytes_eq w u) w u us x d xs refl h (λ l. find_here w us xs d (omega (arith, n)) l)

absent_by : (same : Bool) (w u : List ℕ) (us : List (List ℕ)) (x : Queue) (xs : List Queue) → bytes_eq w u ≡ same → place_of w (u ∷ us) ≡ suc (length us)
    → (place_of w us ≡ length us → find w us xs ≡ none) → find w (u ∷ us) (x ∷ xs) ≡ none
absent_by true w u us x xs e h ih = let z = place_here w u us e in absurd (omega (arith, h, z))
absent_by false w u us x xs e h ih = let later = place_later w u us e in ap (λ b. cond b x (find w us xs)) e ∙ ih (omega (arith, h, later))

-- nothing is found for a word that is not there
pub find_absent : (w : List ℕ) (ws : List (List ℕ)) (xs : List Queue) → place_of w ws ≡ length ws → find w ws xs ≡ none
find_absent w [] xs h = refl
find_absent w (u ∷ us) [] h = refl
find_absent w (u ∷ us) (x ∷ xs) h = absent_by (bytes_eq w u) w u us x xs refl h (λ e. find_absent w us xs e)

push_by : (same : Bool) (w u v : List ℕ) (us : List (List ℕ)) (x : Queue) (xs : List Queue) (q : Queue) → bytes_eq w u ≡ same → place_of w (u ∷ us) ≡ suc (length us)
    → (place_of w us ≡ length us → find v (us ++ w ∷ []) (xs ++ q ∷ []) ≡ cond (bytes_eq v w) q (find v us xs))
    → find v (u ∷ us ++ w ∷ []) (x ∷ xs ++ q ∷ []) ≡ cond (bytes_eq v w) q (find v (u ∷ us) (x ∷ xs))
push_by true w u v us x xs q e h ih = let z = place_here w u us e in absurd (omega (arith, h, z))
push_by false w u v us x xs q e h ih =
    let later = place_later w u us e in
    ap (λ (r : Queue). cond (bytes_eq v u) x r) (ih (omega (arith, h, later))) ∙ swapped (bytes_eq v u) (bytes_eq v w) x q (find v us xs) (apart v u w e)

-- the answers that are found once a word was added that was not there
pub find_push : (w v : List ℕ) (ws : List (List ℕ)) (xs : List Queue) (q : Queue) → length ws ≡ length xs → place_of w ws ≡ length ws → find v (ws ++ w ∷ []) (xs ++ q ∷ []) ≡ cond (bytes_eq v w) q (find v ws xs)
find_push w v [] [] q n h = refl
find_push w v [] (x ∷ xs) q n h = absurd (omega (arith, n))
find_push w v (u ∷ us) [] q n h = absurd (omega (arith, n))
find_push w v (u ∷ us) (x ∷ xs) q n h = push_by (bytes_eq w u) w u v us x xs q refl h (λ e. find_push w v us xs q (omega (arith, n)) e)

place_names_by : (b : Bool) (word : List ℕ) (k : Vec ℕ) (ks : List (Vec ℕ)) → bytes_eq word (vec_items k) ≡ b → position_or_len (λ k. bytes_eq word (vec_items k)) ks ≡ place_of word (names ks)
    → position_or_len (λ k. bytes_eq word (vec_items k)) (k ∷ ks) ≡ place_of word (names (k ∷ ks))
place_names_by true word k ks e h = rw e refl
place_names_by false word k ks e h = rw e (ap (λ n. 1 + n) h)

pub place_names : (word : List ℕ) (keys : List (Vec ℕ)) → position_or_len (λ k. bytes_eq word (vec_items k)) keys ≡ place_of word (names keys)
place_names word [] = refl
place_names word (k ∷ ks) = place_names_by (bytes_eq word (vec_items k)) word k ks refl (place_names word ks)

pub size_names : (keys : List (Vec ℕ)) → length (names keys) ≡ length keys
size_names [] = refl
size_names (k ∷ ks) = ap (λ n. suc n) (size_names ks)

some_of : (b : Bool) (n k : ℕ) → Some k ≡ cond b (Some n) None → (b ≡ true) × (k ≡ n)
some_of true n k e = (refl, cc e)
some_of false n k e = cc e

none_of : (b : Bool) (n : ℕ) → None ≡ cond b (Some n) None → b ≡ false
none_of true n e = cc e
none_of false n e = refl

-- the place that a set tells of a word
pub place_replied : (word : List ℕ) (keys : List (Vec ℕ)) (at : ℕ) → Some at ≡ position (λ k. bytes_eq word (vec_items k)) keys → (at ≡ place_of word (names keys)) × (at < length (names keys))
place_replied word keys at e =
    let place = position_or_len (λ k. bytes_eq word (vec_items k)) keys in
    let b = some_of (ltb place (length keys)) place at e in
    let t = b.0 in
    let s = b.1 in
    (s ∙ place_names word keys, omega_lt at place keys t s)
  where
    omega_lt : (at place : ℕ) (keys : List (Vec ℕ)) → ltb place (length keys) ≡ true → at ≡ place → at < length (names keys)
    omega_lt at place keys t s = let z = size_names keys in grind (arith, nat_tests)

pub none_replied : (word : List ℕ) (keys : List (Vec ℕ)) → None ≡ position (λ k. bytes_eq word (vec_items k)) keys → length (names keys) ≤ place_of word (names keys)
none_replied word keys e =
    let place = position_or_len (λ k. bytes_eq word (vec_items k)) keys in
    let b = none_of (ltb place (length keys)) place e in
    let s = place_names word keys in
    let z = size_names keys in grind (arith, nat_tests)

pub place_le : (word : List ℕ) (ws : List (List ℕ)) → place_of word ws ≤ length ws
place_le word [] = omega arith
place_le word (w ∷ ws) = elim (bytes_eq word w) as (λ v. cond (not v) (1 + place_of word ws) 0 ≤ suc (length ws)) [ true ↦ omega arith | false ↦ omega (arith, place_le word ws) ]
