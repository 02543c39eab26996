-- The placing of the answers by their words.
use Rattle.std.proofs.Common.{◌≡◌, ℕ, suc, ◌+◌, ◌<◌, List, [], ◌∷◌, ◌++◌, length, map, filter, take, set, get_or, Bool, true, false, not, ◌||◌, cond, Result, Ok, Err, OnOk, refl, ap, sym, ◌∙◌, arith, add-one, append-nil}
use Rattle.std.proofs.Math.Seq.{take-suc}
use Rattle.std.proofs.lemmas.List.{map-append}
use Rattle.std.proofs.lemmas.List.Elements.{filter-append}
use Rattle.std.specs.Global.{Vec}
use Rattle.std.specs.List.{list_any, position_or_len}
use Rattle.std.specs.Str.{bytes_eq}
use Rattle.std.specs.Vec.{vec_items}
use Rattle.indexmap.specs.IndexSet.{insert_key}
use Rattle.scripted_engine.specs.Answers.{texts_for}
use Rattle.scripted_engine.specs.Blocks.{Block, is_for}
use Rattle.scripted_engine.specs.Queues.{Queue, none, names, find, find_with, queue_with_text}
use Rattle.scripted_engine.proofs.Found.{same_word, eq_sym, place_of, place_names, size_names, find_set, find_here, find_absent, find_push}

abbrev pub key_eq : Vec ℕ → Vec ℕ → Bool
key_eq x y = bytes_eq (vec_items x) (vec_items y)

pub on_ok_as : {T E : Type 0} (r : Result T E) (P Q : Type 0) → OnOk r P → (P → Q) → OnOk r Q
on_ok_as (Ok v) P Q h f = f h
on_ok_as (Err e) P Q h f = h

absent_by : (b : Bool) (word : List ℕ) (k : Vec ℕ) (ks : List (Vec ℕ)) → bytes_eq word (vec_items k) ≡ b → (b || list_any (λ k. bytes_eq word (vec_items k)) ks) ≡ false
    → (list_any (λ k. bytes_eq word (vec_items k)) ks ≡ false → place_of word (names ks) ≡ length (names ks)) → place_of word (names (k ∷ ks)) ≡ suc (length (names ks))
absent_by true word k ks e h ih = cc h
absent_by false word k ks e h ih = rw e (let i = ih h in omega (arith, i))

-- a word that is not there
absent_at : (word : List ℕ) (keys : List (Vec ℕ)) → list_any (λ k. bytes_eq word (vec_items k)) keys ≡ false → place_of word (names keys) ≡ length (names keys)
absent_at word [] h = refl
absent_at word (k ∷ ks) h = absent_by (bytes_eq word (vec_items k)) word k ks refl h (absent_at word ks)

there_by : (b : Bool) (word : List ℕ) (k : Vec ℕ) (ks : List (Vec ℕ)) → bytes_eq word (vec_items k) ≡ b → (b || list_any (λ k. bytes_eq word (vec_items k)) ks) ≡ true
    → (list_any (λ k. bytes_eq word (vec_items k)) ks ≡ true → place_of word (names ks) < length (names ks)) → place_of word (names (k ∷ ks)) < suc (length (names ks))
there_by true word k ks e h ih = rw e (omega arith)
there_by false word k ks e h ih = rw e (let i = ih h in omega (arith, i))

-- a word that is there
there_at : (word : List ℕ) (keys : List (Vec ℕ)) → list_any (λ k. bytes_eq word (vec_items k)) keys ≡ true → place_of word (names keys) < length (names keys)
there_at word [] h = cc h
there_at word (k ∷ ks) h = there_by (bytes_eq word (vec_items k)) word k ks refl h (there_at word ks)

not_true : (b : Bool) → true ≡ not b → b ≡ false
not_true true e = cc e
not_true false e = refl

not_false : (b : Bool) → false ≡ not b → b ≡ true
not_false true e = refl
not_false false e = cc e

-- the answers that are found for each word, if those for one have one more
more_by : (same : Bool) (w v : List ℕ) (ws : List (List ℕ)) (xs : List Queue) (q : Queue) (text : List ℕ) → bytes_eq w v ≡ same → q ≡ queue_with_text (find w ws xs) text
    → cond (bytes_eq v w) q (find v ws xs) ≡ cond (bytes_eq w v) (queue_with_text (find v ws xs) text) (find v ws xs)
more_by true w v ws xs q text e h = rw (e, eq_sym v w ∙ e) (h ∙ ap (λ x. queue_with_text (find x ws xs) text) (same_word w v e))
more_by false w v ws xs q text e h = rw (e, eq_sym v w ∙ e) refl

pub added_new : (keys keys' : List (Vec ℕ)) (queues queues' : List Queue) (key : Vec ℕ) (block : Block) (text : List ℕ) (q : Queue) → length keys ≡ length queues
    → true ≡ not (list_any (key_eq key) keys) → keys' ≡ insert_key key_eq keys key → vec_items key ≡ block.word → text ≡ block.answer → q ≡ queue_with_text none text → queues' ≡ queues ++ q ∷ []
    → (word : List ℕ) → find word (names keys') queues' ≡ find_with block word (names keys) queues
added_new keys keys' queues queues' key block text q n new grown is same h e word =
    let w = vec_items key in
    let absent = not_true (list_any (key_eq key) keys) new in
    let at = absent_at w keys absent in
    let all : names keys' ≡ names keys ++ w ∷ [] = ap names (grown ∙ ap (λ b. cond b keys (keys ++ key ∷ [])) absent) ∙ map-append (λ k. vec_items k) keys (key ∷ []) in
    ap (λ ws. find word ws queues') all ∙ ap (λ xs. find word (names keys ++ w ∷ []) xs) e ∙ find_push w word (names keys) queues q (size_names keys ∙ n) at
    ∙ more_by (bytes_eq w word) w word (names keys) queues q text refl (h ∙ ap (λ x. queue_with_text x text) (sym (find_absent w (names keys) queues at)))
    ∙ ap (λ x. cond (bytes_eq x word) (queue_with_text (find word (names keys) queues) text) (find word (names keys) queues)) is
    ∙ ap (λ t. cond (bytes_eq block.word word) (queue_with_text (find word (names keys) queues) t) (find word (names keys) queues)) same

pub added_old : (keys keys' : List (Vec ℕ)) (queues : List Queue) (key : Vec ℕ) (block : Block) (text : List ℕ) (at : ℕ) (x y : Queue) → length keys ≡ length queues
    → false ≡ not (list_any (key_eq key) keys) → keys' ≡ insert_key key_eq keys key → vec_items key ≡ block.word → text ≡ block.answer → at ≡ position_or_len (key_eq key) keys → x ≡ queue_with_text y text → y ≡ get_or queues at y
    → (word : List ℕ) → find word (names keys') (set queues at x) ≡ find_with block word (names keys) queues
added_old keys keys' queues key block text at x y n old grown is same place h got word =
    let w = vec_items key in
    let there = not_false (list_any (key_eq key) keys) old in
    let within = there_at w keys there in
    let here : at ≡ place_of w (names keys) = place ∙ place_names w keys in
    let mine : y ≡ find w (names keys) queues = got ∙ ap (λ i. get_or queues i y) here ∙ find_here w (names keys) queues y (size_names keys ∙ n) within in
    ap (λ ks. find word (names ks) (set queues at x)) (grown ∙ ap (λ b. cond b keys (keys ++ key ∷ [])) there)
    ∙ ap (λ i. find word (names keys) (set queues i x)) here ∙ find_set w word (names keys) queues x (size_names keys ∙ n) within
    ∙ more_by (bytes_eq w word) w word (names keys) queues x text refl (h ∙ ap (λ z. queue_with_text z text) mine)
    ∙ ap (λ z. cond (bytes_eq z word) (queue_with_text (find word (names keys) queues) text) (find word (names keys) queues)) is
    ∙ ap (λ t. cond (bytes_eq block.word word) (queue_with_text (find word (names keys) queues) t) (find word (names keys) queues)) same

-- the answers of so many blocks, of which none was given
abbrev pub unused : List ℕ → List Block → Queue
unused word blocks = record { answers = texts_for word blocks; next = 0 }

unused_by : (same : Bool) (word : List ℕ) (blocks : List Block) (b : Block) → is_for word b ≡ same → cond same (queue_with_text (unused word blocks) b.answer) (unused word blocks) ≡ unused word (blocks ++ b ∷ [])
unused_by true word blocks b e =
    ap (λ l. record { answers = l; next = 0 }) (sym (ap (λ l. map (λ (b : Block). b.answer) l) (filter-append (is_for word) blocks (b ∷ []) ∙ ap (λ v. filter (is_for word) blocks ++ cond v (b ∷ []) []) e) ∙ map-append (λ (b : Block). b.answer) (filter (is_for word) blocks) (b ∷ [])))
unused_by false word blocks b e =
    ap (λ l. record { answers = map (λ (b : Block). b.answer) l; next = 0 }) (sym (filter-append (is_for word) blocks (b ∷ []) ∙ ap (λ v. filter (is_for word) blocks ++ cond v (b ∷ []) []) e ∙ append-nil (filter (is_for word) blocks)))

pub unused_more : (word : List ℕ) (blocks : List Block) (i : ℕ) (b : Block) (ws : List (List ℕ)) (xs : List Queue) → i < length blocks → b ≡ get_or blocks i b → find word ws xs ≡ unused word (take i blocks)
    → find_with b word ws xs ≡ unused word (take (i + 1) blocks)
unused_more word blocks i b ws xs h e f =
    ap (λ q. cond (bytes_eq b.word word) (queue_with_text q b.answer) q) f
    ∙ unused_by (bytes_eq b.word word) word (take i blocks) b refl
    ∙ ap (λ l. unused word l) (sym (rw add-one (take-suc blocks i b h ∙ ap (λ y. take i blocks ++ y ∷ []) (sym e))))
