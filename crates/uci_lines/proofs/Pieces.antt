-- The pieces of a combo, one by one.
use Rattle.std.proofs.Common.{◌≡◌, ℕ, suc, List, [], ◌∷◌, ◌++◌, Bool, true, false, not, ◌&&◌, cond, Option, Some, None, ltb, ◌<◌, ◌≤◌, length, length-append, arith, drop, codes, refl, sym, ap, ◌∙◌}
use Rattle.std.proofs.Math.Seq.{drop-append_seam}
use Rattle.std.proofs.lemmas.Bool.Decides.{nat_tests}
use Rattle.std.specs.List.{onto_first, list_all}
use Rattle.std.specs.Option.{option_map}
use Rattle.std.proofs.lemmas.Bool.{and_parts, or_parts}
use Rattle.protocol_tokens.specs.Tokens.{is_white, is_token, trimmed, first_token, rest_after_token}
use Rattle.uci_lines.specs.Cuts.{Found, onto_part, found_token, is_word, is_choice}
use Rattle.uci_lines.specs.Choices.{pieces, values_among, values, before_choice, from_choice}
use Rattle.uci_lines.proofs.Prefixes.{BeginsWhite, prefix, behind, prefix-white, behind-white, prefix-byte, behind-byte, first_is, rest_is}
use Rattle.uci_lines.proofs.Cutting.{Cuts, cut_is, part_at, step, first_before, first_none, cut_token}

pub join_first : List ℕ → List (List ℕ) → List (List ℕ)
join_first w [] = w ∷ []
join_first w (s ∷ ss) = (w ++ s) ∷ ss

above_zero : (n : ℕ) → ltb 0 (suc n) ≡ true
above_zero n = grind (arith, nat_tests)

join_none : (c : ℕ) (ss : List (List ℕ)) → join_first [] (onto_first c ss) ≡ onto_first c ss
unfolding join_first
join_none c [] = refl
join_none c (s ∷ ss) = refl

join_onto : (c : ℕ) (w : List ℕ) (ss : List (List ℕ)) → onto_first c (join_first w ss) ≡ join_first (c ∷ w) ss
unfolding join_first
join_onto c w [] = refl
join_onto c w (s ∷ ss) = refl

-- if no choice begins, the first byte goes before the pieces of the others
pass : (fresh : Bool) (b : ℕ) (bs : List ℕ) → (fresh && is_choice (prefix (b ∷ bs))) ≡ false → pieces fresh (b ∷ bs) ≡ onto_first b (pieces (is_white b) bs)
pass fresh b bs e = rw e refl

joined_again : (v w x y : List ℕ) → v ≡ w → x ≡ y → join_first v (pieces true x) ≡ join_first w (pieces true y)
joined_again v w x y e f = ap (λ t. join_first t (pieces true x)) e ∙ ap (λ t. join_first w (pieces true t)) f

inside_step : (w : Bool) (b : ℕ) (bs : List ℕ) → is_white b ≡ w → pieces false bs ≡ join_first (prefix bs) (pieces true (behind bs)) → pieces false (b ∷ bs) ≡ join_first (prefix (b ∷ bs)) (pieces true (behind (b ∷ bs)))
inside_step true b bs e h =
    let none : (true && is_choice (prefix (b ∷ bs))) ≡ false = ap is_choice (prefix-white b bs e) in
    sym (join_none b (pieces (is_white b) bs))
    ∙ ap (join_first []) (sym (pass true b bs none))
    ∙ joined_again [] (prefix (b ∷ bs)) (b ∷ bs) (behind (b ∷ bs)) (sym (prefix-white b bs e)) (sym (behind-white b bs e))
inside_step false b bs e h =
    ap (λ f. onto_first b (pieces f bs)) e ∙ ap (onto_first b) h ∙ join_onto b (prefix bs) (pieces true (behind bs))
    ∙ joined_again (b ∷ prefix bs) (prefix (b ∷ bs)) (behind bs) (behind (b ∷ bs)) (sym (prefix-byte b bs e)) (sym (behind-byte b bs e))

-- after a byte of a token
pub inside : (bs : List ℕ) → pieces false bs ≡ join_first (prefix bs) (pieces true (behind bs))
unfolding join_first
inside [] = refl
inside (b ∷ bs) = inside_step (is_white b) b bs refl (inside bs)

no_more : (b : ℕ) (o : Option Found) → option_map (onto_part b) o ≡ None → o ≡ None
no_more b None k = refl
no_more b (Some part) k = absurd (cc)

none_step : (t : Bool) (fresh : Bool) (b : ℕ) (bs : List ℕ) → (fresh && is_choice (prefix (b ∷ bs))) ≡ t → found_token is_choice fresh (b ∷ bs) ≡ None → (found_token is_choice (is_white b) bs ≡ None → pieces (is_white b) bs ≡ bs ∷ []) → pieces fresh (b ∷ bs) ≡ (b ∷ bs) ∷ []
none_step true fresh b bs e h k = let no : Some (part_at (b ∷ bs)) ≡ None = sym (rw e refl) ∙ h in absurd (cc)
none_step false fresh b bs e h k =
    let later : option_map (onto_part b) (found_token is_choice (is_white b) bs) ≡ None = sym (step is_choice fresh b bs e) ∙ h in
    pass fresh b bs e ∙ ap (onto_first b) (k (no_more b (found_token is_choice (is_white b) bs) later))

pub pieces_none : (fresh : Bool) (text : List ℕ) → found_token is_choice fresh text ≡ None → pieces fresh text ≡ text ∷ []
pieces_none fresh [] h = refl
pieces_none fresh (b ∷ bs) h = none_step (fresh && is_choice (prefix (b ∷ bs))) fresh b bs refl h (pieces_none (is_white b) bs)

-- a byte with which a choice begins
starts_black : (w : Bool) (fresh : Bool) (b : ℕ) (bs : List ℕ) → is_white b ≡ w → (fresh && is_choice (prefix (b ∷ bs))) ≡ true → is_white b ≡ false
starts_black true fresh b bs e h =
    let no : is_choice (prefix (b ∷ bs)) ≡ false = ap is_choice (prefix-white b bs e) in
    absurd (cc (and_parts fresh (is_choice (prefix (b ∷ bs))) h).1)
starts_black false fresh b bs e h = e

here_pieces : (fresh : Bool) (b : ℕ) (bs : List ℕ) → (fresh && is_choice (prefix (b ∷ bs))) ≡ true → pieces fresh (b ∷ bs) ≡ [] ∷ join_first (prefix (b ∷ bs)) (pieces true (behind (b ∷ bs)))
here_pieces fresh b bs e =
    let black : is_white b ≡ false = starts_black (is_white b) fresh b bs refl e in
    let begin : pieces fresh (b ∷ bs) ≡ [] ∷ onto_first b (pieces (is_white b) bs) = rw e refl in
    begin ∙ ap (λ ps. [] ∷ ps)
    (ap (λ f. onto_first b (pieces f bs)) black ∙ ap (onto_first b) (inside bs) ∙ join_onto b (prefix bs) (pieces true (behind bs))
    ∙ joined_again (b ∷ prefix bs) (prefix (b ∷ bs)) (behind bs) (behind (b ∷ bs)) (sym (prefix-byte b bs black)) (sym (behind-byte b bs black)))

-- the pieces that a cut gives
abbrev given : Found → List (List ℕ)
given part = part.before ∷ join_first part.word (pieces true part.after)

further_pieces : (b : ℕ) (bs : List ℕ) (fresh : Bool) (o : Option Found) (part : Found) → option_map (onto_part b) o ≡ Some part → ((q : Found) → o ≡ Some q → pieces fresh bs ≡ given q) → onto_first b (pieces fresh bs) ≡ given part
further_pieces b bs fresh None part h k = absurd (cc)
further_pieces b bs fresh (Some q) part h k =
    let same : onto_part b q ≡ part = cc in
    ap (onto_first b) (k q refl) ∙ ap given same

some_step : (t : Bool) (fresh : Bool) (b : ℕ) (bs : List ℕ) (part : Found) → (fresh && is_choice (prefix (b ∷ bs))) ≡ t → found_token is_choice fresh (b ∷ bs) ≡ Some part → ((q : Found) → found_token is_choice (is_white b) bs ≡ Some q → pieces (is_white b) bs ≡ given q) → pieces fresh (b ∷ bs) ≡ given part
some_step true fresh b bs part e h k =
    let some : Some (part_at (b ∷ bs)) ≡ Some part = sym (rw e refl) ∙ h in
    let same : part_at (b ∷ bs) ≡ part = cc in
    here_pieces fresh b bs e ∙ ap given same
some_step false fresh b bs part e h k =
    pass fresh b bs e ∙ further_pieces b bs (is_white b) (found_token is_choice (is_white b) bs) part (sym (step is_choice fresh b bs e) ∙ h) k

pub pieces_some : (fresh : Bool) (text : List ℕ) (part : Found) → found_token is_choice fresh text ≡ Some part → pieces fresh text ≡ given part
pieces_some fresh [] part h = absurd (cc)
pieces_some fresh (b ∷ bs) part h = some_step (fresh && is_choice (prefix (b ∷ bs))) fresh b bs part refl h (λ q k. pieces_some (is_white b) bs q k)

-- no `var` begins a piece that does not begin with a choice
no_value : (piece : List ℕ) (others : List (List ℕ)) → is_choice (first_token piece) ≡ false → values_among (piece ∷ others) ≡ values_among others
no_value piece others h = rw (or_parts (is_word (codes "default") (first_token piece)) (is_word (codes "var") (first_token piece)) h).1 refl

pub values_none : (text : List ℕ) → found_token is_choice true text ≡ None → values text ≡ []
unfolding values
values_none text h = ap values_among (pieces_none true text h) ∙ no_value text [] (first_none is_choice text refl h)

-- the values of a piece and of those after it
abbrev with_value : Bool → List ℕ → List (List ℕ) → List (List ℕ)
with_value b value others = cond b (value ∷ others) others

word_is_token : (p : List ℕ → Bool) (text : List ℕ) (part : Found) → p [] ≡ false → Cuts p text part → is_token part.word ≡ true
word_is_token p text part z c = token_if p part.word z c.passes c.black
  where
    token_if : (q : List ℕ → Bool) (w : List ℕ) → q [] ≡ false → q w ≡ true → list_all (λ b. not (is_white b)) w ≡ true → is_token w ≡ true
    token_if q [] e f g = absurd (cc)
    token_if q (b ∷ bs) e f g = rw (above_zero (length bs), g) refl

piece_values : (word text : List ℕ) (others : List (List ℕ)) → is_token word ≡ true → BeginsWhite text → values_among ((word ++ text) ∷ others) ≡ with_value (is_word (codes "var") word) (trimmed text) (values_among others)
piece_values word text others h w =
    ap (λ t. with_value (is_word (codes "var") t) (rest_after_token (word ++ text)) (values_among others)) (first_is word text h w)
    ∙ ap (λ t. with_value (is_word (codes "var") word) t (values_among others)) (rest_is word text h w)

white_part : (a b : List ℕ) (text : List ℕ) → text ≡ a ++ b → BeginsWhite text → BeginsWhite a
white_part [] b text e h = tt
white_part (c ∷ cs) b [] e h = absurd (cc)
white_part (c ∷ cs) b (d ∷ ds) e h = let same : d ≡ c = cc in sym (ap is_white same) ∙ h

-- the values from the next choice on
from_values : (q : Found) (text : List ℕ) → Cuts is_choice text q → values (drop (length q.before) text) ≡ values_among (join_first q.word (pieces true q.after))
unfolding values
from_values q text c =
    let token = word_is_token is_choice text q refl c in
    ap (λ t. values (drop (length q.before) t)) c.whole
    ∙ ap values (drop-append_seam q.before (q.word ++ q.after))
    ∙ ap values_among (pieces_some true (q.word ++ q.after) (record { before = []; word = q.word; after = q.after }) (cut_token is_choice q.word q.after token c.passes c.begins_white))
    ∙ no_value [] (join_first q.word (pieces true q.after)) refl

nothing : [] ≡ values []
unfolding values
nothing = refl

behind_word : (word after : List ℕ) (o : Option Found) → is_token word ≡ true → BeginsWhite after → found_token is_choice true after ≡ o → values_among (join_first word (pieces true after)) ≡ with_value (is_word (codes "var") word) (trimmed (before_choice o after)) (values (from_choice o after))
unfolding join_first
behind_word word after None h w e =
    ap (λ ps. values_among (join_first word ps)) (pieces_none true after e)
    ∙ piece_values word after [] h w
    ∙ ap (with_value (is_word (codes "var") word) (trimmed after)) nothing
behind_word word after (Some q) h w e =
    let c = cut_is is_choice true after q e in
    ap (λ ps. values_among (join_first word ps)) (pieces_some true after q e)
    ∙ piece_values word q.before (join_first q.word (pieces true q.after)) h (white_part q.before (q.word ++ q.after) after c.whole w)
    ∙ ap (with_value (is_word (codes "var") word) (trimmed q.before)) (sym (from_values q after c))

pub values_some : (text : List ℕ) (part : Found) → found_token is_choice true text ≡ Some part → values text ≡ with_value (is_word (codes "var") part.word) (trimmed (before_choice (found_token is_choice true part.after) part.after)) (values (from_choice (found_token is_choice true part.after) part.after))
unfolding values
values_some text part h =
    let c = cut_is is_choice true text part h in
    ap values_among (pieces_some true text part h)
    ∙ no_value part.before (join_first part.word (pieces true part.after)) (first_before is_choice text part refl h)
    ∙ behind_word part.word part.after (found_token is_choice true part.after) (word_is_token is_choice text part refl c) c.begins_white refl

-- as a call that reads a value knows it
pub value_here : (text : List ℕ) (part : Found) (value others : List ℕ) → Some part ≡ found_token is_choice true text → value ≡ trimmed (before_choice (found_token is_choice true part.after) part.after) → others ≡ from_choice (found_token is_choice true part.after) part.after → is_word (codes "var") part.word ≡ true → values text ≡ value ∷ values others
value_here text part value others e f g h =
    values_some text part (sym e) ∙ rw h (ap (λ t. t ∷ values (from_choice (found_token is_choice true part.after) part.after)) (sym f) ∙ ap (λ t. value ∷ values t) (sym g))

pub value_later : (text : List ℕ) (part : Found) (others : List ℕ) → Some part ≡ found_token is_choice true text → others ≡ from_choice (found_token is_choice true part.after) part.after → is_word (codes "var") part.word ≡ false → values others ≡ values text
value_later text part others e g h =
    ap values g ∙ sym (values_some text part (sym e) ∙ rw h refl)

pub after_shorter : (text : List ℕ) (part : Found) (others : List ℕ) → Some part ≡ found_token is_choice true text → length others ≤ length part.after → length others < length text
after_shorter text part others e h =
    let c = cut_is is_choice true text part (sym e) in
    let token = word_is_token is_choice text part refl c in
    let l = ap length c.whole in
    let some : 0 < length part.word = token_length part.word token in
    omega (arith, length-append part.before (part.word ++ part.after), length-append part.word part.after)
  where
    token_length : (w : List ℕ) → is_token w ≡ true → 0 < length w
    token_length [] k = absurd (cc)
    token_length (b ∷ bs) k = omega arith
