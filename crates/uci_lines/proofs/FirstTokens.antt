-- The cut of a text as a relation: its first token that passes, or none.
use Rattle.std.proofs.Common.{◌≡◌, ℕ, suc, List, [], ◌∷◌, ◌++◌, Bool, true, false, not, ◌&&◌, Option, Some, None, length, ltb, refl, sym, ap, ◌∙◌, subst, arith}
use Rattle.std.proofs.lemmas.Bool.Decides.{nat_tests}
use Rattle.std.specs.List.{list_all}
use Rattle.std.specs.Option.{option_map}
use Rattle.std.proofs.lemmas.Bool.{not-true, not_from_false, and_parts}
use Rattle.protocol_tokens.specs.Tokens.{is_white, is_token, tokens}
use Rattle.protocol_tokens.proofs.TokenLists.{tokens_white}
use Rattle.protocol_tokens.proofs.Runs.{black}
use Rattle.uci_lines.specs.Cuts.{Found, onto_part, found_token}
use Rattle.uci_lines.specs.Spells.{begins_white, ends_white, IsNoneOf, FirstTokenPasses}
use Rattle.uci_lines.proofs.Prefixes.{BeginsWhite, prefix, behind, prefix-white, behind-white, prefix-byte, behind-byte, prefix_is, behind_is}
use Rattle.uci_lines.proofs.Cutting.{part_at, step, here, cut_is, prefix_kept}
use Rattle.uci_lines.proofs.CutTokens.{tokens_byte}

-- the tokens of a text that is not fresh at its front begin after its first one
abbrev since : Bool → List ℕ → List (List ℕ)
since true text = tokens text
since false text = tokens (behind text)

pub white_as : (text : List ℕ) → begins_white text ≡ true → BeginsWhite text
white_as [] h = tt
white_as (b ∷ bs) h = h

as_white : (text : List ℕ) → BeginsWhite text → begins_white text ≡ true
as_white [] h = refl
as_white (b ∷ bs) h = h

-- A text that ends with white space keeps its front before others.
kept_prefix_step : (w : Bool) (b : ℕ) (bs ys : List ℕ) → is_white b ≡ w → ends_white w bs ≡ true → (ends_white false bs ≡ true → prefix (bs ++ ys) ≡ prefix bs) → prefix (b ∷ (bs ++ ys)) ≡ prefix (b ∷ bs)
kept_prefix_step true b bs ys e h k = prefix-white b (bs ++ ys) e ∙ sym (prefix-white b bs e)
kept_prefix_step false b bs ys e h k = prefix-byte b (bs ++ ys) e ∙ ap (λ t. b ∷ t) (k h) ∙ sym (prefix-byte b bs e)

kept_prefix : (bs ys : List ℕ) → ends_white false bs ≡ true → prefix (bs ++ ys) ≡ prefix bs
kept_prefix [] ys h = absurd (cc)
kept_prefix (b ∷ bs) ys h = kept_prefix_step (is_white b) b bs ys refl h (kept_prefix bs ys)

-- FROM THE RELATION TO THE CUT

record Steps (p : List ℕ → Bool) (fresh : Bool) (b : ℕ) (bs ys : List ℕ) : Type 0 where
  fails : (fresh && p (prefix (b ∷ (bs ++ ys)))) ≡ false
  others : IsNoneOf p (since (is_white b) bs)

black_here : (p : List ℕ → Bool) (fresh : Bool) (b : ℕ) (bs ys : List ℕ) → is_white b ≡ false → prefix (bs ++ ys) ≡ prefix bs → IsNoneOf p (since fresh (b ∷ bs)) → ((fresh && p (prefix (b ∷ (bs ++ ys)))) ≡ false) × IsNoneOf p (tokens (behind bs))
black_here p true b bs ys e k h =
    let both = and_parts (not (p (b ∷ prefix bs))) (list_all (λ t. not (p t)) (tokens (behind bs))) (sym (ap (list_all (λ t. not (p t))) (tokens_byte b bs e)) ∙ h) in
    (ap p (prefix-byte b (bs ++ ys) e ∙ ap (λ t. b ∷ t) k) ∙ not-true (p (b ∷ prefix bs)) both.0, both.1)
black_here p false b bs ys e k h = (refl, ap (λ t. list_all (λ s. not (p s)) (tokens t)) (sym (behind-byte b bs e)) ∙ h)

white_here : (p : List ℕ → Bool) (fresh : Bool) (b : ℕ) (bs ys : List ℕ) → p [] ≡ false → is_white b ≡ true → IsNoneOf p (since fresh (b ∷ bs)) → ((fresh && p (prefix (b ∷ (bs ++ ys)))) ≡ false) × IsNoneOf p (tokens bs)
white_here p true b bs ys z e h = (ap p (prefix-white b (bs ++ ys) e) ∙ z, ap (list_all (λ t. not (p t))) (sym (tokens_white b bs e)) ∙ h)
white_here p false b bs ys z e h = (refl, ap (λ t. list_all (λ s. not (p s)) t) (sym (ap tokens (behind-white b bs e) ∙ tokens_white b bs e)) ∙ h)

moved_on : (p : List ℕ → Bool) (w fresh : Bool) (b : ℕ) (bs ys : List ℕ) → p [] ≡ false → is_white b ≡ w → ends_white w bs ≡ true → IsNoneOf p (since fresh (b ∷ bs)) → ((fresh && p (prefix (b ∷ (bs ++ ys)))) ≡ false) × IsNoneOf p (since w bs)
moved_on p true fresh b bs ys z e k h = white_here p fresh b bs ys z e h
moved_on p false fresh b bs ys z e k h = black_here p fresh b bs ys e (kept_prefix bs ys k) h

cut_word : (p : List ℕ → Bool) (word ys : List ℕ) → is_token word ≡ true → p word ≡ true → BeginsWhite ys → found_token p true (word ++ ys) ≡ Some (record { before = []; word = word; after = ys })
cut_word p [] ys h k w = absurd (cc)
cut_word p (b ∷ bs) ys h k w =
    let word : prefix (b ∷ (bs ++ ys)) ≡ b ∷ bs = prefix_is (b ∷ bs) ys (black (b ∷ bs) h) w in
    let after : behind (b ∷ (bs ++ ys)) ≡ ys = behind_is (b ∷ bs) ys (black (b ∷ bs) h) w in
    here p b (bs ++ ys) (ap p word ∙ k) ∙ ap (λ t. Some (record { before = []; word = t; after = behind (b ∷ (bs ++ ys)) })) word
    ∙ ap (λ t. Some (record { before = []; word = b ∷ bs; after = t })) after

cut_from : (p : List ℕ → Bool) (fresh : Bool) (before word ys : List ℕ) → p [] ≡ false → ends_white fresh before ≡ true → IsNoneOf p (since fresh before) → is_token word ≡ true → p word ≡ true → BeginsWhite ys → found_token p fresh (before ++ (word ++ ys)) ≡ Some (record { before = before; word = word; after = ys })
cut_from p true [] word ys z e n h k w = cut_word p word ys h k w
cut_from p false [] word ys z e n h k w = absurd (cc)
cut_from p fresh (b ∷ bs) word ys z e n h k w =
    let on = moved_on p (is_white b) fresh b bs (word ++ ys) z refl e n in
    step p fresh b (bs ++ (word ++ ys)) on.0 ∙ ap (option_map (onto_part b)) (cut_from p (is_white b) bs word ys z e on.1 h k w)

pub first_cut : (p : List ℕ → Bool) (text : List ℕ) (part : Found) → p [] ≡ false → FirstTokenPasses p text part → found_token p true text ≡ Some part
first_cut p text part z f = ap (found_token p true) f.whole ∙ cut_from p true part.before part.word part.after z f.stands_apart f.none_before f.token f.passes (white_as part.after f.ends_there)

none_step : (p : List ℕ → Bool) (w fresh : Bool) (b : ℕ) (bs : List ℕ) → p [] ≡ false → is_white b ≡ w → IsNoneOf p (since fresh (b ∷ bs)) → ((fresh && p (prefix (b ∷ bs))) ≡ false) × IsNoneOf p (since w bs)
none_step p true true b bs z e h = (ap p (prefix-white b bs e) ∙ z, ap (list_all (λ t. not (p t))) (sym (tokens_white b bs e)) ∙ h)
none_step p true false b bs z e h = (refl, ap (λ t. list_all (λ s. not (p s)) t) (sym (ap tokens (behind-white b bs e) ∙ tokens_white b bs e)) ∙ h)
none_step p false true b bs z e h =
    let both = and_parts (not (p (b ∷ prefix bs))) (list_all (λ t. not (p t)) (tokens (behind bs))) (sym (ap (list_all (λ t. not (p t))) (tokens_byte b bs e)) ∙ h) in
    (ap p (prefix-byte b bs e) ∙ not-true (p (b ∷ prefix bs)) both.0, both.1)
none_step p false false b bs z e h = (refl, ap (λ t. list_all (λ s. not (p s)) (tokens t)) (sym (behind-byte b bs e)) ∙ h)

none_from : (p : List ℕ → Bool) (fresh : Bool) (text : List ℕ) → p [] ≡ false → IsNoneOf p (since fresh text) → found_token p fresh text ≡ None
none_from p fresh [] z h = refl
none_from p fresh (b ∷ bs) z h =
    let on = none_step p (is_white b) fresh b bs z refl h in
    step p fresh b bs on.0 ∙ ap (option_map (onto_part b)) (none_from p (is_white b) bs z on.1)

pub none_cut : (p : List ℕ → Bool) (text : List ℕ) → p [] ≡ false → IsNoneOf p (tokens text) → found_token p true text ≡ None
none_cut p text z h = none_from p true text z h

-- FROM THE CUT TO THE RELATION

-- the tokens before a step, by those after it
none_onto : (p : List ℕ → Bool) (w fresh : Bool) (b : ℕ) (bs : List ℕ) → is_white b ≡ w → (fresh && p (prefix (b ∷ bs))) ≡ false → IsNoneOf p (since w bs) → IsNoneOf p (since fresh (b ∷ bs))
none_onto p true true b bs e h n = ap (list_all (λ t. not (p t))) (tokens_white b bs e) ∙ n
none_onto p true false b bs e h n = ap (λ t. list_all (λ s. not (p s)) t) (ap tokens (behind-white b bs e) ∙ tokens_white b bs e) ∙ n
none_onto p false true b bs e h n =
    let word : not (p (b ∷ prefix bs)) ≡ true = not_from_false (p (b ∷ prefix bs)) (sym (ap p (prefix-byte b bs e)) ∙ h) in
    ap (list_all (λ t. not (p t))) (tokens_byte b bs e) ∙ rw word n
none_onto p false false b bs e h n = ap (λ t. list_all (λ s. not (p s)) (tokens t)) (behind-byte b bs e) ∙ n

map_none : (b : ℕ) (o : Option Found) → option_map (onto_part b) o ≡ None → o ≡ None
map_none b None h = refl
map_none b (Some q) h = absurd (cc)

cut_none_step : (t : Bool) (p : List ℕ → Bool) (fresh : Bool) (b : ℕ) (bs : List ℕ) → (fresh && p (prefix (b ∷ bs))) ≡ t → (found_token p (is_white b) bs ≡ None → IsNoneOf p (since (is_white b) bs)) → found_token p fresh (b ∷ bs) ≡ None → IsNoneOf p (since fresh (b ∷ bs))
cut_none_step true p fresh b bs e i h = absurd (some_none (sym (rw e refl) ∙ h))
  where
    some_none : Some (part_at (b ∷ bs)) ≡ None → ⊥
    some_none k = absurd (cc)
cut_none_step false p fresh b bs e i h = none_onto p (is_white b) fresh b bs refl e (i (map_none b (found_token p (is_white b) bs) (sym (step p fresh b bs e) ∙ h)))

none_since : (p : List ℕ → Bool) (fresh : Bool) (text : List ℕ) → found_token p fresh text ≡ None → IsNoneOf p (since fresh text)
none_since p true [] h = refl
none_since p false [] h = refl
none_since p fresh (b ∷ bs) h = cut_none_step (fresh && p (prefix (b ∷ bs))) p fresh b bs refl (none_since p (is_white b) bs) h

pub cut_none : (p : List ℕ → Bool) (text : List ℕ) → found_token p true text ≡ None → IsNoneOf p (tokens text)
cut_none p text h = none_since p true text h

-- the text before a cut
record Before (p : List ℕ → Bool) (fresh : Bool) (before : List ℕ) : Type 0 where
  pub ends : ends_white fresh before ≡ true
  pub none : IsNoneOf p (since fresh before)

nothing_before : (p : List ℕ → Bool) (fresh : Bool) (q : Bool) → (fresh && q) ≡ true → Before p fresh []
nothing_before p true q h = record { ends = refl; none = refl }
nothing_before p false q h = absurd (cc)

-- the start of what is before a cut is that of the text
same_prefix : (w : Bool) (p : List ℕ → Bool) (b : ℕ) (bs : List ℕ) (q : Found) → is_white b ≡ w → found_token p w bs ≡ Some q → prefix (b ∷ q.before) ≡ prefix (b ∷ bs)
same_prefix true p b bs q e h = prefix-white b q.before e ∙ sym (prefix-white b bs e)
same_prefix false p b bs q e h = prefix-byte b q.before e ∙ ap (λ t. b ∷ t) (prefix_kept p bs q h) ∙ sym (prefix-byte b bs e)

before_onto : (p : List ℕ → Bool) (fresh : Bool) (b : ℕ) (bs : List ℕ) (o : Option Found) (part : Found) → (fresh && p (prefix (b ∷ bs))) ≡ false → found_token p (is_white b) bs ≡ o → ((q : Found) → o ≡ Some q → Before p (is_white b) q.before) → option_map (onto_part b) o ≡ Some part → Before p fresh part.before
before_onto p fresh b bs None part e c i h = absurd (cc)
before_onto p fresh b bs (Some q) part e c i h =
    let same : onto_part b q ≡ part = cc in
    let k = i q refl in
    subst (λ (r : Found). Before p fresh r.before) same (record {
      ends = k.ends;
      none = none_onto p (is_white b) fresh b q.before refl (ap (λ t. fresh && p t) (same_prefix (is_white b) p b bs q refl c) ∙ e) k.none;
    })

before_step : (t : Bool) (p : List ℕ → Bool) (fresh : Bool) (b : ℕ) (bs : List ℕ) (part : Found) → (fresh && p (prefix (b ∷ bs))) ≡ t → ((q : Found) → found_token p (is_white b) bs ≡ Some q → Before p (is_white b) q.before) → found_token p fresh (b ∷ bs) ≡ Some part → Before p fresh part.before
before_step true p fresh b bs part e i h =
    let some : Some (part_at (b ∷ bs)) ≡ Some part = sym (rw e refl) ∙ h in
    let same : part_at (b ∷ bs) ≡ part = cc in
    subst (λ (r : Found). Before p fresh r.before) same (nothing_before p fresh (p (prefix (b ∷ bs))) e)
before_step false p fresh b bs part e i h = before_onto p fresh b bs (found_token p (is_white b) bs) part e refl i (sym (step p fresh b bs e) ∙ h)

before_is : (p : List ℕ → Bool) (fresh : Bool) (text : List ℕ) (part : Found) → found_token p fresh text ≡ Some part → Before p fresh part.before
before_is p fresh [] part h = absurd (cc)
before_is p fresh (b ∷ bs) part h = before_step (fresh && p (prefix (b ∷ bs))) p fresh b bs part refl (before_is p (is_white b) bs) h

token_if : (p : List ℕ → Bool) (w : List ℕ) → p [] ≡ false → p w ≡ true → list_all (λ b. not (is_white b)) w ≡ true → is_token w ≡ true
token_if p [] e f g = absurd (cc)
token_if p (b ∷ bs) e f g = rw (above (length bs), g) refl
  where
    above : (n : ℕ) → ltb 0 (suc n) ≡ true
    above n = grind (arith, nat_tests)

pub cut_first : (p : List ℕ → Bool) (text : List ℕ) (part : Found) → p [] ≡ false → found_token p true text ≡ Some part → FirstTokenPasses p text part
cut_first p text part z h =
    let c = cut_is p true text part h in
    let k = before_is p true text part h in
    record {
      whole = c.whole;
      token = token_if p part.word z c.passes c.black;
      passes = c.passes;
      stands_apart = k.ends;
      ends_there = as_white part.after c.begins_white;
      none_before = k.none;
    }
