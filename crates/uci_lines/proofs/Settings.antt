-- The orders that set an option, in both directions.
use Rattle.std.proofs.Common.{◌≡◌, ℕ, ◌≤◌, List, [], ◌∷◌, ◌++◌, Bool, true, false, ◌==◌, cond, Option, Some, None, is_some, codes, length, refl, sym, ap, ◌∙◌, arith, append_assoc, length-append, subst}
use Rattle.std.specs.Option.{option_map}
use Rattle.uci_lines.specs.Behind.{after}
use Rattle.uci_lines.specs.Written.{onto_first_of, value_here, option_value_cut, holds_value}
use Rattle.uci_lines.proofs.Stripped.{word_after}

some_by : (t : Bool) (x y : Option (List ℕ)) → is_some x ≡ is_some y → is_some (cond t x None) ≡ is_some (cond t y None)
some_by true x y h = h
some_by false x y h = refl

-- A word is found in a text, whatever follows a text that is no shorter.
pub after_more : (word text more : List ℕ) → length word ≤ length text → is_some (after word (text ++ more)) ≡ is_some (after word text)
after_more [] text more h = refl
after_more (b ∷ bs) [] more h = absurd (omega arith)
after_more (b ∷ bs) (c ∷ cs) more h = some_by (c == b) (after bs (cs ++ more)) (after bs cs) (after_more bs cs more (omega arith))

some_value : (o : Option (List ℕ)) (later : Option (List ℕ × List ℕ)) → is_some (value_here o later) ≡ false → (is_some o ≡ false) × (is_some later ≡ false)
some_value None later h = (refl, h)
some_value (Some others) later h = absurd (cc)

pub none_of : {A : Type 0} → (o : Option A) → is_some o ≡ false → o ≡ None
none_of None h = refl
none_of (Some x) h = absurd (cc)

is_some_onto : (b : ℕ) (o : Option (List ℕ × List ℕ)) → is_some (option_map (onto_first_of b) o) ≡ is_some o
is_some_onto b None = refl
is_some_onto b (Some halves) = refl

-- a text before ` value `, as it goes on
goes_on : (name value : List ℕ) → (name ++ codes " value") ++ (32 ∷ value) ≡ name ++ (codes " value " ++ value)
goes_on name value = append_assoc name (codes " value") (32 ∷ value)

long_enough : (b : ℕ) (name : List ℕ) → length (codes " value ") ≤ length (b ∷ (name ++ codes " value"))
long_enough b name = omega (arith, length-append name (codes " value"))

same_start : (b : ℕ) (name value bs : List ℕ) → bs ≡ name ++ (codes " value " ++ value) → is_some (after (codes " value ") (b ∷ (name ++ codes " value"))) ≡ is_some (after (codes " value ") (b ∷ bs))
same_start b name value bs e =
    sym (after_more (codes " value ") (b ∷ (name ++ codes " value")) (32 ∷ value) (long_enough b name))
    ∙ ap (λ t. is_some (after (codes " value ") (b ∷ t))) (goes_on name value ∙ sym e)

holds_step : (b : ℕ) (text : List ℕ) (o : Option (List ℕ)) (later : Option (List ℕ × List ℕ)) → is_some o ≡ false → is_some later ≡ false → is_some (value_here o (option_map (onto_first_of b) later)) ≡ false
holds_step b text None later h k = is_some_onto b later ∙ k
holds_step b text (Some others) later h k = absurd (cc)

pub record Cut (text : List ℕ) (halves : List ℕ × List ℕ) : Type 0 where
  pub whole : text ≡ halves.0 ++ (codes " value " ++ halves.1)
  pub first : holds_value (halves.0 ++ codes " value") ≡ false

later_is : (b : ℕ) (bs : List ℕ) (o : Option (List ℕ × List ℕ)) (halves : List ℕ × List ℕ) → is_some (after (codes " value ") (b ∷ bs)) ≡ false → ((q : List ℕ × List ℕ) → o ≡ Some q → Cut bs q) → option_map (onto_first_of b) o ≡ Some halves → Cut (b ∷ bs) halves
later_is b bs None halves n h e = absurd (cc)
later_is b bs (Some q) halves n h e =
    let k = h q refl in
    let same : onto_first_of b q ≡ halves = cc in
    let none : is_some (after (codes " value ") (b ∷ (q.0 ++ codes " value"))) ≡ false = same_start b q.0 q.1 bs k.whole ∙ n in
    subst (λ (r : List ℕ × List ℕ). Cut (b ∷ bs) r) same (record {
      whole = ap (λ t. b ∷ t) k.whole;
      first = holds_step b (q.0 ++ codes " value") (after (codes " value ") (b ∷ (q.0 ++ codes " value"))) (option_value_cut (q.0 ++ codes " value")) none k.first;
    })

cut_step : (b : ℕ) (bs : List ℕ) (o : Option (List ℕ)) (halves : List ℕ × List ℕ) → after (codes " value ") (b ∷ bs) ≡ o → ((q : List ℕ × List ℕ) → option_value_cut bs ≡ Some q → Cut bs q) → value_here o (option_map (onto_first_of b) (option_value_cut bs)) ≡ Some halves → Cut (b ∷ bs) halves
cut_step b bs None halves e h k = later_is b bs (option_value_cut bs) halves (ap (λ t. is_some t) e) h k
cut_step b bs (Some others) halves e h k =
    let same : ([], others) ≡ halves = first_half others halves k in
    subst (λ (r : List ℕ × List ℕ). Cut (b ∷ bs) r) same (record { whole = word_after (codes " value ") (b ∷ bs) others e; first = refl })
  where
    first_half : (x : List ℕ) (r : List ℕ × List ℕ) → Some ([], x) ≡ Some r → ([], x) ≡ r
    first_half x r e = cc

pub value_cut_is : (text : List ℕ) (halves : List ℕ × List ℕ) → option_value_cut text ≡ Some halves → Cut text halves
value_cut_is [] halves h = absurd (cc)
value_cut_is (b ∷ bs) halves h = cut_step b bs (after (codes " value ") (b ∷ bs)) halves refl (λ q k. value_cut_is bs q k) h

-- the other way round
again_step : (b : ℕ) (o : Option (List ℕ)) (later : Option (List ℕ × List ℕ)) (name value : List ℕ) → is_some o ≡ false → later ≡ Some (name, value) → value_here o (option_map (onto_first_of b) later) ≡ Some (b ∷ name, value)
again_step b None later name value h e = rw e refl
again_step b (Some others) later name value h e = absurd (cc)

pub value_cut_again : (name value : List ℕ) → holds_value (name ++ codes " value") ≡ false → option_value_cut (name ++ (codes " value " ++ value)) ≡ Some (name, value)
value_cut_again [] value h = refl
value_cut_again (b ∷ bs) value h =
    let parts = some_value (after (codes " value ") (b ∷ (bs ++ codes " value"))) (option_map (onto_first_of b) (option_value_cut (bs ++ codes " value"))) h in
    let none : is_some (after (codes " value ") (b ∷ (bs ++ (codes " value " ++ value)))) ≡ false = sym (same_start b bs value (bs ++ (codes " value " ++ value)) refl) ∙ parts.0 in
    again_step b (after (codes " value ") (b ∷ (bs ++ (codes " value " ++ value)))) (option_value_cut (bs ++ (codes " value " ++ value))) bs value none (value_cut_again bs value (sym (is_some_onto b (option_value_cut (bs ++ codes " value"))) ∙ parts.1))
