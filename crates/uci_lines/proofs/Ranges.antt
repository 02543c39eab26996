-- The last number after a word.
use Rattle.std.proofs.Common.{◌≡◌, ℕ, ℤ, List, [], ◌∷◌, ◌++◌, Bool, true, false, Option, Some, None, codes, cond, refl, sym, ap, ◌∙◌, subst}
use Rattle.std.specs.Option.{option_or}
use Rattle.protocol_tokens.specs.Numbers.{signed_number}
use Rattle.uci_lines.specs.Cuts.{is_word}
use Rattle.uci_lines.specs.Options.{SpinRange, first_signed, limited, range_from}
use Rattle.uci_lines.specs.Spells.{IsLast}
use Rattle.uci_lines.proofs.Counts.{same_text, text_same}

-- the meaning of a token for one number, with the tokens after it
abbrev newer : List ℕ → Option ℤ → List ℕ → List (List ℕ) → Option ℤ
newer word old t ts = cond (is_word word t) (option_or (first_signed ts) old) old

abbrev pub last_from : List ℕ → Option ℤ → List (List ℕ) → Option ℤ
last_from word old [] = old
last_from word old (t ∷ ts) = last_from word (newer word old t ts) ts

-- each of the three numbers of a range by itself
record Three (r : SpinRange) (t : List ℕ) (ts : List (List ℕ)) : Type 0 where
  default : (limited r t ts).default ≡ newer (codes "default") r.default t ts
  min : (limited r t ts).min ≡ newer (codes "min") r.min t ts
  max : (limited r t ts).max ≡ newer (codes "max") r.max t ts

differ : false ≡ true → ⊥
differ h = absurd (cc)

three_by : (a b c : Bool) (r : SpinRange) (t : List ℕ) (ts : List (List ℕ)) → is_word (codes "default") t ≡ a → is_word (codes "min") t ≡ b → is_word (codes "max") t ≡ c → Three r t ts
three_by true true c r t ts e f g = absurd (differ (ap (is_word (codes "min")) (sym (same_text t (codes "default") e) ∙ same_text t (codes "min") f)))
three_by true false true r t ts e f g = absurd (differ (ap (is_word (codes "max")) (sym (same_text t (codes "default") e) ∙ same_text t (codes "max") g)))
three_by false true true r t ts e f g = absurd (differ (ap (is_word (codes "max")) (sym (same_text t (codes "min") f) ∙ same_text t (codes "max") g)))
three_by true false false r t ts e f g = record { default = rw e refl; min = rw (e, f) refl; max = rw (e, g) refl }
three_by false true false r t ts e f g = record { default = rw (e, f) refl; min = rw (e, f) refl; max = rw (e, f, g) refl }
three_by false false true r t ts e f g = record { default = rw (e, f, g) refl; min = rw (e, f, g) refl; max = rw (e, f, g) refl }
three_by false false false r t ts e f g = record { default = rw (e, f, g) refl; min = rw (e, f, g) refl; max = rw (e, f, g) refl }

three : (r : SpinRange) (t : List ℕ) (ts : List (List ℕ)) → Three r t ts
three r t ts = three_by (is_word (codes "default") t) (is_word (codes "min") t) (is_word (codes "max") t) r t ts refl refl refl

pub default_is : (r : SpinRange) (ts : List (List ℕ)) → (range_from r ts).default ≡ last_from (codes "default") r.default ts
default_is r [] = refl
default_is r (t ∷ ts) = default_is (limited r t ts) ts ∙ ap (λ o. last_from (codes "default") o ts) (three r t ts).default

pub min_is : (r : SpinRange) (ts : List (List ℕ)) → (range_from r ts).min ≡ last_from (codes "min") r.min ts
min_is r [] = refl
min_is r (t ∷ ts) = min_is (limited r t ts) ts ∙ ap (λ o. last_from (codes "min") o ts) (three r t ts).min

pub max_is : (r : SpinRange) (ts : List (List ℕ)) → (range_from r ts).max ≡ last_from (codes "max") r.max ts
max_is r [] = refl
max_is r (t ∷ ts) = max_is (limited r t ts) ts ∙ ap (λ o. last_from (codes "max") o ts) (three r t ts).max

-- no number after the word
abbrev pub HasNone : List ℕ → List (List ℕ) → Type 0
HasNone word ts = (bs : List (List ℕ)) (t : List ℕ) (cs : List (List ℕ)) → ts ≡ bs ++ (word ∷ t ∷ cs) → signed_number t ≡ None

behind_first : (word t : List ℕ) (ts : List (List ℕ)) → HasNone word (t ∷ ts) → HasNone word ts
behind_first word t ts h bs u cs e = h (t ∷ bs) u cs (ap (λ us. t ∷ us) e)

none_here : (word t : List ℕ) (ts : List (List ℕ)) (b : Bool) (old : Option ℤ) → is_word word t ≡ b → HasNone word (t ∷ ts) → cond b (option_or (first_signed ts) old) old ≡ old
none_here word t ts false old e h = refl
none_here word t [] true old e h = refl
none_here word t (u ∷ us) true old e h = ap (λ o. option_or o old) (h [] u us (ap (λ w. w ∷ u ∷ us) (same_text t word e)))

kept : (word : List ℕ) (old : Option ℤ) (ts : List (List ℕ)) → HasNone word ts → last_from word old ts ≡ old
kept word old [] h = refl
kept word old (t ∷ ts) h =
    kept word (newer word old t ts) ts (behind_first word t ts h) ∙ none_here word t ts (is_word word t) old refl h

-- the value at the last such word
pub passes_by : (word t : List ℕ) (n : ℤ) (b : Bool) → is_word word t ≡ b → signed_number word ≡ None → signed_number t ≡ Some n → b ≡ false
passes_by word t n false e z h = refl
passes_by word t n true e z h = absurd (clash (sym z ∙ ap signed_number (sym (same_text t word e)) ∙ h))
  where
    clash : None ≡ Some n → ⊥
    clash k = absurd (cc)

at_last : (word digits : List ℕ) (old : Option ℤ) (others : List (List ℕ)) (n : ℤ) → signed_number word ≡ None → signed_number digits ≡ Some n → HasNone word others → last_from word old (word ∷ digits ∷ others) ≡ Some n
at_last word digits old others n z h k =
    ap (λ b. last_from word (cond b (option_or (signed_number digits) old) old) (digits ∷ others)) (text_same word word refl)
    ∙ ap (λ o. last_from word (option_or o old) (digits ∷ others)) h
    ∙ ap (λ b. last_from word (cond b (option_or (first_signed others) (Some n)) (Some n)) others) (passes_by word digits n (is_word word digits) refl z h)
    ∙ kept word (Some n) others k

up_to_last : (word digits : List ℕ) (old : Option ℤ) (before others : List (List ℕ)) (n : ℤ) → signed_number word ≡ None → signed_number digits ≡ Some n → HasNone word others → last_from word old (before ++ (word ∷ digits ∷ others)) ≡ Some n
up_to_last word digits old [] others n z h k = at_last word digits old others n z h k
up_to_last word digits old (t ∷ ts) others n z h k = up_to_last word digits (newer word old t (ts ++ (word ∷ digits ∷ others))) ts others n z h k

pub last_is : (word : List ℕ) (ts : List (List ℕ)) (n : ℤ) → signed_number word ≡ None → IsLast word ts n → last_from word None ts ≡ Some n
last_is word ts n z l = ap (last_from word None) l.whole ∙ up_to_last word l.digits None l.before l.others n z l.reads l.last

-- and back
data Found (word : List ℕ) (old : Option ℤ) (ts : List (List ℕ)) : Type 0 where
  Nowhere : last_from word old ts ≡ old → HasNone word ts → Found word old ts
  At : (n : ℤ) → last_from word old ts ≡ Some n → IsLast word ts n → Found word old ts

pub none_empty : (word : List ℕ) → HasNone word []
none_empty word [] t cs e = absurd (cc)
none_empty word (b ∷ bs) t cs e = absurd (cc)

-- no number after a further token in front
pub none_more : (word t : List ℕ) (ts : List (List ℕ)) (b : Bool) → is_word word t ≡ b → (b ≡ true → first_signed ts ≡ None) → HasNone word ts → HasNone word (t ∷ ts)
none_more word t ts true e f h [] u cs k =
    let behind : ts ≡ u ∷ cs = cc in
    sym (ap first_signed behind) ∙ f refl
none_more word t ts false e f h [] u cs k =
    let same : t ≡ word = cc in
    absurd (clash (sym e ∙ text_same t word same))
  where
    clash : false ≡ true → ⊥
    clash j = absurd (cc)
none_more word t ts b e f h (c ∷ bs) u cs k =
    let behind : ts ≡ bs ++ (word ∷ u ∷ cs) = cc in
    h bs u cs behind

pub one_further : (word t : List ℕ) (ts : List (List ℕ)) (n : ℤ) → IsLast word ts n → IsLast word (t ∷ ts) n
one_further word t ts n l = record {
  before = t ∷ l.before;
  digits = l.digits;
  others = l.others;
  whole = ap (λ us. t ∷ us) l.whole;
  reads = l.reads;
  last = l.last;
}

here_last : (word t u : List ℕ) (us : List (List ℕ)) (n : ℤ) → is_word word t ≡ true → signed_number u ≡ Some n → HasNone word (u ∷ us) → IsLast word (t ∷ u ∷ us) n
here_last word t u us n e r h = record {
  before = [];
  digits = u;
  others = us;
  whole = ap (λ w. w ∷ u ∷ us) (same_text t word e);
  reads = r;
  last = behind_first word u us h;
}

found_here : (word t : List ℕ) (ts : List (List ℕ)) (b : Bool) (s : Option ℤ) (old : Option ℤ) → is_word word t ≡ b → first_signed ts ≡ s → HasNone word ts → last_from word (cond b (option_or s old) old) ts ≡ cond b (option_or s old) old → last_from word old (t ∷ ts) ≡ last_from word (cond b (option_or s old) old) ts → Found word old (t ∷ ts)
found_here word t ts false s old e f h k l = Found.Nowhere (l ∙ k) (none_more word t ts false e (λ j. absurd (cc)) h)
found_here word t ts true None old e f h k l = Found.Nowhere (l ∙ k) (none_more word t ts true e (λ j. f) h)
found_here word t [] true (Some n) old e f h k l = absurd (cc)
found_here word t (u ∷ us) true (Some n) old e f h k l = Found.At n (l ∙ k) (here_last word t u us n e f h)

found_by : (word t : List ℕ) (ts : List (List ℕ)) (old : Option ℤ) → Found word (newer word old t ts) ts → Found word old (t ∷ ts)
found_by word t ts old (Found.At n e l) = Found.At n e (one_further word t ts n l)
found_by word t ts old (Found.Nowhere e h) = found_here word t ts (is_word word t) (first_signed ts) old refl refl h e refl

found : (word : List ℕ) (old : Option ℤ) (ts : List (List ℕ)) → Found word old ts
found word old [] = Found.Nowhere refl (none_empty word)
found word old (t ∷ ts) = found_by word t ts old (found word (newer word old t ts) ts)

of_found : (word : List ℕ) (ts : List (List ℕ)) (n : ℤ) → Found word None ts → last_from word None ts ≡ Some n → IsLast word ts n
of_found word ts n (Found.Nowhere e h) k = absurd (clash (sym e ∙ k))
  where
    clash : None ≡ Some n → ⊥
    clash j = absurd (cc)
of_found word ts n (Found.At m e l) k =
    let some : Some m ≡ Some n = sym e ∙ k in
    let same : m ≡ n = cc in
    subst (λ (i : ℤ). IsLast word ts i) same l

pub is_last : (word : List ℕ) (ts : List (List ℕ)) (n : ℤ) → last_from word None ts ≡ Some n → IsLast word ts n
is_last word ts n h = of_found word ts n (found word None ts) h
