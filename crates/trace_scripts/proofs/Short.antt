-- The lines of short texts have marks.
use Rattle.std.proofs.Common.{◌≡◌, ◌⊎◌, inl, inr, ℕ, suc, ◌≤◌, List, [], ◌∷◌, ◌++◌, map, length, Bool, true, false, not, cond, ◌&&◌, nat_le, is_some, refl, ap, sym, subst, ◌∙◌, arith, append_assoc, append-nil, length-append}
use Rattle.std.specs.List.{onto_first, flat_map, AllByRecursion}
use Rattle.std.proofs.lemmas.Bool.Decides.{nat_tests}
use Rattle.line_io.specs.Event.{has_feed}
use Rattle.line_io.specs.Lines.{parts_by_feed, is_feed}
use Rattle.script_lines.specs.Marks.{ToIface, ToEngine, mark_spelled}
use Rattle.script_lines.proofs.Spelled.{spelled_read}
use Rattle.trace_scripts.specs.Script.{IsShortText}
use Rattle.trace_scripts.proofs.Lines.{AreBare, bare_parts, behind, written_lines}

-- no line is longer
abbrev pub AreWithin : ℕ → List (List ℕ) → Type 0
AreWithin n ps = AllByRecursion (λ p. length p ≤ n) ps

within_more : (n : ℕ) (ps : List (List ℕ)) → AreWithin n ps → AreWithin (suc n) ps
within_more n [] a = tt
within_more n (p ∷ ps) a = (let z : length p ≤ suc n = omega (arith, a.0) in z, within_more n ps a.1)

onto_within : (x n : ℕ) (ps : List (List ℕ)) → AreWithin n ps → AreWithin (suc n) (onto_first x ps)
onto_within x n [] a = (omega arith, tt)
onto_within x n (p ∷ ps) a = (let z : suc (length p) ≤ suc n = omega (arith, a.0) in z, within_more n ps a.1)

next_within : (x n : ℕ) (ps : List (List ℕ)) (b : Bool) → AreWithin n ps → AreWithin (suc n) (cond b ([] ∷ ps) (onto_first x ps))
next_within x n ps true a = (omega arith, within_more n ps a)
next_within x n ps false a = onto_within x n ps a

-- the lines of a text that ends with a line feed are shorter than it
fed_within : (xs : List ℕ) → AreWithin (length xs) (parts_by_feed (xs ++ 10 ∷ []))
fed_within [] = (omega arith, tt)
fed_within (x ∷ xs) = next_within x (length xs) (parts_by_feed (xs ++ 10 ∷ [])) (is_feed x) (fed_within xs)

-- whole lines are nothing, or end with a line feed
ends_fed : (ls : List (List ℕ)) → (flat_map (λ line. line ++ 10 ∷ []) ls ≡ []) ⊎ ((xs : List ℕ) × (flat_map (λ line. line ++ 10 ∷ []) ls ≡ xs ++ 10 ∷ []))
ends_fed [] = inl refl
ends_fed (l ∷ ls) = next_fed l (flat_map (λ line. line ++ 10 ∷ []) ls) (ends_fed ls)
  where
    next_fed : (l rest : List ℕ) → (rest ≡ []) ⊎ ((xs : List ℕ) × (rest ≡ xs ++ 10 ∷ [])) → ((l ++ 10 ∷ []) ++ rest ≡ []) ⊎ ((xs : List ℕ) × ((l ++ 10 ∷ []) ++ rest ≡ xs ++ 10 ∷ []))
    next_fed l rest (inl e) = inr (l, ap (λ r. (l ++ 10 ∷ []) ++ r) e ∙ append-nil (l ++ 10 ∷ []))
    next_fed l rest (inr p) = inr ((l ++ 10 ∷ []) ++ p.0, ap (λ r. (l ++ 10 ∷ []) ++ r) p.1 ∙ sym (append_assoc (l ++ 10 ∷ []) p.0 (10 ∷ [])))

all_within : (m n : ℕ) (ps : List (List ℕ)) → m ≤ n → AreWithin m ps → AreWithin n ps
all_within m n [] l a = tt
all_within m n (p ∷ ps) l a = (let z : length p ≤ n = omega (arith, a.0, l) in z, all_within m n ps l a.1)

text_within : (text : List ℕ) → IsShortText text → AreWithin 131070 (parts_by_feed text)
text_within text s = by (ends_fed s.lines.lines) where
  by : (flat_map (λ line. line ++ 10 ∷ []) s.lines.lines ≡ []) ⊎ ((xs : List ℕ) × (flat_map (λ line. line ++ 10 ∷ []) s.lines.lines ≡ xs ++ 10 ∷ [])) → AreWithin 131070 (parts_by_feed text)
  by (inl e) = subst (λ t. AreWithin 131070 (parts_by_feed t)) (sym (s.lines.text_is ∙ e)) tt
  by (inr p) =
      let e : text ≡ p.0 ++ 10 ∷ [] = s.lines.text_is ∙ p.1 in
      let n : length p.0 ≤ 131070 = omega (arith, length-append p.0 (10 ∷ []), ap length e, s.short) in
      subst (λ t. AreWithin 131070 (parts_by_feed t)) (sym e) (all_within (length p.0) 131070 (parts_by_feed (p.0 ++ 10 ∷ [])) n (fed_within p.0))

both_true : (a b : Bool) → a ≡ true → b ≡ false → (a && not b) ≡ true
both_true true true e f = cc
both_true true false e f = refl
both_true false b e f = cc

is_short : (p : List ℕ) → length p ≤ 131070 → nat_le (length p) 131070 ≡ true
is_short p l = grind (arith, nat_tests)

iface_marked : (p : List ℕ) → length p ≤ 131070 → has_feed p ≡ false → is_some (mark_spelled (behind 88 p)) ≡ true
iface_marked p l b = ap is_some (spelled_read (ToIface p) (both_true (nat_le (length p) 131070) (has_feed p) (is_short p l) b))

engine_marked : (p : List ℕ) → length p ≤ 131070 → has_feed p ≡ false → is_some (mark_spelled (behind 85 p)) ≡ true
engine_marked p l b = ap is_some (spelled_read (ToEngine p) (both_true (nat_le (length p) 131070) (has_feed p) (is_short p l) b))

-- each line has a mark
abbrev pub HaveMarks : List (List ℕ) → Type 0
HaveMarks ls = AllByRecursion (λ l. is_some (mark_spelled l) ≡ true) ls

all_iface : (ps : List (List ℕ)) → AreWithin 131070 ps → AreBare ps → HaveMarks (map (behind 88) ps)
all_iface [] a b = tt
all_iface (p ∷ ps) a b = (iface_marked p a.0 b.0, all_iface ps a.1 b.1)

all_engine : (ps : List (List ℕ)) → AreWithin 131070 ps → AreBare ps → HaveMarks (map (behind 85) ps)
all_engine [] a b = tt
all_engine (p ∷ ps) a b = (engine_marked p a.0 b.0, all_engine ps a.1 b.1)

pub both_marked : (ls ms : List (List ℕ)) → HaveMarks ls → HaveMarks ms → HaveMarks (ls ++ ms)
both_marked [] ms a b = b
both_marked (l ∷ ls) ms a b = (a.0, both_marked ls ms a.1 b)

-- the lines that a step wrote have marks
pub written_marked : (iface engine : List ℕ) → IsShortText iface → IsShortText engine → HaveMarks (written_lines iface engine)
written_marked iface engine a b =
    both_marked (map (behind 88) (parts_by_feed iface)) (map (behind 85) (parts_by_feed engine)) (all_iface (parts_by_feed iface) (text_within iface a) (bare_parts iface)) (all_engine (parts_by_feed engine) (text_within engine b) (bare_parts engine))
