-- The name of a feature is a token, and its name and its value are cut from one line.
use Rattle.std.proofs.Common.{◌≡◌, ℕ, zero, suc, ◌+◌, Bool, true, false, cond, not, ◌&&◌, ◌||◌, eqb, ltb, arith, List, [], ◌∷◌, length, take, drop, Option, Some, None, IfSome, refl, sym, ap, ◌∙◌, add_comm, add-one}
use Rattle.std.proofs.lemmas.Bool.Decides.{nat_tests}
use Rattle.std.specs.List.{AllByRecursion, before_first, after_first, list_all, position_or_len}
use Rattle.protocol_tokens.specs.Tokens.{is_token, is_white, token_end, trim_left}
use Rattle.cecp_driver.specs.Said.{IsName}
use Rattle.cecp_driver.proofs.Fed.{IsWhole, dropped, later, taken, trimmed_first}
use Rattle.driver_state_machine.specs.Parts.{CutFeature, Feature, cut_by, cut_of, ends_name, cut_with_feature, is_quote, onto, feature_parts, parts_from, parts_within, cut_without_feature, feature_value_cut}

abbrev IsBlack : List ℕ → Type 0
IsBlack xs = list_all (λ b. not (is_white b)) xs ≡ true

not_white : (white equals quote : Bool) → ((white || equals) || quote) ≡ false → not white ≡ true
not_white true equals quote e = absurd (cc)
not_white false equals quote e = refl

name_by : (b : Bool) (x : ℕ) (xs : List ℕ) → ends_name x ≡ b → IsBlack (take (position_or_len ends_name xs) xs) → IsBlack (take (cond (not b) (1 + position_or_len ends_name xs) 0) (x ∷ xs))
name_by true x xs e h = refl
name_by false x xs e h = rw (add_comm 1 (position_or_len ends_name xs), add-one) (rw (not_white (is_white x) (eqb x 61) (eqb x 34) e, h) refl)

name_black : (xs : List ℕ) → IsBlack (before_first ends_name xs)
name_black [] = refl
name_black (x ∷ xs) = name_by (ends_name x) x xs refl (name_black xs)

-- a feature of a line: its name is one, and so is its value
pub record IsWholeFeature (f : Feature) : Type 0 where
  pub name : IsName f.name
  pub value : IsWhole f.value

abbrev AreWhole : List Feature → Type 0
AreWhole fs = AllByRecursion IsWholeFeature fs

-- the part that is cut off is a feature of a line, and the rest is one
record IsCut (c : CutFeature) : Type 0 where
  part : IfSome c.part IsWholeFeature
  left : IsWhole c.rest

named : (name value rest : List ℕ) → IsName name → IsWhole value → IsWhole rest → IsCut (cut_with_feature name value rest)
named name value rest h k l = record { part = record { name = h; value = k }; left = l }

blank : IsWhole []
blank = record { no_feed = refl; short = omega arith }

quoted_cut : (q : Bool) (name : List ℕ) (b : ℕ) (bs : List ℕ) → IsName name → IsWhole (b ∷ bs)
    → IsCut (cond q (cut_with_feature name (before_first is_quote bs) (after_first is_quote bs)) (cut_with_feature name (before_first is_white (b ∷ bs)) (drop (token_end (b ∷ bs)) (b ∷ bs))))
quoted_cut true name b bs h k = named name _ _ h (taken _ bs (later b bs k)) (dropped _ bs (later b bs k))
quoted_cut false name b bs h k = named name _ _ h (taken _ (b ∷ bs) k) (dropped _ (b ∷ bs) k)

value_whole : (name bs : List ℕ) → IsName name → IsWhole bs → IsCut (feature_value_cut name bs)
value_whole name [] h k = named name [] [] h blank blank
value_whole name (b ∷ bs) h k = quoted_cut (eqb b 34) name b bs h k

skipped_cut : (text : List ℕ) → IsWhole text → IsCut (cut_without_feature text)
skipped_cut text h = record { part = tt; left = dropped (token_end text) text h }

whole_by : (equals : Bool) (name bs behind : List ℕ) → IsName name → IsWhole bs → IsWhole behind → IsCut (cond equals (feature_value_cut name bs) (cut_without_feature behind))
whole_by true name bs behind h k l = value_whole name bs h k
whole_by false name bs behind h k l = skipped_cut behind l

token_of : (c : ℕ) (cs : List ℕ) → IsBlack (c ∷ cs) → is_token (c ∷ cs) ≡ true
token_of c cs h =
    let some : ltb 0 (length (c ∷ cs)) ≡ true = grind (arith, nat_tests) in
    ap (λ b. b && list_all (λ x. not (is_white x)) (c ∷ cs)) some ∙ h

name_of : (c : ℕ) (cs : List ℕ) → IsBlack (c ∷ cs) → IsWhole (c ∷ cs) → IsName (c ∷ cs)
name_of c cs h k = record { token = token_of c cs h; one_line = k.no_feed; short = k.short }

whole_cut : (name after behind : List ℕ) → IsBlack name → IsWhole name → IsWhole after → IsWhole behind → IsCut (cut_by name after behind)
whole_cut [] after behind h k l w = skipped_cut behind w
whole_cut (c ∷ cs) [] behind h k l w = skipped_cut behind w
whole_cut (c ∷ cs) (b ∷ bs) behind h k l w = whole_by (eqb b 61) (c ∷ cs) bs behind (name_of c cs h k) (later b bs l) w

onto_whole : (part : Option Feature) (fs : List Feature) → IfSome part IsWholeFeature → AreWhole fs → AreWhole (onto part fs)
onto_whole None fs h k = k
onto_whole (Some f) fs h k = (h, k)

from_whole : (text : List ℕ) (next : List ℕ → List Feature) → IsWhole text → ((rest : List ℕ) → IsWhole rest → AreWhole (next rest)) → AreWhole (parts_from text next)
from_whole [] next w h = tt
from_whole (b ∷ bs) next w h =
    let end = position_or_len ends_name (b ∷ bs) in
    let cut = whole_cut (before_first ends_name (b ∷ bs)) (drop end (b ∷ bs)) bs (name_black (b ∷ bs)) (taken end (b ∷ bs) w) (dropped end (b ∷ bs) w) (later b bs w) in
    onto_whole (cut_of (b ∷ bs) bs).part (next (cut_of (b ∷ bs) bs).rest) cut.part (h (cut_of (b ∷ bs) bs).rest cut.left)

within_whole : (n : ℕ) (text : List ℕ) → IsWhole text → AreWhole (parts_within n text)
within_whole zero text w = tt
within_whole (suc n) text w = from_whole (trim_left text) (λ rest. parts_within n rest) (trimmed_first text w) (within_whole n)

pub parts_whole : (text : List ℕ) → IsWhole text → AllByRecursion IsWholeFeature (feature_parts text)
unfolding feature_parts
parts_whole text w = within_whole (length text) text w
