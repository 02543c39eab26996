-- The parts of a `feature` line.
use Rattle.std.specs.Prelude.{ℕ, zero, suc, ◌+◌, ◌<◌, ◌≤◌, List, [], ◌∷◌, length, drop, Bool}
use Rattle.std.specs.Prelude.{◌&&◌, ◌||◌, not, if◌then◌else◌, ◌==◌, Option, Some, None, IfSome}
use Rattle.std.specs.List.{before_first, after_first, position_or_len}
use Rattle.std.specs.Option.{option_map}
use Rattle.protocol_tokens.specs.Tokens.{is_white, trim_left, token_end}
use Rattle.driver_state_machine.specs.declared.feature.NamedFeature.{NamedFeature}
use Rattle.driver_state_machine.specs.declared.feature.CutFeature as code
use Rattle.protocol_tokens.specs.Bytes.{equals, quote}

-- `NAME=VALUE`, the value without its quotes
pub record Feature : Type 0 where
  pub name : List ℕ
  pub value : List ℕ

abbrev pub feature_of : NamedFeature → Feature
feature_of p = record { name = p.name.now; value = p.value.now }

-- a feature, or something else that is ignored; and what follows
pub record CutFeature : Type 0 where
  pub part : Option Feature
  pub rest : List ℕ

abbrev pub features_of : Option NamedFeature → Option Feature
features_of None = None
features_of (Some p) = Some (feature_of p)

abbrev pub cut_seen : code.CutFeature → CutFeature
cut_seen c = record { part = features_of c.part; rest = c.rest.now }

-- a name has no white space, no `=` and no quote
abbrev pub ends_name : ℕ → Bool
ends_name b = (is_white b || b == equals) || b == quote

abbrev pub is_quote : ℕ → Bool
is_quote b = b == quote

abbrev pub cut_with_feature : List ℕ → List ℕ → List ℕ → CutFeature
cut_with_feature name value rest =
    record { part = Some (record { name = name; value = value }); rest = rest }

-- A value in quotes goes up to the next quote, another up to the next white space.
abbrev pub feature_value_cut : List ℕ → List ℕ → CutFeature
feature_value_cut name [] = cut_with_feature name [] []
feature_value_cut name (b ∷ bs) =
    if b == quote
    then cut_with_feature name (before_first is_quote bs) (after_first is_quote bs)
    else cut_with_feature name (before_first is_white (b ∷ bs)) (drop (token_end (b ∷ bs)) (b ∷ bs))

-- ignored up to the next white space
abbrev pub cut_without_feature : List ℕ → CutFeature
cut_without_feature text = record { part = None; rest = drop (token_end text) text }

-- by the name and what follows it, with what stands after the first byte
abbrev pub cut_by : List ℕ → List ℕ → List ℕ → CutFeature
cut_by [] after behind = cut_without_feature behind
cut_by (c ∷ cs) [] behind = cut_without_feature behind
cut_by (c ∷ cs) (b ∷ bs) behind =
    if b == equals then feature_value_cut (c ∷ cs) bs else cut_without_feature behind

abbrev pub cut_of : List ℕ → List ℕ → CutFeature
cut_of text behind =
    cut_by (before_first ends_name text) (drop (position_or_len ends_name text) text) behind

abbrev pub onto : Option Feature → List Feature → List Feature
onto None fs = fs
onto (Some f) fs = f ∷ fs

abbrev pub parts_from : List ℕ → (List ℕ → List Feature) → List Feature
parts_from [] next = []
parts_from (b ∷ bs) next = onto (cut_of (b ∷ bs) bs).part (next (cut_of (b ∷ bs) bs).rest)

-- the features of a text, up to so many cuts
abbrev pub parts_within : ℕ → List ℕ → List Feature
parts_within zero text = []
parts_within (suc n) text = parts_from (trim_left text) (λ rest. parts_within n rest)

-- the features of a text: each cut takes a byte or more
unfoldable pub feature_parts : List ℕ → List Feature
feature_parts text = parts_within (length text) text

-- a feature has a name
abbrev pub IsNamed : CutFeature → Type 0
IsNamed c = IfSome c.part (λ f. 0 < length f.name)

-- the parts of a text: a feature and the rest
abbrev pub FitsIn : List ℕ → CutFeature → Type 0
FitsIn text c =
    IfSome c.part (λ f. length f.name + length f.value + length c.rest + 1 ≤ length text)
