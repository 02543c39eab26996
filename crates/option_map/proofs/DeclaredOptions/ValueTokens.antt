-- A name without the token `value` may stand in an order.
use Rattle.std.proofs.Common.{◌≡◌, ℕ, List, [], ◌∷◌, ◌++◌, Bool, true, false, cond, Option, Some, None, is_some, get_or, take, drop, ◌<◌, length, codes, refl, ap, ◌∙◌, arith, length-append, filter, ltb}
use Rattle.std.specs.List.{list_any, onto_first, slice_split}
use Rattle.std.specs.Str.{bytes_eq}
use Rattle.std.proofs.lemmas.List.Folds.{list_any-append}
use Rattle.std.proofs.lemmas.List.Elements.{filter-append}
use Rattle.std.proofs.lemmas.List.Splits.{length-slice_split}
use Rattle.std.proofs.lemmas.Bool.{or_right, both_ways}
use Rattle.protocol_tokens.specs.Tokens.{is_white, tokens}
use Rattle.protocol_tokens.proofs.TokenLists.{tokens_more, tokens_alone}
use Rattle.uci_lines.specs.Written.{option_value_cut, holds_value}
use Rattle.uci_lines.proofs.Prefixes.{BeginsWhite}
use Rattle.uci_lines.proofs.Settings.{value_cut_is}
use Rattle.option_map.specs.DeclaredOptions.Names.{has_value_token}

-- `value` is in a text, after a blank and before white space or the end
record HasValue (text : List ℕ) : Type 0 where
  pub before : List ℕ
  pub after : List ℕ
  pub whole : text ≡ before ++ (32 ∷ (codes "value" ++ after))
  pub apart : BeginsWhite after

-- THE TOKENS BESIDE A BLANK

onto_joined : (x : ℕ) (ss ts : List (List ℕ)) → 0 < length ss → onto_first x (ss ++ ts) ≡ onto_first x ss ++ ts
onto_joined x [] ts h = absurd (omega arith)
onto_joined x (s ∷ ss) ts h = refl

some_parts : (t : List ℕ) → 0 < length (slice_split is_white t)
some_parts t = omega (arith, length-slice_split is_white t)

split_step : (w : Bool) (x : ℕ) (all ss ts : List (List ℕ)) → all ≡ ss ++ ts → 0 < length ss → cond w ([] ∷ all) (onto_first x all) ≡ cond w ([] ∷ ss) (onto_first x ss) ++ ts
split_step true x all ss ts e h = ap (λ (l : List (List ℕ)). [] ∷ l) e
split_step false x all ss ts e h = ap (onto_first x) e ∙ onto_joined x ss ts h

split_apart : (a b : List ℕ) → slice_split is_white (a ++ (32 ∷ b)) ≡ slice_split is_white a ++ slice_split is_white b
split_apart [] b = refl
split_apart (x ∷ xs) b = split_step (is_white x) x (slice_split is_white (xs ++ (32 ∷ b))) (slice_split is_white xs) (slice_split is_white b) (split_apart xs b) (some_parts xs)

tokens_apart : (a b : List ℕ) → tokens (a ++ (32 ∷ b)) ≡ tokens a ++ tokens b
tokens_apart a b = ap (filter (λ part. ltb 0 (length part))) (split_apart a b) ∙ filter-append (λ part. ltb 0 (length part)) (slice_split is_white a) (slice_split is_white b)

value_first : (after : List ℕ) → BeginsWhite after → (others : List (List ℕ)) × (tokens (codes "value" ++ after) ≡ codes "value" ∷ others)
value_first [] h = ([], tokens_alone (codes "value") refl)
value_first (w ∷ more) h = (tokens more, tokens_more (codes "value") more w refl h)

has_token : (text : List ℕ) → HasValue text → has_value_token text ≡ true
has_token text h =
    let first = value_first h.after h.apart in
    let test : List ℕ → Bool = λ t. bytes_eq t (codes "value") in
    let all : tokens text ≡ tokens h.before ++ (codes "value" ∷ first.0) = ap tokens h.whole ∙ tokens_apart h.before (codes "value" ++ h.after) ∙ ap (λ (l : List (List ℕ)). tokens h.before ++ l) first.1 in
    ap (list_any test) all ∙ list_any-append test (tokens h.before) (codes "value" ∷ first.0) ∙ or_right (list_any test (tokens h.before)) true refl

-- WHERE ` value ` STANDS

-- the text before ` value`, at its end
begins_value : (t others : List ℕ) → t ++ codes " value" ≡ codes " value " ++ others → HasValue t
begins_value [] others e = absurd (omega (arith, ap length e))
begins_value (a ∷ []) others e = absurd (omega (arith, ap (λ (l : List ℕ). get_or l 1 0) e))
begins_value (a ∷ b ∷ []) others e = absurd (omega (arith, ap (λ (l : List ℕ). get_or l 2 0) e))
begins_value (a ∷ b ∷ c ∷ []) others e = absurd (omega (arith, ap (λ (l : List ℕ). get_or l 3 0) e))
begins_value (a ∷ b ∷ c ∷ d ∷ []) others e = absurd (omega (arith, ap (λ (l : List ℕ). get_or l 4 0) e))
begins_value (a ∷ b ∷ c ∷ d ∷ f ∷ []) others e = absurd (omega (arith, ap (λ (l : List ℕ). get_or l 5 0) e))
begins_value (a ∷ b ∷ c ∷ d ∷ f ∷ g ∷ []) others e = record { before = []; after = []; whole = ap (take 6) e; apart = tt }
begins_value (a ∷ b ∷ c ∷ d ∷ f ∷ g ∷ h ∷ more) others e = record {
  before = [];
  after = h ∷ more;
  whole = ap (λ (l : List ℕ). l ++ (h ∷ more)) (ap (take 6) e);
  apart = ap (λ (l : List ℕ). is_white (get_or l 6 0)) e;
}

one_before : (b : ℕ) (bs : List ℕ) → HasValue bs → HasValue (b ∷ bs)
one_before b bs h = record { before = b ∷ h.before; after = h.after; whole = ap (λ (l : List ℕ). b ∷ l) h.whole; apart = h.apart }

value_inside : (prefix t others : List ℕ) → t ++ codes " value" ≡ prefix ++ (codes " value " ++ others) → HasValue t
value_inside [] t others e = begins_value t others e
value_inside (c ∷ cs) [] others e = absurd (omega (arith, ap length e, length-append cs (codes " value " ++ others)))
value_inside (c ∷ cs) (b ∷ bs) others e = one_before b bs (value_inside cs bs others (ap (drop 1) e))

not_cut : (text : List ℕ) (o : Option (List ℕ × List ℕ)) → option_value_cut text ≡ o → ((halves : List ℕ × List ℕ) → option_value_cut text ≡ Some halves → ⊥) → is_some o ≡ false
not_cut text None e f = refl
not_cut text (Some halves) e f = absurd (f halves e)

-- neither in the name, nor where it is followed by ` value`
pub name_alone : (name : List ℕ) → has_value_token name ≡ false → holds_value name ≡ false
name_alone name h = not_cut name (option_value_cut name) refl (λ halves e. both_ways (has_value_token name) h (has_token name (record { before = halves.0; after = 32 ∷ halves.1; whole = (value_cut_is name halves e).whole; apart = refl })))

pub name_before_value : (name : List ℕ) → has_value_token name ≡ false → holds_value (name ++ codes " value") ≡ false
name_before_value name h =
    not_cut (name ++ codes " value") (option_value_cut (name ++ codes " value")) refl
    (λ halves e. both_ways (has_value_token name) h (has_token name (value_inside halves.0 name halves.1 (value_cut_is (name ++ codes " value") halves e).whole)))
