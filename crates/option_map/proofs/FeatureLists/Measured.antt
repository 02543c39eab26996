-- The lengths of feature lines, and of what is kept of an option.
use Rattle.std.proofs.Common.{◌≡◌, ◌||◌, ℕ, ◌+◌, ◌-◌, ◌<◌, ◌≤◌, List, [], ◌∷◌, ◌++◌, Bool, true, false, cond, length, refl, ap, ◌∙◌, arith, length-append, zero-add, if◌then◌else◌, codes, Some, None, nat_le}
use Rattle.std.proofs.lemmas.Bool.{leb-false, leb-true, lt-leb}
use Rattle.std.proofs.lemmas.List.Sums.{sum_by-append}
use Rattle.std.specs.List.{list_any, flat_map}
use Rattle.uci_lines.specs.Messages.{OptionKind, Check, Spin, Combo, Button, Text}
use Rattle.option_map.specs.DeclaredOptions.Names.{same_text}
use Rattle.option_map.specs.DeclaredOptions.Choices.{bars_length, are_bad_values, choices_text, with_star, with_bars, with_quotes}
use Rattle.option_map.specs.DeclaredOptions.Settings.{kept_as, kept_kind, shown_length, feature_line, text_size, OptionSetting, if_within}
use Rattle.option_map.specs.DeclaredOptions.Stored.{kind_kept}
use Rattle.option_map.specs.DeclaredOptions.Styles.{text_word}
use Rattle.option_map.specs.declared.declared_options.style.TextFeature.{TextFeature}

abbrev pub bit : Bool → ℕ
bit true = 1
bit false = 0

barred_length : (cs : List (List ℕ)) → length (flat_map with_bars cs) ≡ bars_length cs
barred_length [] = refl
barred_length (c ∷ cs) = omega (arith, length-append (with_bars c) (flat_map with_bars cs), length-append (codes " /// ") c, barred_length cs)

choices_length : (c : List ℕ) (cs : List (List ℕ)) → length (choices_text (c ∷ cs)) + 5 ≡ bars_length (c ∷ cs)
choices_length c cs = omega (arith, length-append c (flat_map with_bars cs), barred_length cs)

starred_step : (w : Bool) (v : List ℕ) (vs rest : List (List ℕ)) (any : Bool) → bars_length rest ≡ bars_length vs + bit any → bars_length (cond w ((42 ∷ v) ∷ vs) (v ∷ rest)) ≡ bars_length (v ∷ vs) + bit (w || any)
starred_step true v vs rest any h = omega arith
starred_step false v vs rest any h = omega arith

starred_bars : (default : List ℕ) (vs : List (List ℕ)) → bars_length (with_star default vs) ≡ bars_length vs + bit (list_any (same_text default) vs)
starred_bars default [] = refl
starred_bars default (v ∷ vs) = starred_step (same_text default v) v vs (with_star default vs) (list_any (same_text default) vs) (starred_bars default vs)

step_length : (w : Bool) (v : List ℕ) (vs rest : List (List ℕ)) → length (choices_text (cond w ((42 ∷ v) ∷ vs) (v ∷ rest))) + 5 ≡ bars_length (cond w ((42 ∷ v) ∷ vs) (v ∷ rest))
step_length true v vs rest = choices_length (42 ∷ v) vs
step_length false v vs rest = choices_length v rest

-- the length of the choices by that of the values
pub starred_length : (default : List ℕ) (vs : List (List ℕ)) → are_bad_values vs ≡ false → length (choices_text (with_star default vs)) + 5 ≡ bars_length vs + bit (list_any (same_text default) vs)
starred_length default [] h = absurd (cc)
starred_length default (v ∷ vs) h = step_length (same_text default v) v vs (with_star default vs) ∙ starred_bars default (v ∷ vs)

pub some_bars : (vs : List (List ℕ)) → are_bad_values vs ≡ false → 5 ≤ bars_length vs
some_bars [] h = absurd (cc)
some_bars (v ∷ vs) h = omega arith

-- Choices take no more room than they take in their line.
quoted_bars : (cs : List (List ℕ)) → length (with_quotes cs) ≤ bars_length cs
quoted_bars [] = omega arith
quoted_bars (c ∷ cs) = omega (arith, length-append (c ++ 34 ∷ []) (with_quotes cs), length-append c (34 ∷ []), quoted_bars cs)

quoted_choices : (cs : List (List ℕ)) → length (with_quotes cs) ≤ length (choices_text cs) + 5
quoted_choices [] = omega arith
quoted_choices (c ∷ cs) = omega (arith, quoted_bars (c ∷ cs), choices_length c cs)

-- the length of a spin's text
pub spin_text : (a b c : List ℕ) → length (codes " -spin " ++ a ++ codes " " ++ b ++ codes " " ++ c) ≡ 9 + length a + length b + length c
spin_text a b c =
    omega (
      arith,
      length-append (codes " -spin " ++ a ++ codes " " ++ b ++ codes " ") c,
      length-append (codes " -spin " ++ a ++ codes " " ++ b) (codes " "),
      length-append (codes " -spin " ++ a ++ codes " ") b,
      length-append (codes " -spin " ++ a) (codes " "),
      length-append (codes " -spin ") a,
    )

fit_by : (w : Bool) (n x : ℕ) → Some x ≡ (if w then Some n else None) → x ≡ n
fit_by true n x h = cc
fit_by false n x h = absurd (cc)

pub fitting_is : (most n x : ℕ) → Some x ≡ if_within most n → x ≡ n
fitting_is most n x h = fit_by (nat_le n most) n x h

none_by : (w : Bool) (n : ℕ) → None ≡ (if w then Some n else None) → w ≡ false
none_by true n h = absurd (cc)
none_by false n h = refl

pub too_long : (most n : ℕ) → most < n → None ≡ if_within most n
too_long most n h = none_fits (nat_le n most) n (lt-leb n most h)
  where
    none_fits : (w : Bool) (n : ℕ) → w ≡ false → None ≡ (if w then Some n else None)
    none_fits true n e = absurd (cc)
    none_fits false n e = refl

pub is_too_long : (most n : ℕ) → None ≡ if_within most n → most < n
is_too_long most n h = above n most (none_by (nat_le n most) n h)
  where
    above : (n m : ℕ) → nat_le n m ≡ false → m < n
    above n m e = leb-false n m e

pub sized : (bars n star : ℕ) (b : Bool) → n + 5 ≡ bars + bit b → 5 ≤ bars → star ≡ bit b → bars - 5 + star ≡ n
sized bars n star b e h k = omega (arith, e, h, k)

-- a length of at least so much more does not fit where this one does not
pub longer : (most bars n : ℕ) (b : Bool) → n + 5 ≡ bars + bit b → None ≡ if_within (most + 5) bars → None ≡ if_within most n
longer most bars n b e h = too_long most n (omega (arith, e, is_too_long (most + 5) bars h))

fits_by : (w : Bool) (n x : ℕ) → Some x ≡ (if w then Some n else None) → w ≡ true
fits_by true n x h = refl
fits_by false n x h = absurd (cc)

pub fitting_fits : (most n x : ℕ) → Some x ≡ if_within most n → x ≤ most
fitting_fits most n x h = omega (arith, fitting_is most n x h, leb-true n most (fits_by (nat_le n most) n x h))

line_length : (name tail : List ℕ) → length (codes "feature option=\"" ++ name ++ tail ++ codes "\"") ≡ 17 + length name + length tail
line_length name tail =
    omega (arith, length-append (codes "feature option=\"" ++ name ++ tail) (codes "\""), length-append (codes "feature option=\"" ++ name) tail, length-append (codes "feature option=\"") name)

small_by : (w : Bool) (f : TextFeature) (name : List ℕ) (shape : OptionKind) → length (kind_kept (kept_kind w shape)) ≤ (if w then 0 else length (feature_line (record { name = name; kind = kept_kind w shape; hidden = w; text_feature = f })))
small_by true f name (Check on) = omega arith
small_by true f name (Spin default min max) = omega arith
small_by true f name (Combo default values) = omega arith
small_by true f name Button = omega arith
small_by true f name (Text default) = omega arith
small_by false f name (Check on) = omega arith
small_by false f name (Spin default min max) = omega arith
small_by false f name (Combo default values) =
    omega (arith, quoted_choices (with_star default values), line_length name (codes " -combo " ++ choices_text (with_star default values)), length-append (codes " -combo ") (choices_text (with_star default values)))
small_by false f name Button = omega arith
small_by false f name (Text default) = omega (arith, line_length name (text_word f ++ default), length-append (text_word f) default)

-- The parts kept of an option take no more room than its line.
pub kept_small : (hidden : Bool) (feature : TextFeature) (name : List ℕ) (shape : OptionKind) → length (kind_kept (kept_kind hidden shape)) ≤ shown_length (kept_as hidden feature name shape)
kept_small hidden feature name shape = small_by hidden feature name shape

pub more_text : (os : List OptionSetting) (o : OptionSetting) → text_size (os ++ o ∷ []) ≡ text_size os + shown_length o
more_text os o = sum_by-append shown_length os (o ∷ []) ∙ ap (λ n. text_size os + n) (zero-add (shown_length o))
