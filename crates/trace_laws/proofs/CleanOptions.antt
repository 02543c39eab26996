-- Options that are declared where texts are plain have no control byte, and nor has the engine's name.
use Rattle.std.proofs.Common.{◌≡◌, ℕ, suc, List, [], ◌∷◌, ◌++◌, Bool, true, false, ◌&&◌, ◌||◌, ◌==◌, cond, codes, decimal, ltb, Option, Some, None, refl, sym, ap, ◌∙◌, arith}
use Rattle.std.specs.Prelude.{ℤ, pos, negsuc}
use Rattle.std.specs.List.{AllByRecursion, flat_map, list_all, list_any}
use Rattle.std.specs.Char.{is_ascii_digit}
use Rattle.std.specs.Fmt.{signed_decimal}
use Rattle.std.proofs.lemmas.Bool.Decides.{nat_tests}
use Rattle.std.proofs.lemmas.Bool.{or_parts, and_parts}
use Rattle.protocol_tokens.specs.Tokens.{is_white, is_blank, trim_left, trim_right, trimmed}
use Rattle.uci_lines.specs.Messages as says
use Rattle.uci_lines.specs.Messages.{OptionKind}
use Rattle.option_map.specs.declared.declared_options.declared.Declared.TheVariants as outcome
use Rattle.option_map.specs.declared.declared_options.style.FeatureStyle.{FeatureStyle}
use Rattle.option_map.specs.declared.declared_options.style.TextFeature.{TextFeature}
use Rattle.option_map.specs.declared.declared_options.style.TextFeature.TheVariants.{AsString, AsPath, AsFile}
use Rattle.option_map.specs.DeclaredOptions.Names.{same_text, is_hidden}
use Rattle.option_map.specs.DeclaredOptions.Choices.{with_star, with_bars, choices_text}
use Rattle.option_map.specs.DeclaredOptions.Styles.{is_control, has_control, is_control_shape, is_not_plain, blanked_byte, blanked_text, name_in_style, text_feature, text_word}
use Rattle.option_map.specs.DeclaredOptions.Settings.{OptionSetting, SettingKind, Spin, bit_text, spin_feature_text, setting_kind_text, shown_kind, hidden_kind, setting_from_option, option_by_name, is_combo_full, cannot_be_shown, is_unshowable, declared_beside, grown_by, after_declared}
use Rattle.option_map.specs.FeatureLists.Features.{shown_name, is_unfit}
use Rattle.trace_laws.proofs.Numerals.{numeral}

abbrev pub IsClean : List ℕ → Type 0
IsClean t = has_control t ≡ false

-- PIECES

either_none : (a b : Bool) → a ≡ false → b ≡ false → (a || b) ≡ false
either_none a b e f = rw (e, f) refl

longer_none : (w v u : Bool) → (w || v) ≡ false → (v ≡ false → u ≡ false) → (w || u) ≡ false
longer_none true v u e f = absurd (cc)
longer_none false v u e f = f e

pub both_clean : (a b : List ℕ) → IsClean a → IsClean b → IsClean (a ++ b)
both_clean [] b e f = f
both_clean (x ∷ a) b e f = longer_none (is_control x) (has_control a) (has_control (a ++ b)) e (λ h. both_clean a b h f)

bit_clean : (on : Bool) → IsClean (codes " -check " ++ bit_text on)
bit_clean true = refl
bit_clean false = refl

word_clean : (f : TextFeature) → IsClean (text_word f)
word_clean AsString = refl
word_clean AsPath = refl
word_clean AsFile = refl

digit_clean : (c : ℕ) → is_ascii_digit c ≡ true → is_control c ≡ false
digit_clean c h =
    let high : ltb c 32 ≡ false = grind (arith, nat_tests, h) in
    let other : (c == 127) ≡ false = grind (arith, nat_tests, h) in
    either_none (ltb c 32) (c == 127) high other

digits_clean : (ds : List ℕ) → list_all is_ascii_digit ds ≡ true → IsClean ds
digits_clean [] h = refl
digits_clean (d ∷ ds) h =
    let parts = and_parts (is_ascii_digit d) (list_all is_ascii_digit ds) h in
    either_none (is_control d) (has_control ds) (digit_clean d parts.0) (digits_clean ds parts.1)

number_clean : (z : ℤ) → IsClean (signed_decimal z)
number_clean (pos n) = digits_clean (decimal n) (numeral n).all
number_clean (negsuc n) = digits_clean (decimal (suc n)) (numeral (suc n)).all

spin_clean : (default min max : ℤ) → IsClean (spin_feature_text default min max)
spin_clean default min max =
    let one = both_clean (codes " -spin ") (signed_decimal default) refl (number_clean default) in
    let two = both_clean (codes " -spin " ++ signed_decimal default) (codes " ") one refl in
    let three = both_clean (codes " -spin " ++ signed_decimal default ++ codes " ") (signed_decimal min) two (number_clean min) in
    let four = both_clean (codes " -spin " ++ signed_decimal default ++ codes " " ++ signed_decimal min) (codes " ") three refl in
    both_clean (codes " -spin " ++ signed_decimal default ++ codes " " ++ signed_decimal min ++ codes " ") (signed_decimal max) four (number_clean max)

-- COMBOS

bars_clean : (vs : List (List ℕ)) → list_any has_control vs ≡ false → IsClean (flat_map with_bars vs)
bars_clean [] h = refl
bars_clean (v ∷ vs) h =
    let parts = or_parts (has_control v) (list_any has_control vs) h in
    both_clean (with_bars v) (flat_map with_bars vs) parts.0 (bars_clean vs parts.1)

choices_clean : (vs : List (List ℕ)) → list_any has_control vs ≡ false → IsClean (choices_text vs)
choices_clean [] h = refl
choices_clean (v ∷ vs) h =
    let parts = or_parts (has_control v) (list_any has_control vs) h in
    both_clean v (flat_map with_bars vs) parts.0 (bars_clean vs parts.1)

star_by : (w : Bool) (v : List ℕ) (vs starred : List (List ℕ)) → list_any has_control (v ∷ vs) ≡ false → list_any has_control starred ≡ false → list_any has_control (cond w ((42 ∷ v) ∷ vs) (v ∷ starred)) ≡ false
star_by true v vs starred h k = h
star_by false v vs starred h k = either_none (has_control v) (list_any has_control starred) (or_parts (has_control v) (list_any has_control vs) h).0 k

starred_clean : (default : List ℕ) (vs : List (List ℕ)) → list_any has_control vs ≡ false → list_any has_control (with_star default vs) ≡ false
starred_clean default [] h = refl
starred_clean default (v ∷ vs) h =
    star_by (same_text default v) v vs (with_star default vs) h (starred_clean default vs (or_parts (has_control v) (list_any has_control vs) h).1)

-- OPTIONS

abbrev pub IsCleanOption : OptionSetting → Type 0
IsCleanOption o = IsClean (o.name ++ setting_kind_text o.text_feature o.kind)

shown_clean : (f : TextFeature) (shape : OptionKind) → is_control_shape shape ≡ false → IsClean (setting_kind_text f (shown_kind shape))
shown_clean f (says.Check on) h = bit_clean on
shown_clean f (says.Spin default min max) h = spin_clean default min max
shown_clean f (says.Combo default vs) h =
    both_clean (codes " -combo ") (choices_text (with_star default vs)) refl (choices_clean (with_star default vs) (starred_clean default vs (or_parts (has_control default) (list_any has_control vs) h).1))
shown_clean f says.Button h = refl
shown_clean f (says.Text default) h = both_clean (text_word f) default (word_clean f) h

hidden_clean : (f : TextFeature) (shape : OptionKind) → IsClean (setting_kind_text f (hidden_kind shape))
hidden_clean f (says.Check on) = bit_clean on
hidden_clean f (says.Spin default min max) = spin_clean default min max
hidden_clean f (says.Combo default vs) = refl
hidden_clean f says.Button = refl
hidden_clean f (says.Text default) = both_clean (text_word f) [] (word_clean f) refl

kind_clean : (f : TextFeature) (w : Bool) (a b : SettingKind) → IsClean (setting_kind_text f a) → IsClean (setting_kind_text f b) → IsClean (setting_kind_text f (cond w a b))
kind_clean f true a b h k = h
kind_clean f false a b h k = k

plain_by : (p q : Bool) → p ≡ true → (p && q) ≡ false → q ≡ false
plain_by true q e h = h
plain_by false q e h = absurd (cc)

kept_clean : (style : FeatureStyle) (name : List ℕ) (shape : OptionKind) → style.plain ≡ true → is_unshowable style name shape ≡ false → IsCleanOption (setting_from_option style name shape)
kept_clean style name shape e u =
    let f = text_feature style name in
    let texts = has_control name || is_control_shape shape in
    let parts = or_parts (has_control name) (is_control_shape shape) (plain_by style.plain texts e (or_parts (cannot_be_shown name shape) (is_not_plain style name shape) u).1) in
    both_clean name (setting_kind_text f (setting_from_option style name shape).kind) parts.0
    (kind_clean f (is_hidden style.strength name) (hidden_kind shape) (shown_kind shape) (hidden_clean f shape) (shown_clean f shape parts.1))

abbrev pub AreCleanOptions : List OptionSetting → Type 0
AreCleanOptions os = AllByRecursion IsCleanOption os

one_more : (os : List OptionSetting) (o : OptionSetting) → AreCleanOptions os → IsCleanOption o → AreCleanOptions (os ++ o ∷ [])
one_more [] o h d = (d, tt)
one_more (p ∷ os) o h d = (h.0, one_more os o h.1 d)

full_step : (w : Bool) (os : List OptionSetting) (o : OptionSetting) → AreCleanOptions os → IsCleanOption o → AreCleanOptions (grown_by (cond w outcome.Full outcome.Done) os o)
full_step true os o h d = h
full_step false os o h d = one_more os o h d

beside_step : (other : Option OptionSetting) (os : List OptionSetting) (o : OptionSetting) → AreCleanOptions os → IsCleanOption o → AreCleanOptions (grown_by (declared_beside other os o) os o)
beside_step (Some other) os o h d = h
beside_step None os o h d = full_step (is_combo_full os o) os o h d

show_step : (w : Bool) (other : Option OptionSetting) (os : List OptionSetting) (o : OptionSetting) → AreCleanOptions os → (w ≡ false → IsCleanOption o) → AreCleanOptions (grown_by (cond w outcome.Unshowable (declared_beside other os o)) os o)
show_step true other os o h f = h
show_step false other os o h f = beside_step other os o h (f refl)

pub declared_clean : (style : FeatureStyle) (os : List OptionSetting) (name : List ℕ) (shape : OptionKind) → style.plain ≡ true → AreCleanOptions os → AreCleanOptions (after_declared style os name shape)
declared_clean style os name shape e h = show_step (is_unshowable style name shape) (option_by_name name os) os (setting_from_option style name shape) h (λ u. kept_clean style name shape e u)

-- THE NAME OF THE ENGINE

blanked_by : (w : Bool) (b : ℕ) → is_control b ≡ w → is_control (cond w 32 b) ≡ false
blanked_by true b e = refl
blanked_by false b e = e

blanked_clean : (t : List ℕ) → IsClean (blanked_text t)
blanked_clean [] = refl
blanked_clean (b ∷ bs) = either_none (is_control (blanked_byte b)) (has_control (blanked_text bs)) (blanked_by (is_control b) b refl) (blanked_clean bs)

cut_by : (w : Bool) (a b : List ℕ) → IsClean a → IsClean b → IsClean (cond w a b)
cut_by true a b h k = h
cut_by false a b h k = k

left_clean : (t : List ℕ) → IsClean t → IsClean (trim_left t)
left_clean [] h = h
left_clean (b ∷ bs) h = cut_by (is_white b) (trim_left bs) (b ∷ bs) (left_clean bs (or_parts (is_control b) (has_control bs) h).1) h

right_clean : (t : List ℕ) → IsClean t → IsClean (trim_right t)
right_clean [] h = h
right_clean (b ∷ bs) h =
    let parts = or_parts (is_control b) (has_control bs) h in
    cut_by (is_blank (b ∷ bs)) [] (b ∷ trim_right bs) refl (either_none (is_control b) (has_control (trim_right bs)) parts.0 (right_clean bs parts.1))

styled_by : (w : Bool) (said : List ℕ) → w ≡ true → IsClean (cond w (trimmed (blanked_text said)) said)
styled_by true said e = right_clean (trim_left (blanked_text said)) (left_clean (blanked_text said) (blanked_clean said))
styled_by false said e = absurd (cc)

pub shown_name_clean : (said : List ℕ) → IsClean said → IsClean (shown_name said)
shown_name_clean said h = cut_by (is_unfit said) (codes "UCI engine") said refl h

pub name_clean : (style : FeatureStyle) (said : List ℕ) → style.plain ≡ true → IsClean (shown_name (name_in_style style said))
name_clean style said e = shown_name_clean (name_in_style style said) (styled_by style.plain said e)
