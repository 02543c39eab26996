-- The list of features, part by part.
use Rattle.std.proofs.Common.{◌≡◌, ℕ, ◌+◌, ◌≤◌, List, [], ◌∷◌, ◌++◌, codes, length, map, Bool, true, false, not, cond, if◌then◌else◌, refl, sym, ap, ◌∙◌, arith, length-append, append_assoc, ◌||◌, nat_lt, suc}
use Rattle.std.proofs.lemmas.Bool.{leb-false, or_parts}
use Rattle.std.proofs.lemmas.Grind.{flat_map-append}
use Rattle.line_io.specs.Out.{Text, with}
use Rattle.line_io.proofs.Puts.{put_again}
use Rattle.cecp_lines.specs.Replies.{Feature}
use Rattle.option_map.specs.DeclaredOptions.Names.{holds}
use Rattle.option_map.specs.DeclaredOptions.Settings.{OptionSetting, features, feature_line}
use Rattle.option_map.specs.DeclaredOptions.Shown.{takes_memory, takes_cores, takes_tables}
use Rattle.option_map.proofs.DeclaredOptions.Short.{features_length}
use Rattle.option_map.specs.FeatureLists.Features.{shown_name, in_quotes, bit, fixed_features, by_options, option_feature, shown_options, feature_list, reply_line, reply_lines, FeatureListIsShort, is_unfit, tables}

shown_step : (w : Bool) (o : OptionSetting) (rest : List OptionSetting) (text : List ℕ) → text ≡ reply_lines (map option_feature rest) → (if w then [] else feature_line o ++ 10 ∷ []) ++ text ≡ reply_lines (map option_feature (cond (not w) (o ∷ rest) rest))
shown_step true o rest text h = h
shown_step false o rest text h = ap (λ (t : List ℕ). (feature_line o ++ 10 ∷ []) ++ t) h

-- The options' lines are their replies.
pub features_reported : (os : List OptionSetting) → features os ≡ reply_lines (map option_feature (shown_options os))
features_reported [] = refl
features_reported (o ∷ os) = shown_step o.hidden o (shown_options os) (features os) (features_reported os)

abbrev pub name_line : List ℕ → List ℕ
name_line said = reply_line (Feature (codes "myname") (in_quotes (shown_name said)))

abbrev pub done_line : List ℕ
done_line = codes "feature done=1\n"

-- the whole text, part by part
pub list_text : (os : List OptionSetting) (said : List ℕ) → reply_lines (feature_list os said) ≡ name_line said ++ reply_lines fixed_features ++ reply_lines (by_options os) ++ features os ++ done_line
list_text os said =
    let name = Feature (codes "myname") (in_quotes (shown_name said)) in
    let shown = map option_feature (shown_options os) in
    flat_map-append reply_line (name ∷ fixed_features ++ by_options os ++ shown) (Feature (codes "done") (codes "1") ∷ [])
    ∙ ap (λ (t : List ℕ). t ++ done_line) (flat_map-append reply_line (name ∷ fixed_features ++ by_options os) shown
    ∙ ap (λ (t : List ℕ). t ++ reply_lines shown) (flat_map-append reply_line (name ∷ fixed_features) (by_options os)))
    ∙ ap (λ (t : List ℕ). name_line said ++ reply_lines fixed_features ++ reply_lines (by_options os) ++ t ++ done_line) (sym (features_reported os))

-- the name with its line feed, put in three pieces
pub named : (o : Text) (name : List ℕ) → with (with (with o (codes "feature myname=\"")) name) (codes "\"\n") ≡ with o (reply_line (Feature (codes "myname") (in_quotes name)))
named o name =
    put_again (with o (codes "feature myname=\"")) name (codes "\"\n")
    ∙ put_again o (codes "feature myname=\"") (name ++ codes "\"\n")
    ∙ ap (λ (t : List ℕ). with o (codes "feature myname=\"" ++ t)) (sym (append_assoc name (34 ∷ []) (10 ∷ [])))

-- pieces that are put one after the other
pub three : (o p q r : Text) (a b d : List ℕ) → p ≡ with o a → q ≡ with p b → r ≡ with q d → r ≡ with o (a ++ b ++ d)
three o p q r a b d h i j =
    let two : q ≡ with o (a ++ b) = i ∙ ap (λ (x : Text). with x b) h ∙ put_again o a b in
    j ∙ ap (λ (x : Text). with x d) two ∙ put_again o (a ++ b) d

pub four : (o p q r s : Text) (a b d e : List ℕ) → p ≡ with o a → q ≡ with p b → r ≡ with q d → s ≡ with r e → s ≡ with o (a ++ b ++ d ++ e)
four o p q r s a b d e h i j k = k ∙ ap (λ (x : Text). with x e) (three o p q r a b d h i j) ∙ put_again o (a ++ b ++ d) e

pub five : (o p q r s t : Text) (a b d e f whole : List ℕ) → p ≡ with o a → q ≡ with p b → r ≡ with q d → s ≡ with r e → t ≡ with s f → whole ≡ a ++ b ++ d ++ e ++ f → t ≡ with o whole
five o p q r s t a b d e f whole h i j k l w =
    l ∙ ap (λ (x : Text). with x f) (four o p q r s a b d e h i j k) ∙ put_again o (a ++ b ++ d ++ e) f ∙ ap (λ (x : List ℕ). with o x) (sym w)

-- the features by the options, put one after the other
pub by_bits : (o p q r : Text) (os : List OptionSetting) (m s t : Bool) → p ≡ with o (reply_line (Feature (codes "memory") (bit m))) → q ≡ with p (reply_line (Feature (codes "smp") (bit s))) → r ≡ with q (reply_lines (tables t)) → m ≡ takes_memory os → s ≡ takes_cores os → t ≡ takes_tables os → r ≡ with o (reply_lines (by_options os))
by_bits o p q r os m s t h i j e f g =
    let a = reply_line (Feature (codes "memory") (bit m)) in
    let b = reply_line (Feature (codes "smp") (bit s)) in
    three o p q r a b (reply_lines (tables t)) h i j
    ∙ ap (λ (x : List ℕ). with o x) (append_assoc a b (reply_lines (tables t)))
    ∙ ap (λ x. with o (reply_lines (Feature (codes "memory") (bit x) ∷ Feature (codes "smp") (bit s) ∷ tables t))) e
    ∙ ap (λ x. with o (reply_lines (Feature (codes "memory") (bit (takes_memory os)) ∷ Feature (codes "smp") (bit x) ∷ tables t))) f
    ∙ ap (λ x. with o (reply_lines (Feature (codes "memory") (bit (takes_memory os)) ∷ Feature (codes "smp") (bit (takes_cores os)) ∷ tables x))) g

-- room for a piece after others
pub room_for : (o p : Text) (before piece behind whole : List ℕ) → p ≡ with o before → whole ≡ (before ++ piece) ++ behind → length o.text + length whole ≤ o.room → length p.text + length piece ≤ p.room
room_for o p before piece behind whole e f h =
    omega (arith, ap (λ (t : Text). length t.text) e, ap (λ (t : Text). t.room) e, length-append o.text before, ap length f, length-append (before ++ piece) behind, length-append before piece, h)

-- HOW LONG THE LIST IS

name_by : (w : Bool) (said : List ℕ) → (w ≡ false → length said ≤ 256) → length (if w then codes "UCI engine" else said) ≤ 256
name_by true said h = omega arith
name_by false said h = h refl

pub short_name : (said : List ℕ) → length (shown_name said) ≤ 256
short_name said =
    name_by (is_unfit said) said (λ e. leb-false-le (or_parts (nat_lt (length said) 1 || nat_lt 256 (length said)) (holds 34 said) e).0)
  where
    leb-false-le : (nat_lt (length said) 1 || nat_lt 256 (length said)) ≡ false → length said ≤ 256
    leb-false-le h = let k = leb-false (suc 256) (length said) (or_parts (nat_lt (length said) 1) (nat_lt 256 (length said)) h).1 in omega (arith, k)

name_length : (name : List ℕ) → length (reply_line (Feature (codes "myname") (in_quotes name))) ≡ 18 + length name
name_length name = omega (arith, length-append (codes "feature myname=\"" ++ (name ++ 34 ∷ [])) (10 ∷ []), length-append (codes "feature myname=\"") (name ++ 34 ∷ []), length-append name (34 ∷ []))

options_length : (m s t : Bool) → length (reply_lines (Feature (codes "memory") (bit m) ∷ Feature (codes "smp") (bit s) ∷ tables t)) ≤ 60
options_length true true true = omega arith
options_length true true false = omega arith
options_length true false true = omega arith
options_length true false false = omega arith
options_length false true true = omega arith
options_length false true false = omega arith
options_length false false true = omega arith
options_length false false false = omega arith

pub short_list : FeatureListIsShort
short_list os said =
    let a = name_line said in
    let b = reply_lines fixed_features in
    let d = reply_lines (by_options os) in
    let e = features os in
    omega (
      arith,
      ap length (list_text os said),
      length-append (a ++ b ++ d ++ e) done_line,
      length-append (a ++ b ++ d) e,
      length-append (a ++ b) d,
      length-append a b,
      name_length (shown_name said),
      short_name said,
      options_length (takes_memory os) (takes_cores os) (takes_tables os),
      features_length os,
    )
