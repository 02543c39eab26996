-- The texts of the options that lines of an engine declare have no line feed.
use Rattle.std.proofs.Common.{◌≡◌, ℕ, List, [], ◌∷◌, ◌++◌, Bool, true, false, true≢false, not, ◌∙◌, ap, cond, codes, length, inl, inr, refl, sym, subst, arith}
use Rattle.std.proofs.lemmas.Bool.Decides.{nat_tests}
use Rattle.line_io.specs.Lines.{is_feed}
use Rattle.std.specs.Prelude.{ℤ}
use Rattle.std.specs.List.{AllByRecursion, flat_map}
use Rattle.std.specs.Fmt.{signed_decimal}
use Rattle.protocol_tokens.specs.Tokens.{rest_after_token, trimmed}
use Rattle.uci_lines.specs.Cuts.{Found, is_word, is_known}
use Rattle.uci_lines.specs.Messages as says
use Rattle.uci_lines.specs.Messages.{EngineMsg, OptionKind}
use Rattle.uci_lines.specs.Options.{option_text_shown}
use Rattle.uci_lines.specs.Engine.{engine_message}
use Rattle.uci_lines.specs.Spells.{FirstTokenPasses, FirstKnownWordIs, Behind, HasForm}
use Rattle.uci_lines.proofs.Rows.{read_spells}
use Rattle.option_map.specs.DeclaredOptions.Names.{same_text, is_hidden}
use Rattle.option_map.specs.DeclaredOptions.Choices.{with_star, with_bars, choices_text}
use Rattle.option_map.specs.DeclaredOptions.Settings.{OptionSetting, SettingKind, Spin, bit_text, setting_kind_text, shown_kind, hidden_kind}
use Rattle.option_map.specs.declared.declared_options.style.FeatureStyle.{FeatureStyle}
use Rattle.option_map.specs.declared.declared_options.style.TextFeature.{TextFeature}
use Rattle.option_map.specs.declared.declared_options.style.TextFeature.TheVariants.{AsString, AsPath, AsFile}
use Rattle.option_map.specs.DeclaredOptions.Styles.{blanked_text, is_control, name_in_style, text_feature, text_word}
use Rattle.option_map.specs.DeclaredOptions.Spelled.{IsDeclared}
use Rattle.option_map.proofs.DeclaredOptions.Values.{no_feed, IsPart, IsPiece, back_part, trimmed_part, rest_part, line_part}
use Rattle.option_map.proofs.DeclaredOptions.HeardOptions.{IsHeardShape, IsHeardOption, message_heard}
use Rattle.option_map.proofs.DeclaredOptions.Usable.{usable}
use Rattle.trace_laws.proofs.Pieces.{both_bare, either_part, none_part, signed_part}

-- PARTS OF A LINE

after_part : {n : ℕ} (p : List ℕ → Bool) (text : List ℕ) (part : Found) → FirstTokenPasses p text part → IsPart n text → IsPart n part.after
after_part p text part f h = back_part part.word part.after (part.word ++ part.after) refl (back_part part.before (part.word ++ part.after) text f.whole h)

pub begun_part : {n : ℕ} (line word text : List ℕ) → FirstKnownWordIs line word text → IsPart n line → IsPart n text
begun_part {n} line word text b h = subst (λ (t : List ℕ). IsPart n t) b.3 (after_part is_known line b.0 b.1 h)

behind_part : {n : ℕ} (word text others : List ℕ) → Behind word text others → IsPart n text → IsPart n others
behind_part {n} word text others (inl b) h = subst (λ (t : List ℕ). IsPart n t) (sym b.1) (none_part n)
behind_part {n} word text others (inr b) h = subst (λ (t : List ℕ). IsPart n t) (sym b.2) (after_part (is_word word) text b.0 b.1 h)

shown_part : {n : ℕ} (text : List ℕ) → IsPart n text → IsPart n (option_text_shown text)
shown_part {n} text h = either_part (is_word (codes "<empty>") text) [] text (none_part n) h

-- the default of a text option
default_part : (line name default : List ℕ) → engine_message line ≡ says.OptionLine name (says.Text default) → IsPart 65536 line → IsPart 65536 default
default_part line name default e h =
    let form : HasForm line (says.OptionLine name (says.Text default)) = read_spells line (says.OptionLine name (says.Text default)) e in
    let text = begun_part line (codes "option") form.0 form.1 h in
    let part = form.2.1 in
    let after = rest_part part.after (after_part (is_word (codes "type")) (rest_after_token form.0) part form.2.2 (rest_part form.0 text)) in
    let shape = form.2.4 in
    let others = behind_part (codes "default") (rest_after_token part.after) shape.1 shape.2 after in
    subst (λ (t : List ℕ). IsPart 65536 t) (sym shape.3) (shown_part (trimmed shape.1) (trimmed_part shape.1 others))

-- KINDS

choices_bare : (cs : List (List ℕ)) → AllByRecursion (λ c. no_feed c ≡ true) cs → no_feed (flat_map with_bars cs) ≡ true
choices_bare [] h = refl
choices_bare (c ∷ cs) h = both_bare (with_bars c) (flat_map with_bars cs) h.0 (choices_bare cs h.1)

combo_bare : (cs : List (List ℕ)) → AllByRecursion (λ c. no_feed c ≡ true) cs → no_feed (choices_text cs) ≡ true
combo_bare [] h = refl
combo_bare (c ∷ cs) h = both_bare c (flat_map with_bars cs) h.0 (choices_bare cs h.1)

pieces_bare : (vs : List (List ℕ)) → AllByRecursion (IsPiece 65536) vs → AllByRecursion (λ c. no_feed c ≡ true) vs
pieces_bare [] h = tt
pieces_bare (v ∷ vs) h = (h.0.part.line, pieces_bare vs h.1)

star_bare : (w : Bool) (v : List ℕ) (vs others : List (List ℕ)) → no_feed v ≡ true → AllByRecursion (λ c. no_feed c ≡ true) vs → AllByRecursion (λ c. no_feed c ≡ true) others
    → AllByRecursion (λ c. no_feed c ≡ true) (cond w ((42 ∷ v) ∷ vs) (v ∷ others))
star_bare true v vs others h k l = (h, k)
star_bare false v vs others h k l = (h, l)

starred_bare : (default : List ℕ) (vs : List (List ℕ)) → AllByRecursion (λ c. no_feed c ≡ true) vs → AllByRecursion (λ c. no_feed c ≡ true) (with_star default vs)
starred_bare default [] h = tt
starred_bare default (v ∷ vs) h = star_bare (same_text default v) v vs (with_star default vs) h.0 h.1 (starred_bare default vs h.1)

bit_bare : (b : Bool) → no_feed (codes " -check " ++ bit_text b) ≡ true
bit_bare true = refl
bit_bare false = refl

IsBare : TextFeature → SettingKind → Type 0
IsBare f k = no_feed (setting_kind_text f k) ≡ true

word_bare : (f : TextFeature) → no_feed (text_word f) ≡ true
word_bare AsString = refl
word_bare AsPath = refl
word_bare AsFile = refl

spin_bare : (f : TextFeature) (default min max : ℤ) → IsBare f (Spin default min max)
unfolding IsBare
spin_bare f default min max =
    let one = both_bare (codes " -spin ") (signed_decimal default) refl (signed_part default).line in
    let two = both_bare (codes " -spin " ++ signed_decimal default) (codes " ") one refl in
    let three = both_bare (codes " -spin " ++ signed_decimal default ++ codes " ") (signed_decimal min) two (signed_part min).line in
    let four = both_bare (codes " -spin " ++ signed_decimal default ++ codes " " ++ signed_decimal min) (codes " ") three refl in
    both_bare (codes " -spin " ++ signed_decimal default ++ codes " " ++ signed_decimal min ++ codes " ") (signed_decimal max) four (signed_part max).line

shown_bare : (f : TextFeature) (line name : List ℕ) (shape : OptionKind) → engine_message line ≡ says.OptionLine name shape → IsPart 65536 line → IsHeardShape shape → IsBare f (shown_kind shape)
unfolding IsBare
shown_bare f line name (says.Check on) e l h = bit_bare on
shown_bare f line name (says.Spin default min max) e l h = spin_bare f default min max
shown_bare f line name (says.Combo default vs) e l h = both_bare (codes " -combo ") (choices_text (with_star default vs)) refl (combo_bare (with_star default vs) (starred_bare default vs (pieces_bare vs h)))
shown_bare f line name says.Button e l h = refl
shown_bare f line name (says.Text default) e l h = both_bare (text_word f) default (word_bare f) (default_part line name default e l).line

hidden_bare : (f : TextFeature) (shape : OptionKind) → IsBare f (hidden_kind shape)
unfolding IsBare
hidden_bare f (says.Check on) = bit_bare on
hidden_bare f (says.Spin default min max) = spin_bare f default min max
hidden_bare f (says.Combo default vs) = refl
hidden_bare f says.Button = refl
hidden_bare f (says.Text default) = both_bare (text_word f) [] (word_bare f) refl

kind_by : (f : TextFeature) (w : Bool) (a b : SettingKind) → IsBare f a → IsBare f b → IsBare f (cond w a b)
kind_by f true a b h k = h
kind_by f false a b h k = k

-- the name and the kind of an option
pub declared_bare : (o : OptionSetting) → IsDeclared o → no_feed (o.name ++ setting_kind_text o.text_feature o.kind) ≡ true
unfolding IsBare
declared_bare o d =
    let part = line_part d.line d.is_line in
    let heard : IsPiece 65536 d.name × IsHeardShape d.shape = subst (λ (m : EngineMsg). IsHeardOption m) d.says (message_heard d.line part) in
    let f = text_feature d.style d.name in
    let kind = kind_by f (is_hidden d.style.strength d.name) (hidden_kind d.shape) (shown_kind d.shape) (hidden_bare f d.shape) (shown_bare f d.line d.name d.shape d.says part heard.1) in
    both_bare o.name (setting_kind_text o.text_feature o.kind) (usable o d).name.part.line (subst (λ (x : OptionSetting). IsBare x.text_feature x.kind) (sym d.kept_is) kind)

-- THE NAME OF THE ENGINE

no_feed_by : (w : Bool) (b : ℕ) → is_control b ≡ w → not (is_feed (cond w 32 b)) ≡ true
no_feed_by true b e = refl
no_feed_by false b e = by (is_feed b) refl
  where
    by : (w : Bool) → is_feed b ≡ w → not w ≡ true
    by false h = refl
    by true h =
        let is : b ≡ 10 = grind (arith, nat_tests, h) in
        let is_one : is_control b ≡ true = ap is_control is in
        absurd (true≢false (sym is_one ∙ e))

blanked_bare : (t : List ℕ) → no_feed (blanked_text t) ≡ true
blanked_bare [] = refl
blanked_bare (b ∷ bs) = rw (no_feed_by (is_control b) b refl, blanked_bare bs) refl

style_by : (w : Bool) (text : List ℕ) → no_feed text ≡ true → no_feed (cond w (trimmed (blanked_text text)) text) ≡ true
style_by true text n = (trimmed_part {most = length (blanked_text text)} (blanked_text text) (record { line = blanked_bare text; short = omega arith })).line
style_by false text n = n

-- in any style
pub styled_bare : (style : FeatureStyle) (text : List ℕ) → no_feed text ≡ true → no_feed (name_in_style style text) ≡ true
styled_bare style text n = style_by style.plain text n
