-- Lines that are read as headers: their settings are proper, and they begin with a number sign.
use Rattle.std.proofs.Common.{◌≡◌, ℕ, ◌+◌, List, [], ◌∷◌, take, drop, Bool, true, false, ◌&&◌, if◌then◌else◌, nat_le, position, Option, Some, None, IfSome, option_map, option_and_then, refl, sym, ap, subst, ◌∙◌, ◌==◌, arith}
use Rattle.std.specs.List.{AllByRecursion}
use Rattle.std.proofs.lemmas.Bool.{leb-true}
use Rattle.std.specs.Str.{bytes_eq}
use Rattle.protocol_tokens.specs.Numbers.{digits}
use Rattle.protocol_tokens.specs.Tokens.{rest_after_token, tokens}
use Rattle.policy_rules.specs.declared.setting_rules.settings.Settings.{Settings}
use Rattle.policy_rules.specs.declared.setting_rules.table.Setting.{Setting}
use Rattle.policy_rules.specs.declared.setting_rules.table.Setting.TheVariants as names
use Rattle.policy_rules.specs.declared.setting_rules.table.Range.{Range}
use Rattle.policy_rules.specs.declared.setting_rules.table.Range.TheVariants as ranges
use Rattle.policy_rules.specs.declared.setting_rules.table.Value.{Value}
use Rattle.policy_rules.specs.declared.setting_rules.table.Value.TheVariants.{Truth, Number}
use Rattle.policy_rules.specs.declared.setting_rules.table.Choice.{Choice}
use Rattle.policy_rules.specs.SettingRules.Policy.{IsProper, usual}
use Rattle.policy_rules.specs.SettingRules.Table.{IsWithinRange, has_usual_rest, range_of_setting, with_choice, settings_with_value}
use Rattle.policy_rules.specs.SettingRules.Words.{choice_at, choice_for, choice_of, choices_of, is_equals, setting_named, truth_in, range_value, with_choices, with_first, within}
use Rattle.script_lines.specs.Header.{SpellsHeader, header_of, header_text, if_written, header_settings_in}
use Rattle.script_lines.proofs.Headers.{header_by, header_spelled, header_words}

-- WHAT A WORD CHOOSES

value_within : (range : Range) (text : List ℕ) → IfSome (range_value range text) (λ v. IsWithinRange range v)
value_within ranges.Truth text = by (truth_in text) where
  by : (o : Option Bool) → IfSome (option_map (λ b. Truth b) o) (λ v. IsWithinRange ranges.Truth v)
  by None = tt
  by (Some b) = tt
value_within (ranges.Number least most) text = by (digits 6 text) where
  tests : (n : ℕ) (a : Bool) → nat_le least n ≡ a → (b : Bool) → nat_le n most ≡ b
      → IfSome (option_map (λ k. Number k) (if a && b then Some n else None)) (λ v. IsWithinRange (ranges.Number least most) v)
  tests n true e true f = (leb-true least n e, leb-true n most f)
  tests n true e false f = tt
  tests n false e b f = tt

  by : (o : Option ℕ) → IfSome (option_map (λ k. Number k) (within least most o)) (λ v. IsWithinRange (ranges.Number least most) v)
  by None = tt
  by (Some n) = tests n (nat_le least n) refl (nat_le n most) refl

abbrev choice_in : Setting → Value → Choice
choice_in r v = record { setting = r; value = v }

abbrev Keeps : Choice → Type 0
Keeps choice = IsWithinRange (range_of_setting choice.setting) choice.value

keeps_for : (r : Setting) (text : List ℕ) → IfSome (choice_for r text) Keeps
keeps_for r text = by (range_value (range_of_setting r) text) (value_within (range_of_setting r) text) where
  by : (o : Option Value) → IfSome o (λ v. IsWithinRange (range_of_setting r) v) → IfSome (option_map (choice_in r) o) Keeps
  by None w = tt
  by (Some v) w = w

choice_keeps : (word : List ℕ) → IfSome (choice_of word) Keeps
choice_keeps word = at_equals (position is_equals word) where
  named : (i : ℕ) (o : Option Setting) → IfSome (option_and_then (λ setting. choice_for setting (drop (i + 1) word)) o) Keeps
  named i None = tt
  named i (Some r) = keeps_for r (drop (i + 1) word)

  at_equals : (p : Option ℕ) → IfSome (choice_at p word) Keeps
  at_equals None = tt
  at_equals (Some i) = named i (setting_named (take i word))

choices_keep : (arguments : List (List ℕ)) → IfSome (choices_of arguments) (λ choices. AllByRecursion Keeps choices)
choices_keep [] = tt
choices_keep (word ∷ arguments) = both (choice_of word) (choice_keeps word) (choices_of arguments) (choices_keep arguments) where
  both : (o : Option Choice) → IfSome o Keeps → (others : Option (List Choice)) → IfSome others (λ choices. AllByRecursion Keeps choices)
      → IfSome (with_first o others) (λ choices. AllByRecursion Keeps choices)
  both None w others a = tt
  both (Some c) w None a = tt
  both (Some c) w (Some cs) a = (w, a)

-- PROPER SETTINGS

value_proper : (s : Settings) (r : Setting) (v : Value) → IsProper s → IsWithinRange (range_of_setting r) v → IsProper (settings_with_value s r v)
value_proper s names.ResignMoves (Truth b) p w = absurd w
value_proper s names.ResignMoves (Number n) p w = record { some_moves = w.0; few_moves = w.1; low_score = p.low_score; short_margin = p.short_margin }
value_proper s names.ResignScore (Truth b) p w = absurd w
value_proper s names.ResignScore (Number n) p w = record { some_moves = p.some_moves; few_moves = p.few_moves; low_score = w.1; short_margin = p.short_margin }
value_proper s names.TimeMargin (Truth b) p w = absurd w
value_proper s names.TimeMargin (Number n) p w = record { some_moves = p.some_moves; few_moves = p.few_moves; low_score = p.low_score; short_margin = w.1 }
value_proper s r v p w = record { some_moves = p.some_moves; few_moves = p.few_moves; low_score = p.low_score; short_margin = p.short_margin }

choices_proper : (s : Settings) (choices : List Choice) → IsProper s → AllByRecursion Keeps choices → IsProper (with_choices s choices)
choices_proper s [] p a = p
choices_proper s (c ∷ cs) p a = choices_proper (with_choice s c) cs (value_proper s c.setting c.value p a.0) a.1

usual_proper : IsProper usual
usual_proper = record { some_moves = omega arith; few_moves = omega arith; low_score = omega arith; short_margin = omega arith }

words_proper : (arguments : List (List ℕ)) → IfSome (header_settings_in arguments) (λ s. IsProper s)
words_proper arguments = by (choices_of arguments) (choices_keep arguments) where
  by : (o : Option (List Choice)) → IfSome o (λ choices. AllByRecursion Keeps choices) → IfSome (option_map (with_choices usual) o) (λ s. IsProper s)
  by None a = tt
  by (Some cs) a = choices_proper usual cs usual_proper a

header_proper : (line : List ℕ) → IfSome (header_of line) (λ s. IsProper s)
header_proper line = written (header_settings_in (tokens (rest_after_token line))) (words_proper (tokens (rest_after_token line))) where
  tested : (b : Bool) (s : Settings) → IsProper s → IfSome (if b then Some s else None) (λ x. IsProper x)
  tested true s p = p
  tested false s p = tt

  written : (o : Option Settings) → IfSome o (λ s. IsProper s) → IfSome (if_written line o) (λ s. IsProper s)
  written None p = tt
  written (Some s) p = tested (bytes_eq (header_text s) line) s p

-- a line that is read as a header is one
pub header_spells : (line : List ℕ) (s : Settings) → header_of line ≡ Some s → SpellsHeader line s
header_spells line s e =
    header_spelled line s (subst (λ (o : Option Settings). IfSome o (λ x. IsProper x)) e (header_proper line)) e

-- and begins with a number sign
same_first : (a b : ℕ) (xs ys : List ℕ) → a ∷ xs ≡ b ∷ ys → a ≡ b
same_first a b xs ys e = cc

-- The line is read as no header. This is a record so that no line of a mark is taken apart as a header.
pub record IsNoHeader (line : List ℕ) : Type 0 where
  pub none : header_of line ≡ None

not_sign : (letter : ℕ) → (letter == 35) ≡ false → letter ≡ 35 → ⊥
not_sign letter other e = let z : false ≡ true = sym other ∙ ap (λ (x : ℕ). x == 35) e in cc

none_read : (letter : ℕ) (text : List ℕ) → (letter == 35) ≡ false → (o : Option Settings) → header_of (letter ∷ text) ≡ o → o ≡ None
none_read letter text other None e = refl
none_read letter text other (Some s) e = absurd (not_sign letter other (starts (has_usual_rest s) ((header_spells (letter ∷ text) s e).text ∙ header_words s))) where
  starts : (first : Bool) → letter ∷ text ≡ header_by first s → letter ≡ 35
  starts first same = same_first letter 35 text _ same

pub no_header : (letter : ℕ) (text : List ℕ) → (letter == 35) ≡ false → IsNoHeader (letter ∷ text)
no_header letter text other = record { none = none_read letter text other (header_of (letter ∷ text)) refl }
