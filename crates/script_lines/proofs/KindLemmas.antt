-- No line is of two kinds.
use Rattle.std.proofs.Common.{◌≡◌, ℕ, ◌<◌, ◌^◌, List, [], ◌∷◌, ◌++◌, Bool, true, false, ◌||◌, decimal, refl, sym, ap, ◌∙◌, arith}
use Rattle.std.specs.Prelude.{◌==◌}
use Rattle.std.specs.List.{list_all}
use Rattle.std.specs.Char.{is_ascii_digit}
use Rattle.std.proofs.lemmas.Bool.Decides.{nat_tests}
use Rattle.std.proofs.lemmas.Bool.{or_from, and_parts}
use Rattle.protocol_tokens.proofs.Written.{decimal_digits}
use Rattle.line_io.specs.Event.{has_feed}
use Rattle.policy_rules.specs.declared.setting_rules.settings.Settings.{Settings}
use Rattle.policy_rules.specs.SettingRules.Policy.{IsProper}
use Rattle.script_lines.specs.Marks.{SpellsNone, mark_spelled}
use Rattle.policy_rules.specs.declared.setting_rules.table.Setting.{Setting}
use Rattle.policy_rules.specs.declared.setting_rules.table.Setting.TheVariants as names
use Rattle.policy_rules.specs.declared.setting_rules.table.Value.{Value}
use Rattle.policy_rules.specs.declared.setting_rules.table.Value.TheVariants.{Truth, Number}
use Rattle.policy_rules.specs.SettingRules.Table.{first_settings, has_usual_rest, name_of, truth_text, setting_value, setting_value_text}
use Rattle.script_lines.specs.Header.{header_text, setting_word_of, stated_in, words_text}
use Rattle.script_lines.specs.StepLine.{step_number_line}
use Rattle.script_lines.specs.Kinds.{LinesAreOfOneKind, HeadersAreLines, StepLinesAreLines}
use Rattle.script_lines.proofs.Spelled.{read_of, none_some}
use Rattle.script_lines.proofs.Numerals.{step_length}
use Rattle.script_lines.proofs.Headers.{IsSmall, is_small, header_by, header_length, header_words, sign_of}

-- a line that begins so has no mark
no_mark : (line rest : List ℕ) (sign : ℕ) → line ≡ 35 ∷ sign ∷ rest → SpellsNone line
no_mark line rest sign e = λ mark s. none_some (sym (ap mark_spelled e) ∙ read_of line mark s)

no_second : (a b : List ℕ) → 35 ∷ 50 ∷ a ≡ 35 ∷ 32 ∷ b → ⊥
no_second a b e = absurd (cc)

no_third : (a b : List ℕ) → 35 ∷ 51 ∷ a ≡ 35 ∷ 32 ∷ b → ⊥
no_third a b e = absurd (cc)

signs_differ : (usual : Bool) (a b : List ℕ) → 35 ∷ sign_of usual ∷ a ≡ 35 ∷ 32 ∷ b → ⊥
signs_differ true a b e = no_second a b e
signs_differ false a b e = no_third a b e

pub one_kind : LinesAreOfOneKind
one_kind line = record {
  header_is_no_mark = λ s h. no_mark line _ (sign_of (has_usual_rest s)) (h.text ∙ header_words s);
  step_line_is_no_mark = λ n h. no_mark line (decimal n) 32 h.text;
  header_is_no_step_line = λ s n h k. signs_differ (has_usual_rest s) _ (decimal n) (sym (h.text ∙ header_words s) ∙ k.text);
}

digit_feed : (c : ℕ) → is_ascii_digit c ≡ true → (c == 10) ≡ false
digit_feed c h = grind (arith, nat_tests)

digits_fed : (ds : List ℕ) → list_all is_ascii_digit ds ≡ true → has_feed ds ≡ false
digits_fed [] h = refl
digits_fed (d ∷ ds) h = let both = and_parts (is_ascii_digit d) (list_all is_ascii_digit ds) h in or_from (d == 10) (has_feed ds) (digit_feed d both.0) (digits_fed ds both.1)

number_fed : (n : ℕ) → n < 2 ^ 64 → has_feed (decimal n) ≡ false
number_fed n h = digits_fed (decimal n) (decimal_digits n h)

truth_fed : (b : Bool) → has_feed (truth_text b) ≡ false
truth_fed true = refl
truth_fed false = refl

both_fed : (a b : List ℕ) → has_feed a ≡ false → has_feed b ≡ false → has_feed (a ++ b) ≡ false
both_fed [] b e f = f
both_fed (x ∷ xs) b e f = by (x == 10) (has_feed xs) e (λ h. both_fed xs b h f)
  where
    by : (v t : Bool) → (v || t) ≡ false → (t ≡ false → has_feed (xs ++ b) ≡ false) → (v || has_feed (xs ++ b)) ≡ false
    by true t e g = absurd (cc)
    by false t e g = g e

pub step_fed : (n : ℕ) → n < 10 ^ 18 → has_feed (step_number_line n) ≡ false
step_fed n h = number_fed n (omega arith)

name_fed : (r : Setting) (text : List ℕ) → has_feed (name_of r ++ 61 ∷ text) ≡ has_feed text
name_fed names.Resign text = refl
name_fed r text = refl

value_fed : (v : Value) → IsSmall v → has_feed (setting_value_text v) ≡ false
value_fed (Truth b) k = truth_fed b
value_fed (Number n) k = number_fed n (omega arith)

words_fed : (s : Settings) → IsProper s → (list : List Setting) → has_feed (words_text s list) ≡ false
words_fed s p [] = refl
words_fed s p (r ∷ rs) =
    both_fed (setting_word_of s r) (words_text s rs)
    (name_fed r (setting_value_text (setting_value s r)) ∙ value_fed (setting_value s r) (is_small s p r))
    (words_fed s p rs)

fed_by : (usual : Bool) (s : Settings) → IsProper s → has_feed (header_by usual s) ≡ false
fed_by true s p = words_fed s p first_settings
fed_by false s p = words_fed s p (stated_in s)

pub header_fed : (s : Settings) → IsProper s → has_feed (header_text s) ≡ false
header_fed s p = ap has_feed (header_words s) ∙ fed_by (has_usual_rest s) s p

pub headers_are_lines : HeadersAreLines
headers_are_lines s p = record { one_line = header_fed s p; short = (let l = header_length s p in omega arith) }

pub step_lines_are_lines : StepLinesAreLines
step_lines_are_lines n h = record { one_line = step_fed n h; short = (let l = step_length n h in omega arith) }
