-- Headers: what is read is what is spelled.
use Rattle.std.proofs.Common.{◌≡◌, ℕ, ◌+◌, ◌<◌, ◌≤◌, ◌^◌, List, [], ◌∷◌, ◌++◌, length, map, Bool, true, false, not, cond, ◌&&◌, Option, Some, None, decimal, refl, sym, ap, ◌∙◌, subst, arith, lit<, length-append, append-nil}
use Rattle.std.specs.Prelude.{codes, nat_le, nat_lt, slice_index_or, IfSome}
use Rattle.std.specs.List.{list_all}
use Rattle.std.specs.Option.{option_map}
use Rattle.std.specs.Str.{bytes_eq}
use Rattle.std.specs.Char.{is_ascii_digit}
use Rattle.std.proofs.lemmas.Bool.Decides.{nat_tests}
use Rattle.std.proofs.lemmas.Bool.{and_parts}
use Rattle.std.proofs.lemmas.Option.{cond_some}
use Rattle.std.proofs.lemmas.Slice.Eq.{bytes_eq-Decides}
use Rattle.std.proofs.lemmas.Fmt.{length-decimal-le}
use Rattle.protocol_tokens.specs.Tokens.{is_white, is_token, rest_after_token, tokens}
use Rattle.protocol_tokens.proofs.TokenLists.{tokens_more, tokens_alone, tokens_some}
use Rattle.protocol_tokens.proofs.Written.{decimal_digits, digits_decimal}
use Rattle.protocol_tokens.proofs.Runs.{all_of}
use Rattle.policy_rules.specs.declared.setting_rules.settings.Settings.{Settings}
use Rattle.policy_rules.specs.declared.setting_rules.table.Setting.{Setting}
use Rattle.policy_rules.specs.declared.setting_rules.table.Setting.TheVariants as names
use Rattle.policy_rules.specs.declared.setting_rules.table.Range.{Range}
use Rattle.policy_rules.specs.declared.setting_rules.table.Range.TheVariants as ranges
use Rattle.policy_rules.specs.declared.setting_rules.table.Value.{Value}
use Rattle.policy_rules.specs.declared.setting_rules.table.Value.TheVariants.{Truth, Number}
use Rattle.policy_rules.specs.declared.setting_rules.table.Choice.{Choice}
use Rattle.policy_rules.specs.SettingRules.Policy.{IsProper, usual}
use Rattle.policy_rules.specs.SettingRules.Table.{IsWithinRange, first_settings, has_usual_rest, is_same_value, is_usual, is_usual_in, later_settings, name_of, other_settings, range_of_setting, settings, stated_settings, truth_text, setting_value, setting_value_text, settings_with_value, unusual_in, with_choice}
use Rattle.policy_rules.specs.SettingRules.Words.{choice_at, choice_for, choice_of, choices_of, range_value, with_choices, with_first, within}
use Rattle.script_lines.specs.Header.{SpellsHeader, header_of, header_text, header_with, if_written, header_settings_in, setting_word_of, stated_in, unusual_text, words_text}
use Rattle.script_lines.proofs.Numerals.{same_text}
use Rattle.script_lines.specs.declared.header.TheConstants.{HEADER_ROOM}
use Rattle.std.proofs.lemmas.Grind.{flat_map-append}

-- VALUES

pub is_within : (s : Settings) → IsProper s → (r : Setting) → IsWithinRange (range_of_setting r) (setting_value s r)
is_within s p names.ResignMoves = (p.some_moves, p.few_moves)
is_within s p names.ResignScore = (omega arith, p.low_score)
is_within s p names.TimeMargin = (omega arith, p.short_margin)
is_within s p r = tt

-- a number has at most six digits
abbrev pub IsSmall : Value → Type 0
IsSmall (Truth b) = Unit {0}
IsSmall (Number n) = n < 10 ^ 6

pub is_small : (s : Settings) → IsProper s → (r : Setting) → IsSmall (setting_value s r)
is_small s p names.ResignMoves = let m = p.few_moves in omega arith
is_small s p names.ResignScore = let m = p.low_score in omega arith
is_small s p names.TimeMargin = let m = p.short_margin in omega arith
is_small s p r = tt

in_range : (low high n : ℕ) → low ≤ n → n ≤ high → (nat_le low n && nat_le n high) ≡ true
in_range low high n a b = grind (arith, nat_tests)

-- what is written of a value is read again
value_again : (range : Range) (v : Value) → IsWithinRange range v → IsSmall v → range_value range (setting_value_text v) ≡ Some v
value_again ranges.Truth (Truth true) w k = refl
value_again ranges.Truth (Truth false) w k = refl
value_again ranges.Truth (Number n) w k = absurd w
value_again (ranges.Number low high) (Truth b) w k = absurd w
value_again (ranges.Number low high) (Number n) w k =
    ap (λ (o : Option ℕ). option_map (λ m. Number m) (within low high o)) (digits_decimal 6 n (omega arith) (omega arith) k)
    ∙ ap (λ t. option_map (λ m. Number m) (cond t (Some n) None)) (in_range low high n w.0 w.1)

-- WORDS

behind_name : (name text : List ℕ) → nat_lt (length name) (length (name ++ 61 ∷ text)) ≡ true
behind_name name text = grind (arith, nat_tests, length-append name (61 ∷ text))

named_by : (r : Setting) (text : List ℕ) → nat_lt (length (name_of r)) (length (name_of r ++ 61 ∷ text)) ≡ true → choice_of (name_of r ++ 61 ∷ text) ≡ choice_for r text
named_by names.Resign text h = ap (λ v. choice_at (cond v (Some 6) None) (name_of names.Resign ++ 61 ∷ text)) h
named_by r text h = ap (λ v. choice_at (cond v (Some (length (name_of r))) None) (name_of r ++ 61 ∷ text)) h

-- a name and a text are read as such
named_again : (r : Setting) (text : List ℕ) → choice_of (name_of r ++ 61 ∷ text) ≡ choice_for r text
named_again r text = named_by r text (behind_name (name_of r) text)

-- what the settings choose under a name
abbrev pub choice_in : Settings → Setting → Choice
choice_in s r = record { setting = r; value = setting_value s r }

choice_again : (s : Settings) → IsProper s → (r : Setting) → choice_of (setting_word_of s r) ≡ Some (choice_in s r)
choice_again s p r =
    named_again r (setting_value_text (setting_value s r))
    ∙ ap (λ (o : Option Value). option_map (λ v. record { setting = r; value = v }) o) (value_again (range_of_setting r) (setting_value s r) (is_within s p r) (is_small s p r))

choices_again : (s : Settings) → IsProper s → (list : List Setting) → choices_of (map (setting_word_of s) list) ≡ Some (map (choice_in s) list)
choices_again s p [] = refl
choices_again s p (r ∷ rs) =
    ap (λ (o : Option Choice). with_first o (choices_of (map (setting_word_of s) rs))) (choice_again s p r)
    ∙ ap (λ (o : Option (List Choice)). with_first (Some (choice_in s r)) o) (choices_again s p rs)

no_blank : (c : ℕ) → is_ascii_digit c ≡ true → not (is_white c) ≡ true
no_blank c h = grind (arith, nat_tests)

value_black : (v : Value) → IsSmall v → list_all (λ b. not (is_white b)) (setting_value_text v) ≡ true
value_black (Truth true) k = refl
value_black (Truth false) k = refl
value_black (Number n) k = all_of is_ascii_digit (λ b. not (is_white b)) no_blank (decimal n) (decimal_digits n (omega arith))

name_black : (r : Setting) (text : List ℕ) → list_all (λ b. not (is_white b)) (name_of r ++ 61 ∷ text) ≡ list_all (λ b. not (is_white b)) text
name_black names.Resign text = refl
name_black r text = refl

token_by : (text : List ℕ) → 0 < length text → list_all (λ b. not (is_white b)) text ≡ true → is_token text ≡ true
token_by text l h = let some : nat_lt 0 (length text) ≡ true = grind (arith, nat_tests) in rw (some, h) refl

word_token : (s : Settings) → IsProper s → (r : Setting) → is_token (setting_word_of s r) ≡ true
word_token s p r =
    let text = setting_value_text (setting_value s r) in
    token_by (setting_word_of s r) (omega (arith, length-append (name_of r) (61 ∷ text))) (name_black r text ∙ value_black (setting_value s r) (is_small s p r))

words_tokens : (s : Settings) → IsProper s → (list : List Setting) (first : List ℕ) → is_token first ≡ true → tokens (first ++ words_text s list) ≡ first ∷ map (setting_word_of s) list
words_tokens s p [] first t = ap tokens (append-nil first) ∙ tokens_alone first t
words_tokens s p (r ∷ rs) first t =
    tokens_more first (setting_word_of s r ++ words_text s rs) 32 t refl
    ∙ ap (λ ts. first ∷ ts) (words_tokens s p rs (setting_word_of s r) (word_token s p r))

-- HEADERS

-- the version, and the words of its settings
abbrev pub sign_of : Bool → ℕ
sign_of true = 50
sign_of false = 51

abbrev pub list_of : Bool → Settings → List Setting
list_of true s = first_settings
list_of false s = stated_in s

abbrev pub header_by : Bool → Settings → List ℕ
header_by usual s = 35 ∷ sign_of usual ∷ words_text s (list_of usual s)

pub header_words : (s : Settings) → header_text s ≡ header_by (has_usual_rest s) s
unfolding header_text
header_words s = by (has_usual_rest s) where
  by : (usual : Bool) → cond usual (header_with (codes "#2") first_settings s) (header_with (codes "#3") (stated_in s) s) ≡ header_by usual s
  by true = refl
  by false = refl

tails : (a b : List ℕ) (x y : List (List ℕ)) → a ∷ x ≡ b ∷ y → x ≡ y
tails a b x y e = cc

-- the words of a header
header_tokens : (usual : Bool) (s : Settings) → IsProper s → tokens (rest_after_token (header_by usual s)) ≡ map (setting_word_of s) (list_of usual s)
header_tokens true s p =
    let line = header_by true s in
    tails _ _ _ _ (sym (tokens_some line 35 (50 ∷ []) refl) ∙ words_tokens s p first_settings (35 ∷ 50 ∷ []) refl)
header_tokens false s p =
    let line = header_by false s in
    tails _ _ _ _ (sym (tokens_some line 35 (51 ∷ []) refl) ∙ words_tokens s p (stated_in s) (35 ∷ 51 ∷ []) refl)

-- the words of all settings choose them all
all_chosen : (s : Settings) → with_choices usual (map (choice_in s) settings) ≡ s
all_chosen s = refl

same_truth : (a b : Bool) → is_same_value (Truth a) (Truth b) ≡ true → Truth a ≡ Truth b
same_truth true true h = refl
same_truth true false h = cc
same_truth false true h = cc
same_truth false false h = refl

same_value : (a b : Value) → is_same_value a b ≡ true → a ≡ b
same_value (Truth a) (Truth b) h = same_truth a b h
same_value (Truth a) (Number n) h = cc
same_value (Number m) (Truth b) h = cc
same_value (Number m) (Number n) h = let same : m ≡ n = grind (arith, nat_tests) in ap (λ k. Number k) same

-- what is chosen as it is
unchanged : (s : Settings) (r : Setting) → settings_with_value s r (setting_value s r) ≡ s
unchanged s names.Resign = refl
unchanged s r = refl

-- settings that are usual in both are chosen as they are
usual_chosen : (s t : Settings) (list : List Setting) → is_usual_in list s ≡ true → is_usual_in list t ≡ true → with_choices t (map (choice_in s) list) ≡ t
usual_chosen s t [] h k = refl
usual_chosen s t (r ∷ rs) h k =
    let one = and_parts (is_usual s r) (is_usual_in rs s) h in
    let two = and_parts (is_usual t r) (is_usual_in rs t) k in
    let same = same_value (setting_value s r) (setting_value usual r) one.0 ∙ sym (same_value (setting_value t r) (setting_value usual r) two.0) in
    ap (λ u. with_choices u (map (choice_in s) rs)) (ap (settings_with_value t r) same ∙ unchanged t r)
    ∙ usual_chosen s t rs one.1 two.1

-- those of the first ones do so if all others have their usual values
first_chosen : (s : Settings) → has_usual_rest s ≡ true → with_choices usual (map (choice_in s) first_settings) ≡ s
first_chosen s h = sym (usual_chosen s (with_choices usual (map (choice_in s) first_settings)) other_settings h refl) ∙ all_chosen s

-- each of these settings is usual when its turn to be chosen comes
abbrev comes_usual : Settings → Settings → List Setting → Bool
comes_usual s t [] = true
comes_usual s t (r ∷ rs) = is_usual t r && comes_usual s (with_choice t (choice_in s r)) rs

-- one setting more, which is chosen if its value is not usual
one_more : (s t : Settings) (r : Setting) (rs : List Setting) → is_usual t r ≡ true
    → with_choices (with_choice t (choice_in s r)) (map (choice_in s) (unusual_in rs s)) ≡ with_choices (with_choice t (choice_in s r)) (map (choice_in s) rs)
    → with_choices t (map (choice_in s) (unusual_in (r ∷ rs) s)) ≡ with_choices t (map (choice_in s) (r ∷ rs))
one_more s t r rs k rest = by (is_usual s r) refl where
  by : (b : Bool) → is_usual s r ≡ b → with_choices t (map (choice_in s) (cond (not b) (r ∷ unusual_in rs s) (unusual_in rs s))) ≡ with_choices (with_choice t (choice_in s r)) (map (choice_in s) rs)
  by true e =
      let same = same_value (setting_value s r) (setting_value usual r) e ∙ sym (same_value (setting_value t r) (setting_value usual r) k) in
      ap (λ u. with_choices u (map (choice_in s) (unusual_in rs s))) (sym (ap (settings_with_value t r) same ∙ unchanged t r)) ∙ rest
  by false e = rest

-- so those that have not their usual value choose as much as all do
unusual_chosen : (s t : Settings) (list : List Setting) → comes_usual s t list ≡ true → with_choices t (map (choice_in s) (unusual_in list s)) ≡ with_choices t (map (choice_in s) list)
unusual_chosen s t [] h = refl
unusual_chosen s t (r ∷ rs) h =
    let both = and_parts (is_usual t r) (comes_usual s (with_choice t (choice_in s r)) rs) h in
    one_more s t r rs both.0 (unusual_chosen s (with_choice t (choice_in s r)) rs both.1)

stated_chosen : (s : Settings) → with_choices usual (map (choice_in s) (stated_in s)) ≡ s
stated_chosen s = unusual_chosen s (with_choices usual (map (choice_in s) stated_settings)) later_settings refl ∙ all_chosen s

chosen : (v : Bool) (s : Settings) → has_usual_rest s ≡ v → with_choices usual (map (choice_in s) (list_of v s)) ≡ s
chosen true s h = first_chosen s h
chosen false s h = stated_chosen s

settings_again : (s : Settings) → IsProper s → header_settings_in (tokens (rest_after_token (header_text s))) ≡ Some s
settings_again s p =
    let v = has_usual_rest s in
    ap (λ line. header_settings_in (tokens (rest_after_token line))) (header_words s)
    ∙ ap header_settings_in (header_tokens v s p)
    ∙ ap (option_map (with_choices usual)) (choices_again s p (list_of v s))
    ∙ ap Some (chosen v s refl)

pub header_again : (s : Settings) → IsProper s → header_of (header_text s) ≡ Some s
header_again s p =
    ap (if_written (header_text s)) (settings_again s p)
    ∙ ap (λ t. cond t (Some s) None) (same_text (header_text s))

written_by : (o : Option Settings) (line : List ℕ) (s : Settings) → if_written line o ≡ Some s → line ≡ header_text s
written_by None line s h = absurd (cc)
written_by (Some t) line s h =
    let both = cond_some (bytes_eq (header_text t) line) t s h in
    sym ((bytes_eq-Decides (header_text t) line).0 both.0) ∙ ap header_text both.1

-- what is read is spelled so
pub header_spelled : (line : List ℕ) (s : Settings) → IsProper s → header_of line ≡ Some s → SpellsHeader line s
header_spelled line s p h = record { proper = p; text = written_by (header_settings_in (tokens (rest_after_token line))) line s h }

pub spelled_header : (line : List ℕ) (s : Settings) → SpellsHeader line s → header_of line ≡ Some s
spelled_header line s h = ap header_of h.text ∙ header_again s h.proper

pub some_proper : (o : Option Settings) (s : Settings) → o ≡ Some s → IfSome o (λ x. IsProper x) → IsProper s
some_proper o s e h = subst (λ (x : Option Settings). IfSome x (λ y. IsProper y)) e h

-- LENGTHS

short_truth : (b : Bool) → length (truth_text b) ≤ 5
short_truth true = omega arith
short_truth false = omega arith

abbrev most_value : Setting → ℕ
most_value names.ResignMoves = 4
most_value names.ResignScore = 6
most_value names.TimeMargin = 5
most_value r = 5

short_value : (s : Settings) → IsProper s → (r : Setting) → length (setting_value_text (setting_value s r)) ≤ most_value r
short_value s p names.Resign = short_truth s.resign
short_value s p names.ResignMoves = length-decimal-le 4 s.resign_moves (lit< tt) (let m = p.few_moves in omega arith) (omega arith)
short_value s p names.ResignScore = length-decimal-le 6 s.resign_score (lit< tt) (let m = p.low_score in omega arith) (omega arith)
short_value s p names.TimeMargin = length-decimal-le 5 s.time_margin (lit< tt) (let m = p.short_margin in omega arith) (omega arith)
short_value s p r = short_truth _

abbrev most_words : List Setting → ℕ
most_words [] = 0
most_words (r ∷ rs) = length (name_of r) + most_value r + 2 + most_words rs

words_length : (s : Settings) → IsProper s → (list : List Setting) → length (words_text s list) ≤ most_words list
words_length s p [] = omega arith
words_length s p (r ∷ rs) =
    let l = words_length s p rs in
    let v = short_value s p r in
    omega (
      arith,
      length-append (name_of r) (61 ∷ setting_value_text (setting_value s r)),
      length-append (setting_word_of s r) (words_text s rs),
    )

-- the first word of a list has its room in the words of all
pub first_word : (s : Settings) (list : List Setting) → 1 ≤ length list → length (setting_word_of s (slice_index_or list 0 names.Resign)) + 1 ≤ length (words_text s list)
first_word s [] h = absurd (omega arith)
first_word s (r ∷ rs) h = omega (arith, length-append (32 ∷ setting_word_of s r) (words_text s rs))

-- the words of a list are those of its first setting, and the others
pub unusual_more : (s : Settings) (r : Setting) (rs : List Setting) → unusual_text s (r ∷ rs) ≡ unusual_text s (r ∷ []) ++ unusual_text s rs
unusual_more s r rs = by (is_usual s r) where
  by : (b : Bool) → words_text s (cond (not b) (r ∷ unusual_in rs s) (unusual_in rs s)) ≡ words_text s (cond (not b) (r ∷ []) []) ++ words_text s (unusual_in rs s)
  by true = refl
  by false = ap (λ bs. bs ++ words_text s (unusual_in rs s)) (sym (append-nil (32 ∷ setting_word_of s r)))

unusual_length : (s : Settings) → IsProper s → (list : List Setting) → length (unusual_text s list) ≤ most_words list
unusual_length s p [] = omega arith
unusual_length s p (r ∷ rs) =
    let l = unusual_length s p rs in
    omega (arith, ap length (unusual_more s r rs), length-append (unusual_text s (r ∷ [])) (unusual_text s rs), by (is_usual s r))
  where
    by : (b : Bool) → length (words_text s (cond (not b) (r ∷ []) [])) ≤ most_words (r ∷ [])
    by true = omega arith
    by false = words_length s p (r ∷ [])

-- the first of a list has its room in the words of all
pub first_unusual : (s : Settings) (list : List Setting) → 1 ≤ length list → length (unusual_text s (slice_index_or list 0 names.Resign ∷ [])) ≤ length (unusual_text s list)
first_unusual s [] h = absurd (omega arith)
first_unusual s (r ∷ rs) h = omega (arith, ap length (unusual_more s r rs), length-append (unusual_text s (r ∷ [])) (unusual_text s rs))

pub stated_words : (s : Settings) → words_text s (stated_in s) ≡ words_text s stated_settings ++ unusual_text s later_settings
stated_words s = flat_map-append (λ setting. 32 ∷ setting_word_of s setting) stated_settings (unusual_in later_settings s)

-- a header of version 3, in its two parts
pub third_text : (s : Settings) → has_usual_rest s ≡ false → header_text s ≡ header_with (codes "#3") stated_settings s ++ unusual_text s later_settings
third_text s h = header_words s ∙ ap (λ b. header_by b s) h ∙ ap (λ ws. 35 ∷ 51 ∷ ws) (stated_words s)

stated_length : (s : Settings) → IsProper s → length (words_text s stated_settings) ≤ 300
stated_length s p = let l = words_length s p stated_settings in omega arith

later_length : (s : Settings) → IsProper s → length (unusual_text s later_settings) ≤ 200
later_length s p = let l = unusual_length s p later_settings in omega arith

length_by : (usual : Bool) (s : Settings) → IsProper s → length (header_by usual s) ≤ HEADER_ROOM
length_by true s p = let l = words_length s p first_settings in omega arith
length_by false s p = omega (arith, ap length (stated_words s), length-append (words_text s stated_settings) (unusual_text s later_settings), stated_length s p, later_length s p)

pub header_length : (s : Settings) → IsProper s → length (header_text s) ≤ HEADER_ROOM
header_length s p = subst (λ (t : List ℕ). length t ≤ HEADER_ROOM) (sym (header_words s)) (length_by (has_usual_rest s) s p)
