-- Arguments of settings, one after the other.
use Rattle.std.proofs.Common.{◌≡◌, ℕ, ◌≤◌, ◌-◌, List, [], ◌∷◌, length, get_or, take, drop, Bool, true, false, not, ◌&&◌, if◌then◌else◌, Option, Some, None, refl, sym, ap, ◌∙◌, arith}
use Rattle.std.specs.Prelude.{Vec, vec_items}
use Rattle.std.specs.Option.{option_map}
use Rattle.policy_rules.specs.declared.setting_rules.settings.Settings.{Settings}
use Rattle.policy_rules.specs.declared.setting_rules.table.Choice.{Choice}
use Rattle.policy_rules.specs.SettingRules.Table.{with_choice}
use Rattle.policy_rules.specs.SettingRules.Words.{choice_of, choices_of, name_in, with_choices, with_first}
use Rattle.replay_commands_on_core.specs.Commands.{argument_bytes}
use Rattle.replay_commands_on_core.specs.Words.{are_different, has_name, settings_after}
use Rattle.replay_commands_on_core.proofs.Words.{all_rest}

either_way : (b : Bool) (m : Option Settings) → (if b then m else m) ≡ m
either_way true m = refl
either_way false m = refl

-- a word that chooses nothing
bad_word : (s : Settings) (word : List ℕ) (arguments : List (List ℕ)) → choice_of word ≡ None → settings_after s (word ∷ arguments) ≡ None
bad_word s word arguments e =
    ap (λ (c : Option Choice). if are_different (word ∷ arguments) then option_map (with_choices s) (with_first c (choices_of arguments)) else None) e
    ∙ either_way (are_different (word ∷ arguments)) None

-- a word that chooses something, of which no later one chooses anew
one_more : (s : Settings) (word : List ℕ) (arguments : List (List ℕ)) (choice : Choice) → choice_of word ≡ Some choice → has_name (name_in word) arguments ≡ false
    → settings_after (with_choice s choice) arguments ≡ settings_after s (word ∷ arguments)
one_more s word arguments choice e f =
    ap (λ (m : Option Settings). if are_different arguments then m else None) (chosen_first (choices_of arguments))
    ∙ sym (ap (λ (c : Option Choice). if are_different arguments then option_map (with_choices s) (with_first c (choices_of arguments)) else None) e)
    ∙ sym (ap (λ (b : Bool). if not b && are_different arguments then option_map (with_choices s) (with_first (choice_of word) (choices_of arguments)) else None) f)
  where
    chosen_first : (m : Option (List Choice)) → option_map (with_choices (with_choice s choice)) m ≡ option_map (with_choices s) (with_first (Some choice) m)
    chosen_first None = refl
    chosen_first (Some choices) = refl

-- the first word, and those after it
first_of : {Z : Type 0} (arguments : List (Vec ℕ Z)) (word : Vec ℕ Z) → 1 ≤ length arguments → word ≡ get_or arguments 0 word
    → argument_bytes arguments ≡ vec_items word ∷ argument_bytes (take (length arguments - 1) (drop 1 arguments))
first_of [] word l e = absurd (omega (arith, l))
first_of {Z} (x ∷ arguments) word l e =
    ap (λ (v : Vec ℕ Z). vec_items v ∷ argument_bytes arguments) (sym e)
    ∙ ap (λ (rest : List (Vec ℕ Z)). vec_items word ∷ argument_bytes rest) (sym (all_rest (x ∷ arguments)))

module _ {Z : Type 0} (s : Settings) (arguments : List (Vec ℕ Z)) (word : Vec ℕ Z) (all : Option Settings) (here : 1 ≤ length arguments) (item : word ≡ get_or arguments 0 word) (same : settings_after s (argument_bytes arguments) ≡ all) where
  abbrev rest : List (List ℕ)
  rest = argument_bytes (take (length arguments - 1) (drop 1 arguments))

  split : settings_after s (vec_items word ∷ rest) ≡ all
  split = ap (settings_after s) (sym (first_of arguments word here item)) ∙ same

  pub at_bad : (bytes : List ℕ) → bytes ≡ vec_items word → choice_of bytes ≡ None → None ≡ all
  at_bad bytes b e = sym (bad_word s (vec_items word) rest (ap choice_of (sym b) ∙ e)) ∙ split

  pub at_next : (bytes name : List ℕ) (choice : Choice) → bytes ≡ vec_items word → choice_of bytes ≡ Some choice → name ≡ name_in (vec_items word) → has_name name rest ≡ false
      → settings_after (with_choice s choice) rest ≡ all
  at_next bytes name choice b e n f =
      one_more s (vec_items word) rest choice (ap choice_of (sym b) ∙ e) (ap (λ (l : List ℕ). has_name l rest) (sym n) ∙ f) ∙ split
