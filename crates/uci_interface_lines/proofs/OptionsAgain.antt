-- The text written of an option declares it.
use Rattle.std.proofs.Common.{◌≡◌, ℕ, ℤ, int_lt, ◌^◌, ◌<◌, List, [], ◌∷◌, ◌++◌, Bool, true, false, cond, codes, refl, sym, ap, ◌∙◌, subst, append_assoc}
use Rattle.std.specs.Prelude.{nat_abs}
use Rattle.std.specs.Int.{int_min, int_max}
use Rattle.std.specs.Fmt.{signed_decimal}
use Rattle.protocol_tokens.specs.Tokens.{is_token, tokens, trimmed, first_token, rest_after_token}
use Rattle.protocol_tokens.proofs.Trims.{trimmed_again}
use Rattle.protocol_tokens.proofs.TokenLists.{tokens_trimmed, tokens_alone}
use Rattle.uci_lines.specs.Cuts.{Found, is_word, is_choice}
use Rattle.uci_lines.specs.Options.{option_text_shown}
use Rattle.uci_lines.specs.Messages.{OptionKind, Check, Spin, Combo, Button, Text, OptionLine}
use Rattle.uci_lines.specs.Spells.{ends_white, IsNoneOf, FirstTokenPasses, Behind, IsLast, HasValues, HasShape, Declares, HasForm}
use Rattle.uci_interface_lines.specs.Said.{spaced_text, each_value, true_or_false, empty_or, range_text, shape_text, option_text, said_text}
use Rattle.uci_lines.proofs.Prefixes.{BeginsWhite, first_is, rest_is}
use Rattle.uci_interface_lines.proofs.Kept.{Solid, solid_over, solid_token, first_black, solid_trimmed, trimmed_solid, spaced_white, white_over, blank_ends, blank_tokens, blank_trimmed, tokens_prefix}
use Rattle.uci_interface_lines.proofs.Again.{first_here, begins_with, behind_here}
use Rattle.uci_interface_lines.proofs.ValuesAgain.{IsClean, AllClean, clean_up, all_clean, each_white, value_up, values_again, solid_spaced, solid_each}
use Rattle.uci_interface_lines.proofs.SpinsAgain.{clamped, one_of, signed_small, number_token, spin_tokens, has_spin}

-- TEXTS OF KINDS

-- the word of a kind, and what follows it
word_of : OptionKind → List ℕ
word_of (Check on) = codes "check"
word_of (Spin default min max) = codes "spin"
word_of (Combo default values) = codes "combo"
word_of Button = codes "button"
word_of (Text default) = codes "string"

text_behind : OptionKind → List ℕ
text_behind (Check on) = codes " default " ++ true_or_false on
text_behind (Spin default min max) = (codes " default " ++ signed_decimal default) ++ range_text min max
text_behind (Combo default values) = codes " default" ++ spaced_text default ++ each_value values
text_behind Button = []
text_behind (Text default) = codes " default " ++ empty_or default

kind_text : (shape : OptionKind) → shape_text shape ≡ codes " type " ++ (word_of shape ++ text_behind shape)
unfolding word_of text_behind
kind_text (Check on) = refl
kind_text (Spin default min max) = refl
kind_text (Combo default values) = refl
kind_text Button = refl
kind_text (Text default) = refl

word_token : (shape : OptionKind) → is_token (word_of shape) ≡ true
unfolding word_of
word_token (Check on) = refl
word_token (Spin default min max) = refl
word_token (Combo default values) = refl
word_token Button = refl
word_token (Text default) = refl

behind_white : (shape : OptionKind) → BeginsWhite (text_behind shape)
unfolding text_behind
behind_white (Check on) = refl
behind_white (Spin default min max) = refl
behind_white (Combo default values) = refl
behind_white Button = tt
behind_white (Text default) = refl

-- SHAPES

-- a kind with all that it is by default, as it is read
record Stands (shape : OptionKind) : Type 0 where
  solid : Solid (word_of shape ++ text_behind shape)
  shaped : HasShape (word_of shape) (trimmed (text_behind shape)) shape

solid_word : (word : List ℕ) → is_token word ≡ true → Solid (32 ∷ word)
solid_word word h = solid_over (32 ∷ []) word (solid_token word h)

check_stands : (on : Bool) → Stands (Check on)
unfolding word_of text_behind
check_stands true = record {
  solid = solid_over (codes "check default ") (codes "true") (solid_token (codes "true") refl);
  shaped = (refl, codes " true", behind_here (codes "default") (codes " true") refl refl refl refl, refl);
}
check_stands false = record {
  solid = solid_over (codes "check default ") (codes "false") (solid_token (codes "false") refl);
  shaped = (refl, codes " false", behind_here (codes "default") (codes " false") refl refl refl refl, refl);
}

button_stands : Stands Button
unfolding word_of text_behind
button_stands = record { solid = solid_token (codes "button") refl; shaped = refl }

spin_list : (d a b : ℤ) → nat_abs d < 10 ^ 18 → nat_abs a < 10 ^ 18 → nat_abs b < 10 ^ 18 → tokens (trimmed ((codes " default " ++ signed_decimal d) ++ range_text a b)) ≡ spin_tokens d a b
spin_list d a b hd ha hb =
    tokens_trimmed ((codes " default " ++ signed_decimal d) ++ range_text a b)
    ∙ tokens_prefix (codes "default") (32 ∷ (signed_decimal d ++ range_text a b)) refl refl
    ∙ ap (λ ts. codes "default" ∷ ts) (tokens_prefix (signed_decimal d) (range_text a b) (number_token d hd) refl
    ∙ ap (λ ts. signed_decimal d ∷ ts) (tokens_prefix (codes "min") (32 ∷ (signed_decimal a ++ (codes " max " ++ signed_decimal b))) refl refl
    ∙ ap (λ ts. codes "min" ∷ ts) (tokens_prefix (signed_decimal a) (codes " max " ++ signed_decimal b) (number_token a ha) refl
    ∙ ap (λ ts. signed_decimal a ∷ ts) (tokens_prefix (codes "max") (32 ∷ signed_decimal b) refl refl
    ∙ ap (λ ts. codes "max" ∷ ts) (tokens_alone (signed_decimal b) (number_token b hb))))))

spin_solid : (d a b : ℤ) → nat_abs b < 10 ^ 18 → Solid (codes "spin" ++ ((codes " default " ++ signed_decimal d) ++ range_text a b))
spin_solid d a b h =
    solid_over (codes "spin") ((codes " default " ++ signed_decimal d) ++ range_text a b)
    (solid_over (codes " default " ++ signed_decimal d) (range_text a b)
    (solid_over (codes " min " ++ signed_decimal a) (codes " max " ++ signed_decimal b)
    (solid_over (codes " max ") (signed_decimal b) (solid_token (signed_decimal b) (number_token b h)))))

spin_stands : (d a b : ℤ) → nat_abs d < 10 ^ 18 → nat_abs a < 10 ^ 18 → nat_abs b < 10 ^ 18 → int_lt b a ≡ false → d ≡ int_max a (int_min d b) → Stands (Spin d a b)
unfolding word_of text_behind
spin_stands d a b hd ha hb l k =
    let is = spin_list d a b hd ha hb in
    let s = has_spin d a b hd ha hb in
    record {
      solid = spin_solid d a b hb;
      shaped = (
        refl,
        d,
        subst (λ (ts : List (List ℕ)). IsLast (codes "default") ts d) (sym is) s.default,
        subst (λ (ts : List (List ℕ)). IsLast (codes "min") ts a) (sym is) s.low,
        subst (λ (ts : List (List ℕ)). IsLast (codes "max") ts b) (sym is) s.high,
        l,
        k,
      );
    }

combo_solid : (default : List ℕ) (values : List (List ℕ)) → IsClean default → AllClean values → Solid (codes "default" ++ spaced_text default ++ each_value values)
combo_solid default values c h =
    subst (λ (t : List ℕ). Solid t) (append_assoc (codes "default") (spaced_text default) (each_value values))
    (solid_each (codes "default" ++ spaced_text default) values (solid_spaced (codes "default") default (solid_token (codes "default") refl) c.trim) h)

combo_stands : (default : List ℕ) (values : List (List ℕ)) → IsClean default → AllClean values → Stands (Combo default values)
unfolding word_of text_behind
combo_stands default values c h =
    let others : List ℕ = spaced_text default ++ each_value values in
    let solid = combo_solid default values c h in
    let white : BeginsWhite others = white_over (spaced_text default) (each_value values) (spaced_white default) (each_white values) in
    let text : trimmed (codes " default" ++ others) ≡ codes "default" ++ others = solid.kept in
    record {
      solid = solid_over (codes "combo ") (codes "default" ++ others) solid;
      shaped = (
        refl,
        (
          others,
          subst (λ (t : List ℕ). Behind (codes "default") t others) (sym text) (behind_here (codes "default") others refl refl refl white),
          value_up default values c,
        ),
        subst (λ (t : List ℕ). HasValues t values) (sym text)
            (HasValues.Default (record { before = []; word = codes "default"; after = others }) (first_here is_choice (codes "default") others refl refl refl white) refl (values_again default values c h)),
      );
    }

-- a text that is shown is no `<empty>`
shown_by : (b : Bool) (text default : List ℕ) → is_word (codes "<empty>") text ≡ b → default ≡ cond b [] text → text ≡ trimmed text → (default ≡ option_text_shown default) × (trimmed default ≡ default)
shown_by true text default e h k = (h ∙ ap option_text_shown (sym h), ap trimmed h ∙ sym h)
shown_by false text default e h k =
    (sym (ap (λ t. cond (is_word (codes "<empty>") t) [] t) h ∙ ap (λ b. cond b [] text) e ∙ sym h), ap trimmed h ∙ sym k ∙ sym h)

text_stands : (default : List ℕ) → trimmed default ≡ default → default ≡ option_text_shown default → Stands (Text default)
unfolding word_of text_behind
text_stands [] t h = record {
  solid = solid_over (codes "string default ") (codes "<empty>") (solid_token (codes "<empty>") refl);
  shaped = (refl, codes " <empty>", behind_here (codes "default") (codes " <empty>") refl refl refl refl, refl);
}
text_stands (b ∷ bs) t h =
    let solid = solid_trimmed b bs t in
    let text : trimmed (codes " default " ++ (b ∷ bs)) ≡ codes "default " ++ (b ∷ bs) = (solid_over (codes "default ") (b ∷ bs) solid).kept in
    record {
      solid = solid_over (codes "string default ") (b ∷ bs) solid;
      shaped = (
        refl,
        32 ∷ b ∷ bs,
        subst (λ (u : List ℕ). Behind (codes "default") u (32 ∷ b ∷ bs)) (sym text) (behind_here (codes "default") (32 ∷ b ∷ bs) refl refl refl refl),
        h ∙ ap option_text_shown (sym t),
      );
    }

default_small : (n a b d : ℤ) → nat_abs n < 10 ^ 18 → nat_abs a < 10 ^ 18 → nat_abs b < 10 ^ 18 → d ≡ int_max a (int_min n b) → nat_abs d < 10 ^ 18
default_small n a b d hn ha hb e = subst (λ (i : ℤ). nat_abs i < 10 ^ 18) (sym e) (one_of (int_lt b n) (int_lt (int_min n b) a) n a b hn ha hb)

default_stays : (n a b d : ℤ) → int_lt b a ≡ false → d ≡ int_max a (int_min n b) → d ≡ int_max a (int_min d b)
default_stays n a b d l e = e ∙ clamped (int_lt b n) (int_lt (int_min n b) a) n a b refl refl l ∙ ap (λ i. int_max a (int_min i b)) (sym e)

stands : (word text : List ℕ) (shape : OptionKind) → HasShape word text shape → Stands shape
stands word text (Check on) h = check_stands on
stands word text (Spin d a b) h =
    let hn = signed_small (h.2).digits h.1 (h.2).reads in
    let ha = signed_small (h.3).digits a (h.3).reads in
    let hb = signed_small (h.4).digits b (h.4).reads in
    spin_stands d a b (default_small h.1 a b d hn ha hb h.6) ha hb h.5 (default_stays h.1 a b d h.5 h.6)
stands word text (Combo default values) h = combo_stands default values (clean_up (h.1).0 default (h.1).2) (all_clean text values h.2)
stands word text Button h = button_stands
stands word text (Text default) h =
    let s = shown_by (is_word (codes "<empty>") (trimmed h.1)) (trimmed h.1) default refl h.3 (sym (trimmed_again h.1)) in
    text_stands default s.1 s.0

-- NAMES

-- the name up to `type`, with the blank after it
before_type : List ℕ → List ℕ
before_type [] = []
before_type (b ∷ bs) = (b ∷ bs) ++ (32 ∷ [])

named_text : (name others : List ℕ) → trimmed name ≡ name → Solid (codes "type " ++ others) → trimmed (spaced_text name ++ (codes " type " ++ others)) ≡ before_type name ++ (codes "type " ++ others)
unfolding before_type
named_text [] others t s = s.kept
named_text (b ∷ bs) others t s =
    trimmed_solid b (bs ++ (codes " type " ++ others)) (first_black b bs t) (solid_over (b ∷ bs) (codes " type " ++ others) (solid_over (32 ∷ []) (codes "type " ++ others) s))
    ∙ sym (append_assoc (b ∷ bs) (32 ∷ []) (codes "type " ++ others))

before_ends : (name : List ℕ) → ends_white true (before_type name) ≡ true
unfolding before_type
before_ends [] = refl
before_ends (b ∷ bs) = blank_ends true (b ∷ bs)

before_tokens : (name : List ℕ) → tokens (before_type name) ≡ tokens name
unfolding before_type
before_tokens [] = refl
before_tokens (b ∷ bs) = blank_tokens (b ∷ bs)

before_trimmed : (name : List ℕ) → trimmed name ≡ name → trimmed (before_type name) ≡ name
unfolding before_type
before_trimmed [] t = refl
before_trimmed (b ∷ bs) t = blank_trimmed (b ∷ bs) t

type_part : List ℕ → List ℕ → Found
type_part name others = record { before = before_type name; word = codes "type"; after = 32 ∷ others }

type_first : (name others : List ℕ) → IsNoneOf (is_word (codes "type")) (tokens name) → FirstTokenPasses (is_word (codes "type")) (before_type name ++ (codes "type " ++ others)) (type_part name others)
unfolding type_part
type_first name others n = record {
  whole = refl;
  token = refl;
  passes = refl;
  stands_apart = before_ends name;
  ends_there = refl;
  none_before = subst (λ (ts : List (List ℕ)). IsNoneOf (is_word (codes "type")) ts) (sym (before_tokens name)) n;
}

-- ALL

declared : (name : List ℕ) (shape : OptionKind) → trimmed name ≡ name → IsNoneOf (is_word (codes "type")) (tokens name) → Stands shape → Declares (codes " name" ++ (spaced_text name ++ (codes " type " ++ (word_of shape ++ text_behind shape)))) name shape
unfolding type_part
declared name shape t n s =
    let kind : List ℕ = word_of shape ++ text_behind shape in
    let white : BeginsWhite (spaced_text name ++ (codes " type " ++ kind)) = white_over (spaced_text name) (codes " type " ++ kind) (spaced_white name) refl in
    let text = rest_is (codes "name") (spaced_text name ++ (codes " type " ++ kind)) refl white ∙ named_text name kind t (solid_over (codes "type ") kind s.solid) in
    let first : first_token (32 ∷ kind) ≡ word_of shape = first_is (word_of shape) (text_behind shape) (word_token shape) (behind_white shape) in
    let others : rest_after_token (32 ∷ kind) ≡ trimmed (text_behind shape) = rest_is (word_of shape) (text_behind shape) (word_token shape) (behind_white shape) in (
      first_is (codes "name") (spaced_text name ++ (codes " type " ++ kind)) refl white,
      type_part name kind,
      subst (λ (u : List ℕ). FirstTokenPasses (is_word (codes "type")) u (type_part name kind)) (sym text) (type_first name kind n),
      sym (before_trimmed name t),
      subst (λ (w : List ℕ). HasShape w (rest_after_token (32 ∷ kind)) shape) (sym first)
          (subst (λ (u : List ℕ). HasShape (word_of shape) u shape) (sym others) s.shaped),
    )

option_text_is : (name : List ℕ) (shape : OptionKind) → option_text name shape ≡ codes "option" ++ (codes " name" ++ (spaced_text name ++ (codes " type " ++ (word_of shape ++ text_behind shape))))
option_text_is name shape = ap (λ t. codes "option name" ++ (spaced_text name ++ t)) (kind_text shape)

written : (name : List ℕ) (shape : OptionKind) → trimmed name ≡ name → IsNoneOf (is_word (codes "type")) (tokens name) → Stands shape → HasForm (codes "option" ++ (codes " name" ++ (spaced_text name ++ (codes " type " ++ (word_of shape ++ text_behind shape))))) (OptionLine name shape)
written name shape t n s =
    let text : List ℕ = codes " name" ++ (spaced_text name ++ (codes " type " ++ (word_of shape ++ text_behind shape))) in
    (text, begins_with (codes "option") text refl refl refl, declared name shape t n s)

name_kept : (text name : List ℕ) → name ≡ trimmed text → IsNoneOf (is_word (codes "type")) (tokens text) → (trimmed name ≡ name) × IsNoneOf (is_word (codes "type")) (tokens name)
name_kept text name e n = (
  ap trimmed e ∙ trimmed_again text ∙ sym e,
  subst (λ (ts : List (List ℕ)). IsNoneOf (is_word (codes "type")) ts) (sym (ap tokens e ∙ tokens_trimmed text)) n,
)

again_by : (text name : List ℕ) (shape : OptionKind) → Declares text name shape → HasForm (said_text (OptionLine name shape)) (OptionLine name shape)
unfolding said_text
again_by text name shape d =
    let k = name_kept (d.1).before name d.3 (d.2).none_before in
    let s = stands (first_token (d.1).after) (rest_after_token (d.1).after) shape d.4 in
    subst (λ (t : List ℕ). HasForm t (OptionLine name shape)) (sym (option_text_is name shape)) (written name shape k.0 k.1 s)

pub option_again : (line name : List ℕ) (shape : OptionKind) → HasForm line (OptionLine name shape) → HasForm (said_text (OptionLine name shape)) (OptionLine name shape)
option_again line name shape h = again_by h.0 name shape h.2
