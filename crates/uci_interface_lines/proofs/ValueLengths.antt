-- The text written of a combo is hardly longer than what was read.
use Rattle.std.proofs.Common.{◌≡◌, ℕ, suc, ◌+◌, ◌<◌, ◌≤◌, List, [], ◌∷◌, ◌++◌, Bool, true, false, not, ◌&&◌, ◌||◌, cond, length, Option, Some, None, codes, refl, sym, ap, ◌∙◌, subst, arith, append_assoc, length-append}
use Rattle.std.specs.List.{list_all}
use Rattle.std.proofs.lemmas.List.Folds.{list_all-append}
use Rattle.std.proofs.lemmas.Bool.{and_parts}
use Rattle.protocol_tokens.specs.Tokens.{is_white, is_blank, is_token, tokens, trim_right, trimmed}
use Rattle.uci_lines.specs.Cuts.{Found, found_token, is_word, is_choice}
use Rattle.uci_lines.specs.Choices.{before_choice}
use Rattle.uci_lines.specs.Spells.{begins_white, ends_white, IsNoneOf, FirstTokenPasses, Behind, UpToChoice, HasValues}
use Rattle.uci_interface_lines.specs.Said.{spaced_text, each_value}
use Rattle.uci_lines.proofs.CutTokens.{cut_tokens}
use Rattle.uci_lines.proofs.FirstTokens.{first_cut, none_cut, cut_first, cut_none}
use Rattle.uci_lines.proofs.Listings.{behind_cut, cut_behind, after_cut, up_to}
use Rattle.protocol_tokens.proofs.Lengths.{trimmed_length}
use Rattle.protocol_tokens.proofs.Runs.{black}

pub spaced_length : (xs : List ℕ) → length (spaced_text xs) ≤ 1 + length xs
spaced_length [] = omega arith
spaced_length (b ∷ bs) = omega arith

-- WHITE SPACE AT THE ENDS

white_trimmed : (w : ℕ) (xs : List ℕ) → is_white w ≡ true → trimmed (w ∷ xs) ≡ trimmed xs
white_trimmed w xs e = rw e refl

-- white space in front is no part of a text that is trimmed
pub spaced_prefix : (xs : List ℕ) → begins_white xs ≡ true → length (spaced_text (trimmed xs)) ≤ length xs
spaced_prefix [] h = omega arith
spaced_prefix (w ∷ xs) h = rw (white_trimmed w xs h) (omega (arith, spaced_length (trimmed xs), trimmed_length xs))

right_step : (w b : Bool) (x : ℕ) (xs : List ℕ) → is_blank xs ≡ b → ends_white w xs ≡ true → (ends_white false xs ≡ true → length (trim_right xs) < length xs) → (xs ≡ [] → b ≡ true) → length (cond (w && b) [] (x ∷ trim_right xs)) < suc (length xs)
right_step true true x xs e h k l = omega arith
right_step true false x [] e h k l = absurd (cc (l refl))
right_step true false x (y ∷ ys) e h k l = omega (arith, k h)
right_step false b x xs e h k l = omega (arith, k h)

nil_blank : (xs : List ℕ) → xs ≡ [] → is_blank xs ≡ true
nil_blank xs e = ap is_blank e

-- white space at the end is no part of a text that is trimmed
right_end : (xs : List ℕ) → ends_white false xs ≡ true → length (trim_right xs) < length xs
right_end [] h = absurd (cc)
right_end (x ∷ xs) h = right_step (is_white x) (is_blank xs) x xs refl h (right_end xs) (nil_blank xs)

trimmed_end : (w : Bool) (x : ℕ) (xs : List ℕ) → is_white x ≡ w → ends_white false (x ∷ xs) ≡ true → length (trimmed (x ∷ xs)) < suc (length xs)
trimmed_end true x xs e h = rw (white_trimmed x xs e) (omega (arith, trimmed_length xs))
trimmed_end false x xs e h = rw e (right_end (x ∷ xs) h)

inner_by : (w : ℕ) (xs : List ℕ) → is_white w ≡ true → ends_white true xs ≡ true → length (spaced_text (trimmed (w ∷ xs))) < suc (length xs)
inner_by w [] e h = rw (white_trimmed w [] e) (omega arith)
inner_by w (x ∷ xs) e h = rw (white_trimmed w (x ∷ xs) e) (omega (arith, spaced_length (trimmed (x ∷ xs)), trimmed_end (is_white x) x xs refl h))

-- a text with white space at both ends
inner : (xs : List ℕ) → 0 < length xs → begins_white xs ≡ true → ends_white true xs ≡ true → length (spaced_text (trimmed xs)) < length xs
inner [] l b h = absurd (omega (arith, l))
inner (w ∷ xs) l b h = inner_by w xs b (subst (λ (f : Bool). ends_white f xs ≡ true) b h)

-- WHAT STANDS BEFORE A TOKEN

token_length : (t : List ℕ) → is_token t ≡ true → 0 < length t
token_length [] h = absurd (cc)
token_length (b ∷ bs) h = omega arith

black_clash : (b : Bool) → not b ≡ true → b ≡ true → ⊥
black_clash true h k = absurd (cc)
black_clash false h k = absurd (cc)

token_black : (t ys : List ℕ) → is_token t ≡ true → begins_white (t ++ ys) ≡ true → ⊥
token_black [] ys h k = absurd (clash h)
  where
    clash : is_token [] ≡ true → ⊥
    clash e = absurd (cc)
token_black (b ∷ bs) ys h k = black_clash (is_white b) (and_parts (not (is_white b)) (list_all (λ c. not (is_white c)) bs) (black (b ∷ bs) h)).0 k

-- white space before a token
record Opens (before : List ℕ) : Type 0 where
  pub some : 0 < length before
  pub white : begins_white before ≡ true

opens_by : (before word after : List ℕ) → is_token word ≡ true → begins_white (before ++ (word ++ after)) ≡ true → Opens before
opens_by [] word after t h = absurd (token_black word after t h)
opens_by (b ∷ bs) word after t h = record { some = omega arith; white = h }

opens : (p : List ℕ → Bool) (text : List ℕ) (part : Found) → FirstTokenPasses p text part → begins_white text ≡ true → Opens part.before
opens p text part f h = opens_by part.before part.word part.after f.token (sym (ap begins_white f.whole) ∙ h)

pub part_length : (p : List ℕ → Bool) (text : List ℕ) (part : Found) → FirstTokenPasses p text part → length text ≡ length part.before + (length part.word + length part.after)
part_length p text part f = ap length f.whole ∙ length-append part.before (part.word ++ part.after) ∙ ap (λ n. length part.before + n) (length-append part.word part.after)

-- THE FIRST `default` BEHIND A `var`

some_ends : (fresh : Bool) (xs ys : List ℕ) → 0 < length ys → ends_white fresh (xs ++ ys) ≡ ends_white true ys
some_ends fresh [] [] l = absurd (omega (arith, l))
some_ends fresh [] (y ∷ ys) l = refl
some_ends fresh (x ∷ xs) ys l = some_ends (is_white x) xs ys l

or_left : (a b : Bool) → not (a || b) ≡ true → not a ≡ true
or_left true b h = absurd (cc)
or_left false b h = refl

weaker : (ts : List (List ℕ)) → IsNoneOf is_choice ts → IsNoneOf (is_word (codes "default")) ts
weaker [] h = refl
weaker (t ∷ ts) h =
    let both = and_parts (not (is_choice t)) (list_all (λ u. not (is_choice u)) ts) h in
    rw (or_left (is_word (codes "default") t) (is_word (codes "var") t) both.0, weaker ts both.1) refl

-- no `default` before a `var`, the `var`, and none after it
none_over : (before word : List ℕ) (ts : List (List ℕ)) → IsNoneOf is_choice (tokens before) → word ≡ codes "var" → IsNoneOf (is_word (codes "default")) ts → IsNoneOf (is_word (codes "default")) (tokens before ++ (word ∷ ts))
none_over before word ts n w k =
    let here : not (is_word (codes "default") word) ≡ true = ap (λ t. not (is_word (codes "default") t)) w in
    list_all-append (λ t. not (is_word (codes "default") t)) (tokens before) (word ∷ ts) ∙ rw (weaker (tokens before) n, here, k) refl

var_tokens : (text : List ℕ) (part : Found) → FirstTokenPasses is_choice text part → tokens text ≡ tokens part.before ++ (part.word ∷ tokens part.after)
var_tokens text part f = cut_tokens is_choice text part refl (first_cut is_choice text part refl f)

-- the same first choice, with fewer bytes after it
shorter_first : (text others : List ℕ) (part : Found) → FirstTokenPasses is_choice text part → begins_white others ≡ true → FirstTokenPasses is_choice (part.before ++ (part.word ++ others)) (record { before = part.before; word = part.word; after = others })
shorter_first text others part f w = record { whole = refl; token = f.token; passes = f.passes; stands_apart = f.stands_apart; ends_there = w; none_before = f.none_before }

later_part : Found → Found → Found
later_part part q = record { before = part.before ++ (part.word ++ q.before); word = q.word; after = q.after }

later_first : (text : List ℕ) (part q : Found) → FirstTokenPasses is_choice text part → part.word ≡ codes "var" → FirstTokenPasses (is_word (codes "default")) part.after q → FirstTokenPasses (is_word (codes "default")) text (later_part part q)
unfolding later_part
later_first text part q f w g =
    let o = opens (is_word (codes "default")) part.after q g f.ends_there in
    let others = shorter_first text q.before part f o.white in
    record {
      whole = f.whole ∙ ap (λ t. part.before ++ (part.word ++ t)) g.whole ∙ simp append_assoc;
      token = g.token;
      passes = g.passes;
      stands_apart = ap (ends_white true) (sym (append_assoc part.before part.word q.before)) ∙ some_ends true (part.before ++ part.word) q.before o.some ∙ g.stands_apart;
      ends_there = g.ends_there;
      none_before = ap (list_all (λ t. not (is_word (codes "default") t))) (var_tokens (part.before ++ (part.word ++ q.before)) (record { before = part.before; word = part.word; after = q.before }) others)
          ∙ none_over part.before part.word (tokens q.before) f.none_before w g.none_before;
    }

default_cut : List ℕ → Option Found
default_cut text = found_token (is_word (codes "default")) true text

behind_var_by : (text : List ℕ) (part : Found) (o : Option Found) → FirstTokenPasses is_choice text part → part.word ≡ codes "var" → default_cut part.after ≡ o → after_cut (default_cut text) ≡ after_cut o
unfolding default_cut later_part
behind_var_by text part None f w e =
    let none = cut_none (is_word (codes "default")) part.after e in
    ap after_cut (none_cut (is_word (codes "default")) text refl (ap (list_all (λ t. not (is_word (codes "default") t))) (var_tokens text part f) ∙ none_over part.before part.word (tokens part.after) f.none_before w none))
behind_var_by text part (Some q) f w e =
    ap after_cut (first_cut (is_word (codes "default")) text (later_part part q) refl (later_first text part q f w (cut_first (is_word (codes "default")) part.after q refl e)))

behind_var : (text others : List ℕ) (part : Found) → FirstTokenPasses is_choice text part → part.word ≡ codes "var" → Behind (codes "default") text others → Behind (codes "default") part.after others
unfolding default_cut
behind_var text others part f w b =
    let same : others ≡ after_cut (default_cut part.after) = behind_cut (codes "default") text others refl b ∙ behind_var_by text part (default_cut part.after) f w refl in
    subst (λ (t : List ℕ). Behind (codes "default") part.after t) (sym same) (cut_behind (codes "default") part.after refl)

-- if the first choice is a `default`
default_here : (text : List ℕ) (part : Found) → FirstTokenPasses is_choice text part → part.word ≡ codes "default" → FirstTokenPasses (is_word (codes "default")) text part
default_here text part f w = record {
  whole = f.whole;
  token = f.token;
  passes = ap (is_word (codes "default")) w;
  stands_apart = f.stands_apart;
  ends_there = f.ends_there;
  none_before = weaker (tokens part.before) f.none_before;
}

behind_default : (text others : List ℕ) (part : Found) → FirstTokenPasses is_choice text part → part.word ≡ codes "default" → Behind (codes "default") text others → others ≡ part.after
behind_default text others part f w b =
    behind_cut (codes "default") text others refl b ∙ ap after_cut (first_cut (is_word (codes "default")) text part refl (default_here text part f w))

behind_none : (text others : List ℕ) → IsNoneOf is_choice (tokens text) → Behind (codes "default") text others → others ≡ []
behind_none text others n b = behind_cut (codes "default") text others refl b ∙ ap after_cut (none_cut (is_word (codes "default")) text refl (weaker (tokens text) n))

-- WHAT IS WRITTEN OF A COMBO

up_none : (text value : List ℕ) → IsNoneOf is_choice (tokens text) → UpToChoice text value → value ≡ trimmed text
up_none text value n u = up_to text value u ∙ ap (λ o. trimmed (before_choice o text)) (none_cut is_choice text refl n)

up_part : (text value : List ℕ) (part : Found) → FirstTokenPasses is_choice text part → UpToChoice text value → value ≡ trimmed part.before
up_part text value part f u = up_to text value u ∙ ap (λ o. trimmed (before_choice o text)) (first_cut is_choice text part refl f)

up_empty : (value : List ℕ) → UpToChoice [] value → length (spaced_text value) ≡ 0
up_empty value u = ap (λ v. length (spaced_text v)) (up_none [] value refl u)

up_inner : (text value : List ℕ) (part : Found) → FirstTokenPasses is_choice text part → begins_white text ≡ true → UpToChoice text value → length (spaced_text value) < length part.before
up_inner text value part f b u =
    let o = opens is_choice text part f b in
    subst (λ (v : List ℕ). length (spaced_text v) < length part.before) (sym (up_part text value part f u)) (inner part.before o.some o.white f.stands_apart)

up_whole : (text value : List ℕ) → IsNoneOf is_choice (tokens text) → begins_white text ≡ true → UpToChoice text value → length (spaced_text value) ≤ length text
up_whole text value n b u = subst (λ (v : List ℕ). length (spaced_text v) ≤ length text) (sym (up_none text value n u)) (spaced_prefix text b)

each_length : (value : List ℕ) (vs : List (List ℕ)) → length (each_value (value ∷ vs)) ≡ 4 + length (spaced_text value) + length (each_value vs)
each_length value vs = simp length-append (omega arith)

-- A text with its values: alone, after a value that ends at the first of them, with the default too, and
-- with the default alone.
pub record Sums (text : List ℕ) (vs : List (List ℕ)) : Type 0 where
  pub alone : length (each_value vs) ≤ length text + 1
  pub behind : (value : List ℕ) → begins_white text ≡ true → UpToChoice text value → length (spaced_text value) + length (each_value vs) ≤ length text
  pub both : (value default others : List ℕ) → begins_white text ≡ true → UpToChoice text value → Behind (codes "default") text others → UpToChoice others default
      → length (spaced_text value) + length (spaced_text default) + length (each_value vs) ≤ length text
  pub whole : (default others : List ℕ) → Behind (codes "default") text others → UpToChoice others default → length (spaced_text default) + length (each_value vs) ≤ length text + 1

ended_sums : (text : List ℕ) → IsNoneOf is_choice (tokens text) → Sums text []
ended_sums text n = record {
  alone = omega arith;
  behind = λ value b u. omega (arith, up_whole text value n b u);
  both = λ value default others b u d v. omega (arith, up_whole text value n b u, no_default default others d v);
  whole = λ default others d v. omega (arith, no_default default others d v);
}
  where
    no_default : (default others : List ℕ) → Behind (codes "default") text others → UpToChoice others default → length (spaced_text default) ≡ 0
    no_default default others d v = up_empty default (subst (λ (t : List ℕ). UpToChoice t default) (behind_none text others n d) v)

var_sums : (text value : List ℕ) (vs : List (List ℕ)) (part : Found) → FirstTokenPasses is_choice text part → part.word ≡ codes "var" → UpToChoice part.after value → Sums part.after vs → Sums text (value ∷ vs)
var_sums text value vs part f w u s =
    let l = part_length is_choice text part f in
    let three : length part.word ≡ 3 = ap length w in
    let e = each_length value vs in
    let after = s.behind value f.ends_there u in
    record {
      alone = omega (arith, l, three, e, after);
      behind = λ first b v. omega (arith, l, three, e, after, up_inner text first part f b v);
      both = λ first default others b v d k. omega (arith, l, three, e, up_inner text first part f b v, s.both value default others f.ends_there u (behind_var text others part f w d) k);
      whole = λ default others d k. omega (arith, l, three, e, s.both value default others f.ends_there u (behind_var text others part f w d) k);
    }

default_sums : (text : List ℕ) (vs : List (List ℕ)) (part : Found) → FirstTokenPasses is_choice text part → part.word ≡ codes "default" → Sums part.after vs → Sums text vs
default_sums text vs part f w s =
    let l = part_length is_choice text part f in
    let seven : length part.word ≡ 7 = ap length w in
    record {
      alone = omega (arith, l, s.alone);
      behind = λ first b v. omega (arith, l, seven, s.alone, up_inner text first part f b v);
      both = λ first default others b v d k. omega (arith, l, seven, up_inner text first part f b v, chosen default others d k);
      whole = λ default others d k. omega (arith, l, seven, chosen default others d k);
    }
  where
    chosen : (default others : List ℕ) → Behind (codes "default") text others → UpToChoice others default → length (spaced_text default) + length (each_value vs) ≤ length part.after
    chosen default others d k = s.behind default f.ends_there (subst (λ (t : List ℕ). UpToChoice t default) (behind_default text others part f w d) k)

pub sums : (text : List ℕ) (vs : List (List ℕ)) → HasValues text vs → Sums text vs
sums text _ (HasValues.Ended n) = ended_sums text n
sums text _ (HasValues.Var {value = value} {values = vs} part f w u h) = var_sums text value vs part f w u (sums part.after vs h)
sums text _ (HasValues.Default {values = vs} part f w h) = default_sums text vs part f w (sums part.after vs h)
