-- The table of options, and the options as they are seen.
use Rattle.std.proofs.Common.{◌≡◌, ℕ, ◌+◌, ◌<◌, ◌≤◌, List, [], ◌∷◌, ◌++◌, Bool, true, false, cond, length, take, drop, map, Option, Some, None, refl, sym, ap, ◌∙◌, arith, length-append, subst, true≢false, Result, Ok, Err}
use Rattle.std.specs.Result.{OnOk, IsOk}
use Rattle.std.proofs.lemmas.List.{take-append-le, drop-append-le, map-append, length-drop, length-map}
use Rattle.std.proofs.Math.Seq.{drop-append_seam}
use Rattle.std.proofs.lemmas.Slice.Eq.{bytes_eq-Decides}
use Rattle.std.specs.Char.{to_ascii_lowercase}
use Rattle.std.specs.List.{AllByRecursion}
use Rattle.std.specs.Option.{option_map, option_copied}
use Rattle.std.specs.Borrow.{Bor}
use Rattle.std.specs.Str.{bytes_eq}
use Rattle.std.specs.Map.{lookup}
use Rattle.arrayvec.specs.ArrayVec.{ArrayVec}
use Rattle.option_map.specs.declared.declared_options.setting.TextSpan.{TextSpan}
use Rattle.option_map.specs.declared.declared_options.stored.StoredKind.{StoredKind}
use Rattle.option_map.specs.declared.declared_options.stored.StoredKind.TheVariants as stored
use Rattle.option_map.specs.declared.declared_options.stored.Stored.{Stored}
use Rattle.option_map.specs.DeclaredOptions.Names.{folded, same_text}
use Rattle.option_map.specs.DeclaredOptions.Choices.{choices_in}
use Rattle.option_map.specs.DeclaredOptions.Settings.{OptionSetting, SettingKind, Combo, Text, option_by_name}
use Rattle.option_map.specs.declared.declared_options.setting.OptionSetting.{OptionSetting as Seen}
use Rattle.option_map.specs.DeclaredOptions.Stored.{setting_seen, setting_in, stored_settings_in, kind_in, text_at, IsEntry, IsKindIn, AreStored}

-- the test of the table for a folded name
abbrev pub is_key : List ℕ → ArrayVec ℕ → Bool
is_key key k = bytes_eq key k.items

found_step : (w v : Bool) (texts : List ℕ) (o : Stored) (more : Option Stored) (rest : Option OptionSetting) → w ≡ v → option_map (setting_in texts) more ≡ rest → option_map (setting_in texts) (cond w (Some o) more) ≡ cond v (Some (setting_in texts o)) rest
found_step true v texts o more rest e h = rw (sym e) refl
found_step false v texts o more rest e h = rw (sym e) h

-- The entry of the table under a name is the option of that name.
pub looked : (n : ℕ) (texts name : List ℕ) (es : List (ArrayVec ℕ × Stored)) → AreStored n es → option_map (setting_in texts) (lookup (is_key (folded name)) es) ≡ option_by_name name (stored_settings_in texts es)
looked n texts name [] h = refl
looked n texts name (e ∷ es) h =
    found_step (is_key (folded name) e.0) (same_text name e.1.name.items) texts e.1 (lookup (is_key (folded name)) es) (option_by_name name (stored_settings_in texts es))
    (ap (λ (k : List ℕ). bytes_eq (folded name) k) h.0.key) (looked n texts name es h.1)

within_step : (n : ℕ) (w : Bool) (o : Stored) (more : Option Stored) (r : Stored) → IsKindIn n o.kind → (more ≡ Some r → IsKindIn n r.kind) → cond w (Some o) more ≡ Some r → IsKindIn n r.kind
within_step n true o more r h k e = subst (λ (s : Stored). IsKindIn n s.kind) (some_is o r e) h
  where
    some_is : (a b : Stored) → Some a ≡ Some b → a ≡ b
    some_is a b e = cc
within_step n false o more r h k e = k e

-- Its texts are there.
pub looked_within : (n : ℕ) (test : ArrayVec ℕ → Bool) (es : List (ArrayVec ℕ × Stored)) (r : Stored) → AreStored n es → lookup test es ≡ Some r → IsKindIn n r.kind
looked_within n test [] r h e = absurd (cc)
looked_within n test (p ∷ es) r h e = within_step n (test p.0) p.1 (lookup test es) r h.0.within (looked_within n test es r h.1) e

-- A long name is the name of none.
other_length : (a b : List ℕ) → length b < length a → same_text a b ≡ false
other_length a b h = by (same_text a b) refl
  where
    by : (w : Bool) → same_text a b ≡ w → w ≡ false
    by false e = refl
    by true e =
        let same : folded a ≡ folded b = (bytes_eq-Decides (folded a) (folded b)).0 e in
        absurd (omega (arith, ap length same, length-map a to_ascii_lowercase, length-map b to_ascii_lowercase, h))

found_none : (w : Bool) (o : OptionSetting) (rest : Option OptionSetting) → w ≡ false → rest ≡ None → cond w (Some o) rest ≡ None
found_none w o rest e h = rw (e, h) refl

pub no_long : (n : ℕ) (texts name : List ℕ) (es : List (ArrayVec ℕ × Stored)) → 128 < length name → AreStored n es → option_by_name name (stored_settings_in texts es) ≡ None
no_long n texts name [] long h = refl
no_long n texts name (e ∷ es) long h =
    found_none (same_text name e.1.name.items) (setting_in texts e.1) (option_by_name name (stored_settings_in texts es)) (other_length name e.1.name.items (omega (arith, h.0.short, long))) (no_long n texts name es long h.1)

-- Texts that follow change nothing.
pub text_stays : (texts more : List ℕ) (s : TextSpan) → s.at + s.len ≤ length texts → text_at (texts ++ more) s ≡ text_at texts s
text_stays texts more s h =
    ap (λ (t : List ℕ). take s.len t) (drop-append-le s.at texts more (omega arith))
    ∙ take-append-le s.len (drop s.at texts) more (omega (arith, length-drop s.at texts, h))

kind_stays : (texts more : List ℕ) (k : StoredKind) → IsKindIn (length texts) k → kind_in (texts ++ more) k ≡ kind_in texts k
kind_stays texts more (stored.Check on) h = refl
kind_stays texts more (stored.Spin default min max) h = refl
kind_stays texts more (stored.Combo choices) h = ap (λ (t : List ℕ). Combo (choices_in t)) (text_stays texts more choices h)
kind_stays texts more stored.Button h = refl
kind_stays texts more (stored.Text default) h = ap (λ (t : List ℕ). Text t) (text_stays texts more default h)

pub settings_stay : (texts more : List ℕ) (es : List (ArrayVec ℕ × Stored)) → AreStored (length texts) es → stored_settings_in (texts ++ more) es ≡ stored_settings_in texts es
settings_stay texts more [] h = refl
settings_stay texts more (e ∷ es) h =
    ap (λ (k : SettingKind). record { name = e.1.name.items; kind = k; hidden = e.1.hidden; text_feature = e.1.text_feature } ∷ stored_settings_in (texts ++ more) es) (kind_stays texts more e.1.kind h.0.within)
    ∙ ap (λ (rest : List OptionSetting). setting_in texts e.1 ∷ rest) (settings_stay texts more es h.1)

kind_wider : (n m : ℕ) (k : StoredKind) → n ≤ m → IsKindIn n k → IsKindIn m k
kind_wider n m (stored.Check on) l h = tt
kind_wider n m (stored.Spin default min max) l h = tt
kind_wider n m (stored.Combo choices) l h = omega (arith, l, h)
kind_wider n m stored.Button l h = tt
kind_wider n m (stored.Text default) l h = omega (arith, l, h)

none_mapped : {A B : Type 0} (f : A → B) (o : Option A) → option_map f o ≡ None → o ≡ None
none_mapped f None h = refl
none_mapped f (Some x) h = absurd (cc)

-- Where no option has the name, the table has no entry under it.
pub not_looked : (n : ℕ) (texts name key : List ℕ) (es : List (ArrayVec ℕ × Stored)) → AreStored n es → key ≡ folded name → option_by_name name (stored_settings_in texts es) ≡ None → lookup (is_key key) es ≡ None
not_looked n texts name key es h e f =
    ap (λ (k : List ℕ). lookup (is_key k) es) e ∙ none_mapped (setting_in texts) (lookup (is_key (folded name)) es) (looked n texts name es h ∙ f)

-- The options with one more.
pub one_more : (texts more name new : List ℕ) (kind : SettingKind) (es after : List (ArrayVec ℕ × Stored)) (key : ArrayVec ℕ) (o : Stored) → new ≡ texts ++ more → after ≡ es ++ (key, o) ∷ [] → AreStored (length texts) es → o.name.items ≡ name → kind_in new o.kind ≡ kind → stored_settings_in new after ≡ stored_settings_in texts es ++ record { name = name; kind = kind; hidden = o.hidden; text_feature = o.text_feature } ∷ []
one_more texts more name new kind es after key o e f h named kinds =
    ap (λ (l : List (ArrayVec ℕ × Stored)). stored_settings_in new l) f
    ∙ map-append (λ (p : ArrayVec ℕ × Stored). setting_in new p.1) es ((key, o) ∷ [])
    ∙ ap (λ (t : List ℕ). stored_settings_in t es ++ setting_in new o ∷ []) e
    ∙ ap (λ (l : List OptionSetting). l ++ setting_in new o ∷ []) (settings_stay texts more es h)
    ∙ ap (λ (t : List ℕ). stored_settings_in texts es ++ record { name = t; kind = kind_in new o.kind; hidden = o.hidden; text_feature = o.text_feature } ∷ []) named
    ∙ ap (λ (k : SettingKind). stored_settings_in texts es ++ record { name = name; kind = k; hidden = o.hidden; text_feature = o.text_feature } ∷ []) kinds

-- a text that was put after others
pub text_back : (old t text : List ℕ) (s : TextSpan) → text ≡ old ++ t → s.at ≡ length old → s.at + s.len ≡ length text → text_at text s ≡ t
text_back old t text s e at end =
    let len : s.len ≡ length t = omega (arith, at, end, ap length e, length-append old t) in
    ap (λ (x : List ℕ). take s.len (drop s.at x)) e
    ∙ ap (λ n. take s.len (drop n (old ++ t))) at
    ∙ ap (λ (x : List ℕ). take s.len x) (drop-append_seam old t)
    ∙ ap (λ n. take n t) len
    ∙ take_length t
  where
    take_length : (xs : List ℕ) → take (length xs) xs ≡ xs
    take_length [] = refl
    take_length (x ∷ xs) = ap (λ (l : List ℕ). x ∷ l) (take_length xs)

-- The entries with one more stand too.
pub stored_more : (n m : ℕ) (es : List (ArrayVec ℕ × Stored)) (e : ArrayVec ℕ × Stored) → n ≤ m → AreStored n es → IsEntry m e → AreStored m (es ++ e ∷ [])
stored_more n m [] e l h k = (k, tt)
stored_more n m (p ∷ es) e l h k = (record { key = h.0.key; short = h.0.short; within = kind_wider n m p.1.kind l h.0.within }, stored_more n m es e l h.1 k)

pub seen_none : (r : Option Seen) → r ≡ None → option_map setting_seen r ≡ None
seen_none r h = rw h refl

pub copied_none : (r : Option (Bor Stored)) → r ≡ None → option_copied r ≡ None
copied_none r h = rw h refl

pub copied_some : (r : Option (Bor Stored)) (s : Bor Stored) → r ≡ Some s → option_copied r ≡ Some s.now
copied_some r s h = rw h refl

pub when_ok : {T E : Type 0} (r : Result T E) (P : Type 0) → OnOk r P → IsOk r → P
when_ok (Ok x) P h k = h
when_ok (Err e) P h k = absurd (true≢false (sym k))

-- the values of the table, in order
pub values_seen : (texts : List ℕ) (es : List (ArrayVec ℕ × Stored)) → map (setting_in texts) (map (λ e. e.1) es) ≡ stored_settings_in texts es
values_seen texts [] = refl
values_seen texts (e ∷ es) = ap (λ (rest : List OptionSetting). setting_in texts e.1 ∷ rest) (values_seen texts es)

pub values_within : (n : ℕ) (es : List (ArrayVec ℕ × Stored)) → AreStored n es → AllByRecursion (λ (o : Stored). IsKindIn n o.kind) (map (λ e. e.1) es)
values_within n [] h = tt
values_within n (e ∷ es) h = (h.0.within, values_within n es h.1)
