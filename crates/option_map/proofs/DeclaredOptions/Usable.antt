-- The parts kept of the options that lines of an engine declare.
use Rattle.std.proofs.Common.{◌≡◌, ℕ, ◌<◌, ◌≤◌, List, [], ◌∷◌, ◌++◌, Bool, true, false, ◌||◌, cond, ltb, length, Option, Some, None, refl, sym, ap, subst, arith}
use Rattle.std.proofs.lemmas.Bool.Decides.{nat_tests}
use Rattle.std.specs.Prelude.{IfSome}
use Rattle.std.specs.List.{AllByRecursion, list_any}
use Rattle.std.proofs.lemmas.Bool.{or_parts}
use Rattle.uci_lines.specs.Messages as says
use Rattle.uci_lines.specs.Messages.{EngineMsg, OptionKind}
use Rattle.option_map.specs.declared.declared_options.declared.Declared.TheVariants as outcome
use Rattle.option_map.specs.DeclaredOptions.Names.{holds, is_hidden, is_bad_name, has_value_token, same_text}
use Rattle.option_map.specs.DeclaredOptions.Choices.{with_star, unstarred, is_bad_value, are_bad_values, is_empty_value, begins_with_star, has_bars}
use Rattle.option_map.specs.DeclaredOptions.Settings.{OptionSetting, SettingKind, Spin, Combo, shown_kind, hidden_kind, setting_from_option, is_bad_shape, cannot_be_shown, is_unshowable, grown_by, declared_beside, is_combo_full, option_by_name}
use Rattle.option_map.specs.DeclaredOptions.Styles.{is_not_plain}
use Rattle.option_map.specs.declared.declared_options.style.FeatureStyle.{FeatureStyle}
use Rattle.option_map.specs.DeclaredOptions.Spelled.{IsDeclared, AreDeclared, StayDeclared}
use Rattle.option_map.proofs.DeclaredOptions.Values.{IsPiece, IsValue, IsName, line_part, piece_value, trimmed_text}
use Rattle.option_map.proofs.DeclaredOptions.HeardOptions.{IsCount, IsHeardShape, IsHeardOption, message_heard}
use Rattle.option_map.proofs.DeclaredOptions.Pieces.{any_bad}
use Rattle.option_map.proofs.DeclaredOptions.ValueTokens.{name_alone, name_before_value}

-- WHAT IS KEPT

-- the values of a combo are values of orders, and the bounds of a spin are counts
abbrev pub IsSound : SettingKind → Type 0
IsSound (Spin default min max) = IsCount min × IsCount max
IsSound (Combo choices) = AllByRecursion (λ c. IsValue 65536 (unstarred c)) choices
IsSound _ = Unit {0}

record IsGoodValue (v : List ℕ) : Type 0 where
  pub value : IsValue 65536 v
  pub no_star : begins_with_star v ≡ false

ends_of : (n h b s : Bool) → (n || h || b || s) ≡ false → (n ≡ false) × (s ≡ false)
ends_of true h b s e = absurd (cc)
ends_of false true b s e = absurd (cc)
ends_of false false true s e = absurd (cc)
ends_of false false false s e = (refl, e)

not_empty : (v : List ℕ) → is_empty_value v ≡ false → 0 < length v
not_empty [] h = absurd (cc)
not_empty (b ∷ bs) h = omega arith

good_value : (v : List ℕ) → IsPiece 65536 v → is_bad_value v ≡ false → IsGoodValue v
good_value v p h =
    let ends = ends_of (is_empty_value v) (holds 34 v) (has_bars v) (begins_with_star v) h in
    record { value = piece_value v p (not_empty v ends.0); no_star = ends.1 }

good_values : (vs : List (List ℕ)) → AllByRecursion (IsPiece 65536) vs → list_any is_bad_value vs ≡ false → AllByRecursion IsGoodValue vs
good_values [] p h = tt
good_values (v ∷ vs) p h =
    let parts = or_parts (is_bad_value v) (list_any is_bad_value vs) h in
    (good_value v p.0 parts.0, good_values vs p.1 parts.1)

no_star_kept : (v : List ℕ) → begins_with_star v ≡ false → unstarred v ≡ v
no_star_kept [] h = refl
no_star_kept (b ∷ bs) h = ap (λ w. cond w bs (b ∷ bs)) h

kept_value : (v : List ℕ) → IsGoodValue v → IsValue 65536 (unstarred v)
kept_value v g = subst (λ (t : List ℕ). IsValue 65536 t) (sym (no_star_kept v g.no_star)) g.value

kept_values : (vs : List (List ℕ)) → AllByRecursion IsGoodValue vs → AllByRecursion (λ c. IsValue 65536 (unstarred c)) vs
kept_values [] h = tt
kept_values (v ∷ vs) h = (kept_value v h.0, kept_values vs h.1)

star_step : (w : Bool) (v : List ℕ) (vs others : List (List ℕ)) → IsGoodValue v → AllByRecursion IsGoodValue vs → AllByRecursion (λ c. IsValue 65536 (unstarred c)) others → AllByRecursion (λ c. IsValue 65536 (unstarred c)) (cond w ((42 ∷ v) ∷ vs) (v ∷ others))
star_step true v vs others g h k = (g.value, kept_values vs h)
star_step false v vs others g h k = (kept_value v g, k)

starred_values : (default : List ℕ) (vs : List (List ℕ)) → AllByRecursion IsGoodValue vs → AllByRecursion (λ c. IsValue 65536 (unstarred c)) (with_star default vs)
starred_values default [] h = tt
starred_values default (v ∷ vs) h = star_step (same_text default v) v vs (with_star default vs) h.0 h.1 (starred_values default vs h.1)

sound_shown : (shape : OptionKind) → IsHeardShape shape → is_bad_shape shape ≡ false → IsSound (shown_kind shape)
sound_shown (says.Check on) h b = tt
sound_shown (says.Spin default min max) h b = h
sound_shown (says.Combo default vs) h b = starred_values default vs (good_values vs h (any_bad vs (or_parts (holds 34 default) (are_bad_values vs) b).1))
sound_shown says.Button h b = tt
sound_shown (says.Text default) h b = tt

sound_hidden : (shape : OptionKind) → IsHeardShape shape → IsSound (hidden_kind shape)
sound_hidden (says.Check on) h = tt
sound_hidden (says.Spin default min max) h = h
sound_hidden (says.Combo default vs) h = tt
sound_hidden says.Button h = tt
sound_hidden (says.Text default) h = tt

sound_either : (w : Bool) (a b : SettingKind) → IsSound a → IsSound b → IsSound (cond w a b)
sound_either true a b h k = h
sound_either false a b h k = k

good_name : (empty long quote equals token : Bool) → (empty || long || quote || equals || token) ≡ false → (empty ≡ false) × (long ≡ false) × (token ≡ false)
good_name true long quote equals token h = absurd (cc)
good_name false true quote equals token h = absurd (cc)
good_name false false true equals token h = absurd (cc)
good_name false false false true token h = absurd (cc)
good_name false false false false token h = (refl, refl, h)

name_of : (name : List ℕ) → IsPiece 65536 name → is_bad_name name ≡ false → IsName name
name_of name p h =
    let parts = good_name (ltb (length name) 1) (ltb 128 (length name)) (holds 34 name) (holds 61 name) (has_value_token name) h in
    let some : 0 < length name = grind (arith, nat_tests, parts.0) in
    let few : length name ≤ 128 = grind (arith, nat_tests, parts.1) in
    record {
      part = record { line = p.part.line; short = few };
      text = trimmed_text name p.trim some;
      alone = name_alone name parts.2;
      before_value = name_before_value name parts.2;
    }

pub record IsUsable (o : OptionSetting) : Type 0 where
  pub name : IsName o.name
  pub kind : IsSound o.kind

usable_kept : (style : FeatureStyle) (name : List ℕ) (shape : OptionKind) → IsPiece 65536 name × IsHeardShape shape → is_unshowable style name shape ≡ false → IsUsable (setting_from_option style name shape)
usable_kept style name shape h u =
    let parts = or_parts (is_bad_name name) (is_bad_shape shape) (or_parts (cannot_be_shown name shape) (is_not_plain style name shape) u).0 in
    record {
      name = name_of name h.0 parts.0;
      kind = sound_either (is_hidden style.strength name) (hidden_kind shape) (shown_kind shape) (sound_hidden shape h.1) (sound_shown shape h.1 parts.1);
    }

pub usable : (o : OptionSetting) → IsDeclared o → IsUsable o
usable o d =
    let heard : IsPiece 65536 d.name × IsHeardShape d.shape = subst (λ (m : EngineMsg). IsHeardOption m) d.says (message_heard d.line (line_part d.line d.is_line)) in
    subst (λ (x : OptionSetting). IsUsable x) (sym d.kept_is) (usable_kept d.style d.name d.shape heard d.showable)

-- the option that a name finds
find_step : (w : Bool) (o : OptionSetting) (later : Option OptionSetting) → IsDeclared o → IfSome later IsDeclared → IfSome (cond w (Some o) later) IsDeclared
find_step true o later h k = h
find_step false o later h k = k

found_declared : (name : List ℕ) (os : List OptionSetting) → AreDeclared os → IfSome (option_by_name name os) IsDeclared
found_declared name [] h = tt
found_declared name (o ∷ os) h = find_step (same_text name o.name) o (option_by_name name os) h.0 (found_declared name os h.1)

if_usable : (o : Option OptionSetting) → IfSome o IsDeclared → IfSome o IsUsable
if_usable None h = tt
if_usable (Some o) h = usable o h

pub found_usable : (name : List ℕ) (os : List OptionSetting) → AreDeclared os → IfSome (option_by_name name os) IsUsable
found_usable name os h = if_usable (option_by_name name os) (found_declared name os h)

-- DECLARING

one_more : (os : List OptionSetting) (o : OptionSetting) → AreDeclared os → IsDeclared o → AreDeclared (os ++ o ∷ [])
one_more [] o h d = (d, tt)
one_more (p ∷ os) o h d = (h.0, one_more os o h.1 d)

full_step : (w : Bool) (os : List OptionSetting) (o : OptionSetting) → AreDeclared os → IsDeclared o → AreDeclared (grown_by (cond w outcome.Full outcome.Done) os o)
full_step true os o h d = h
full_step false os o h d = one_more os o h d

beside_step : (other : Option OptionSetting) (os : List OptionSetting) (o : OptionSetting) → AreDeclared os → IsDeclared o → AreDeclared (grown_by (declared_beside other os o) os o)
beside_step (Some other) os o h d = h
beside_step None os o h d = full_step (is_combo_full os o) os o h d

show_step : (style : FeatureStyle) (w : Bool) (os : List OptionSetting) (name : List ℕ) (shape : OptionKind) → is_unshowable style name shape ≡ w → AreDeclared os → (w ≡ false → IsDeclared (setting_from_option style name shape))
    → AreDeclared (grown_by (cond w outcome.Unshowable (declared_beside (option_by_name name os) os (setting_from_option style name shape))) os (setting_from_option style name shape))
show_step style true os name shape e h f = h
show_step style false os name shape e h f = beside_step (option_by_name name os) os (setting_from_option style name shape) h (f refl)

pub stay_declared : StayDeclared
stay_declared style os line name shape h l e =
    show_step style (is_unshowable style name shape) os name shape refl h (λ u. record { style = style; line = line; name = name; shape = shape; is_line = l; says = e; showable = u; kept_is = refl })
