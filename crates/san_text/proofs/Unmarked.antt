-- The effect at the last byte of dropping the signs at the end.
use Rattle.std.proofs.Common.{◌≡◌, ℕ, ◌+◌, List, [], ◌∷◌, ◌++◌, Bool, true, false, ◌&&◌, cond, length, take, get_or, refl, ◌∙◌, sym, ap, arith}
use Rattle.std.proofs.lemmas.List.{take_more, take_all}
use Rattle.std.proofs.lemmas.List.Folds.{list_all-append}
use Rattle.std.specs.List.{list_all}
use Rattle.san_text.specs.Spelling.{is_check_byte, unmarked}

chosen : (a b w : Bool) (x : ℕ) (prefix : List ℕ) → w ≡ true → cond (a && (b && (w && true))) [] (x ∷ prefix) ≡ cond (a && b) [] (x ∷ prefix)
chosen true true w x prefix e = rw e refl
chosen true false w x prefix e = refl
chosen false b w x prefix e = refl

kept : (a b w : Bool) (none some : List ℕ) → w ≡ false → cond (a && (b && (w && true))) none some ≡ some
kept true true w none some e = rw e refl
kept true false w none some e = refl
kept false b w none some e = refl

pub drops_mark : (prefix : List ℕ) (c : ℕ) → is_check_byte c ≡ true → unmarked (prefix ++ (c ∷ [])) ≡ unmarked prefix
drops_mark [] c e = rw e refl
drops_mark (x ∷ prefix) c e = ap (λ t. cond (is_check_byte x && list_all is_check_byte (prefix ++ (c ∷ []))) [] (x ∷ t)) (drops_mark prefix c e) ∙ rw list_all-append (chosen (is_check_byte x) (list_all is_check_byte prefix) (is_check_byte c) x (unmarked prefix) e)

pub keeps_other : (prefix : List ℕ) (c : ℕ) → is_check_byte c ≡ false → unmarked (prefix ++ (c ∷ [])) ≡ prefix ++ (c ∷ [])
keeps_other [] c e = rw e refl
keeps_other (x ∷ prefix) c e = ap (λ t. cond (is_check_byte x && list_all is_check_byte (prefix ++ (c ∷ []))) [] (x ∷ t)) (keeps_other prefix c e) ∙ rw list_all-append (kept (is_check_byte x) (list_all is_check_byte prefix) (is_check_byte c) [] (x ∷ (prefix ++ (c ∷ []))) e)

last_apart : (xs : List ℕ) (n : ℕ) → length xs ≡ n + 1 → take n xs ++ (get_or xs n 0 ∷ []) ≡ xs
last_apart xs n e = sym (take_more xs n 0 (omega arith)) ∙ take_all (n + 1) xs (omega arith)

pub last_mark : (xs : List ℕ) (n : ℕ) → length xs ≡ n + 1 → is_check_byte (get_or xs n 0) ≡ true → unmarked (take n xs) ≡ unmarked xs
last_mark xs n e w = sym (drops_mark (take n xs) (get_or xs n 0) w) ∙ ap unmarked (last_apart xs n e)

pub last_other : (xs : List ℕ) (n : ℕ) → length xs ≡ n + 1 → is_check_byte (get_or xs n 0) ≡ false → unmarked xs ≡ xs
last_other xs n e w = sym (ap unmarked (last_apart xs n e)) ∙ keeps_other (take n xs) (get_or xs n 0) w ∙ last_apart xs n e
