-- The moves that fit among those that were looked at.
use Rattle.std.proofs.Common.{◌≡◌, ◌≢◌, ℕ, zero, suc, ◌+◌, ◌<◌, ◌≤◌, List, [], ◌∷◌, ◌++◌, length, filter, take, drop, get_or, Bool, true, false, cond, Option, Some, None, Result, Ok, Err, IsTrue, ◌↔◌, refl, ap, sym, subst, ◌∙◌, arith, add-one, take-append-drop, append-nil}
use Rattle.std.proofs.Math.Seq.{take-suc}
use Rattle.std.proofs.lemmas.List.{take_all}
use Rattle.std.specs.List.{Contains, AllPairs}
use Rattle.std.proofs.lemmas.List.Elements.{filter-append}
use Rattle.std.proofs.lemmas.List.Kept.{AllPairs-filter}
use Rattle.std.proofs.lemmas.Map.Text.{is_eq-slice_cmp}
use Rattle.std.proofs.lemmas.Slice.Eq.{bytes_eq-Decides}
use Rattle.std.specs.Option.{is_some, ok_or}
use Rattle.std.specs.Ordering.{is_eq}
use Rattle.chess_board.specs.Laws.{IsLegal}
use Rattle.chess_board.specs.Position.{Position}
use Rattle.chess_board.specs.Text.{ComesBefore, text_of_move}
use Rattle.san_text.specs.Fit.{agrees, AgreesText, SanReads, SanIsSpelled}
use Rattle.san_text.specs.Spelling.{SanSpelling, spelling_of_san}
use Rattle.san_text.specs.declared.fault.SanFault.TheVariants.{NoFit, Ambiguous}
use Rattle.chess_board.specs.declared.board.Move.{Move}

abbrev pub found_list : Option Move → List Move
found_list None = []
found_list (Some m) = m ∷ []

contains_at : (p : Move → Bool) (y : Move) (ys : List Move) (x : Move) (k : ℕ) → k < length (y ∷ ys) → get_or (y ∷ ys) k x ≡ x → p x ≡ true → ((z : Move) → Contains ys z → p z ≡ true → Contains (filter p ys) z) → Contains (filter p (y ∷ ys)) x
contains_at p y ys x zero l g e ih = subst (λ (v : Bool). Contains (cond v (y ∷ filter p ys) (filter p ys)) x) (sym (ap p g ∙ e)) (zero, omega arith, g)
contains_at p y ys x (suc k) l g e ih =
    let below = ih x (k, omega arith, g) e in
    elim (p y) as (λ v. Contains (cond v (y ∷ filter p ys) (filter p ys)) x) [ true ↦ (suc below.0, omega (arith, below.1), below.2) | false ↦ below ]

-- a move that passes is kept
pub passes_stay : (p : Move → Bool) (xs : List Move) (x : Move) → Contains xs x → p x ≡ true → Contains (filter p xs) x
passes_stay p [] x c e = absurd (omega (arith, c.1))
passes_stay p (y ∷ ys) x c e = contains_at p y ys x c.0 c.1 c.2 e (passes_stay p ys)

-- the first that is kept is one of them, and passes
pub first_kept : (p : Move → Bool) (xs : List Move) (a : Move) (rest : List Move) → filter p xs ≡ a ∷ rest → Contains xs a × (p a ≡ true)
first_kept p [] a rest e = cc
first_kept p (y ∷ ys) a rest e =
    (elim (p y) as (λ v. p y ≡ v → cond v (y ∷ filter p ys) (filter p ys) ≡ a ∷ rest → Contains (y ∷ ys) a × (p a ≡ true)) [
      | true ↦ λ t f. let same : y ≡ a = cc f in ((zero, omega arith, same), ap p (sym same) ∙ t)
      | false ↦ λ t f. let ih = first_kept p ys a rest f in ((suc ih.0.0, omega (arith, ih.0.1), ih.0.2), ih.1)
    ]) refl e

at_zero : (a x : Move) (k : ℕ) → k < 1 → get_or (a ∷ []) k x ≡ x → x ≡ a
at_zero a x zero l g = sym g
at_zero a x (suc k) l g = absurd (omega arith)

pub only_one : (a x : Move) → Contains (a ∷ []) x → x ≡ a
only_one a x c = at_zero a x c.0 c.1 c.2

-- the moves up to one, and this one
pub found_more : (p : Move → Bool) (xs : List Move) (i : ℕ) (x : Move) → i < length xs → x ≡ get_or xs i x → p x ≡ true → filter p (take (i + 1) xs) ≡ filter p (take i xs) ++ x ∷ []
found_more p xs i x l e t =
    ap (λ (ys : List Move). filter p ys) (rw add-one (take-suc xs i x l ∙ ap (λ y. take i xs ++ y ∷ []) (sym e)))
    ∙ filter-append p (take i xs) (x ∷ []) ∙ ap (λ v. filter p (take i xs) ++ cond v (x ∷ []) []) t

pub found_same : (p : Move → Bool) (xs : List Move) (i : ℕ) (x : Move) → i < length xs → x ≡ get_or xs i x → p x ≡ false → filter p (take (i + 1) xs) ≡ filter p (take i xs)
found_same p xs i x l e t =
    ap (λ (ys : List Move). filter p ys) (rw add-one (take-suc xs i x l ∙ ap (λ y. take i xs ++ y ∷ []) (sym e)))
    ∙ filter-append p (take i xs) (x ∷ []) ∙ ap (λ v. filter p (take i xs) ++ cond v (x ∷ []) []) t ∙ append-nil (filter p (take i xs))

some_found : (o : Option Move) → is_some o ≡ true → (a : Move) × (o ≡ Some a)
some_found None e = cc
some_found (Some a) e = (a, refl)

-- a text does not come before itself
not_before : (a : Move) → ComesBefore a a → ⊥
not_before a h = let e = is_eq-slice_cmp (text_of_move a) (text_of_move a) ∙ (bytes_eq-Decides (text_of_move a) (text_of_move a)).1 refl in cc (ap is_eq h, e)

-- a second one that fits is another
pub two_found : (p : Move → Bool) (xs : List Move) (i : ℕ) (m : Move) (found : Option Move) → i < length xs → m ≡ get_or xs i m → p m ≡ true → filter p (take i xs) ≡ found_list found → is_some found ≡ true → AllPairs ComesBefore xs
    → (a : Move) × (Contains xs a × ((p a ≡ true) × (a ≡ m → ⊥)))
two_found p xs i m found l e t inv some ordered =
    let f = some_found found some in
    let prefix : filter p (take (i + 1) xs) ≡ f.0 ∷ m ∷ [] = found_more p xs i m l e t ∙ ap (λ ys. ys ++ m ∷ []) (inv ∙ ap found_list f.1) in
    let all : filter p xs ≡ f.0 ∷ m ∷ filter p (drop (i + 1) xs) =
    ap (λ (ys : List Move). filter p ys) (sym (take-append-drop (i + 1) xs)) ∙ filter-append p (take (i + 1) xs) (drop (i + 1) xs) ∙ ap (λ ys. ys ++ filter p (drop (i + 1) xs)) prefix in
    let first = first_kept p xs f.0 (m ∷ filter p (drop (i + 1) xs)) all in
    let pairs : AllPairs ComesBefore (f.0 ∷ m ∷ filter p (drop (i + 1) xs)) = subst (λ (ys : List Move). AllPairs ComesBefore ys) all (AllPairs-filter ComesBefore p xs ordered) in
    (f.0, (first.0, (first.1, λ same. not_before f.0 (subst (λ (x : Move). ComesBefore f.0 x) (sym same) (pairs 0 1 m (omega arith) (omega arith))))))

pub all_found : (p : Move → Bool) (xs : List Move) (i : ℕ) (found : Option Move) → length xs ≤ i → filter p (take i xs) ≡ found_list found → filter p xs ≡ found_list found
all_found p xs i found l e = ap (λ (ys : List Move). filter p ys) (sym (take_all i xs l)) ∙ e

-- the reading at the end
pub read_end : (p : Position) (text : List ℕ) (s : SanSpelling) (xs : List Move) (found : Option Move) → spelling_of_san text ≡ Some s → ((m : Move) → Contains xs m ↔ IsLegal p m.from.index m.to.index m.promotion) → filter (agrees p s) xs ≡ found_list found → SanReads p text (ok_or found NoFit)
read_end p text s xs None e each f = (
  subst (λ (o : Option SanSpelling). SanIsSpelled o) (sym e) tt,
  λ n h. let c = passes_stay (agrees p s) xs n ((each n).1 h.0) (subst (λ (o : Option SanSpelling). AgreesText p o n) e h.1) in
      let d = subst (λ (ys : List Move). Contains ys n) f c in absurd (omega (arith, d.1)),
)
read_end p text s xs (Some a) e each f =
    let first = first_kept (agrees p s) xs a [] f in (
      ((each a).0 first.0, subst (λ (o : Option SanSpelling). AgreesText p o a) (sym e) first.1),
      λ n h. only_one a n (subst (λ (ys : List Move). Contains ys n) f (passes_stay (agrees p s) xs n ((each n).1 h.0) (subst (λ (o : Option SanSpelling). AgreesText p o n) e h.1))),
    )

-- two that fit
pub read_two : (p : Position) (text : List ℕ) (s : SanSpelling) (xs : List Move) (i : ℕ) (m : Move) (found : Option Move) → spelling_of_san text ≡ Some s → ((m : Move) → Contains xs m ↔ IsLegal p m.from.index m.to.index m.promotion) → AllPairs ComesBefore xs
    → i < length xs → m ≡ get_or xs i m → agrees p s m ≡ true → filter (agrees p s) (take i xs) ≡ found_list found → is_some found ≡ true → SanReads p text (Err Ambiguous)
read_two p text s xs i m found e each ordered l g t inv some =
    let two = two_found (agrees p s) xs i m found l g t inv some ordered in
    let fits : (n : Move) → agrees p s n ≡ true → AgreesText p (spelling_of_san text) n = λ n h. subst (λ (o : Option SanSpelling). AgreesText p o n) (sym e) h in
    (two.0, (m, (((each two.0).0 two.1.0, fits two.0 two.1.1.0), ((each m).0 (i, l, sym g), fits m t), two.1.1.1)))
