-- The castling field of a Chess960 text is read as the rights that it spells.
use Rattle.std.proofs.Common.{◌≡◌, ℕ, ◌<◌, ◌⊎◌, inl, inr, ⊎_elim, List, [], ◌∷◌, Bool, true, false, ◌&&◌, cond, eqb, length, Option, Some, None, refl, ap, subst, sym, ◌∙◌, arith}
use Rattle.std.specs.Prelude.{◌↔◌}
use Rattle.std.specs.List.{list_all}
use Rattle.std.proofs.lemmas.Bool.{and_parts}
use Rattle.std.proofs.lemmas.Bool.Decides.{Decides-eqb}
use Rattle.chess_board.specs.declared.board.Rights.{Rights}
use Rattle.chess_board.specs.declared.board.Side.{Side}
use Rattle.chess_board.specs.declared.board.Side.TheVariants.{White, Black}
use Rattle.chess_board.specs.declared.board.Variant.{Variant}
use Rattle.chess_board.specs.declared.board.Variant.TheVariants.{Fischer}
use Rattle.chess_board.specs.declared.board.Wing.{Wing}
use Rattle.chess_board.specs.declared.board.Wing.TheVariants.{HSide, ASide}
use Rattle.chess_board.specs.Board.{Pieces}
use Rattle.chess_board.specs.Rules.{right_of}
use Rattle.fen_text.specs.RookFiles.{named_rook, one_of, right_in, is_castling_letter, are_different, are_castling_letters, fischer_rights, no_fischer_rights, fischer_letters_of, fischer_rights_of}
use Rattle.fen_text.specs.CastlingField.{Names, SomeNames, NoTwoName, SpellsRights, SpellsField, CastlingFieldLaw}
use Rattle.fen_text.proofs.FischerText.{five, found, letters_read}
use Rattle.fen_text.proofs.Letters.{right_none}
use Rattle.fen_text.proofs.Named.{named-is, named-of, named-none}

unnamed : (pieces : Pieces) (side : Side) (wing : Wing) (letter rook : ℕ) → named_rook pieces side wing letter ≡ None → Names pieces side wing letter rook → ⊥
unnamed pieces side wing letter rook none n = let some = named-of pieces side wing letter rook n in absurd (cc)

-- once a right is named, no letter names another
kept_is : (pieces : Pieces) (side : Side) (wing : Wing) (x : ℕ) (right : Option ℕ) (letters : List ℕ) → right_in pieces side wing (Some (Some x)) letters ≡ Some right
    → (right ≡ Some x) × ((rook : ℕ) → SomeNames pieces side wing letters rook → ⊥)
kept_is pieces side wing x right [] e = let same : Some x ≡ right = cc in (sym same, λ rook s. s)
kept_is pieces side wing x right (letter ∷ letters) e = go (named_rook pieces side wing letter) refl e (kept_is pieces side wing x right letters)
  where
    Rest : Type 0
    Rest = right_in pieces side wing (Some (Some x)) letters ≡ Some right → (right ≡ Some x) × ((rook : ℕ) → SomeNames pieces side wing letters rook → ⊥)

    go : (o : Option ℕ) → named_rook pieces side wing letter ≡ o → right_in pieces side wing (one_of (Some x) o) letters ≡ Some right → Rest
        → (right ≡ Some x) × ((rook : ℕ) → SomeNames pieces side wing (letter ∷ letters) rook → ⊥)
    go None k f more =
        let rest = more f in
        (rest.0, λ rook s. ⊎_elim (λ n. unnamed pieces side wing letter rook k n) (λ m. rest.1 rook m) s)
    go (Some y) k f more = let none = right_none pieces side wing letters in absurd (cc)

kept_of : (pieces : Pieces) (side : Side) (wing : Wing) (x : ℕ) (letters : List ℕ) → ((rook : ℕ) → SomeNames pieces side wing letters rook → ⊥) → right_in pieces side wing (Some (Some x)) letters ≡ Some (Some x)
kept_of pieces side wing x [] h = refl
kept_of pieces side wing x (letter ∷ letters) h =
    let none : named_rook pieces side wing letter ≡ None = named-none pieces side wing letter (λ rook n. h rook (inl n)) in
    ap (λ (o : Option (Option ℕ)). right_in pieces side wing o letters) (ap (one_of (Some x)) none) ∙ kept_of pieces side wing x letters (λ rook m. h rook (inr m))

no_two : (pieces : Pieces) (side : Side) (wing : Wing) (letters : List ℕ) → ((rook : ℕ) → SomeNames pieces side wing letters rook → ⊥) → NoTwoName pieces side wing letters
no_two pieces side wing [] h = tt
no_two pieces side wing (letter ∷ letters) h = (λ rook other n s. h rook (inl n), no_two pieces side wing letters (λ rook m. h rook (inr m)))

abbrev AreNamed : Pieces → Side → Wing → List ℕ → Option ℕ → Type 0
AreNamed pieces side wing letters right = NoTwoName pieces side wing letters × ((rook : ℕ) → (right ≡ Some rook) ↔ SomeNames pieces side wing letters rook)

right_is : (pieces : Pieces) (side : Side) (wing : Wing) (right : Option ℕ) (letters : List ℕ) → right_in pieces side wing (Some None) letters ≡ Some right → AreNamed pieces side wing letters right
right_is pieces side wing right [] e = (tt, λ rook. (λ h. absurd (cc), λ s. absurd s))
right_is pieces side wing right (letter ∷ letters) e = go (named_rook pieces side wing letter) refl e (right_is pieces side wing right letters)
  where
    go : (o : Option ℕ) → named_rook pieces side wing letter ≡ o → right_in pieces side wing (one_of None o) letters ≡ Some right → (right_in pieces side wing (Some None) letters ≡ Some right → AreNamed pieces side wing letters right) → AreNamed pieces side wing (letter ∷ letters) right
    go None k f more =
        let rest = more f in (
          (λ rook other n s. unnamed pieces side wing letter rook k n, rest.0),
          λ rook. (λ h. inr ((rest.1 rook).0 h), λ s. ⊎_elim (λ n. absurd (unnamed pieces side wing letter rook k n)) (λ m. (rest.1 rook).1 m) s),
        )
    go (Some y) k f more =
        let rest = kept_is pieces side wing y right letters f in (
          (λ rook other n s. rest.1 other s, no_two pieces side wing letters rest.1),
          λ rook. (
            λ h. let same : y ≡ rook = let is = rest.0 in cc in inl (subst (λ (r : ℕ). Names pieces side wing letter r) same (named-is pieces side wing letter y k)),
            λ s. ⊎_elim (λ n. let is = named-of pieces side wing letter rook n in let same : y ≡ rook = cc in rest.0 ∙ ap Some same) (λ m. absurd (rest.1 rook m)) s,
          ),
        )

right_from : (pieces : Pieces) (side : Side) (wing : Wing) (right : Option ℕ) (letters : List ℕ) → AreNamed pieces side wing letters right → right_in pieces side wing (Some None) letters ≡ Some right
right_from pieces side wing None [] h = refl
right_from pieces side wing (Some rook) [] h = absurd ((h.1 rook).0 refl)
right_from pieces side wing right (letter ∷ letters) h = go (named_rook pieces side wing letter) refl (right_from pieces side wing right letters)
  where
    go : (o : Option ℕ) → named_rook pieces side wing letter ≡ o → (AreNamed pieces side wing letters right → right_in pieces side wing (Some None) letters ≡ Some right) → right_in pieces side wing (one_of None (named_rook pieces side wing letter)) letters ≡ Some right
    go None k more =
        ap (λ (o : Option (Option ℕ)). right_in pieces side wing o letters) (ap (one_of None) k)
        ∙ more (h.0.1, λ rook. (λ e. ⊎_elim (λ n. absurd (unnamed pieces side wing letter rook k n)) (λ m. m) ((h.1 rook).0 e), λ m. (h.1 rook).1 (inr m)))
    go (Some y) k more =
        let names = named-is pieces side wing letter y k in
        ap (λ (o : Option (Option ℕ)). right_in pieces side wing o letters) (ap (one_of None) k)
        ∙ kept_of pieces side wing y letters (λ other m. h.0.0 y other names m) ∙ ap Some (sym ((h.1 y).1 (inl names)))

-- ALL FOUR

abbrev AreRead : Pieces → List ℕ → Rights → Type 0
AreRead pieces field rights = (side : Side) (wing : Wing) → right_in pieces side wing (Some None) field ≡ Some (right_of rights side wing)

four_are : (wk wq bk bq : Option (Option ℕ)) (rights : Rights) → fischer_rights wk wq bk bq ≡ Some rights
    → (rights.variant ≡ Fischer) × (((wk ≡ Some rights.wk) × (wq ≡ Some rights.wq)) × ((bk ≡ Some rights.bk) × (bq ≡ Some rights.bq)))
unfolding five
four_are (Some wk) (Some wq) (Some bk) (Some bq) rights e =
    let same : five Fischer wk wq bk bq ≡ rights = cc in (
      sym (ap (λ (r : Rights). r.variant) same),
      ((ap (λ (r : Rights). Some r.wk) same, ap (λ (r : Rights). Some r.wq) same), (ap (λ (r : Rights). Some r.bk) same, ap (λ (r : Rights). Some r.bq) same)),
    )
four_are None wq bk bq rights e = absurd (cc)
four_are (Some wk) None bk bq rights e = absurd (cc)
four_are (Some wk) (Some wq) None bq rights e = absurd (cc)
four_are (Some wk) (Some wq) (Some bk) None rights e = absurd (cc)

letters_are : (pieces : Pieces) (field : List ℕ) (rights : Rights) → 0 < length field → fischer_letters_of pieces field ≡ Some rights → SpellsRights pieces field rights
letters_are pieces field rights some e = by (are_castling_letters field) refl e
  where
    wk : Option (Option ℕ)
    wk = right_in pieces White HSide (Some None) field

    wq : Option (Option ℕ)
    wq = right_in pieces White ASide (Some None) field

    bk : Option (Option ℕ)
    bk = right_in pieces Black HSide (Some None) field

    bq : Option (Option ℕ)
    bq = right_in pieces Black ASide (Some None) field

    all : fischer_rights wk wq bk bq ≡ Some rights → AreRead pieces field rights
    all h White HSide = (four_are wk wq bk bq rights h).1.0.0
    all h White ASide = (four_are wk wq bk bq rights h).1.0.1
    all h Black HSide = (four_are wk wq bk bq rights h).1.1.0
    all h Black ASide = (four_are wk wq bk bq rights h).1.1.1

    by : (b : Bool) → are_castling_letters field ≡ b → cond b (fischer_rights wk wq bk bq) None ≡ Some rights → SpellsRights pieces field rights
    by true c h = record {
      some = some;
      letters = c;
      variant = (four_are wk wq bk bq rights h).0;
      single = λ side wing. (right_is pieces side wing (right_of rights side wing) field (all h side wing)).0;
      named = λ side wing. (right_is pieces side wing (right_of rights side wing) field (all h side wing)).1;
    }
    by false c h = absurd (cc)

letters_from : (pieces : Pieces) (field : List ℕ) (rights : Rights) → SpellsRights pieces field rights → fischer_letters_of pieces field ≡ Some rights
unfolding five
letters_from pieces field rights s =
    let parts = and_parts (list_all is_castling_letter field) (are_different field) s.letters in
    let same : five Fischer rights.wk rights.wq rights.bk rights.bq ≡ rights = ap (λ (v : Variant). five v rights.wk rights.wq rights.bk rights.bq) (sym s.variant) in
    found pieces field rights.wk rights.wq rights.bk rights.bq parts.0 parts.1 (all White HSide) (all White ASide) (all Black HSide) (all Black ASide) ∙ ap Some same
  where
    all : AreRead pieces field rights
    all side wing = right_from pieces side wing (right_of rights side wing) field (s.single side wing, s.named side wing)

field_is : (pieces : Pieces) (field : List ℕ) (rights : Rights) → fischer_rights_of pieces field ≡ Some rights → SpellsField pieces field rights
field_is pieces [] rights e = absurd (cc)
field_is pieces (byte ∷ []) rights e = by (eqb byte 45) refl e
  where
    by : (b : Bool) → eqb byte 45 ≡ b → cond b (Some no_fischer_rights) (fischer_letters_of pieces (byte ∷ [])) ≡ Some rights → SpellsField pieces (byte ∷ []) rights
    by true t h = let same : no_fischer_rights ≡ rights = cc in inl (ap (λ b. b ∷ []) ((Decides-eqb byte 45).0 t), sym same)
    by false t h = inr (letters_are pieces (byte ∷ []) rights (omega arith) h)
field_is pieces (byte ∷ next ∷ bytes) rights e = inr (letters_are pieces (byte ∷ next ∷ bytes) rights (omega arith) e)

field_from : (pieces : Pieces) (field : List ℕ) (rights : Rights) → SpellsField pieces field rights → fischer_rights_of pieces field ≡ Some rights
field_from pieces field rights (inl d) = ap (fischer_rights_of pieces) d.0 ∙ ap Some (sym d.1)
field_from pieces field rights (inr s) =
    let parts = and_parts (list_all is_castling_letter field) (are_different field) s.letters in
    letters_read pieces field parts.0 s.some ∙ letters_from pieces field rights s

pub castling_field : CastlingFieldLaw
castling_field pieces field rights = (field_is pieces field rights, field_from pieces field rights)
