-- The test for the same position decides the relation.
use Rattle.std.proofs.Common.{◌≡◌, ℕ, zero, suc, [], ◌∷◌, Bool, true, false, ◌&&◌, eqb, Option, Some, None, refl, sym, ap, ◌∙◌}
use Rattle.std.specs.Bool.{Decides}
use Rattle.std.specs.Option.{unwrap_or}
use Rattle.std.proofs.lemmas.Bool.Decides.{Decides-and, Decides-eqb}
use Rattle.chess_board.specs.declared.board.Side.{Side}
use Rattle.chess_board.specs.declared.board.Side.TheVariants.{White, Black}
use Rattle.chess_board.specs.declared.board.Kind.{Kind}
use Rattle.chess_board.specs.declared.board.Kind.TheVariants.{Pawn, Knight, Bishop, Rook, Queen, King}
use Rattle.chess_board.specs.declared.board.Rights.{Rights}
use Rattle.chess_board.specs.declared.board.Variant.{Variant}
use Rattle.chess_board.specs.declared.board.Variant.TheVariants.{Normal, Fischer}
use Rattle.chess_board.specs.Board.{Occupant, Pieces, same_side}
use Rattle.chess_board.specs.Position.{Position}
use Rattle.game_record.specs.Ending.{kind_number, same_piece, same_pieces, same_variant, same_rights, same_square, is_same, SameLaw}

kind_at : ℕ → Kind
kind_at zero = Pawn
kind_at (suc zero) = Knight
kind_at (suc (suc zero)) = Bishop
kind_at (suc (suc (suc zero))) = Rook
kind_at (suc (suc (suc (suc zero)))) = Queen
kind_at (suc (suc (suc (suc (suc n))))) = King

kind_at-number : (kind : Kind) → kind_at (kind_number kind) ≡ kind
unfolding kind_at
kind_at-number Pawn = refl
kind_at-number Knight = refl
kind_at-number Bishop = refl
kind_at-number Rook = refl
kind_at-number Queen = refl
kind_at-number King = refl

kind-law : (a b : Kind) → Decides (eqb (kind_number a) (kind_number b)) (a ≡ b)
kind-law a b =
    let numbers = Decides-eqb (kind_number a) (kind_number b) in
    (λ e. sym (kind_at-number a) ∙ ap kind_at (numbers.0 e) ∙ kind_at-number b, λ e. numbers.1 (ap kind_number e))

side-law : (a b : Side) → Decides (same_side a b) (a ≡ b)
side-law White White = (λ _. refl, λ _. refl)
side-law White Black = (λ e. cc, λ e. cc)
side-law Black White = (λ e. cc, λ e. cc)
side-law Black Black = (λ _. refl, λ _. refl)

occupant-law : (a b : Occupant) → Decides (same_piece a b) (a ≡ b)
occupant-law None None = (λ _. refl, λ _. refl)
occupant-law None (Some b) = (λ e. cc, λ e. cc)
occupant-law (Some a) None = (λ e. cc, λ e. cc)
occupant-law (Some (side, kind)) (Some (other, piece)) =
    let both = Decides-and (same_side side other) (eqb (kind_number kind) (kind_number piece)) (side-law side other) (kind-law kind piece) in (
      λ e. let parts = both.0 e in ap (λ (s : Side). Some (s, kind)) parts.0 ∙ ap (λ (k : Kind). Some (other, k)) parts.1,
      λ e. let pair = ap (λ (occupant : Occupant). unwrap_or occupant (side, kind)) e in both.1 (ap (λ (occupant : Side × Kind). occupant.0) pair, ap (λ (occupant : Side × Kind). occupant.1) pair),
    )

pieces-law : (a b : Pieces) → Decides (same_pieces a b) (a ≡ b)
pieces-law [] [] = (λ _. refl, λ _. refl)
pieces-law [] (b ∷ others) = (λ e. cc, λ e. cc)
pieces-law (a ∷ pieces) [] = (λ e. cc, λ e. cc)
pieces-law (a ∷ pieces) (b ∷ others) =
    let both = Decides-and (same_piece a b) (same_pieces pieces others) (occupant-law a b) (pieces-law pieces others) in (
      λ e. let parts = both.0 e in ap (λ (x : Occupant). x ∷ pieces) parts.0 ∙ ap (λ (xs : Pieces). b ∷ xs) parts.1,
      λ e. let first : a ≡ b = cc in let rest : pieces ≡ others = cc in both.1 (first, rest),
    )

square-law : (a b : Option ℕ) → Decides (same_square a b) (a ≡ b)
square-law None None = (λ _. refl, λ _. refl)
square-law None (Some b) = (λ e. cc, λ e. cc)
square-law (Some a) None = (λ e. cc, λ e. cc)
square-law (Some a) (Some b) =
    let numbers = Decides-eqb a b in
    (λ e. ap Some (numbers.0 e), λ e. numbers.1 (ap (λ (s : Option ℕ). unwrap_or s a) e))

variant-law : (a b : Variant) → Decides (same_variant a b) (a ≡ b)
variant-law Normal Normal = (λ _. refl, λ _. refl)
variant-law Normal Fischer = (λ e. cc, λ e. cc)
variant-law Fischer Normal = (λ e. cc, λ e. cc)
variant-law Fischer Fischer = (λ _. refl, λ _. refl)

abbrev five : Variant → Option ℕ → Option ℕ → Option ℕ → Option ℕ → Rights
five variant wk wq bk bq = record { variant = variant; wk = wk; wq = wq; bk = bk; bq = bq }

rights-law : (a b : Rights) → Decides (same_rights a b) (a ≡ b)
rights-law a b =
    let both = Decides-and (same_variant a.variant b.variant) _ (variant-law a.variant b.variant)
    (Decides-and (same_square a.wk b.wk && same_square a.wq b.wq) (same_square a.bk b.bk && same_square a.bq b.bq)
    (Decides-and (same_square a.wk b.wk) (same_square a.wq b.wq) (square-law a.wk b.wk) (square-law a.wq b.wq))
    (Decides-and (same_square a.bk b.bk) (same_square a.bq b.bq) (square-law a.bk b.bk) (square-law a.bq b.bq))) in (
      λ e. let parts = (both.0 e).1 in
          let whole : five a.variant a.wk a.wq a.bk a.bq ≡ five b.variant b.wk b.wq b.bk b.bq =
          ap (λ (v : Variant). five v a.wk a.wq a.bk a.bq) (both.0 e).0
          ∙ ap (λ (r : Option ℕ). five b.variant r a.wq a.bk a.bq) parts.0.0 ∙ ap (λ (r : Option ℕ). five b.variant b.wk r a.bk a.bq) parts.0.1
          ∙ ap (λ (r : Option ℕ). five b.variant b.wk b.wq r a.bq) parts.1.0 ∙ ap (λ (r : Option ℕ). five b.variant b.wk b.wq b.bk r) parts.1.1 in
          whole,
      λ e. both.1 (ap (λ (r : Rights). r.variant) e, ((ap (λ (r : Rights). r.wk) e, ap (λ (r : Rights). r.wq) e), (ap (λ (r : Rights). r.bk) e, ap (λ (r : Rights). r.bq) e))),
    )

pub same-law : SameLaw
unfolding is_same
same-law p q =
    let both = Decides-and (same_pieces p.pieces q.pieces && same_side p.side q.side) (same_rights p.rights q.rights && same_square p.passant q.passant)
    (Decides-and (same_pieces p.pieces q.pieces) (same_side p.side q.side) (pieces-law p.pieces q.pieces) (side-law p.side q.side))
    (Decides-and (same_rights p.rights q.rights) (same_square p.passant q.passant) (rights-law p.rights q.rights) (square-law p.passant q.passant)) in (
      λ e. let parts = both.0 e in record { pieces = parts.0.0; side = parts.0.1; rights = parts.1.0; passant = parts.1.1 },
      λ s. both.1 ((s.pieces, s.side), (s.rights, s.passant)),
    )

pub is_same-refl : (p : Position) → is_same p p ≡ true
is_same-refl p = (same-law p p).1 (record { pieces = refl; side = refl; rights = refl; passant = refl })

-- two tests for one fact agree
pub agree : (a b : Bool) (P : Type 0) → Decides a P → Decides b P → a ≡ b
agree true true P h k = refl
agree true false P h k = sym (k.1 (h.0 refl))
agree false true P h k = h.1 (k.0 refl)
agree false false P h k = refl
