-- The en passant square is kept exactly if a legal capture on it is possible.
use Rattle.std.proofs.Common.{◌≡◌, ◌<◌, ℕ, true, false, ◌&&◌, cond, refl, ap, subst, sym, ◌∙◌, Option, Some, None}
use Rattle.std.specs.Prelude.{◌↔◌}
use Rattle.std.specs.Bool.{Decides}
use Rattle.std.proofs.lemmas.Bool.{false≢true}
use Rattle.std.proofs.lemmas.Bool.Decides.{Decides-and}
use Rattle.chess_board.specs.declared.board.Side.{Side}
use Rattle.chess_board.specs.declared.board.Rights.{Rights}
use Rattle.chess_board.specs.Board.{Pieces, piece_at, is_pawn, squares}
use Rattle.chess_board.specs.Position.{Position}
use Rattle.chess_board.specs.Rules.{is_en_passant, is_legal}
use Rattle.chess_board.specs.Laws.{CanCaptureEnPassant}
use Rattle.chess_board.specs.Play.{can_take, with_legal_en_passant, settled_at}
use Rattle.chess_board.proofs.Below.{some_below-hit, some_below-found, squares-is}
use Rattle.chess_board.proofs.Legal.{PawnAt, EnPassantAt, legal-law}

pub take-law : (p : Position) (at : ℕ) → Decides (can_take p at) (CanCaptureEnPassant p at)
unfolding can_take
take-law p at =
    let test = λ (from : ℕ). is_pawn p.side (piece_at p.pieces from) && (is_en_passant p from at && is_legal p from at None) in
    let each = λ (from : ℕ). Decides-and (is_pawn p.side (piece_at p.pieces from)) (is_en_passant p from at && is_legal p from at None) (PawnAt p.side (piece_at p.pieces from))
    (Decides-and (is_en_passant p from at) (is_legal p from at None) (EnPassantAt p from at) (legal-law p from at None)) in (
      λ e. let found = some_below-found squares test e in let parts = (each found.0).0 found.2 in
          record { from = found.0; low = subst (λ (n : ℕ). found.0 < n) squares-is found.1; pawn = parts.0; way = parts.1.0; legal = parts.1.1 },
      λ h. some_below-hit squares h.from test (rw squares-is h.low) ((each h.from).1 (h.pawn, (h.way, h.legal))),
    )

abbrev placed : Pieces → Side → Rights → Option ℕ → ℕ → ℕ → Position
placed pieces side rights passant half full = record { pieces = pieces; side = side; rights = rights; passant = passant; half = half; full = full }

abbrev pub with_en_passant : Position → Option ℕ → Position
with_en_passant p passant = record p { passant = passant }

with_own : (p : Position) (o : Option ℕ) → p.passant ≡ o → with_en_passant p o ≡ p
with_own p o e =
    let whole : placed p.pieces p.side p.rights o p.half p.full ≡ placed p.pieces p.side p.rights p.passant p.half p.full = ap (λ (v : Option ℕ). placed p.pieces p.side p.rights v p.half p.full) (sym e) in
    whole

-- all but the en passant square is as it was
pub settled-only : (p : Position) → with_legal_en_passant p ≡ with_en_passant p (with_legal_en_passant p).passant
settled-only p =
    elim p.passant as (λ v. p.passant ≡ v → settled_at p v ≡ with_en_passant p (settled_at p v).passant) [
      | None ↦ λ e. sym (with_own p p.passant refl)
      | Some s ↦ λ e. elim (can_take p s) as (λ v. cond v p (with_en_passant p None) ≡ with_en_passant p (cond v p (with_en_passant p None)).passant) [ true ↦ sym (with_own p p.passant refl) | false ↦ refl ]
    ] refl

pub settled-passant : (p : Position) (at : ℕ) → ((with_legal_en_passant p).passant ≡ Some at) ↔ ((p.passant ≡ Some at) × CanCaptureEnPassant (with_en_passant (with_legal_en_passant p) (Some at)) at)
settled-passant p at =
    elim p.passant as (λ v. p.passant ≡ v → ((settled_at p v).passant ≡ Some at) ↔ ((p.passant ≡ Some at) × CanCaptureEnPassant (with_en_passant (settled_at p v) (Some at)) at)) [
      | None ↦ λ e. (λ h. let no' : None ≡ Some at = sym e ∙ h in absurd (cc), λ h. let h0 = h.0 in let no' : None ≡ Some at = sym e ∙ h0 in absurd (cc))
      | Some s ↦ λ e. elim (can_take p s) as (λ v. can_take p s ≡ v → ((cond v p (with_en_passant p None)).passant ≡ Some at) ↔ ((p.passant ≡ Some at) × CanCaptureEnPassant (with_en_passant (cond v p (with_en_passant p None)) (Some at)) at)) [
        | true ↦ λ t. (
          λ h. let same : s ≡ at = cc in (h, subst (λ (q : Position). CanCaptureEnPassant q at) (sym (with_own p (Some at) h)) ((take-law p at).0 (subst (λ (i : ℕ). can_take p i ≡ true) same t))),
          λ h. h.0,
        )
        | false ↦ λ f. (
          λ h. absurd (cc),
          λ h. let h0 = h.0 in let same : at ≡ s = cc in
              let taken : CanCaptureEnPassant p at = subst (λ (q : Position). CanCaptureEnPassant q at) (with_own p (Some at) h.0) h.1 in
              let yes' : can_take p s ≡ true = subst (λ (i : ℕ). can_take p i ≡ true) same ((take-law p at).1 taken) in
              absurd (false≢true (sym f ∙ yes')),
        )
      ] refl
    ] refl
