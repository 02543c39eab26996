-- No field of a position is `moves`.
use Rattle.std.proofs.Common.{◌≡◌, ℕ, List, [], ◌∷◌, Bool, true, false, not, ◌&&◌, Option, Some, None, codes, refl, sym, ap, ◌∙◌}
use Rattle.std.specs.Prelude.{Result, Ok, is_some, is_none, if◌then◌else◌}
use Rattle.std.specs.List.{list_all, slice_get}
use Rattle.std.specs.Option.{option_and_then}
use Rattle.chess_board.specs.declared.board.Side.{Side}
use Rattle.chess_board.specs.declared.board.Rights.{Rights}
use Rattle.chess_board.specs.declared.board.Variant.{Variant}
use Rattle.chess_board.specs.declared.board.Variant.TheVariants.{Normal, Fischer}
use Rattle.chess_board.specs.Board.{Pieces}
use Rattle.chess_board.specs.Position.{Position}
use Rattle.fen_text.specs.declared.fault.FenFault.{FenFault}
use Rattle.fen_text.specs.Fen.{position_from_fields, rights_beside}
use Rattle.fen_text.specs.Fields.{side_of, rights_of, en_passant_of, count_of, count_or}
use Rattle.fen_text.specs.Squares.{board_in_field}
use Rattle.uci_lines.specs.Spells.{IsNoneOf}
use Rattle.uci_lines.proofs.Counts.{same_text}
use Rattle.uci_interface_lines.specs.Lines.{is_moves_token, position_in_fields}

-- where a position is spelled, each field spells something
record AreSome (pieces : Option Pieces) (side : Option Side) (rights : Option Rights) (passant : Option (Option ℕ)) (half full : Option ℕ) : Type 0 where
  pieces_is : is_some pieces ≡ true
  side_is : is_some side ≡ true
  rights_is : is_some rights ≡ true
  en_passant_is : is_some passant ≡ true
  half_is : is_some half ≡ true
  full_is : is_some full ≡ true

all_some : (pieces : Option Pieces) (side : Option Side) (rights : Option Rights) (passant : Option (Option ℕ)) (half full : Option ℕ) (p : Position)
    → position_from_fields pieces side rights passant half full ≡ Ok p → AreSome pieces side rights passant half full
all_some None side rights passant half full p h = absurd (cc)
all_some (Some pieces) None rights passant half full p h = absurd (cc)
all_some (Some pieces) (Some side) None passant half full p h = absurd (cc)
all_some (Some pieces) (Some side) (Some rights) None half full p h = absurd (cc)
all_some (Some pieces) (Some side) (Some rights) (Some passant) None full p h = absurd (cc)
all_some (Some pieces) (Some side) (Some rights) (Some passant) (Some half) None p h = absurd (cc)
all_some (Some pieces) (Some side) (Some rights) (Some passant) (Some half) (Some full) p h =
    record { pieces_is = refl; side_is = refl; rights_is = refl; en_passant_is = refl; half_is = refl; full_is = refl }

other_by : {A : Type 0} (b : Bool) (f : List ℕ → Option A) (t : List ℕ) → is_moves_token t ≡ b → f (codes "moves") ≡ None → is_some (f t) ≡ true → not b ≡ true
other_by true f t e none some =
    let never : false ≡ true = sym (ap (λ w. is_some (f w)) (same_text t (codes "moves") e) ∙ ap is_some none) ∙ some in
    absurd (cc)
other_by false f t e none some = refl

-- a text that spells something where `moves` spells nothing is another
other : {A : Type 0} (f : List ℕ → Option A) (t : List ℕ) → f (codes "moves") ≡ None → is_some (f t) ≡ true → not (is_moves_token t) ≡ true
other f t none some = other_by (is_moves_token t) f t refl none some

both : (t : List ℕ) (ts : List (List ℕ)) → not (is_moves_token t) ≡ true → IsNoneOf is_moves_token ts → IsNoneOf is_moves_token (t ∷ ts)
both t ts h k = rw h k

-- what fields spell whose third is read so
abbrev fields_with : (Option (List ℕ) → Option Rights) → List (List ℕ) → Result Position FenFault
fields_with rights fields = position_from_fields
    (option_and_then board_in_field (slice_get fields 0))
    (option_and_then side_of (slice_get fields 1))
    (rights (slice_get fields 2))
    (option_and_then en_passant_of (slice_get fields 3))
    (count_or 0 (slice_get fields 4))
    (if is_none (slice_get fields 6) then count_or 1 (slice_get fields 5) else None)

with_none : (r : Option (List ℕ) → Option Rights) → r (Some (codes "moves")) ≡ None → (fields : List (List ℕ)) (p : Position) → fields_with r fields ≡ Ok p → IsNoneOf is_moves_token fields
with_none r k [] p h = refl
with_none r k (a ∷ []) p h =
    let s = all_some _ _ _ _ _ _ p h in
    both a [] (other board_in_field a refl s.pieces_is) refl
with_none r k (a ∷ b ∷ []) p h =
    let s = all_some _ _ _ _ _ _ p h in
    both a (b ∷ []) (other board_in_field a refl s.pieces_is) (both b [] (other side_of b refl s.side_is) refl)
with_none r k (a ∷ b ∷ c ∷ []) p h =
    let s = all_some _ _ _ _ _ _ p h in
    both a (b ∷ c ∷ []) (other board_in_field a refl s.pieces_is) (both b (c ∷ []) (other side_of b refl s.side_is)
    (both c [] (other (λ t. r (Some t)) c k s.rights_is) refl))
with_none r k (a ∷ b ∷ c ∷ d ∷ []) p h =
    let s = all_some _ _ _ _ _ _ p h in
    both a (b ∷ c ∷ d ∷ []) (other board_in_field a refl s.pieces_is) (both b (c ∷ d ∷ []) (other side_of b refl s.side_is)
    (both c (d ∷ []) (other (λ t. r (Some t)) c k s.rights_is) (both d [] (other en_passant_of d refl s.en_passant_is) refl)))
with_none r k (a ∷ b ∷ c ∷ d ∷ e ∷ []) p h =
    let s = all_some _ _ _ _ _ _ p h in
    both a (b ∷ c ∷ d ∷ e ∷ []) (other board_in_field a refl s.pieces_is) (both b (c ∷ d ∷ e ∷ []) (other side_of b refl s.side_is)
    (both c (d ∷ e ∷ []) (other (λ t. r (Some t)) c k s.rights_is) (both d (e ∷ []) (other en_passant_of d refl s.en_passant_is)
    (both e [] (other count_of e refl s.half_is) refl))))
with_none r k (a ∷ b ∷ c ∷ d ∷ e ∷ f ∷ []) p h =
    let s = all_some _ _ _ _ _ _ p h in
    both a (b ∷ c ∷ d ∷ e ∷ f ∷ []) (other board_in_field a refl s.pieces_is) (both b (c ∷ d ∷ e ∷ f ∷ []) (other side_of b refl s.side_is)
    (both c (d ∷ e ∷ f ∷ []) (other (λ t. r (Some t)) c k s.rights_is) (both d (e ∷ f ∷ []) (other en_passant_of d refl s.en_passant_is)
    (both e (f ∷ []) (other count_of e refl s.half_is) (both f [] (other count_of f refl s.full_is) refl)))))
with_none r k (a ∷ b ∷ c ∷ d ∷ e ∷ f ∷ g ∷ gs) p h =
    let s = all_some _ _ _ _ _ _ p h in
    let never : false ≡ true = s.full_is in
    absurd (cc)

no_rights : (board : Option Pieces) → rights_beside Fischer board (Some (codes "moves")) ≡ None
no_rights None = refl
no_rights (Some pieces) = refl

pub fields_none : (variant : Variant) (fields : List (List ℕ)) (p : Position) → position_in_fields variant fields ≡ Ok p → IsNoneOf is_moves_token fields
fields_none Normal fields p h = with_none (option_and_then rights_of) refl fields p h
fields_none Fischer fields p h =
    let board = option_and_then board_in_field (slice_get fields 0) in
    with_none (rights_beside Fischer board) (no_rights board) fields p h
