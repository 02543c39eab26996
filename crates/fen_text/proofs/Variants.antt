-- The positions that texts spell are of the variant by which they are read.
use Rattle.std.proofs.Common.{◌≡◌, ℕ, Bool, true, false, List, [], ◌∷◌, cond, Option, Some, None, refl, ap, sym, eqb}
use Rattle.std.specs.List.{slice_get}
use Rattle.std.specs.Option.{option_and_then}
use Rattle.chess_board.specs.declared.board.Rights.{Rights}
use Rattle.chess_board.specs.declared.board.Side.{Side}
use Rattle.chess_board.specs.declared.board.Side.TheVariants.{White, Black}
use Rattle.chess_board.specs.declared.board.Variant.{Variant}
use Rattle.chess_board.specs.declared.board.Variant.TheVariants.{Normal, Fischer}
use Rattle.chess_board.specs.declared.board.Wing.TheVariants.{HSide, ASide}
use Rattle.chess_board.specs.Board.{Pieces}
use Rattle.protocol_tokens.specs.Tokens.{tokens}
use Rattle.fen_text.specs.Fen.{position_from_fields, position_of, rights_by, rights_beside, position_by}
use Rattle.fen_text.specs.Fields.{rights_of, side_of, en_passant_of}
use Rattle.fen_text.specs.RookFiles.{right_in, are_castling_letters, fischer_rights, no_fischer_rights, fischer_letters_of, fischer_rights_of}
use Rattle.fen_text.specs.Squares.{board_in_field}
use Rattle.fen_text.specs.Written.{FenIsOfVariant}
use Rattle.fen_text.proofs.Normal.{rights_normal, fields_of_variant}

-- By normal chess a text spells what it spells as ever.
as_ever : (pieces : Option Pieces) (side : Option Side) (field : Option (List ℕ)) (passant : Option (Option ℕ)) (half full : Option ℕ)
    → position_from_fields pieces side (rights_beside Normal pieces field) passant half full ≡ position_from_fields pieces side (option_and_then rights_of field) passant half full
as_ever None side field passant half full = refl
as_ever (Some pieces) side None passant half full = refl
as_ever (Some pieces) side (Some field) passant half full = refl

pub by_normal : (text : List ℕ) → position_by Normal text ≡ position_of text
unfolding position_by position_of
by_normal text =
    let fields = tokens text in
    as_ever (option_and_then board_in_field (slice_get fields 0)) (option_and_then side_of (slice_get fields 1)) (slice_get fields 2) (option_and_then en_passant_of (slice_get fields 3)) _ _

four_fischer : (wk wq bk bq : Option (Option ℕ)) (rights : Rights) → fischer_rights wk wq bk bq ≡ Some rights → rights.variant ≡ Fischer
four_fischer (Some wk) (Some wq) (Some bk) (Some bq) rights e = sym (ap variant_in e)
  where
    variant_in : Option Rights → Variant
    variant_in None = Fischer
    variant_in (Some r) = r.variant
four_fischer None wq bk bq rights e = absurd (cc)
four_fischer (Some wk) None bk bq rights e = absurd (cc)
four_fischer (Some wk) (Some wq) None bq rights e = absurd (cc)
four_fischer (Some wk) (Some wq) (Some bk) None rights e = absurd (cc)

letters_fischer : (pieces : Pieces) (field : List ℕ) (rights : Rights) → fischer_letters_of pieces field ≡ Some rights → rights.variant ≡ Fischer
letters_fischer pieces field rights e = by (are_castling_letters field) e
  where
    by : (b : Bool) → cond b (fischer_rights (right_in pieces White HSide (Some None) field) (right_in pieces White ASide (Some None) field) (right_in pieces Black HSide (Some None) field) (right_in pieces Black ASide (Some None) field)) None ≡ Some rights → rights.variant ≡ Fischer
    by true h = four_fischer (right_in pieces White HSide (Some None) field) (right_in pieces White ASide (Some None) field) (right_in pieces Black HSide (Some None) field) (right_in pieces Black ASide (Some None) field) rights h
    by false h = absurd (cc)

rights_fischer : (pieces : Pieces) (field : List ℕ) (rights : Rights) → fischer_rights_of pieces field ≡ Some rights → rights.variant ≡ Fischer
rights_fischer pieces [] rights e = absurd (cc)
rights_fischer pieces (byte ∷ []) rights e = by (eqb byte 45) e
  where
    by : (b : Bool) → cond b (Some no_fischer_rights) (fischer_letters_of pieces (byte ∷ [])) ≡ Some rights → rights.variant ≡ Fischer
    by true h = let same : no_fischer_rights ≡ rights = cc in ap (λ (r : Rights). r.variant) (sym same)
    by false h = letters_fischer pieces (byte ∷ []) rights h
rights_fischer pieces (byte ∷ next ∷ bytes) rights e = letters_fischer pieces (byte ∷ next ∷ bytes) rights e

rights_are : (variant : Variant) (pieces : Pieces) (field : List ℕ) (rights : Rights) → rights_by variant pieces field ≡ Some rights → rights.variant ≡ variant
rights_are Normal pieces field rights e = rights_normal field rights e
rights_are Fischer pieces field rights e = rights_fischer pieces field rights e

beside_are : (variant : Variant) (pieces : Option Pieces) (field : Option (List ℕ)) (rights : Rights) → rights_beside variant pieces field ≡ Some rights → rights.variant ≡ variant
beside_are variant None field rights e = absurd (cc)
beside_are variant (Some pieces) None rights e = absurd (cc)
beside_are variant (Some pieces) (Some field) rights e = rights_are variant pieces field rights e

pub read_of_variant : FenIsOfVariant
unfolding position_by
read_of_variant variant text p e =
    let fields = tokens text in
    let pieces = option_and_then board_in_field (slice_get fields 0) in
    fields_of_variant variant pieces (option_and_then side_of (slice_get fields 1)) (rights_beside variant pieces (slice_get fields 2)) (option_and_then en_passant_of (slice_get fields 3)) _ _ p
    (λ r f. beside_are variant pieces (slice_get fields 2) r f) e
