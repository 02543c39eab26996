-- The positions that texts spell are of normal chess.
use Rattle.std.proofs.Common.{◌≡◌, ℕ, Bool, true, false, List, [], ◌∷◌, cond, Option, Some, None, Result, Ok, Err, refl, ap, sym, ◌∙◌, eqb}
use Rattle.std.specs.List.{list_all, slice_get}
use Rattle.std.specs.Option.{option_and_then}
use Rattle.chess_board.specs.declared.board.BuildFault.{BuildFault}
use Rattle.chess_board.specs.declared.board.Rights.{Rights}
use Rattle.chess_board.specs.declared.board.Side.{Side}
use Rattle.chess_board.specs.declared.board.Variant.{Variant}
use Rattle.chess_board.specs.declared.board.Variant.TheVariants.{Normal}
use Rattle.chess_board.specs.Board.{Pieces}
use Rattle.chess_board.specs.Lawful.{Builds}
use Rattle.chess_board.specs.Play.{position_if_built}
use Rattle.chess_board.specs.Position.{Position}
use Rattle.chess_board.proofs.Standing.{builds-is}
use Rattle.protocol_tokens.specs.Tokens.{tokens}
use Rattle.fen_text.specs.Fen.{or_fault, position_from_fields, position_of_fields, position_of}
use Rattle.fen_text.specs.Fields.{is_right, at_most_once, all_four, no_rights, letters_of, rights_of, side_of, en_passant_of}
use Rattle.fen_text.specs.Squares.{board_in_field}

four_normal : (wk wq bk bq : Option Bool) (rights : Rights) → all_four wk wq bk bq ≡ Some rights → rights.variant ≡ Normal
four_normal (Some wk) (Some wq) (Some bk) (Some bq) rights e = sym (ap variant_in e)
  where
    variant_in : Option Rights → Variant
    variant_in None = Normal
    variant_in (Some r) = r.variant
four_normal None wq bk bq rights e = absurd (cc)
four_normal (Some wk) None bk bq rights e = absurd (cc)
four_normal (Some wk) (Some wq) None bq rights e = absurd (cc)
four_normal (Some wk) (Some wq) (Some bk) None rights e = absurd (cc)

letters_normal : (field : List ℕ) (rights : Rights) → letters_of field ≡ Some rights → rights.variant ≡ Normal
letters_normal field rights e = by (list_all is_right field) e
  where
    by : (b : Bool) → cond b (all_four (at_most_once 75 field) (at_most_once 81 field) (at_most_once 107 field) (at_most_once 113 field)) None ≡ Some rights → rights.variant ≡ Normal
    by true h = four_normal (at_most_once 75 field) (at_most_once 81 field) (at_most_once 107 field) (at_most_once 113 field) rights h
    by false h = absurd (cc)

pub rights_normal : (field : List ℕ) (rights : Rights) → rights_of field ≡ Some rights → rights.variant ≡ Normal
rights_normal [] rights e = absurd (cc)
rights_normal (byte ∷ []) rights e = by (eqb byte 45) e
  where
    by : (b : Bool) → cond b (Some no_rights) (letters_of (byte ∷ [])) ≡ Some rights → rights.variant ≡ Normal
    by true h = let same : no_rights ≡ rights = cc in ap (λ (r : Rights). r.variant) (sym same)
    by false h = letters_normal (byte ∷ []) rights h
rights_normal (byte ∷ next ∷ bytes) rights e = letters_normal (byte ∷ next ∷ bytes) rights e

found_normal : (o : Option (List ℕ)) (rights : Rights) → option_and_then rights_of o ≡ Some rights → rights.variant ≡ Normal
found_normal None rights e = absurd (cc)
found_normal (Some field) rights e = rights_normal field rights e

built_of_variant : (variant : Variant) (given p : Position) (r : Result Position BuildFault) → Builds given r → or_fault r ≡ Ok p → given.rights.variant ≡ variant → p.rights.variant ≡ variant
built_of_variant variant given p (Ok q) builds e is = let same : q ≡ p = cc in ap (λ (x : Position). x.rights.variant) (sym same) ∙ (builds.2.variant ∙ is)
built_of_variant variant given p (Err fault) builds e is = absurd (cc)

pub fields_of_variant : (variant : Variant) (pieces : Option Pieces) (side : Option Side) (rights : Option Rights) (passant : Option (Option ℕ)) (half full : Option ℕ) (p : Position)
    → ((r : Rights) → rights ≡ Some r → r.variant ≡ variant) → position_from_fields pieces side rights passant half full ≡ Ok p → p.rights.variant ≡ variant
fields_of_variant variant None side rights passant half full p h e = absurd (cc)
fields_of_variant variant (Some pieces) None rights passant half full p h e = absurd (cc)
fields_of_variant variant (Some pieces) (Some side) None passant half full p h e = absurd (cc)
fields_of_variant variant (Some pieces) (Some side) (Some rights) None half full p h e = absurd (cc)
fields_of_variant variant (Some pieces) (Some side) (Some rights) (Some passant) None full p h e = absurd (cc)
fields_of_variant variant (Some pieces) (Some side) (Some rights) (Some passant) (Some half) None p h e = absurd (cc)
fields_of_variant variant (Some pieces) (Some side) (Some rights) (Some passant) (Some half) (Some full) p h e =
    let given : Position = record { pieces = pieces; side = side; rights = rights; passant = passant; half = half; full = full } in
    built_of_variant variant given p (position_if_built given) (builds-is given) e (h rights refl)

-- what fields spell, and what a text spells
pub spelled_normal : (fields : List (List ℕ)) (p : Position) → position_of_fields fields ≡ Ok p → p.rights.variant ≡ Normal
spelled_normal fields p e =
    fields_of_variant Normal (option_and_then board_in_field (slice_get fields 0)) (option_and_then side_of (slice_get fields 1)) (option_and_then rights_of (slice_get fields 2)) (option_and_then en_passant_of (slice_get fields 3)) _ _ p
    (λ r f. found_normal (slice_get fields 2) r f) e

pub read_normal : (text : List ℕ) (p : Position) → position_of text ≡ Ok p → p.rights.variant ≡ Normal
unfolding position_of
read_normal text p e = spelled_normal (tokens text) p e
