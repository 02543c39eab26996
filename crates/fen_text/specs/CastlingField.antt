-- The castling field of a Chess960 text, in words.
use Rattle.std.specs.Prelude.{ℕ, ◌≡◌, ◌<◌, ◌⊎◌, ◌↔◌, List, [], ◌∷◌, length, Some, true}
use Rattle.chess_board.specs.declared.board.Side.{Side}
use Rattle.chess_board.specs.declared.board.Kind.TheVariants.{Rook, King}
use Rattle.chess_board.specs.declared.board.Rights.{Rights}
use Rattle.chess_board.specs.declared.board.Variant.TheVariants.{Fischer}
use Rattle.chess_board.specs.declared.board.Wing.{Wing}
use Rattle.chess_board.specs.Board.{Pieces}
use Rattle.chess_board.specs.Laws.{Beyond}
use Rattle.chess_board.specs.Rules.{right_of}
use Rattle.protocol_tokens.specs.Bytes.{dash}
use Rattle.fen_text.specs.RookFiles.{on_first_rank, file_letter, wing_letter, are_castling_letters}
use Rattle.fen_text.specs.RookFiles.{no_fischer_rights, fischer_rights_of}

-- a king of the side stands on this file of its first rank, and on no other
pub record IsOnlyKing (pieces : Pieces) (side : Side) (king : ℕ) : Type 0 where
  pub inside : king < 8
  pub there : on_first_rank pieces side king ≡ Some (side, King)
  pub alone : (file : ℕ) → file < 8 → on_first_rank pieces side file ≡ Some (side, King) → file ≡ king

-- no rook of the side stands beyond this file of its first rank
abbrev pub IsOutermost : Pieces → Side → Wing → ℕ → Type 0
IsOutermost pieces side wing rook =
    (file : ℕ) → file < 8 → on_first_rank pieces side file ≡ Some (side, Rook) → ¬ Beyond wing rook file

-- A letter names the right of a side to castle with the rook of a file: it stands beyond the side's one king
-- on the first rank, and the letter is that of the file, or that of the wing if no rook stands farther out.
pub record Names (pieces : Pieces) (side : Side) (wing : Wing) (letter rook : ℕ) : Type 0 where
  pub king : ℕ
  pub only : IsOnlyKing pieces side king
  pub inside : rook < 8
  pub there : on_first_rank pieces side rook ≡ Some (side, Rook)
  pub beyond : Beyond wing king rook
  pub spelled : (letter ≡ file_letter side rook)
      ⊎ ((letter ≡ wing_letter side wing) × IsOutermost pieces side wing rook)

-- some letter names it
abbrev pub SomeNames : Pieces → Side → Wing → List ℕ → ℕ → Type 0
SomeNames pieces side wing [] rook = ⊥
SomeNames pieces side wing (letter ∷ letters) rook =
    Names pieces side wing letter rook ⊎ SomeNames pieces side wing letters rook

-- no two letters name a right of the side on the wing
abbrev pub NoTwoName : Pieces → Side → Wing → List ℕ → Type 0
NoTwoName pieces side wing [] = Unit {0}
NoTwoName pieces side wing (letter ∷ letters) =
    ((rook other : ℕ) → Names pieces side wing letter rook → ¬ SomeNames pieces side wing letters other)
    × NoTwoName pieces side wing letters

-- Letters spell the rights that they name. No letter is there twice, and no two name one right.
pub record SpellsRights (pieces : Pieces) (field : List ℕ) (rights : Rights) : Type 0 where
  pub some : 0 < length field
  pub letters : are_castling_letters field ≡ true
  pub variant : rights.variant ≡ Fischer
  pub single : (side : Side) (wing : Wing) → NoTwoName pieces side wing field
  pub named : (side : Side) (wing : Wing) (rook : ℕ)
      → (right_of rights side wing ≡ Some rook) ↔ SomeNames pieces side wing field rook

-- a dash, or such letters
abbrev pub SpellsField : Pieces → List ℕ → Rights → Type 0
SpellsField pieces field rights =
    ((field ≡ dash ∷ []) × (rights ≡ no_fischer_rights)) ⊎ SpellsRights pieces field rights

-- A castling field is read as the rights that it spells, and if it spells none there is the fault.
abbrev pub CastlingFieldLaw : Type 0
CastlingFieldLaw =
    (pieces : Pieces) (field : List ℕ) (rights : Rights)
    → (fischer_rights_of pieces field ≡ Some rights) ↔ SpellsField pieces field rights
