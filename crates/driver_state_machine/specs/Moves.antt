-- The moves that a CECP engine names in a position.
use Rattle.std.specs.Prelude.{ℕ, ◌≡◌, ◌⊎◌, List, [], ◌∷◌, if◌then◌else◌}
use Rattle.std.specs.Prelude.{Option, Some, None, MatchOption}
use Rattle.chess_board.specs.declared.board.Move.{Move}
use Rattle.chess_board.specs.Position.{Position}
use Rattle.chess_board.specs.Place.{legal}
use Rattle.chess_board.specs.Laws.{IsLegal}
use Rattle.chess_board.specs.Spelling.{move_spelled_by}
use Rattle.chess_board.specs.Text.{ComesBefore}
use Rattle.san_text.specs.Fit.{FitsAlone}
use Rattle.san_text.specs.LongForm.{IsLongRead}

abbrev pub if_legal : Position → Option Move → Option Move
if_legal p None = None
if_legal p (Some m) = if legal p m then Some m else None

-- the legal move that a text names by its squares
abbrev pub coordinates : Position → List ℕ → Option Move
coordinates p text = if_legal p (move_spelled_by text)

abbrev pub FitsNone : Position → List ℕ → Type 0
FitsNone p text = (m : Move) → FitsAlone p text m → ⊥

-- as the one legal move that fits in standard algebraic notation, or else in long algebraic form
abbrev pub WritesEngineMove : Position → List ℕ → Move → Type 0
WritesEngineMove p text m = FitsAlone p text m ⊎ (FitsNone p text × IsLongRead p text (Some m))

abbrev pub WritesNone : Position → List ℕ → Type 0
WritesNone p text = FitsNone p text × IsLongRead p text None

-- A text names a legal move by its squares, or else as the one that fits it in standard algebraic
-- notation, or else as the one that it is in long algebraic form.
abbrev pub Names : Position → List ℕ → Move → Type 0
Names p text m = (coordinates p text ≡ Some m) ⊎ ((coordinates p text ≡ None) × WritesEngineMove p text m)

abbrev pub NamesNone : Position → List ℕ → Type 0
NamesNone p text = (coordinates p text ≡ None) × WritesNone p text

-- the reading of a token of the engine: the legal move that it names, or none if it names none
abbrev pub EngineMoveIs : Position → List ℕ → Option Move → Type 0
EngineMoveIs p text shown = MatchOption shown (NamesNone p text) (Names p text)

-- the first token that names a legal move, and that move
abbrev pub IsThought : Position → List (List ℕ) → Option Move → Type 0
IsThought p [] best = best ≡ None
IsThought p (t ∷ ts) best =
    ((m : Move) × (Names p t m × (best ≡ Some m))) ⊎ (NamesNone p t × IsThought p ts best)

-- the first legal move in the order of the texts
abbrev pub IsFirstMove : Position → Option Move → Type 0
IsFirstMove p None = (m : Move) → IsLegal p m.from.index m.to.index m.promotion → ⊥
IsFirstMove p (Some first) =
    IsLegal p first.from.index first.to.index first.promotion
    × ((m : Move) → IsLegal p m.from.index m.to.index m.promotion
    → (m ≡ first) ⊎ ComesBefore first m)
