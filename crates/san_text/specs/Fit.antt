-- The legal moves that fit a text.
use Rattle.std.specs.Prelude.{◌≡◌, ◌≢◌, ℕ, List, Bool, true, not, ◌&&◌, ◌||◌}
use Rattle.std.specs.Prelude.{◌==◌, Option, Some, None, IsTrue, Result, Ok, Err}
use Rattle.std.specs.Option.{option_eq}
use Rattle.chess_board.specs.declared.board.Kind.{Kind}
use Rattle.chess_board.specs.declared.board.Move.{Move}
use Rattle.chess_board.specs.Board.{file_of, rank_of_square}
use Rattle.chess_board.specs.Position.{Position}
use Rattle.chess_board.specs.Laws.{IsLegal}
use Rattle.san_text.specs.Writing.{same_san_kind, kind_at, castles_short, castles_long, IsSan}
use Rattle.san_text.specs.Spelling.{SanSpelling, Short, Long, Goes, Target, spelling_of_san}
use Rattle.san_text.specs.declared.fault.SanFault.{SanFault}
use Rattle.san_text.specs.declared.fault.SanFault.TheVariants.{BadSan, NoFit, Ambiguous}

-- a file or rank that is given agrees, and one that is not given agrees with each
abbrev pub allows : Option ℕ → ℕ → Bool
allows None n = true
allows (Some k) n = k == n

abbrev pub castles : Position → Move → Bool
castles p m = castles_short p m || castles_long p m

-- True if a move agrees with a spelling: castling with its spellings alone, another move in its
-- piece's kind, in the file and rank that are given, in the square reached and in the promotion.
abbrev pub agrees : Position → SanSpelling → Move → Bool
agrees p Short m = castles_short p m
agrees p Long m = castles_long p m
agrees p (Goes kind file rank target) m =
    (not (castles p m) && same_san_kind (kind_at p m.from.index) kind)
    && ((allows file (file_of m.from.index) && allows rank (rank_of_square m.from.index))
    && ((m.to.index == target.to) && option_eq same_san_kind m.promotion target.promotion))

abbrev pub AgreesText : Position → Option SanSpelling → Move → Type 0
AgreesText p None m = ⊥
AgreesText p (Some s) m = IsTrue (agrees p s m)

-- a legal move that agrees with what the text spells
abbrev pub MoveFitsSan : Position → List ℕ → Move → Type 0
MoveFitsSan p text m =
    IsLegal p m.from.index m.to.index m.promotion × AgreesText p (spelling_of_san text) m

abbrev pub SanIsSpelled : Option SanSpelling → Type 0
SanIsSpelled None = ⊥
SanIsSpelled (Some s) = Unit {0}

-- the text fits this move and no other
abbrev pub FitsAlone : Position → List ℕ → Move → Type 0
FitsAlone p text m = MoveFitsSan p text m × ((n : Move) → MoveFitsSan p text n → n ≡ m)

-- The reading of a text: a move that is the one that fits, or BadSan if the text has no spelling,
-- NoFit if it has one and no legal move fits, Ambiguous if two or more fit.
abbrev pub SanReads : Position → List ℕ → Result Move SanFault → Type 0
SanReads p text (Ok m) = FitsAlone p text m
SanReads p text (Err BadSan) = spelling_of_san text ≡ None
SanReads p text (Err NoFit) = SanIsSpelled (spelling_of_san text) × ((n : Move) → MoveFitsSan p text n → ⊥)
SanReads p text (Err Ambiguous) =
    (a : Move) × ((b : Move) × (MoveFitsSan p text a × MoveFitsSan p text b × (a ≢ b)))

-- the text of a legal move fits it alone, so reading it gives the move back
abbrev pub IsReadBack : Type 0
IsReadBack =
    (p : Position) (m : Move) (text : List ℕ) → IsLegal p m.from.index m.to.index m.promotion
    → IsSan p m text → FitsAlone p text m

-- different legal moves of a position have different texts
abbrev pub TextsDiffer : Type 0
TextsDiffer =
    (p : Position) (a b : Move) (text : List ℕ) → IsLegal p a.from.index a.to.index a.promotion
    → IsLegal p b.from.index b.to.index b.promotion
    → IsSan p a text → IsSan p b text → a ≡ b
