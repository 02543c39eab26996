-- The meaning of a `position` line (UCI, April 2006, "position"), as a relation.
use Rattle.std.specs.Prelude.{◌≡◌, ◌⊎◌, ℕ, List, [], ◌∷◌, ◌++◌, drop, codes, Ok}
use Rattle.protocol_tokens.specs.Tokens.{tokens}
use Rattle.chess_board.specs.declared.board.Move.{Move}
use Rattle.chess_board.specs.declared.board.Variant.{Variant}
use Rattle.chess_board.specs.declared.board.Variant.TheVariants.{Normal}
use Rattle.chess_board.specs.Position.{Position}
use Rattle.chess_board.specs.Laws.{IsLegal}
use Rattle.chess_board.specs.Text.{SpellsMove}
use Rattle.uci_interface_lines.specs.Lines.{Line, position_after_spoken_move, position_in_fields, variant_start}

-- The moves that these texts spell, each legal in its turn, lead from a position to another.
pub data Leads : Position → List (List ℕ) → Position → Type 0 where
  Stays : {p : Position} → Leads p [] p
  Goes : {p q : Position} → {t : List ℕ} → {ts : List (List ℕ)} → (m : Move)
      → SpellsMove t m → IsLegal p m.from.index m.to.index m.promotion → Leads (position_after_spoken_move p m) ts q
      → Leads p (t ∷ ts) q

-- `startpos`, or `fen` and the fields of a position of the variant
pub data Starts : Variant → List (List ℕ) → Position → Type 0 where
  Standard : {variant : Variant} → Starts variant (codes "startpos" ∷ []) (variant_start variant)
  SetUp : {variant : Variant} → {fields : List (List ℕ)} → {p : Position}
      → position_in_fields variant fields ≡ Ok p → Starts variant (codes "fen" ∷ fields) p

-- The tokens after `position` are the start, and then nothing, or `moves` and moves that
-- are legal in their turn.
pub record Speaks (variant : Variant) (ts : List (List ℕ)) (said : Line) : Type 0 where
  pub first : List (List ℕ)
  pub starts : Starts variant first said.start
  pub leads : Leads said.start said.moves said.end
  pub whole : (ts ≡ first ++ (codes "moves" ∷ said.moves)) ⊎ ((ts ≡ first) × (said.moves ≡ []))

-- the line says this by the rules of a variant, whatever its first token is
abbrev pub SaysPositionBy : Variant → List ℕ → Line → Type 0
SaysPositionBy variant line said = Speaks variant (drop 1 (tokens line)) said

-- the same in normal chess
abbrev pub SaysPosition : List ℕ → Line → Type 0
SaysPosition line said = SaysPositionBy Normal line said
