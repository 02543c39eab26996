-- Moves that lead from a position to another.
use Rattle.std.proofs.Common.{◌≡◌, ℕ, List, [], ◌∷◌, Some, None, refl, sym, ap, ◌∙◌}
use Rattle.chess_board.specs.Position.{Position}
use Rattle.chess_board.specs.Spelling.{move_spelled_by}
use Rattle.uci_interface_lines.specs.Lines.{position_after_texts, played_if_legal}

-- from nowhere no move leads on
pub led_none : (ts : List (List ℕ)) → position_after_texts ts None ≡ None
led_none [] = refl
led_none (t ∷ ts) = refl

-- a text that spells no legal move leads nowhere
pub led_refused : (ts us : List (List ℕ)) (t : List ℕ) (p : Position) → ts ≡ t ∷ us → None ≡ played_if_legal p (move_spelled_by t) → position_after_texts ts (Some p) ≡ None
led_refused ts us t p e h = ap (λ xs. position_after_texts xs (Some p)) e ∙ ap (λ o. position_after_texts us o) (sym h) ∙ led_none us
