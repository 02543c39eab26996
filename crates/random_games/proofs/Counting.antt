-- The lines of a text, one after the other.
use Rattle.std.proofs.Common.{◌≡◌, ℕ, ◌+◌, ◌<◌, List, [], ◌∷◌, length, ap, arith}
use Rattle.std.specs.List.{after_first}
use Rattle.line_io.specs.Lines.{parts_by_feed, is_feed}
use Rattle.line_io.proofs.Parts.{parts_first}

-- the first line is one, and those after it are the others
pub one_line : (rest after : List ℕ) → 0 < length rest → after ≡ after_first is_feed rest → length (parts_by_feed rest) ≡ 1 + length (parts_by_feed after)
one_line [] after h e = absurd (omega arith)
one_line (x ∷ xs) after h e =
    let lines = ap length (parts_first x xs) in
    let same = ap (λ l. length (parts_by_feed l)) e in
    omega (arith, lines, same)
