-- Lines after their letters.
use Rattle.std.proofs.Common.{◌≡◌, ℕ, ◌+◌, ◌-◌, ◌*◌, min, ◌<◌, ◌≤◌, List, [], ◌∷◌, ◌++◌, length, ap, sym, ◌∙◌, arith, length-take, length-drop, append_assoc, false, ◌==◌}
use Rattle.std.proofs.lemmas.Bool.Decides.{nat_tests}
use Rattle.std.specs.List.{flat_map, before_first, after_first}
use Rattle.line_io.specs.Lines.{is_feed, feed_at}
use Rattle.script_lines.specs.Marks.{line_marked}
use Rattle.line_io.proofs.Parts.{parts_first}
use Rattle.line_io.proofs.Found.{feed_le}
use Rattle.script_lines.specs.StepText.{lines_marked}

pub lines_first : (letter : ℕ) (xs : List ℕ) → 0 < length xs → lines_marked letter xs ≡ line_marked letter (before_first is_feed xs) ++ lines_marked letter (after_first is_feed xs)
lines_first letter [] h = absurd (omega arith)
lines_first letter (x ∷ xs) h = ap (λ (ps : List (List ℕ)). flat_map (line_marked letter) ps) (parts_first x xs)

pub lines_more : (letter : ℕ) (out rest line after start all : List ℕ) → 0 < length rest → line ≡ before_first is_feed rest → after ≡ after_first is_feed rest
    → out ++ lines_marked letter rest ≡ start ++ lines_marked letter all
    → (out ++ line_marked letter line) ++ lines_marked letter after ≡ start ++ lines_marked letter all
lines_more letter out rest line after start all h e f i =
    append_assoc out (line_marked letter line) (lines_marked letter after)
    ∙ ap (λ l. out ++ (line_marked letter l ++ lines_marked letter after)) e
    ∙ ap (λ l. out ++ (line_marked letter (before_first is_feed rest) ++ lines_marked letter l)) f
    ∙ ap (λ l. out ++ l) (sym (lines_first letter rest h))
    ∙ i

-- a line and what follows it are no longer than all
pub cut_room : (rest line after : List ℕ) → 0 < length rest → line ≡ before_first is_feed rest → after ≡ after_first is_feed rest
    → (length line + 3 + 4 * length after ≤ 4 * length rest) × (length after < length rest)
cut_room rest line after h e f =
    let n = feed_le rest in
    let a : length line ≡ min (feed_at rest) (length rest) = ap length e ∙ length-take (feed_at rest) rest in
    let b : length after ≡ length rest - (feed_at rest + 1) = ap length f ∙ length-drop (feed_at rest + 1) rest in
    (omega arith, omega arith)

pub not_zero : (n : ℕ) → (n == 0) ≡ false → 0 < n
not_zero n h = grind (arith, nat_tests)
