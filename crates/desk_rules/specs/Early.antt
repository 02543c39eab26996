-- Settings that come before the engine's options are known, and are kept until then: early lines.
use Rattle.std.specs.Prelude.{◌≡◌, ℕ, List, [], ◌∷◌, ◌++◌, ◌≤◌}
use Rattle.std.specs.Prelude.{length, Bool, true, false, ◌&&◌, nat_le}
use Rattle.std.specs.List.{flat_map, AllByRecursion}
use Rattle.line_io.specs.Event.{is_line}
use Rattle.line_io.specs.Lines.{parts_by_feed, line_feed}
use Rattle.line_io.specs.Out.{Text}
use Rattle.cecp_lines.specs.Messages.{IfaceMsg}
use Rattle.cecp_lines.specs.Messages as says
use Rattle.desk_rules.specs.declared.early.TheConstants.{MOST_EARLY, EARLY_BYTES}

-- the messages that set options of the engine
abbrev pub is_setting : IfaceMsg → Bool
is_setting (says.SetOption name value) = true
is_setting (says.Memory n) = true
is_setting (says.Cores n) = true
is_setting (says.EgtPath kind path) = true
is_setting m = false

-- lines with a line feed each
abbrev pub lines_with_feeds : List (List ℕ) → List ℕ
lines_with_feeds lines = flat_map (λ line. line ++ line_feed ∷ []) lines

-- one more line may wait, after those that do
abbrev pub may_wait : List (List ℕ) → List ℕ → Bool
may_wait early line =
    nat_le (length (early ++ line ∷ [])) MOST_EARLY
    && nat_le (length (lines_with_feeds (early ++ line ∷ []))) EARLY_BYTES

-- what holds of the lines that wait
pub record EarlyLinesAreFew (early : List (List ℕ)) : Type 0 where
  pub lines : AllByRecursion (λ line. is_line line ≡ true) early
  pub few : length early ≤ MOST_EARLY
  pub short : length (lines_with_feeds early) ≤ EARLY_BYTES

-- what holds of the text of the lines, and of their number
pub record EarlyLinesAreKept (texts : Text) (n : ℕ) : Type 0 where
  pub closed : texts.text ≡ lines_with_feeds (parts_by_feed texts.text)
  pub count : n ≡ length (parts_by_feed texts.text)
  pub room : texts.room ≡ EARLY_BYTES
