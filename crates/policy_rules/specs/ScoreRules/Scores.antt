-- The policy's rule on the scores of the moves that the engine showed.
use Rattle.std.specs.Prelude.{◌≡◌, ◌↔◌, IsTrue, ◌+◌, ℕ, zero, suc, ℤ, ◌≤ℤ◌, int_le}
use Rattle.std.specs.Prelude.{pos, neg_ℤ, List, [], ◌∷◌, Bool, true, false, ◌&&◌}
use Rattle.std.specs.Prelude.{if◌then◌else◌, nat_lt, nat_le, Option, Some, None}
use Rattle.policy_rules.specs.declared.setting_rules.settings.Settings.{Settings}
use Rattle.policy_rules.specs.declared.setting_rules.settings.TheConstants.{MOST_MOVES}
use Rattle.policy_rules.specs.declared.score_rules.scores.Scores.{Scores}
use Rattle.policy_rules.specs.SettingRules.Policy.{IsProper}

-- a score in hundredths of a pawn, or none: a move may be shown without one
abbrev pub Score : Type 0
Score = Option ℤ

-- the score is there and at most the bound
abbrev pub AtMost : ℤ → Score → Type 0
AtMost bound None = ⊥
AtMost bound (Some score) = score ≤ℤ bound

-- The last n scores, of which the newest is first, are there and at most the bound.
abbrev pub LastAtMost : ℕ → ℤ → List Score → Type 0
LastAtMost zero bound scores = Unit {0}
LastAtMost (suc n) bound [] = ⊥
LastAtMost (suc n) bound (score ∷ scores) = AtMost bound score × LastAtMost n bound scores

-- what counts as lost
abbrev pub lost_bound : Settings → ℤ
lost_bound settings = neg_ℤ (pos settings.resign_score)

-- resigning is on, and the last scores are all lost
abbrev pub Resigns : Settings → List Score → Type 0
Resigns settings scores =
    (settings.resign ≡ true) × LastAtMost settings.resign_moves (lost_bound settings) scores

-- none of the last scores is better than even
abbrev pub AcceptsDraw : Settings → List Score → Type 0
AcceptsDraw settings scores = LastAtMost settings.resign_moves (pos 0) scores

abbrev pub is_at_most : ℤ → Score → Bool
is_at_most bound None = false
is_at_most bound (Some score) = int_le score bound

-- how many of the last scores pass one after the other, counted to the most that may decide
abbrev pub run_after : Bool → ℕ → ℕ
run_after passes run = if passes then (if nat_lt run MOST_MOVES then run + 1 else run) else 0

-- before a move is shown
abbrev pub no_scores : Settings → Scores
no_scores settings = record { settings = settings; lost = 0; level = 0 }

-- after one move more
abbrev pub after_shown : Scores → Score → Scores
after_shown counts score = record {
  settings = counts.settings;
  lost = run_after (is_at_most (lost_bound counts.settings) score) counts.lost;
  level = run_after (is_at_most (pos 0) score) counts.level;
}

-- the counts that stand for a list of scores, of which the newest is first
abbrev pub score_counts : Settings → List Score → Scores
score_counts settings [] = no_scores settings
score_counts settings (score ∷ scores) = after_shown (score_counts settings scores) score

-- THE SAME AS TESTS

-- the last n scores are there and at most the bound
abbrev pub last_at_most : ℕ → ℤ → List Score → Bool
last_at_most zero bound scores = true
last_at_most (suc n) bound [] = false
last_at_most (suc n) bound (score ∷ scores) = is_at_most bound score && last_at_most n bound scores

-- whether the game is resigned after these scores
abbrev pub does_resign : Settings → List Score → Bool
does_resign settings scores =
    settings.resign && last_at_most settings.resign_moves (lost_bound settings) scores

-- whether a draw is accepted after them
abbrev pub does_accept : Settings → List Score → Bool
does_accept settings scores = last_at_most settings.resign_moves (pos 0) scores

-- whether the counts say to resign
abbrev pub resigns_by : Scores → Bool
resigns_by counts = counts.settings.resign && nat_le counts.settings.resign_moves counts.lost

-- whether they say to accept a draw
abbrev pub accepts_by : Scores → Bool
accepts_by counts = nat_le counts.settings.resign_moves counts.level

-- The counts say what the scores say, if the settings are proper.
abbrev pub CountsMatchScores : Type 0
CountsMatchScores =
    (settings : Settings) (scores : List Score) → IsProper settings
    → (resigns_by (score_counts settings scores) ≡ does_resign settings scores)
    × (accepts_by (score_counts settings scores) ≡ does_accept settings scores)

-- The tests on scores hold if and only if the policy says so.
abbrev pub TestsMatchPolicy : Type 0
TestsMatchPolicy =
    (settings : Settings) (scores : List Score)
    → (IsTrue (does_resign settings scores) ↔ Resigns settings scores)
    × (IsTrue (does_accept settings scores) ↔ AcceptsDraw settings scores)
