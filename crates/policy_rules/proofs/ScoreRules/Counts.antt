-- The counts of a list of scores, and what they tell.
use Rattle.std.proofs.Common.{◌≡◌, ℕ, zero, suc, ℤ, pos, ◌≤◌, ◌↔◌, List, [], ◌∷◌, Bool, true, false, IsTrue, leb, Some, None, T, ◌&&◌, refl, ap, ◌∙◌, sym, subst, arith}
use Rattle.std.proofs.lemmas.Bool.Decides.{nat_tests, Decides-and}
use Rattle.std.specs.Bool.{Decides}
use Rattle.std.specs.Int.Signed.{le_z_yes}
use Rattle.std.proofs.lemmas.Float.{T_from_true}
use Rattle.policy_rules.specs.declared.setting_rules.settings.TheConstants.{MOST_MOVES}
use Rattle.policy_rules.specs.declared.setting_rules.settings.Settings.{Settings}
use Rattle.policy_rules.specs.declared.score_rules.scores.Scores.{Scores}
use Rattle.policy_rules.specs.SettingRules.Policy.{IsProper}
use Rattle.policy_rules.specs.ScoreRules.Scores.{Score, AtMost, LastAtMost, Resigns, AcceptsDraw, lost_bound, is_at_most, run_after, score_counts, last_at_most, CountsMatchScores, TestsMatchPolicy}

pub settings_kept : (o : Settings) (xs : List Score) → (score_counts o xs).settings ≡ o
settings_kept o [] = refl
settings_kept o (x ∷ xs) = settings_kept o xs

-- how many of the first scores pass, counted to 1,000
abbrev run_of : (Score → Bool) → List Score → ℕ
run_of test [] = 0
run_of test (x ∷ xs) = run_after (test x) (run_of test xs)

lost_is : (o : Settings) (xs : List Score) → (score_counts o xs).lost ≡ run_of (is_at_most (lost_bound o)) xs
lost_is o [] = refl
lost_is o (x ∷ xs) =
    ap (λ (s : Settings). run_after (is_at_most (lost_bound s) x) (score_counts o xs).lost) (settings_kept o xs)
    ∙ ap (λ n. run_after (is_at_most (lost_bound o) x) n) (lost_is o xs)

level_is : (o : Settings) (xs : List Score) → (score_counts o xs).level ≡ run_of (is_at_most (pos 0)) xs
level_is o [] = refl
level_is o (x ∷ xs) = ap (λ n. run_after (is_at_most (pos 0) x) n) (level_is o xs)

is_true : (b : Bool) → T b → b ≡ true
is_true true t = refl
is_true false t = grind arith

at_most : (bound : ℤ) (s : Score) → Decides (is_at_most bound s) (AtMost bound s)
at_most bound None = grind arith
at_most bound (Some x) = (λ e. le_z_yes (T_from_true _ e), λ a. is_true _ a.le)

-- one score more
longer : (n r : ℕ) → suc n ≤ MOST_MOVES → leb (suc n) (run_after true r) ≡ leb n r
longer n r l = grind (arith, nat_tests)

none_needed : (r : ℕ) → leb 0 r ≡ true
none_needed r = grind (arith, nat_tests)

never : (n : ℕ) → leb (suc n) 0 ≡ false
never n = grind (arith, nat_tests)

-- a run that is n + 1 long, by whether the last score passes
step : (n r : ℕ) (b : Bool) → suc n ≤ MOST_MOVES → leb (suc n) (run_after b r) ≡ (b && leb n r)
step n r true l = longer n r l
step n r false l = never n

pub reports : (bound : ℤ) (n : ℕ) (xs : List Score) → n ≤ MOST_MOVES → Decides (leb n (run_of (is_at_most bound) xs)) (LastAtMost n bound xs)
reports bound zero xs l = (λ e. tt, λ u. none_needed _)
reports bound (suc n) [] l = grind (arith, nat_tests, never)
reports bound (suc n) (x ∷ xs) l =
    subst (λ b. Decides b (AtMost bound x × LastAtMost n bound xs)) (sym (step n (run_of (is_at_most bound) xs) (is_at_most bound x) l))
    (Decides-and _ _ (at_most bound x) (reports bound n xs (omega arith)))

pub draws : (o : Settings) (xs : List Score) (s : Scores) → IsProper o → s ≡ score_counts o xs → IsTrue (leb s.settings.resign_moves s.level) ↔ AcceptsDraw o xs
draws o xs s p e =
    subst (λ (v : Scores). Decides (leb v.settings.resign_moves v.level) (AcceptsDraw o xs)) (sym e)
    (subst (λ (v : Settings). Decides (leb v.resign_moves (score_counts o xs).level) (AcceptsDraw o xs)) (sym (settings_kept o xs))
    (subst (λ n. Decides (leb o.resign_moves n) (AcceptsDraw o xs)) (sym (level_is o xs))
    (reports (pos 0) o.resign_moves xs p.few_moves)))

-- the same of the lost ones, if resigning is on
lost_reports : (o : Settings) (xs : List Score) (s : Scores) → IsProper o → s ≡ score_counts o xs → Decides (s.settings.resign && leb s.settings.resign_moves s.lost) (Resigns o xs)
lost_reports o xs s p e =
    subst (λ (v : Scores). Decides (v.settings.resign && leb v.settings.resign_moves v.lost) (Resigns o xs)) (sym e)
    (subst (λ (v : Settings). Decides (v.resign && leb v.resign_moves (score_counts o xs).lost) (Resigns o xs)) (sym (settings_kept o xs))
    (subst (λ n. Decides (o.resign && leb o.resign_moves n) (Resigns o xs)) (sym (lost_is o xs))
    (Decides-and _ _ (λ q. q, λ q. q) (reports (lost_bound o) o.resign_moves xs p.few_moves))))

both_are : {P : Type 0} (a b : Bool) → Decides (a && b) P → a ≡ true → Decides b P
both_are true b d e = d
both_are false b d e = grind arith

one_fails : {P : Type 0} (a b : Bool) → Decides (a && b) P → a ≡ false → Decides a P
one_fails true b d e = grind arith
one_fails false b d e = d

pub resigns_on : (o : Settings) (xs : List Score) (s : Scores) → IsProper o → s ≡ score_counts o xs → s.settings.resign ≡ true → IsTrue (leb s.settings.resign_moves s.lost) ↔ Resigns o xs
resigns_on o xs s p e on = both_are s.settings.resign (leb s.settings.resign_moves s.lost) (lost_reports o xs s p e) on

pub resigns_off : (o : Settings) (xs : List Score) (s : Scores) → IsProper o → s ≡ score_counts o xs → s.settings.resign ≡ false → IsTrue s.settings.resign ↔ Resigns o xs
resigns_off o xs s p e off = one_fails s.settings.resign (leb s.settings.resign_moves s.lost) (lost_reports o xs s p e) off

-- THE TESTS

list_reports : (bound : ℤ) (n : ℕ) (xs : List Score) → Decides (last_at_most n bound xs) (LastAtMost n bound xs)
list_reports bound zero xs = (λ e. tt, λ u. refl)
list_reports bound (suc n) [] = grind arith
list_reports bound (suc n) (x ∷ xs) = Decides-and _ _ (at_most bound x) (list_reports bound n xs)

pub tests_match : TestsMatchPolicy
tests_match o xs = (Decides-and _ _ (λ q. q, λ q. q) (list_reports (lost_bound o) o.resign_moves xs), list_reports (pos 0) o.resign_moves xs)

-- a run is long enough if and only if the last scores pass
run_reports : (bound : ℤ) (n : ℕ) (xs : List Score) → n ≤ MOST_MOVES → leb n (run_of (is_at_most bound) xs) ≡ last_at_most n bound xs
run_reports bound zero xs l = none_needed _
run_reports bound (suc n) [] l = never n
run_reports bound (suc n) (x ∷ xs) l =
    step n (run_of (is_at_most bound) xs) (is_at_most bound x) l ∙ ap (λ b. is_at_most bound x && b) (run_reports bound n xs (omega arith))

pub counts_match : CountsMatchScores
counts_match o xs p = (
  ap (λ (v : Settings). v.resign && leb v.resign_moves (score_counts o xs).lost) (settings_kept o xs)
      ∙ ap (λ n. o.resign && leb o.resign_moves n) (lost_is o xs)
      ∙ ap (λ b. o.resign && b) (run_reports (lost_bound o) o.resign_moves xs p.few_moves),
  ap (λ (v : Settings). leb v.resign_moves (score_counts o xs).level) (settings_kept o xs)
      ∙ ap (λ n. leb o.resign_moves n) (level_is o xs)
      ∙ run_reports (pos 0) o.resign_moves xs p.few_moves,
)
