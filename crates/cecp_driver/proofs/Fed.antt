-- A part cut from a line is a line: it has no line feed, and is no longer.
use Rattle.std.proofs.Common.{◌≡◌, ℕ, ℤ, zero, suc, ◌+◌, ◌≤◌, Bool, true, false, cond, ◌&&◌, ◌||◌, nat_eq, List, [], ◌∷◌, length, take, drop, Option, Some, None, refl, sym, ap, subst, ◌∙◌, arith}
use Rattle.std.specs.Prelude.{codes}
use Rattle.std.specs.Str.{bytes_eq}
use Rattle.std.proofs.lemmas.List.{length-drop}
use Rattle.std.proofs.lemmas.List.Folds.{length-prefix_len}
use Rattle.line_io.specs.Event.{has_feed}
use Rattle.line_io.specs.Lines.{line_feed}
use Rattle.protocol_tokens.specs.Tokens.{first_token, is_blank, is_white, rest_after_token, token_end, tokens, trim_left, trim_right, trimmed}
use Rattle.protocol_tokens.proofs.Lengths.{rest_length, trim_left_length}
use Rattle.driver_state_machine.specs.Numbers.{next_number}
use Rattle.driver_state_machine.specs.Says.{EngineMessageSeen, Feature, engine_gives_up, or_other, pong_by, pong_number_in, report_by, report_fourth, report_in, report_second, report_third, says_in}

-- it has no line feed, and is no longer than a line may be
pub record IsWhole (text : List ℕ) : Type 0 where
  pub no_feed : has_feed text ≡ false
  pub short : length text ≤ 65536

-- LINE FEEDS

neither : (a b : Bool) → (a || b) ≡ false → (a ≡ false) × (b ≡ false)
neither true b e = absurd (cc)
neither false b e = (refl, e)

onto : (a b : Bool) → a ≡ false → b ≡ false → (a || b) ≡ false
onto true b e f = absurd (cc)
onto false b e f = f

take_fed : (k : ℕ) (xs : List ℕ) → has_feed xs ≡ false → has_feed (take k xs) ≡ false
take_fed zero xs h = refl
take_fed (suc k) [] h = refl
take_fed (suc k) (x ∷ xs) h = let p = neither (nat_eq x line_feed) (has_feed xs) h in onto (nat_eq x line_feed) (has_feed (take k xs)) p.0 (take_fed k xs p.1)

drop_fed : (k : ℕ) (xs : List ℕ) → has_feed xs ≡ false → has_feed (drop k xs) ≡ false
drop_fed zero xs h = h
drop_fed (suc k) [] h = refl
drop_fed (suc k) (x ∷ xs) h = drop_fed k xs (neither (nat_eq x line_feed) (has_feed xs) h).1

left_step : (w : Bool) (x : ℕ) (xs : List ℕ) → has_feed (x ∷ xs) ≡ false → has_feed (trim_left xs) ≡ false → has_feed (cond w (trim_left xs) (x ∷ xs)) ≡ false
left_step true x xs h k = k
left_step false x xs h k = h

left_fed : (xs : List ℕ) → has_feed xs ≡ false → has_feed (trim_left xs) ≡ false
left_fed [] h = refl
left_fed (x ∷ xs) h = left_step (is_white x) x xs h (left_fed xs (neither (nat_eq x line_feed) (has_feed xs) h).1)

right_step : (w : Bool) (x : ℕ) (xs : List ℕ) → nat_eq x line_feed ≡ false → has_feed (trim_right xs) ≡ false → has_feed (cond w [] (x ∷ trim_right xs)) ≡ false
right_step true x xs h k = refl
right_step false x xs h k = onto (nat_eq x line_feed) (has_feed (trim_right xs)) h k

right_fed : (xs : List ℕ) → has_feed xs ≡ false → has_feed (trim_right xs) ≡ false
right_fed [] h = refl
right_fed (x ∷ xs) h = let p = neither (nat_eq x line_feed) (has_feed xs) h in right_step (is_blank (x ∷ xs)) x xs p.0 (right_fed xs p.1)

-- CUTS

take_length : (k : ℕ) (xs : List ℕ) → length (take k xs) ≤ length xs
take_length zero xs = omega arith
take_length (suc k) [] = omega arith
take_length (suc k) (x ∷ xs) = omega (arith, take_length k xs)

pub taken : (k : ℕ) (xs : List ℕ) → IsWhole xs → IsWhole (take k xs)
taken k xs h = record { no_feed = take_fed k xs h.no_feed; short = omega (arith, take_length k xs, h.short) }

pub dropped : (k : ℕ) (xs : List ℕ) → IsWhole xs → IsWhole (drop k xs)
dropped k xs h = record { no_feed = drop_fed k xs h.no_feed; short = omega (arith, length-drop k xs, h.short) }

pub trimmed_first : (xs : List ℕ) → IsWhole xs → IsWhole (trim_left xs)
trimmed_first xs h = record { no_feed = left_fed xs h.no_feed; short = omega (arith, trim_left_length xs, h.short) }

rest_whole : (line : List ℕ) → IsWhole line → IsWhole (rest_after_token line)
rest_whole line h =
    let t = trim_left line in
    record {
      no_feed = right_fed (trim_left (drop (token_end t) t)) (left_fed (drop (token_end t) t) (drop_fed (token_end t) t (left_fed line h.no_feed)));
      short = omega (arith, rest_length line, h.short);
    }

pub later : (x : ℕ) (xs : List ℕ) → IsWhole (x ∷ xs) → IsWhole xs
later x xs h = record { no_feed = (neither (nat_eq x line_feed) (has_feed xs) h.no_feed).1; short = omega (arith, h.short) }

-- A LINE OF FEATURES

abbrev IsSaid : EngineMessageSeen → Type 0
IsSaid (Feature text) = IsWhole text
IsSaid said = Unit {0}

fourth_said : (depth score time : ℤ) (o : Option (ℤ × List (List ℕ))) → IsSaid (or_other (report_fourth depth score time o))
fourth_said depth score time None = tt
fourth_said depth score time (Some p) = tt

third_said : (depth score : ℤ) (o : Option (ℤ × List (List ℕ))) → IsSaid (or_other (report_third depth score o))
third_said depth score None = tt
third_said depth score (Some p) = fourth_said depth score p.0 (next_number p.1)

second_said : (depth : ℤ) (o : Option (ℤ × List (List ℕ))) → IsSaid (or_other (report_second depth o))
second_said depth None = tt
second_said depth (Some p) = third_said depth p.0 (next_number p.1)

first_said : (o : Option (ℤ × List (List ℕ))) → IsSaid (or_other (report_by o))
first_said None = tt
first_said (Some p) = second_said p.0 (next_number p.1)

pong_said : (o : Option ℕ) → IsSaid (pong_by o)
pong_said None = tt
pong_said (Some n) = tt

-- by the tests of the first word
by_tests : (line : List ℕ) (move over pong feature : Bool) → bytes_eq (first_token line) (codes "move") ≡ move → engine_gives_up (first_token line) ≡ over → bytes_eq (first_token line) (codes "pong") ≡ pong → bytes_eq (first_token line) (codes "feature") ≡ feature
    → IsWhole line → IsSaid (says_in line)
unfolding says_in
by_tests line true over pong feature a b c d h = rw a tt
by_tests line false true pong feature a b c d h = rw (a, b) tt
by_tests line false false true feature a b c d h = rw (a, b, c) (pong_said (pong_number_in (tokens (rest_after_token line))))
by_tests line false false false true a b c d h = rw (a, b, c, d) (rest_whole line h)
by_tests line false false false false a b c d h = rw (a, b, c, d) (first_said (next_number (tokens line)))

line_said : (line : List ℕ) → IsWhole line → IsSaid (says_in line)
line_said line h = by_tests line (bytes_eq (first_token line) (codes "move")) (engine_gives_up (first_token line)) (bytes_eq (first_token line) (codes "pong")) (bytes_eq (first_token line) (codes "feature")) refl refl refl refl h

pub feature_whole : (line text : List ℕ) → IsWhole line → Feature text ≡ says_in line → IsWhole text
feature_whole line text h e = subst IsSaid (sym e) (line_said line h)
