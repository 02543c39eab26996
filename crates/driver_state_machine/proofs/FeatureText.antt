-- The text of a feature line is no longer than the line.
use Rattle.std.proofs.Common.{◌≡◌, ℕ, ℤ, ◌≤◌, List, [], ◌∷◌, length, Option, Some, None, refl, sym, subst}
use Rattle.protocol_tokens.specs.Tokens.{tokens, first_token, rest_after_token}
use Rattle.protocol_tokens.proofs.Lengths.{rest_length}
use Rattle.driver_state_machine.specs.declared.said.EngineWord.{EngineWord}
use Rattle.driver_state_machine.specs.declared.said.EngineWord.TheVariants as words
use Rattle.driver_state_machine.specs.Numbers.{next_number}
use Rattle.driver_state_machine.specs.Says.{EngineMessageSeen, Move, Over, Pong, Report, Feature, says_in, says_by, word_named, report_in, report_by, report_second, report_third, report_fourth, pong_by, pong_number_in, or_other}
use Rattle.driver_state_machine.specs.Says as says

abbrev NotFeature : Option EngineMessageSeen → Type 0
NotFeature (Some (Feature text)) = ⊥
NotFeature said = Unit {0}

fourth : (d s t : ℤ) (o : Option (ℤ × List (List ℕ))) → NotFeature (report_fourth d s t o)
fourth d s t None = tt
fourth d s t (Some p) = tt

third : (d s : ℤ) (o : Option (ℤ × List (List ℕ))) → NotFeature (report_third d s o)
third d s None = tt
third d s (Some p) = fourth d s p.0 (next_number p.1)

second : (d : ℤ) (o : Option (ℤ × List (List ℕ))) → NotFeature (report_second d o)
second d None = tt
second d (Some p) = third d p.0 (next_number p.1)

first : (o : Option (ℤ × List (List ℕ))) → NotFeature (report_by o)
first None = tt
first (Some p) = second p.0 (next_number p.1)

other_feature : (o : Option EngineMessageSeen) (text : List ℕ) → NotFeature o → or_other o ≡ Feature text → ⊥
other_feature None text h e = absurd (cc)
other_feature (Some (Feature t)) text h e = h
other_feature (Some (Move t)) text h e = absurd (cc)
other_feature (Some Over) text h e = absurd (cc)
other_feature (Some (Pong n)) text h e = absurd (cc)
other_feature (Some (Report d s t n ms)) text h e = absurd (cc)
other_feature (Some says.Other) text h e = absurd (cc)

pong_feature : (o : Option ℕ) (text : List ℕ) → pong_by o ≡ Feature text → ⊥
pong_feature None text e = absurd (cc)
pong_feature (Some n) text e = absurd (cc)

by_word : (w : EngineWord) (line text : List ℕ) → says_by w line ≡ Feature text → rest_after_token line ≡ text
by_word words.Move line text e = absurd (cc)
by_word words.Over line text e = absurd (cc)
by_word words.Pong line text e = absurd (pong_feature (pong_number_in (tokens (rest_after_token line))) text e)
by_word words.Feature line text e = cc
by_word words.Other line text e = absurd (other_feature (report_in (tokens line)) text (first (next_number (tokens line))) e)

pub feature_short : (line text : List ℕ) → says_in line ≡ Feature text → length text ≤ length line
unfolding says_in
feature_short line text e = subst (λ (t : List ℕ). length t ≤ length line) (by_word (word_named (first_token line)) line text e) (rest_length line)
