-- The rest behind fixed words and numbers, in both directions.
use Rattle.std.proofs.Common.{◌≡◌, ◌≢◌, ℕ, List, [], ◌∷◌, ◌++◌, Bool, true, false, cond, eqb, Option, Some, None, Bor, refl, sym, ap, ◌∙◌, arith}
use Rattle.std.specs.Option.{MatchOption}
use Rattle.std.proofs.lemmas.Bool.Decides.{nat_tests}
use Rattle.uci_lines.specs.Orders.{optional_now}
use Rattle.uci_lines.specs.Behind.{after}

same_byte : (b c : ℕ) → eqb c b ≡ true → c ≡ b
same_byte b c h = grind (arith, nat_tests)

byte_same : (b : ℕ) → eqb b b ≡ true
byte_same b = grind (arith, nat_tests)

pub after_word : (word others : List ℕ) → after word (word ++ others) ≡ Some others
after_word [] others = refl
after_word (b ∷ bs) others = rw (byte_same b) (after_word bs others)

after_step : (t : Bool) (b c : ℕ) (bs cs others : List ℕ) → eqb c b ≡ t → (after bs cs ≡ Some others → cs ≡ bs ++ others) → cond t (after bs cs) None ≡ Some others → c ∷ cs ≡ b ∷ (bs ++ others)
after_step true b c bs cs others e h k = let same : c ≡ b = same_byte b c e in let more = h k in cc
after_step false b c bs cs others e h k = absurd (cc)

pub word_after : (word text others : List ℕ) → after word text ≡ Some others → text ≡ word ++ others
word_after [] text others h = cc
word_after (b ∷ bs) [] others h = absurd (cc)
word_after (b ∷ bs) (c ∷ cs) others h = after_step (eqb c b) b c bs cs others refl (word_after bs cs others) h

none_by : (word text : List ℕ) (o : Option (List ℕ)) → after word text ≡ o → ((others : List ℕ) → text ≢ word ++ others) → None ≡ o
none_by word text None e h = refl
none_by word text (Some others) e h = absurd (h others (word_after word text others e))

-- the answer of stripping a word
pub stripped : (word text : List ℕ) (r : Option (Bor (List ℕ))) → MatchOption r ((others : List ℕ) → text ≢ word ++ others) (λ x. text ≡ word ++ x.now) → optional_now r ≡ after word text
stripped word text None h = none_by word text (after word text) refl h
stripped word text (Some x) h = sym (ap (after word) h ∙ after_word word x.now)
