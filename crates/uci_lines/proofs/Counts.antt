-- A count after a word, in both directions.
use Rattle.std.proofs.Common.{◌≡◌, ℕ, ◌<◌, ◌^◌, List, ◌++◌, true, Option, Some, None, decimal, refl, sym, ap, ◌∙◌, arith, append_assoc}
use Rattle.std.specs.Str.{bytes_eq}
use Rattle.std.proofs.lemmas.Slice.Eq.{bytes_eq-Decides}
use Rattle.std.proofs.lemmas.Option.{cond_some}
use Rattle.protocol_tokens.specs.Numbers.{count}
use Rattle.protocol_tokens.proofs.Written.{count_decimal, decimal_token}
use Rattle.protocol_tokens.proofs.Runs.{black}
use Rattle.uci_lines.specs.Orders.{optional_number}
use Rattle.uci_lines.specs.Behind.{after, exact_by, exact_count, count_with_rest, count_at_start, number_behind, number_or, perhaps_number}
use Rattle.uci_lines.proofs.Prefixes.{BeginsWhite, prefix, behind, joined, prefix_is, behind_is}
use Rattle.uci_lines.proofs.Stripped.{after_word, word_after}

pub same_text : (a b : List ℕ) → bytes_eq a b ≡ true → a ≡ b
same_text a b h = (bytes_eq-Decides a b).0 h

pub text_same : (a b : List ℕ) → a ≡ b → bytes_eq a b ≡ true
text_same a b h = (bytes_eq-Decides a b).1 h

exact_is : (o : Option ℕ) (word : List ℕ) (n : ℕ) → exact_by o word ≡ Some n → decimal n ≡ word
exact_is None word n h = absurd (cc)
exact_is (Some k) word n h =
    let both = cond_some (bytes_eq (decimal k) word) k n h in
    ap decimal (sym both.1) ∙ same_text (decimal k) word both.0

counted_is : (o : Option ℕ) (others : List ℕ) (found : ℕ × List ℕ) → count_with_rest o others ≡ Some found → (o ≡ Some found.0) × (others ≡ found.1)
counted_is None others found h = absurd (cc)
counted_is (Some n) others found h = pair_of n others found h
  where
    pair_of : (k : ℕ) (rest : List ℕ) (x : ℕ × List ℕ) → Some (k, rest) ≡ Some x → (Some k ≡ Some x.0) × (rest ≡ x.1)
    pair_of k rest x e = let same : (k, rest) ≡ x = cc in (ap (λ (y : ℕ × List ℕ). Some y.0) same, ap (λ (y : ℕ × List ℕ). y.1) same)

in_is : (word text : List ℕ) (o : Option (List ℕ)) (found : ℕ × List ℕ) → after word text ≡ o → count_at_start o ≡ Some found → text ≡ word ++ (decimal found.0 ++ found.1)
in_is word text None found e h = absurd (cc)
in_is word text (Some others) found e h =
    let both = counted_is (exact_count (prefix others)) (behind others) found h in
    let digits : decimal found.0 ≡ prefix others = exact_is (count (prefix others)) (prefix others) found.0 both.0 in
    word_after word text others e ∙ ap (λ t. word ++ t) (sym (joined others) ∙ ap (λ t. t ++ behind others) (sym digits) ∙ ap (λ t. decimal found.0 ++ t) both.1)

pub number_takes : (word text : List ℕ) (found : ℕ × List ℕ) → number_behind word text ≡ Some found → text ≡ word ++ (decimal found.0 ++ found.1)
unfolding number_behind
number_takes word text found h = in_is word text (after word text) found refl h

pub number_again : (word more : List ℕ) (n : ℕ) → n < 10 ^ 18 → BeginsWhite more → number_behind word (word ++ (decimal n ++ more)) ≡ Some (n, more)
unfolding number_behind
number_again word more n h w =
    let bytes = black (decimal n) (decimal_token n (omega arith)) in
    let digits : exact_count (prefix (decimal n ++ more)) ≡ Some n =
    ap exact_count (prefix_is (decimal n) more bytes w) ∙ ap (λ o. exact_by o (decimal n)) (count_decimal n h) ∙ rw (text_same (decimal n) (decimal n) refl) refl in
    ap count_at_start (after_word word (decimal n ++ more))
    ∙ ap (λ o. count_with_rest o (behind (decimal n ++ more))) digits
    ∙ ap (λ t. Some (n, t)) (behind_is (decimal n) more bytes w)

or_takes : (word text : List ℕ) (o : Option (ℕ × List ℕ)) → number_behind word text ≡ o → text ≡ optional_number word (number_or o text).0 ++ (number_or o text).1
or_takes word text None e = refl
or_takes word text (Some found) e = number_takes word text found e ∙ sym (append_assoc word (decimal found.0) found.1)

pub perhaps_takes : (word text : List ℕ) → text ≡ optional_number word (perhaps_number word text).0 ++ (perhaps_number word text).1
perhaps_takes word text = or_takes word text (number_behind word text) refl
