-- A text that is cut at its first token `moves`.
use Rattle.std.proofs.Common.{◌≡◌, ℕ, List, [], ◌∷◌, ◌++◌, true, not, Option, Some, None, refl, sym, ap, ◌∙◌}
use Rattle.std.specs.List.{list_all}
use Rattle.std.specs.Option.{option_map}
use Rattle.std.proofs.lemmas.Bool.{and_parts, not-true}
use Rattle.protocol_tokens.specs.Tokens.{tokens, trimmed}
use Rattle.protocol_tokens.proofs.TokenLists.{tokens_trimmed}
use Rattle.uci_lines.specs.Cuts.{Found, found_token}
use Rattle.uci_lines.specs.Spells.{IsNoneOf}
use Rattle.uci_lines.proofs.CutTokens.{cut_tokens}
use Rattle.uci_lines.proofs.FirstTokens.{cut_first, cut_none}
use Rattle.uci_interface_lines.specs.Lines.{sides, is_moves_token, before_moves, behind_moves}

pub before_at : (ts us : List (List ℕ)) (t : List ℕ) → IsNoneOf is_moves_token ts → is_moves_token t ≡ true → before_moves (ts ++ (t ∷ us)) ≡ ts
before_at [] us t n e = rw e refl
before_at (s ∷ ts) us t n e =
    let both = and_parts (not (is_moves_token s)) (list_all (λ x. not (is_moves_token x)) ts) n in
    rw (not-true (is_moves_token s) both.0) (ap (λ xs. s ∷ xs) (before_at ts us t both.1 e))

pub behind_at : (ts us : List (List ℕ)) (t : List ℕ) → IsNoneOf is_moves_token ts → is_moves_token t ≡ true → behind_moves (ts ++ (t ∷ us)) ≡ us
behind_at [] us t n e = rw e refl
behind_at (s ∷ ts) us t n e =
    let both = and_parts (not (is_moves_token s)) (list_all (λ x. not (is_moves_token x)) ts) n in
    rw (not-true (is_moves_token s) both.0) (behind_at ts us t both.1 e)

pub before_none : (ts : List (List ℕ)) → IsNoneOf is_moves_token ts → before_moves ts ≡ ts
before_none [] n = refl
before_none (s ∷ ts) n =
    let both = and_parts (not (is_moves_token s)) (list_all (λ x. not (is_moves_token x)) ts) n in
    rw (not-true (is_moves_token s) both.0) (ap (λ xs. s ∷ xs) (before_none ts both.1))

pub behind_none : (ts : List (List ℕ)) → IsNoneOf is_moves_token ts → behind_moves ts ≡ []
behind_none [] n = refl
behind_none (s ∷ ts) n =
    let both = and_parts (not (is_moves_token s)) (list_all (λ x. not (is_moves_token x)) ts) n in
    rw (not-true (is_moves_token s) both.0) (behind_none ts both.1)

-- the tokens before and after the first `moves`
pub record Splits (text before behind : List ℕ) : Type 0 where
  pub before_is : tokens before ≡ before_moves (tokens text)
  pub behind_is : tokens behind ≡ behind_moves (tokens text)

splits_part : (text : List ℕ) (part : Found) → found_token is_moves_token true text ≡ Some part → Splits text part.before (trimmed part.after)
splits_part text part h =
    let cut_is = cut_tokens is_moves_token text part refl h in
    let first = cut_first is_moves_token text part refl h in
    record {
      before_is = sym (ap before_moves cut_is ∙ before_at (tokens part.before) (tokens part.after) part.word first.none_before first.passes);
      behind_is = tokens_trimmed part.after ∙ sym (ap behind_moves cut_is ∙ behind_at (tokens part.before) (tokens part.after) part.word first.none_before first.passes);
    }

prefix_of : Option (List ℕ × List ℕ) → List ℕ
prefix_of None = []
prefix_of (Some parts) = parts.0

back_of : Option (List ℕ × List ℕ) → List ℕ
back_of None = []
back_of (Some parts) = parts.1

some_at : (text before after : List ℕ) (o : Option Found) → found_token is_moves_token true text ≡ o → Some (before, after) ≡ option_map sides o → Splits text before (trimmed after)
unfolding prefix_of back_of
some_at text before after None e h = absurd (cc)
some_at text before after (Some part) e h =
    let s = splits_part text part e in
    let prefix : before ≡ part.before = ap prefix_of h in
    let back : after ≡ part.after = ap back_of h in
    record { before_is = ap tokens prefix ∙ s.before_is; behind_is = ap (λ t. tokens (trimmed t)) back ∙ s.behind_is }

pub splits_some : (text before after : List ℕ) → Some (before, after) ≡ option_map sides (found_token is_moves_token true text) → Splits text before (trimmed after)
splits_some text before after h = some_at text before after (found_token is_moves_token true text) refl h

none_at : (text : List ℕ) (o : Option Found) → found_token is_moves_token true text ≡ o → None ≡ option_map sides o → Splits text text []
none_at text (Some part) e h = absurd (cc)
none_at text None e h =
    let none = cut_none is_moves_token text e in
    record { before_is = sym (before_none (tokens text) none); behind_is = sym (behind_none (tokens text) none) }

pub splits_none : (text : List ℕ) → None ≡ option_map sides (found_token is_moves_token true text) → Splits text text []
splits_none text h = none_at text (found_token is_moves_token true text) refl h
