-- A line's tokens against its first token and the rest.
use Rattle.std.proofs.Common.{◌≡◌, ℕ, List, [], ◌∷◌, Bool, true, false, cond, Some, None, drop, refl, sym, ap, ◌∙◌}
use Rattle.protocol_tokens.specs.Tokens.{first_token, rest_after_token, tokens, trim_left, token_end}
use Rattle.protocol_tokens.proofs.Trims.{trim_left_trimmed}
use Rattle.protocol_tokens.proofs.TokenLists.{tokens_some, tokens_none, no_first}
use Rattle.cecp_lines.specs.Reading.{is_empty_text, only_token}

-- a line with a first token
pub record Heads (line w : List ℕ) (ts : List (List ℕ)) : Type 0 where
  pub first : first_token line ≡ w
  pub after : tokens (rest_after_token line) ≡ ts

heads_by : (line w : List ℕ) (ts : List (List ℕ)) (f : List ℕ) → first_token line ≡ f → tokens line ≡ w ∷ ts → Heads line w ts
heads_by line w ts [] e h = absurd (cc (tokens_none line e))
heads_by line w ts (c ∷ cs) e h =
    let both : (c ∷ cs) ∷ tokens (rest_after_token line) ≡ w ∷ ts = sym (tokens_some line c cs e) ∙ h in
    record { first = cc; after = cc }

pub heads : (line w : List ℕ) (ts : List (List ℕ)) → tokens line ≡ w ∷ ts → Heads line w ts
heads line w ts h = heads_by line w ts (first_token line) refl h

none_by : (line f : List ℕ) → first_token line ≡ f → tokens line ≡ [] → first_token line ≡ []
none_by line [] e h = e
none_by line (c ∷ cs) e h = absurd (cc (tokens_some line c cs e))

pub no_tokens : (line : List ℕ) → tokens line ≡ [] → first_token line ≡ []
no_tokens line h = none_by line (first_token line) refl h

-- a rest is empty if it has no token
pub rest_empty : (line : List ℕ) → tokens (rest_after_token line) ≡ [] → rest_after_token line ≡ []
rest_empty line h =
    sym (trim_left_trimmed (drop (token_end (trim_left line)) (trim_left line))) ∙ no_first (rest_after_token line) (no_tokens (rest_after_token line) h)

-- a line of one token
pub alone : (line t : List ℕ) → tokens line ≡ t ∷ [] → (first_token line ≡ t) × (rest_after_token line ≡ [])
alone line t h = let k = heads line t [] h in (k.first, rest_empty line k.after)

-- a word and one token
pub two : (line w t : List ℕ) → tokens line ≡ w ∷ t ∷ [] → (first_token line ≡ w) × (only_token (rest_after_token line) ≡ Some t)
two line w t h =
    let k = heads line w (t ∷ []) h in
    let a = alone (rest_after_token line) t k.after in
    (k.first, (rw a.1 (ap Some a.0)))

pub empty_is : (xs : List ℕ) → is_empty_text xs ≡ true → xs ≡ []
empty_is [] h = refl
empty_is (x ∷ xs) h = absurd (cc)

only_by : (text t : List ℕ) (b : Bool) → is_empty_text (rest_after_token text) ≡ b → cond b (Some (first_token text)) None ≡ Some t → (first_token text ≡ t) × (rest_after_token text ≡ [])
only_by text t true e h = (cc, empty_is (rest_after_token text) e)
only_by text t false e h = absurd (cc)

pub only : (text t : List ℕ) → only_token text ≡ Some t → (first_token text ≡ t) × (rest_after_token text ≡ [])
only text t h = only_by text t (is_empty_text (rest_after_token text)) refl h

-- the tokens of a line by its first token
pub tokens_word : (line word : List ℕ) → is_empty_text word ≡ false → first_token line ≡ word → tokens line ≡ word ∷ tokens (rest_after_token line)
tokens_word line [] some e = absurd (cc)
tokens_word line (c ∷ cs) some e = tokens_some line c cs e

pub one_token : (text t : List ℕ) → is_empty_text t ≡ false → only_token text ≡ Some t → tokens text ≡ t ∷ []
one_token text t some h = let k = only text t h in tokens_word text t some k.0 ∙ ap (λ r. t ∷ tokens r) k.1
