-- The tokens of a text that is cut: those before, the one at the cut, those after.
use Rattle.std.proofs.Common.{◌≡◌, ℕ, List, [], ◌∷◌, ◌++◌, Bool, true, false, Option, Some, None, refl, sym, ap, ◌∙◌}
use Rattle.std.specs.Option.{option_map}
use Rattle.protocol_tokens.specs.Tokens.{is_white, trim_left, trimmed, tokens}
use Rattle.protocol_tokens.proofs.TokenLists.{tokens_some, tokens_white, tokens_trimmed}
use Rattle.uci_lines.specs.Cuts.{Found, onto_part, found_token}
use Rattle.uci_lines.proofs.Prefixes.{prefix, behind, prefix-white, behind-white, prefix-byte, behind-byte}
use Rattle.uci_lines.proofs.Cutting.{part_at, step, here, black_first, prefix_kept}

pub tokens_byte : (b : ℕ) (bs : List ℕ) → is_white b ≡ false → tokens (b ∷ bs) ≡ (b ∷ prefix bs) ∷ tokens (behind bs)
tokens_byte b bs e =
    tokens_some (b ∷ bs) b (prefix bs) (black_first b bs e)
    ∙ ap (λ t. (b ∷ prefix bs) ∷ t) (ap (λ line. tokens (trimmed (behind line))) (left b bs e) ∙ tokens_trimmed (behind (b ∷ bs)) ∙ ap tokens (behind-byte b bs e))
  where
    left : (c : ℕ) (cs : List ℕ) → is_white c ≡ false → trim_left (c ∷ cs) ≡ c ∷ cs
    left c cs h = rw h refl

-- at a fresh front, and after a byte of a token
record Both (p : List ℕ → Bool) (text : List ℕ) : Type 0 where
  pub fresh : (part : Found) → found_token p true text ≡ Some part → tokens text ≡ tokens part.before ++ (part.word ∷ tokens part.after)
  pub inside : (part : Found) → found_token p false text ≡ Some part → tokens (behind text) ≡ tokens (behind part.before) ++ (part.word ∷ tokens part.after)

at_word : (p : List ℕ → Bool) (w : Bool) (b : ℕ) (bs : List ℕ) (part : Found) → p [] ≡ false → is_white b ≡ w → p (prefix (b ∷ bs)) ≡ true → part_at (b ∷ bs) ≡ part → tokens (b ∷ bs) ≡ tokens part.before ++ (part.word ∷ tokens part.after)
at_word p true b bs part z e h k = absurd (cc (ap p (prefix-white b bs e)))
at_word p false b bs part z e h k =
    tokens_byte b bs e
    ∙ ap (λ t. t ∷ tokens (behind bs)) (sym (prefix-byte b bs e))
    ∙ ap (λ t. prefix (b ∷ bs) ∷ tokens t) (sym (behind-byte b bs e))
    ∙ ap (λ (r : Found). tokens r.before ++ (r.word ∷ tokens r.after)) k

fresh_further : (p : List ℕ → Bool) (w : Bool) (b : ℕ) (bs : List ℕ) (o : Option Found) (part : Found) → is_white b ≡ w → Both p bs → found_token p w bs ≡ o → option_map (onto_part b) o ≡ Some part → tokens (b ∷ bs) ≡ tokens part.before ++ (part.word ∷ tokens part.after)
fresh_further p w b bs None part e i c h = absurd (cc)
fresh_further p true b bs (Some q) part e i c h =
    let same : onto_part b q ≡ part = cc in
    tokens_white b bs e ∙ i.fresh q c ∙ ap (λ t. t ++ (q.word ∷ tokens q.after)) (sym (tokens_white b q.before e))
    ∙ ap (λ (r : Found). tokens r.before ++ (r.word ∷ tokens r.after)) same
fresh_further p false b bs (Some q) part e i c h =
    let same : onto_part b q ≡ part = cc in
    tokens_byte b bs e
    ∙ ap (λ t. (b ∷ t) ∷ tokens (behind bs)) (sym (prefix_kept p bs q c))
    ∙ ap (λ t. (b ∷ prefix q.before) ∷ t) (i.inside q c)
    ∙ ap (λ t. t ++ (q.word ∷ tokens q.after)) (sym (tokens_byte b q.before e))
    ∙ ap (λ (r : Found). tokens r.before ++ (r.word ∷ tokens r.after)) same

fresh_step : (t : Bool) (p : List ℕ → Bool) (b : ℕ) (bs : List ℕ) (part : Found) → p [] ≡ false → p (prefix (b ∷ bs)) ≡ t → Both p bs → found_token p true (b ∷ bs) ≡ Some part → tokens (b ∷ bs) ≡ tokens part.before ++ (part.word ∷ tokens part.after)
fresh_step true p b bs part z e i h =
    let some : Some (part_at (b ∷ bs)) ≡ Some part = sym (here p b bs e) ∙ h in
    let same : part_at (b ∷ bs) ≡ part = cc in
    at_word p (is_white b) b bs part z refl e same
fresh_step false p b bs part z e i h = fresh_further p (is_white b) b bs (found_token p (is_white b) bs) part refl i refl (sym (step p true b bs e) ∙ h)

inside_further : (p : List ℕ → Bool) (w : Bool) (b : ℕ) (bs : List ℕ) (o : Option Found) (part : Found) → is_white b ≡ w → Both p bs → found_token p w bs ≡ o → option_map (onto_part b) o ≡ Some part → tokens (behind (b ∷ bs)) ≡ tokens (behind part.before) ++ (part.word ∷ tokens part.after)
inside_further p w b bs None part e i c h = absurd (cc)
inside_further p true b bs (Some q) part e i c h =
    let same : onto_part b q ≡ part = cc in
    ap tokens (behind-white b bs e) ∙ tokens_white b bs e ∙ i.fresh q c
    ∙ ap (λ t. t ++ (q.word ∷ tokens q.after)) (sym (ap tokens (behind-white b q.before e) ∙ tokens_white b q.before e))
    ∙ ap (λ (r : Found). tokens (behind r.before) ++ (r.word ∷ tokens r.after)) same
inside_further p false b bs (Some q) part e i c h =
    let same : onto_part b q ≡ part = cc in
    ap tokens (behind-byte b bs e) ∙ i.inside q c
    ∙ ap (λ t. tokens t ++ (q.word ∷ tokens q.after)) (sym (behind-byte b q.before e))
    ∙ ap (λ (r : Found). tokens (behind r.before) ++ (r.word ∷ tokens r.after)) same

both : (p : List ℕ → Bool) (text : List ℕ) → p [] ≡ false → Both p text
both p [] z = record { fresh = λ part h. absurd (cc h); inside = λ part h. absurd (cc h) }
both p (b ∷ bs) z =
    let i = both p bs z in
    record {
      fresh = λ part h. fresh_step (p (prefix (b ∷ bs))) p b bs part z refl i h;
      inside = λ part h. inside_further p (is_white b) b bs (found_token p (is_white b) bs) part refl i refl h;
    }

pub cut_tokens : (p : List ℕ → Bool) (text : List ℕ) (part : Found) → p [] ≡ false → found_token p true text ≡ Some part → tokens text ≡ tokens part.before ++ (part.word ∷ tokens part.after)
cut_tokens p text part z h = (both p text z).fresh part h
