-- Looking for a token byte by byte.
use Rattle.std.proofs.Common.{◌≡◌, ℕ, ◌+◌, ◌<◌, ◌≤◌, List, [], ◌∷◌, ◌++◌, Bool, true, false, not, ◌&&◌, Option, Some, None, length, take, drop, get_or, refl, sym, ap, ◌∙◌, arith, add-one, append_assoc, subst, length-append}
use Rattle.std.proofs.Math.Seq.{drop-cons}
use Rattle.std.proofs.lemmas.List.{take_more, append-nil}
use Rattle.std.specs.List.{before_first, list_all}
use Rattle.std.specs.Option.{option_map}
use Rattle.std.proofs.lemmas.Bool.{and_parts}
use Rattle.protocol_tokens.specs.Tokens.{is_white, is_token, trim_left, token_end, first_token}
use Rattle.protocol_tokens.proofs.Runs.{black as bytes_of}
use Rattle.uci_lines.proofs.Prefixes.{BeginsWhite, joined, prefix_black, begins, prefix-white, prefix-byte, prefix_is, behind_is}
use Rattle.uci_lines.specs.Cuts.{Found, onto_part, found_token}

-- a part of what follows some bytes, as a part of all
abbrev pub further : List ℕ → Found → Found
further bytes part = record { before = bytes ++ part.before; word = part.word; after = part.after }

abbrev pub shifted : List ℕ → Option Found → Option Found
shifted bytes found = option_map (further bytes) found

-- the part that begins with a token
abbrev pub part_at : List ℕ → Found
part_at bytes = record { before = []; word = before_first is_white bytes; after = drop (token_end bytes) bytes }

pub step : (p : List ℕ → Bool) (fresh : Bool) (b : ℕ) (bs : List ℕ) → (fresh && p (before_first is_white (b ∷ bs))) ≡ false → found_token p fresh (b ∷ bs) ≡ option_map (onto_part b) (found_token p (is_white b) bs)
step p fresh b bs e = rw e refl

pub here : (p : List ℕ → Bool) (b : ℕ) (bs : List ℕ) → p (before_first is_white (b ∷ bs)) ≡ true → found_token p true (b ∷ bs) ≡ Some (part_at (b ∷ bs))
here p b bs e = rw e refl

onto_shifted : (bytes : List ℕ) (b : ℕ) (found : Option Found) → shifted bytes (option_map (onto_part b) found) ≡ shifted (bytes ++ (b ∷ [])) found
onto_shifted bytes b None = refl
onto_shifted bytes b (Some part) = rw append_assoc refl

from : (text : List ℕ) (i : ℕ) → i < length text → drop i text ≡ get_or text i 0 ∷ drop (i + 1) text
from text i h = rw add-one (drop-cons text i 0 h)

passed_at : (p : List ℕ → Bool) (fresh : Bool) (bytes rest more : List ℕ) (b : ℕ) (all : Option Found) → rest ≡ b ∷ more → (fresh && p (before_first is_white rest)) ≡ false → all ≡ shifted bytes (found_token p fresh rest) → all ≡ shifted (bytes ++ (b ∷ [])) (found_token p (is_white b) more)
passed_at p fresh bytes [] more b all e h k = absurd (cc)
passed_at p fresh bytes (c ∷ cs) more b all e h k =
    let same : c ≡ b = cc in
    let others : cs ≡ more = cc in
    k ∙ ap (shifted bytes) (step p fresh c cs h) ∙ onto_shifted bytes c (found_token p (is_white c) cs) ∙ rw (same, others) refl

-- a byte at which no token begins that passes
pub passed : (p : List ℕ → Bool) (text : List ℕ) (i : ℕ) (fresh : Bool) (all : Option Found) → i < length text → (fresh && p (before_first is_white (drop i text))) ≡ false → all ≡ shifted (take i text) (found_token p fresh (drop i text)) → all ≡ shifted (take (i + 1) text) (found_token p (is_white (get_or text i 0)) (drop (i + 1) text))
passed p text i fresh all l e h =
    passed_at p fresh (take i text) (drop i text) (drop (i + 1) text) (get_or text i 0) all (from text i l) e h
    ∙ ap (λ t. shifted t (found_token p (is_white (get_or text i 0)) (drop (i + 1) text))) (sym (take_more text i 0 l))

found_at : (p : List ℕ → Bool) (bytes rest more : List ℕ) (b : ℕ) (all : Option Found) → rest ≡ b ∷ more → p (before_first is_white rest) ≡ true → all ≡ shifted bytes (found_token p true rest) → all ≡ Some (further bytes (part_at rest))
found_at p bytes [] more b all e h k = absurd (cc)
found_at p bytes (c ∷ cs) more b all e h k = k ∙ ap (shifted bytes) (here p c cs h)

-- one at which a token begins that passes
pub found : (p : List ℕ → Bool) (text : List ℕ) (i : ℕ) (all : Option Found) → i < length text → p (before_first is_white (drop i text)) ≡ true → all ≡ shifted (take i text) (found_token p true (drop i text)) → all ≡ Some (record { before = take i text; word = before_first is_white (drop i text); after = drop (token_end (drop i text)) (drop i text) })
found p text i all l e h =
    found_at p (take i text) (drop i text) (drop (i + 1) text) (get_or text i 0) all (from text i l) e h
    ∙ ap (λ t. Some (record { before = t; word = before_first is_white (drop i text); after = drop (token_end (drop i text)) (drop i text) })) (append-nil (take i text))

-- A cut: the text in three, a token in the middle that passes.
pub record Cuts (p : List ℕ → Bool) (text : List ℕ) (part : Found) : Type 0 where
  pub whole : text ≡ part.before ++ (part.word ++ part.after)
  pub passes : p part.word ≡ true
  pub black : list_all (λ c. not (is_white c)) part.word ≡ true
  pub begins_white : BeginsWhite part.after

further_is : (p : List ℕ → Bool) (b : ℕ) (bs : List ℕ) (found : Option Found) (part : Found) → ((q : Found) → found ≡ Some q → Cuts p bs q) → option_map (onto_part b) found ≡ Some part → Cuts p (b ∷ bs) part
further_is p b bs None part h e = absurd (cc)
further_is p b bs (Some q) part h e =
    let k = h q refl in
    let same : onto_part b q ≡ part = cc in
    subst (λ (r : Found). Cuts p (b ∷ bs) r) same (record { whole = ap (λ t. b ∷ t) k.whole; passes = k.passes; black = k.black; begins_white = k.begins_white })

cut_step : (t : Bool) (p : List ℕ → Bool) (fresh : Bool) (b : ℕ) (bs : List ℕ) (part : Found) → (fresh && p (before_first is_white (b ∷ bs))) ≡ t → ((q : Found) → found_token p (is_white b) bs ≡ Some q → Cuts p bs q) → found_token p fresh (b ∷ bs) ≡ Some part → Cuts p (b ∷ bs) part
cut_step true p fresh b bs part e h k =
    let same : Some (part_at (b ∷ bs)) ≡ Some part = sym (rw e refl) ∙ k in
    let is : part_at (b ∷ bs) ≡ part = cc in
    subst (λ (r : Found). Cuts p (b ∷ bs) r) is (record { whole = sym (joined (b ∷ bs)); passes = (and_parts fresh (p (before_first is_white (b ∷ bs))) e).1; black = prefix_black (b ∷ bs); begins_white = begins (b ∷ bs) })
cut_step false p fresh b bs part e h k =
    further_is p b bs (found_token p (is_white b) bs) part h (sym (step p fresh b bs e) ∙ k)

pub cut_is : (p : List ℕ → Bool) (fresh : Bool) (text : List ℕ) (part : Found) → found_token p fresh text ≡ Some part → Cuts p text part
cut_is p fresh [] part h = absurd (cc)
cut_is p fresh (b ∷ bs) part h = cut_step (fresh && p (before_first is_white (b ∷ bs))) p fresh b bs part refl (λ q k. cut_is p (is_white b) bs q k) h

pub before_fits : (p : List ℕ → Bool) (text : List ℕ) (part : Found) → found_token p true text ≡ Some part → length part.before ≤ length text
before_fits p text part h =
    let e = ap length (cut_is p true text part h).whole in
    omega (arith, length-append part.before (part.word ++ part.after))

-- The first token before a cut does not pass, nor does that of a text without a cut.
white_first : (b : ℕ) (bs : List ℕ) → is_white b ≡ true → first_token (b ∷ bs) ≡ first_token bs
white_first b bs e = rw e refl

pub black_first : (b : ℕ) (bs : List ℕ) → is_white b ≡ false → first_token (b ∷ bs) ≡ b ∷ before_first is_white bs
black_first b bs e = ap (before_first is_white) (left b bs e) ∙ prefix-byte b bs e
  where
    left : (c : ℕ) (cs : List ℕ) → is_white c ≡ false → trim_left (c ∷ cs) ≡ c ∷ cs
    left c cs h = rw h refl

prefix_kept_step : (w : Bool) (p : List ℕ → Bool) (b : ℕ) (bs : List ℕ) (o : Option Found) (part : Found) → is_white b ≡ w → option_map (onto_part b) o ≡ Some part → ((q : Found) → w ≡ false → o ≡ Some q → before_first is_white q.before ≡ before_first is_white bs) → before_first is_white part.before ≡ before_first is_white (b ∷ bs)
prefix_kept_step w p b bs None part e h k = absurd (cc)
prefix_kept_step true p b bs (Some q) part e h k =
    let same : onto_part b q ≡ part = cc in
    sym (ap (λ (r : Found). before_first is_white r.before) same) ∙ prefix-white b q.before e ∙ sym (prefix-white b bs e)
prefix_kept_step false p b bs (Some q) part e h k =
    let same : onto_part b q ≡ part = cc in
    sym (ap (λ (r : Found). before_first is_white r.before) same) ∙ prefix-byte b q.before e ∙ ap (λ t. b ∷ t) (k q refl refl) ∙ sym (prefix-byte b bs e)

along : (p : List ℕ → Bool) (w : Bool) (bs : List ℕ) (q : Found) → w ≡ false → found_token p w bs ≡ Some q → found_token p false bs ≡ Some q
along p true bs q e h = absurd (cc)
along p false bs q e h = h

pub prefix_kept : (p : List ℕ → Bool) (bs : List ℕ) (part : Found) → found_token p false bs ≡ Some part → before_first is_white part.before ≡ before_first is_white bs
prefix_kept p [] part h = absurd (cc)
prefix_kept p (b ∷ bs) part h = prefix_kept_step (is_white b) p b bs (found_token p (is_white b) bs) part refl h (λ q e k. prefix_kept p bs q (along p (is_white b) bs q e k))

first_further : (p : List ℕ → Bool) (w : Bool) (b : ℕ) (bs : List ℕ) (o : Option Found) (part : Found) → is_white b ≡ w → p (before_first is_white (b ∷ bs)) ≡ false → option_map (onto_part b) o ≡ Some part → found_token p w bs ≡ o → ((q : Found) → found_token p true bs ≡ Some q → p (first_token q.before) ≡ false) → p (first_token part.before) ≡ false
first_further p w b bs None part e n h c k = absurd (cc)
first_further p true b bs (Some q) part e n h c k =
    let same : onto_part b q ≡ part = cc in
    sym (ap (λ (r : Found). p (first_token r.before)) same) ∙ ap p (white_first b q.before e) ∙ k q c
first_further p false b bs (Some q) part e n h c k =
    let same : onto_part b q ≡ part = cc in
    sym (ap (λ (r : Found). p (first_token r.before)) same) ∙ ap p (black_first b q.before e ∙ ap (λ t. b ∷ t) (prefix_kept p bs q c) ∙ sym (prefix-byte b bs e)) ∙ n

first_step : (t : Bool) (p : List ℕ → Bool) (b : ℕ) (bs : List ℕ) (part : Found) → p [] ≡ false → p (before_first is_white (b ∷ bs)) ≡ t → found_token p true (b ∷ bs) ≡ Some part → ((q : Found) → found_token p true bs ≡ Some q → p (first_token q.before) ≡ false) → p (first_token part.before) ≡ false
first_step true p b bs part z e h k =
    let same : Some (part_at (b ∷ bs)) ≡ Some part = sym (here p b bs e) ∙ h in
    let is : part_at (b ∷ bs) ≡ part = cc in
    sym (ap (λ (r : Found). p (first_token r.before)) is) ∙ z
first_step false p b bs part z e h k =
    first_further p (is_white b) b bs (found_token p (is_white b) bs) part refl e (sym (step p true b bs e) ∙ h) refl k

pub first_before : (p : List ℕ → Bool) (text : List ℕ) (part : Found) → p [] ≡ false → found_token p true text ≡ Some part → p (first_token part.before) ≡ false
first_before p [] part z h = absurd (cc)
first_before p (b ∷ bs) part z h = first_step (p (before_first is_white (b ∷ bs))) p b bs part z refl h (λ q k. first_before p bs q z k)

no_further : (b : ℕ) (o : Option Found) → option_map (onto_part b) o ≡ None → o ≡ None
no_further b None k = refl
no_further b (Some part) k = absurd (cc)

first_none_step : (t w : Bool) (p : List ℕ → Bool) (b : ℕ) (bs : List ℕ) → p (before_first is_white (b ∷ bs)) ≡ t → is_white b ≡ w → found_token p true (b ∷ bs) ≡ None → (found_token p true bs ≡ None → p (first_token bs) ≡ false) → p (first_token (b ∷ bs)) ≡ false
first_none_step true w p b bs e f h k = let no : Some (part_at (b ∷ bs)) ≡ None = sym (here p b bs e) ∙ h in absurd (cc)
first_none_step false true p b bs e f h k =
    let later : found_token p (is_white b) bs ≡ None = no_further b (found_token p (is_white b) bs) (sym (step p true b bs e) ∙ h) in
    ap p (white_first b bs f) ∙ k (ap (λ w. found_token p w bs) (sym f) ∙ later)
first_none_step false false p b bs e f h k = ap p (black_first b bs f ∙ sym (prefix-byte b bs f)) ∙ e

pub first_none : (p : List ℕ → Bool) (text : List ℕ) → p [] ≡ false → found_token p true text ≡ None → p (first_token text) ≡ false
first_none p [] z h = z
first_none p (b ∷ bs) z h = first_none_step (p (before_first is_white (b ∷ bs))) (is_white b) p b bs refl refl h (first_none p bs z)

-- A text that begins with a token is cut there.
pub cut_token : (p : List ℕ → Bool) (t ys : List ℕ) → is_token t ≡ true → p t ≡ true → BeginsWhite ys → found_token p true (t ++ ys) ≡ Some (record { before = []; word = t; after = ys })
cut_token p [] ys h k w = absurd (cc)
cut_token p (c ∷ cs) ys h k w =
    let word : before_first is_white ((c ∷ cs) ++ ys) ≡ c ∷ cs = prefix_is (c ∷ cs) ys (bytes_of (c ∷ cs) h) w in
    let after : drop (token_end ((c ∷ cs) ++ ys)) ((c ∷ cs) ++ ys) ≡ ys = behind_is (c ∷ cs) ys (bytes_of (c ∷ cs) h) w in
    here p c (cs ++ ys) (ap p word ∙ k)
    ∙ ap (λ u. Some (record { before = []; word = u; after = drop (token_end ((c ∷ cs) ++ ys)) ((c ∷ cs) ++ ys) })) word
    ∙ ap (λ u. Some (record { before = []; word = c ∷ cs; after = u })) after
