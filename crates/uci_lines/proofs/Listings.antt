-- Parts of a line as relations, and as functions: what follows a word, moves, the values of a combo.
use Rattle.std.proofs.Common.{◌≡◌, ℕ, zero, suc, ◌<◌, arith, length-append, inl, inr, List, [], ◌∷◌, ◌++◌, Bool, true, false, ◌||◌, Option, Some, None, codes, cond, length, drop, refl, sym, ap, ◌∙◌, subst}
use Rattle.std.proofs.Math.Seq.{drop-append_seam}
use Rattle.chess_board.specs.declared.board.Move.{Move}
use Rattle.protocol_tokens.specs.Tokens.{is_token, trimmed}
use Rattle.uci_lines.specs.Cuts.{Found, found_token, is_word, is_choice}
use Rattle.uci_lines.specs.Choices.{values, before_choice, from_choice}
use Rattle.chess_board.specs.Spelling.{move_spelled_by}
use Rattle.uci_lines.specs.Spells.{FirstTokenPasses, Behind, PerhapsMove, UpToChoice, HasValues}
use Rattle.uci_lines.proofs.Counts.{same_text, text_same}
use Rattle.uci_lines.proofs.Cutting.{cut_token}
use Rattle.uci_lines.proofs.FirstTokens.{first_cut, none_cut, cut_first, cut_none, white_as}
use Rattle.uci_lines.proofs.Pieces.{values_none, values_some}
use Rattle.chess_board.proofs.Spelled.{move_spells, spells_move, read_is}

-- the text behind a cut
abbrev pub after_cut : Option Found → List ℕ
after_cut None = []
after_cut (Some part) = part.after

pub behind_cut : (word text others : List ℕ) → is_word word [] ≡ false → Behind word text others → others ≡ after_cut (found_token (is_word word) true text)
behind_cut word text others z (inl h) = h.1 ∙ ap after_cut (sym (none_cut (is_word word) text z h.0))
behind_cut word text others z (inr h) = h.2 ∙ ap after_cut (sym (first_cut (is_word word) text h.0 z h.1))

behind_by : (word text : List ℕ) (o : Option Found) → is_word word [] ≡ false → found_token (is_word word) true text ≡ o → Behind word text (after_cut o)
behind_by word text None z e = inl (cut_none (is_word word) text e, refl)
behind_by word text (Some part) z e = inr (part, cut_first (is_word word) text part z e, refl)

pub cut_behind : (word text : List ℕ) → is_word word [] ≡ false → Behind word text (after_cut (found_token (is_word word) true text))
cut_behind word text z = behind_by word text (found_token (is_word word) true text) z refl

-- moves
pub perhaps_is : (text : List ℕ) (o : Option Move) → PerhapsMove text o → o ≡ move_spelled_by text
perhaps_is text (Some m) h = sym (spells_move text m h)
perhaps_is text None h = read_is text None tt h

perhaps_by : (text : List ℕ) (o : Option Move) → move_spelled_by text ≡ o → PerhapsMove text o
perhaps_by text (Some m) e = move_spells text m e
perhaps_by text None e = λ m h. none_some m (sym e ∙ spells_move text m h)
  where
    none_some : (m : Move) → None ≡ Some m → ⊥
    none_some m k = absurd (cc)

pub is_perhaps : (text : List ℕ) → PerhapsMove text (move_spelled_by text)
is_perhaps text = perhaps_by text (move_spelled_by text) refl

-- up to a choice
pub up_to : (text value : List ℕ) → UpToChoice text value → value ≡ trimmed (before_choice (found_token is_choice true text) text)
up_to text value (inl h) = h.1 ∙ ap (λ o. trimmed (before_choice o text)) (sym (none_cut is_choice text refl h.0))
up_to text value (inr h) = h.2 ∙ ap (λ o. trimmed (before_choice o text)) (sym (first_cut is_choice text h.0 refl h.1))

up_by : (text : List ℕ) (o : Option Found) → found_token is_choice true text ≡ o → UpToChoice text (trimmed (before_choice o text))
up_by text None e = inl (cut_none is_choice text e, refl)
up_by text (Some part) e = inr (part, cut_first is_choice text part refl e, refl)

pub is_up : (text : List ℕ) → UpToChoice text (trimmed (before_choice (found_token is_choice true text) text))
is_up text = up_by text (found_token is_choice true text) refl

-- The values of a text are those from its first choice on.
from_by : (text : List ℕ) (o : Option Found) → found_token is_choice true text ≡ o → values (from_choice o text) ≡ values text
from_by text None e = values_none [] refl ∙ sym (values_none text e)
from_by text (Some q) e =
    let f = cut_first is_choice text q refl e in
    let word = cut_token is_choice q.word q.after f.token f.passes (white_as q.after f.ends_there) in
    let part : Found = record { before = []; word = q.word; after = q.after } in
    ap (λ t. values (drop (length q.before) t)) f.whole
    ∙ ap values (drop-append_seam q.before (q.word ++ q.after))
    ∙ values_some (q.word ++ q.after) part word
    ∙ sym (values_some text q e)

from_all : (text : List ℕ) → values (from_choice (found_token is_choice true text) text) ≡ values text
from_all text = from_by text (found_token is_choice true text) refl

-- the values with the first one, or without it
one_more : Bool → List ℕ → List (List ℕ) → List (List ℕ)
one_more b value others = cond b (value ∷ others) others

values_by : (text : List ℕ) (part : Found) → found_token is_choice true text ≡ Some part → values text ≡ one_more (is_word (codes "var") part.word) (trimmed (before_choice (found_token is_choice true part.after) part.after)) (values part.after)
unfolding one_more
values_by text part e = values_some text part e ∙ ap (one_more (is_word (codes "var") part.word) (trimmed (before_choice (found_token is_choice true part.after) part.after))) (from_all part.after)

pub values_are : (text : List ℕ) (vs : List (List ℕ)) → HasValues text vs → values text ≡ vs
unfolding one_more
values_are text _ (HasValues.Ended h) = values_none text (none_cut is_choice text refl h)
values_are text _ (HasValues.Var {value = value} {values = vs} part f w u h) =
    values_by text part (first_cut is_choice text part refl f)
    ∙ ap (λ b. one_more b (trimmed (before_choice (found_token is_choice true part.after) part.after)) (values part.after)) (text_same part.word (codes "var") w)
    ∙ ap (λ v. v ∷ values part.after) (sym (up_to part.after value u))
    ∙ ap (λ t. value ∷ t) (values_are part.after vs h)
values_are text _ (HasValues.Default {values = vs} part f w h) =
    values_by text part (first_cut is_choice text part refl f)
    ∙ ap (λ t. one_more (is_word (codes "var") t) (trimmed (before_choice (found_token is_choice true part.after) part.after)) (values part.after)) w
    ∙ values_are part.after vs h

values_by_word : (b : Bool) (text : List ℕ) (part : Found) (vs : List (List ℕ)) → FirstTokenPasses is_choice text part → is_word (codes "var") part.word ≡ b → HasValues part.after vs → HasValues text (one_more b (trimmed (before_choice (found_token is_choice true part.after) part.after)) vs)
unfolding one_more
values_by_word true text part vs f e h = HasValues.Var part f (same_text part.word (codes "var") e) (is_up part.after) h
values_by_word false text part vs f e h = HasValues.Default part f (same_text part.word (codes "default") (either (is_word (codes "default") part.word) (is_word (codes "var") part.word) f.passes e)) h
  where
    either : (a b : Bool) → (a || b) ≡ true → b ≡ false → a ≡ true
    either true b j k = refl
    either false true j k = absurd (cc)
    either false false j k = absurd (cc)

-- the text after a cut is shorter
shorter : (text : List ℕ) (part : Found) → FirstTokenPasses is_choice text part → length part.after < length text
shorter text part f =
    let token : 0 < length part.word = some_bytes part.word f.token in
    let e = ap length f.whole in
    omega (arith, e, token, length-append part.before (part.word ++ part.after), length-append part.word part.after)
  where
    some_bytes : (w : List ℕ) → is_token w ≡ true → 0 < length w
    some_bytes [] h = absurd (cc)
    some_bytes (b ∷ bs) h = omega arith

has_by : (text : List ℕ) (o : Option Found) → found_token is_choice true text ≡ o → ((us : List ℕ) → length us < length text → HasValues us (values us)) → HasValues text (values text)
has_by text None e i = subst (λ (vs : List (List ℕ)). HasValues text vs) (sym (values_none text e)) (HasValues.Ended (cut_none is_choice text e))
has_by text (Some part) e i =
    let f = cut_first is_choice text part refl e in
    subst (λ (vs : List (List ℕ)). HasValues text vs) (sym (values_by text part e))
    (values_by_word (is_word (codes "var") part.word) text part (values part.after) f refl (i part.after (shorter text part f)))

has_within : (n : ℕ) (text : List ℕ) → length text < n → HasValues text (values text)
has_within zero text l = absurd (omega (arith, l))
has_within (suc n) text l = has_by text (found_token is_choice true text) refl (λ us k. has_within n us (omega (arith, l, k)))

pub has_values : (text : List ℕ) → HasValues text (values text)
has_values text = has_within (suc (length text)) text (omega arith)
