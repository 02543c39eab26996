-- The text written of a name, of a best move and of the two short messages spells it.
use Rattle.std.proofs.Common.{◌≡◌, ℕ, ◌+◌, List, [], ◌∷◌, ◌++◌, Bool, true, false, drop, Option, Some, None, codes, refl, sym, ap, ◌∙◌, subst, inl, inr}
use Rattle.chess_board.specs.declared.board.Move.{Move}
use Rattle.chess_board.specs.Text.{text_of_move, SpellsMove as MoveSpells}
use Rattle.chess_board.proofs.Texts.{reads-back}
use Rattle.protocol_tokens.specs.Tokens.{is_token, trimmed, first_token, rest_after_token, trim_left, token_end}
use Rattle.protocol_tokens.proofs.Trims.{trimmed_again}
use Rattle.protocol_tokens.proofs.Runs.{token_alone}
use Rattle.uci_lines.specs.Cuts.{is_word, is_known}
use Rattle.chess_board.specs.Spelling.{move_spelled_by}
use Rattle.uci_lines.specs.Messages.{Name, UciOk, ReadyOk, Best}
use Rattle.uci_lines.specs.Spells.{FirstTokenPasses, Behind, PerhapsMove, FirstKnownWordIs, HasForm}
use Rattle.uci_interface_lines.specs.Said.{spaced_text, move_after_word, bestmove_text, said_text}
use Rattle.uci_lines.specs.Writable.{can_write}
use Rattle.uci_lines.proofs.Prefixes.{BeginsWhite, first_is, rest_is}
use Rattle.uci_lines.proofs.Cutting.{cut_token}
use Rattle.uci_lines.proofs.FirstTokens.{cut_first}
use Rattle.uci_lines.proofs.Listings.{is_perhaps}
use Rattle.uci_lines.proofs.MoveTokens.{move_token}
use Rattle.chess_board.proofs.Spelled.{spelled_officer}
use Rattle.uci_interface_lines.proofs.Kept.{solid_token, solid_over, spaced_trimmed, spaced_white}

-- a word at the start of a text is its first such word
pub first_here : (p : List ℕ → Bool) (word ys : List ℕ) → p [] ≡ false → is_token word ≡ true → p word ≡ true → BeginsWhite ys → FirstTokenPasses p (word ++ ys) (record { before = []; word = word; after = ys })
first_here p word ys z t k w = cut_first p (word ++ ys) (record { before = []; word = word; after = ys }) z (cut_token p word ys t k w)

pub begins_with : (word ys : List ℕ) → is_token word ≡ true → is_known word ≡ true → BeginsWhite ys → FirstKnownWordIs (word ++ ys) word ys
begins_with word ys t k w = (record { before = []; word = word; after = ys }, first_here is_known word ys refl t k w, refl, refl)

pub behind_here : (word ys : List ℕ) → is_word word [] ≡ false → is_token word ≡ true → is_word word word ≡ true → BeginsWhite ys → Behind word (word ++ ys) ys
behind_here word ys z t k w = inr (record { before = []; word = word; after = ys }, first_here (is_word word) word ys z t k w, refl)

pub rest_again : (text : List ℕ) → trimmed (rest_after_token text) ≡ rest_after_token text
rest_again text = trimmed_again (drop (token_end (trim_left text)) (trim_left text))

pub perhaps_officer : (text : List ℕ) (o : Option Move) → PerhapsMove text o → can_write o
perhaps_officer text None h = tt
perhaps_officer text (Some m) h = spelled_officer text m h

-- NAMES

pub name_again : (line name : List ℕ) → HasForm line (Name name) → HasForm (said_text (Name name)) (Name name)
unfolding said_text
name_again line name h =
    let white = spaced_white name in
    let kept : trimmed name ≡ name = ap trimmed h.3 ∙ rest_again h.0 ∙ sym h.3 in (
      codes " name" ++ spaced_text name,
      begins_with (codes "id") (codes " name" ++ spaced_text name) refl refl refl,
      first_is (codes "name") (spaced_text name) refl white,
      sym (rest_is (codes "name") (spaced_text name) refl white ∙ spaced_trimmed name ∙ kept),
    )

pub uci_ok_again : HasForm (said_text UciOk) UciOk
unfolding said_text
uci_ok_again = ([], begins_with (codes "uciok") [] refl refl tt)

pub ready_ok_again : HasForm (said_text ReadyOk) ReadyOk
unfolding said_text
ready_ok_again = ([], begins_with (codes "readyok") [] refl refl tt)

-- BEST MOVES

best_token : (best : Option Move) → is_token (bestmove_text best) ≡ true
best_token None = refl
best_token (Some m) = move_token m

best_spells : (best : Option Move) → can_write best → PerhapsMove (bestmove_text best) best
unfolding move_spelled_by
best_spells None h = is_perhaps (codes "0000")
best_spells (Some m) h = reads-back m h

hint_white : (hint : Option Move) → BeginsWhite (move_after_word (codes " ponder ") hint)
hint_white None = tt
hint_white (Some m) = refl

-- the hint after the best move
record HasHint (text : List ℕ) (hint : Option Move) : Type 0 where
  others : List ℕ
  behind : Behind (codes "ponder") (rest_after_token text) others
  spells : PerhapsMove (first_token others) hint

no_text : (m : Move) → MoveSpells [] m → ⊥
no_text m h = h

hint_rest : (best hint : Option Move) → rest_after_token (bestmove_text best ++ move_after_word (codes " ponder ") hint) ≡ trimmed (move_after_word (codes " ponder ") hint)
hint_rest best hint = rest_is (bestmove_text best) (move_after_word (codes " ponder ") hint) (best_token best) (hint_white hint)

hint_kept : (m : Move) → trimmed (codes " ponder " ++ text_of_move m) ≡ codes "ponder " ++ text_of_move m
hint_kept m = (solid_over (codes "ponder ") (text_of_move m) (solid_token (text_of_move m) (move_token m))).kept

has_hint : (best hint : Option Move) → can_write hint → HasHint (bestmove_text best ++ move_after_word (codes " ponder ") hint) hint
has_hint best None h = record {
  others = [];
  behind = subst (λ (t : List ℕ). Behind (codes "ponder") t []) (sym (hint_rest best None)) (inl (refl, refl));
  spells = no_text;
}
has_hint best (Some m) h = record {
  others = 32 ∷ text_of_move m;
  behind = subst (λ (t : List ℕ). Behind (codes "ponder") t (32 ∷ text_of_move m)) (sym (hint_rest best (Some m) ∙ hint_kept m)) (behind_here (codes "ponder") (32 ∷ text_of_move m) refl refl refl refl);
  spells = subst (λ (t : List ℕ). MoveSpells t m) (sym (token_alone (text_of_move m) (move_token m))) (reads-back m h);
}

best_by : (best hint : Option Move) → can_write best → can_write hint → HasForm (said_text (Best best hint)) (Best best hint)
unfolding said_text
best_by best hint b h =
    let text : List ℕ = bestmove_text best ++ move_after_word (codes " ponder ") hint in
    let first : first_token text ≡ bestmove_text best = first_is (bestmove_text best) (move_after_word (codes " ponder ") hint) (best_token best) (hint_white hint) in
    let k = has_hint best hint h in (
      32 ∷ text,
      begins_with (codes "bestmove") (32 ∷ text) refl refl refl,
      subst (λ (t : List ℕ). PerhapsMove t best) (sym first) (best_spells best b),
      k.others,
      k.behind,
      k.spells,
    )

pub best_again : (line : List ℕ) (best hint : Option Move) → HasForm line (Best best hint) → HasForm (said_text (Best best hint)) (Best best hint)
best_again line best hint h = best_by best hint (perhaps_officer (first_token h.0) best h.2) (perhaps_officer (first_token h.3) hint h.5)
