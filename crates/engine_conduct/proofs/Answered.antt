-- An order may be heard before `uciok`, `readyok` or `bestmove`: less is known then.
use Rattle.std.proofs.Common.{◌≡◌, inl, inr, ℕ, ◌+◌, ◌<◌, List, Bool, true, false, cond, Option, Some, None, refl, sym, ap, subst, ◌∙◌, arith, lt-ltb}
use Rattle.std.proofs.lemmas.Bool.{eqb-false}
use Rattle.std.specs.Prelude.{◌==◌}
use Rattle.protocol_tokens.specs.Tokens.{tokens}
use Rattle.chess_board.specs.declared.board.Move.{Move}
use Rattle.engine_conduct.specs.declared.known.Due.{Due}
use Rattle.engine_conduct.specs.declared.orders.AskedWord.{AskedWord}
use Rattle.engine_conduct.specs.declared.orders.AskedWord.TheVariants as words
use Rattle.engine_conduct.specs.declared.orders.HeardOrder.TheVariants as orders
use Rattle.engine_conduct.specs.declared.orders.GameChoice.{GameChoice}
use Rattle.engine_conduct.specs.declared.orders.GameChoice.TheVariants as choices
use Rattle.engine_conduct.specs.declared.search.OpenSearch.{OpenSearch}
use Rattle.engine_conduct.specs.declared.search.OpenSearch.TheVariants as searches
use Rattle.engine_conduct.specs.declared.words.EngineWord.TheVariants as engines
use Rattle.engine_conduct.specs.Conduct.{Conduct}
use Rattle.engine_conduct.specs.Known.{castling_declared, fewer, more, search_left, told_search}
use Rattle.engine_conduct.specs.Orders.{position_placed, variant_played, variant_set}
use Rattle.engine_conduct.specs.Searches.{began_search, lost_place, search_hit, search_stopped}
use Rattle.engine_conduct.proofs.Below.{KnowsLess, SearchBelow, ordered, same_below, search_same, told}
use Rattle.engine_conduct.proofs.Kept.{chose}

-- COUNTS

-- no count is at its end
pub record InRange (d : Due) : Type 0 where
  pub boots : d.boots < 18446744073709551615
  pub readies : d.readies < 18446744073709551615
  pub answers : d.answers < 18446744073709551615

more_is : (n : ℕ) → n < 18446744073709551615 → more n ≡ n + 1
more_is n h = ap (λ (z : Bool). cond z (n + 1) 18446744073709551615) (lt-ltb n 18446744073709551615 h)

fewer_more : (n : ℕ) → n < 18446744073709551615 → fewer (more n) ≡ n
fewer_more n h = ap fewer (more_is n h) ∙ omega arith

more_fewer : (n : ℕ) → n < 18446744073709551615 → (n == 0) ≡ false → more (fewer n) ≡ n
more_fewer n h e =
    let some : n ≡ 0 → ⊥ = eqb-false n 0 e in
    more_is (fewer n) (omega (arith, h)) ∙ omega (arith, some)

swaps : (n : ℕ) → n < 18446744073709551615 → (n == 0) ≡ false → fewer (more n) ≡ more (fewer n)
swaps n h e = fewer_more n h ∙ sym (more_fewer n h e)

-- `uciok` AND `readyok`

pub same : (a b : Conduct) → a ≡ b → KnowsLess a b
same a b e = subst (λ (c : Conduct). KnowsLess a c) e (same_below a)

boot_choice : (c : Conduct) (choice : Option GameChoice) (line : List ℕ) → told (chose c choice) (Some engines.UciOk) line ≡ chose (told c (Some engines.UciOk) line) choice
boot_choice c None line = refl
boot_choice c (Some (choices.Castling x)) line = refl
boot_choice c (Some choices.Declared) line = refl
boot_choice c (Some (choices.Game x)) line = refl

pub boot_word : (c : Conduct) (o : AskedWord) (text line : List ℕ) → InRange c.known.due → (c.known.due.boots == 0) ≡ false
    → told (ordered c 0 (orders.Word o) text) (Some engines.UciOk) line ≡ ordered (told c (Some engines.UciOk) line) 0 (orders.Word o) text
boot_word c words.Uci text line r e =
    ap (λ (n : ℕ). record { known = record (c.known) { due = record { boots = n; readies = c.known.due.readies; answers = c.known.due.answers } }; listed = c.listed })
    (swaps c.known.due.boots r.boots e)
boot_word c words.SetOption text line r e = boot_choice c (variant_set text) line
boot_word c o text line r e = refl

ready_choice : (c : Conduct) (choice : Option GameChoice) (line : List ℕ) → told (chose c choice) (Some engines.ReadyOk) line ≡ chose (told c (Some engines.ReadyOk) line) choice
ready_choice c None line = refl
ready_choice c (Some (choices.Castling x)) line = refl
ready_choice c (Some choices.Declared) line = refl
ready_choice c (Some (choices.Game x)) line = refl

pub ready_word : (c : Conduct) (o : AskedWord) (text line : List ℕ) → InRange c.known.due → (c.known.due.readies == 0) ≡ false
    → told (ordered c 0 (orders.Word o) text) (Some engines.ReadyOk) line ≡ ordered (told c (Some engines.ReadyOk) line) 0 (orders.Word o) text
ready_word c words.IsReady text line r e =
    ap (λ (n : ℕ). record { known = record (c.known) { due = record { boots = c.known.due.boots; readies = n; answers = c.known.due.answers } }; listed = c.listed })
    (swaps c.known.due.readies r.readies e)
ready_word c words.SetOption text line r e = ready_choice c (variant_set text) line
ready_word c o text line r e = refl

-- `bestmove`

left_by : (z : Bool) (f : OpenSearch → OpenSearch) (s : OpenSearch) → f searches.None ≡ searches.None → cond z searches.None (f s) ≡ f (cond z searches.None s)
left_by true f s e = sym e
left_by false f s e = refl

-- the engine searches on, with another search
abbrev turned : Conduct → (OpenSearch → OpenSearch) → Conduct
turned c f = record { known = record (c.known) { search = f c.known.search }; listed = c.listed }

best_turned : (c : Conduct) (f : OpenSearch → OpenSearch) (line : List ℕ) → f searches.None ≡ searches.None → told (turned c f) (Some engines.Best) line ≡ turned (told c (Some engines.Best) line) f
best_turned c f line e =
    ap (λ (s : OpenSearch). record { known = record (c.known) { search = s; due = told_search c.known.due }; listed = c.listed })
    (left_by (fewer c.known.due.answers == 0) f c.known.search e)

best_choice : (c : Conduct) (choice : Option GameChoice) (line : List ℕ) → told (chose c choice) (Some engines.Best) line ≡ chose (told c (Some engines.Best) line) choice
best_choice c None line = refl
best_choice c (Some (choices.Castling x)) line =
    ap (λ (s : OpenSearch). record { known = record (c.known) { castling = x; placed = None; search = s; due = told_search c.known.due }; listed = c.listed })
    (left_by (fewer c.known.due.answers == 0) lost_place c.known.search refl)
best_choice c (Some choices.Declared) line =
    ap (λ (s : OpenSearch). record { known = record (c.known) { castling = castling_declared c.known.castling; placed = None; search = s; due = told_search c.known.due }; listed = c.listed })
    (left_by (fewer c.known.due.answers == 0) lost_place c.known.search refl)
best_choice c (Some (choices.Game x)) line =
    ap (λ (s : OpenSearch). record { known = record (c.known) { game = x; placed = None; search = s; due = told_search c.known.due }; listed = c.listed })
    (left_by (fewer c.known.due.answers == 0) lost_place c.known.search refl)

-- A `go` before the answer is due begins a search of which nothing is known.
mixed_left : (n : ℕ) (s : OpenSearch) → n < 18446744073709551615 → (n == 0) ≡ false → search_left (fewer (more n)) (cond (n == 0) s searches.Mixed) ≡ searches.Mixed
mixed_left n s h e =
    ap (λ (i : ℕ). search_left i (cond (n == 0) s searches.Mixed)) (fewer_more n h)
    ∙ ap (λ (z : Bool). cond z searches.None (cond z s searches.Mixed)) e

below_mixed : (s : OpenSearch) (l : List Move) (t : OpenSearch) (k : List Move) → s ≡ searches.Mixed → SearchBelow s l t k
below_mixed s l t k e = subst (λ (u : OpenSearch). SearchBelow u l t k) (sym e) tt

pub best_word : (c : Conduct) (o : AskedWord) (text line : List ℕ) → InRange c.known.due → (c.known.due.answers == 0) ≡ false
    → KnowsLess (told (ordered c 0 (orders.Word o) text) (Some engines.Best) line) (ordered (told c (Some engines.Best) line) 0 (orders.Word o) text)
best_word c words.SetOption text line r e = same _ _ (best_choice c (variant_set text) line)
best_word c words.Stop text line r e = same _ _ (best_turned c search_stopped line refl)
best_word c words.PonderHit text line r e = same _ _ (best_turned c search_hit line refl)
best_word c words.Position text line r e = λ i. record {
  heard_so = i;
  listener = refl;
  due = refl;
  castling = refl;
  game = inr refl;
  placed = inl (ap (λ (z : Bool). cond z (position_placed (variant_played c.known.castling c.known.game) text) None) e);
  search = search_same _ c.listed;
}
best_word c words.Go text line r e = λ i. record {
  heard_so = i;
  listener = refl;
  due = ap (λ (n : ℕ). record { boots = c.known.due.boots; readies = c.known.due.readies; answers = n }) (swaps c.known.due.answers r.answers e);
  castling = refl;
  game = inr refl;
  placed = inr refl;
  search = below_mixed _ _ _ _ (mixed_left c.known.due.answers (began_search c.known.placed (tokens text)) r.answers e);
}
best_word c o text line r e = same_below _
