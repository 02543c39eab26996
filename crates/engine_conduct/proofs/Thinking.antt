-- A line that tells of no search shows no moves.
use Rattle.std.proofs.Common.{◌≡◌, ℕ, List, [], ◌∷◌, Bool, true, false, cond, not, ◌&&◌, ◌||◌, Option, Some, None, refl, ap, ◌∙◌}
use Rattle.std.specs.Prelude.{codes}
use Rattle.protocol_tokens.specs.Tokens.{rest_after_token, tokens}
use Rattle.chess_board.specs.declared.board.Move.{Move}
use Rattle.chess_board.specs.Position.{Position}
use Rattle.uci_lines.specs.Cuts.{is_word}
use Rattle.uci_lines.specs.Moves.{longest_move_run}
use Rattle.engine_conduct.specs.declared.search.Pondering.{Pondering}
use Rattle.engine_conduct.specs.declared.search.Pondering.TheVariants as ponderings
use Rattle.engine_conduct.specs.declared.search.OpenSearch.{OpenSearch}
use Rattle.engine_conduct.specs.declared.search.OpenSearch.TheVariants as searches
use Rattle.engine_conduct.specs.declared.words.EngineWord.TheVariants as engines
use Rattle.engine_conduct.specs.declared.words.InfoWord.{InfoWord}
use Rattle.engine_conduct.specs.declared.words.InfoWord.TheVariants as infos
use Rattle.engine_conduct.specs.Broken.{breaks_pv, breaks_searchmoves, tells_thinking}
use Rattle.engine_conduct.specs.Forms.{is_text_word, tells}
use Rattle.engine_conduct.specs.Runs.{are_legal, has_illegal_run, has_unlisted_run, run_behind, starts_unlisted}
use Rattle.engine_conduct.specs.Searches.{search_place}
use Rattle.engine_conduct.specs.Words.{info_word, is_passing}

-- What tells of no search shows no moves.
record TellsNone (ts : List (List ℕ)) : Type 0 where
  pv : tells (codes "pv") ts ≡ false
  move : tells (codes "currmove") ts ≡ false
  refuted : tells (codes "refutation") ts ≡ false
  line : tells (codes "currline") ts ≡ false

none_of : (d s p c r l : Bool) → (d || s || p || c || r || l) ≡ false → (p ≡ false) × (c ≡ false) × (r ≡ false) × (l ≡ false)
none_of false false false false false false e = (refl, refl, refl, refl)
none_of d s p c r l e = absurd (cc)

tells_none : (ts : List (List ℕ)) → tells_thinking ts ≡ false → TellsNone ts
tells_none ts e =
    let n = none_of (tells (codes "depth") ts) (tells (codes "score") ts) (tells (codes "pv") ts) (tells (codes "currmove") ts) (tells (codes "refutation") ts) (tells (codes "currline") ts) e in
    record { pv = n.0; move = n.1; refuted = n.2; line = n.3 }

abbrev is_lined : Option InfoWord → Bool
is_lined (Some infos.Pv) = true
is_lined (Some infos.CurrMove) = true
is_lined (Some infos.Refutation) = true
is_lined (Some infos.CurrLine) = true
is_lined w = false

no_run : (p : Pondering) (w : Option InfoWord) (ts : List (List ℕ)) → is_lined w ≡ false → run_behind p w ts ≡ []
no_run p (Some infos.Pv) ts e = absurd (cc)
no_run p (Some infos.CurrMove) ts e = absurd (cc)
no_run p (Some infos.Refutation) ts e = absurd (cc)
no_run p (Some infos.CurrLine) ts e = absurd (cc)
no_run ponderings.No w ts e = refl
no_run p w ts e = refl

lined_by : (b : Bool) (w : Option InfoWord) (rest : Option InfoWord) → (b ≡ true → is_lined w ≡ false) → is_lined rest ≡ false → is_lined (cond b w rest) ≡ false
lined_by true w rest f h = f refl
lined_by false w rest f h = h

never : (b : Bool) (w : Option InfoWord) → b ≡ false → b ≡ true → is_lined w ≡ false
never b w e f = absurd (cc)

-- such a token, and those behind it
record IsNone (t : List ℕ) : Type 0 where
  pv : is_word (codes "pv") t ≡ false
  move : is_word (codes "currmove") t ≡ false
  refuted : is_word (codes "refutation") t ≡ false
  line : is_word (codes "currline") t ≡ false

not_lined : (t : List ℕ) → IsNone t → is_lined (info_word t) ≡ false
not_lined t n =
    lined_by (is_word (codes "depth") t) (Some infos.Depth) _ (λ e. refl)
    (lined_by (is_word (codes "seldepth") t) (Some infos.SelDepth) _ (λ e. refl)
    (lined_by (is_word (codes "time") t || is_word (codes "nodes") t) (Some infos.Count) _ (λ e. refl)
    (lined_by (is_word (codes "multipv") t || is_word (codes "currmovenumber") t) (Some infos.Count) _ (λ e. refl)
    (lined_by (is_word (codes "score") t) (Some infos.Score) _ (λ e. refl)
    (lined_by (is_word (codes "currmove") t) (Some infos.CurrMove) _ (never (is_word (codes "currmove") t) (Some infos.CurrMove) n.move)
    (lined_by (is_word (codes "pv") t) (Some infos.Pv) _ (never (is_word (codes "pv") t) (Some infos.Pv) n.pv)
    (lined_by (is_word (codes "refutation") t) (Some infos.Refutation) _ (never (is_word (codes "refutation") t) (Some infos.Refutation) n.refuted)
    (lined_by (is_word (codes "currline") t) (Some infos.CurrLine) _ (never (is_word (codes "currline") t) (Some infos.CurrLine) n.line)
    (lined_by (is_word (codes "string") t) (Some infos.Text) _ (λ e. refl)
    (lined_by (is_passing t) (Some infos.Passing) None (λ e. refl) refl))))))))))

tells_next : (z x y : Bool) → z ≡ false → cond z false (cond x true y) ≡ false → (x ≡ false) × (y ≡ false)
tells_next true x y e h = absurd (cc)
tells_next false true y e h = absurd (cc)
tells_next false false y e h = (refl, h)

none_here : (t : List ℕ) (ts : List (List ℕ)) → is_text_word (info_word t) ≡ false → TellsNone (t ∷ ts) → IsNone t
none_here t ts e h = record {
  pv = (tells_next (is_text_word (info_word t)) (is_word (codes "pv") t) (tells (codes "pv") ts) e h.pv).0;
  move = (tells_next (is_text_word (info_word t)) (is_word (codes "currmove") t) (tells (codes "currmove") ts) e h.move).0;
  refuted = (tells_next (is_text_word (info_word t)) (is_word (codes "refutation") t) (tells (codes "refutation") ts) e h.refuted).0;
  line = (tells_next (is_text_word (info_word t)) (is_word (codes "currline") t) (tells (codes "currline") ts) e h.line).0;
}

none_on : (t : List ℕ) (ts : List (List ℕ)) → is_text_word (info_word t) ≡ false → TellsNone (t ∷ ts) → TellsNone ts
none_on t ts e h = record {
  pv = (tells_next (is_text_word (info_word t)) (is_word (codes "pv") t) (tells (codes "pv") ts) e h.pv).1;
  move = (tells_next (is_text_word (info_word t)) (is_word (codes "currmove") t) (tells (codes "currmove") ts) e h.move).1;
  refuted = (tells_next (is_text_word (info_word t)) (is_word (codes "refutation") t) (tells (codes "refutation") ts) e h.refuted).1;
  line = (tells_next (is_text_word (info_word t)) (is_word (codes "currline") t) (tells (codes "currline") ts) e h.line).1;
}

text_or : (z r : Bool) → (z ≡ false → r ≡ false) → cond z false r ≡ false
text_or true r f = refl
text_or false r f = f refl

none_illegal : (p : Pondering) (at : Position) (ts : List (List ℕ)) → TellsNone ts → has_illegal_run p at ts ≡ false
none_illegal p at [] h = refl
none_illegal p at (t ∷ ts) h =
    text_or (is_text_word (info_word t)) (cond (not (are_legal (Some at) (longest_move_run (run_behind p (info_word t) ts)))) true (has_illegal_run p at ts))
    (λ e. ap (λ (r : List (List ℕ)). cond (not (are_legal (Some at) (longest_move_run r))) true (has_illegal_run p at ts)) (no_run p (info_word t) ts (not_lined t (none_here t ts e h))) ∙ none_illegal p at ts (none_on t ts e h))

none_unlisted : (p : Pondering) (at : Position) (l : List Move) (ts : List (List ℕ)) → TellsNone ts → has_unlisted_run p at l ts ≡ false
none_unlisted p at l [] h = refl
none_unlisted p at l (t ∷ ts) h =
    text_or (is_text_word (info_word t)) (cond (starts_unlisted at l (longest_move_run (run_behind p (info_word t) ts))) true (has_unlisted_run p at l ts))
    (λ e. ap (λ (r : List (List ℕ)). cond (starts_unlisted at l (longest_move_run r)) true (has_unlisted_run p at l ts)) (no_run p (info_word t) ts (not_lined t (none_here t ts e h))) ∙ none_unlisted p at l ts (none_on t ts e h))

quiet_pv : (p : Option (Position × Pondering)) (line : List ℕ) → tells_thinking (tokens (rest_after_token line)) ≡ false → breaks_pv p engines.Info line ≡ false
quiet_pv None line e = refl
quiet_pv (Some p) line e = none_illegal p.1 p.0 (tokens (rest_after_token line)) (tells_none (tokens (rest_after_token line)) e)

quiet_listed : (p : Option (Position × Pondering)) (l : List Move) (line : List ℕ) → tells_thinking (tokens (rest_after_token line)) ≡ false → breaks_searchmoves p l engines.Info line ≡ false
quiet_listed None l line e = refl
quiet_listed (Some p) l line e = none_unlisted p.1 p.0 l (tokens (rest_after_token line)) (tells_none (tokens (rest_after_token line)) e)

pub go_pv : (z : Bool) (s : OpenSearch) (line : List ℕ) → (z && tells_thinking (tokens (rest_after_token line))) ≡ false → breaks_pv (search_place (cond z s searches.Mixed)) engines.Info line ≡ false
go_pv false s line e = refl
go_pv true s line e = quiet_pv (search_place s) line e

pub go_listed : (z : Bool) (s : OpenSearch) (l : List Move) (line : List ℕ) → (z && tells_thinking (tokens (rest_after_token line))) ≡ false → breaks_searchmoves (search_place (cond z s searches.Mixed)) l engines.Info line ≡ false
go_listed false s l line e = refl
go_listed true s l line e = quiet_listed (search_place s) l line e
