-- What `stop` and `ponderhit` leave of a search forbids no more than the search did.
use Rattle.std.proofs.Common.{◌≡◌, ℕ, List, [], ◌∷◌, true, false, cond, not, ◌&&◌, ◌||◌, Option, Some, None, refl, ap, ◌∙◌}
use Rattle.protocol_tokens.specs.Tokens.{rest_after_token, tokens}
use Rattle.chess_board.specs.declared.board.Move.{Move}
use Rattle.chess_board.specs.Position.{Position}
use Rattle.uci_lines.specs.Moves.{longest_move_run}
use Rattle.engine_conduct.specs.declared.search.SearchEnd.{SearchEnd}
use Rattle.engine_conduct.specs.declared.search.Pondering.{Pondering}
use Rattle.engine_conduct.specs.declared.search.Pondering.TheVariants as ponderings
use Rattle.engine_conduct.specs.declared.search.OpenSearch.{OpenSearch}
use Rattle.engine_conduct.specs.declared.search.OpenSearch.TheVariants as searches
use Rattle.engine_conduct.specs.declared.words.EngineWord.{EngineWord}
use Rattle.engine_conduct.specs.declared.words.EngineWord.TheVariants as engines
use Rattle.engine_conduct.specs.declared.words.InfoWord.{InfoWord}
use Rattle.engine_conduct.specs.declared.words.InfoWord.TheVariants as infos
use Rattle.engine_conduct.specs.Broken.{breaks_move, breaks_ponder, breaks_pv, breaks_searchmoves, is_best_word}
use Rattle.engine_conduct.specs.Forms.{is_text_word}
use Rattle.engine_conduct.specs.Runs.{are_legal, has_illegal_run, has_unlisted_run, run_behind, starts_unlisted}
use Rattle.engine_conduct.specs.Searches.{goes_to_stop, pondering_hit, is_bound, is_open_pondering, place_by, search_hit, search_place, search_stopped, stopped_in}
use Rattle.engine_conduct.specs.Words.{info_word}
use Rattle.engine_conduct.proofs.OtherWords.{listed_none, move_none, or_first, ponder_none, pv_none}

-- RUNS

-- A ponder search shows the same main lines whether the move was played or not.
runs_stopped : (p : Pondering) (w : Option InfoWord) (ts : List (List ℕ)) → run_behind (stopped_in p) w ts ≡ run_behind p w ts
runs_stopped ponderings.No w ts = refl
runs_stopped p None ts = refl
runs_stopped p (Some infos.Pv) ts = refl
runs_stopped p (Some infos.CurrMove) ts = refl
runs_stopped p (Some infos.Refutation) ts = refl
runs_stopped p (Some infos.CurrLine) ts = refl
runs_stopped p (Some w) ts = refl

runs_hit : (p : Pondering) (w : Option InfoWord) (ts : List (List ℕ)) → run_behind (pondering_hit p) w ts ≡ run_behind p w ts
runs_hit ponderings.No w ts = refl
runs_hit p None ts = refl
runs_hit p (Some infos.Pv) ts = refl
runs_hit p (Some infos.CurrMove) ts = refl
runs_hit p (Some infos.Refutation) ts = refl
runs_hit p (Some infos.CurrLine) ts = refl
runs_hit p (Some w) ts = refl

illegal_alike : (p q : Pondering) (at : Position) (ts : List (List ℕ)) → ((w : Option InfoWord) (us : List (List ℕ)) → run_behind p w us ≡ run_behind q w us) → has_illegal_run p at ts ≡ has_illegal_run q at ts
illegal_alike p q at [] h = refl
illegal_alike p q at (t ∷ ts) h =
    ap (λ r. cond (is_text_word (info_word t)) false (cond (not (are_legal (Some at) (longest_move_run r))) true (has_illegal_run p at ts))) (h (info_word t) ts)
    ∙ ap (λ z. cond (is_text_word (info_word t)) false (cond (not (are_legal (Some at) (longest_move_run (run_behind q (info_word t) ts)))) true z)) (illegal_alike p q at ts h)

unlisted_alike : (p q : Pondering) (at : Position) (l : List Move) (ts : List (List ℕ)) → ((w : Option InfoWord) (us : List (List ℕ)) → run_behind p w us ≡ run_behind q w us) → has_unlisted_run p at l ts ≡ has_unlisted_run q at l ts
unlisted_alike p q at l [] h = refl
unlisted_alike p q at l (t ∷ ts) h =
    ap (λ r. cond (is_text_word (info_word t)) false (cond (starts_unlisted at l (longest_move_run r)) true (has_unlisted_run p at l ts))) (h (info_word t) ts)
    ∙ ap (λ z. cond (is_text_word (info_word t)) false (cond (starts_unlisted at l (longest_move_run (run_behind q (info_word t) ts))) true z)) (unlisted_alike p q at l ts h)

pv_alike : (at : Option Position) (p q : Pondering) (line : List ℕ) → ((w : Option InfoWord) (us : List (List ℕ)) → run_behind p w us ≡ run_behind q w us)
    → breaks_pv (place_by at p) engines.Info line ≡ breaks_pv (place_by at q) engines.Info line
pv_alike None p q line h = refl
pv_alike (Some at) p q line h = illegal_alike p q at (tokens (rest_after_token line)) h

listed_alike : (at : Option Position) (p q : Pondering) (l : List Move) (line : List ℕ) → ((w : Option InfoWord) (us : List (List ℕ)) → run_behind p w us ≡ run_behind q w us)
    → breaks_searchmoves (place_by at p) l engines.Info line ≡ breaks_searchmoves (place_by at q) l engines.Info line
listed_alike None p q l line h = refl
listed_alike (Some at) p q l line h = unlisted_alike p q at l (tokens (rest_after_token line)) h

-- AFTER `stop` AND `ponderhit`

-- what a change of the search that is no new one leaves
pub record Milder (f : OpenSearch → OpenSearch) (s : OpenSearch) : Type 0 where
  pub free : is_bound s ≡ false → is_bound (f s) ≡ false
  pub placed : is_bound s ≡ false → search_place (f s) ≡ search_place s
  pub shows : (line : List ℕ) → breaks_pv (search_place (f s)) engines.Info line ≡ breaks_pv (search_place s) engines.Info line
  pub listed : (l : List Move) (line : List ℕ) → breaks_searchmoves (search_place (f s)) l engines.Info line ≡ breaks_searchmoves (search_place s) l engines.Info line

stopped_free : (p : Pondering) → (is_open_pondering (stopped_in p) || false) ≡ false
stopped_free ponderings.Open = refl
stopped_free p = refl

stopped_same : (p : Pondering) → is_open_pondering p ≡ false → stopped_in p ≡ p
stopped_same ponderings.Open e = absurd (cc)
stopped_same p e = refl

pub milder_stop : (s : OpenSearch) → Milder search_stopped s
milder_stop (searches.Alone s) = record {
  free = λ e. stopped_free s.pondering;
  placed = λ e. ap (λ p. place_by s.at p) (stopped_same s.pondering (or_first (is_open_pondering s.pondering) (goes_to_stop s.end) e));
  shows = λ line. pv_alike s.at (stopped_in s.pondering) s.pondering line (runs_stopped s.pondering);
  listed = λ l line. listed_alike s.at (stopped_in s.pondering) s.pondering l line (runs_stopped s.pondering);
}
milder_stop s = record { free = λ e. e; placed = λ e. refl; shows = λ line. refl; listed = λ l line. refl }

hit_free : (p : Pondering) (e : SearchEnd) → (is_open_pondering p || goes_to_stop e) ≡ false → (is_open_pondering (pondering_hit p) || goes_to_stop e) ≡ false
hit_free ponderings.Open e h = absurd (cc)
hit_free p e h = h

hit_same : (p : Pondering) → is_open_pondering p ≡ false → pondering_hit p ≡ p
hit_same ponderings.Open e = absurd (cc)
hit_same p e = refl

pub milder_hit : (s : OpenSearch) → Milder search_hit s
milder_hit (searches.Alone s) = record {
  free = hit_free s.pondering s.end;
  placed = λ e. ap (λ p. place_by s.at p) (hit_same s.pondering (or_first (is_open_pondering s.pondering) (goes_to_stop s.end) e));
  shows = λ line. pv_alike s.at (pondering_hit s.pondering) s.pondering line (runs_hit s.pondering);
  listed = λ l line. listed_alike s.at (pondering_hit s.pondering) s.pondering l line (runs_hit s.pondering);
}
milder_hit s = record { free = λ e. e; placed = λ e. refl; shows = λ line. refl; listed = λ l line. refl }

pub milder_goes : (f : OpenSearch → OpenSearch) (s : OpenSearch) (w : EngineWord) → Milder f s → (is_best_word w && is_bound s) ≡ false → (is_best_word w && is_bound (f s)) ≡ false
milder_goes f s engines.Best m e = m.free e
milder_goes f s w m e = refl

pub milder_move : (f : OpenSearch → OpenSearch) (s : OpenSearch) (w : EngineWord) (line : List ℕ) → Milder f s → (is_best_word w && is_bound s) ≡ false → breaks_move (search_place s) w line ≡ false → breaks_move (search_place (f s)) w line ≡ false
milder_move f s engines.Best line m e h = ap (λ p. breaks_move p engines.Best line) (m.placed e) ∙ h
milder_move f s w line m e h = move_none (search_place (f s)) w line refl

pub milder_ponder : (f : OpenSearch → OpenSearch) (s : OpenSearch) (w : EngineWord) (line : List ℕ) → Milder f s → (is_best_word w && is_bound s) ≡ false → breaks_ponder (search_place s) w line ≡ false → breaks_ponder (search_place (f s)) w line ≡ false
milder_ponder f s engines.Best line m e h = ap (λ p. breaks_ponder p engines.Best line) (m.placed e) ∙ h
milder_ponder f s w line m e h = ponder_none (search_place (f s)) w line refl

pub milder_pv : (f : OpenSearch → OpenSearch) (s : OpenSearch) (w : EngineWord) (line : List ℕ) → Milder f s → breaks_pv (search_place s) w line ≡ false → breaks_pv (search_place (f s)) w line ≡ false
milder_pv f s engines.Info line m h = m.shows line ∙ h
milder_pv f s w line m h = pv_none (search_place (f s)) w line refl

pub milder_listed : (f : OpenSearch → OpenSearch) (s : OpenSearch) (l : List Move) (w : EngineWord) (line : List ℕ) → Milder f s → (is_best_word w && is_bound s) ≡ false → breaks_searchmoves (search_place s) l w line ≡ false → breaks_searchmoves (search_place (f s)) l w line ≡ false
milder_listed f s l engines.Best line m e h = ap (λ p. breaks_searchmoves p l engines.Best line) (m.placed e) ∙ h
milder_listed f s l engines.Info line m e h = m.listed l line ∙ h
milder_listed f s l w line m e h = listed_none (search_place (f s)) l w line refl refl
