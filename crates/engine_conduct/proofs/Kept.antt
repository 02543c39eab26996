-- A line that keeps to UCI keeps to it also if an order was read before it.
use Rattle.std.proofs.Common.{◌≡◌, ℕ, List, Bool, true, false, cond, ◌&&◌, ◌||◌, Option, Some, None, refl, ap, ◌∙◌}
use Rattle.std.specs.Prelude.{◌==◌, codes}
use Rattle.protocol_tokens.specs.Tokens.{rest_after_token, tokens}
use Rattle.chess_board.specs.Position.{Position}
use Rattle.uci_lines.specs.Engine.{engine_message}
use Rattle.engine_conduct.specs.declared.known.Due.{Due}
use Rattle.engine_conduct.specs.declared.orders.AskedWord.{AskedWord}
use Rattle.engine_conduct.specs.declared.orders.AskedWord.TheVariants as words
use Rattle.engine_conduct.specs.declared.orders.HeardOrder.{HeardOrder}
use Rattle.engine_conduct.specs.declared.orders.HeardOrder.TheVariants as orders
use Rattle.engine_conduct.specs.declared.orders.GameChoice.{GameChoice}
use Rattle.engine_conduct.specs.declared.orders.GameChoice.TheVariants as choices
use Rattle.engine_conduct.specs.declared.search.Pondering.{Pondering}
use Rattle.engine_conduct.specs.declared.search.OpenSearch.{OpenSearch}
use Rattle.engine_conduct.specs.declared.search.OpenSearch.TheVariants as searches
use Rattle.engine_conduct.specs.declared.words.EngineWord.{EngineWord}
use Rattle.engine_conduct.specs.declared.words.EngineWord.TheVariants as engines
use Rattle.engine_conduct.specs.Broken.{breaks_declared, breaks_late, breaks_move, breaks_ponder, breaks_pv, breaks_searchmoves, breaks_unasked, is_best_word, tells_thinking}
use Rattle.engine_conduct.specs.Conduct.{Conduct}
use Rattle.engine_conduct.specs.Defaults.{behind_kind, breaks_default}
use Rattle.engine_conduct.specs.Innocent.{KeepsUci}
use Rattle.engine_conduct.specs.Known.{after_choice, asked_boot, asked_ready, asked_search}
use Rattle.engine_conduct.specs.Orders.{variant_set}
use Rattle.engine_conduct.specs.Searches.{began_search, is_bound, lost_place, search_hit, search_place, search_stopped}
use Rattle.engine_conduct.specs.Words.{behind_word}
use Rattle.engine_conduct.proofs.Below.{ordered}
use Rattle.engine_conduct.proofs.Milder.{Milder, milder_goes, milder_hit, milder_listed, milder_move, milder_ponder, milder_pv, milder_stop}
use Rattle.engine_conduct.proofs.OtherWords.{listed_none, more_some, move_none, ponder_none, pv_none}
use Rattle.engine_conduct.proofs.Thinking.{go_listed, go_pv}

-- AFTER A CHOICE OF THE GAME

lost_bound : (s : OpenSearch) → is_bound (lost_place s) ≡ is_bound s
lost_bound (searches.Alone s) = refl
lost_bound s = refl

pub lost_none : (s : OpenSearch) → search_place (lost_place s) ≡ None
lost_none (searches.Alone s) = refl
lost_none s = refl

abbrev pub chose : Conduct → Option GameChoice → Conduct
chose c choice = record { known = after_choice c.known choice; listed = c.listed }

lose : (c d : Conduct) (w : EngineWord) (line : List ℕ) → d.known.due ≡ c.known.due → d.known.search ≡ lost_place c.known.search → KeepsUci c w line → KeepsUci d w line
lose c d w line e f h = record {
  is_formed = h.is_formed;
  is_asked = ap (λ (u : Due). breaks_unasked u w) e ∙ h.is_asked;
  is_searching = ap (λ (u : Due). breaks_late u w line) e ∙ h.is_searching;
  declares = ap (λ (u : Due). breaks_declared u w line) e ∙ h.declares;
  goes_on = ap (λ (s : OpenSearch). is_best_word w && is_bound s) f ∙ ap (λ (z : Bool). is_best_word w && z) (lost_bound c.known.search) ∙ h.goes_on;
  is_legal = ap (λ (s : OpenSearch). breaks_move (search_place s) w line) f ∙ ap (λ (p : Option (Position × Pondering)). breaks_move p w line) (lost_none c.known.search);
  shows_legal = ap (λ (s : OpenSearch). breaks_pv (search_place s) w line) f ∙ ap (λ (p : Option (Position × Pondering)). breaks_pv p w line) (lost_none c.known.search);
  is_allowed = ap (λ (s : OpenSearch). breaks_searchmoves (search_place s) d.listed w line) f ∙ ap (λ (p : Option (Position × Pondering)). breaks_searchmoves p d.listed w line) (lost_none c.known.search);
  hints_legal = ap (λ (s : OpenSearch). breaks_ponder (search_place s) w line) f ∙ ap (λ (p : Option (Position × Pondering)). breaks_ponder p w line) (lost_none c.known.search);
}

pub kept_choice : (c : Conduct) (choice : Option GameChoice) (w : EngineWord) (line : List ℕ) → KeepsUci c w line → KeepsUci (chose c choice) w line
kept_choice c None w line h = h
kept_choice c (Some (choices.Castling y)) w line h = lose c (chose c (Some (choices.Castling y))) w line refl refl h
kept_choice c (Some choices.Declared) w line h = lose c (chose c (Some choices.Declared)) w line refl refl h
kept_choice c (Some (choices.Game y)) w line h = lose c (chose c (Some (choices.Game y))) w line refl refl h

-- WHERE MORE IS DUE

record More (d e : Due) : Type 0 where
  boots : (d.boots == 0) ≡ false → (e.boots == 0) ≡ false
  readies : (d.readies == 0) ≡ false → (e.readies == 0) ≡ false
  answers : (d.answers == 0) ≡ false → (e.answers == 0) ≡ false

more_asked : (d e : Due) (w : EngineWord) → More d e → breaks_unasked d w ≡ false → breaks_unasked e w ≡ false
more_asked d e engines.UciOk m h = m.boots h
more_asked d e engines.ReadyOk m h = m.readies h
more_asked d e engines.Best m h = m.answers h
more_asked d e w m h = refl

and_more : (x y t : Bool) → (x ≡ false → y ≡ false) → (x && t) ≡ false → (y && t) ≡ false
and_more true true t f h = h
and_more true false t f h = refl
and_more false y t f h = ap (λ z. z && t) (f refl)

or_more : (x y t : Bool) → (x ≡ false → y ≡ false) → (x || t) ≡ false → (y || t) ≡ false
or_more true y t f h = absurd (cc)
or_more false y t f h = ap (λ z. z || t) (f refl) ∙ h

more_late : (d e : Due) (w : EngineWord) (line : List ℕ) → More d e → breaks_late d w line ≡ false → breaks_late e w line ≡ false
more_late d e engines.Info line m h = and_more (d.answers == 0) (e.answers == 0) (tells_thinking (tokens (rest_after_token line))) m.answers h
more_late d e w line m h = refl

more_declared : (d e : Due) (w : EngineWord) (line : List ℕ) → More d e → breaks_declared d w line ≡ false → breaks_declared e w line ≡ false
more_declared d e engines.Option line m h = or_more (d.boots == 0) (e.boots == 0) (breaks_default (engine_message line) (behind_kind (behind_word (codes "type") (tokens (rest_after_token line))))) m.boots h
more_declared d e w line m h = refl

more_boots : (d : Due) → More d (asked_boot d)
more_boots d = record { boots = λ e. more_some d.boots; readies = λ e. e; answers = λ e. e }

more_readies : (d : Due) → More d (asked_ready d)
more_readies d = record { boots = λ e. e; readies = λ e. more_some d.readies; answers = λ e. e }

more_answers : (d : Due) → More d (asked_search d)
more_answers d = record { boots = λ e. e; readies = λ e. e; answers = λ e. more_some d.answers }

-- AFTER AN ORDER

kept_go : (c : Conduct) (text : List ℕ) (w : EngineWord) (line : List ℕ) → KeepsUci c w line → KeepsUci (ordered c 0 (orders.Word words.Go) text) w line
kept_go c text engines.Best line h =
    let s = began_search c.known.placed (tokens text) in
    let l = (ordered c 0 (orders.Word words.Go) text).listed in
    record {
      is_formed = h.is_formed;
      is_asked = more_some c.known.due.answers;
      is_searching = refl;
      declares = refl;
      goes_on = ap (λ (z : Bool). is_bound (cond z s searches.Mixed)) h.is_asked;
      is_legal = ap (λ (z : Bool). breaks_move (search_place (cond z s searches.Mixed)) engines.Best line) h.is_asked;
      shows_legal = pv_none _ engines.Best line refl;
      is_allowed = ap (λ (z : Bool). breaks_searchmoves (search_place (cond z s searches.Mixed)) l engines.Best line) h.is_asked;
      hints_legal = ap (λ (z : Bool). breaks_ponder (search_place (cond z s searches.Mixed)) engines.Best line) h.is_asked;
    }
kept_go c text engines.Info line h =
    let s = began_search c.known.placed (tokens text) in
    let l = (ordered c 0 (orders.Word words.Go) text).listed in
    record {
      is_formed = h.is_formed;
      is_asked = refl;
      is_searching = more_late c.known.due (asked_search c.known.due) engines.Info line (more_answers c.known.due) h.is_searching;
      declares = refl;
      goes_on = refl;
      is_legal = move_none _ engines.Info line refl;
      shows_legal = go_pv (c.known.due.answers == 0) s line h.is_searching;
      is_allowed = go_listed (c.known.due.answers == 0) s l line h.is_searching;
      hints_legal = ponder_none _ engines.Info line refl;
    }
kept_go c text w line h = record {
  is_formed = h.is_formed;
  is_asked = more_asked c.known.due (asked_search c.known.due) w (more_answers c.known.due) h.is_asked;
  is_searching = refl;
  declares = more_declared c.known.due (asked_search c.known.due) w line (more_answers c.known.due) h.declares;
  goes_on = refl;
  is_legal = move_none _ w line refl;
  shows_legal = pv_none _ w line refl;
  is_allowed = listed_none _ _ w line refl refl;
  hints_legal = ponder_none _ w line refl;
}

kept_milder : (c : Conduct) (f : OpenSearch → OpenSearch) (w : EngineWord) (line : List ℕ) → Milder f c.known.search → KeepsUci c w line
    → KeepsUci (record { known = record (c.known) { search = f c.known.search }; listed = c.listed }) w line
kept_milder c f w line m h = record {
  is_formed = h.is_formed;
  is_asked = h.is_asked;
  is_searching = h.is_searching;
  declares = h.declares;
  goes_on = milder_goes f c.known.search w m h.goes_on;
  is_legal = milder_move f c.known.search w line m h.goes_on h.is_legal;
  shows_legal = milder_pv f c.known.search w line m h.shows_legal;
  is_allowed = milder_listed f c.known.search c.listed w line m h.goes_on h.is_allowed;
  hints_legal = milder_ponder f c.known.search w line m h.goes_on h.hints_legal;
}

kept_due : (c : Conduct) (d : Due) (w : EngineWord) (line : List ℕ) → More c.known.due d → KeepsUci c w line
    → KeepsUci (record { known = record (c.known) { due = d }; listed = c.listed }) w line
kept_due c d w line m h = record {
  is_formed = h.is_formed;
  is_asked = more_asked c.known.due d w m h.is_asked;
  is_searching = more_late c.known.due d w line m h.is_searching;
  declares = more_declared c.known.due d w line m h.declares;
  goes_on = h.goes_on;
  is_legal = h.is_legal;
  shows_legal = h.shows_legal;
  is_allowed = h.is_allowed;
  hints_legal = h.hints_legal;
}

kept_word : (c : Conduct) (o : AskedWord) (text : List ℕ) (w : EngineWord) (line : List ℕ) → KeepsUci c w line → KeepsUci (ordered c 0 (orders.Word o) text) w line
kept_word c words.Uci text w line h = kept_due c (asked_boot c.known.due) w line (more_boots c.known.due) h
kept_word c words.IsReady text w line h = kept_due c (asked_ready c.known.due) w line (more_readies c.known.due) h
kept_word c words.SetOption text w line h = kept_choice c (variant_set text) w line h
kept_word c words.Go text w line h = kept_go c text w line h
kept_word c words.Stop text w line h = kept_milder c search_stopped w line (milder_stop c.known.search) h
kept_word c words.PonderHit text w line h = kept_milder c search_hit w line (milder_hit c.known.search) h
kept_word c o text w line h = record { is_formed = h.is_formed; is_asked = h.is_asked; is_searching = h.is_searching; declares = h.declares; goes_on = h.goes_on; is_legal = h.is_legal; shows_legal = h.shows_legal; is_allowed = h.is_allowed; hints_legal = h.hints_legal }

pub kept_order : (c : Conduct) (o : HeardOrder) (text : List ℕ) (w : EngineWord) (line : List ℕ) → KeepsUci c w line → KeepsUci (ordered c 0 o text) w line
kept_order c (orders.Word o) text w line h = kept_word c o text w line h
kept_order c o text w line h = record { is_formed = h.is_formed; is_asked = h.is_asked; is_searching = h.is_searching; declares = h.declares; goes_on = h.goes_on; is_legal = h.is_legal; shows_legal = h.shows_legal; is_allowed = h.is_allowed; hints_legal = h.hints_legal }
