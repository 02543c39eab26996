-- What is known of an engine, less or more: who knows less goes on knowing less.
use Rattle.std.proofs.Common.{◌≡◌, ◌⊎◌, inl, inr, ℕ, List, [], Bool, true, false, cond, Option, Some, None, refl, sym, ap, subst}
use Rattle.std.specs.Prelude.{◌==◌, nat_lt}
use Rattle.line_io.specs.Event as events
use Rattle.script_lines.specs.Marks.{Mark, Happens, ToEngine}
use Rattle.protocol_tokens.specs.Tokens.{tokens}
use Rattle.chess_board.specs.declared.board.Move.{Move}
use Rattle.chess_board.specs.Position.{Position}
use Rattle.uci_lines.specs.Engine.{engine_message}
use Rattle.session_judge.specs.declared.listener.Listener.{Listener}
use Rattle.session_judge.specs.declared.listener.Listener.TheVariants as listeners
use Rattle.engine_conduct.specs.declared.known.Due.{Due}
use Rattle.engine_conduct.specs.declared.orders.AskedWord.{AskedWord}
use Rattle.engine_conduct.specs.declared.orders.AskedWord.TheVariants as words
use Rattle.engine_conduct.specs.declared.orders.HeardOrder.{HeardOrder}
use Rattle.engine_conduct.specs.declared.orders.HeardOrder.TheVariants as orders
use Rattle.engine_conduct.specs.declared.orders.Castling.{Castling}
use Rattle.engine_conduct.specs.declared.orders.Castling.TheVariants as castlings
use Rattle.engine_conduct.specs.declared.orders.PlayedGame.{PlayedGame}
use Rattle.engine_conduct.specs.declared.orders.PlayedGame.TheVariants as games
use Rattle.engine_conduct.specs.declared.orders.GameChoice.{GameChoice}
use Rattle.engine_conduct.specs.declared.orders.GameChoice.TheVariants as choices
use Rattle.engine_conduct.specs.declared.search.DueSearch.{DueSearch}
use Rattle.engine_conduct.specs.declared.search.OpenSearch.{OpenSearch}
use Rattle.engine_conduct.specs.declared.search.OpenSearch.TheVariants as searches
use Rattle.engine_conduct.specs.declared.words.EngineWord.{EngineWord}
use Rattle.engine_conduct.specs.declared.words.EngineWord.TheVariants as engines
use Rattle.engine_conduct.specs.Conduct.{Conduct, after_long_by, conduct_after, heard, is_hearing, list_by, list_or}
use Rattle.engine_conduct.specs.Known.{after_choice, known_after_declared, after_heard_order, after_line, asked_boot, asked_ready, asked_search, castling_declared, fewer, search_left, told_boot, told_ready, told_search}
use Rattle.engine_conduct.specs.Orders.{declared_set, order_heard, position_placed, variant_played, variant_set}
use Rattle.engine_conduct.specs.Searches.{began_search, pondering_hit, lost_place, search_hit, search_stopped, stopped_in}
use Rattle.engine_conduct.specs.Words.{engine_word_in}

-- ONE KNOWS LESS THAN ANOTHER

abbrev pub hears : Conduct → Bool
hears c = is_hearing c.known.hearing

abbrev pub GameBelow : PlayedGame → PlayedGame → Type 0
GameBelow a b = (a ≡ games.Other) ⊎ (a ≡ b)

abbrev pub PlaceBelow : Option Position → Option Position → Type 0
PlaceBelow a b = (a ≡ None) ⊎ (a ≡ b)

pub record AloneBelow (s : DueSearch) (ls : List Move) (t : DueSearch) (lt : List Move) : Type 0 where
  pub pondering : s.pondering ≡ t.pondering
  pub end : s.end ≡ t.end
  pub at : (s.at ≡ None) ⊎ ((s.at ≡ t.at) × (ls ≡ lt))

abbrev pub SearchBelow : OpenSearch → List Move → OpenSearch → List Move → Type 0
SearchBelow searches.Mixed l t k = Unit {0}
SearchBelow searches.None l searches.None k = Unit {0}
SearchBelow (searches.Alone s) l (searches.Alone t) k = AloneBelow s l t k
SearchBelow s l t k = ⊥

pub record Below (a b : Conduct) : Type 0 where
  pub heard_so : hears b ≡ true
  pub listener : a.known.listener ≡ b.known.listener
  pub due : a.known.due ≡ b.known.due
  pub castling : a.known.castling ≡ b.known.castling
  pub game : GameBelow a.known.game b.known.game
  pub placed : PlaceBelow a.known.placed b.known.placed
  pub search : SearchBelow a.known.search a.listed b.known.search b.listed

-- Where nothing is judged nothing is known.
abbrev pub KnowsLess : Conduct → Conduct → Type 0
KnowsLess a b = hears a ≡ true → Below a b

pub search_same : (s : OpenSearch) (l : List Move) → SearchBelow s l s l
search_same searches.Mixed l = tt
search_same searches.None l = tt
search_same (searches.Alone s) l = record { pondering = refl; end = refl; at = inr (refl, refl) }

pub same_below : (a : Conduct) → KnowsLess a a
same_below a e = record {
  heard_so = e;
  listener = refl;
  due = refl;
  castling = refl;
  game = inr refl;
  placed = inr refl;
  search = search_same a.known.search a.listed;
}

-- AFTER AN ORDER

abbrev pub ordered : Conduct → ℕ → HeardOrder → List ℕ → Conduct
ordered c n o line = record {
  known = after_heard_order c.known n o line;
  listed = list_or (list_by o c.known.placed line) c.listed;
}

stopped_below : (s : OpenSearch) (l : List Move) (t : OpenSearch) (k : List Move) → SearchBelow s l t k → SearchBelow (search_stopped s) l (search_stopped t) k
stopped_below searches.Mixed l t k h = tt
stopped_below searches.None l searches.None k h = tt
stopped_below (searches.Alone s) l (searches.Alone t) k h = record { pondering = ap stopped_in h.pondering; end = refl; at = h.at }
stopped_below s l t k h = absurd h

hit_below : (s : OpenSearch) (l : List Move) (t : OpenSearch) (k : List Move) → SearchBelow s l t k → SearchBelow (search_hit s) l (search_hit t) k
hit_below searches.Mixed l t k h = tt
hit_below searches.None l searches.None k h = tt
hit_below (searches.Alone s) l (searches.Alone t) k h = record { pondering = ap pondering_hit h.pondering; end = h.end; at = h.at }
hit_below s l t k h = absurd h

lost_below : (s : OpenSearch) (l : List Move) (t : OpenSearch) (k : List Move) → SearchBelow s l t k → SearchBelow (lost_place s) l (lost_place t) k
lost_below searches.Mixed l t k h = tt
lost_below searches.None l searches.None k h = tt
lost_below (searches.Alone s) l (searches.Alone t) k h = record { pondering = h.pondering; end = h.end; at = inl refl }
lost_below s l t k h = absurd h

begun_at : (z : Bool) (p q : Option Position) (l k : List Move) (line : List ℕ) → PlaceBelow p q
    → SearchBelow (cond z (began_search p (tokens line)) searches.Mixed) (list_or (list_by (orders.Word words.Go) p line) l)
    (cond z (began_search q (tokens line)) searches.Mixed) (list_or (list_by (orders.Word words.Go) q line) k)
begun_at false p q l k line h = tt
begun_at true None q l k line h = record { pondering = refl; end = refl; at = inl refl }
begun_at true (Some p) q l k line (inl e) = absurd (cc)
begun_at true (Some p) None l k line (inr e) = absurd (cc)
begun_at true (Some p) (Some q) l k line (inr e) = record {
  pondering = refl;
  end = refl;
  at = inr (e, ap (λ (o : Option Position). list_or (list_by (orders.Word words.Go) o line) []) e);
}

begun_below : (n m : ℕ) (p q : Option Position) (l k : List Move) (line : List ℕ) → n ≡ m → PlaceBelow p q
    → SearchBelow (cond (n == 0) (began_search p (tokens line)) searches.Mixed) (list_or (list_by (orders.Word words.Go) p line) l)
    (cond (m == 0) (began_search q (tokens line)) searches.Mixed) (list_or (list_by (orders.Word words.Go) q line) k)
begun_below n m p q l k line e h =
    subst (λ (i : ℕ). SearchBelow (cond (n == 0) (began_search p (tokens line)) searches.Mixed) (list_or (list_by (orders.Word words.Go) p line) l)
    (cond (i == 0) (began_search q (tokens line)) searches.Mixed) (list_or (list_by (orders.Word words.Go) q line) k))
    e (begun_at (n == 0) p q l k line h)

placed_at : (z : Bool) (castling : Castling) (g h : PlayedGame) (line : List ℕ) → GameBelow g h
    → PlaceBelow (cond z (position_placed (variant_played castling g) line) None) (cond z (position_placed (variant_played castling h) line) None)
placed_at false castling g h line e = inl refl
placed_at true castling games.Other h line e = inl refl
placed_at true castling games.Chess games.Chess line e = inr refl
placed_at true castling games.Chess games.Other line (inl e) = absurd (cc)
placed_at true castling games.Chess games.Other line (inr e) = absurd (cc)

placed_below : (n m : ℕ) (c d : Castling) (g h : PlayedGame) (line : List ℕ) → n ≡ m → c ≡ d → GameBelow g h
    → PlaceBelow (cond (n == 0) (position_placed (variant_played c g) line) None) (cond (m == 0) (position_placed (variant_played d h) line) None)
placed_below n m c d g h line e f x =
    subst (λ (i : ℕ). PlaceBelow (cond (n == 0) (position_placed (variant_played c g) line) None) (cond (i == 0) (position_placed (variant_played d h) line) None)) e
    (subst (λ (i : Castling). PlaceBelow (cond (n == 0) (position_placed (variant_played c g) line) None) (cond (n == 0) (position_placed (variant_played i h) line) None)) f
    (placed_at (n == 0) c g h line x))

pub choice_below : (a b : Conduct) (choice : Option GameChoice) → Below a b
    → Below (record { known = after_choice a.known choice; listed = a.listed }) (record { known = after_choice b.known choice; listed = b.listed })
choice_below a b None h = record { heard_so = h.heard_so; listener = h.listener; due = h.due; castling = h.castling; game = h.game; placed = h.placed; search = h.search }
choice_below a b (Some (choices.Castling c)) h = record {
  heard_so = h.heard_so;
  listener = h.listener;
  due = h.due;
  castling = refl;
  game = h.game;
  placed = inl refl;
  search = lost_below a.known.search a.listed b.known.search b.listed h.search;
}
choice_below a b (Some choices.Declared) h = record {
  heard_so = h.heard_so;
  listener = h.listener;
  due = h.due;
  castling = ap castling_declared h.castling;
  game = h.game;
  placed = inl refl;
  search = lost_below a.known.search a.listed b.known.search b.listed h.search;
}
choice_below a b (Some (choices.Game g)) h = record {
  heard_so = h.heard_so;
  listener = h.listener;
  due = h.due;
  castling = h.castling;
  game = inr refl;
  placed = inl refl;
  search = lost_below a.known.search a.listed b.known.search b.listed h.search;
}

word_below : (a b : Conduct) (n m : ℕ) (w : AskedWord) (line : List ℕ) → Below a b → KnowsLess (ordered a n (orders.Word w) line) (ordered b m (orders.Word w) line)
word_below a b n m words.Uci line h = λ e. record { heard_so = h.heard_so; listener = h.listener; due = ap asked_boot h.due; castling = h.castling; game = h.game; placed = h.placed; search = h.search }
word_below a b n m words.IsReady line h = λ e. record { heard_so = h.heard_so; listener = h.listener; due = ap asked_ready h.due; castling = h.castling; game = h.game; placed = h.placed; search = h.search }
word_below a b n m words.SetOption line h = λ e. choice_below a b (variant_set line) h
word_below a b n m words.NewGame line h = λ e. record { heard_so = h.heard_so; listener = h.listener; due = h.due; castling = h.castling; game = h.game; placed = inl refl; search = h.search }
word_below a b n m words.Position line h = λ e. record {
  heard_so = h.heard_so;
  listener = h.listener;
  due = h.due;
  castling = h.castling;
  game = h.game;
  placed = placed_below a.known.due.answers b.known.due.answers a.known.castling b.known.castling a.known.game b.known.game line (ap (λ (d : Due). d.answers) h.due) h.castling h.game;
  search = h.search;
}
word_below a b n m words.Go line h = λ e. record {
  heard_so = h.heard_so;
  listener = h.listener;
  due = ap asked_search h.due;
  castling = h.castling;
  game = h.game;
  placed = h.placed;
  search = begun_below a.known.due.answers b.known.due.answers a.known.placed b.known.placed a.listed b.listed line (ap (λ (d : Due). d.answers) h.due) h.placed;
}
word_below a b n m words.Stop line h = λ e. record {
  heard_so = h.heard_so;
  listener = h.listener;
  due = h.due;
  castling = h.castling;
  game = h.game;
  placed = h.placed;
  search = stopped_below a.known.search a.listed b.known.search b.listed h.search;
}
word_below a b n m words.PonderHit line h = λ e. record {
  heard_so = h.heard_so;
  listener = h.listener;
  due = h.due;
  castling = h.castling;
  game = h.game;
  placed = h.placed;
  search = hit_below a.known.search a.listed b.known.search b.listed h.search;
}
word_below a b n m words.Quit line h = λ e. absurd (cc)
word_below a b n m words.Passing line h = λ e. record { heard_so = h.heard_so; listener = h.listener; due = h.due; castling = h.castling; game = h.game; placed = h.placed; search = h.search }

pub order_below : (a b : Conduct) (n m : ℕ) (o : HeardOrder) (line : List ℕ) → Below a b → KnowsLess (ordered a n o line) (ordered b m o line)
order_below a b n m (orders.Word w) line h = word_below a b n m w line h
order_below a b n m orders.Foreign line h = λ e. absurd (cc)
order_below a b n m orders.Blank line h = λ e. record { heard_so = h.heard_so; listener = h.listener; due = h.due; castling = h.castling; game = h.game; placed = h.placed; search = h.search }

-- AFTER A LINE OF THE ENGINE

abbrev pub told : Conduct → Option EngineWord → List ℕ → Conduct
told c w line = record { known = after_line c.known w line; listed = c.listed }

left_at : (z : Bool) (s : OpenSearch) (l : List Move) (t : OpenSearch) (k : List Move) → SearchBelow s l t k → SearchBelow (cond z searches.None s) l (cond z searches.None t) k
left_at true s l t k h = tt
left_at false s l t k h = h

left_below : (n m : ℕ) (s : OpenSearch) (l : List Move) (t : OpenSearch) (k : List Move) → n ≡ m → SearchBelow s l t k → SearchBelow (search_left n s) l (search_left m t) k
left_below n m s l t k e h = subst (λ (i : ℕ). SearchBelow (search_left n s) l (search_left i t) k) e (left_at (n == 0) s l t k h)

declared_at : (z : Bool) (a b : Conduct) (choice : Option GameChoice) → Below a b
    → Below (record { known = cond z (after_choice a.known choice) a.known; listed = a.listed }) (record { known = cond z (after_choice b.known choice) b.known; listed = b.listed })
declared_at true a b choice h = choice_below a b choice h
declared_at false a b choice h = record { heard_so = h.heard_so; listener = h.listener; due = h.due; castling = h.castling; game = h.game; placed = h.placed; search = h.search }

declared_below : (a b : Conduct) (choice : Option GameChoice) → Below a b
    → Below (record { known = known_after_declared a.known choice; listed = a.listed }) (record { known = known_after_declared b.known choice; listed = b.listed })
declared_below a b choice h =
    subst (λ (d : Due). Below (record { known = known_after_declared a.known choice; listed = a.listed }) (record { known = cond (nat_lt 0 d.boots) (after_choice b.known choice) b.known; listed = b.listed }))
    h.due (declared_at (nat_lt 0 a.known.due.boots) a b choice h)

pub told_below : (a b : Conduct) (w : Option EngineWord) (line : List ℕ) → Below a b → Below (told a w line) (told b w line)
told_below a b (Some engines.UciOk) line h = record { heard_so = h.heard_so; listener = h.listener; due = ap told_boot h.due; castling = h.castling; game = h.game; placed = h.placed; search = h.search }
told_below a b (Some engines.ReadyOk) line h = record { heard_so = h.heard_so; listener = h.listener; due = ap told_ready h.due; castling = h.castling; game = h.game; placed = h.placed; search = h.search }
told_below a b (Some engines.Best) line h = record {
  heard_so = h.heard_so;
  listener = h.listener;
  due = ap told_search h.due;
  castling = h.castling;
  game = h.game;
  placed = h.placed;
  search = left_below (fewer a.known.due.answers) (fewer b.known.due.answers) a.known.search a.listed b.known.search b.listed (ap (λ (d : Due). fewer d.answers) h.due) h.search;
}
told_below a b (Some engines.Option) line h = declared_below a b (declared_set (engine_message line)) h
told_below a b w line h = record { heard_so = h.heard_so; listener = h.listener; due = h.due; castling = h.castling; game = h.game; placed = h.placed; search = h.search }

-- AFTER A MARK

long_below : (a b : Conduct) (n m : ℕ) (x y : Listener) → x ≡ y → Below a b
    → KnowsLess (record { known = after_long_by x a.known n; listed = a.listed }) (record { known = after_long_by y b.known m; listed = b.listed })
long_below a b n m listeners.Tap y e h = λ i. absurd (cc)
long_below a b n m listeners.Bridge listeners.Tap e h = λ i. absurd (cc)
long_below a b n m listeners.Bridge listeners.Bridge e h = λ i. record { heard_so = h.heard_so; listener = h.listener; due = h.due; castling = h.castling; game = h.game; placed = h.placed; search = h.search }

heard_below : (a b : Conduct) (n m : ℕ) (mark : Mark) → Below a b → KnowsLess (heard a.known a.listed n mark) (heard b.known b.listed m mark)
heard_below a b n m (ToEngine line) h = order_below a b n m (order_heard line) line h
heard_below a b n m (Happens (events.Engine line)) h = λ e. told_below a b (engine_word_in line) line h
heard_below a b n m (Happens events.IfaceLong) h = long_below a b n m a.known.listener b.known.listener h.listener h
heard_below a b n m (Happens events.EngineEnd) h = λ e. absurd (cc)
heard_below a b n m (Happens events.EngineLost) h = λ e. absurd (cc)
heard_below a b n m (Happens events.IfaceEnd) h = λ e. absurd (cc)
heard_below a b n m (Happens events.IfaceLost) h = λ e. absurd (cc)
heard_below a b n m mark h = λ e. record { heard_so = h.heard_so; listener = h.listener; due = h.due; castling = h.castling; game = h.game; placed = h.placed; search = h.search }

pub heard_when : (c : Conduct) (n : ℕ) (mark : Mark) → hears c ≡ true → conduct_after c n mark ≡ heard c.known c.listed n mark
heard_when c n mark e = ap (λ b. cond b (heard c.known c.listed n mark) c) e

pub deaf_when : (c : Conduct) (n : ℕ) (mark : Mark) → hears c ≡ false → conduct_after c n mark ≡ c
deaf_when c n mark e = ap (λ b. cond b (heard c.known c.listed n mark) c) e

-- Who knows less knows less after each mark too.
pub mark_below : (a b : Conduct) (n m : ℕ) (mark : Mark) → KnowsLess a b → KnowsLess (conduct_after a n mark) (conduct_after b m mark)
mark_below a b n m mark k = by (hears a) refl where
  by : (z : Bool) → hears a ≡ z → KnowsLess (conduct_after a n mark) (conduct_after b m mark)
  by false e = λ i. let x = ap hears (sym (deaf_when a n mark e)) in absurd (cc)
  by true e =
      subst (λ (c : Conduct). KnowsLess (conduct_after a n mark) c) (sym (heard_when b m mark (k e).heard_so))
      (subst (λ (c : Conduct). KnowsLess c (heard b.known b.listed m mark)) (sym (heard_when a n mark e)) (heard_below a b n m mark (k e)))
