-- No innocent engine is blamed.
use Rattle.std.proofs.Common.{◌≡◌, ◌⊎◌, inl, inr, ℕ, zero, suc, ◌+◌, ◌≤◌, ◌<◌, List, [], ◌∷◌, ◌++◌, length, Bool, true, false, cond, ◌&&◌, Option, Some, None, refl, sym, ap, subst, ◌∙◌, arith, ltb-false}
use Rattle.std.specs.Prelude.{nat_lt}
use Rattle.line_io.specs.Event as events
use Rattle.script_lines.specs.Marks.{Mark, Happens, ToEngine}
use Rattle.chess_board.specs.declared.board.Move.{Move}
use Rattle.chess_board.specs.Position.{Position}
use Rattle.uci_lines.specs.Engine.{engine_message}
use Rattle.session_judge.specs.Clean.{Entry}
use Rattle.session_judge.specs.declared.listener.Listener.{Listener}
use Rattle.session_judge.specs.declared.listener.Listener.TheVariants as listeners
use Rattle.engine_conduct.specs.declared.known.Due.{Due}
use Rattle.engine_conduct.specs.declared.known.Known.{Known}
use Rattle.engine_conduct.specs.declared.orders.AskedWord.TheVariants as words
use Rattle.engine_conduct.specs.declared.orders.HeardOrder.{HeardOrder}
use Rattle.engine_conduct.specs.declared.orders.HeardOrder.TheVariants as orders
use Rattle.engine_conduct.specs.declared.orders.GameChoice.{GameChoice}
use Rattle.engine_conduct.specs.declared.orders.GameChoice.TheVariants as choices
use Rattle.engine_conduct.specs.declared.rule.ConductRule.{ConductRule}
use Rattle.engine_conduct.specs.declared.rule.ConductRule.TheVariants as rules
use Rattle.engine_conduct.specs.declared.search.Pondering.{Pondering}
use Rattle.engine_conduct.specs.declared.search.OpenSearch.{OpenSearch}
use Rattle.engine_conduct.specs.declared.search.OpenSearch.TheVariants as searches
use Rattle.engine_conduct.specs.declared.words.EngineWord.{EngineWord}
use Rattle.engine_conduct.specs.declared.words.EngineWord.TheVariants as engines
use Rattle.engine_conduct.specs.Broken.{breaks_declared, breaks_late, breaks_move, breaks_ponder, breaks_pv, breaks_searchmoves, breaks_unasked, is_best_word, line_breaks}
use Rattle.engine_conduct.specs.Conduct.{Conduct, after_long_by, broken_by_mark, conduct, conduct_after, first_broken, heard, line_broken}
use Rattle.engine_conduct.specs.Innocent.{HeardSoonerTimes, IsFaultless, IsOrderHeardSooner, IsInnocent, Keeps, KeepsUci, LineKeeps, MarkKeeps, NoInnocentIsBlamed, is_read, is_said, lived, log_marks}
use Rattle.engine_conduct.specs.Known.{after_choice, after_heard_order, after_line, more, fewer}
use Rattle.engine_conduct.specs.Orders.{declared_set, order_heard, variant_set}
use Rattle.engine_conduct.specs.Searches.{is_bound, place_by, search_place}
use Rattle.engine_conduct.specs.Words.{engine_word_in}
use Rattle.engine_conduct.proofs.Below.{Below, KnowsLess, SearchBelow, deaf_when, heard_when, hears, mark_below, same_below}
use Rattle.engine_conduct.proofs.Answered.{InRange}
use Rattle.engine_conduct.proofs.Swaps.{swaps_all}

-- WHO KNOWS LESS BLAMES LESS

bound_below : (s : OpenSearch) (l : List Move) (t : OpenSearch) (k : List Move) → SearchBelow s l t k → is_bound t ≡ false → is_bound s ≡ false
bound_below searches.Mixed l t k h e = refl
bound_below searches.None l searches.None k h e = refl
bound_below (searches.Alone s) l (searches.Alone t) k h e =
    ap (λ (p : Pondering). is_bound (searches.Alone (record { at = s.at; pondering = p; end = s.end }))) h.pondering
    ∙ ap (λ x. is_bound (searches.Alone (record { at = s.at; pondering = t.pondering; end = x }))) h.end ∙ e
bound_below s l t k h e = absurd h

goes_below : (z x y : Bool) → (y ≡ false → x ≡ false) → (z && y) ≡ false → (z && x) ≡ false
goes_below true x y f h = f h
goes_below false x y f h = refl

abbrev PlaceLess : Option (Position × Pondering) → List Move → Option (Position × Pondering) → List Move → Type 0
PlaceLess p l q k = (p ≡ None) ⊎ ((p ≡ q) × (l ≡ k))

place_below : (s : OpenSearch) (l : List Move) (t : OpenSearch) (k : List Move) → SearchBelow s l t k → PlaceLess (search_place s) l (search_place t) k
place_below searches.Mixed l t k h = inl refl
place_below searches.None l searches.None k h = inl refl
place_below (searches.Alone s) l (searches.Alone t) k h = by h.at where
  by : ((s.at ≡ None) ⊎ ((s.at ≡ t.at) × (l ≡ k))) → PlaceLess (place_by s.at s.pondering) l (place_by t.at t.pondering) k
  by (inl e) = inl (ap (λ (o : Option Position). place_by o s.pondering) e)
  by (inr e) = inr (ap (λ (o : Option Position). place_by o s.pondering) e.0 ∙ ap (λ (p : Pondering). place_by t.at p) h.pondering, e.1)
place_below s l t k h = absurd h

move_less : (p : Option (Position × Pondering)) (l : List Move) (q : Option (Position × Pondering)) (k : List Move) (w : EngineWord) (line : List ℕ) → PlaceLess p l q k → breaks_move q w line ≡ false → breaks_move p w line ≡ false
move_less p l q k w line (inl e) h = ap (λ (o : Option (Position × Pondering)). breaks_move o w line) e
move_less p l q k w line (inr e) h = ap (λ (o : Option (Position × Pondering)). breaks_move o w line) e.0 ∙ h

pv_less : (p : Option (Position × Pondering)) (l : List Move) (q : Option (Position × Pondering)) (k : List Move) (w : EngineWord) (line : List ℕ) → PlaceLess p l q k → breaks_pv q w line ≡ false → breaks_pv p w line ≡ false
pv_less p l q k w line (inl e) h = ap (λ (o : Option (Position × Pondering)). breaks_pv o w line) e
pv_less p l q k w line (inr e) h = ap (λ (o : Option (Position × Pondering)). breaks_pv o w line) e.0 ∙ h

listed_less : (p : Option (Position × Pondering)) (l : List Move) (q : Option (Position × Pondering)) (k : List Move) (w : EngineWord) (line : List ℕ) → PlaceLess p l q k → breaks_searchmoves q k w line ≡ false → breaks_searchmoves p l w line ≡ false
listed_less p l q k w line (inl e) h = ap (λ (o : Option (Position × Pondering)). breaks_searchmoves o l w line) e
listed_less p l q k w line (inr e) h = ap (λ (o : Option (Position × Pondering)). breaks_searchmoves o l w line) e.0 ∙ ap (λ (m : List Move). breaks_searchmoves q m w line) e.1 ∙ h

ponder_less : (p : Option (Position × Pondering)) (l : List Move) (q : Option (Position × Pondering)) (k : List Move) (w : EngineWord) (line : List ℕ) → PlaceLess p l q k → breaks_ponder q w line ≡ false → breaks_ponder p w line ≡ false
ponder_less p l q k w line (inl e) h = ap (λ (o : Option (Position × Pondering)). breaks_ponder o w line) e
ponder_less p l q k w line (inr e) h = ap (λ (o : Option (Position × Pondering)). breaks_ponder o w line) e.0 ∙ h

word_less : (a b : Conduct) (w : EngineWord) (line : List ℕ) → Below a b → KeepsUci b w line → KeepsUci a w line
word_less a b w line h k =
    let p = place_below a.known.search a.listed b.known.search b.listed h.search in
    record {
      is_formed = k.is_formed;
      is_asked = ap (λ (d : Due). breaks_unasked d w) h.due ∙ k.is_asked;
      is_searching = ap (λ (d : Due). breaks_late d w line) h.due ∙ k.is_searching;
      declares = ap (λ (d : Due). breaks_declared d w line) h.due ∙ k.declares;
      goes_on = goes_below (is_best_word w) (is_bound a.known.search) (is_bound b.known.search) (bound_below a.known.search a.listed b.known.search b.listed h.search) k.goes_on;
      is_legal = move_less (search_place a.known.search) a.listed (search_place b.known.search) b.listed w line p k.is_legal;
      shows_legal = pv_less (search_place a.known.search) a.listed (search_place b.known.search) b.listed w line p k.shows_legal;
      is_allowed = listed_less (search_place a.known.search) a.listed (search_place b.known.search) b.listed w line p k.is_allowed;
      hints_legal = ponder_less (search_place a.known.search) a.listed (search_place b.known.search) b.listed w line p k.hints_legal;
    }

line_less : (a b : Conduct) (w : Option EngineWord) (line : List ℕ) → Below a b → LineKeeps b w line → LineKeeps a w line
line_less a b None line h k = tt
line_less a b (Some w) line h k = word_less a b w line h k

mark_less : (a b : Conduct) (mark : Mark) → Below a b → MarkKeeps b mark → MarkKeeps a mark
mark_less a b (Happens (events.Engine line)) h k = line_less a b (engine_word_in line) line h k
mark_less a b (Happens events.EngineEnd) h k = k
mark_less a b (Happens events.EngineLost) h k = k
mark_less a b mark h k = tt

keeps_less : (a b : Conduct) (mark : Mark) → KnowsLess a b → Keeps b mark → Keeps a mark
keeps_less a b mark l k = λ e. mark_less a b mark (l e) (k (l e).heard_so)

-- WHAT KEEPS TO UCI IS NOT BLAMED

unless : (b : Bool) (rule : ConductRule) (rest : Option ConductRule) → b ≡ false → rest ≡ None → cond b (Some rule) rest ≡ None
unless true rule rest e h = absurd (cc)
unless false rule rest e h = h

word_unbroken : (c : Conduct) (w : EngineWord) (line : List ℕ) → KeepsUci c w line → line_breaks c.known c.listed w line ≡ None
word_unbroken c w line k =
    unless _ rules.Form _ k.is_formed
    (unless _ rules.Unasked _ k.is_asked
    (unless _ rules.Late _ k.is_searching
    (unless _ rules.Declared _ k.declares
    (unless _ rules.Infinite _ k.goes_on
    (unless _ rules.Best _ k.is_legal
    (unless _ rules.Pv _ k.shows_legal
    (unless _ rules.SearchMoves _ k.is_allowed
    (unless _ rules.Ponder None k.hints_legal refl))))))))

line_unbroken : (c : Conduct) (w : Option EngineWord) (line : List ℕ) → LineKeeps c w line → line_broken c.known c.listed w line ≡ None
line_unbroken c None line k = refl
line_unbroken c (Some w) line k = word_unbroken c w line k

mark_unbroken : (c : Conduct) (mark : Mark) → MarkKeeps c mark → broken_by_mark c.known c.listed mark ≡ None
mark_unbroken c (Happens (events.Engine line)) k = line_unbroken c (engine_word_in line) line k
mark_unbroken c (Happens events.EngineEnd) k = absurd k
mark_unbroken c (Happens events.EngineLost) k = absurd k
mark_unbroken c mark k = refl

unbroken : (c : Conduct) (mark : Mark) → Keeps c mark → first_broken c mark ≡ None
unbroken c mark k = by (hears c) refl where
  by : (z : Bool) → hears c ≡ z → first_broken c mark ≡ None
  by true e = ap (λ (z : Bool). cond z (broken_by_mark c.known c.listed mark) None) e ∙ mark_unbroken c mark (k e)
  by false e = ap (λ (z : Bool). cond z (broken_by_mark c.known c.listed mark) None) e

-- COUNTS

record Counts (d : Due) (n : ℕ) : Type 0 where
  boots : d.boots ≤ n
  readies : d.readies ≤ n
  answers : d.answers ≤ n

more_within : (m n : ℕ) → m ≤ n → more m ≤ suc n
more_within m n h = by (nat_lt m 18446744073709551615) refl where
  by : (z : Bool) → nat_lt m 18446744073709551615 ≡ z → cond z (m + 1) 18446744073709551615 ≤ suc n
  by true e = omega (arith, h)
  by false e = omega (arith, h, ltb-false m 18446744073709551615 e)

fewer_within : (m n : ℕ) → m ≤ n → fewer m ≤ suc n
fewer_within m n h = omega (arith, h)

later : (d : Due) (n : ℕ) → Counts d n → Counts d (suc n)
later d n c = record { boots = omega (arith, c.boots); readies = omega (arith, c.readies); answers = omega (arith, c.answers) }

choice_counts : (k : Known) (x : Option GameChoice) (n : ℕ) → Counts k.due n → Counts (after_choice k x).due n
choice_counts k None n c = c
choice_counts k (Some (choices.Castling y)) n c = c
choice_counts k (Some choices.Declared) n c = c
choice_counts k (Some (choices.Game y)) n c = c

order_counts : (k : Known) (o : HeardOrder) (text : List ℕ) (n : ℕ) → Counts k.due n → Counts (after_heard_order k 0 o text).due (suc n)
order_counts k (orders.Word words.Uci) text n c = let l = later k.due n c in record { boots = more_within k.due.boots n c.boots; readies = l.readies; answers = l.answers }
order_counts k (orders.Word words.IsReady) text n c = let l = later k.due n c in record { boots = l.boots; readies = more_within k.due.readies n c.readies; answers = l.answers }
order_counts k (orders.Word words.Go) text n c = let l = later k.due n c in record { boots = l.boots; readies = l.readies; answers = more_within k.due.answers n c.answers }
order_counts k (orders.Word words.SetOption) text n c = choice_counts k (variant_set text) (suc n) (later k.due n c)
order_counts k (orders.Word w) text n c = later k.due n c
order_counts k o text n c = later k.due n c

declared_counts : (z : Bool) (k : Known) (x : Option GameChoice) (n : ℕ) → Counts k.due n → Counts (cond z (after_choice k x) k).due n
declared_counts true k x n c = choice_counts k x n c
declared_counts false k x n c = c

line_counts : (k : Known) (w : Option EngineWord) (line : List ℕ) (n : ℕ) → Counts k.due n → Counts (after_line k w line).due (suc n)
line_counts k (Some engines.UciOk) line n c = let l = later k.due n c in record { boots = fewer_within k.due.boots n c.boots; readies = l.readies; answers = l.answers }
line_counts k (Some engines.ReadyOk) line n c = let l = later k.due n c in record { boots = l.boots; readies = fewer_within k.due.readies n c.readies; answers = l.answers }
line_counts k (Some engines.Best) line n c = let l = later k.due n c in record { boots = l.boots; readies = l.readies; answers = fewer_within k.due.answers n c.answers }
line_counts k (Some engines.Option) line n c = declared_counts (nat_lt 0 k.due.boots) k (declared_set (engine_message line)) (suc n) (later k.due n c)
line_counts k w line n c = later k.due n c

long_counts : (l : Listener) (k : Known) (n : ℕ) → Counts k.due n → Counts (after_long_by l k 0).due (suc n)
long_counts listeners.Tap k n c = later k.due n c
long_counts listeners.Bridge k n c = later k.due n c

heard_counts : (c : Conduct) (mark : Mark) (n : ℕ) → Counts c.known.due n → Counts (heard c.known c.listed 0 mark).known.due (suc n)
heard_counts c (ToEngine text) n k = order_counts c.known (order_heard text) text n k
heard_counts c (Happens (events.Engine line)) n k = line_counts c.known (engine_word_in line) line n k
heard_counts c (Happens events.IfaceLong) n k = long_counts c.known.listener c.known n k
heard_counts c (Happens events.EngineLong) n k = later c.known.due n k
heard_counts c (Happens events.EngineEnd) n k = later c.known.due n k
heard_counts c (Happens events.EngineLost) n k = later c.known.due n k
heard_counts c (Happens events.IfaceEnd) n k = later c.known.due n k
heard_counts c (Happens events.IfaceLost) n k = later c.known.due n k
heard_counts c mark n k = later c.known.due n k

mark_counts : (c : Conduct) (mark : Mark) (n : ℕ) → Counts c.known.due n → Counts (conduct_after c 0 mark).known.due (suc n)
mark_counts c mark n k = by (hears c) refl where
  by : (z : Bool) → hears c ≡ z → Counts (conduct_after c 0 mark).known.due (suc n)
  by true e = subst (λ (d : Conduct). Counts d.known.due (suc n)) (sym (heard_when c 0 mark e)) (heard_counts c mark n k)
  by false e = subst (λ (d : Conduct). Counts d.known.due (suc n)) (sym (deaf_when c 0 mark e)) (later c.known.due n k)

lived_counts : (listener : Listener) (life : List Mark) → Counts (lived listener life).known.due (length life)
lived_counts listener [] = record { boots = omega arith; readies = omega arith; answers = omega arith }
lived_counts listener (mark ∷ life) = mark_counts (lived listener life) mark (length life) (lived_counts listener life)

in_range : (d : Due) (n : ℕ) → n < 18446744073709551615 → Counts d n → InRange d
in_range d n h c = record { boots = omega (arith, h, c.boots); readies = omega (arith, h, c.readies); answers = omega (arith, h, c.answers) }

-- ONE ORDER SOONER

order_keeps : (c : Conduct) (order : Mark) → is_read order ≡ true → Keeps c order
order_keeps c (ToEngine text) o = λ e. tt
order_keeps c (Happens events.IfaceLong) o = λ e. tt
order_keeps c (Happens events.IfaceEnd) o = λ e. tt
order_keeps c (Happens events.IfaceLost) o = λ e. tt
order_keeps c order o = absurd (cc)

innocent_before : (listener : Listener) (behind before : List Mark) → IsInnocent listener (behind ++ before) → IsInnocent listener before
innocent_before listener [] before i = i
innocent_before listener (mark ∷ behind) before i = innocent_before listener behind before i.0

-- an innocent life behind it stays one
record Goes (listener : Listener) (life heard : List Mark) : Type 0 where
  innocent : IsInnocent listener heard
  less : KnowsLess (lived listener heard) (lived listener life)

goes_behind : (listener : Listener) (behind x y : List Mark) → IsInnocent listener (behind ++ x) → Goes listener x y → Goes listener (behind ++ x) (behind ++ y)
goes_behind listener [] x y i g = g
goes_behind listener (mark ∷ behind) x y i g =
    let r = goes_behind listener behind x y i.0 g in
    record {
      innocent = (r.innocent, keeps_less (lived listener (behind ++ y)) (lived listener (behind ++ x)) mark r.less i.1);
      less = mark_below (lived listener (behind ++ y)) (lived listener (behind ++ x)) 0 0 mark r.less;
    }

length_behind : (behind x : List Mark) → length x ≤ length (behind ++ x)
length_behind [] x = omega arith
length_behind (mark ∷ behind) x = omega (arith, length_behind behind x)

length_swapped : (behind : List Mark) (a b : Mark) (before : List Mark) → length (behind ++ a ∷ b ∷ before) ≡ length (behind ++ b ∷ a ∷ before)
length_swapped [] a b before = refl
length_swapped (mark ∷ behind) a b before = ap suc (length_swapped behind a b before)

once_at : (listener : Listener) (behind before : List Mark) (order said : Mark) → IsInnocent listener (behind ++ order ∷ said ∷ before) → length (behind ++ order ∷ said ∷ before) < 18446744073709551615
    → is_read order ≡ true → is_said said ≡ true → IsInnocent listener (behind ++ said ∷ order ∷ before)
once_at listener behind before order said i h o s =
    let c = lived listener before in
    let here = innocent_before listener behind (order ∷ said ∷ before) i in
    let w = swaps_all c order said o s here.0.1 (in_range c.known.due (length before) (omega (arith, h, length_behind behind (order ∷ said ∷ before))) (lived_counts listener before)) in
    (goes_behind listener behind (order ∷ said ∷ before) (said ∷ order ∷ before) i
    (record { innocent = ((here.0.0, order_keeps c order o), w.keeps); less = w.less })).innocent

once : (listener : Listener) (life heard : List Mark) → IsInnocent listener life → length life < 18446744073709551615 → IsOrderHeardSooner life heard → IsInnocent listener heard
once listener life heard i h s =
    subst (IsInnocent listener) (sym s.heard_is)
    (once_at listener s.behind s.before s.order s.told (subst (IsInnocent listener) s.life_is i) (subst (λ (l : List Mark). length l < 18446744073709551615) s.life_is h) s.is_order s.is_line)

as_long : (life heard : List Mark) → IsOrderHeardSooner life heard → length life ≡ length heard
as_long life heard s = ap length s.life_is ∙ length_swapped s.behind s.order s.told s.before ∙ sym (ap length s.heard_is)

often : (listener : Listener) (n : ℕ) (life heard : List Mark) → IsInnocent listener life → length life < 18446744073709551615 → HeardSoonerTimes n life heard → IsInnocent listener heard
often listener zero life heard i h s = subst (IsInnocent listener) s i
often listener (suc n) life heard i h s =
    often listener n s.0 heard (once listener life s.0 i h s.1) (subst (λ (l : ℕ). l < 18446744073709551615) (as_long life s.0 s.1) h) s.2

-- THE LOG

log_less : (listener : Listener) (log : List Entry) → KnowsLess (conduct listener log) (lived listener (log_marks log))
log_less listener [] = same_below (conduct listener [])
log_less listener (entry ∷ log) = mark_below (conduct listener log) (lived listener (log_marks log)) entry.line 0 entry.mark (log_less listener log)

faultless : (listener : Listener) (log : List Entry) → IsInnocent listener (log_marks log) → IsFaultless listener log
faultless listener [] i = tt
faultless listener (entry ∷ log) i =
    (faultless listener log i.0, unbroken (conduct listener log) entry.mark (keeps_less (conduct listener log) (lived listener (log_marks log)) entry.mark (log_less listener log) i.1))

pub no_innocent_is_blamed : NoInnocentIsBlamed
no_innocent_is_blamed listener life n heard log i s e h =
    faultless listener log (subst (IsInnocent listener) (sym e) (often listener n life heard i h s))
