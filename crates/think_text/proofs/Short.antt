-- The lines that tell of a search are short.
use Rattle.std.proofs.Common.{◌≡◌, ℕ, suc, ◌+◌, ◌*◌, ◌/◌, ◌^◌, ◌<◌, ◌≤◌, List, [], ◌∷◌, ◌++◌, Bool, true, false, cond, ltb, filter, length, Option, Some, None, refl, sym, ap, subst, arith, length-append}
use Rattle.std.proofs.lemmas.Int.{ints, fits_signed_from_abs}
use Rattle.std.specs.Prelude.{ℤ, pos, negsuc, neg_ℤ, ◌+ℤ◌, ◌-ℤ◌, nat_abs, int_lt, IfSome}
use Rattle.std.specs.Int.RustNames.{FitsSigned}
use Rattle.std.specs.List.{slice_split, onto_first}
use Rattle.std.specs.Option.{unwrap_or}
use mir.Syntax.{w64}
use Rattle.chess_board.specs.declared.board.Move.{Move}
use Rattle.chess_board.specs.Position.{Position}
use Rattle.chess_board.specs.Place.{legal, legal_at, legal_count, count_below}
use Rattle.chess_board.specs.Text.{text_of_move}
use Rattle.chess_board.proofs.Count.{count_below-le}
use Rattle.chess_board.proofs.LegalMoves.{is_legal}
use Rattle.chess_board.proofs.TextLengths.{move_fits, move_length}
use Rattle.protocol_tokens.specs.Tokens.{is_white, tokens}
use Rattle.protocol_tokens.proofs.Sizes.{digits_small}
use Rattle.san_text.proofs.Lengths.{short}
use Rattle.cecp_lines.specs.declared.reply.Spelling.{Spelling}
use Rattle.cecp_lines.specs.declared.reply.Spelling.TheVariants.{Coordinates, San}
use Rattle.cecp_lines.specs.Replies.{Reply, Thinking, reply_text, hint_size, HasFieldRanges}
use Rattle.cecp_lines.proofs.Lengths.{reported_short, thinking_short}
use Rattle.uci_lines.specs.declared.messages.Score.{Score}
use Rattle.uci_lines.specs.declared.messages.Score.TheVariants.{Cp, Mate}
use Rattle.uci_lines.specs.Infos.{no_facts}
use Rattle.uci_lines.specs.Info.{Info as AnyInfo}
use Rattle.uci_lines.specs.Messages.{Info}
use Rattle.uci_lines.specs.Spells.{IsRun, FieldTakesValue, ReportsFacts, HasForm}
use Rattle.uci_lines.specs.Engine.{engine_message}
use Rattle.uci_lines.specs.Scores.{IsCentis}
use Rattle.uci_lines.proofs.Rows.{read_spells}
use Rattle.uci_lines.proofs.Scores.{scores_are_centis}
use Rattle.think_text.specs.declared.line.Pondered.{Pondered}
use Rattle.think_text.specs.declared.search_info.SearchInfo.{SearchInfo}
use Rattle.think_text.specs.Line.{value_of, position_after_pv_move, legal_run, written, run_texts, spaced_moves, line_with, hint_text, IsPlayableAsHint}
use Rattle.think_text.specs.Kept.{after_info, stat01_of}
use Rattle.think_text.specs.Short.{most_bytes, LinesAreShort, IsBounded, StaysBounded, StatIsShort}
use Rattle.think_text.proofs.Lines.{moves_text, first_and_others}

-- THE LENGTHS OF TOKENS AND MOVES

-- each token with a byte before it
abbrev size : List (List ℕ) → ℕ
size [] = 0
size (t ∷ ts) = 1 + length t + size ts

onto_size : (x : ℕ) (ss : List (List ℕ)) → 0 < size ss → size (onto_first x ss) ≡ 1 + size ss
onto_size x [] h = absurd (omega arith)
onto_size x (s ∷ ss) h = omega arith

part_step : (w : Bool) (x n : ℕ) (ss : List (List ℕ)) → size ss ≡ n + 1 → size (cond w ([] ∷ ss) (onto_first x ss)) ≡ suc n + 1
part_step true x n ss e = omega arith
part_step false x n ss e = omega (arith, onto_size x ss (omega arith))

parts_size : (t : List ℕ) → size (slice_split is_white t) ≡ length t + 1
parts_size [] = refl
parts_size (x ∷ xs) = part_step (is_white x) x (length xs) (slice_split is_white xs) (parts_size xs)

kept_step : (w : Bool) (t : List ℕ) (ts : List (List ℕ)) (n : ℕ) → size ts ≤ n → size (cond w (t ∷ ts) ts) ≤ 1 + length t + n
kept_step true t ts n h = omega arith
kept_step false t ts n h = omega arith

kept_size : (ps : List (List ℕ)) → size (filter (λ part. ltb 0 (length part)) ps) ≤ size ps
kept_size [] = omega arith
kept_size (p ∷ ps) = kept_step (ltb 0 (length p)) p (filter (λ part. ltb 0 (length part)) ps) (size ps) (kept_size ps)

tokens_size : (t : List ℕ) → size (tokens t) ≤ length t + 1
tokens_size t = omega (arith, kept_size (slice_split is_white t), parts_size t)

-- moves by their squares, each after a blank
pub squares : List Move → List ℕ
squares [] = []
squares (m ∷ moves) = (32 ∷ text_of_move m) ++ squares moves

-- a run of moves is no longer than its tokens
run_size : (ts : List (List ℕ)) (moves : List Move) (others : List (List ℕ)) → IsRun ts moves others → length (squares moves) + size others ≤ size ts
unfolding squares
run_size ts _ _ (IsRun.Ends h) = omega arith
run_size _ _ others (IsRun.Goes {t = t} {m = m} {ts = ts} {moves = moves} s r) =
    omega (arith, move_fits t m s, run_size ts moves others r, length-append (32 ∷ text_of_move m) (squares moves))

-- how many bytes moves have at most in a spelling, by those of their squares
Within : Spelling → ℕ → ℕ → Type 0
Within Coordinates n all = n ≤ all
Within San n all = 5 * n ≤ 8 * all

none_within : (s : Spelling) (all : ℕ) → Within s 0 all
unfolding Within
none_within Coordinates all = omega arith
none_within San all = omega arith

one_within : (s : Spelling) (p : Position) (m : Move) (n all : ℕ) → legal p m ≡ true → Within s n all → Within s (1 + length (written s p m) + n) (1 + length (text_of_move m) + all)
unfolding Within
one_within Coordinates p m n all e h = omega (arith, h)
one_within San p m n all e h = omega (arith, h, short p m (is_legal p m e))

legal_step : (s : Spelling) (p : Position) (w : Bool) (m : Move) (legals moves : List Move) → legal p m ≡ w
    → Within s (length (spaced_moves s (position_after_pv_move p m) legals)) (length (squares moves)) → Within s (length (spaced_moves s p (cond w (m ∷ legals) []))) (length (squares (m ∷ moves)))
unfolding squares
legal_step s p true m legals moves e h =
    let mine : length (spaced_moves s p (m ∷ legals)) ≡ 1 + length (written s p m) + length (spaced_moves s (position_after_pv_move p m) legals) = omega (arith, length-append (32 ∷ written s p m) (spaced_moves s (position_after_pv_move p m) legals)) in
    let all : length (squares (m ∷ moves)) ≡ 1 + length (text_of_move m) + length (squares moves) = omega (arith, length-append (32 ∷ text_of_move m) (squares moves)) in
    subst (λ (n : ℕ). Within s n (length (squares (m ∷ moves)))) (sym mine)
    (subst (λ (n : ℕ). Within s (1 + length (written s p m) + length (spaced_moves s (position_after_pv_move p m) legals)) n) (sym all) (one_within s p m _ _ e h))
legal_step s p false m legals moves e h = none_within s _

legal_size : (s : Spelling) (p : Position) (moves : List Move) → Within s (length (spaced_moves s p (legal_run p moves))) (length (squares moves))
legal_size s p [] = none_within s _
legal_size s p (m ∷ moves) = legal_step s p (legal p m) m (legal_run (position_after_pv_move p m) moves) moves refl (legal_size s (position_after_pv_move p m) moves)

-- WHAT LINES TELL

-- at most 18 digits
abbrev pub IsCount : ℕ → Type 0
IsCount n = n < 10 ^ 18

-- the numbers are counts, and the moves have at most so many bytes, with a blank before each
pub record IsWithin (most : ℕ) (f : AnyInfo) : Type 0 where
  pub depth : IfSome f.depth IsCount
  pub time : IfSome f.time IsCount
  pub nodes : IfSome f.nodes IsCount
  pub number : IfSome f.number IsCount
  pub moves : length (squares f.pv) ≤ most

takes_within : (most : ℕ) (f : AnyInfo) (ts : List (List ℕ)) (g : AnyInfo) (others : List (List ℕ)) → FieldTakesValue f ts g others → size ts ≤ most → IsWithin most f → IsWithin most g
takes_within most f _ _ _ (FieldTakesValue.Depth {t = t} {n = n} e) l w = record { depth = digits_small 18 t n e; time = w.time; nodes = w.nodes; number = w.number; moves = w.moves }
takes_within most f _ _ _ (FieldTakesValue.Time {t = t} {n = n} e) l w = record { depth = w.depth; time = digits_small 18 t n e; nodes = w.nodes; number = w.number; moves = w.moves }
takes_within most f _ _ _ (FieldTakesValue.Nodes {t = t} {n = n} e) l w = record { depth = w.depth; time = w.time; nodes = digits_small 18 t n e; number = w.number; moves = w.moves }
takes_within most f _ _ _ (FieldTakesValue.MultiPv {t = t} {n = n} e) l w = record { depth = w.depth; time = w.time; nodes = w.nodes; number = w.number; moves = w.moves }
takes_within most f _ _ _ (FieldTakesValue.Number {t = t} {n = n} e) l w = record { depth = w.depth; time = w.time; nodes = w.nodes; number = digits_small 18 t n e; moves = w.moves }
takes_within most f _ _ _ (FieldTakesValue.Centipawns e) l w = record { depth = w.depth; time = w.time; nodes = w.nodes; number = w.number; moves = w.moves }
takes_within most f _ _ _ (FieldTakesValue.ToMate e) l w = record { depth = w.depth; time = w.time; nodes = w.nodes; number = w.number; moves = w.moves }
takes_within most f _ _ _ FieldTakesValue.LowerBound l w = record { depth = w.depth; time = w.time; nodes = w.nodes; number = w.number; moves = w.moves }
takes_within most f _ _ _ FieldTakesValue.UpperBound l w = record { depth = w.depth; time = w.time; nodes = w.nodes; number = w.number; moves = w.moves }
takes_within most f _ _ _ (FieldTakesValue.Current s) l w = record { depth = w.depth; time = w.time; nodes = w.nodes; number = w.number; moves = w.moves }
takes_within most f _ _ _ (FieldTakesValue.Pv {ts = ts} {others = others} {m = m} {moves = moves} r) l w = record { depth = w.depth; time = w.time; nodes = w.nodes; number = w.number; moves = omega (arith, l, run_size ts (m ∷ moves) others r) }

takes_fewer : (f : AnyInfo) (ts : List (List ℕ)) (g : AnyInfo) (others : List (List ℕ)) → FieldTakesValue f ts g others → size others ≤ size ts
takes_fewer f _ _ _ (FieldTakesValue.Depth e) = omega arith
takes_fewer f _ _ _ (FieldTakesValue.Time e) = omega arith
takes_fewer f _ _ _ (FieldTakesValue.Nodes e) = omega arith
takes_fewer f _ _ _ (FieldTakesValue.MultiPv e) = omega arith
takes_fewer f _ _ _ (FieldTakesValue.Number e) = omega arith
takes_fewer f _ _ _ (FieldTakesValue.Centipawns e) = omega arith
takes_fewer f _ _ _ (FieldTakesValue.ToMate e) = omega arith
takes_fewer f _ _ _ FieldTakesValue.LowerBound = omega arith
takes_fewer f _ _ _ FieldTakesValue.UpperBound = omega arith
takes_fewer f _ _ _ (FieldTakesValue.Current s) = omega arith
takes_fewer f _ _ _ (FieldTakesValue.Pv {ts = ts} {others = others} {m = m} {moves = moves} r) = omega (arith, run_size ts (m ∷ moves) others r)

reports_within : (most : ℕ) (f : AnyInfo) (ts : List (List ℕ)) (h : AnyInfo) → ReportsFacts f ts h → size ts ≤ most → IsWithin most f → IsWithin most h
reports_within most f _ _ ReportsFacts.End l w = w
reports_within most f _ _ ReportsFacts.Rest l w = w
reports_within most f ts h (ReportsFacts.Taken {g = g} {others = others} k r) l w =
    reports_within most g others h r (omega (arith, l, takes_fewer f ts g others k)) (takes_within most f ts g others k l w)
reports_within most f _ h (ReportsFacts.Skipped {t = t} {ts = ts} n s r) l w = reports_within most f ts h r (omega (arith, l)) w

pub reported_within : (line : List ℕ) (f : AnyInfo) → engine_message line ≡ Info f → IsWithin (length line + 1) f
unfolding squares
reported_within line f e =
    let form : HasForm line (Info f) = read_spells line (Info f) e in
    let part = form.1.0 in
    let text : length part.after ≡ length form.0 = ap length form.1.3 in
    let whole = ap length form.1.1.whole in
    let within : size (tokens form.0) ≤ length line + 1 =
    omega (arith, text, whole, tokens_size form.0, length-append part.before (part.word ++ part.after), length-append part.word part.after) in
    reports_within (length line + 1) no_facts (tokens form.0) f form.2 within (record { depth = tt; time = tt; nodes = tt; number = tt; moves = omega arith })

-- THINKING LINES

mate_abs : (w : Bool) (z : ℤ) → nat_abs z < 10 ^ 9 → nat_abs (cond w (pos 100000 +ℤ z) (neg_ℤ (pos 100000 -ℤ z))) < 2 ^ 63
mate_abs true (pos n) h = omega (arith, ints)
mate_abs true (negsuc n) h = omega (arith, ints)
mate_abs false (pos n) h = omega (arith, ints)
mate_abs false (negsuc n) h = omega (arith, ints)

value_fits : (s : Score) → IsCentis s → FitsSigned w64 (value_of s)
value_fits (Cp z) h = fits_signed_from_abs w64 z (omega arith)
value_fits (Mate z) h = fits_signed_from_abs w64 (value_of (Mate z)) (mate_abs (int_lt (pos 0) z) z h)

or_zero : (o : Option ℕ) → IfSome o IsCount → unwrap_or o 0 < 10 ^ 18
or_zero None h = omega arith
or_zero (Some n) h = h

same_reported : (a b : Reply) (most : ℕ) → Some a ≡ Some b → length (reply_text a) ≤ most → length (reply_text b) ≤ most
same_reported a b most e h = let same : a ≡ b = cc in subst (λ (t : Reply). length (reply_text t) ≤ most) same h

-- a hint by its squares has at most five bytes, another one seven
abbrev pub most_hint : Spelling → ℕ
most_hint Coordinates = 5
most_hint San = 7

pub hint_short : (s : Spelling) (hint : Option Pondered) → IsPlayableAsHint hint → hint_size (hint_text s hint) ≤ most_hint s
hint_short Coordinates None h = omega arith
hint_short San None h = omega arith
hint_short Coordinates (Some hint) h = omega (arith, move_length hint.hint)
hint_short San (Some hint) h = omega (arith, short hint.before hint.hint (is_legal hint.before hint.hint h))

all_short : (s : Spelling) (text hint pv n : ℕ) → text ≤ 88 + (hint + pv) → hint ≤ most_hint s → Within s (1 + pv) (n + 1) → text ≤ most_bytes s n
unfolding Within
all_short Coordinates text hint pv n a b c = omega (arith, a, b, c)
all_short San text hint pv n a b c = omega (arith, a, b, c)

pub fits : (d : ℕ) (score : Score) (f : AnyInfo) (n : ℕ) (s : Spelling) (hint : Option (List ℕ)) (pv : List ℕ) → IsCount d → IsCentis score → IsWithin n f
    → HasFieldRanges (Thinking d (value_of score) (unwrap_or f.time 0 / 10) (unwrap_or f.nodes 0) s hint pv)
fits d score f n s hint pv h k w =
    let time = or_zero f.time w.time in
    let nodes = or_zero f.nodes w.nodes in
    ((omega arith), value_fits score k, (omega arith), (omega arith))

-- the moves after a blank
behind_blank : (s : Spelling) (p : Position) (m : Move) (moves : List Move) → length (spaced_moves s p (m ∷ moves)) ≡ 1 + length (moves_text s p (m ∷ moves))
behind_blank s p m moves =
    let text = ap length (first_and_others s p m moves) in
    omega (arith, text, length-append (written s p m) (spaced_moves s (position_after_pv_move p m) moves), length-append (32 ∷ written s p m) (spaced_moves s (position_after_pv_move p m) moves))

line_short : (d : Option ℕ) (score : Option Score) (s : Spelling) (p : Position) (moves : List Move) (f : AnyInfo) (hint : Option Pondered) (t : Reply) (n : ℕ) →
    IfSome d IsCount → IfSome score IsCentis → IsWithin (n + 1) f → Within s (length (spaced_moves s p moves)) (n + 1) → IsPlayableAsHint hint
    → line_with d score (run_texts s p moves) f s (hint_text s hint) ≡ Some t → length (reply_text t) ≤ most_bytes s n
line_short (Some depth) (Some score) s p (m ∷ moves) f hint t n h k w l i e =
    let reported : Reply = Thinking depth (value_of score) (unwrap_or f.time 0 / 10) (unwrap_or f.nodes 0) s (hint_text s hint) (moves_text s p (m ∷ moves)) in
    let short = thinking_short depth (value_of score) (unwrap_or f.time 0 / 10) (unwrap_or f.nodes 0) s (hint_text s hint) (moves_text s p (m ∷ moves)) (fits depth score f (n + 1) s (hint_text s hint) (moves_text s p (m ∷ moves)) h k w) in
    same_reported reported t (most_bytes s n) e
    (all_short s (length (reply_text reported)) (hint_size (hint_text s hint)) (length (moves_text s p (m ∷ moves))) n short (hint_short s hint i) (subst (λ (x : ℕ). Within s x (n + 1)) (behind_blank s p m moves) l))
line_short (Some depth) (Some score) s p [] f hint t n h k w l i e = absurd (cc)
line_short (Some depth) None s p moves f hint t n h k w l i e = absurd (cc)
line_short None score s p moves f hint t n h k w l i e = absurd (cc)

widened : (s : Spelling) (n a b : ℕ) → Within s n a → a ≤ b → Within s n b
unfolding Within
widened Coordinates n a b h l = omega (arith, h, l)
widened San n a b h l = omega (arith, h, l)

pub lines_short : LinesAreShort
lines_short s line f p hint t i e h =
    let w = reported_within line f e in
    let moves = widened s (length (spaced_moves s p (legal_run p f.pv))) _ (length line + 1) (legal_size s p f.pv) w.moves in
    line_short f.depth f.score s p (legal_run p f.pv) f hint t (length line) w.depth (scores_are_centis line f e) w moves i h

-- WHAT IS KEPT

newer_bounded : (o : Option ℕ) (old : ℕ) → IfSome o IsCount → old < 2 ^ 64 → unwrap_or o old < 2 ^ 64
newer_bounded None old h k = k
newer_bounded (Some n) old h k = omega arith

after_bounded : (search_info : SearchInfo) (f : AnyInfo) (p : Position) (most : ℕ) → IsBounded search_info → IsWithin most f → IsBounded (after_info search_info f p)
after_bounded search_info f p most b w = record {
  depth = newer_bounded f.depth search_info.depth w.depth b.depth;
  time = newer_bounded f.time search_info.time w.time b.time;
  nodes = newer_bounded f.nodes search_info.nodes w.nodes b.nodes;
  number = newer_bounded f.number search_info.number w.number b.number;
}

pub stays_bounded : StaysBounded
stays_bounded = (
  record { depth = omega arith; time = omega arith; nodes = omega arith; number = omega arith },
  λ search_info f p b h. after_bounded search_info f p (length h.0 + 1) b (reported_within h.0 f h.1),
)

-- there are no more legal moves than pairs of squares and promotions
counted_below : (p : Position) (n : ℕ) → n ≡ 20480 → count_below n (legal_at p) ≡ legal_count p
unfolding legal_count
counted_below p n e = ap (λ k. count_below k (legal_at p)) e

few_legal : (p : Position) (n : ℕ) → n ≡ 20480 → legal_count p ≤ 20480
few_legal p n e = omega (arith, e, counted_below p n e, count_below-le n (legal_at p))

pub stat_short : StatIsShort
stat_short search_info p b =
    let few = few_legal p 20480 refl in
    reported_short (stat01_of search_info p) ((omega (arith, b.time)), b.nodes, b.depth, (omega arith), (omega arith))
