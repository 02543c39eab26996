-- The moves that are told are no longer than the tokens of the line.
use Rattle.std.proofs.Common.{ℕ, ◌+◌, ◌<◌, ◌≤◌, List, [], ◌∷◌, Bool, true, false, cond, ltb, length, filter, arith, length-append}
use Rattle.std.specs.List.{slice_split, onto_first}
use Rattle.chess_board.specs.declared.board.Move.{Move}
use Rattle.chess_board.specs.Text.{text_of_move}
use Rattle.chess_board.proofs.TextLengths.{move_fits}
use Rattle.protocol_tokens.specs.Tokens.{is_white, tokens}
use Rattle.uci_lines.specs.Info.{Info}
use Rattle.uci_lines.specs.Spells.{IsRun, FieldTakesValue, ReportsFacts}
use Rattle.uci_interface_lines.specs.Said.{each_move}

-- the bytes of some texts, with one more for each
abbrev pub total : List (List ℕ) → ℕ
total [] = 0
total (t ∷ ts) = 1 + length t + total ts

onto_total : (b : ℕ) (ts : List (List ℕ)) (n : ℕ) → 0 < length ts → total ts ≤ n → (total (onto_first b ts) ≤ n + 1) × (0 < length (onto_first b ts))
onto_total b [] n l h = absurd (omega (arith, l))
onto_total b (t ∷ ts) n l h = (omega (arith, h), omega arith)

split_step : (w : Bool) (b : ℕ) (parts : List (List ℕ)) (n : ℕ) → 0 < length parts → total parts ≤ n + 1 → (total (cond w ([] ∷ parts) (onto_first b parts)) ≤ n + 2) × (0 < length (cond w ([] ∷ parts) (onto_first b parts)))
split_step true b parts n l h = (omega (arith, h), omega arith)
split_step false b parts n l h = let k = onto_total b parts (n + 1) l h in (omega (arith, k.0), k.1)

split_total : (text : List ℕ) → (total (slice_split is_white text) ≤ length text + 1) × (0 < length (slice_split is_white text))
split_total [] = (omega arith, omega arith)
split_total (b ∷ bs) =
    let h = split_total bs in
    let k = split_step (is_white b) b (slice_split is_white bs) (length bs) h.1 h.0 in
    (omega (arith, k.0), k.1)

kept_step : (keep : Bool) (t : List ℕ) (ts us : List (List ℕ)) → total ts ≤ total us → total (cond keep (t ∷ ts) ts) ≤ total (t ∷ us)
kept_step true t ts us h = omega (arith, h)
kept_step false t ts us h = omega (arith, h)

kept_total : (p : List ℕ → Bool) (ts : List (List ℕ)) → total (filter p ts) ≤ total ts
kept_total p [] = omega arith
kept_total p (t ∷ ts) = kept_step (p t) t (filter p ts) ts (kept_total p ts)

pub tokens_total : (text : List ℕ) → total (tokens text) ≤ length text + 1
tokens_total text = omega (arith, kept_total (λ part. ltb 0 (length part)) (slice_split is_white text), (split_total text).0)

run_fits : (ts : List (List ℕ)) (moves : List Move) (others : List (List ℕ)) → IsRun ts moves others → length (each_move moves) + total others ≤ total ts
run_fits ts _ _ (IsRun.Ends h) = omega arith
run_fits _ _ others (IsRun.Goes {t = t} {m = m} {ts = ts} {moves = moves} s r) =
    omega (arith, move_fits t m s, run_fits ts moves others r, length-append (text_of_move m) (each_move moves))

-- the tokens that a field leaves, and the moves that it takes
record Left (f : Info) (ts : List (List ℕ)) (g : Info) (others : List (List ℕ)) (n : ℕ) : Type 0 where
  fewer : total others ≤ total ts
  moves : length (each_move g.pv) ≤ n

taken_left : (n : ℕ) (f : Info) (ts : List (List ℕ)) (g : Info) (others : List (List ℕ)) → FieldTakesValue f ts g others → total ts ≤ n → length (each_move f.pv) ≤ n → Left f ts g others n
taken_left n f _ _ _ (FieldTakesValue.Depth e) l k = record { fewer = omega arith; moves = k }
taken_left n f _ _ _ (FieldTakesValue.Time e) l k = record { fewer = omega arith; moves = k }
taken_left n f _ _ _ (FieldTakesValue.Nodes e) l k = record { fewer = omega arith; moves = k }
taken_left n f _ _ _ (FieldTakesValue.MultiPv e) l k = record { fewer = omega arith; moves = k }
taken_left n f _ _ _ (FieldTakesValue.Number e) l k = record { fewer = omega arith; moves = k }
taken_left n f _ _ _ (FieldTakesValue.Centipawns e) l k = record { fewer = omega arith; moves = k }
taken_left n f _ _ _ (FieldTakesValue.ToMate e) l k = record { fewer = omega arith; moves = k }
taken_left n f _ _ _ FieldTakesValue.LowerBound l k = record { fewer = omega arith; moves = k }
taken_left n f _ _ _ FieldTakesValue.UpperBound l k = record { fewer = omega arith; moves = k }
taken_left n f _ _ _ (FieldTakesValue.Current s) l k = record { fewer = omega arith; moves = k }
taken_left n f _ _ _ (FieldTakesValue.Pv {ts = ts} {others = others} {m = m} {moves = moves} r) l k =
    let h = run_fits ts (m ∷ moves) others r in
    record { fewer = omega (arith, h); moves = omega (arith, h, l) }

pub reported_moves : (n : ℕ) (f : Info) (ts : List (List ℕ)) (h : Info) → ReportsFacts f ts h → total ts ≤ n → length (each_move f.pv) ≤ n → length (each_move h.pv) ≤ n
reported_moves n f _ _ ReportsFacts.End l k = k
reported_moves n f _ _ ReportsFacts.Rest l k = k
reported_moves n f ts h (ReportsFacts.Taken {g = g} {others = others} t u) l k =
    let left = taken_left n f ts g others t l k in
    reported_moves n g others h u (omega (arith, left.fewer, l)) left.moves
reported_moves n f _ h (ReportsFacts.Skipped {t = t} {ts = ts} s e u) l k = reported_moves n f ts h u (omega (arith, l)) k
