-- The canonical text of a message is at most 256 bytes longer than the line that spells it.
use Rattle.std.proofs.Common.{ℕ, suc, ◌+◌, ◌^◌, ◌<◌, ◌≤◌, List, [], ◌∷◌, Bool, true, false, cond, length, Option, Some, None, codes, sym, ap, subst, inl, inr, arith, length-append}
use Rattle.std.specs.Prelude.{ℤ, int_lt, pos, negsuc, nat_abs}
use Rattle.std.specs.Int.{int_min}
use Rattle.std.specs.Option.{IfSome}
use Rattle.std.specs.Fmt.{decimal, signed_decimal}
use Rattle.chess_board.specs.declared.board.Move.{Move}
use Rattle.chess_board.proofs.TextLengths.{move_length}
use Rattle.protocol_tokens.specs.Tokens.{trimmed, first_token, rest_after_token, tokens}
use Rattle.uci_lines.specs.declared.messages.Score.{Score}
use Rattle.uci_lines.specs.declared.messages.Score.TheVariants.{Cp, Mate}
use Rattle.uci_lines.specs.Cuts.{is_word, is_known}
use Rattle.uci_lines.specs.Orders.{optional_number}
use Rattle.uci_lines.specs.Infos.{no_facts}
use Rattle.uci_lines.specs.Options.{option_text_shown}
use Rattle.uci_lines.specs.Scores.{IsCentis}
use Rattle.uci_lines.specs.Info.{Info as AnyInfo}
use Rattle.uci_lines.specs.Messages.{OptionKind, Check, Spin, Combo, Button, Text, EngineMsg, Name, UciOk, ReadyOk, Best, OptionLine, Info, Nothing}
use Rattle.uci_lines.specs.Spells.{Behind, HasShape, Declares, ReportsFacts, FirstKnownWordIs, SpellsMessage}
use Rattle.uci_interface_lines.specs.Said.{spaced_text, said_score_text, bound_text, move_after_word, each_move, pv_text, true_or_false, empty_or, shape_text, bestmove_text, said_text}
use Rattle.uci_interface_lines.specs.Again.{TextsFitTheLine}
use Rattle.protocol_tokens.proofs.Lengths.{trimmed_length, rest_length}
use Rattle.uci_lines.proofs.TextLengths.{count_length}
use Rattle.uci_interface_lines.proofs.SpinsAgain.{one_of, signed_small}
use Rattle.uci_interface_lines.proofs.InfosAgain.{is_small, Fits, reports_fits, none_fits, behind_counts, behind_info, facts_text_is}
use Rattle.uci_interface_lines.proofs.RunLengths.{tokens_total, reported_moves}
use Rattle.uci_interface_lines.proofs.ValueLengths.{spaced_length, part_length, sums}

begun_length : (line word text : List ℕ) → FirstKnownWordIs line word text → length text ≤ length line
begun_length line word text b = omega (arith, part_length is_known line b.0 b.1, ap length b.3)

-- NAMES AND MOVES

name_length : (text : List ℕ) → length (said_text (Name text)) ≤ length text + 8
unfolding said_text
name_length text = omega (arith, spaced_length text)

best_length : (best : Option Move) → length (bestmove_text best) ≤ 5
best_length None = omega arith
best_length (Some m) = move_length m

hint_length : (hint : Option Move) → length (move_after_word (codes " ponder ") hint) ≤ 13
hint_length None = omega arith
hint_length (Some m) = omega (arith, move_length m)

pub moves_length : (best hint : Option Move) → length (said_text (Best best hint)) ≤ 27
unfolding said_text
moves_length best hint = omega (arith, length-append (bestmove_text best) (move_after_word (codes " ponder ") hint), best_length best, hint_length hint)

-- OPTIONS

signed_length : (n : ℤ) → nat_abs n < 10 ^ 18 → length (signed_decimal n) ≤ 19
signed_length (pos n) h = omega (arith, count_length n h)
signed_length (negsuc n) h = omega (arith, count_length (suc n) h)

switch_length : (on : Bool) → length (true_or_false on) ≤ 5
switch_length true = omega arith
switch_length false = omega arith

empty_length : (text : List ℕ) → length (empty_or text) ≤ length text + 7
empty_length [] = omega arith
empty_length (b ∷ bs) = omega arith

shown_by : (b : Bool) (text : List ℕ) → length (cond b [] text) ≤ length text
shown_by true text = omega arith
shown_by false text = omega arith

shown_length : (text : List ℕ) → length (option_text_shown text) ≤ length text
shown_length text = shown_by (is_word (codes "<empty>") text) text

behind_length : (word text others : List ℕ) → Behind word text others → length others ≤ length text
behind_length word text others (inl h) = omega (arith, ap length h.1)
behind_length word text others (inr h) = omega (arith, part_length (is_word word) text h.0 h.1, ap length h.2)

spin_length : (n a b d : ℤ) → nat_abs n < 10 ^ 18 → nat_abs a < 10 ^ 18 → nat_abs b < 10 ^ 18 → nat_abs d < 10 ^ 18 → length (shape_text (Spin d a b)) ≤ 86
spin_length n a b d hn ha hb hd = simp length-append (omega (arith, signed_length d hd, signed_length a ha, signed_length b hb))

shape_length : (word text : List ℕ) (shape : OptionKind) → HasShape word text shape → length (shape_text shape) ≤ length text + 86
shape_length word text (Check on) h = omega (arith, switch_length on)
shape_length word text (Spin d a b) h =
    let hn = signed_small (h.2).digits h.1 (h.2).reads in
    let ha = signed_small (h.3).digits a (h.3).reads in
    let hb = signed_small (h.4).digits b (h.4).reads in
    let hd = subst (λ (i : ℤ). nat_abs i < 10 ^ 18) (sym h.6) (one_of (int_lt b h.1) (int_lt (int_min h.1 b) a) h.1 a b hn ha hb) in
    omega (arith, spin_length h.1 a b d hn ha hb hd)
shape_length word text (Combo default values) h =
    let s = (sums text values h.2).whole default (h.1).0 (h.1).1 (h.1).2 in
    simp length-append (omega (arith, s))
shape_length word text Button h = omega arith
shape_length word text (Text default) h =
    omega (arith, empty_length default, ap length h.3, shown_length (trimmed h.1), trimmed_length h.1, behind_length (codes "default") text h.1 h.2)

pub declared_length : (text name : List ℕ) (shape : OptionKind) → Declares text name shape → length (said_text (OptionLine name shape)) ≤ length text + 98
unfolding said_text
declared_length text name shape d =
    let part = d.1 in
    omega (arith, length-append (spaced_text name) (shape_text shape), spaced_length name, ap length d.3, trimmed_length part.before, shape_length (first_token part.after) (rest_after_token part.after) shape d.4, rest_length part.after, part_length (is_word (codes "type")) (rest_after_token text) part d.2, rest_length text)

-- WHAT IS REPORTED OF A SEARCH

number_length : (word : List ℕ) (n : Option ℕ) → is_small n → length (optional_number word n) ≤ length word + 18
number_length word None h = omega arith
number_length word (Some n) h = omega (arith, count_length n h, length-append word (decimal n))

score_length : (s : Option Score) → IfSome s IsCentis → length (said_score_text s) ≤ 31
score_length None h = omega arith
score_length (Some (Cp n)) h = omega (arith, signed_length n (omega (arith, h)))
score_length (Some (Mate n)) h = omega (arith, signed_length n (omega (arith, h)))

bound_length : (b : Bool) → length (bound_text b) ≤ 11
bound_length false = omega arith
bound_length true = omega arith

current_length : (m : Option Move) → length (move_after_word (codes " currmove ") m) ≤ 15
current_length None = omega arith
current_length (Some m) = omega (arith, move_length m)

pv_length : (moves : List Move) → length (pv_text moves) ≤ length (each_move moves) + 3
pv_length [] = omega arith
pv_length (m ∷ moves) = omega arith

counts_length : (f : AnyInfo) → Fits f → length (behind_counts f) ≤ length (each_move f.pv) + 60
unfolding behind_counts
counts_length f s = simp length-append (omega (arith, score_length f.score s.score, bound_length f.bound, current_length f.current, pv_length f.pv))

info_length : (f : AnyInfo) → Fits f → length (behind_info f) ≤ length (each_move f.pv) + 195
unfolding behind_info
info_length f s = simp length-append (omega (arith, number_length (codes " depth ") f.depth s.depth, number_length (codes " time ") f.time s.time, number_length (codes " nodes ") f.nodes s.nodes, number_length (codes " multipv ") f.multipv s.multipv, number_length (codes " currmovenumber ") f.number s.number, counts_length f s))

pub facts_length : (text : List ℕ) (f : AnyInfo) → ReportsFacts no_facts (tokens text) f → length (said_text (Info f)) ≤ length text + 200
unfolding said_text
facts_length text f t =
    let moves = reported_moves (length text + 1) no_facts (tokens text) f t (tokens_total text) (omega arith) in
    omega (arith, ap length (facts_text_is f), info_length f (reports_fits no_facts (tokens text) f t none_fits), moves)

-- ALL

short : length (said_text UciOk) + length (said_text ReadyOk) + length (said_text Nothing) ≤ 12
unfolding said_text
short = omega arith

form_length : (line : List ℕ) (m : EngineMsg) → SpellsMessage line m → length (said_text m) ≤ length line + 256
form_length line Nothing h = omega (arith, short)
form_length line (Name name) h = omega (arith, name_length name, ap length h.3, rest_length h.0, begun_length line (codes "id") h.0 h.1)
form_length line UciOk h = omega (arith, short)
form_length line ReadyOk h = omega (arith, short)
form_length line (Best best hint) h = omega (arith, moves_length best hint)
form_length line (OptionLine name shape) h = omega (arith, declared_length h.0 name shape h.2, begun_length line (codes "option") h.0 h.1)
form_length line (Info f) h = omega (arith, facts_length h.0 f h.2, begun_length line (codes "info") h.0 h.1)

pub texts_fit : TextsFitTheLine
texts_fit line m h = form_length line m h
