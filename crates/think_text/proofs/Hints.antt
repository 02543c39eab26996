-- The hint is all that the thinking lines of a report differ in.
use Rattle.std.proofs.Common.{◌≡◌, ℕ, ◌+◌, ◌≤◌, List, [], ◌∷◌, ◌++◌, length, decimal, true, false, Option, Some, None, refl, sym, subst, arith, length-append}
use Rattle.std.specs.Fmt.{signed_decimal}
use Rattle.std.specs.Prelude.{IfSome}
use Rattle.std.specs.Option.{option_map, is_some}
use Rattle.cecp_lines.specs.declared.reply.Spelling.{Spelling}
use Rattle.cecp_lines.specs.declared.reply.Spelling.TheVariants.{Coordinates, San}
use Rattle.cecp_lines.specs.Replies.{field, hint_in_parentheses, hint_size, reply_text}
use Rattle.line_io.specs.Out.{empty}
use Rattle.chess_board.specs.Position.{Position}
use Rattle.uci_lines.specs.declared.messages.Score.{Score}
use Rattle.uci_lines.specs.Info.{Info}
use Rattle.think_text.specs.declared.line.Pondered.{Pondered}
use Rattle.think_text.specs.declared.last_thinking.LineStart.{LineStart}
use Rattle.think_text.specs.Line.{legal_run, run_texts, line_with, hint_text, thinking_line, IsPlayableAsHint, ThinkingLineHasRoom}
use Rattle.think_text.proofs.Short.{hint_short, most_hint}
use Rattle.think_text.specs.Last.{ThinkingLine, with_hint, last_after, thinking_line_from, last_line, LinesDifferByHint}

differ_by : (depth : Option ℕ) (score : Option Score) (texts : List (List ℕ)) (facts : Info) (s : Spelling) (hint : Option Pondered) (old : Option ThinkingLine)
    → (line_with depth score texts facts s (hint_text s hint) ≡ option_map (with_hint hint) (last_after None (line_with depth score texts facts s None)))
    × (last_after old (line_with depth score texts facts s (hint_text s hint)) ≡ last_after old (line_with depth score texts facts s None))
differ_by (Some depth) (Some score) (t ∷ texts) facts s hint old = (refl, refl)
differ_by (Some depth) (Some score) [] facts s hint old = (refl, refl)
differ_by (Some depth) None texts facts s hint old = (refl, refl)
differ_by None score texts facts s hint old = (refl, refl)

-- the line that is taken, with its hint
taken_by : (depth : Option ℕ) (score : Option Score) (texts : List (List ℕ)) (facts : Info) (s : Spelling) (hint : Option Pondered) (old : Option ThinkingLine)
    → is_some (line_with depth score texts facts s None) ≡ true
    → option_map (with_hint hint) (last_after old (line_with depth score texts facts s None)) ≡ line_with depth score texts facts s (hint_text s hint)
taken_by (Some depth) (Some score) (t ∷ texts) facts s hint old e = refl
taken_by (Some depth) (Some score) [] facts s hint old e = cc
taken_by (Some depth) None texts facts s hint old e = cc
taken_by None score texts facts s hint old e = cc

pub taken : (s : Spelling) (facts : Info) (p : Position) (hint : Option Pondered) (old : Option ThinkingLine) → is_some (thinking_line s facts p None) ≡ true
    → option_map (with_hint hint) (last_after old (thinking_line s facts p None)) ≡ thinking_line s facts p hint
taken s facts p hint old e = taken_by facts.depth facts.score (run_texts s p (legal_run p facts.pv)) facts s hint old e

-- if none is taken, there is none
untaken_by : (depth : Option ℕ) (score : Option Score) (texts : List (List ℕ)) (facts : Info) (s : Spelling) (hint : Option Pondered)
    → is_some (line_with depth score texts facts s None) ≡ false → line_with depth score texts facts s (hint_text s hint) ≡ None
untaken_by (Some depth) (Some score) (t ∷ texts) facts s hint e = cc
untaken_by (Some depth) (Some score) [] facts s hint e = refl
untaken_by (Some depth) None texts facts s hint e = refl
untaken_by None score texts facts s hint e = refl

pub untaken : (s : Spelling) (facts : Info) (p : Position) (hint : Option Pondered) → is_some (thinking_line s facts p None) ≡ false → thinking_line s facts p hint ≡ None
untaken s facts p hint e = untaken_by facts.depth facts.score (run_texts s p (legal_run p facts.pv)) facts s hint e

pub differ : LinesDifferByHint
differ s facts p hint old = differ_by facts.depth facts.score (run_texts s p (legal_run p facts.pv)) facts s hint old

-- a line that is taken is short, if there is room for it
short_by : (most : ℕ) (depth : Option ℕ) (score : Option Score) (texts : List (List ℕ)) (facts : Info) (s : Spelling) (line : ThinkingLine)
    → Some line ≡ last_after None (line_with depth score texts facts s None) → ThinkingLineHasRoom (empty most) (line_with depth score texts facts s None)
    → length (reply_text (with_hint None line)) ≤ most
short_by most (Some depth) (Some score) (t ∷ texts) facts s line e h = by line _ (some_same line _ e) (omega (arith, h)) where
  some_same : (a b : ThinkingLine) → Some a ≡ Some b → a ≡ b
  some_same a b e = cc

  by : (a b : ThinkingLine) → a ≡ b → length (reply_text (with_hint None b)) ≤ most → length (reply_text (with_hint None a)) ≤ most
  by a b e h = subst (λ (l : ThinkingLine). length (reply_text (with_hint None l)) ≤ most) (sym e) h
short_by most (Some depth) (Some score) [] facts s line e h = absurd (cc)
short_by most (Some depth) None texts facts s line e h = absurd (cc)
short_by most None score texts facts s line e h = absurd (cc)

pub taken_short : (line : ThinkingLine) (s : Spelling) (facts : Info) (p : Position) → Some line ≡ last_after None (thinking_line s facts p None)
    → ThinkingLineHasRoom (empty 104985) (thinking_line s facts p None) → length (reply_text (with_hint None line)) ≤ 104985
taken_short line s facts p e h = short_by 104985 facts.depth facts.score (run_texts s p (legal_run p facts.pv)) facts s line e h

-- a hint and its parentheses
parentheses_short : (hint : Option (List ℕ)) → length (hint_in_parentheses hint) ≤ 3 + hint_size hint
parentheses_short None = omega arith
parentheses_short (Some text) = omega (arith, length-append text (41 ∷ 32 ∷ []))

most_hint_le : (s : Spelling) → most_hint s ≤ 7
most_hint_le Coordinates = omega arith
most_hint_le San = omega arith

pub hinted_short : (hint : Option Pondered) (line : ThinkingLine) → IsPlayableAsHint hint → length (reply_text (with_hint None line)) ≤ 104985 → length (reply_text (with_hint hint line)) ≤ 104995
hinted_short hint line i h =
    let start = field (decimal line.depth) ++ field (signed_decimal line.score) ++ field (decimal line.time) ++ field (decimal line.nodes) in
    let text = hint_in_parentheses (hint_text line.spelling hint) in
    omega (
      arith,
      h,
      length-append (start ++ []) line.moves,
      length-append start [],
      length-append (start ++ text) line.moves,
      length-append start text,
      parentheses_short (hint_text line.spelling hint),
      hint_short line.spelling hint i,
      most_hint_le line.spelling,
    )

-- so is the line that is kept
pub kept_short : (kept : Option LineStart) (start : LineStart) (moves : List ℕ) (hint : Option Pondered) → kept ≡ Some start → IfSome (last_line kept moves) (λ line. length (reply_text (with_hint None line)) ≤ 104985)
    → IsPlayableAsHint hint → length (reply_text (with_hint hint (thinking_line_from moves start))) ≤ 104995
kept_short kept start moves hint e h i =
    hinted_short hint (thinking_line_from moves start) i (subst (λ (x : Option LineStart). IfSome (last_line x moves) (λ line. length (reply_text (with_hint None line)) ≤ 104985)) e h)
