-- The thinking line of what an engine reports.
use Rattle.std.specs.Prelude.{◌≡◌, ℕ, ◌+◌, ◌/◌, ◌≤◌, ℤ, pos, neg_ℤ, ◌+ℤ◌}
use Rattle.std.specs.Prelude.{◌-ℤ◌, int_lt, true, if◌then◌else◌, length, List}
use Rattle.std.specs.Prelude.{[], ◌∷◌, ◌++◌, Option, Some, None, IfSome}
use Rattle.std.specs.Option.{unwrap_or}
use Rattle.std.specs.List.{join_with_byte}
use Rattle.line_io.specs.Out.{Text, with}
use Rattle.chess_board.specs.declared.board.Move.{Move}
use Rattle.chess_board.specs.Position.{Position}
use Rattle.chess_board.specs.Play.{position_after}
use Rattle.chess_board.specs.Place.{legal}
use Rattle.chess_board.specs.Text.{text_of_move}
use Rattle.cecp_lines.specs.declared.reply.Spelling.{Spelling}
use Rattle.cecp_lines.specs.declared.reply.Spelling.TheVariants.{Coordinates, San}
use Rattle.cecp_lines.specs.Replies.{Reply, Thinking, reply_text}
use Rattle.san_text.specs.Writing.{san_of_move}
use Rattle.think_text.specs.declared.line.Pondered.{Pondered}
use Rattle.think_text.specs.declared.value.TheConstants.{MATE}
use Rattle.uci_lines.specs.declared.messages.Score.{Score}
use Rattle.uci_lines.specs.declared.messages.Score.TheVariants.{Cp, Mate}
use Rattle.uci_lines.specs.Info.{Info as AnyInfo}
use Rattle.uci_lines.specs.Messages.{Info}
use Rattle.uci_lines.specs.Engine.{engine_message}
use Rattle.protocol_tokens.specs.Bytes.{blank}

-- some line of the engine reports this
abbrev pub InfoIsHeard : AnyInfo → Type 0
InfoIsHeard facts = (line : List ℕ) × (engine_message line ≡ Info facts)

-- A score in hundredths of a pawn. A mate counts as 1,000 pawns, and is given in as
-- many moves more or less.
abbrev pub value_of : Score → ℤ
value_of (Cp score) = score
value_of (Mate moves) = if int_lt (pos 0) moves then MATE +ℤ moves else neg_ℤ (MATE -ℤ moves)

abbrev pub position_after_pv_move : Position → Move → Position
position_after_pv_move p m = position_after p m.from.index m.to.index m.promotion

-- the longest run of moves, from the first on, of which each is legal in its turn
abbrev pub legal_run : Position → List Move → List Move
legal_run p [] = []
legal_run p (m ∷ moves) = if legal p m then m ∷ legal_run (position_after_pv_move p m) moves else []

-- a move as it is written in a position
abbrev pub written : Spelling → Position → Move → List ℕ
written Coordinates p m = text_of_move m
written San p m = san_of_move p m

-- the moves of a run, each as it is written in the position in which it is played
abbrev pub run_texts : Spelling → Position → List Move → List (List ℕ)
run_texts s p [] = []
run_texts s p (m ∷ moves) = written s p m ∷ run_texts s (position_after_pv_move p m) moves

-- each of them after a blank
abbrev pub spaced_moves : Spelling → Position → List Move → List ℕ
spaced_moves s p [] = []
spaced_moves s p (m ∷ moves) = (blank ∷ written s p m) ++ spaced_moves s (position_after_pv_move p m) moves

-- The line with these texts of moves. It needs a depth, a score and a move; a time or a number of
-- nodes that is missing is 0.
abbrev pub line_with : Option ℕ → Option Score → List (List ℕ) → AnyInfo → Spelling
    → Option (List ℕ) → Option Reply
line_with (Some depth) (Some score) (text ∷ texts) facts spelling hint =
    Some (Thinking depth (value_of score) (unwrap_or facts.time 0 / 10) (unwrap_or facts.nodes 0)
    spelling hint (join_with_byte blank (text ∷ texts)))
line_with (Some depth) (Some score) [] facts spelling hint = None
line_with (Some depth) None texts facts spelling hint = None
line_with None score texts facts spelling hint = None

-- the hint, in the position before it
abbrev pub hint_text : Spelling → Option Pondered → Option (List ℕ)
hint_text s None = None
hint_text s (Some hint) = Some (written s hint.before hint.hint)

-- the line that the interface is shown of a search in a position, if there is one
abbrev pub thinking_line : Spelling → AnyInfo → Position → Option Pondered → Option Reply
thinking_line s facts p hint =
    line_with facts.depth facts.score (run_texts s p (legal_run p facts.pv)) facts s
    (hint_text s hint)

-- a hint can be played in the position before it
abbrev pub IsPlayableAsHint : Option Pondered → Type 0
IsPlayableAsHint hint = IfSome hint (λ h. legal h.before h.hint ≡ true)

abbrev pub text_with_line : Text → Option Reply → Text
text_with_line out None = out
text_with_line out (Some line) = with out (reply_text line)

-- there is room for the line
abbrev pub ThinkingLineHasRoom : Text → Option Reply → Type 0
ThinkingLineHasRoom out None = Unit {0}
ThinkingLineHasRoom out (Some line) = length out.text + length (reply_text line) ≤ out.room
