-- The text of a line, move by move.
use Rattle.std.proofs.Common.{◌≡◌, ℕ, ◌+◌, ◌/◌, ◌≤◌, List, [], ◌∷◌, ◌++◌, length, decimal, Option, Some, None, refl, sym, ap, subst, arith}
use Rattle.std.specs.Fmt.{signed_decimal}
use Rattle.std.proofs.lemmas.List.{append-nil, length-append}
use Rattle.std.specs.List.{join_with_byte}
use Rattle.std.specs.Option.{unwrap_or}
use Rattle.chess_board.specs.declared.board.Move.{Move}
use Rattle.chess_board.specs.Position.{Position}
use Rattle.line_io.specs.Out.{Text, empty}
use Rattle.cecp_lines.specs.declared.reply.Spelling.{Spelling}
use Rattle.cecp_lines.specs.Replies.{Reply, Thinking, field, reply_text}
use Rattle.uci_lines.specs.declared.messages.Score.{Score}
use Rattle.uci_lines.specs.Info.{Info}
use Rattle.think_text.specs.declared.line.Pondered.{Pondered}
use Rattle.think_text.specs.Line.{legal_run, position_after_pv_move, written, run_texts, spaced_moves, value_of, hint_text, thinking_line, ThinkingLineHasRoom}

-- the moves of a run, with one blank between
abbrev pub moves_text : Spelling → Position → List Move → List ℕ
moves_text s p moves = join_with_byte 32 (run_texts s p moves)

pub first_and_others : (s : Spelling) (p : Position) (m : Move) (moves : List Move) → moves_text s p (m ∷ moves) ≡ written s p m ++ spaced_moves s (position_after_pv_move p m) moves
first_and_others s p m [] = sym (append-nil (written s p m))
first_and_others s p m (n ∷ moves) = ap (λ (t : List ℕ). written s p m ++ (32 ∷ t)) (first_and_others s (position_after_pv_move p m) n moves)

-- a line with these moves
abbrev pub line_of : Spelling → Info → ℕ → Score → Option Pondered → List ℕ → Reply
line_of s facts depth score hint pv = Thinking depth (value_of score) (unwrap_or facts.time 0 / 10) (unwrap_or facts.nodes 0) s (hint_text s hint) pv

-- the line of what is told, and that there is room for it
pub line_found : (s : Spelling) (facts : Info) (p : Position) (hint : Option Pondered) (depth : ℕ) (score : Score) (m : Move) (moves : List Move) →
    facts.depth ≡ Some depth → facts.score ≡ Some score → legal_run p facts.pv ≡ m ∷ moves →
    thinking_line s facts p hint ≡ Some (line_of s facts depth score hint (moves_text s p (m ∷ moves)))
line_found s facts p hint depth score m moves e f g = rw (e, f, g) refl

pub has_room : (out : Text) (found : Option Reply) (line : Reply) → found ≡ Some line → ThinkingLineHasRoom out found → length out.text + length (reply_text line) ≤ out.room
has_room out found line e h = subst (λ (x : Option Reply). ThinkingLineHasRoom out x) e h

-- the moves are a part of the line
pub moves_fit : (room : ℕ) (s : Spelling) (facts : Info) (p : Position) (depth : ℕ) (score : Score) (m : Move) (moves : List Move) →
    facts.depth ≡ Some depth → facts.score ≡ Some score → legal_run p facts.pv ≡ m ∷ moves → ThinkingLineHasRoom (empty room) (thinking_line s facts p None) →
    length (written s p m) + length (spaced_moves s (position_after_pv_move p m) moves) ≤ room
moves_fit room s facts p depth score m moves d f l h =
    let pv = moves_text s p (m ∷ moves) in
    let start = field (decimal depth) ++ field (signed_decimal (value_of score)) ++ field (decimal (unwrap_or facts.time 0 / 10)) ++ field (decimal (unwrap_or facts.nodes 0)) ++ [] in
    let whole = has_room (empty room) (thinking_line s facts p None) _ (line_found s facts p None depth score m moves d f l) h in
    omega (arith, whole, length-append start pv, ap length (first_and_others s p m moves), length-append (written s p m) (spaced_moves s (position_after_pv_move p m) moves))
