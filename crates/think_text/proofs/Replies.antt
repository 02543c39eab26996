-- A thinking line is read as itself.
use Rattle.std.proofs.Common.{◌≡◌, ℕ, ◌+◌, ◌/◌, List, [], ◌∷◌, length, Bool, true, false, cond, Option, Some, None, refl, subst, arith}
use Rattle.std.specs.Prelude.{IfSome}
use Rattle.std.specs.List.{AllByRecursion}
use Rattle.std.specs.Option.{unwrap_or}
use Rattle.chess_board.specs.declared.board.Move.{Move}
use Rattle.chess_board.specs.Board.{piece_at}
use Rattle.chess_board.specs.Place.{legal}
use Rattle.chess_board.specs.Play.{IsPosition, kind_on}
use Rattle.chess_board.specs.Position.{Position}
use Rattle.chess_board.proofs.LegalMoves.{is_legal}
use Rattle.chess_board.proofs.Plays.{position_kept, passed_low}
use Rattle.cecp_lines.specs.declared.reply.Spelling.{Spelling}
use Rattle.cecp_lines.specs.declared.reply.Spelling.TheVariants.{Coordinates, San}
use Rattle.cecp_lines.specs.Replies.{Reply, Thinking, SpellsReply, IsMoveText, reply_text}
use Rattle.uci_lines.specs.declared.messages.Score.{Score}
use Rattle.uci_lines.specs.Info.{Info}
use Rattle.uci_lines.specs.Scores.{IsCentis}
use Rattle.uci_lines.proofs.Scores.{scores_are_centis}
use Rattle.think_text.specs.declared.line.Pondered.{Pondered}
use Rattle.think_text.specs.Line.{value_of, position_after_pv_move, legal_run, written, run_texts, line_with, hint_text, IsPlayableAsHint}
use Rattle.think_text.specs.Short.{IsBefore, LinesAreReplies}
use Rattle.think_text.proofs.Forms.{san_form}
use Rattle.think_text.proofs.Legal.{legal_writable}
use Rattle.think_text.proofs.Lines.{moves_text}
use Rattle.think_text.proofs.Short.{IsCount, IsWithin, reported_within, fits}

move_text : (s : Spelling) (p : Position) (m : Move) → IsPosition p → legal p m ≡ true → IsMoveText s (written s p m)
move_text Coordinates p m is e = record { move = m; writable = legal_writable p m e; is = refl }
move_text San p m is e = san_form p m is.pieces (is_legal p m e)

still : (p : Position) (m : Move) → IsPosition p → legal p m ≡ true → IsPosition (position_after_pv_move p m)
still p m is e =
    position_kept p m.from.index m.to.index m.promotion is m.from.on_board m.to.on_board
    (passed_low p.side (kind_on (piece_at p.pieces m.from.index)) m.from.index m.to.index m.from.on_board m.to.on_board) e

run_step : (s : Spelling) (p : Position) (m : Move) (moves : List Move) (b : Bool) → legal p m ≡ b → IsPosition p → (IsPosition (position_after_pv_move p m) → AllByRecursion (IsMoveText s) (run_texts s (position_after_pv_move p m) moves))
    → AllByRecursion (IsMoveText s) (run_texts s p (cond b (m ∷ moves) []))
run_step s p m moves true e is k = (move_text s p m is e, k (still p m is e))
run_step s p m moves false e is k = tt

run_moves : (s : Spelling) (p : Position) (moves : List Move) → IsPosition p → AllByRecursion (IsMoveText s) (run_texts s p (legal_run p moves))
run_moves s p [] is = tt
run_moves s p (m ∷ moves) is = run_step s p m (legal_run (position_after_pv_move p m) moves) (legal p m) refl is (run_moves s (position_after_pv_move p m) moves)

hint_move : (s : Spelling) (hint : Option Pondered) → IfSome hint IsBefore → IsPlayableAsHint hint → IfSome (hint_text s hint) (IsMoveText s)
hint_move s None is h = tt
hint_move s (Some hint) is h = move_text s hint.before hint.hint is h

line_reply : (d : Option ℕ) (score : Option Score) (s : Spelling) (p : Position) (moves : List Move) (f : Info) (hint : Option Pondered) (t : Reply) (n : ℕ)
    → IfSome d IsCount → IfSome score IsCentis → IsWithin n f → AllByRecursion (IsMoveText s) (run_texts s p moves) → IfSome (hint_text s hint) (IsMoveText s)
    → line_with d score (run_texts s p moves) f s (hint_text s hint) ≡ Some t → SpellsReply (reply_text t) t
line_reply (Some depth) (Some score) s p (m ∷ moves) f hint t n h k w a b e =
    let reported : Reply = Thinking depth (value_of score) (unwrap_or f.time 0 / 10) (unwrap_or f.nodes 0) s (hint_text s hint) (moves_text s p (m ∷ moves)) in
    let same : reported ≡ t = cc in
    subst (λ (x : Reply). SpellsReply (reply_text x) x) same (record {
      form = (b, record { texts = run_texts s p (m ∷ moves); some = omega arith; moves = a; text = refl });
      fits = fits depth score f n s (hint_text s hint) (moves_text s p (m ∷ moves)) h k w;
      text = refl;
    })
line_reply (Some depth) (Some score) s p [] f hint t n h k w a b e = absurd (cc)
line_reply (Some depth) None s p moves f hint t n h k w a b e = absurd (cc)
line_reply None score s p moves f hint t n h k w a b e = absurd (cc)

pub lines_replies : LinesAreReplies
lines_replies s f p hint t is before h heard e =
    line_reply f.depth f.score s p (legal_run p f.pv) f hint t (length heard.0 + 1) (reported_within heard.0 f heard.1).depth (scores_are_centis heard.0 f heard.1) (reported_within heard.0 f heard.1) (run_moves s p f.pv is)
    (hint_move s hint before h) e
