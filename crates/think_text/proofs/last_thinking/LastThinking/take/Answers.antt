use Rattle.std.proofs.Common.{◌≡◌, ◌∷◌, ◌++◌, List, ℕ, Some, None, length, sym, ap, ◌∙◌, arith, length-append}
use Rattle.line_io.specs.Out.{Text, with}
use Rattle.protocol_tokens.specs.Tokens.{tokens}
use Rattle.uci_lines.specs.Moves.{longest_move_run}
use Rattle.uci_lines.specs.Info.{info_of}
use Rattle.chess_board.specs.declared.board.Move.{Move}
use Rattle.chess_board.specs.Position.{Position}
use Rattle.think_text.specs.declared.last_thinking.LineStart.{LineStart}
use Rattle.think_text.specs.Line.{legal_run, position_after_pv_move, spaced_moves, thinking_line, written}
use Rattle.think_text.specs.Last.{last_after, thinking_line_from}
use Rattle.think_text.proofs.Heard.{score_small}
use Rattle.think_text.proofs.Hints.{taken_short}
use Rattle.think_text.proofs.Lines.{moves_text, first_and_others, line_found, moves_fit}
use Rattle.think_text.proofs.last_thinking.LastThinking.take.Goals as goal

pub line_start-requires : goal.line_start-requires
line_start-requires c = score_small (info_of c.args.info.now) c.in-Some-Some.score c.requires.heard c.in-Some-Some.is-1

pub put_move-requires-clause-room : goal.put_move-requires-clause-room
put_move-requires-clause-room c =
    let later : List Move = legal_run (position_after_pv_move c.args.at.now c.in-Some.first.m) (longest_move_run (tokens c.in-Some.first.others.now)) in
    let fits = moves_fit 104985 c.args.spelling (info_of c.args.info.now) c.args.at.now c.in-Some-Some.depth c.in-Some-Some.score c.in-Some.first.m later c.in-Some-Some.is-0 c.in-Some-Some.is-1 c.in-Some.ensures.2 c.requires.room in
    omega (arith, fits, c.self.invariant.room, ap (λ (t : Text). length t.text) c.clear.ensures, ap (λ (t : Text). t.room) c.clear.ensures)

pub write_moves-requires : goal.write_moves-requires
write_moves-requires c =
    let s = c.args.spelling in
    let p = c.args.at.now in
    let first : Move = c.in-Some.first.m in
    let later : List Move = legal_run (position_after_pv_move p first) (longest_move_run (tokens c.in-Some.first.others.now)) in
    let fits = moves_fit 104985 s (info_of c.args.info.now) p c.in-Some-Some.depth c.in-Some-Some.score first later c.in-Some-Some.is-0 c.in-Some-Some.is-1 c.in-Some.ensures.2 c.requires.room in
    let left : length (spaced_moves s c.in-Some.first.after (legal_run c.in-Some.first.after (longest_move_run (tokens c.in-Some.first.others.now)))) ≡ length (spaced_moves s (position_after_pv_move p first) later) =
    ap (λ (q : Position). length (spaced_moves s q (legal_run q (longest_move_run (tokens c.in-Some.first.others.now))))) c.in-Some.ensures.1 in
    let put = c.put_move.ensures ∙ ap (λ (t : Text). with t (written s p first)) c.clear.ensures in
    omega (arith, fits, left, c.self.invariant.room, ap (λ (t : Text). length t.text) put, ap (λ (t : Text). t.room) put)

-- the line that is kept then
kept_line : (c : goal.After-write_moves) → Some (thinking_line_from c.write_moves.new.out.text c.line_start.result) ≡ last_after None (thinking_line c.args.spelling (info_of c.args.info.now) c.args.at.now None)
kept_line c =
    let s = c.args.spelling in
    let p = c.args.at.now in
    let first : Move = c.in-Some.first.m in
    let later : List Move = legal_run (position_after_pv_move p first) (longest_move_run (tokens c.in-Some.first.others.now)) in
    let left : spaced_moves s c.in-Some.first.after (legal_run c.in-Some.first.after (longest_move_run (tokens c.in-Some.first.others.now))) ≡ spaced_moves s (position_after_pv_move p first) later =
    ap (λ (q : Position). spaced_moves s q (legal_run q (longest_move_run (tokens c.in-Some.first.others.now)))) c.in-Some.ensures.1 in
    let put = c.put_move.ensures ∙ ap (λ (t : Text). with t (written s p first)) c.clear.ensures in
    let out = c.write_moves.ensures ∙ ap (λ (t : Text). with t (spaced_moves s c.in-Some.first.after (legal_run c.in-Some.first.after (longest_move_run (tokens c.in-Some.first.others.now))))) put in
    let text = ap (λ (t : Text). t.text) out ∙ ap (λ (t : List ℕ). written s p first ++ t) left ∙ sym (first_and_others s p first later) in
    ap (λ (t : List ℕ). Some (thinking_line_from t c.line_start.result)) text
    ∙ ap (λ (l : LineStart). Some (thinking_line_from (moves_text s p (first ∷ later)) l)) c.line_start.ensures
    ∙ sym (ap (last_after None) (line_found s (info_of c.args.info.now) p None c.in-Some-Some.depth c.in-Some-Some.score first later c.in-Some-Some.is-0 c.in-Some-Some.is-1 c.in-Some.ensures.2))

pub returns-clause-line : goal.returns-clause-line
returns-clause-line c =
    let same = line_found c.args.spelling (info_of c.args.info.now) c.args.at.now None c.in-Some-Some.depth c.in-Some-Some.score c.in-Some.first.m (legal_run (position_after_pv_move c.args.at.now c.in-Some.first.m) (longest_move_run (tokens c.in-Some.first.others.now))) c.in-Some-Some.is-0 c.in-Some-Some.is-1 c.in-Some.ensures.2 in
    kept_line c ∙ ap (last_after None) same ∙ sym (ap (last_after c.args.self.now) same)

pub invariant_of-self : goal.invariant_of-self
invariant_of-self c = record {
  room = ap (λ (t : Text). t.room) c.write_moves.ensures ∙ ap (λ (t : Text). t.room) c.put_move.ensures ∙ ap (λ (t : Text). t.room) c.clear.ensures ∙ c.self.invariant.room;
  short = taken_short (thinking_line_from c.write_moves.new.out.text c.line_start.result) c.args.spelling (info_of c.args.info.now) c.args.at.now (kept_line c) c.requires.room;
}
