use Rattle.std.proofs.Common.{ap, ◌∙◌}
use Rattle.chess_board.specs.Position.{Position}
use Rattle.fen_text.specs.Written.{position_fen}
use Rattle.random_games.specs.declared.tally.Tally.{Tally}
use Rattle.random_games.specs.Tally.{drill_report_line}
use Rattle.random_games.proofs.Whole.{drilled}
use Rattle.random_games.proofs.run.drill_line.Goals as goal

pub returns : goal.returns
returns c =
    let is = c.put_line.ensures ∙ ap (λ (t : Tally). drill_report_line c.args.number c.args.count t (position_fen c.now.result.now)) c.tally-tally.ensures
    ∙ ap (λ (p : Position). drill_report_line c.args.number c.args.count c.close.new.self.tally (position_fen p)) c.now.ensures in
    drilled c.args.number c.args.count c.in_ok-drill.drill.session c.greet.new.self c.close.new.self (record c.in_ok-drill.drill { session = c.prepare.new.self }) c.play_rounds.new.self c.put_line.new.out.text
    c.in_ok-drill.ensures.core c.in_ok-drill.ensures.tally c.greet.ensures.sent c.prepare.ensures.sent c.in_ok-drill.ensures.stand c.play_rounds.ensures.rounds c.close.ensures.sent is
