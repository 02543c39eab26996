use Rattle.std.proofs.Common.{sym, ◌∙◌}
use Rattle.random_games.proofs.Drawing.{open_legal}
use Rattle.random_games.proofs.Rounds.{answers_alone, answers_hinted}
use Rattle.random_games.proofs.round.Drill.move_engine.Goals as goal

pub draw-m-requires : goal.draw-m-requires
draw-m-requires c = open_legal c.args.self.now.game (sym c.has_ended.ensures ∙ c.if-has_ended.false)

pub answer_with_hint-requires-clause-legal : goal.answer_with_hint-requires-clause-legal
answer_with_hint-requires-clause-legal c = c.can_move.ensures.0 c.if-can_move.true

pub returns-then-can_move-clause-moves : goal.returns-then-can_move-clause-moves
returns-then-can_move-clause-moves c =
    answers_hinted c.args.self.now c.draw-m.new.self c.play.new.self c.answer_with_hint.new.self c.draw-m.result c.requires.quiet (sym c.has_ended.ensures ∙ c.if-has_ended.false) c.draw-m.ensures.drawn c.draw-m.ensures.after c.play.ensures
    c.answer_with_hint.ensures.moves

pub returns-clause-moves : goal.returns-clause-moves
returns-clause-moves c =
    answers_alone c.args.self.now c.draw-m.new.self c.play.new.self c.draw-m.result c.answer.new.self c.requires.quiet (sym c.has_ended.ensures ∙ c.if-has_ended.false) c.draw-m.ensures.drawn c.draw-m.ensures.after c.play.ensures
    (λ h. let yes = c.can_move.ensures.1 h in let no = c.if-can_move.false in cc) c.answer.ensures.sent
