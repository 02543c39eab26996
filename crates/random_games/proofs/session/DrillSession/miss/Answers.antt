use Rattle.std.proofs.Common.{[], ◌∷◌, Option, refl, inr, sym, subst}
use Rattle.chess_board.specs.declared.board.Move.{Move}
use Rattle.random_games.specs.Rounds.{Misses, answer_without_move}
use Rattle.random_games.proofs.Sending.{sent_one}
use Rattle.random_games.proofs.session.DrillSession.miss.Goals as goal

pub returns-clause-sent : goal.returns-clause-sent
returns-clause-sent c =
    let misses = subst (λ (h : Option Move). Misses h c.args.m (answer_without_move ∷ [])) (sym c.in-Some.is) (inr (λ e. let same = c.equal_moves.ensures.1 e in let not = c.if-equal_moves.false in cc, refl)) in
    (answer_without_move ∷ [], misses, sent_one c.args.self.now c.engine.new.self answer_without_move c.engine.ensures.sends)
