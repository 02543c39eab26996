-- At most 12,000 positions follow the start.
use Rattle.std.proofs.Common.{◌≡◌, ◌∷◌, List, length, sym, subst, ap, ◌∙◌, arith}
use Rattle.std.proofs.lemmas.List.{length-map}
use Rattle.chess_board.specs.Position.{Position}
use Rattle.game_record.specs.Game.{Game, ply_of, plies_of, position_after_ply, IsPlayablePly, current_position, now_after, positions_of}
use Rattle.game_record.specs.Ending.{stood_in}
use Rattle.game_record.specs.Keeps.{left_behind}
use Rattle.game_record.proofs.Replays.{length-later}
use Rattle.game_record.proofs.Times.{are_times, stood_few}
use Rattle.game_record.proofs.Recent.{new_behind}
use Rattle.game_record.proofs.game.Game.stood.Goals as goal

pub last_stood-requires-clause-times : goal.last_stood-requires-clause-times
last_stood-requires-clause-times c =
    are_times c.self.inside.start (plies_of c.self.inside.moves.items) _ _ (c.as_slice.ensures.value ∙ c.self.invariant.positions_are) (c.as_slice-2.ensures.value ∙ c.self.invariant.times_are)

pub last_stood-requires-clause-behind : goal.last_stood-requires-clause-behind
last_stood-requires-clause-behind c =
    let start = c.self.inside.start in
    let moves = c.self.inside.moves.items in
    let now : current_position c.args.self.now ≡ now_after start (plies_of moves) = sym (ap current_position c.self.view_is) in
    let few = c.self.invariant.few in
    let plies = length-map moves ply_of in
    let playable = subst (λ (p : Position). IsPlayablePly p (ply_of c.args.m)) now c.requires.legal in
    let after = c.requires.after ∙ ap (λ (p : Position). position_after_ply p (ply_of c.args.m)) now in
    let none = new_behind start moves c.args.m c.args.after.now c.facts.ensures.position c.self.invariant.legal (omega arith) playable after in
    ap (λ (xs : List Position). stood_in c.args.after.now (left_behind c.args.after.now (start ∷ xs))) (c.as_slice.ensures.value ∙ c.self.invariant.positions_are) ∙ none

pub returns-clause-value : goal.returns-clause-value
returns-clause-value c =
    c.last_stood.ensures ∙ ap (λ (xs : List Position). stood_in c.args.after.now (c.self.inside.start ∷ xs)) (c.as_slice.ensures.value ∙ c.self.invariant.positions_are)
    ∙ ap (λ (g : Game). stood_in c.args.after.now (positions_of g)) c.self.view_is

pub returns-clause-few : goal.returns-clause-few
returns-clause-few c =
    let few = stood_few c.args.after.now c.self.inside.start c.as_slice.result.now in
    let count = ap length (c.as_slice.ensures.value ∙ c.self.invariant.positions_are) ∙ length-later c.self.inside.start (plies_of c.self.inside.moves.items) in
    omega arith
