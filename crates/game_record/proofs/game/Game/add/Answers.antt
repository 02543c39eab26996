-- The move, its position and how often that stood are put at the ends.
use Rattle.std.proofs.Common.{◌≡◌, ℕ, ◌+◌, ◌<◌, length, refl, sym, ap, subst, ◌∙◌, arith, [], ◌∷◌}
use Rattle.std.proofs.lemmas.List.{length-map}
use Rattle.chess_board.specs.Position.{Position}
use Rattle.game_record.specs.Game.{Game, ply_of, plies_of, position_after_ply, IsPlayablePly, current_position, now_after, positions_of}
use Rattle.game_record.specs.Ending.{stood_in}
use Rattle.game_record.specs.Keeps.{most_plies}
use Rattle.game_record.proofs.Courses.{keeps_push}
use Rattle.game_record.proofs.Replays.{length-later}
use Rattle.game_record.proofs.Times.{length-times}
use Rattle.game_record.proofs.States.{ended_same}
use Rattle.game_record.proofs.game.Game.add.Goals as goal

pub push_reserved-requires : goal.push_reserved-requires
push_reserved-requires c =
    let few : length (plies_of c.self.inside.moves.items) < most_plies = subst (λ (g : Game). length g.moves < most_plies) (sym c.self.view_is) c.requires.room in
    let plies = length-map c.self.inside.moves.items ply_of in
    omega arith

pub push_reserved-requires-2 : goal.push_reserved-requires-2
push_reserved-requires-2 c =
    let few : length (plies_of c.self.inside.moves.items) < most_plies = subst (λ (g : Game). length g.moves < most_plies) (sym c.self.view_is) c.requires.room in
    let positions = ap length c.self.invariant.positions_are ∙ length-later c.self.inside.start (plies_of c.self.inside.moves.items) in
    omega arith

pub push_reserved-requires-3 : goal.push_reserved-requires-3
push_reserved-requires-3 c =
    let few : length (plies_of c.self.inside.moves.items) < most_plies = subst (λ (g : Game). length g.moves < most_plies) (sym c.self.view_is) c.requires.room in
    let times = ap length c.self.invariant.times_are ∙ length-times (c.self.inside.start ∷ []) c.self.inside.start (plies_of c.self.inside.moves.items) in
    omega arith

pub invariant_of-self : goal.invariant_of-self
invariant_of-self c =
    let now : current_position c.args.self.now ≡ now_after c.self.inside.start (plies_of c.self.inside.moves.items) = sym (ap current_position c.self.view_is) in
    let legal = subst (λ (p : Position). IsPlayablePly p (ply_of c.args.m)) now c.requires.legal in
    let few : length (plies_of c.self.inside.moves.items) < most_plies = subst (λ (g : Game). length g.moves < most_plies) (sym c.self.view_is) c.requires.room in
    let stood = ap (λ (n : ℕ). n + 1) (c.stood-times.ensures.value ∙ ap (λ (g : Game). stood_in c.args.after (positions_of g)) (sym c.self.view_is)) in
    let end = c.ended_by-ended.ensures ∙ ended_same _ _ _ _ _ _ c.state_of.ensures refl c.half.ensures in
    keeps_push c.self.inside.start c.self.inside.moves.items _ c.self.inside.later.items _ c.self.inside.times.items _ c.args.m c.args.after _ _ _ _ _ _ _ _ _
    c.self.invariant c.push_reserved.ensures.items c.push_reserved-2.ensures.items c.push_reserved-3.ensures.items
    c.push_reserved.ensures.capacity c.push_reserved-2.ensures.capacity c.push_reserved-3.ensures.capacity
    (c.requires.after ∙ ap (λ (p : Position). position_after_ply p (ply_of c.args.m)) now) stood end legal few
