-- The first moves and their positions stay.
use Rattle.std.proofs.Common.{◌≡◌, ℕ, ◌-◌, ◌≤◌, List, length, take, ap, ◌∙◌, arith}
use Rattle.std.proofs.lemmas.List.{length-map, length-take}
use Rattle.chess_board.specs.Position.{Position}
use Rattle.game_record.specs.Game.{Ply, Game, ply_of, plies_of, without_last}
use Rattle.game_record.proofs.Courses.{keeps_take, plies_of-take}
use Rattle.game_record.proofs.game.Game.undo.Goals as goal

pub invariant_of-self : goal.invariant_of-self
invariant_of-self c =
    let less : length c.truncate.new.self.items ≤ length c.self.inside.moves.items = omega (arith, ap length c.truncate.ensures.items, length-take (c.len-plies.result - c.args.n) c.self.inside.moves.items) in
    keeps_take (c.len-plies.result - c.args.n) c.self.inside.start c.self.inside.moves.items _ c.self.inside.later.items _ c.self.inside.times.items _ _ _ _ _ _ _ _ _
    c.self.invariant c.truncate.ensures.items c.truncate-2.ensures.items c.truncate-3.ensures.items c.truncate.ensures.capacity c.truncate-2.ensures.capacity c.truncate-3.ensures.capacity less
    (λ left positions times. c.ended_in-self-inside.ensures left (c.as_slice.ensures.value ∙ positions) (c.as_slice-2.ensures.value ∙ times))

abbrev course : Position → List Ply → Game
course start moves = record { start = start; moves = moves }

pub returns-clause-ok : goal.returns-clause-ok
returns-clause-ok c =
    let len : c.len-plies.result ≡ length (plies_of c.self.inside.moves.items) = omega (arith, length-map c.self.inside.moves.items ply_of) in
    let moves : plies_of c.truncate.new.self.items ≡ take (length (plies_of c.self.inside.moves.items) - c.args.n) (plies_of c.self.inside.moves.items) =
    ap plies_of c.truncate.ensures.items ∙ plies_of-take (c.len-plies.result - c.args.n) c.self.inside.moves.items
    ∙ ap (λ (k : ℕ). take (k - c.args.n) (plies_of c.self.inside.moves.items)) len in
    ap (λ (left : List Ply). course c.self.inside.start left) moves ∙ ap (λ (g : Game). without_last g c.args.n) c.self.view_is
