use Rattle.std.proofs.Common.{◌≡◌, ◌<◌, List, length, get_or, ap, subst, ◌∙◌, arith}
use Rattle.chess_board.specs.declared.board.Move.{Move}
use Rattle.chess_board.specs.Position.{Position}
use Rattle.chess_board.specs.Text.{AreLegalMoves}
use Rattle.chess_board.proofs.Texts.{legal-written}
use Rattle.game_record.specs.Game.{current_position}
use Rattle.random_games.specs.Generator.{next, place_of}
use Rattle.random_games.specs.Stood.{stand_of}
use Rattle.random_games.proofs.Drawing.{some_legal, drawn_at, place_legal}
use Rattle.random_games.proofs.round.Drill.draw.Goals as goal

pub place_of-requires : goal.place_of-requires
place_of-requires c =
    let moves = c.moves-moves.result.items in
    let are : AreLegalMoves c.now.result.now moves = record { each = c.moves-moves.ensures.each; ordered = c.moves-moves.ensures.ordered } in
    let some = some_legal (current_position c.args.self.now.game) moves (subst (λ (p : Position). AreLegalMoves p moves) c.now.ensures are) c.requires in
    let size : c.len.result ≡ length moves = c.len.ensures.value in
    omega (arith, size, some)

pub returns-clause-drawn : goal.returns-clause-drawn
returns-clause-drawn c =
    let moves = c.moves-moves.result.items in
    let m = c.index-as_slice-place_of.result in
    let are : AreLegalMoves c.now.result.now moves = record { each = c.moves-moves.ensures.each; ordered = c.moves-moves.ensures.ordered } in
    let size : c.len.result ≡ length moves = c.len.ensures.value in
    let place = c.place_of.ensures.value ∙ ap (λ x. place_of x c.len.result) c.next-self.ensures ∙ ap (place_of (next c.args.self.now.seed)) size in
    let within : c.place_of.result < length moves = omega (arith, size, c.place_of.ensures.within) in
    drawn_at (stand_of c.args.self.now) moves c.place_of.result m (subst (λ (p : Position). AreLegalMoves p moves) c.now.ensures are) place within
    (c.index-as_slice-place_of.is ∙ ap (λ (ms : List Move). get_or ms c.place_of.result m) c.as_slice.ensures.value)

pub returns-clause-legal : goal.returns-clause-legal
returns-clause-legal c =
    let moves = c.moves-moves.result.items in
    let m = c.index-as_slice-place_of.result in
    let are : AreLegalMoves c.now.result.now moves = record { each = c.moves-moves.ensures.each; ordered = c.moves-moves.ensures.ordered } in
    let size : c.len.result ≡ length moves = c.len.ensures.value in
    let within : c.place_of.result < length moves = omega (arith, size, c.place_of.ensures.within) in
    place_legal (current_position c.args.self.now.game) moves c.place_of.result m (subst (λ (p : Position). AreLegalMoves p moves) c.now.ensures are) within
    (c.index-as_slice-place_of.is ∙ ap (λ (ms : List Move). get_or ms c.place_of.result m) c.as_slice.ensures.value)

pub returns-clause-officer : goal.returns-clause-officer
returns-clause-officer c = legal-written (current_position c.args.self.now.game) c.index-as_slice-place_of.result (returns-clause-legal c)
