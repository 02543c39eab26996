use Rattle.std.proofs.Common.{◌≡◌, ◌<◌, ◌∷◌, [], ◌++◌, length, sym, ap, subst, ◌∙◌, arith}
use Rattle.game_record.specs.Game.{Game, ply_of, plies_of, AreLegal, IsPlayablePly, current_position, with_ply}
use Rattle.session_export.proofs.Followed.{last_is, legal_last, plays}
use Rattle.session_export.proofs.follow.play_last.Goals as goal

pub play-requires-clause-legal : goal.play-requires-clause-legal
play-requires-clause-legal c =
    let g = c.args.game.now in
    let h = c.args.now.now in
    let p = plays g h c.requires.follows c.requires.longer in
    let plies : plies_of c.moves.result.now ≡ g.moves ++ p.0 ∷ [] = c.moves.ensures.moves ∙ ap (λ (x : Game). x.moves) p.1 in
    let last : ply_of c.in-Some.m.now ≡ p.0 = last_is c.moves.result.now g.moves p.0 c.in-Some.m.now plies (sym c.in-Some.ensures.value) in
    let legal : AreLegal g.start (g.moves ++ p.0 ∷ []) = subst (λ (x : Game). AreLegal x.start x.moves) p.1 c.facts.ensures.legal in
    subst (IsPlayablePly (current_position g)) (sym last) (legal_last g.start g.moves p.0 legal)

pub play-requires-clause-room : goal.play-requires-clause-room
play-requires-clause-room c = let few : length c.args.game.now.moves < 12000 = omega arith in few

pub returns-in-Some : goal.returns-in-Some
returns-in-Some c =
    let g = c.args.game.now in
    let h = c.args.now.now in
    let p = plays g h c.requires.follows c.requires.longer in
    let plies : plies_of c.moves.result.now ≡ g.moves ++ p.0 ∷ [] = c.moves.ensures.moves ∙ ap (λ (x : Game). x.moves) p.1 in
    let last : ply_of c.in-Some.m.now ≡ p.0 = last_is c.moves.result.now g.moves p.0 c.in-Some.m.now plies (sym c.in-Some.ensures.value) in
    c.play.ensures ∙ ap (with_ply g) last ∙ sym p.1
