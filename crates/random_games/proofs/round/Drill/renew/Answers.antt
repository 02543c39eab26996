use Rattle.std.proofs.Common.{◌≡◌, false, refl, sym, ap, subst}
use Rattle.game_record.specs.Game.{Game}
use Rattle.random_games.specs.Rounds.{Drill, is_spent}
use Rattle.random_games.proofs.Start.{start_open}
use Rattle.random_games.proofs.round.Drill.renew.Goals as goal

pub returns-clause-open : goal.returns-clause-open
returns-clause-open c = subst (λ (g : Game). is_spent g ≡ false) (sym (ap (λ (s : Drill). s.game) c.begin_anew.ensures.stand)) (rw start_open refl)
