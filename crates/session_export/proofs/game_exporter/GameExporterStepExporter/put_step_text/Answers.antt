use Rattle.std.proofs.Common.{sym, subst}
use Rattle.game_record.specs.Game.{Game}
use Rattle.session_export.specs.Following.{GameFollows}
use Rattle.session_export.proofs.game_exporter.GameExporterStepExporter.put_step_text.Goals as goal

pub follow-requires : goal.follow-requires
follow-requires c = let x = c.requires.follows in subst (λ (g : Game). GameFollows g c.args.game.now) (sym x.1) x.2
