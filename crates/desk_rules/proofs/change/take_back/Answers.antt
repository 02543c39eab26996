use Rattle.desk_rules.proofs.Plays.{undone}
use Rattle.desk_rules.proofs.change.take_back.Goals as goal

pub returns : goal.returns
returns c = undone c.undo.result c.args.game.now c.undo.new.self c.args.n c.undo.ensures.refused c.undo.ensures.ok c.requires
