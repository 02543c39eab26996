use Rattle.std.proofs.Common.{◌∙◌}
use Rattle.replay_commands_on_core.proofs.Words.{fen_joined}
use Rattle.replay_commands_on_core.proofs.moves.join_arguments.Goals as goal

pub returns : goal.returns
returns c =
    fen_joined c.args.arguments.now c.first-item.result c.in_ok-text.text.items c.add_arguments.new.text.items c.in-len1-up.len_at_least c.first-item.is (c.in_ok-text.ensures.items ∙ c.as_slice.ensures.value) c.in_ok-add_arguments.ensures
