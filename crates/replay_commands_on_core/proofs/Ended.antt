-- The end of a replay.
use Rattle.policy_rules.specs.declared.setting_rules.settings.Settings.{Settings}
use Rattle.replay_command_base.specs.declared.ending.Ending.{Ending}
use Rattle.replay_command_base.specs.declared.ending.Ending.TheVariants as endings
use Rattle.replay_commands_on_core.specs.Replay.{EndsAs, Stopped}
use Rattle.replay_command_base.specs.Streams.{FilterStreams}

pub ended : (o : Settings) (untouched : Type 0) (e : Ending) (start now : FilterStreams) → Stopped o e start now → EndsAs o untouched e start now
ended o untouched endings.NoMemory start now x = absurd x
ended o untouched e start now x = x
