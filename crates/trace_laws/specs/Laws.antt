-- The laws of every lawful trace, all together.
use Rattle.policy_rules.specs.declared.setting_rules.settings.Settings.{Settings}
use Rattle.adapter_core.specs.Alone.{DeskIsAlone, IsApartFromEngine, RepliesAreAlone}
use Rattle.adapter_core.specs.Shown.{MovesAreShownInTime, MovesAreShownOnce}
use Rattle.adapter_core.specs.Shown.{RefusedLinesChangeNothing}
use Rattle.adapter_core.specs.Represents.{IsOneDialogue, IsSilentToEngine, IsSilentToIface}
use Rattle.trace_laws.specs.Dialogue.{SearchesServe, SearchesShowOnce, StopLineComesOnce}
use Rattle.trace_laws.specs.EarlyLines.{EarlyLinesWait, EarlyLinesComeInTime, RefusedEarlyLinesChangeNothing}
use Rattle.trace_laws.specs.Existence.{EventsMayCome, TracesExist}
use Rattle.trace_laws.specs.FirstAndLast.{UciIsFirst, QuitIsLast}
use Rattle.trace_laws.specs.Fences.{SearchesAreFenced, StoppedSearchIsUnfenced}
use Rattle.trace_laws.specs.Limits.{CoresAreWithinLimits}
use Rattle.trace_laws.specs.Pings.{NoneIsHeld, PingsHavePongs, PongsWait}
use Rattle.trace_laws.specs.PlainTexts.{FeaturesArePlain}
use Rattle.trace_laws.specs.Resigning.{GoneEngineOwesNothing, GoneEngineGivesUp, GamesEndAloud, LosersAreTheEngines, ResignsOnce}
use Rattle.trace_laws.specs.Searched.{SearchesAreTheDesks, MovesAnswerTheDesk}
use Rattle.trace_laws.specs.Values.{LastAskedStands, SearchesHaveSettings}
use Rattle.trace_laws.specs.Wire.{EndsAreOnWire, EngineIsOnWire, GoLineFollowsPosition}
use Rattle.trace_laws.specs.Wire.{GoneEngineGetsNoLine, IdleEngineGetsLines, PonderGetsHitLine, SearchGetsStopLine}

-- The laws of every lawful trace with these settings, so of each one that a program makes.
pub record HasLaws (o : Settings) : Type 0 where
  -- the events of a lawful trace have no other lawful trace, and events have one if they may come
  pub one_dialogue : IsOneDialogue o
  pub exists : TracesExist o
  pub may_come : EventsMayCome o
  -- a move is shown exactly in the step that answers with it, and once
  pub shown_in_time : MovesAreShownInTime o
  pub shown_once : MovesAreShownOnce o
  -- a refused line changes nothing, and the engine gets nothing
  pub refused_changes_nothing : RefusedLinesChangeNothing o
  -- the choices of the interface alone, whenever the engine speaks
  pub desk_alone : DeskIsAlone o
  pub apart_from_engine : IsApartFromEngine o
  pub replies_alone : RepliesAreAlone o
  -- the engine is what the wire shows, so is which sides have ended, and each order reaches only
  -- an engine that may get it
  pub engine_on_wire : EngineIsOnWire o
  pub ends_on_wire : EndsAreOnWire o
  pub idle_gets_them : IdleEngineGetsLines o
  pub search_gets_stop : SearchGetsStopLine o
  pub ponder_gets_hit : PonderGetsHitLine o
  pub gone_gets_nothing : GoneEngineGetsNoLine o
  pub go_follows_position : GoLineFollowsPosition o
  -- nothing is written to a side that has ended or was lost
  pub silent_to_iface : IsSilentToIface o
  pub silent_to_engine : IsSilentToEngine o
  -- a search gets one `stop` at most and shows one move at most, and an open current
  -- one is what is called for
  pub stops_once : StopLineComesOnce o
  pub searches_show_once : SearchesShowOnce o
  pub searches_serve : SearchesServe o
  -- with FenceStops on a search begins only once the engine has answered an `isready` after the
  -- last `stop`, and in an open one a `stop` is unfenced exactly if the search is stopped
  pub searches_fenced : SearchesAreFenced o
  pub stopped_unfenced : StoppedSearchIsUnfenced o
  -- each accepted ping has one pong, in order, or is held, and none is held unless a Move is owed
  pub pings_have_pongs : PingsHavePongs o
  pub pongs_wait : PongsWait o
  pub no_ping_held : NoneIsHeld o
  -- the value that was asked for an option last is the one that was written last, or is held; if a
  -- search begins it was written
  pub last_asked_stands : LastAskedStands o
  pub searches_have_settings : SearchesHaveSettings o
  -- `uci` is the first order and written once, and nothing is written behind a `quit`
  pub uci_first : UciIsFirst o
  pub quit_last : QuitIsLast o
  -- the position of an open current search is the desk's, and a shown move answers it
  pub searches_are_the_desks : SearchesAreTheDesks o
  pub moves_answer_the_desk : MovesAnswerTheDesk o
  -- settings that come early wait, in Boot alone, and are answered as if they came right after it was
  -- left; one that is refused then changes nothing
  pub early_lines_wait : EarlyLinesWait o
  pub early_lines_in_time : EarlyLinesComeInTime o
  pub refused_early_lines : RefusedEarlyLinesChangeNothing o
  -- an engine that is gone owes no move if it resigns then, and the step says so; a game is given up
  -- aloud, and the engine gives up once at most until it is given a side anew; where the result says
  -- how, it is the engine's side that has lost
  pub gone_owes_nothing : GoneEngineOwesNothing o
  pub gone_gives_up : GoneEngineGivesUp o
  pub games_end_aloud : GamesEndAloud o
  pub resigns_once : ResignsOnce o
  pub losers_are_the_engines : LosersAreTheEngines o
  -- with PlainTexts on the interface is offered plain texts
  pub features_plain : FeaturesArePlain o
  -- what a core holds
  pub within_limits : CoresAreWithinLimits o
