-- The progress of the lives.
use Rattle.std.specs.Prelude.{◌≡◌, ℕ, suc, ◌+◌, ◌≤◌, List, [], ◌∷◌, ◌++◌, map}
use Rattle.std.specs.Prelude.{length, Bool, true, false, ◌||◌, Option, Some}
use Rattle.std.specs.List.{AllByRecursion, flat_map, list_any}
use Rattle.line_io.specs.Event.{Event, EngineEnd}
use Rattle.line_io.specs.Source.{Supplied, Received}
use Rattle.event_pipe.specs.declared.reader.ReadEnd.{ReadEnd}
use Rattle.event_pipe.specs.Arrivals.{is_read_fault as failed_of}
use Rattle.event_pipe.specs.Counts.{CountsFault}
use Rattle.child_engine.specs.Asked.{Asked}
use Rattle.child_engine.specs.Hosts.{Ledger, ShownRun, fresh_source, fresh_sink, shown_run, with_run}
use Rattle.child_engine.specs.declared.host.Faults.{Faults}
use Rattle.engine_revival.specs.declared.state.RevivalState.{RevivalState}
use Rattle.engine_revival.specs.declared.words.LifeState.TheVariants as life
use Rattle.engine_revival.specs.Steps.{may_begin, is_alive}
use Rattle.engine_revival.specs.Script.{revival_state_after, state_behind}
use Rattle.program_lifecycle.specs.Asked.{StartsEngines}
use Rattle.program_lifecycle.specs.Logs.{is_failed}
use Rattle.program_lifecycle.specs.Readers.{lacked_memory}
use Rattle.program_lifecycle.specs.declared.offering.LoopEnd.{LoopEnd}
use Rattle.program_lifecycle.specs.Streams.{Offered}
use Rattle.program_lifecycle.specs.Took.{LogTook}
use Rattle.reviver_runner.specs.Messages.{life_end}
use Rattle.reviver_runner.specs.declared.life.LifeRun.{LifeRun}
use Rattle.reviver_runner.specs.declared.lives.LivesTally.{LivesTally}
use Rattle.reviver_runner.specs.declared.turns.NextLife.{NextLife}
use Rattle.reviver_runner.specs.declared.turns.NextLife.TheVariants as nexts
use Rattle.reviver_runner.specs.Closing.{run_source_faults, run_sink_faults, shown_runs}
use Rattle.reviver_runner.specs.Looped.{LoopState, PlayedUp}
use Rattle.reviver_runner.specs.Played.{event_child, lines_to_child, is_life_end_mark, has_close}
use Rattle.reviver_runner.specs.Played.{has_refusal, as_long, reported_of, ends_in}
use Rattle.reviver_runner.specs.Reading.{LinesOf}

-- A life goes on after so many have ended: it is one more, and one of those that may be begun.
pub record LifeGoesOn (s : RevivalState) (ended : ℕ) : Type 0 where
  pub alive : is_alive s.life ≡ true
  pub begun : s.begun ≡ suc ended
  pub few : suc ended ≤ s.lives

-- The run of a life that goes on, of a host that reports this much: nothing was read, and its sink,
-- which had taken nothing, was offered this text.
pub record IsBegun (says : Option (List ℕ)) (sinks_report : Bool) (source : Supplied) (sink : Received)
    (failed : Bool) (text : List ℕ) : Type 0 where
  pub unread : source ≡ fresh_source says
  pub offered : Offered false failed (fresh_sink sinks_report) sink text

-- true if reading or writing failed in a life that has ended is what the runs' counts say
pub record AreTallied {S K : Type 0} (source : S → Supplied) (sink : K → Received)
    (runs : List (LifeRun S K)) (tally : LivesTally) : Type 0 where
  pub reads : CountsFault 0 (run_source_faults source runs) tally.engine_read
  pub writes : CountsFault 0 (run_sink_faults sink runs) tally.engine_write

-- A LIFE THAT HAS ENDED

-- The evidence from a life: its streams after it, the lines that were sent of it, the text that it was
-- offered, how its reader ended, and whether a write to it failed.
pub record Life : Type 0 where
  pub read : Supplied
  pub written : Received
  pub lines : List Event
  pub text : List ℕ
  pub end : ReadEnd
  pub broken : Bool

-- A life of a host that reports this much, of which nothing was read or taken before. Its lines are
-- those that its source gave, and its sink took its text, or a prefix of it, if a write failed.
pub record IsLife (says : Option (List ℕ)) (sinks_report : Bool) (l : Life) : Type 0 where
  pub lines : LinesOf (fresh_source says) l.read l.lines l.end
  pub text : LogTook l.text l.broken (fresh_sink sinks_report) l.written

abbrev pub AreLives : Option (List ℕ) → Bool → List Life → Type 0
AreLives says sinks_report lives = AllByRecursion (IsLife says sinks_report) lives

-- of each life its lines, and then its end
abbrev pub life_events : List Life → List Event
life_events lives = flat_map (λ l. l.lines ++ life_end ∷ []) lives

-- the lives as the host is shown them
abbrev pub shown_runs_of_lives : List Life → List ShownRun
shown_runs_of_lives lives = map (λ l. shown_run l.read l.written) lives

abbrev pub empty_tally : LivesTally
empty_tally = record { engine_read = false; engine_write = false; memory = false }

-- the tally counts these lives
pub record Tallies (lives : List Life) (tally : LivesTally) : Type 0 where
  pub reads : tally.engine_read ≡ list_any (λ l. failed_of l.end) lives
  pub writes : tally.engine_write ≡ list_any (λ l. l.broken) lives
  pub memory : tally.memory ≡ list_any (λ l. lacked_memory l.end) lives

-- WHAT IS WRITTEN TO EACH LIFE

-- the text to each life that has ended, in their order, and to the life after them
pub record ToLives : Type 0 where
  pub ended : List (List ℕ)
  pub present : List ℕ

abbrev pub to_none : ToLives
to_none = record { ended = []; present = [] }

-- After a mark of an engine's end it is the next life that is written to.
abbrev pub to_next : Bool → ToLives → List ℕ → ToLives
to_next true to text = record { ended = to.ended ++ to.present ∷ []; present = text }
to_next false to text = record { ended = to.ended; present = to.present ++ text }

abbrev pub to_lives : ToLives → RevivalState → List Event → ToLives
to_lives to s [] = to
to_lives to s (event ∷ events) =
    to_lives (to_next (is_life_end_mark event) to (event_child s event)) (revival_state_after s event) events

-- SO FAR

-- So many lives have ended since, and the next one, if there is one, was offered this text. Of the
-- engine these events were sent.
pub record Lived (says : Option (List ℕ)) (sinks_report : Bool) (before after : LoopState) (sent : List Event)
    (lives : List Life) (text : List ℕ) (refused : Bool) : Type 0 where
  pub events : List Event
  pub played : PlayedUp before after events
  pub given : to_lives to_none before.state events
      ≡ record { ended = map (λ l. l.text) lives; present = text }
  pub refusal : has_refusal events ≡ refused
  pub taken_are : map as_long events ≡ reported_of after.events
  pub ends : ends_in after.events ≡ length lives
  pub sent_are : sent ≡ life_events lives
  pub lived : AreLives says sinks_report lives

abbrev pub none_failed : LoopEnd
none_failed = record { output = false; engine = false; log = false }

-- the same of the runs of the lives that have ended
pub record HasLived {S K : Type 0} (source : S → Supplied) (sink : K → Received)
    (says : Option (List ℕ)) (sinks_report : Bool) (before after : LoopState) (sent : List Event)
    (runs : List (LifeRun S K)) (tally : LivesTally) (text : List ℕ) (refused : Bool) : Type 0 where
  pub lives : List Life
  pub reported : shown_runs source sink runs ≡ shown_runs_of_lives lives
  pub tallies : Tallies lives tally
  pub tallied : AreTallied source sink runs tally
  pub so_far : Lived says sinks_report before after sent lives text refused

-- the same, if another life goes on
pub record LivesGoOn {S K : Type 0} (source : S → Supplied) (sink : K → Received)
    (says : Option (List ℕ)) (sinks_report : Bool) (before after : LoopState) (sent : List Event)
    (runs : List (LifeRun S K)) (tally : LivesTally) (run : LifeRun S K) : Type 0 where
  pub text : List ℕ
  pub lived : HasLived source sink says sinks_report before after sent runs tally text false
  pub begun : IsBegun says sinks_report (source run.source) (sink run.sink) after.failed.engine text

-- FROM ONE LIFE TO THE NEXT

-- Another life begins only if one may, and else orders may still come.
abbrev pub LifeFollows : {S K : Type 0} → RevivalState → RevivalState → NextLife S K → Type 0
LifeFollows s s' (nexts.Life run) =
    (may_begin s ≡ true) × (s'.begun ≡ s.begun + 1) × (s'.lives ≡ s.lives)
    × (is_alive s'.life ≡ true)
LifeFollows s s' next = (s'.lives ≡ s.lives) × (s'.begun ≡ s.begun) × (s'.life ≡ life.Over)

-- the mark that is logged for a life's end
abbrev pub life_end_mark : {S K : Type 0} → NextLife S K → Event
life_end_mark (nexts.Refused fault) = EngineEnd
life_end_mark next = life_end

abbrev pub is_refused : {S K : Type 0} → NextLife S K → Bool
is_refused (nexts.Refused fault) = true
is_refused next = false

-- the start of another life failed, other than by lack of memory
abbrev pub is_failed_start : {S K : Type 0} → NextLife S K → Bool
is_failed_start (nexts.Refused fault) = is_failed (Some fault)
is_failed_start next = false

-- how many lives follow
abbrev pub lives_in : {S K : Type 0} → NextLife S K → ℕ
lives_in (nexts.Life run) = 1
lives_in next = 0

-- the next life was offered this text, or there is none and no text
abbrev pub IsNextLife : {S K : Type 0} → (S → Supplied) → (K → Received) → Option (List ℕ) → Bool
    → List ℕ → NextLife S K → Bool → Type 0
IsNextLife source sink says sinks_report text (nexts.Life run) failed =
    IsBegun says sinks_report (source run.source) (sink run.sink) failed text
IsNextLife source sink says sinks_report text next failed = text ≡ []

-- The consequences of a life's end, at which nothing is taken from the channel.
pub record Ended {S K : Type 0} (source : S → Supplied) (sink : K → Received)
    (says : Option (List ℕ)) (sinks_report : Bool) (before after : LoopState)
    (next : NextLife S K) : Type 0 where
  pub same : after.events ≡ before.events
  pub played : PlayedUp before after (life_end_mark next ∷ [])
  pub next_is : IsNextLife source sink says sinks_report (event_child before.state (life_end_mark next)) next
      after.failed.engine
  pub follows : LifeFollows before.state after.state next

-- One life that went on, on a run that was offered a text: it ended, and this follows.
pub record LivesOn {S K : Type 0} (source : S → Supplied) (sink : K → Received)
    (says : Option (List ℕ)) (sinks_report : Bool) (before after : LoopState) (sent sent' : List Event)
    (runs runs' : List (LifeRun S K)) (tally tally' : LivesTally) (run : LifeRun S K)
    (next : NextLife S K) : Type 0 where
  -- the events of it that the revival heard
  pub events : List Event
  pub unended : has_close events ≡ false
  pub played : PlayedUp before after (events ++ life_end_mark next ∷ [])
  pub got : List Event
  pub taken_is : after.events ≡ before.events ++ got
  pub got_are : map as_long (events ++ life_end_mark next ∷ []) ≡ reported_of got
  pub ends : ends_in got ≡ 1
  -- its run
  pub last : LifeRun S K
  pub runs_are : runs' ≡ runs ++ last ∷ []
  pub lines : List Event
  pub end : ReadEnd
  pub sent_is : sent' ≡ sent ++ (lines ++ life_end ∷ [])
  pub read : LinesOf (source run.source) (source last.source) lines end
  pub broken : Bool
  pub offered : Offered before.failed.engine broken (sink run.sink) (sink last.sink)
      (lines_to_child before.state events)
  pub reads : tally'.engine_read ≡ (tally.engine_read || failed_of end)
  pub writes : tally'.engine_write ≡ (tally.engine_write || broken)
  pub memory : tally'.memory ≡ (tally.memory || lacked_memory end)
  -- the next one
  pub lives : after.state.lives ≡ before.state.lives
  pub next_is : IsNextLife source sink says sinks_report
      (event_child (state_behind before.state events) (life_end_mark next)) next after.failed.engine

-- one more life has ended
abbrev pub Continues : {S K : Type 0} → RevivalState → ℕ → NextLife S K → Type 0
Continues s ended (nexts.Life run) = LifeGoesOn s ended
Continues s ended next = (s.begun ≡ ended) × (s.life ≡ life.Over)

-- the reports of a host
pub record HostShown : Type 0 where
  pub ledger : Ledger
  pub counts : Faults
  pub asked : Asked

abbrev pub host_shown : {H : Type 0} → (H → Ledger) → (H → Faults) → (H → Asked) → H → HostShown
host_shown ledger counts asked host =
    record { ledger = ledger host; counts = counts host; asked = asked host }

-- the host handed out a run for another life, or refused it, or was not asked
abbrev pub Hands : {S K : Type 0} → HostShown → HostShown → NextLife S K → Type 0
Hands host host' (nexts.Life run) =
    (host'.ledger ≡ with_run host.ledger) × (host'.counts ≡ host.counts)
Hands host host' nexts.Over = (host'.ledger ≡ host.ledger) × (host'.counts ≡ host.counts)
Hands host host' (nexts.Refused fault) =
    (host'.ledger ≡ host.ledger)
    × CountsFault host.counts.starts host'.counts.starts (is_failed (Some fault))
    × (host'.counts ≡ record host.counts { starts = host'.counts.starts })

-- So many lives have ended, and another goes on: its run and theirs were handed out, and
-- the host refused nothing.
pub record HostGoes (arguments : List (List ℕ)) (first now : HostShown) (ended : ℕ) : Type 0 where
  pub out : now.ledger.runs_out ≡ ended + 1
  pub ledger : now.ledger ≡ record first.ledger { runs_out = now.ledger.runs_out }
  pub counts : now.counts ≡ first.counts
  pub asked : StartsEngines arguments first.asked now.asked first.ledger now.ledger false
