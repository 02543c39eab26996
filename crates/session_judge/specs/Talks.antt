-- The dialogue with the engine, as the marks of a log show it.
use Rattle.std.specs.Prelude.{ℕ, false, true, if◌then◌else◌, Option, Some, None}
use Rattle.chess_board.specs.declared.board.Move.{Move}
use Rattle.chess_board.specs.Position.{Position}
use Rattle.chess_board.specs.Play.{start_position}
use Rattle.protocol_tokens.specs.declared.kinds.GoKind.{GoKind}
use Rattle.protocol_tokens.specs.declared.kinds.GoKind.TheVariants as kinds
use Rattle.session_judge.specs.declared.dialogue_event.OrderKind.{OrderKind}
use Rattle.session_judge.specs.declared.dialogue_event.OrderKind.TheVariants as orders
use Rattle.session_judge.specs.declared.dialogue_event.DialogueEvent.{DialogueEvent}
use Rattle.session_judge.specs.declared.dialogue_event.DialogueEvent.TheVariants as dialogue_events
use Rattle.session_judge.specs.declared.engine.EnginePhase.{EnginePhase}
use Rattle.session_judge.specs.declared.engine.EnginePhase.TheVariants as engines
use Rattle.session_judge.specs.declared.listener.Listener.{Listener}
use Rattle.session_judge.specs.declared.search.Search.{Search}
use Rattle.session_judge.specs.declared.talk.HeardAnswer.{HeardAnswer}
use Rattle.session_judge.specs.declared.talk.OrderStage.{OrderStage}
use Rattle.session_judge.specs.declared.talk.OrderStage.TheVariants as stages
use Rattle.session_judge.specs.declared.talk.JudgedTalk.{JudgedTalk}
use Rattle.session_judge.specs.Engines.{engine_after, gone_after, event_unless_gone, is_searching}
use Rattle.session_judge.specs.Crossings.{crossings_after, next_search_number, unanswered_after}

abbrev pub opening_judgement : Listener → JudgedTalk
opening_judgement listener = record {
  listener = listener;
  engine = engines.Boot;
  gone = false;
  unanswered = engines.Idle;
  crossings = 0;
  stage = stages.Start;
  placed = start_position;
  answer = None;
  search = None;
}

-- which orders came
abbrev pub stage_after : OrderStage → DialogueEvent → OrderStage
stage_after stages.Over dialogue_event = stages.Over
stage_after stage (dialogue_events.Writes orders.Quit) = stages.Over
stage_after stage (dialogue_events.Writes (orders.Position p)) = stages.Placed
stage_after stage (dialogue_events.Writes order) = stages.Open
stage_after stage dialogue_event = stage

-- the position to which the last `position` line leads
abbrev pub placed_after : Position → DialogueEvent → Position
placed_after p (dialogue_events.Writes (orders.Position (Some q))) = q
placed_after p dialogue_event = p

-- the answer that was heard last in a search

abbrev pub answer_in : EnginePhase → Position → Option Move → Option HeardAnswer
    → Option HeardAnswer
answer_in (engines.Search kind stopped) p best last =
    Some (record { kind = kind; best = best; at = p; was_shown = false })
answer_in engine p best last = last

abbrev pub answer_shown : Option HeardAnswer → Option HeardAnswer
answer_shown None = None
answer_shown (Some a) = Some (record a { was_shown = true })

abbrev pub answer_after : EnginePhase → Position → Option HeardAnswer → DialogueEvent → Option HeardAnswer
answer_after engine p last (dialogue_events.Answers best) = answer_in engine p best last
answer_after engine p last (dialogue_events.Shows m) = answer_shown last
answer_after engine p last dialogue_event = last

-- the search that was begun last

abbrev pub number_after : Option Search → ℕ
number_after None = 1
number_after (Some s) = next_search_number s.number

abbrev pub search_from_go : ℕ → GoKind → ℕ → Search
search_from_go number kind line = record {
  number = number;
  kind = kind;
  begun = line;
  ended = None;
  stopped = false;
  shown = None;
}

-- what is written and heard while the engine is in it
abbrev pub search_after_event : ℕ → Search → DialogueEvent → Search
search_after_event line s (dialogue_events.Writes orders.Stop) = record s { stopped = true }
search_after_event line s (dialogue_events.Writes orders.PonderHit) = record s { kind = kinds.Move }
search_after_event line s (dialogue_events.Answers best) = record s { ended = Some line }
search_after_event line s dialogue_event = s

-- A move is shown in the search that ended last, if no other was begun since.
abbrev pub search_with_move : Option ℕ → Move → Search → Search
search_with_move None m s = s
search_with_move (Some line) m s = record s { shown = Some m }

abbrev pub shown_in : Move → Search → Search
shown_in m s = search_with_move s.ended m s

abbrev pub search_after : EnginePhase → ℕ → Option Search → DialogueEvent → Option Search
search_after engine line search (dialogue_events.Writes (orders.Go kind)) =
    Some (search_from_go (number_after search) kind line)
search_after engine line (Some s) (dialogue_events.Shows m) = Some (shown_in m s)
search_after engine line (Some s) dialogue_event =
    Some (if is_searching engine then search_after_event line s dialogue_event else s)
search_after engine line None dialogue_event = None

abbrev pub after_heard : JudgedTalk → ℕ → DialogueEvent → JudgedTalk
after_heard t line dialogue_event = record {
  listener = t.listener;
  engine = engine_after t.engine dialogue_event;
  gone = gone_after t.gone dialogue_event;
  unanswered = unanswered_after t.engine t.unanswered dialogue_event;
  crossings = crossings_after t.crossings t.gone t.engine dialogue_event;
  stage = stage_after t.stage dialogue_event;
  placed = placed_after t.placed dialogue_event;
  answer = answer_after t.engine t.placed t.answer dialogue_event;
  search = search_after t.engine line t.search dialogue_event;
}

-- after a mark in the line with this number
abbrev pub judgement_after : JudgedTalk → ℕ → DialogueEvent → JudgedTalk
judgement_after t line dialogue_event = after_heard t line (event_unless_gone dialogue_event t.gone)
