-- The judge's reading of a mark: an order by its first token, a line of the engine by what it
-- says, a move that is shown.
use Rattle.std.specs.Prelude.{ℕ, List, codes, ◌||◌, if◌then◌else◌, Option, Some, None}
use Rattle.line_io.specs.Event as events
use Rattle.protocol_tokens.specs.Tokens.{first_token}
use Rattle.chess_board.specs.declared.board.Move.{Move}
use Rattle.chess_board.specs.Position.{Position}
use Rattle.chess_board.specs.Spelling.{move_spelled_by}
use Rattle.script_lines.specs.Marks.{Mark, Happens, ToIface, ToEngine}
use Rattle.uci_lines.specs.Behind.{after}
use Rattle.uci_lines.specs.Cuts.{is_word}
use Rattle.uci_lines.specs.Engine.{engine_message}
use Rattle.uci_lines.specs.Messages.{EngineMsg}
use Rattle.uci_lines.specs.Messages as says
use Rattle.uci_lines.specs.Written.{is_written_move}
use Rattle.uci_interface_lines.specs.Kinds.{kind_asked}
use Rattle.uci_interface_lines.specs.Lines.{Line, position_line_in}
use Rattle.session_judge.specs.declared.dialogue_event.OrderKind.{OrderKind}
use Rattle.session_judge.specs.declared.dialogue_event.OrderKind.TheVariants as orders
use Rattle.session_judge.specs.declared.dialogue_event.OrderWord.{OrderWord}
use Rattle.session_judge.specs.declared.dialogue_event.OrderWord.TheVariants as words
use Rattle.session_judge.specs.declared.dialogue_event.DialogueEvent.{DialogueEvent}
use Rattle.session_judge.specs.declared.dialogue_event.DialogueEvent.TheVariants as dialogue_events

-- the position to which a `position` line leads
abbrev pub end_of : Option Line → Option Position
end_of None = None
end_of (Some said) = Some said.end

-- the order that begins with one of the words, by which word it is
abbrev pub order_by : Option OrderWord → List ℕ → Option OrderKind
order_by None line = None
order_by (Some words.Uci) line = Some orders.Uci
order_by (Some words.IsReady) line = Some orders.IsReady
order_by (Some words.Setup) line = Some orders.Setup
order_by (Some words.Position) line = Some (orders.Position (end_of (position_line_in line)))
order_by (Some words.Go) line = Some (orders.Go (kind_asked line))
order_by (Some words.Stop) line = Some orders.Stop
order_by (Some words.PonderHit) line = Some orders.PonderHit
order_by (Some words.Quit) line = Some orders.Quit

-- the order that a word begins
abbrev pub order_named : List ℕ → List ℕ → Option OrderKind
order_named word line =
    if is_word (codes "uci") word then Some orders.Uci
    else (if is_word (codes "isready") word then Some orders.IsReady
    else (if is_word (codes "setoption") word || is_word (codes "ucinewgame") word
    then Some orders.Setup
    else (if is_word (codes "position") word then Some (orders.Position (end_of (position_line_in line)))
    else (if is_word (codes "go") word then Some (orders.Go (kind_asked line))
    else (if is_word (codes "stop") word then Some orders.Stop
    else (if is_word (codes "ponderhit") word then Some orders.PonderHit
    else (if is_word (codes "quit") word then Some orders.Quit else None)))))))

abbrev pub writes_order : Option OrderKind → DialogueEvent
writes_order None = dialogue_events.Nothing
writes_order (Some order) = dialogue_events.Writes order

-- a line to the engine, whose first token may be an order's word
abbrev pub judged_order_in : List ℕ → DialogueEvent
judged_order_in line = writes_order (order_named (first_token line) line)

abbrev pub shows_event : Option Move → DialogueEvent
shows_event None = dialogue_events.Nothing
shows_event (Some m) = dialogue_events.Shows m

-- `move ` and a move as it is written
abbrev pub move_in_line : Option (List ℕ) → DialogueEvent
move_in_line None = dialogue_events.Nothing
move_in_line (Some text) = if is_written_move text then shows_event (move_spelled_by text) else dialogue_events.Nothing

-- a line to the interface, which may show a move
abbrev pub move_shown_by_line : List ℕ → DialogueEvent
move_shown_by_line line = move_in_line (after (codes "move ") line)

abbrev pub answer_as_shown : EngineMsg → DialogueEvent
answer_as_shown says.UciOk = dialogue_events.Boots
answer_as_shown says.ReadyOk = dialogue_events.GetsReady
answer_as_shown (says.Best best hint) = dialogue_events.Answers best
answer_as_shown m = dialogue_events.Nothing

-- a line of the engine
abbrev pub said_dialogue_event : List ℕ → DialogueEvent
said_dialogue_event line = answer_as_shown (engine_message line)

abbrev pub dialogue_event_of : Mark → DialogueEvent
dialogue_event_of (ToEngine line) = judged_order_in line
dialogue_event_of (ToIface line) = move_shown_by_line line
dialogue_event_of (Happens (events.Engine line)) = said_dialogue_event line
dialogue_event_of (Happens events.EngineEnd) = dialogue_events.Ends
dialogue_event_of (Happens events.EngineLost) = dialogue_events.Ends
dialogue_event_of (Happens e) = dialogue_events.Nothing
