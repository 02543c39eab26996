-- The effect of an event, and its consequences for the desk and the dialogue.
use Rattle.std.specs.Prelude.{ℕ, List, Bool, true, false, not, if◌then◌else◌}
use Rattle.std.specs.Prelude.{◌&&◌, ◌||◌, [], ◌∷◌, ◌++◌, Option, Some, None}
use Rattle.line_io.specs.Event.{Event}
use Rattle.line_io.specs.Event as events
use Rattle.chess_board.specs.declared.board.Move.{Move}
use Rattle.chess_board.specs.Place.{legal}
use Rattle.chess_board.specs.Position.{Position}
use Rattle.protocol_tokens.specs.declared.kinds.GoKind.{GoKind}
use Rattle.protocol_tokens.specs.declared.kinds.GoKind.TheVariants as kinds
use Rattle.cecp_lines.specs.Messages.{IfaceMsg, message_of}
use Rattle.cecp_lines.specs.Messages as says
use Rattle.cecp_lines.specs.Reading.{message_or_fault}
use Rattle.protocol_tokens.specs.Quit.{is_quit}
use Rattle.uci_lines.specs.Orders.{Order}
use Rattle.uci_lines.specs.Info.{Info, info_of}
use Rattle.uci_lines.specs.Messages.{EngineMsg, OptionKind, option_kind_of}
use Rattle.uci_lines.specs.Messages as hears
use Rattle.uci_lines.specs.Engine.{answer_text, engine_message}
use Rattle.game_record.specs.Game.{Game, current_position}
use Rattle.cecp_lines.specs.Replies.{Reply}
use Rattle.cecp_lines.specs.declared.reply.Spelling.{Spelling}
use Rattle.cecp_lines.specs.declared.reply.Spelling.TheVariants.{Coordinates, San}
use Rattle.policy_rules.specs.declared.setting_rules.settings.Settings.{Settings}
use Rattle.think_text.specs.declared.line.Pondered.{Pondered}
use Rattle.think_text.specs.Line.{thinking_line}
use Rattle.think_text.specs.Kept.{nothing_seen, after_info}
use Rattle.think_text.specs.Last.{last_after}
use Rattle.option_map.specs.declared.declared_options.style.FeatureStyle.{FeatureStyle}
use Rattle.option_map.specs.DeclaredOptions.Settings.{after_declared}
use Rattle.option_map.specs.DeclaredOptions.Styles.{name_in_style}
use Rattle.option_map.specs.FeatureLists.Features.{shown_name}
use Rattle.policy_rules.specs.declared.score_rules.scores.Scores.{Scores}
use Rattle.policy_rules.specs.ScoreRules.Scores.{Score, no_scores, after_shown}
use Rattle.search_epochs.specs.declared.words.Call.{Call}
use Rattle.search_epochs.specs.declared.words.Said.TheVariants as said
use Rattle.search_epochs.specs.declared.words.EngineState.{EngineState}
use Rattle.search_epochs.specs.declared.words.EngineState.TheVariants as states
use Rattle.search_epochs.specs.Tickets.{What, Plays, Hurries, Quiet, is_move}
use Rattle.search_epochs.specs.Tickets as word
use Rattle.desk_rules.specs.declared.mode.Mode.{Mode}
use Rattle.desk_rules.specs.declared.mode.Mode.TheVariants as modes
use Rattle.desk_rules.specs.declared.effect.Refusal.{Refusal}
use Rattle.desk_rules.specs.declared.effect.Effect as code
use Rattle.desk_rules.specs.declared.effect.Effect.TheVariants as effects
use Rattle.desk_rules.specs.declared.desk.Desk.{Desk}
use Rattle.desk_rules.specs.Desk.{Situation, is_gone, is_boot, is_getting}
use Rattle.desk_rules.specs.Desk.{current, call_of_desk, owes_move, game_played, has_ended}
use Rattle.desk_rules.specs.Lines.{Verdict, Refused, Accepted, Early, line_verdict, asks}
use Rattle.desk_rules.specs.Lines.{is_epoch_line, position_set_up, change, clears_scores}

-- what comes of an event, whatever memory its line lies in
pub data Effect : Type 0 where
  Nothing : Effect
  Opens : Effect
  LongLine : Effect
  Refuses : (refusal : Refusal) (line : List ℕ) → Effect
  Accepts : (message : IfaceMsg) → Effect
  Defers : (line : List ℕ) → Effect
  Names : (text : List ℕ) → Effect
  Declares : (name : List ℕ) (shape : OptionKind) → Effect
  Boots : Effect
  Readies : Effect
  Thinks : (kind : GoKind) (facts : Info) → Effect
  Shows : (best : Move) (hint : Option Move) → Effect
  Forfeits : (answer : List ℕ) → Effect
  Answers : Effect
  Dies : Effect

abbrev pub effect_of : code.Effect → Effect
effect_of effects.Nothing = Nothing
effect_of effects.Opens = Opens
effect_of effects.LongLine = LongLine
effect_of (effects.Refuses refusal line) = Refuses refusal line.now
effect_of (effects.Accepts m) = Accepts (message_of m)
effect_of (effects.Defers line) = Defers line.now
effect_of (effects.Names text) = Names text.now
effect_of (effects.Declares option) = Declares option.name.now (option_kind_of option.kind)
effect_of effects.Boots = Boots
effect_of effects.Readies = Readies
effect_of (effects.Thinks kind info) = Thinks kind (info_of info)
effect_of (effects.Shows best hint) = Shows best hint
effect_of (effects.Forfeits answer) = Forfeits answer.now
effect_of effects.Answers = Answers
effect_of effects.Dies = Dies

-- WHAT COMES OF AN EVENT

abbrev pub line_effect : Verdict → List ℕ → Effect
line_effect (Refused r) line = Refuses r line
line_effect (Accepted m) line = Accepts m
line_effect Early line = Defers line

-- a current search reports on itself
abbrev pub search_reports : Option GoKind → Info → Effect
search_reports (Some k) facts = Thinks k facts
search_reports None facts = Nothing

-- a current search for a Move is answered by a line
abbrev pub shows : Game → List ℕ → Option Move → Option Move → Effect
shows g line None hint = Forfeits (answer_text line)
shows g line (Some m) hint =
    if legal (current_position g) m then Shows m hint else Forfeits (answer_text line)

abbrev pub answers : EngineState → Game → List ℕ → Option Move → Option Move → Effect
answers (states.Search kinds.Move false stopped) g line best hint = shows g line best hint
answers (states.Search k stale stopped) g line best hint = Answers
answers e g line best hint = Nothing

-- by a line of the engine, and the message that it spells
abbrev pub engine_says : Situation → List ℕ → EngineMsg → Effect
engine_says h line (hears.Name text) = if is_boot h.engine then Names text else Nothing
engine_says h line (hears.OptionLine name shape) =
    if is_boot h.engine then Declares name shape else Nothing
engine_says h line hears.UciOk = if is_boot h.engine then Boots else Nothing
engine_says h line hears.ReadyOk = if is_getting h.engine then Readies else Nothing
engine_says h line (hears.Info facts) = search_reports (current h.engine) facts
engine_says h line (hears.Best best hint) = answers h.engine h.desk.game line best hint
engine_says h line hears.Nothing = Nothing

abbrev pub dies : EngineState → Effect
dies e = if is_gone e then Nothing else Dies

-- The held orders say only whether what a line asks for fits.
unfoldable pub classify : Situation → List Order → Event → Effect
classify h held events.Open = Opens
classify h held (events.Iface line) =
    if h.closed then Nothing else line_effect (line_verdict h held line (message_or_fault line)) line
classify h held events.IfaceLong = if h.closed then Nothing else LongLine
classify h held events.IfaceEnd = Nothing
classify h held events.IfaceLost = Nothing
classify h held (events.Engine line) =
    if h.closed then Nothing else engine_says h line (engine_message line)
classify h held events.EngineLong = Nothing
classify h held events.EngineEnd = dies h.engine
classify h held events.EngineLost = dies h.engine

-- the interface sends `quit`
abbrev pub quits : Event → Bool
quits (events.Iface line) = is_quit line
quits e = false

-- WHAT IT IS TO THE DIALOGUE

abbrev pub what_accepted : IfaceMsg → What
what_accepted (says.UserMove m) = Plays m
what_accepted says.MoveNow = Hurries
what_accepted m = Quiet

abbrev pub what_of : Effect → What
what_of (Accepts m) = what_accepted m
what_of Boots = word.Says said.UciOk
what_of Readies = word.Says said.ReadyOk
what_of (Shows best hint) = word.Says said.Best
what_of (Forfeits answer) = word.Says said.Best
what_of Answers = word.Says said.Best
what_of Dies = word.Says said.Ended
what_of d = Quiet

-- the position that an accepted line sets up, if it sets one up
abbrev pub starts_from : Effect → Option Position
starts_from (Accepts m) = position_set_up m
starts_from d = None

-- the epoch rises with each accepted epoch line and each shown move
abbrev pub begins_epoch : Situation → Effect → Bool
begins_epoch h (Accepts m) = is_epoch_line (owes_move h) (asks (is_gone h.engine) h.desk m) m
begins_epoch h (Shows best hint) = true
begins_epoch h d = false

-- THE DESK AFTER

-- the hint of a shown move counts if it is legal after that move
abbrev pub hint_after : Game → Option Move → Option Move
hint_after g None = None
hint_after g (Some m) = if legal (current_position g) m then Some m else None

-- the game whose position an open search of this kind searches
abbrev pub searched_by : GoKind → Game → Option Move → Game
searched_by kinds.Ponder g (Some m) = game_played g m
searched_by k g hint = g

-- whether thinking lines of a search are written
abbrev pub shows_thinking : Situation → GoKind → Bool
shows_thinking h kinds.Analyse = true
shows_thinking h kinds.Move = h.desk.post
shows_thinking h kinds.Ponder = h.desk.post && h.settings.show_ponder

-- how the moves of thinking lines are written
abbrev pub spelling_of : Settings → Spelling
spelling_of o = if o.show_san then San else Coordinates

-- a thinking line of a Ponder search names the hint, which would be played in the present position
abbrev pub named_hint : GoKind → Game → Option Move → Option Pondered
named_hint kinds.Ponder g (Some hint) = Some (record { before = current_position g; hint = hint })
named_hint k g hint = None

-- the thinking line of what a search reports, if it is shown
abbrev pub shown_thinking : Situation → GoKind → Info → Option Reply
shown_thinking h k facts =
    if shows_thinking h k then
    thinking_line (spelling_of h.settings) facts (current_position (searched_by k h.desk.game h.desk.hint))
    (named_hint k h.desk.game h.desk.hint)
    else None

-- `resign` follows the shown move
abbrev pub resigns_after : Situation → Move → Bool
resigns_after h m = h.resigns && not (has_ended (game_played h.desk.game m))

-- the game is given up when the engine ends
abbrev pub resigns_at_end : Situation → Bool
resigns_at_end h = owes_move h && not h.closed

abbrev pub over_where : Bool → Mode → Mode
over_where b m = if b then modes.Over else m

abbrev pub desk_with_move : Situation → Move → Option Move → Desk
desk_with_move h m hint = record h.desk {
  game = game_played h.desk.game m;
  hint = hint_after (game_played h.desk.game m) hint;
  mode = over_where (resigns_after h m) h.desk.mode;
}

-- how the options and the name of the engine are shown
abbrev pub feature_style : Settings → FeatureStyle
feature_style o = record {
  strength = o.strength_options;
  plain = o.plain_texts;
  paths = o.path_options;
}

-- the desk after an effect, before pings are answered and kept values cleared
unfoldable pub desk_after_effect : Situation → Effect → Desk
desk_after_effect h (Accepts m) = change (is_boot h.engine) h.desk m
desk_after_effect h (Defers line) = record h.desk { early = h.desk.early ++ line ∷ [] }
desk_after_effect h (Names text) = record h.desk {
  name = shown_name (name_in_style (feature_style h.settings) text);
}
desk_after_effect h (Declares name shape) = record h.desk {
  options = after_declared (feature_style h.settings) h.desk.options name shape;
}
desk_after_effect h Boots = record h.desk { booted = true; due = false; early = [] }
desk_after_effect h (Thinks k facts) = record h.desk {
  search_info = after_info h.desk.search_info facts (current_position (searched_by k h.desk.game h.desk.hint));
  last_thinking = last_after h.desk.last_thinking (shown_thinking h k facts);
}
desk_after_effect h (Shows best hint) = desk_with_move h best hint
desk_after_effect h (Forfeits answer) = record h.desk { mode = modes.Over }
desk_after_effect h Dies = record h.desk {
  mode = over_where (resigns_at_end h) h.desk.mode;
  due = h.desk.due && h.closed;
  early = [];
}
desk_after_effect h d = h.desk

abbrev pub is_death : Effect → Bool
is_death Dies = true
is_death d = false

abbrev pub is_boots : Effect → Bool
is_boots Boots = true
is_boots d = false

-- the call after an event
abbrev pub call_after : Bool → Situation → Effect → Call
call_after closed h d = call_of_desk closed (is_gone h.engine || is_death d) (desk_after_effect h d)

-- The engine is gone, and the desk would call for a Move if it were there.
abbrev pub owes_when_gone : Bool → Bool → Desk → Bool
owes_when_gone closed gone d = gone && is_move (call_of_desk closed false d)

-- An engine that is gone gives up the game in which it owes a move, if the settings say so: by the
-- desk that the event leaves.
abbrev pub resigns_when_gone : Bool → Situation → Effect → Bool
resigns_when_gone closed h d =
    h.settings.resign_when_gone
    && owes_when_gone closed (is_gone h.engine || is_death d) (desk_after_effect h d)

-- pings are answered if no Move is owed and the session is not closed
abbrev pub answers_pings : Bool → Bool → Bool
answers_pings closed owes = not closed && not owes

-- the kept values are cleared if the epoch rises, but not by a step that writes `ponderhit`
abbrev pub clears_seen : Bool → Bool → Bool
clears_seen rose hits = rose && not hits

-- the desk after the step: no line waits in a closed session
abbrev pub desk_after : Bool → Bool → Bool → Situation → Effect → Desk
desk_after closed owes hits h d = record (desk_after_effect h d) {
  mode = over_where (resigns_when_gone closed h d) (desk_after_effect h d).mode;
  pings = (if answers_pings closed owes then [] else (desk_after_effect h d).pings);
  early = (if closed then [] else (desk_after_effect h d).early);
  search_info =
      (if clears_seen (begins_epoch h d) hits then nothing_seen else (desk_after_effect h d).search_info);
  last_thinking =
      (if clears_seen (begins_epoch h d) hits then None else (desk_after_effect h d).last_thinking);
}

-- the scores of shown moves, the newest first
abbrev pub scores_after : Situation → Effect → List Score → List Score
scores_after h (Accepts m) scores = if clears_scores m then [] else scores
scores_after h (Shows best hint) scores = h.desk.search_info.score ∷ scores
scores_after h d scores = scores

-- what is counted of them after an effect
abbrev pub counts_after : Score → Effect → Scores → Scores
counts_after score (Accepts m) scores =
    if clears_scores m then no_scores scores.settings else scores
counts_after score (Shows best hint) scores = after_shown scores score
counts_after score d scores = scores
