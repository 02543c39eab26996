-- The lines to the interface.
use Rattle.std.specs.Prelude.{ℕ, List, [], ◌∷◌, ◌++◌, map, codes, Bool, true}
use Rattle.std.specs.Prelude.{false, not, if◌then◌else◌, ◌&&◌, Option, Some, None}
use Rattle.std.specs.Option.{option_to_list, option_map}
use Rattle.std.specs.List.{flat_map}
use Rattle.chess_board.specs.declared.board.Move.{Move}
use Rattle.chess_board.specs.declared.board.Side.{Side}
use Rattle.chess_board.specs.declared.board.Side.TheVariants.{White, Black}
use Rattle.protocol_tokens.specs.declared.kinds.GoKind.{GoKind}
use Rattle.protocol_tokens.specs.declared.kinds.GoKind.TheVariants as kinds
use Rattle.protocol_tokens.specs.Tokens.{trimmed}
use Rattle.cecp_lines.specs.Messages.{IfaceMsg}
use Rattle.cecp_lines.specs.Messages as says
use Rattle.cecp_lines.specs.Losses.{Loss, quoted}
use Rattle.cecp_lines.specs.Losses as losses
use Rattle.cecp_lines.specs.Replies.{Reply}
use Rattle.cecp_lines.specs.Replies as cecp
use Rattle.cecp_lines.specs.declared.reply.Reason.TheVariants as reasons
use Rattle.cecp_lines.specs.declared.reply.UserError.TheVariants as user_error
use Rattle.cecp_lines.specs.declared.reply.Outcome.{Outcome}
use Rattle.cecp_lines.specs.declared.reply.Outcome.TheVariants as outcomes
use Rattle.uci_lines.specs.Info.{Info}
use Rattle.game_record.specs.declared.ending.GameEnd.{GameEnd}
use Rattle.game_record.specs.declared.ending.GameEnd.TheVariants as ends
use Rattle.game_record.specs.Game.{Game, current_position}
use Rattle.game_record.specs.Ending.{ended_of}
use Rattle.think_text.specs.Last.{ThinkingLine, with_hint}
use Rattle.think_text.specs.Kept.{stat01_of}
use Rattle.option_map.specs.declared.feature_lists.negotiation.ProtoverAnswer.{ProtoverAnswer}
use Rattle.option_map.specs.declared.feature_lists.negotiation.ProtoverAnswer.TheVariants as say
use Rattle.option_map.specs.WaitingOrders.Due.{protover_answer}
use Rattle.option_map.specs.FeatureLists.Features.{feature_list}
use Rattle.desk_rules.specs.declared.effect.Refusal.{Refusal}
use Rattle.desk_rules.specs.declared.effect.Refusal.TheVariants as refusals
use Rattle.desk_rules.specs.declared.desk.Desk.{Desk}
use Rattle.desk_rules.specs.Desk.{Situation, table, plays, is_boot, on_move, game_played, has_ended}
use Rattle.option_map.specs.DeclaredOptions.Settings.{OptionSetting}
use Rattle.policy_rules.specs.declared.setting_rules.settings.Settings.{Settings}
use Rattle.desk_rules.specs.Lines.{change, refused_option, early_answer}
use Rattle.desk_rules.specs.Steps.{Effect, LongLine, Refuses, Accepts, Boots, Thinks}
use Rattle.desk_rules.specs.Steps.{Shows, Forfeits, Dies, desk_after_effect, shown_thinking}
use Rattle.desk_rules.specs.Steps.{resigns_after, resigns_at_end, resigns_when_gone}

-- what the line of `Error (line too long)` says in place of the line
abbrev pub dots : List ℕ
dots = codes "..."

-- the text of a refused line
abbrev pub refused : Refusal → List ℕ → Reply
refused (refusals.Because reason) line = cecp.Error reason (trimmed line)
refused (refusals.IllegalMove m) line = cecp.Illegal m
refused (refusals.GameTooLong m) line = cecp.IllegalLong m
refused refusals.IllegalPosition line = cecp.TellError user_error.Position

-- who is on move when the game is over by mate has lost it
abbrev pub outcome_of : Side → GameEnd → Outcome
outcome_of White ends.Mate = outcomes.BlackMates
outcome_of Black ends.Mate = outcomes.WhiteMates
outcome_of s ends.Stale = outcomes.Stalemate
outcome_of s ends.Dead = outcomes.Dead
outcome_of s ends.Repetition = outcomes.Repetition
outcome_of s ends.Fifty = outcomes.Fifty

abbrev pub result_reply_by : Side → Option GameEnd → List Reply
result_reply_by s None = []
result_reply_by s (Some end) = cecp.Result (outcome_of s end) ∷ []

-- the result, if the game has ended
abbrev pub result_reply_of : Game → List Reply
result_reply_of g = result_reply_by (on_move g) (ended_of g)

-- the result, if the desk plays
abbrev pub result_at : Desk → List Reply
result_at d = if plays d.mode then result_reply_of d.game else []

abbrev pub not_yet : Reply
not_yet = cecp.Feature (codes "done") (codes "0")

-- `protover` is answered by `done=0` in Boot, and later by the list
abbrev pub protover_row : ProtoverAnswer → Desk → List Reply
protover_row say.Wait d = not_yet ∷ []
protover_row say.List d = feature_list (table d) d.name

abbrev pub offer_where : Bool → List Reply
offer_where b = if b then cecp.OfferDraw ∷ [] else []

-- a draw is offered back if draws are handled, the desk plays a game that has not
-- ended and the policy accepts
abbrev pub draw_row : Situation → List Reply
draw_row h =
    offer_where
    (h.settings.handle_draws && plays h.desk.mode && not (has_ended h.desk.game) && h.accepts)

abbrev pub hint_row : Option Move → List Reply
hint_row None = []
hint_row (Some m) = cecp.Hint m ∷ []

unfoldable pub row_accepted : Situation → IfaceMsg → List Reply
row_accepted h (says.Protover n) = protover_row (protover_answer (is_boot h.engine)) h.desk
row_accepted h (says.UserMove m) = result_at (change false h.desk (says.UserMove m))
row_accepted h says.Go = result_at (change false h.desk says.Go)
row_accepted h says.PlayOther = result_at (change false h.desk says.PlayOther)
row_accepted h says.Draw = draw_row h
row_accepted h says.Hint = hint_row h.desk.hint
row_accepted h says.Dot = stat01_of h.desk.search_info (current_position h.desk.game) ∷ []
row_accepted h m = []

-- of these lines, what is said of the desk before the line, and of the desk after it
abbrev pub row_before : Situation → IfaceMsg → List Reply
row_before h (says.Protover n) = protover_row (protover_answer (is_boot h.engine)) h.desk
row_before h says.Draw = draw_row h
row_before h says.Hint = hint_row h.desk.hint
row_before h says.Dot = stat01_of h.desk.search_info (current_position h.desk.game) ∷ []
row_before h m = []

abbrev pub row_after : Desk → IfaceMsg → List Reply
row_after d (says.UserMove m) = result_at d
row_after d says.Go = result_at d
row_after d says.PlayOther = result_at d
row_after d m = []

abbrev pub list_where : Bool → Desk → List Reply
list_where b d = if b then feature_list (table d) d.name else []

abbrev pub resign_where : Bool → List Reply
resign_where b = if b then cecp.Resign ∷ [] else []

-- How the engine gives a game up that it has lost: by `resign`, or by the result and its reason if
-- the settings say so. The engine owes a move then, so that it plays the side on move.
abbrev pub giving_up : Bool → Side → Loss → Reply
giving_up reasons side loss = if reasons then cecp.Lost side loss else cecp.Resign

abbrev pub given_up : Settings → Game → Loss → Reply
given_up o g loss = giving_up o.result_reasons (on_move g) loss

-- the game of an engine that has ended, if it gives the game up
abbrev pub given_up_where : Bool → Settings → Game → List Reply
given_up_where b o g = if b then given_up o g losses.Ended ∷ [] else []

-- the engine has lost by its answer
abbrev pub forfeited : Settings → Game → List ℕ → List Reply
forfeited o g answer =
    cecp.TellError user_error.Move ∷ given_up o g (losses.IllegalMove (quoted answer)) ∷ []

-- a thinking line, if it is shown
abbrev pub thinking_replies : Situation → GoKind → Info → List Reply
thinking_replies h k facts = option_to_list (shown_thinking h k facts)

-- a move that is shown
abbrev pub shown_row : Situation → Move → List Reply
shown_row h best =
    cecp.Move best ∷ (result_reply_of (game_played h.desk.game best) ++ resign_where (resigns_after h best))

-- the end of the engine
abbrev pub end_row : Situation → List Reply
end_row h =
    list_where h.desk.due h.desk ++ (cecp.TellError user_error.Ended
    ∷ given_up_where (resigns_at_end h) h.settings h.desk.game)

-- what an early line is refused by, if it is
abbrev pub early_refusal : Option Refusal → List ℕ → List Reply
early_refusal None line = []
early_refusal (Some r) line = refused r line ∷ []

-- the lines for the early lines that are refused, in turn
abbrev pub early_refusals : List OptionSetting → List (List ℕ) → List Reply
early_refusals os lines =
    flat_map (λ line. early_refusal (refused_option (early_answer os line)) line) lines

-- the engine leaves Boot: the list if it is due, and the early lines that are refused
abbrev pub boot_row : Desk → List Reply
boot_row d = list_where d.due (record d { booted = true }) ++ early_refusals d.options d.early

-- the lines of what comes of an event, except pongs
unfoldable pub reply_row : Situation → Effect → List Reply
reply_row h (Refuses refusal line) = refused refusal line ∷ []
reply_row h LongLine = cecp.Error reasons.LineTooLong dots ∷ []
reply_row h (Accepts m) = row_accepted h m
reply_row h Boots = boot_row h.desk
reply_row h (Thinks k facts) = thinking_replies h k facts
reply_row h (Shows best hint) = shown_row h best
reply_row h (Forfeits answer) = forfeited h.settings h.desk.game answer
reply_row h Dies = end_row h
reply_row h d = []

-- The last thinking line that was written of the search, once more and without its hint, if the
-- step writes `ponderhit` and the settings say so.
abbrev pub repeated_thinking : Bool → Option ThinkingLine → List Reply
repeated_thinking repeats last =
    if repeats then option_to_list (option_map (with_hint None) last) else []

-- all lines of a step: its row, the game that an engine that is gone gives up, the repeated
-- thinking line, then the pongs
abbrev pub replies_of : Bool → Bool → Bool → Situation → Effect → List Reply
replies_of closed owes hits h d =
    if closed then []
    else reply_row h d ++ given_up_where (resigns_when_gone closed h d) h.settings (desk_after_effect h d).game
    ++ repeated_thinking (h.settings.repeat_thinking && hits) (desk_after_effect h d).last_thinking
    ++ (if owes then [] else map cecp.Pong (desk_after_effect h d).pings)

abbrev pub pongs : Bool → List ℕ → List Reply
pongs b pings = if b then map cecp.Pong pings else []
