-- Each accepted ping gets one pong, in order.
use Rattle.std.proofs.Common.{◌≡◌, ℕ, List, [], ◌∷◌, ◌++◌, map, codes, Bool, true, false, cond, ◌&&◌, Option, Some, None, append_assoc, append-nil, refl, sym, ap, ◌∙◌}
use Rattle.std.specs.Option.{option_to_list}
use Rattle.chess_board.specs.declared.board.Move.{Move as AnyMove}
use Rattle.chess_board.specs.declared.board.Side.{Side}
use Rattle.cecp_lines.specs.Messages.{IfaceMsg}
use Rattle.cecp_lines.specs.Messages as says
use Rattle.cecp_lines.specs.declared.reply.Spelling.{Spelling}
use Rattle.cecp_lines.specs.Replies.{Reply}
use Rattle.cecp_lines.specs.Losses.{Loss, quoted}
use Rattle.cecp_lines.specs.Losses as losses
use Rattle.cecp_lines.specs.Replies as cecp
use Rattle.uci_lines.specs.Info.{Info}
use Rattle.game_record.specs.declared.ending.GameEnd.{GameEnd}
use Rattle.game_record.specs.Game.{Game, current_position}
use Rattle.game_record.specs.Ending.{ended_of}
use Rattle.option_map.specs.DeclaredOptions.Settings.{OptionSetting}
use Rattle.option_map.specs.DeclaredOptions.Shown.{takes_tables}
use Rattle.uci_lines.specs.declared.messages.Score.{Score}
use Rattle.think_text.specs.Line.{thinking_line, line_with, legal_run, run_texts, hint_text}
use Rattle.think_text.specs.Last.{ThinkingLine}
use Rattle.option_map.specs.declared.feature_lists.negotiation.ProtoverAnswer.{ProtoverAnswer}
use Rattle.option_map.specs.declared.feature_lists.negotiation.ProtoverAnswer.TheVariants as say
use Rattle.option_map.specs.WaitingOrders.Due.{protover_answer}
use Rattle.option_map.specs.FeatureLists.Features.{feature_list, tables, option_feature, shown_options}
use Rattle.policy_rules.specs.declared.setting_rules.settings.Settings.{Settings}
use Rattle.search_epochs.specs.Tickets.{is_move}
use Rattle.desk_rules.specs.declared.effect.Refusal.{Refusal}
use Rattle.desk_rules.specs.declared.effect.Refusal.TheVariants as refusals
use Rattle.desk_rules.specs.declared.desk.Desk.{Desk}
use Rattle.desk_rules.specs.Desk.{Situation, is_boot, table, on_move, game_played, plays}
use Rattle.desk_rules.specs.Lines.{change, refused_option, early_answer}
use Rattle.desk_rules.specs.Steps.{Effect, Refuses, Accepts, Boots, Thinks, Shows, Forfeits, Dies, searched_by, shows_thinking, named_hint, spelling_of, resigns_after, resigns_at_end, resigns_when_gone, desk_after_effect, answers_pings}
use Rattle.desk_rules.specs.Replies.{refused, result_reply_by, result_reply_of, protover_row, offer_where, hint_row, row_accepted, list_where, resign_where, giving_up, given_up_where, early_refusal, early_refusals, reply_row, repeated_thinking, replies_of}
use Rattle.desk_rules.proofs.Quiet.{added_ping, quiet_pings}
use Rattle.adapter_core.specs.Trace.{State, Step, IsLawfulStep, state, situation_of_state, effect, owed_after, closed_after, step_hits}
use Rattle.adapter_core.proofs.Traces.{no_pings}
use Rattle.trace_laws.specs.Pings.{ping_in, pongs_written, written_pongs, PingsHavePongs, PongsWait, NoneIsHeld}

-- LINES THAT WRITE A PONG

-- the pongs of lines that stand one after the other
joined : (xs ys : List Reply) → pongs_written (xs ++ ys) ≡ pongs_written xs ++ pongs_written ys
joined [] ys = refl
joined (cecp.Pong n ∷ xs) ys = ap (λ (l : List ℕ). n ∷ l) (joined xs ys)
joined (x ∷ xs) ys = joined xs ys

none_joined : (xs ys : List Reply) → pongs_written xs ≡ [] → pongs_written ys ≡ [] → pongs_written (xs ++ ys) ≡ []
none_joined xs ys a b = joined xs ys ∙ ap (λ (l : List ℕ). l ++ pongs_written ys) a ∙ b

-- ROWS WITHOUT A PONG

no_options : (os : List OptionSetting) → pongs_written (map option_feature os) ≡ []
no_options [] = refl
no_options (o ∷ os) = no_options os

no_tables : (b : Bool) → pongs_written (tables b) ≡ []
no_tables true = refl
no_tables false = refl

no_features : (os : List OptionSetting) (said : List ℕ) → pongs_written (feature_list os said) ≡ []
no_features os said =
    let last = cecp.Feature (codes "done") (codes "1") ∷ [] in
    none_joined (tables (takes_tables os) ++ map option_feature (shown_options os)) last
    (none_joined (tables (takes_tables os)) (map option_feature (shown_options os)) (no_tables (takes_tables os)) (no_options (shown_options os))) refl

no_list : (b : Bool) (d : Desk) → pongs_written (list_where b d) ≡ []
no_list true d = no_features (table d) d.name
no_list false d = refl

no_resign : (b : Bool) → pongs_written (resign_where b) ≡ []
no_resign true = refl
no_resign false = refl

no_reason : (reasons : Bool) (side : Side) (loss : Loss) → pongs_written (giving_up reasons side loss ∷ []) ≡ []
no_reason true side loss = refl
no_reason false side loss = refl

no_given_up : (b : Bool) (o : Settings) (g : Game) → pongs_written (given_up_where b o g) ≡ []
no_given_up true o g = no_reason o.result_reasons (on_move g) losses.Ended
no_given_up false o g = refl

no_offer : (b : Bool) → pongs_written (offer_where b) ≡ []
no_offer true = refl
no_offer false = refl

no_result : (side : Side) (end : Option GameEnd) → pongs_written (result_reply_by side end) ≡ []
no_result side None = refl
no_result side (Some end) = refl

no_result_at : (b : Bool) (g : Game) → pongs_written (cond b (result_reply_of g) []) ≡ []
no_result_at true g = no_result (on_move g) (ended_of g)
no_result_at false g = refl

no_hint : (hint : Option AnyMove) → pongs_written (hint_row hint) ≡ []
no_hint None = refl
no_hint (Some m) = refl

no_wait : (s : ProtoverAnswer) (d : Desk) → pongs_written (protover_row s d) ≡ []
no_wait say.Wait d = refl
no_wait say.List d = no_features (table d) d.name

no_refusal : (r : Refusal) (line : List ℕ) → pongs_written (refused r line ∷ []) ≡ []
no_refusal (refusals.Because reason) line = refl
no_refusal (refusals.IllegalMove m) line = refl
no_refusal (refusals.GameTooLong m) line = refl
no_refusal refusals.IllegalPosition line = refl

no_early_line : (o : Option Refusal) (line : List ℕ) → pongs_written (early_refusal o line) ≡ []
no_early_line None line = refl
no_early_line (Some r) line = no_refusal r line

no_early : (os : List OptionSetting) (lines : List (List ℕ)) → pongs_written (early_refusals os lines) ≡ []
no_early os [] = refl
no_early os (line ∷ lines) =
    let first = refused_option (early_answer os line) in
    none_joined (early_refusal first line) (early_refusals os lines) (no_early_line first line) (no_early os lines)

no_line : (depth : Option ℕ) (score : Option Score) (texts : List (List ℕ)) (facts : Info) (s : Spelling) (hint : Option (List ℕ)) → pongs_written (option_to_list (line_with depth score texts facts s hint)) ≡ []
no_line (Some depth) (Some score) (text ∷ texts) facts s hint = refl
no_line (Some depth) (Some score) [] facts s hint = refl
no_line (Some depth) None texts facts s hint = refl
no_line None score texts facts s hint = refl

no_thinking : (b : Bool) (x : Option Reply) → pongs_written (option_to_list x) ≡ [] → pongs_written (option_to_list (cond b x None)) ≡ []
no_thinking true x e = e
no_thinking false x e = refl

no_repeated : (b : Bool) (last : Option ThinkingLine) → pongs_written (repeated_thinking b last) ≡ []
no_repeated true None = refl
no_repeated true (Some line) = refl
no_repeated false last = refl

no_answer : (h : Situation) (m : IfaceMsg) → pongs_written (row_accepted h m) ≡ []
unfolding row_accepted
no_answer h (says.Protover n) = no_wait (protover_answer (is_boot h.engine)) h.desk
no_answer h (says.UserMove m) = no_result_at (plays (change false h.desk (says.UserMove m)).mode) (change false h.desk (says.UserMove m)).game
no_answer h says.Go = no_result_at (plays (change false h.desk says.Go).mode) (change false h.desk says.Go).game
no_answer h says.PlayOther = no_result_at (plays (change false h.desk says.PlayOther).mode) (change false h.desk says.PlayOther).game
no_answer h says.Draw = no_offer _
no_answer h says.Hint = no_hint h.desk.hint
no_answer h m = refl

no_pong : (h : Situation) (d : Effect) → pongs_written (reply_row h d) ≡ []
unfolding reply_row
no_pong h (Refuses r line) = no_refusal r line
no_pong h (Accepts m) = no_answer h m
no_pong h Boots =
    none_joined (list_where h.desk.due (record h.desk { booted = true })) (early_refusals h.desk.options h.desk.early) (no_list h.desk.due (record h.desk { booted = true })) (no_early h.desk.options h.desk.early)
no_pong h (Thinks k facts) =
    let p = current_position (searched_by k h.desk.game h.desk.hint) in
    let s = spelling_of h.settings in
    let hint = named_hint k h.desk.game h.desk.hint in
    no_thinking (shows_thinking h k) (thinking_line s facts p hint) (no_line facts.depth facts.score (run_texts s p (legal_run p facts.pv)) facts s (hint_text s hint))
no_pong h (Shows best hint) =
    none_joined (result_reply_of (game_played h.desk.game best)) (resign_where (resigns_after h best)) (no_result (on_move (game_played h.desk.game best)) (ended_of (game_played h.desk.game best))) (no_resign (resigns_after h best))
no_pong h (Forfeits answer) = no_reason h.settings.result_reasons (on_move h.desk.game) (losses.IllegalMove (quoted answer))
no_pong h Dies =
    let gone = given_up_where (resigns_at_end h) h.settings h.desk.game in
    none_joined (list_where h.desk.due h.desk) (cecp.TellError _ ∷ gone) (no_list h.desk.due h.desk) (no_given_up (resigns_at_end h) h.settings h.desk.game)
no_pong h d = refl

-- THE PONGS OF A STEP

pongs_in : (ns : List ℕ) → pongs_written (map cecp.Pong ns) ≡ ns
pongs_in [] = refl
pongs_in (n ∷ ns) = ap (λ (l : List ℕ). n ∷ l) (pongs_in ns)

none_owed : (b : Bool) (ns : List ℕ) → pongs_written (cond b [] (map cecp.Pong ns)) ≡ cond b [] ns
none_owed true ns = refl
none_owed false ns = pongs_in ns

-- in a session that is not closed
open_pongs : (owes hits : Bool) (h : Situation) (d : Effect) → pongs_written (replies_of false owes hits h d) ≡ cond owes [] (desk_after_effect h d).pings
open_pongs owes hits h d =
    let resign = given_up_where (resigns_when_gone false h d) h.settings (desk_after_effect h d).game in
    let again = repeated_thinking (h.settings.repeat_thinking && hits) (desk_after_effect h d).last_thinking in
    joined (reply_row h d ++ resign ++ again) (cond owes [] (map cecp.Pong (desk_after_effect h d).pings))
    ∙ ap (λ (l : List ℕ). l ++ pongs_written (cond owes [] (map cecp.Pong (desk_after_effect h d).pings))) (none_joined (reply_row h d ++ resign) again (none_joined (reply_row h d) resign (no_pong h d) (no_given_up (resigns_when_gone false h d) h.settings (desk_after_effect h d).game)) (no_repeated (h.settings.repeat_thinking && hits) (desk_after_effect h d).last_thinking))
    ∙ none_owed owes (desk_after_effect h d).pings

-- what is told and what is held then are all that were held
shown_or_held : (closed owes hits : Bool) (h : Situation) (d : Effect) → pongs_written (replies_of closed owes hits h d) ++ cond (answers_pings closed owes) [] (desk_after_effect h d).pings ≡ (desk_after_effect h d).pings
shown_or_held true owes hits h d = refl
shown_or_held false true hits h d = ap (λ (l : List ℕ). l ++ (desk_after_effect h d).pings) (open_pongs true hits h d)
shown_or_held false false hits h d = append-nil _ ∙ open_pongs false hits h d

effect_pings : (h : Situation) (d : Effect) → (desk_after_effect h d).pings ≡ h.desk.pings ++ ping_in d
effect_pings h (Accepts (says.Ping n)) = added_ping h n
effect_pings h (Accepts m) = quiet_pings h (Accepts m) (λ x. x) ∙ sym (append-nil h.desk.pings)
effect_pings h d = quiet_pings h d (λ x. x) ∙ sym (append-nil h.desk.pings)

step_pings : (s : State) (step : Step) → IsLawfulStep s step → s.desk.pings ++ ping_in (effect s step.event) ≡ pongs_written step.replies ++ cond (answers_pings (closed_after s step.event) (is_move (owed_after s step.event))) [] (desk_after_effect (situation_of_state s) (effect s step.event)).pings
step_pings s step l =
    let h = situation_of_state s in
    let d = effect s step.event in
    let closed = closed_after s step.event in
    let owes = is_move (owed_after s step.event) in
    sym (effect_pings h d) ∙ sym (shown_or_held closed owes (step_hits s step.event) h d)
    ∙ ap (λ (rs : List Reply). pongs_written rs ++ cond (answers_pings closed owes) [] (desk_after_effect h d).pings) (sym l.replies)

-- THE LAWS

pub pings_have_pongs : (o : Settings) → PingsHavePongs o
pings_have_pongs o [] l = refl
pings_have_pongs o (step ∷ t) l =
    let s = state o t in
    ap (λ (ns : List ℕ). ns ++ ping_in (effect s step.event)) (pings_have_pongs o t l.0)
    ∙ append_assoc (written_pongs t) s.desk.pings (ping_in (effect s step.event))
    ∙ ap (λ (ns : List ℕ). written_pongs t ++ ns) (step_pings s step l.1)
    ∙ sym (append_assoc (written_pongs t) (pongs_written step.replies) (state o (step ∷ t)).desk.pings)

waits_by : (closed owes hits : Bool) (h : Situation) (d : Effect) → owes ≡ true → pongs_written (replies_of closed owes hits h d) ≡ []
waits_by true owes hits h d e = refl
waits_by false true hits h d e = open_pongs true hits h d
waits_by false false hits h d e = cc

pub pongs_wait : (o : Settings) → PongsWait o
pongs_wait o step t l e =
    let s = state o t in
    ap pongs_written l.1.replies ∙ waits_by (closed_after s step.event) (is_move (owed_after s step.event)) (step_hits s step.event) (situation_of_state s) (effect s step.event) e

pub none_is_held : (o : Settings) → NoneIsHeld o
none_is_held o step t l c e =
    let s = state o t in
    no_pings (closed_after s step.event) (is_move (owed_after s step.event)) (desk_after_effect (situation_of_state s) (effect s step.event)).pings c e
