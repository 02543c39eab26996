-- With PlainTexts on no feature has a control byte.
use Rattle.std.proofs.Common.{◌≡◌, ℕ, List, [], ◌∷◌, ◌++◌, map, codes, Bool, true, false, not, cond, ◌&&◌, Option, Some, None, refl, sym, ap, subst, ◌∙◌}
use Rattle.std.specs.List.{AllByRecursion}
use Rattle.std.specs.Option.{option_to_list}
use Rattle.chess_board.specs.declared.board.Move.{Move as AnyMove}
use Rattle.chess_board.specs.declared.board.Side.{Side}
use Rattle.cecp_lines.specs.Messages.{IfaceMsg}
use Rattle.cecp_lines.specs.Messages as says
use Rattle.cecp_lines.specs.declared.reply.Spelling.{Spelling}
use Rattle.cecp_lines.specs.Losses.{Loss, quoted}
use Rattle.cecp_lines.specs.Losses as losses
use Rattle.cecp_lines.specs.Replies.{Reply, Feature}
use Rattle.cecp_lines.specs.Replies as cecp
use Rattle.uci_lines.specs.Info.{Info}
use Rattle.uci_lines.specs.declared.messages.Score.{Score}
use Rattle.game_record.specs.declared.ending.GameEnd.{GameEnd}
use Rattle.game_record.specs.Game.{Game, current_position}
use Rattle.game_record.specs.Ending.{ended_of}
use Rattle.think_text.specs.Line.{thinking_line, line_with, legal_run, run_texts, hint_text}
use Rattle.think_text.specs.Last.{ThinkingLine}
use Rattle.option_map.specs.DeclaredOptions.Settings.{OptionSetting, setting_kind_text}
use Rattle.option_map.specs.DeclaredOptions.Shown.{takes_memory, takes_cores, takes_tables}
use Rattle.option_map.specs.DeclaredOptions.Styles.{name_in_style}
use Rattle.option_map.specs.declared.feature_lists.negotiation.ProtoverAnswer.{ProtoverAnswer}
use Rattle.option_map.specs.declared.feature_lists.negotiation.ProtoverAnswer.TheVariants as say
use Rattle.option_map.specs.WaitingOrders.Due.{protover_answer}
use Rattle.option_map.specs.FeatureLists.Features.{bit, feature_list, fixed_features, by_options, tables, option_feature, shown_options, shown_name}
use Rattle.policy_rules.specs.declared.setting_rules.settings.Settings.{Settings}
use Rattle.search_epochs.specs.Tickets.{is_move}
use Rattle.desk_rules.specs.declared.effect.Refusal.{Refusal}
use Rattle.desk_rules.specs.declared.effect.Refusal.TheVariants as refusals
use Rattle.desk_rules.specs.declared.desk.Desk.{Desk}
use Rattle.desk_rules.specs.Desk.{Situation, is_boot, table, on_move, game_played, plays}
use Rattle.desk_rules.specs.Lines.{change, refused_option, early_answer}
use Rattle.desk_rules.specs.Steps.{Effect, Refuses, Names, Accepts, Declares, Boots, Thinks, Shows, Forfeits, LongLine, Dies, searched_by, shows_thinking, named_hint, spelling_of, resigns_after, resigns_at_end, resigns_when_gone, feature_style, desk_after_effect}
use Rattle.desk_rules.specs.Replies.{refused, result_reply_by, result_reply_of, protover_row, offer_where, hint_row, row_accepted, list_where, resign_where, giving_up, given_up_where, early_refusal, early_refusals, reply_row, repeated_thinking, replies_of}
use Rattle.adapter_core.specs.Trace.{State, Step, IsLawfulStep, LawfulTrace, state, trace_state_after, situation_of_state, effect, owed_after, closed_after, step_hits}
use Rattle.trace_laws.specs.PlainTexts.{IsPlainFeature, FeaturesArePlain}
use Rattle.trace_laws.proofs.Pieces.{all_both, all_where}
use Rattle.trace_laws.proofs.OneLine.{Leaves, change_leaves}
use Rattle.trace_laws.proofs.Resigning.{settings_stay}
use Rattle.trace_laws.proofs.CleanOptions.{IsClean, IsCleanOption, AreCleanOptions, both_clean, declared_clean, name_clean, shown_name_clean}

-- THE DESK

record IsCleanDesk (d : Desk) : Type 0 where
  options : AreCleanOptions d.options
  name : IsClean d.name

left_clean : (old new : Desk) → Leaves old new → IsCleanDesk old → IsCleanDesk new
left_clean old new l k = record { options = subst AreCleanOptions (sym l.options) k.options; name = subst IsClean (sym l.name) k.name }

clean_after : (h : Situation) (d : Effect) → h.settings.plain_texts ≡ true → IsCleanDesk h.desk → IsCleanDesk (desk_after_effect h d)
unfolding desk_after_effect
clean_after h (Accepts m) e k = left_clean h.desk (change (is_boot h.engine) h.desk m) (change_leaves (is_boot h.engine) h.desk m) k
clean_after h (Names text) e k = record { options = k.options; name = name_clean (feature_style h.settings) text e }
clean_after h (Declares name shape) e k = record { options = declared_clean (feature_style h.settings) h.desk.options name shape e k.options; name = k.name }
clean_after h d e k = record { options = k.options; name = k.name }

clean_in : (o : Settings) → o.plain_texts ≡ true → (t : List Step) → LawfulTrace o t → IsCleanDesk (state o t).desk
clean_in o e [] l = record { options = tt; name = refl }
clean_in o e (step ∷ t) l =
    let s = state o t in
    let k = clean_after (situation_of_state s) (effect s step.event) (ap (λ (r : Settings). r.plain_texts) (settings_stay o t) ∙ e) (clean_in o e t l.0) in
    record { options = k.options; name = k.name }

-- THE LIST OF FEATURES

abbrev ArePlain : List Reply → Type 0
ArePlain rs = AllByRecursion IsPlainFeature rs

quoted_clean : (t : List ℕ) → IsClean t → IsClean (34 ∷ t ++ 34 ∷ [])
quoted_clean t h = both_clean t (34 ∷ []) h refl

fixed_plain : ArePlain fixed_features
fixed_plain = (refl, (refl, (refl, (refl, (refl, (refl, (refl, (refl, (refl, (refl, (refl, (refl, (refl, tt)))))))))))))

bit_plain : (b : Bool) → IsClean (bit b)
bit_plain true = refl
bit_plain false = refl

tables_plain : (b : Bool) → ArePlain (tables b)
tables_plain true = (refl, tt)
tables_plain false = tt

shown_by : (w : Bool) (o : OptionSetting) (os : List OptionSetting) → IsCleanOption o → ArePlain (map option_feature os) → ArePlain (map option_feature (cond w (o ∷ os) os))
shown_by true o os h k = (quoted_clean (o.name ++ setting_kind_text o.text_feature o.kind) h, k)
shown_by false o os h k = k

options_plain : (os : List OptionSetting) → AreCleanOptions os → ArePlain (map option_feature (shown_options os))
options_plain [] k = tt
options_plain (o ∷ os) k = shown_by (not o.hidden) o (shown_options os) k.0 (options_plain os k.1)

list_plain : (os : List OptionSetting) (said : List ℕ) → AreCleanOptions os → IsClean said → ArePlain (feature_list os said)
list_plain os said k n =
    let done : ArePlain (Feature (codes "done") (codes "1") ∷ []) = (refl, tt) in
    let options : ArePlain (by_options os) = (bit_plain (takes_memory os), (bit_plain (takes_cores os), tables_plain (takes_tables os))) in
    let prefix = all_both IsPlainFeature fixed_features (by_options os) fixed_plain options in
    let most = all_both IsPlainFeature (fixed_features ++ by_options os) (map option_feature (shown_options os)) prefix (options_plain os k) in (
      quoted_clean (shown_name said) (shown_name_clean said n),
      all_both IsPlainFeature (fixed_features ++ by_options os ++ map option_feature (shown_options os)) (Feature (codes "done") (codes "1") ∷ []) most done,
    )

table_plain : (b : Bool) (os : List OptionSetting) (said : List ℕ) → AreCleanOptions os → IsClean said → ArePlain (feature_list (cond b os []) said)
table_plain true os said k n = list_plain os said k n
table_plain false os said k n = list_plain [] said tt n

where_plain : (b : Bool) (d : Desk) → IsCleanDesk d → ArePlain (list_where b d)
where_plain true d k = table_plain d.booted d.options d.name k.options k.name
where_plain false d k = tt

wait_plain : (s : ProtoverAnswer) (d : Desk) → IsCleanDesk d → ArePlain (protover_row s d)
wait_plain say.Wait d k = (refl, tt)
wait_plain say.List d k = where_plain true d k

-- THE OTHER REPLIES

resign_plain : (b : Bool) → ArePlain (resign_where b)
resign_plain true = (tt, tt)
resign_plain false = tt

up_plain : (reasons : Bool) (side : Side) (loss : Loss) → IsPlainFeature (giving_up reasons side loss)
up_plain true side loss = tt
up_plain false side loss = tt

given_plain : (b : Bool) (o : Settings) (g : Game) → ArePlain (given_up_where b o g)
given_plain true o g = (up_plain o.result_reasons (on_move g) losses.Ended, tt)
given_plain false o g = tt

offer_plain : (b : Bool) → ArePlain (offer_where b)
offer_plain true = (tt, tt)
offer_plain false = tt

result_plain : (side : Side) (end : Option GameEnd) → ArePlain (result_reply_by side end)
result_plain side None = tt
result_plain side (Some end) = (tt, tt)

ended_plain : (b : Bool) (g : Game) → ArePlain (cond b (result_reply_of g) [])
ended_plain true g = result_plain (on_move g) (ended_of g)
ended_plain false g = tt

hint_plain : (hint : Option AnyMove) → ArePlain (hint_row hint)
hint_plain None = tt
hint_plain (Some m) = (tt, tt)

refusal_plain : (r : Refusal) (line : List ℕ) → ArePlain (refused r line ∷ [])
refusal_plain (refusals.Because reason) line = (tt, tt)
refusal_plain (refusals.IllegalMove m) line = (tt, tt)
refusal_plain (refusals.GameTooLong m) line = (tt, tt)
refusal_plain refusals.IllegalPosition line = (tt, tt)

early_line_plain : (o : Option Refusal) (line : List ℕ) → ArePlain (early_refusal o line)
early_line_plain None line = tt
early_line_plain (Some r) line = refusal_plain r line

early_plain : (os : List OptionSetting) (lines : List (List ℕ)) → ArePlain (early_refusals os lines)
early_plain os [] = tt
early_plain os (line ∷ lines) =
    let first = refused_option (early_answer os line) in
    all_both IsPlainFeature (early_refusal first line) (early_refusals os lines) (early_line_plain first line) (early_plain os lines)

line_plain : (depth : Option ℕ) (score : Option Score) (texts : List (List ℕ)) (facts : Info) (s : Spelling) (hint : Option (List ℕ)) → ArePlain (option_to_list (line_with depth score texts facts s hint))
line_plain (Some depth) (Some score) (text ∷ texts) facts s hint = (tt, tt)
line_plain (Some depth) (Some score) [] facts s hint = tt
line_plain (Some depth) None texts facts s hint = tt
line_plain None score texts facts s hint = tt

thinking_plain : (b : Bool) (x : Option Reply) → ArePlain (option_to_list x) → ArePlain (option_to_list (cond b x None))
thinking_plain true x k = k
thinking_plain false x k = tt

repeated_plain : (b : Bool) (last : Option ThinkingLine) → ArePlain (repeated_thinking b last)
repeated_plain true None = tt
repeated_plain true (Some line) = (tt, tt)
repeated_plain false last = tt

pongs_plain : (ns : List ℕ) → ArePlain (map cecp.Pong ns)
pongs_plain [] = tt
pongs_plain (n ∷ ns) = (tt, pongs_plain ns)

answer_plain : (h : Situation) (m : IfaceMsg) → IsCleanDesk h.desk → ArePlain (row_accepted h m)
unfolding row_accepted
answer_plain h (says.Protover n) k = wait_plain (protover_answer (is_boot h.engine)) h.desk k
answer_plain h (says.UserMove m) k = ended_plain (plays (change false h.desk (says.UserMove m)).mode) (change false h.desk (says.UserMove m)).game
answer_plain h says.Go k = ended_plain (plays (change false h.desk says.Go).mode) (change false h.desk says.Go).game
answer_plain h says.PlayOther k = ended_plain (plays (change false h.desk says.PlayOther).mode) (change false h.desk says.PlayOther).game
answer_plain h says.Draw k = offer_plain _
answer_plain h says.Hint k = hint_plain h.desk.hint
answer_plain h says.Dot k = (tt, tt)
answer_plain h m k = tt

row_plain : (h : Situation) (d : Effect) → IsCleanDesk h.desk → ArePlain (reply_row h d)
unfolding reply_row
row_plain h (Refuses r line) k = refusal_plain r line
row_plain h (Accepts m) k = answer_plain h m k
row_plain h Boots k =
    let d = record h.desk { booted = true } in
    all_both IsPlainFeature (list_where h.desk.due d) (early_refusals h.desk.options h.desk.early) (where_plain h.desk.due d (record { options = k.options; name = k.name })) (early_plain h.desk.options h.desk.early)
row_plain h (Thinks kind facts) k =
    let p = current_position (searched_by kind h.desk.game h.desk.hint) in
    let s = spelling_of h.settings in
    let hint = named_hint kind h.desk.game h.desk.hint in
    thinking_plain (shows_thinking h kind) (thinking_line s facts p hint) (line_plain facts.depth facts.score (run_texts s p (legal_run p facts.pv)) facts s (hint_text s hint))
row_plain h (Shows best hint) k =
    (tt, all_both IsPlainFeature (result_reply_of (game_played h.desk.game best)) (resign_where (resigns_after h best)) (result_plain (on_move (game_played h.desk.game best)) (ended_of (game_played h.desk.game best))) (resign_plain (resigns_after h best)))
row_plain h Dies k =
    let gone = given_up_where (resigns_at_end h) h.settings h.desk.game in
    all_both IsPlainFeature (list_where h.desk.due h.desk) (cecp.TellError _ ∷ gone) (where_plain h.desk.due h.desk k) (tt, given_plain (resigns_at_end h) h.settings h.desk.game)
row_plain h (Forfeits answer) k = (tt, (up_plain h.settings.result_reasons (on_move h.desk.game) (losses.IllegalMove (quoted answer)), tt))
row_plain h LongLine k = (tt, tt)
row_plain h d k = tt

open_plain : (owes hits : Bool) (h : Situation) (d : Effect) → IsCleanDesk h.desk → ArePlain (replies_of false owes hits h d)
open_plain owes hits h d k =
    let gone = given_up_where (resigns_when_gone false h d) h.settings (desk_after_effect h d).game in
    let again = repeated_thinking (h.settings.repeat_thinking && hits) (desk_after_effect h d).last_thinking in
    let pongs = map cecp.Pong (desk_after_effect h d).pings in
    all_both IsPlainFeature (reply_row h d ++ gone ++ again) (cond owes [] pongs)
    (all_both IsPlainFeature (reply_row h d ++ gone) again (all_both IsPlainFeature (reply_row h d) gone (row_plain h d k) (given_plain (resigns_when_gone false h d) h.settings (desk_after_effect h d).game)) (repeated_plain (h.settings.repeat_thinking && hits) (desk_after_effect h d).last_thinking))
    (all_where IsPlainFeature owes [] pongs tt (pongs_plain (desk_after_effect h d).pings))

replies_plain : (closed owes hits : Bool) (h : Situation) (d : Effect) → IsCleanDesk h.desk → ArePlain (replies_of closed owes hits h d)
replies_plain true owes hits h d k = tt
replies_plain false owes hits h d k = open_plain owes hits h d k

pub features_plain : (o : Settings) → FeaturesArePlain o
features_plain o e [] l = tt
features_plain o e (step ∷ t) l =
    let s = state o t in (
      subst ArePlain (sym l.1.replies) (replies_plain (closed_after s step.event) (is_move (owed_after s step.event)) (step_hits s step.event) (situation_of_state s) (effect s step.event) (clean_in o e t l.0)),
      features_plain o e t l.0,
    )
