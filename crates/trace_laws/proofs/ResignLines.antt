-- Lines that give no game up.
use Rattle.std.proofs.Common.{◌≡◌, ℕ, ◌+◌, List, [], ◌∷◌, ◌++◌, map, codes, Bool, true, false, cond, Option, Some, None, refl, arith}
use Rattle.std.specs.Option.{option_to_list}
use Rattle.chess_board.specs.declared.board.Move.{Move as AnyMove}
use Rattle.chess_board.specs.declared.board.Side.{Side}
use Rattle.cecp_lines.specs.Messages.{IfaceMsg}
use Rattle.cecp_lines.specs.Messages as says
use Rattle.cecp_lines.specs.declared.reply.Spelling.{Spelling}
use Rattle.cecp_lines.specs.Replies.{Reply}
use Rattle.cecp_lines.specs.Replies as cecp
use Rattle.uci_lines.specs.Info.{Info}
use Rattle.uci_lines.specs.declared.messages.Score.{Score}
use Rattle.game_record.specs.declared.ending.GameEnd.{GameEnd}
use Rattle.game_record.specs.Game.{Game}
use Rattle.game_record.specs.Ending.{ended_of}
use Rattle.option_map.specs.DeclaredOptions.Settings.{OptionSetting}
use Rattle.option_map.specs.DeclaredOptions.Shown.{takes_tables}
use Rattle.option_map.specs.declared.feature_lists.negotiation.ProtoverAnswer.{ProtoverAnswer}
use Rattle.option_map.specs.declared.feature_lists.negotiation.ProtoverAnswer.TheVariants as say
use Rattle.option_map.specs.WaitingOrders.Due.{protover_answer}
use Rattle.option_map.specs.FeatureLists.Features.{feature_list, tables, option_feature, shown_options}
use Rattle.think_text.specs.Line.{line_with}
use Rattle.desk_rules.specs.declared.effect.Refusal.{Refusal}
use Rattle.desk_rules.specs.declared.effect.Refusal.TheVariants as refusals
use Rattle.desk_rules.specs.declared.desk.Desk.{Desk}
use Rattle.desk_rules.specs.Desk.{Situation, is_boot, on_move, plays, table}
use Rattle.desk_rules.specs.Lines.{change, refused_option, early_answer}
use Rattle.think_text.specs.Last.{ThinkingLine}
use Rattle.desk_rules.specs.Replies.{refused, result_reply_by, result_reply_of, protover_row, offer_where, hint_row, row_accepted, list_where, early_refusal, early_refusals, repeated_thinking}
use Rattle.trace_laws.specs.Resigning.{resigns_in}

pub joined : (xs ys : List Reply) → resigns_in (xs ++ ys) ≡ resigns_in xs + resigns_in ys
joined [] ys = omega arith
joined (cecp.Resign ∷ xs) ys = omega (arith, joined xs ys)
joined (cecp.Lost side loss ∷ xs) ys = omega (arith, joined xs ys)
joined (x ∷ xs) ys = joined xs ys

pub none_joined : (xs ys : List Reply) → resigns_in xs ≡ 0 → resigns_in ys ≡ 0 → resigns_in (xs ++ ys) ≡ 0
none_joined xs ys a b = omega (arith, joined xs ys, a, b)

no_options : (os : List OptionSetting) → resigns_in (map option_feature os) ≡ 0
no_options [] = refl
no_options (o ∷ os) = no_options os

no_tables : (b : Bool) → resigns_in (tables b) ≡ 0
no_tables true = refl
no_tables false = refl

no_features : (os : List OptionSetting) (said : List ℕ) → resigns_in (feature_list os said) ≡ 0
no_features os said =
    let last = cecp.Feature (codes "done") (codes "1") ∷ [] in
    none_joined (tables (takes_tables os) ++ map option_feature (shown_options os)) last
    (none_joined (tables (takes_tables os)) (map option_feature (shown_options os)) (no_tables (takes_tables os)) (no_options (shown_options os))) refl

pub no_list : (b : Bool) (d : Desk) → resigns_in (list_where b d) ≡ 0
no_list true d = no_features (table d) d.name
no_list false d = refl

no_offer : (b : Bool) → resigns_in (offer_where b) ≡ 0
no_offer true = refl
no_offer false = refl

pub no_result : (side : Side) (end : Option GameEnd) → resigns_in (result_reply_by side end) ≡ 0
no_result side None = refl
no_result side (Some end) = refl

no_result_at : (b : Bool) (g : Game) → resigns_in (cond b (result_reply_of g) []) ≡ 0
no_result_at true g = no_result (on_move g) (ended_of g)
no_result_at false g = refl

no_hint : (hint : Option AnyMove) → resigns_in (hint_row hint) ≡ 0
no_hint None = refl
no_hint (Some m) = refl

no_wait : (s : ProtoverAnswer) (d : Desk) → resigns_in (protover_row s d) ≡ 0
no_wait say.Wait d = refl
no_wait say.List d = no_features (table d) d.name

pub no_refusal : (r : Refusal) (line : List ℕ) → resigns_in (refused r line ∷ []) ≡ 0
no_refusal (refusals.Because reason) line = refl
no_refusal (refusals.IllegalMove m) line = refl
no_refusal (refusals.GameTooLong m) line = refl
no_refusal refusals.IllegalPosition line = refl

no_early_line : (o : Option Refusal) (line : List ℕ) → resigns_in (early_refusal o line) ≡ 0
no_early_line None line = refl
no_early_line (Some r) line = no_refusal r line

pub no_early : (os : List OptionSetting) (lines : List (List ℕ)) → resigns_in (early_refusals os lines) ≡ 0
no_early os [] = refl
no_early os (line ∷ lines) =
    let first = refused_option (early_answer os line) in
    none_joined (early_refusal first line) (early_refusals os lines) (no_early_line first line) (no_early os lines)

pub no_line : (depth : Option ℕ) (score : Option Score) (texts : List (List ℕ)) (facts : Info) (s : Spelling) (hint : Option (List ℕ)) → resigns_in (option_to_list (line_with depth score texts facts s hint)) ≡ 0
no_line (Some depth) (Some score) (text ∷ texts) facts s hint = refl
no_line (Some depth) (Some score) [] facts s hint = refl
no_line (Some depth) None texts facts s hint = refl
no_line None score texts facts s hint = refl

pub no_thinking : (b : Bool) (x : Option Reply) → resigns_in (option_to_list x) ≡ 0 → resigns_in (option_to_list (cond b x None)) ≡ 0
no_thinking true x e = e
no_thinking false x e = refl

pub no_repeated : (b : Bool) (last : Option ThinkingLine) → resigns_in (repeated_thinking b last) ≡ 0
no_repeated true None = refl
no_repeated true (Some line) = refl
no_repeated false last = refl

pub no_answer : (h : Situation) (m : IfaceMsg) → resigns_in (row_accepted h m) ≡ 0
unfolding row_accepted
no_answer h (says.Protover n) = no_wait (protover_answer (is_boot h.engine)) h.desk
no_answer h (says.UserMove m) = no_result_at (plays (change false h.desk (says.UserMove m)).mode) (change false h.desk (says.UserMove m)).game
no_answer h says.Go = no_result_at (plays (change false h.desk says.Go).mode) (change false h.desk says.Go).game
no_answer h says.PlayOther = no_result_at (plays (change false h.desk says.PlayOther).mode) (change false h.desk says.PlayOther).game
no_answer h says.Draw = no_offer _
no_answer h says.Hint = no_hint h.desk.hint
no_answer h m = refl

pub no_pongs : (b : Bool) (ns : List ℕ) → resigns_in (cond b [] (map cecp.Pong ns)) ≡ 0
no_pongs true ns = refl
no_pongs false [] = refl
no_pongs false (n ∷ ns) = no_pongs false ns
