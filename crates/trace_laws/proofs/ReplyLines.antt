-- Each line to the interface is one line.
use Rattle.std.proofs.Common.{◌≡◌, ℕ, ◌+◌, ◌≤◌, List, [], ◌∷◌, ◌++◌, length, map, not, eqb, leb, ltb, Bool, true, false, cond, Option, Some, None, Result, Ok, Err, decimal, codes, ◌&&◌, refl, sym, subst, arith, length-append}
use Rattle.std.specs.Prelude.{ℤ, IfSome}
use Rattle.std.specs.Fmt.{signed_decimal}
use Rattle.std.specs.List.{AllByRecursion, join_with_byte, list_all}
use Rattle.std.specs.Option.{option_to_list}
use Rattle.std.proofs.lemmas.Bool.{and_parts}
use Rattle.std.proofs.lemmas.Bool.Decides.{nat_tests}
use Rattle.chess_board.specs.declared.board.Move.{Move}
use Rattle.chess_board.specs.declared.board.Side.{Side}
use Rattle.chess_board.specs.declared.board.Side.TheVariants.{White, Black}
use Rattle.chess_board.specs.Position.{Position}
use Rattle.chess_board.specs.Text.{text_of_move}
use Rattle.protocol_tokens.specs.Tokens.{trimmed}
use Rattle.protocol_tokens.proofs.Runs.{all_of}
use Rattle.cecp_lines.specs.Messages.{IfaceMsg}
use Rattle.cecp_lines.specs.Messages as says
use Rattle.cecp_lines.specs.declared.reply.Spelling.{Spelling}
use Rattle.cecp_lines.specs.declared.reply.Spelling.TheVariants.{Coordinates, San}
use Rattle.cecp_lines.specs.Replies.{Reply, Feature, reply_text, reason_text, field, hint_in_parentheses, current_text}
use Rattle.cecp_lines.specs.Replies as cecp
use Rattle.cecp_lines.specs.Losses.{Loss, loss_text, quoted, quoted_text, is_quotable, is_quotable_byte}
use Rattle.cecp_lines.specs.Losses as losses
use Rattle.cecp_lines.specs.declared.reply.Reason.{Reason}
use Rattle.cecp_lines.specs.declared.reply.Reason.TheVariants as reasons
use Rattle.cecp_lines.specs.declared.reply.UserError.{UserError}
use Rattle.cecp_lines.specs.declared.reply.UserError.TheVariants as user_error
use Rattle.cecp_lines.specs.declared.reply.Outcome.{Outcome}
use Rattle.cecp_lines.specs.declared.reply.Outcome.TheVariants as outcomes
use Rattle.uci_lines.specs.declared.messages.Score.{Score}
use Rattle.uci_lines.specs.Info.{Info}
use Rattle.uci_lines.specs.Messages as hears
use Rattle.game_record.specs.declared.ending.GameEnd.{GameEnd}
use Rattle.game_record.specs.Game.{Game, current_position}
use Rattle.game_record.specs.Ending.{ended_of}
use Rattle.policy_rules.specs.declared.setting_rules.settings.Settings.{Settings}
use Rattle.option_map.specs.DeclaredOptions.Settings.{OptionSetting, setting_kind_text, text_size}
use Rattle.option_map.specs.DeclaredOptions.Shown.{takes_memory, takes_cores, takes_tables}
use Rattle.option_map.specs.DeclaredOptions.Spelled.{AreDeclared}
use Rattle.line_io.specs.Event.{is_line}
use Rattle.uci_lines.specs.Orders.{Order}
use Rattle.option_map.specs.declared.declared_options.fault.OptionFault.{OptionFault}
use Rattle.option_map.specs.declared.declared_options.fault.OptionFault.TheVariants.{UnknownOption, BadValue}
use Rattle.option_map.proofs.DeclaredOptions.Values.{no_feed, IsPart, line_part, trimmed_part}
use Rattle.think_text.specs.declared.line.Pondered.{Pondered}
use Rattle.think_text.specs.Line.{legal_run, line_with, run_texts, thinking_line, value_of, written}
use Rattle.think_text.specs.Line as think
use Rattle.think_text.specs.Last.{ThinkingLine, with_hint, last_after}
use Rattle.think_text.proofs.Hints.{differ}
use Rattle.think_text.proofs.Short.{lines_short}
use Rattle.option_map.specs.declared.feature_lists.negotiation.ProtoverAnswer.{ProtoverAnswer}
use Rattle.option_map.specs.declared.feature_lists.negotiation.ProtoverAnswer.TheVariants as say
use Rattle.option_map.specs.WaitingOrders.Due.{protover_answer}
use Rattle.option_map.specs.FeatureLists.Features.{shown_name, is_unfit, in_quotes, bit, fixed_features, tables, by_options, option_feature, shown_options, feature_list, reply_line, reply_lines}
use Rattle.desk_rules.specs.declared.effect.Refusal.{Refusal}
use Rattle.desk_rules.specs.declared.effect.Refusal.TheVariants as refusals
use Rattle.desk_rules.specs.declared.desk.Desk.{Desk}
use Rattle.desk_rules.specs.Desk.{Situation, is_boot, on_move, game_played, plays}
use Rattle.desk_rules.specs.Lines.{change, refused_option, early_answer}
use Rattle.desk_rules.specs.Steps.{Effect, LongLine, Refuses, Accepts, Boots, Thinks, Shows, Forfeits, Dies, searched_by, shows_thinking, named_hint, spelling_of, resigns_after, resigns_at_end, resigns_when_gone, desk_after_effect}
use Rattle.desk_rules.specs.Replies.{refused, outcome_of, result_reply_by, result_reply_of, protover_row, offer_where, hint_row, row_accepted, list_where, resign_where, giving_up, given_up_where, early_refusal, early_refusals, reply_row, repeated_thinking, replies_of}
use Rattle.desk_rules.specs.Fits.{EffectFitsDesk, IsSaid, DeskInvariant}
use Rattle.desk_rules.proofs.Ponders.{hint_played}
use Rattle.desk_rules.proofs.Rooms.{line_le, list_le, most_le}
use Rattle.trace_laws.proofs.Pieces.{both_bare, joined, wide, number_part, signed_part, move_part, all_both, all_where}
use Rattle.trace_laws.proofs.OptionTexts.{declared_bare}
use Rattle.trace_laws.proofs.Sans.{san_bare}

-- the text of the reply is one line
abbrev pub IsShown : Reply → Type 0
IsShown reply = IsPart 131070 (reply_text reply)

abbrev pub AreShown : List Reply → Type 0
AreShown replies = AllByRecursion IsShown replies

-- words and a text
worded : {n : ℕ} (words text : List ℕ) → no_feed words ≡ true → length words ≤ 50 → IsPart n text → n + 50 ≤ 131070 → IsPart 131070 (words ++ text)
worded {n} words text w s p l = wide 131070 (words ++ text) (joined words text (record { line = w; short = s }) p) (omega (arith, l))

-- REFUSALS

reason_part : (r : Reason) → IsPart 20 (reason_text r)
reason_part reasons.UnknownCommand = record { line = refl; short = omega arith }
reason_part r = record { line = refl; short = omega arith }

error_shown : (r : Reason) (line : List ℕ) → IsPart 65536 line → IsShown (cecp.Error r line)
error_shown r line p =
    let one : IsPart 27 (codes "Error (" ++ reason_text r) = joined {m = 7} {n = 20} (codes "Error (") (reason_text r) (record { line = refl; short = omega arith }) (reason_part r) in
    let two : IsPart 30 (codes "Error (" ++ reason_text r ++ codes "): ") = joined {m = 27} {n = 3} (codes "Error (" ++ reason_text r) (codes "): ") one (record { line = refl; short = omega arith }) in
    wide 131070 (reply_text (cecp.Error r line)) (joined {m = 30} {n = 65536} (codes "Error (" ++ reason_text r ++ codes "): ") line two p) (omega arith)

report_shown : (t : UserError) → IsShown (cecp.TellError t)
report_shown user_error.Position = record { line = refl; short = omega arith }
report_shown user_error.Move = record { line = refl; short = omega arith }
report_shown user_error.Ended = record { line = refl; short = omega arith }

refused_shown : (r : Refusal) (line : List ℕ) → IsPart 65536 line → IsShown (refused r line)
refused_shown (refusals.Because reason) line p = error_shown reason (trimmed line) (trimmed_part line p)
refused_shown (refusals.IllegalMove m) line p = worded (codes "Illegal move: ") (text_of_move m) refl (omega arith) (move_part m) (omega arith)
refused_shown (refusals.GameTooLong m) line p = worded (codes "Illegal move (game too long): ") (text_of_move m) refl (omega arith) (move_part m) (omega arith)
refused_shown refusals.IllegalPosition line p = report_shown user_error.Position

-- FEATURES

-- replies whose texts have no line feed
AreBare : List Reply → Type 0
AreBare rs = AllByRecursion (λ (r : Reply). no_feed (reply_text r) ≡ true) rs

named_bare : (name text : List ℕ) → no_feed name ≡ true → no_feed text ≡ true → no_feed (reply_text (Feature name (in_quotes text))) ≡ true
named_bare name text n t =
    let one = both_bare (codes "feature ") name refl n in
    let two = both_bare (codes "feature " ++ name) (codes "=") one refl in
    let quoted = both_bare (34 ∷ []) (text ++ 34 ∷ []) refl (both_bare text (34 ∷ []) t refl) in
    both_bare (codes "feature " ++ name ++ codes "=") (in_quotes text) two quoted

fixed_bare : AreBare fixed_features
unfolding AreBare
fixed_bare = (refl, (refl, (refl, (refl, (refl, (refl, (refl, (refl, (refl, (refl, (refl, (refl, (refl, tt)))))))))))))

memory_bare : (b : Bool) → no_feed (reply_text (Feature (codes "memory") (bit b))) ≡ true
memory_bare true = refl
memory_bare false = refl

cores_bare : (b : Bool) → no_feed (reply_text (Feature (codes "smp") (bit b))) ≡ true
cores_bare true = refl
cores_bare false = refl

tables_bare : (b : Bool) → AreBare (tables b)
unfolding AreBare
tables_bare true = (refl, tt)
tables_bare false = tt

shown_bare : (w : Bool) (o : OptionSetting) (os : List OptionSetting) → no_feed (o.name ++ setting_kind_text o.text_feature o.kind) ≡ true → AreBare (map option_feature os) → AreBare (map option_feature (cond w (o ∷ os) os))
unfolding AreBare
shown_bare true o os h k = (named_bare (codes "option") (o.name ++ setting_kind_text o.text_feature o.kind) refl h, k)
shown_bare false o os h k = k

options_bare : (os : List OptionSetting) → AreDeclared os → AreBare (map option_feature (shown_options os))
unfolding AreBare
options_bare [] d = tt
options_bare (o ∷ os) d = shown_bare (not o.hidden) o (shown_options os) (declared_bare o d.0) (options_bare os d.1)

list_bare : (os : List OptionSetting) (said : List ℕ) → AreDeclared os → no_feed (shown_name said) ≡ true → AreBare (feature_list os said)
unfolding AreBare
list_bare os said d n =
    let P = λ (r : Reply). no_feed (reply_text r) ≡ true in
    let last : AreBare (Feature (codes "done") (codes "1") ∷ []) = (refl, tt) in
    let options : AreBare (by_options os) = (memory_bare (takes_memory os), (cores_bare (takes_cores os), tables_bare (takes_tables os))) in
    let prefix = all_both P fixed_features (by_options os) fixed_bare options in
    let most = all_both P (fixed_features ++ by_options os) (map option_feature (shown_options os)) prefix (options_bare os d) in (
      named_bare (codes "myname") (shown_name said) refl n,
      all_both P (fixed_features ++ by_options os ++ map option_feature (shown_options os)) (Feature (codes "done") (codes "1") ∷ []) most last,
    )

-- no reply is longer than all of them
lines_shown : (n : ℕ) (rs : List Reply) → AreBare rs → length (reply_lines rs) ≤ n → n ≤ 131070 → AreShown rs
unfolding AreBare
lines_shown n [] b l m = tt
lines_shown n (r ∷ rs) b l m =
    let whole : length (reply_text r) + length (reply_lines rs) ≤ n = omega (arith, l, length-append (reply_line r) (reply_lines rs), length-append (reply_text r) (10 ∷ [])) in
    (record { line = b.0; short = omega (arith, whole, m) }, lines_shown n rs b.1 (omega (arith, whole)) m)

-- the last thinking line is one, if it is shown again
abbrev pub IsLastShown : Option ThinkingLine → Type 0
IsLastShown last = IfSome last (λ line. IsShown (with_hint None line))

-- what the lines to the interface say of the desk
pub record HasTexts (d : Desk) : Type 0 where
  pub options : AreDeclared d.options
  pub early : AllByRecursion (λ line. is_line line ≡ true) d.early
  pub size : text_size d.options ≤ 65536
  pub count : length d.options ≤ 256
  pub name : no_feed d.name ≡ true
  pub last : IsLastShown d.last_thinking

-- the name that is shown
shown_name_bare : (said : List ℕ) → no_feed said ≡ true → no_feed (shown_name said) ≡ true
shown_name_bare said h = by (is_unfit said) where
  by : (b : Bool) → no_feed (cond b (codes "UCI engine") said) ≡ true
  by true = refl
  by false = h

features_shown : (os : List OptionSetting) (said : List ℕ) → AreDeclared os → text_size os ≤ 65536 → length os ≤ 256 → no_feed said ≡ true → AreShown (feature_list os said)
features_shown os said d s c n = lines_shown 67000 (feature_list os said) (list_bare os said d (shown_name_bare said n)) (list_le os said s c) (omega arith)

table_shown : (b : Bool) (os : List OptionSetting) (said : List ℕ) → AreDeclared os → text_size os ≤ 65536 → length os ≤ 256 → no_feed said ≡ true → AreShown (feature_list (cond b os []) said)
table_shown true os said d s c n = features_shown os said d s c n
table_shown false os said d s c n = features_shown [] said tt (omega arith) (omega arith) n

list_shown : (b : Bool) (d : Desk) → HasTexts d → AreShown (list_where b d)
list_shown true d t = table_shown d.booted d.options d.name t.options t.size t.count t.name
list_shown false d t = tt

wait_shown : (s : ProtoverAnswer) (d : Desk) → HasTexts d → AreShown (protover_row s d)
wait_shown say.Wait d t = (record { line = refl; short = omega arith }, tt)
wait_shown say.List d t = list_shown true d t

-- GAMES

result_shown : (o : Outcome) → IsShown (cecp.Result o)
result_shown outcomes.WhiteMates = record { line = refl; short = omega arith }
result_shown outcomes.BlackMates = record { line = refl; short = omega arith }
result_shown outcomes.Stalemate = record { line = refl; short = omega arith }
result_shown outcomes.Dead = record { line = refl; short = omega arith }
result_shown outcomes.Repetition = record { line = refl; short = omega arith }
result_shown outcomes.Fifty = record { line = refl; short = omega arith }

ending_shown : (side : Side) (end : Option GameEnd) → AreShown (result_reply_by side end)
ending_shown side None = tt
ending_shown side (Some end) = (result_shown (outcome_of side end), tt)

ended_shown : (b : Bool) (g : Game) → AreShown (cond b (result_reply_of g) [])
ended_shown true g = ending_shown (on_move g) (ended_of g)
ended_shown false g = tt

resign_shown : (b : Bool) → AreShown (resign_where b)
resign_shown true = (record { line = refl; short = omega arith }, tt)
resign_shown false = tt

quotable_bare : (b : ℕ) → is_quotable_byte b ≡ true → not (eqb b 10) ≡ true
quotable_bare b h =
    let shown = and_parts (leb 33 b && leb b 126) (not (eqb b 123)) (and_parts (leb 33 b && leb b 126 && not (eqb b 123)) (not (eqb b 125)) h).0 in
    let low = (and_parts (leb 33 b) (leb b 126) shown.0).0 in
    grind (arith, nat_tests, low)

-- what is quoted has no line feed
quoted_part : (answer : List ℕ) (b : Bool) → is_quotable answer ≡ b → IsPart 18 (quoted_text (cond b (Some answer) None))
quoted_part answer false e = record { line = refl; short = omega arith }
quoted_part answer true e =
    let parts = and_parts (ltb 0 (length answer) && leb (length answer) 16) (list_all is_quotable_byte answer) e in
    let few = (and_parts (ltb 0 (length answer)) (leb (length answer) 16) parts.0).1 in
    let short : length answer ≤ 16 = grind (arith, nat_tests, few) in
    joined {m = 2} {n = 16} (codes ": ") answer (record { line = refl; short = omega arith }) (record { line = all_of is_quotable_byte (λ b. not (eqb b 10)) quotable_bare answer parts.1; short = short })

-- the lines by which a game is given up
loss_part : (answer : List ℕ) → IsPart 40 (loss_text (losses.IllegalMove (quoted answer)))
loss_part answer = joined {m = 22} {n = 18} (codes "Illegal move by engine") (quoted_text (quoted answer)) (record { line = refl; short = omega arith }) (quoted_part answer (is_quotable answer) refl)

scored : (score text : List ℕ) → IsPart 5 score → IsPart 40 text → IsPart 131070 (score ++ (text ++ codes "}"))
scored score text s p =
    wide 131070 (score ++ (text ++ codes "}")) (joined {m = 5} {n = 41} score (text ++ codes "}") s (joined {m = 40} {n = 1} text (codes "}") p (record { line = refl; short = omega arith }))) (omega arith)

lost_shown : (side : Side) (loss : Loss) → IsPart 40 (loss_text loss) → IsShown (cecp.Lost side loss)
lost_shown White loss p = scored (codes "0-1 {") (loss_text loss) (record { line = refl; short = omega arith }) p
lost_shown Black loss p = scored (codes "1-0 {") (loss_text loss) (record { line = refl; short = omega arith }) p

given_shown : (reasons : Bool) (side : Side) (loss : Loss) → IsPart 40 (loss_text loss) → IsShown (giving_up reasons side loss)
given_shown true side loss p = lost_shown side loss p
given_shown false side loss p = record { line = refl; short = omega arith }

gone_shown : (b : Bool) (o : Settings) (g : Game) → AreShown (given_up_where b o g)
gone_shown true o g = (given_shown o.result_reasons (on_move g) losses.Ended (record { line = refl; short = omega arith }), tt)
gone_shown false o g = tt

offer_shown : (b : Bool) → AreShown (offer_where b)
offer_shown true = (record { line = refl; short = omega arith }, tt)
offer_shown false = tt

hint_shown : (hint : Option Move) → AreShown (hint_row hint)
hint_shown None = tt
hint_shown (Some m) = (worded (codes "Hint: ") (text_of_move m) refl (omega arith) (move_part m) (omega arith), tt)

-- NUMBERS

field_part : {n : ℕ} (number : List ℕ) → IsPart n number → IsPart (n + 1) (field number)
field_part {n} number p = joined {m = n} {n = 1} number (32 ∷ []) p (record { line = refl; short = omega arith })

current_part : (m : Option Move) → IsPart 6 (current_text m)
current_part None = record { line = refl; short = omega arith }
current_part (Some m) = joined {m = 1} {n = 5} (32 ∷ []) (text_of_move m) (record { line = refl; short = omega arith }) (move_part m)

stat_shown : (time nodes depth left all : ℕ) (current : Option Move) → IsShown (cecp.Stat01 time nodes depth left all current)
stat_shown time nodes depth left all current =
    let a : IsPart 73 (codes "stat01: " ++ field (decimal time)) = joined {m = 8} {n = 65} (codes "stat01: ") (field (decimal time)) (record { line = refl; short = omega arith }) (field_part (decimal time) (number_part time)) in
    let b : IsPart 138 (codes "stat01: " ++ field (decimal time) ++ field (decimal nodes)) =
    joined {m = 73} {n = 65} (codes "stat01: " ++ field (decimal time)) (field (decimal nodes)) a (field_part (decimal nodes) (number_part nodes)) in
    let c : IsPart 203 (codes "stat01: " ++ field (decimal time) ++ field (decimal nodes) ++ field (decimal depth)) =
    joined {m = 138} {n = 65} (codes "stat01: " ++ field (decimal time) ++ field (decimal nodes)) (field (decimal depth)) b (field_part (decimal depth) (number_part depth)) in
    let d : IsPart 268 (codes "stat01: " ++ field (decimal time) ++ field (decimal nodes) ++ field (decimal depth) ++ field (decimal left)) =
    joined {m = 203} {n = 65} (codes "stat01: " ++ field (decimal time) ++ field (decimal nodes) ++ field (decimal depth)) (field (decimal left)) c (field_part (decimal left) (number_part left)) in
    let e : IsPart 332 (codes "stat01: " ++ field (decimal time) ++ field (decimal nodes) ++ field (decimal depth) ++ field (decimal left) ++ decimal all) =
    joined {m = 268} {n = 64} (codes "stat01: " ++ field (decimal time) ++ field (decimal nodes) ++ field (decimal depth) ++ field (decimal left)) (decimal all) d (number_part all) in
    wide 131070 (reply_text (cecp.Stat01 time nodes depth left all current))
    (joined {m = 332} {n = 6} (codes "stat01: " ++ field (decimal time) ++ field (decimal nodes) ++ field (decimal depth) ++ field (decimal left) ++ decimal all) (current_text current) e (current_part current)) (omega arith)

pongs_told : (ns : List ℕ) → AreShown (map cecp.Pong ns)
pongs_told [] = tt
pongs_told (n ∷ ns) = (worded (codes "pong ") (decimal n) refl (omega arith) (number_part n) (omega arith), pongs_told ns)

-- THINKING LINES

hint_bare : (hint : Option (List ℕ)) → IfSome hint (λ t. no_feed t ≡ true) → no_feed (hint_in_parentheses hint) ≡ true
hint_bare None h = refl
hint_bare (Some t) h = both_bare (40 ∷ []) (t ++ 41 ∷ 32 ∷ []) refl (both_bare t (41 ∷ 32 ∷ []) h refl)

-- a move has no line feed in either spelling
written_bare : (s : Spelling) (p : Position) (m : Move) → no_feed (written s p m) ≡ true
written_bare Coordinates p m = (move_part m).line
written_bare San p m = san_bare p m

said_bare : (s : Spelling) (hint : Option Pondered) → IfSome (think.hint_text s hint) (λ t. no_feed t ≡ true)
said_bare s None = tt
said_bare s (Some hint) = written_bare s hint.before hint.hint

-- texts without line feeds
abbrev AreBareTexts : List (List ℕ) → Type 0
AreBareTexts texts = AllByRecursion (λ t. no_feed t ≡ true) texts

texts_bare : (s : Spelling) (p : Position) (moves : List Move) → AreBareTexts (run_texts s p moves)
texts_bare s p [] = tt
texts_bare s p (m ∷ moves) = (written_bare s p m, texts_bare s (think.position_after_pv_move p m) moves)

run_bare : (t : List ℕ) (texts : List (List ℕ)) → AreBareTexts (t ∷ texts) → no_feed (join_with_byte 32 (t ∷ texts)) ≡ true
run_bare t [] h = h.0
run_bare t (u ∷ texts) h = both_bare t (32 ∷ join_with_byte 32 (u ∷ texts)) h.0 (both_bare (32 ∷ []) (join_with_byte 32 (u ∷ texts)) refl (run_bare u texts h.1))

number_bare : (n : ℕ) → no_feed (field (decimal n)) ≡ true
number_bare n = (field_part (decimal n) (number_part n)).line

thinking_bare : (depth : ℕ) (score : ℤ) (time nodes : ℕ) (s : Spelling) (hint : Option (List ℕ)) (pv : List ℕ) → IfSome hint (λ t. no_feed t ≡ true) → no_feed pv ≡ true
    → no_feed (reply_text (cecp.Thinking depth score time nodes s hint pv)) ≡ true
thinking_bare depth score time nodes s hint pv w h =
    let a = field (decimal depth) ++ field (signed_decimal score) in
    let one : no_feed a ≡ true = both_bare (field (decimal depth)) (field (signed_decimal score)) (number_bare depth) (field_part (signed_decimal score) (signed_part score)).line in
    let two = both_bare a (field (decimal time)) one (number_bare time) in
    let three = both_bare (a ++ field (decimal time)) (field (decimal nodes)) two (number_bare nodes) in
    let four = both_bare (a ++ field (decimal time) ++ field (decimal nodes)) (hint_in_parentheses hint) three (hint_bare hint w) in
    both_bare (a ++ field (decimal time) ++ field (decimal nodes) ++ hint_in_parentheses hint) pv four h

-- a thinking line, if there is one
abbrev IsBareIn : Option Reply → Type 0
IsBareIn None = Unit {0}
IsBareIn (Some reply) = no_feed (reply_text reply) ≡ true

line_bare : (depth : Option ℕ) (score : Option Score) (texts : List (List ℕ)) (facts : Info) (s : Spelling) (hint : Option (List ℕ)) → AreBareTexts texts → IfSome hint (λ t. no_feed t ≡ true)
    → IsBareIn (line_with depth score texts facts s hint)
line_bare (Some depth) (Some score) (t ∷ texts) facts s hint b w = thinking_bare depth (value_of score) _ _ s hint (join_with_byte 32 (t ∷ texts)) w (run_bare t texts b)
line_bare (Some depth) (Some score) [] facts s hint b w = tt
line_bare (Some depth) None texts facts s hint b w = tt
line_bare None score texts facts s hint b w = tt

one_shown : (o : Option Reply) (b : Bool) → IsBareIn o → ((t : Reply) → o ≡ Some t → length (reply_text t) ≤ 128 + 104857) → AreShown (option_to_list (cond b o None))
one_shown o false h l = tt
one_shown None true h l = tt
one_shown (Some t) true h l = (record { line = h; short = omega (arith, l t refl) }, tt)

thought_shown : (b : Bool) (s : Spelling) (facts : Info) (p : Position) (hint : Option Pondered) → think.IsPlayableAsHint hint → IsSaid (hears.Info facts) → AreShown (option_to_list (cond b (thinking_line s facts p hint) None))
thought_shown b s facts p hint i said =
    one_shown (thinking_line s facts p hint) b
    (line_bare facts.depth facts.score (run_texts s p (legal_run p facts.pv)) facts s (think.hint_text s hint) (texts_bare s p (legal_run p facts.pv)) (said_bare s hint))
    (λ t e. let l = most_le s (length said.line) (line_le said.line said.is_line) in omega (arith, l, lines_short s said.line facts p hint t i said.says e))

-- ROWS

shown_is_shown : (h : Situation) (best : Move) → AreShown (cecp.Move best ∷ (result_reply_of (game_played h.desk.game best) ++ resign_where (resigns_after h best)))
shown_is_shown h best = (
  worded (codes "move ") (text_of_move best) refl (omega arith) (move_part best) (omega arith),
  all_both IsShown (result_reply_of (game_played h.desk.game best)) (resign_where (resigns_after h best)) (ending_shown (on_move (game_played h.desk.game best)) (ended_of (game_played h.desk.game best))) (resign_shown (resigns_after h best)),
)

answered_shown : (h : Situation) (m : IfaceMsg) → HasTexts h.desk → AreShown (row_accepted h m)
unfolding row_accepted
answered_shown h (says.Protover n) t = wait_shown (protover_answer (is_boot h.engine)) h.desk t
answered_shown h (says.UserMove m) t = ended_shown (plays (change false h.desk (says.UserMove m)).mode) (change false h.desk (says.UserMove m)).game
answered_shown h says.Go t = ended_shown (plays (change false h.desk says.Go).mode) (change false h.desk says.Go).game
answered_shown h says.PlayOther t = ended_shown (plays (change false h.desk says.PlayOther).mode) (change false h.desk says.PlayOther).game
answered_shown h says.Draw t = offer_shown _
answered_shown h says.Hint t = hint_shown h.desk.hint
answered_shown h says.Dot t = (stat_shown _ _ _ _ _ h.desk.search_info.current, tt)
answered_shown h m t = tt

early_line_shown : (a : Result (Option Order) OptionFault) (line : List ℕ) → is_line line ≡ true → AreShown (early_refusal (refused_option a) line)
early_line_shown (Ok order) line l = tt
early_line_shown (Err UnknownOption) line l = (refused_shown (refusals.Because reasons.UnknownOption) line (line_part line l), tt)
early_line_shown (Err BadValue) line l = (refused_shown (refusals.Because reasons.BadValue) line (line_part line l), tt)

early_shown : (os : List OptionSetting) (lines : List (List ℕ)) → AllByRecursion (λ line. is_line line ≡ true) lines → AreShown (early_refusals os lines)
early_shown os [] l = tt
early_shown os (line ∷ lines) l =
    all_both IsShown (early_refusal (refused_option (early_answer os line)) line) (early_refusals os lines) (early_line_shown (early_answer os line) line l.0) (early_shown os lines l.1)

row_shown : (h : Situation) (d : Effect) → HasTexts h.desk → DeskInvariant h.desk → ((held : List _) × EffectFitsDesk h held d) → AreShown (reply_row h d)
unfolding reply_row
row_shown h (Refuses r line) t o f = (refused_shown r line (line_part line f.1.is_line), tt)
row_shown h LongLine t o f = (record { line = refl; short = omega arith }, tt)
row_shown h (Accepts m) t o f = answered_shown h m t
row_shown h Boots t o f =
    all_both IsShown (list_where h.desk.due (record h.desk { booted = true })) (early_refusals h.desk.options h.desk.early)
    (list_shown h.desk.due (record h.desk { booted = true }) (record { options = t.options; early = t.early; size = t.size; count = t.count; name = t.name; last = t.last }))
    (early_shown h.desk.options h.desk.early t.early)
row_shown h (Thinks k facts) t o f = thought_shown (shows_thinking h k) (spelling_of h.settings) facts (current_position (searched_by k h.desk.game h.desk.hint)) (named_hint k h.desk.game h.desk.hint) (hint_played k h.desk.game h.desk.hint o.hint) f.1.2
row_shown h (Shows best hint) t o f = shown_is_shown h best
row_shown h (Forfeits answer) t o f = (report_shown user_error.Move, (given_shown h.settings.result_reasons (on_move h.desk.game) (losses.IllegalMove (quoted answer)) (loss_part answer), tt))
row_shown h Dies t o f = all_both IsShown (list_where h.desk.due h.desk) _ (list_shown h.desk.due h.desk t) (report_shown user_error.Ended, gone_shown (resigns_at_end h) h.settings h.desk.game)
row_shown h d t o f = tt

again_shown : (b : Bool) (last : Option ThinkingLine) → IsLastShown last → AreShown (repeated_thinking b last)
again_shown true None l = tt
again_shown true (Some line) l = (l, tt)
again_shown false last l = tt

-- the line that a report leaves as the last one
left_shown : (depth : Option ℕ) (score : Option Score) (texts : List (List ℕ)) (facts : Info) (s : Spelling) (old : Option ThinkingLine) → IsLastShown old
    → AreShown (option_to_list (line_with depth score texts facts s None)) → IsLastShown (last_after old (line_with depth score texts facts s None))
left_shown (Some depth) (Some score) (t ∷ texts) facts s old l a = a.0
left_shown (Some depth) (Some score) [] facts s old l a = l
left_shown (Some depth) None texts facts s old l a = l
left_shown None score texts facts s old l a = l

pub kept_shown : (b : Bool) (s : Spelling) (facts : Info) (p : Position) (hint : Option Pondered) (old : Option ThinkingLine) → IsSaid (hears.Info facts) → IsLastShown old
    → IsLastShown (last_after old (cond b (thinking_line s facts p hint) None))
kept_shown false s facts p hint old said l = l
kept_shown true s facts p hint old said l =
    subst IsLastShown (sym ((differ s facts p hint old).1))
    (left_shown facts.depth facts.score (run_texts s p (legal_run p facts.pv)) facts s old l (thought_shown true s facts p None tt said))

pub replies_shown : (closed owes hits : Bool) (h : Situation) (held : List _) (d : Effect) → HasTexts h.desk → IsLastShown (desk_after_effect h d).last_thinking → DeskInvariant h.desk → EffectFitsDesk h held d → AreShown (replies_of closed owes hits h d)
replies_shown closed owes hits h held d t last o f =
    let resign = given_up_where (resigns_when_gone closed h d) h.settings (desk_after_effect h d).game in
    let again = repeated_thinking (h.settings.repeat_thinking && hits) (desk_after_effect h d).last_thinking in
    all_where IsShown closed [] _ tt
    (all_both IsShown (reply_row h d ++ resign ++ again) (cond owes [] (map cecp.Pong (desk_after_effect h d).pings))
    (all_both IsShown (reply_row h d ++ resign) again (all_both IsShown (reply_row h d) resign (row_shown h d t o (held, f)) (gone_shown (resigns_when_gone closed h d) h.settings (desk_after_effect h d).game))
    (again_shown (h.settings.repeat_thinking && hits) (desk_after_effect h d).last_thinking last))
    (all_where IsShown owes [] (map cecp.Pong (desk_after_effect h d).pings) tt (pongs_told (desk_after_effect h d).pings)))
