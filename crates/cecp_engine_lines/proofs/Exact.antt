-- The text of a reply is read as this reply, so a line reads as a reply if and only if it is its text.
use Rattle.std.proofs.Common.{◌≡◌, ℕ, ℤ, ◌+◌, ◌^◌, ◌<◌, List, [], ◌∷◌, ◌++◌, Bool, true, false, not, ◌&&◌, eqb, leb, ltb, cond, length, take, drop, Option, Some, None, refl, sym, ap, ◌∙◌, arith, append_assoc}
use Rattle.std.specs.Prelude.{codes, IfSome, ◌↔◌}
use Rattle.std.specs.Option.{option_map, option_and_then}
use Rattle.std.specs.List.{list_all, before_first, position_or_len}
use Rattle.std.specs.Str.{bytes_eq}
use Rattle.std.specs.Char.{is_ascii_digit}
use Rattle.std.specs.Fmt.{decimal, signed_decimal}
use Rattle.std.proofs.lemmas.Bool.Decides.{nat_tests}
use Rattle.std.proofs.lemmas.Slice.Eq.{bytes_eq-Decides}
use Rattle.std.proofs.lemmas.Fmt.{decimal_is_IsNumeral}
use Rattle.std.proofs.Math.Seq.{take-append_seam, drop-append_seam}
use Rattle.std.proofs.lemmas.Bool.{and_parts}
use mir.Val.{SFits}
use mir.Syntax.{w64}
use Rattle.chess_board.specs.declared.board.Move.{Move as AnyMove}
use Rattle.chess_board.specs.declared.board.Side.{Side}
use Rattle.chess_board.specs.declared.board.Side.TheVariants.{White, Black}
use Rattle.protocol_tokens.specs.Tokens.{trimmed}
use Rattle.protocol_tokens.proofs.Runs.{all_of, prefix_stops}
use Rattle.protocol_tokens.proofs.Written.{decimal_digits}
use Rattle.cecp_lines.specs.declared.reply.Reason.{Reason}
use Rattle.cecp_lines.specs.declared.reply.Reason.TheVariants as reasons
use Rattle.cecp_lines.specs.declared.reply.UserError.{UserError}
use Rattle.cecp_lines.specs.declared.reply.UserError.TheVariants as user_errors
use Rattle.cecp_lines.specs.declared.reply.Outcome.{Outcome}
use Rattle.cecp_lines.specs.declared.reply.Outcome.TheVariants as outcomes
use Rattle.cecp_lines.specs.declared.reply.Spelling.{Spelling}
use Rattle.cecp_lines.specs.declared.reply.Reply.{Reply as CodeReply}
use Rattle.cecp_lines.specs.Losses.{Loss, IllegalMove, Ended, lost_text, is_quotable, is_quotable_byte, IsQuoted}
use Rattle.cecp_lines.specs.Replies as cecp
use Rattle.cecp_lines.specs.Replies.{Reply, reply_of, reply_text, reason_text, user_error_text, outcome_text, hint_in_parentheses, current_text, is_name_byte, is_feature_name, IsWritable, IsMoveText, AreMoves, IsRepeated, IsReply, HasFieldRanges, SpellsReply}
use Rattle.cecp_engine_lines.specs.ReplyReading.{rest_after_prefix, is_space, number_field, score_field, fixed_lines, fixed_of, reason_of, named_feature, feature_at, feature_in, is_repeated, error_of, error_at, error_in, behind, lost_at, lost_in, with_score, short_pong, pong_reply_in, last_in, stat01_in, hint_in_reply, thinking_of, thinking_in, with_prefix, or_prefix, reply_in}
use Rattle.cecp_engine_lines.proofs.Plain.{decimal_written, move_written}
use Rattle.cecp_engine_lines.proofs.Rereads.{cut_position, after_cut, number_reads, score_reads}
use Rattle.cecp_engine_lines.proofs.Lists.{spelling_read, hint_read, last_read}
use Rattle.cecp_engine_lines.proofs.Tellings.{look, reported_reports, stat_text, thinking_text}

-- FEATURES

no_equals : (b : ℕ) → is_name_byte b ≡ true → not (eqb b 61) ≡ true
no_equals b h = grind (arith, nat_tests)

feature_text : (name value : List ℕ) → codes "feature " ++ name ++ codes "=" ++ value ≡ codes "feature " ++ (name ++ (61 ∷ value))
feature_text name value = simp append_assoc

feature_read : (name value : List ℕ) → is_feature_name name ≡ true → feature_in (name ++ (61 ∷ value)) ≡ Some (cecp.Feature name value)
feature_read name value h =
    let both = and_parts (ltb 0 (length name)) (list_all is_name_byte name) h in
    ap (λ o. feature_at o (name ++ (61 ∷ value))) (cut_position 61 name value (all_of is_name_byte (λ b. not (eqb b 61)) no_equals name both.1))
    ∙ ap (λ t. named_feature t (drop (length name + 1) (name ++ (61 ∷ value)))) (take-append_seam name (61 ∷ value))
    ∙ ap (named_feature name) (after_cut 61 name value)
    ∙ ap (λ b. cond b (Some (cecp.Feature name value)) None) h

-- REFUSALS

reason_found : (r : Reason) → reason_of (reason_text r) ≡ Some r
reason_found reasons.UnknownCommand = refl
reason_found r = refl

reason_solid : (r : Reason) → list_all (λ b. not (eqb b 41)) (reason_text r) ≡ true
reason_solid reasons.UnknownCommand = refl
reason_solid r = refl

repeats : (r : Reason) (line : List ℕ) → IsRepeated r line → is_repeated r line ≡ true
repeats reasons.LineTooLong line h = (bytes_eq-Decides line (codes "...")).1 h
repeats r line h = (bytes_eq-Decides (trimmed line) line).1 h

error_text : (words line : List ℕ) → codes "Error (" ++ words ++ codes "): " ++ line ≡ codes "Error (" ++ (words ++ (41 ∷ (58 ∷ 32 ∷ line)))
error_text words line = simp append_assoc

error_read : (r : Reason) (line : List ℕ) → IsRepeated r line → error_in (reason_text r ++ (41 ∷ (58 ∷ 32 ∷ line))) ≡ Some (cecp.Error r line)
error_read r line h =
    ap (λ o. error_at o (reason_text r ++ (41 ∷ (58 ∷ 32 ∷ line)))) (cut_position 41 (reason_text r) (58 ∷ 32 ∷ line) (reason_solid r))
    ∙ ap (λ t. error_of (reason_of t) (rest_after_prefix (codes "): ") (drop (length (reason_text r)) (reason_text r ++ (41 ∷ (58 ∷ 32 ∷ line)))))) (take-append_seam (reason_text r) (41 ∷ (58 ∷ 32 ∷ line)))
    ∙ ap (λ t. error_of (reason_of (reason_text r)) (rest_after_prefix (codes "): ") t)) (drop-append_seam (reason_text r) (41 ∷ (58 ∷ 32 ∷ line)))
    ∙ ap (λ o. error_of o (Some line)) (reason_found r)
    ∙ ap (λ b. cond b (Some (cecp.Error r line)) None) (repeats r line h)

pong_read : (n : ℕ) → n < 2 ^ 32 → pong_reply_in (decimal n) ≡ Some (cecp.Pong n)
pong_read n h =
    let t : ltb n (2 ^ 32) ≡ true = grind (arith, nat_tests) in
    ap (option_and_then short_pong) (decimal_written n (omega arith)) ∙ ap (λ b. cond b (Some (cecp.Pong n)) None) t

stat01_read : (time nodes depth left all : ℕ) (current : Option AnyMove) → time < 2 ^ 64 → nodes < 2 ^ 64 → depth < 2 ^ 64 → left < 2 ^ 64 → all < 2 ^ 64 → IfSome current IsWritable →
    stat01_in (decimal time ++ (32 ∷ (decimal nodes ++ (32 ∷ (decimal depth ++ (32 ∷ (decimal left ++ (32 ∷ (decimal all ++ current_text current))))))))) ≡ Some (cecp.Stat01 time nodes depth left all current)
stat01_read time nodes depth left all current a b c d e w =
    ap (option_and_then (λ (t : ℕ × List ℕ). option_and_then (λ (n : ℕ × List ℕ). option_and_then (λ (p : ℕ × List ℕ). option_and_then (λ (l : ℕ × List ℕ). option_map (λ (x : ℕ × Option AnyMove). cecp.Stat01 t.0 n.0 p.0 l.0 x.0 x.1) (last_in l.1)) (number_field p.1)) (number_field n.1)) (number_field t.1))) (number_reads time (decimal nodes ++ (32 ∷ (decimal depth ++ (32 ∷ (decimal left ++ (32 ∷ (decimal all ++ current_text current))))))) a)
    ∙ ap (option_and_then (λ (n : ℕ × List ℕ). option_and_then (λ (p : ℕ × List ℕ). option_and_then (λ (l : ℕ × List ℕ). option_map (λ (x : ℕ × Option AnyMove). cecp.Stat01 time n.0 p.0 l.0 x.0 x.1) (last_in l.1)) (number_field p.1)) (number_field n.1))) (number_reads nodes (decimal depth ++ (32 ∷ (decimal left ++ (32 ∷ (decimal all ++ current_text current))))) b)
    ∙ ap (option_and_then (λ (p : ℕ × List ℕ). option_and_then (λ (l : ℕ × List ℕ). option_map (λ (x : ℕ × Option AnyMove). cecp.Stat01 time nodes p.0 l.0 x.0 x.1) (last_in l.1)) (number_field p.1))) (number_reads depth (decimal left ++ (32 ∷ (decimal all ++ current_text current))) c)
    ∙ ap (option_and_then (λ (l : ℕ × List ℕ). option_map (λ (x : ℕ × Option AnyMove). cecp.Stat01 time nodes depth l.0 x.0 x.1) (last_in l.1))) (number_reads left (decimal all ++ current_text current) d)
    ∙ ap (option_map (λ (x : ℕ × Option AnyMove). cecp.Stat01 time nodes depth left x.0 x.1)) (last_read all current e w)

thinking_read : (depth : ℕ) (score : ℤ) (time nodes : ℕ) (spelling : Spelling) (hint : Option (List ℕ)) (pv : List ℕ) → depth < 2 ^ 64 → SFits w64 score → time < 2 ^ 64 → nodes < 2 ^ 64
    → IfSome hint (IsMoveText spelling) → AreMoves spelling pv →
    thinking_in (decimal depth ++ (32 ∷ (signed_decimal score ++ (32 ∷ (decimal time ++ (32 ∷ (decimal nodes ++ (32 ∷ (hint_in_parentheses hint ++ pv))))))))) ≡ Some (cecp.Thinking depth score time nodes spelling hint pv)
thinking_read depth score time nodes spelling hint pv a b c d w m =
    ap (option_and_then (λ (p : ℕ × List ℕ). option_and_then (λ (s : ℤ × List ℕ). option_and_then (λ (t : ℕ × List ℕ). option_and_then (λ (n : ℕ × List ℕ). option_and_then (thinking_of p.0 s.0 t.0 n.0) (hint_in_reply n.1)) (number_field t.1)) (number_field s.1)) (score_field p.1))) (number_reads depth (signed_decimal score ++ (32 ∷ (decimal time ++ (32 ∷ (decimal nodes ++ (32 ∷ (hint_in_parentheses hint ++ pv))))))) a)
    ∙ ap (option_and_then (λ (s : ℤ × List ℕ). option_and_then (λ (t : ℕ × List ℕ). option_and_then (λ (n : ℕ × List ℕ). option_and_then (thinking_of depth s.0 t.0 n.0) (hint_in_reply n.1)) (number_field t.1)) (number_field s.1))) (score_reads score (decimal time ++ (32 ∷ (decimal nodes ++ (32 ∷ (hint_in_parentheses hint ++ pv))))) b)
    ∙ ap (option_and_then (λ (t : ℕ × List ℕ). option_and_then (λ (n : ℕ × List ℕ). option_and_then (thinking_of depth score t.0 n.0) (hint_in_reply n.1)) (number_field t.1))) (number_reads time (decimal nodes ++ (32 ∷ (hint_in_parentheses hint ++ pv))) c)
    ∙ ap (option_and_then (λ (n : ℕ × List ℕ). option_and_then (thinking_of depth score time n.0) (hint_in_reply n.1))) (number_reads nodes (hint_in_parentheses hint ++ pv) d)
    ∙ ap (option_and_then (thinking_of depth score time nodes)) (hint_read spelling hint pv w m)
    ∙ ap (option_map (λ s. cecp.Thinking depth score time nodes s hint pv)) (spelling_read spelling hint pv w m)

-- A line that begins with digits and a blank has no prefix and is no fixed line.
abbrev digits_before : List ℕ → Bool
digits_before line = list_all is_ascii_digit (before_first is_space line)

digit_no_space : (b : ℕ) → is_ascii_digit b ≡ true → not (eqb b 32) ≡ true
digit_no_space b h = grind (arith, nat_tests)

digits_there : (ds more : List ℕ) → list_all is_ascii_digit ds ≡ true → digits_before (ds ++ (32 ∷ more)) ≡ true
digits_there ds more h =
    let stop : position_or_len is_space (ds ++ (32 ∷ more)) ≡ length ds = prefix_stops (λ b. not (eqb b 32)) ds 32 more (all_of is_ascii_digit (λ b. not (eqb b 32)) digit_no_space ds h) refl in
    ap (λ n. list_all is_ascii_digit (take n (ds ++ (32 ∷ more)))) stop ∙ ap (list_all is_ascii_digit) (take-append_seam ds (32 ∷ more)) ∙ h

not_fixed : (line : List ℕ) (o : Option CodeReply) → fixed_of line ≡ o → digits_before line ≡ true → fixed_of line ≡ None
not_fixed line None e h = e
not_fixed line (Some r) e h =
    let no_digits = look (λ u k. digits_before u ≡ false) fixed_lines (refl, (refl, (refl, (refl, (refl, (refl, (refl, (refl, (refl, (refl, (refl, (refl, (refl, (refl, (refl, tt))))))))))))))) line r e in
    absurd (cc)

prefix_digit : (c : ℕ) (more : List ℕ) → is_ascii_digit c ≡ true → with_prefix (c ∷ more) ≡ with_score (c ∷ more)
prefix_digit c more h =
    let f : eqb 102 c ≡ false = grind (arith, nat_tests) in
    let m : eqb 109 c ≡ false = grind (arith, nat_tests) in
    let i : eqb 73 c ≡ false = grind (arith, nat_tests) in
    let e : eqb 69 c ≡ false = grind (arith, nat_tests) in
    let p : eqb 112 c ≡ false = grind (arith, nat_tests) in
    let k : eqb 72 c ≡ false = grind (arith, nat_tests) in
    let s : eqb 115 c ≡ false = grind (arith, nat_tests) in
    rw (f, m, i, e, p, k, s) refl

prefix_digits : (ds more : List ℕ) → 0 < length ds → list_all is_ascii_digit ds ≡ true → with_prefix (ds ++ more) ≡ with_score (ds ++ more)
prefix_digits [] more some h = absurd (omega arith)
prefix_digits (c ∷ cs) more some h = prefix_digit c (cs ++ more) (and_parts (is_ascii_digit c) (list_all is_ascii_digit cs) h).0

-- Behind the first digit no score of a lost game goes on with a digit or a blank.
score_digit : (c b : ℕ) (more : List ℕ) → eqb 45 b ≡ false → with_score (c ∷ b ∷ more) ≡ thinking_in (c ∷ b ∷ more)
score_digit c b more e = by (eqb 48 c) (eqb 49 c) (eqb 45 b) e where
  by : (x y z : Bool) → z ≡ false →
      behind (cond x (cond z (rest_after_prefix (codes "1 {Illegal move by engine: ") more) None) None) (lost_in White)
      (behind (cond y (cond z (rest_after_prefix (codes "0 {Illegal move by engine: ") more) None) None) (lost_in Black) (thinking_in (c ∷ b ∷ more)))
      ≡ thinking_in (c ∷ b ∷ more)
  by true true false n = refl
  by true false false n = refl
  by false true false n = refl
  by false false false n = refl
  by x y true n = absurd (cc)

no_dash : (b : ℕ) → is_ascii_digit b ≡ true → eqb 45 b ≡ false
no_dash b h = grind (arith, nat_tests)

score_digits : (ds more : List ℕ) → 0 < length ds → list_all is_ascii_digit ds ≡ true → with_score (ds ++ (32 ∷ more)) ≡ thinking_in (ds ++ (32 ∷ more))
score_digits [] more some h = absurd (omega arith)
score_digits (c ∷ []) more some h = score_digit c 32 more refl
score_digits (c ∷ d ∷ ds) more some h =
    let later = (and_parts (is_ascii_digit c) (list_all is_ascii_digit (d ∷ ds)) h).1 in
    score_digit c d (ds ++ (32 ∷ more)) (no_dash d (and_parts (is_ascii_digit d) (list_all is_ascii_digit ds) later).0)

reported_digits : (n : ℕ) (more : List ℕ) → n < 2 ^ 64 → reply_in (decimal n ++ (32 ∷ more)) ≡ thinking_in (decimal n ++ (32 ∷ more))
reported_digits n more h =
    ap (λ o. or_prefix o (decimal n ++ (32 ∷ more))) (not_fixed (decimal n ++ (32 ∷ more)) (fixed_of (decimal n ++ (32 ∷ more))) refl (digits_there (decimal n) more (decimal_digits n h)))
    ∙ prefix_digits (decimal n) (32 ∷ more) (decimal_is_IsNumeral n h).0.0 (decimal_digits n h)
    ∙ score_digits (decimal n) more (decimal_is_IsNumeral n h).0.0 (decimal_digits n h)

report_read : (user_error : UserError) → reply_in (user_error_text user_error) ≡ Some (cecp.TellError user_error)
report_read user_errors.Position = refl
report_read user_errors.Move = refl
report_read user_errors.Ended = refl

outcome_read : (outcome : Outcome) → reply_in (outcome_text outcome) ≡ Some (cecp.Result outcome)
outcome_read outcomes.WhiteMates = refl
outcome_read outcomes.BlackMates = refl
outcome_read outcomes.Stalemate = refl
outcome_read outcomes.Dead = refl
outcome_read outcomes.Repetition = refl
outcome_read outcomes.Fifty = refl

-- a quoted answer goes up to the first brace
quotable_solid : (b : ℕ) → is_quotable_byte b ≡ true → not (eqb b 125) ≡ true
quotable_solid b h = (and_parts (leb 33 b && leb b 126 && not (eqb b 123)) (not (eqb b 125)) h).1

quoted_solid : (answer : List ℕ) → is_quotable answer ≡ true → list_all (λ b. not (eqb b 125)) answer ≡ true
quoted_solid answer h =
    all_of is_quotable_byte (λ b. not (eqb b 125)) quotable_solid answer (and_parts (ltb 0 (length answer) && leb (length answer) 16) (list_all is_quotable_byte answer) h).1

lost_read : (side : Side) (answer : List ℕ) → is_quotable answer ≡ true → lost_in side (answer ++ (125 ∷ [])) ≡ Some (cecp.Lost side (IllegalMove (Some answer)))
lost_read side answer h =
    ap (λ o. lost_at side o (answer ++ (125 ∷ []))) (cut_position 125 answer [] (quoted_solid answer h))
    ∙ ap (λ t. cond (bytes_eq (drop (length answer) (answer ++ (125 ∷ []))) (codes "}") && is_quotable t) (Some (cecp.Lost side (IllegalMove (Some t)))) None) (take-append_seam answer (125 ∷ []))
    ∙ ap (λ r. cond (bytes_eq r (codes "}") && is_quotable answer) (Some (cecp.Lost side (IllegalMove (Some answer)))) None) (drop-append_seam answer (125 ∷ []))
    ∙ ap (λ b. cond b (Some (cecp.Lost side (IllegalMove (Some answer)))) None) h

lost_again : (side : Side) (loss : Loss) → IsQuoted loss → reply_in (lost_text side loss) ≡ Some (cecp.Lost side loss)
lost_again White (IllegalMove (Some answer)) q = lost_read White answer q
lost_again Black (IllegalMove (Some answer)) q = lost_read Black answer q
lost_again White (IllegalMove None) q = refl
lost_again Black (IllegalMove None) q = refl
lost_again White Ended q = refl
lost_again Black Ended q = refl

pub reported_again : (t : Reply) → IsReply t → HasFieldRanges t → reply_in (reply_text t) ≡ Some t
reported_again (cecp.Feature name value) h f = ap reply_in (feature_text name value) ∙ feature_read name value h
reported_again (cecp.Move m) h f = ap (option_map (λ x. cecp.Move x)) (move_written m h)
reported_again (cecp.Illegal m) h f = ap (option_map (λ x. cecp.Illegal x)) (move_written m h)
reported_again (cecp.IllegalLong m) h f = ap (option_map (λ x. cecp.IllegalLong x)) (move_written m h)
reported_again (cecp.Error r line) h f = ap reply_in (error_text (reason_text r) line) ∙ error_read r line h
reported_again (cecp.TellError user_error) h f = report_read user_error
reported_again (cecp.Pong n) h f = pong_read n f
reported_again (cecp.Lost side loss) h f = lost_again side loss f
reported_again (cecp.Hint m) h f = ap (option_map (λ x. cecp.Hint x)) (move_written m h)
reported_again (cecp.Result outcome) h f = outcome_read outcome
reported_again (cecp.Thinking depth score time nodes spelling hint pv) h f =
    ap reply_in (sym (thinking_text (decimal depth) (signed_decimal score) (decimal time) (decimal nodes) (hint_in_parentheses hint) pv))
    ∙ reported_digits depth (signed_decimal score ++ (32 ∷ (decimal time ++ (32 ∷ (decimal nodes ++ (32 ∷ (hint_in_parentheses hint ++ pv))))))) f.0
    ∙ thinking_read depth score time nodes spelling hint pv f.0 f.1 f.2 f.3 h.0 h.1
reported_again (cecp.Stat01 time nodes depth left all current) h f =
    ap reply_in (sym (stat_text (codes "stat01: ") (decimal time) (decimal nodes) (decimal depth) (decimal left) (decimal all) (current_text current)))
    ∙ stat01_read time nodes depth left all current f.0 f.1 f.2 f.3 f.4 h
reported_again t h f = refl

-- the clause on what was read
pub reported_exact : (line : List ℕ) (r : Option CodeReply) → option_map reply_of r ≡ reply_in line → (t : Reply) → (option_map reply_of r ≡ Some t) ↔ SpellsReply line t
reported_exact line r e t = (λ h. reported_reports line t (sym e ∙ h), λ h. e ∙ ap reply_in h.text ∙ reported_again t h.form h.fits)
