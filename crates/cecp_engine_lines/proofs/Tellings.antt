-- A line that reads as a reply is the reply's text.
use Rattle.std.proofs.Common.{◌≡◌, ℕ, ◌+◌, ◌^◌, ◌<◌, List, [], ◌∷◌, ◌++◌, Bool, true, false, ◌&&◌, ltb, cond, take, drop, Option, Some, None, refl, sym, ap, ◌∙◌, subst, arith, append_assoc}
use Rattle.std.specs.Prelude.{codes, position, is_some, IfSome}
use Rattle.std.specs.Option.{option_map, option_and_then}
use Rattle.std.specs.List.{list_all, slice_split, AllByRecursion}
use Rattle.std.specs.Map.{lookup}
use Rattle.std.specs.Str.{bytes_eq}
use Rattle.std.specs.Fmt.{decimal, signed_decimal}
use Rattle.std.proofs.lemmas.Bool.Decides.{nat_tests}
use Rattle.std.proofs.lemmas.Option.{cond_some}
use Rattle.std.proofs.lemmas.List.{take-append-drop, append-nil}
use Rattle.std.proofs.lemmas.List.Splits.{join_with_byte-slice_split, length-slice_split}
use Rattle.std.proofs.lemmas.Slice.Eq.{bytes_eq-Decides}
use Rattle.std.proofs.lemmas.Bool.{and_parts}
use Rattle.chess_board.specs.declared.board.Move.{Move as AnyMove}
use Rattle.chess_board.specs.declared.board.Side.{Side}
use Rattle.chess_board.specs.declared.board.Side.TheVariants.{White, Black}
use Rattle.chess_board.specs.Text.{text_of_move}
use Rattle.protocol_tokens.specs.Tokens.{trimmed}
use Rattle.cecp_lines.specs.declared.reply.Reason.{Reason}
use Rattle.cecp_lines.specs.declared.reply.Reason.TheVariants as reasons
use Rattle.cecp_lines.specs.declared.reply.Spelling.{Spelling}
use Rattle.cecp_lines.specs.declared.reply.Spelling.TheVariants.{Coordinates, San}
use Rattle.cecp_lines.specs.declared.reply.Reply.{Reply as CodeReply}
use Rattle.cecp_lines.specs.Losses.{IllegalMove, lost_text, is_quotable}
use Rattle.cecp_lines.specs.Replies as cecp
use Rattle.cecp_lines.specs.Replies.{Reply, reply_of, reason_text, field, hint_in_parentheses, current_text, is_feature_name, IsWritable, IsMoveText, AreMoves, IsRepeated, SpellsReply}
use Rattle.cecp_engine_lines.specs.ReplyReading.{rest_after_prefix, number_in_64_bits, written_move, is_space, is_paren, is_move_text, are_moves, is_hint, have_spelling, spelling_of_moves, number_field, score_field, fixed_lines, fixed_of, reason_words, reason_of, feature_at, feature_in, is_repeated, error_of, error_at, error_in, is_brace, lost_at, lost_in, with_score, short_pong, pong_reply_in, last_at, last_in, stat01_in, hint_at, hint_of, hint_in_reply, thinking_of, thinking_in, behind, of_move, with_prefix, or_prefix, reply_in}
use Rattle.cecp_lines.specs.Reading.{is_equals}
use Rattle.cecp_lines.proofs.Spellings.{bind_some}
use Rattle.cecp_engine_lines.proofs.Prefixes.{stripped_is}
use Rattle.cecp_engine_lines.proofs.Plain.{written_is, written_move_is}
use Rattle.cecp_engine_lines.proofs.Hears.{at_byte, map_some, number_is, score_is}

look_step : {C : Type 0} (P : List ℕ → C → Type 0) (w a : List ℕ) (x c : C) (b : Bool) (others : Option C) → bytes_eq w a ≡ b → P a x → (others ≡ Some c → P w c) → cond b (Some x) others ≡ Some c → P w c
look_step {C = C} P w a x c true others e p k h =
    let same : w ≡ a = (bytes_eq-Decides w a).0 e in
    let what : x ≡ c = cc in
    subst (λ (y : C). P w y) what (subst (λ (u : List ℕ). P u x) (sym same) p)
look_step P w a x c false others e p k h = k h

pub look : {C : Type 0} (P : List ℕ → C → Type 0) (rows : List (List ℕ × C)) → AllByRecursion (λ row. P row.0 row.1) rows → (w : List ℕ) (c : C) → lookup (bytes_eq w) rows ≡ Some c → P w c
look P [] all w c h = absurd (cc)
look P (row ∷ rows) all w c h = look_step P w row.0 row.1 c (bytes_eq w row.0) (lookup (bytes_eq w) rows) refl all.0 (look P rows all.1 w c) h

fixed_reports : (line : List ℕ) (r : CodeReply) → fixed_of line ≡ Some r → SpellsReply line (reply_of r)
fixed_reports line r h = look (λ u k. SpellsReply u (reply_of k)) fixed_lines
    (record { form = tt; fits = tt; text = refl }, (record { form = tt; fits = tt; text = refl }, (record { form = tt; fits = tt; text = refl }, (record { form = tt; fits = tt; text = refl }, (record { form = tt; fits = tt; text = refl }, (record { form = tt; fits = tt; text = refl }, (record { form = tt; fits = tt; text = refl }, (record { form = tt; fits = tt; text = refl }, (record { form = tt; fits = tt; text = refl }, (record { form = tt; fits = tt; text = refl }, (record { form = tt; fits = tt; text = refl }, (record { form = tt; fits = tt; text = refl }, (record { form = tt; fits = tt; text = refl }, (record { form = tt; fits = tt; text = refl }, (record { form = tt; fits = tt; text = refl }, tt))))))))))))))) line r h

reason_is : (words : List ℕ) (r : Reason) → reason_of words ≡ Some r → words ≡ reason_text r
reason_is words r h = look (λ u k. u ≡ reason_text k) reason_words (refl, (refl, (refl, (refl, (refl, (refl, (refl, (refl, (refl, (refl, tt)))))))))) words r h

repeated : (r : Reason) (line : List ℕ) → is_repeated r line ≡ true → IsRepeated r line
repeated reasons.LineTooLong line h = (bytes_eq-Decides line (codes "...")).0 h
repeated r line h = (bytes_eq-Decides (trimmed line) line).0 h

feature_by : (text : List ℕ) (o : Option ℕ) (t : Reply) → position is_equals text ≡ o → feature_at o text ≡ Some t → SpellsReply (codes "feature " ++ text) t
feature_by text None t e h = absurd (cc)
feature_by text (Some at) t e h =
    let c = cond_some (is_feature_name (take at text)) (cecp.Feature (take at text) (drop (at + 1) text)) t h in
    subst (λ (u : Reply). SpellsReply (codes "feature " ++ text) u) c.1 (record { form = c.0; fits = tt; text = ap (λ x. codes "feature " ++ x) (at_byte 61 text at e) ∙ simp append_assoc })

error_parts : (text : List ℕ) (o : Option Reason) (l : Option (List ℕ)) (t : Reply) → ((r : Reason) (line : List ℕ) → o ≡ Some r → l ≡ Some line → is_repeated r line ≡ true → SpellsReply text (cecp.Error r line)) → error_of o l ≡ Some t → SpellsReply text t
error_parts text None l t k h = absurd (cc)
error_parts text (Some r) None t k h = absurd (cc)
error_parts text (Some r) (Some line) t k h =
    let c = cond_some (is_repeated r line) (cecp.Error r line) t h in
    subst (λ (u : Reply). SpellsReply text u) c.1 (k r line refl refl c.0)

error_reports : (text : List ℕ) (at : ℕ) (r : Reason) (line : List ℕ) → reason_of (take at text) ≡ Some r → rest_after_prefix (codes "): ") (drop at text) ≡ Some line → is_repeated r line ≡ true → SpellsReply (codes "Error (" ++ text) (cecp.Error r line)
error_reports text at r line e f g = record {
  form = repeated r line g;
  fits = tt;
  text = ap (λ x. codes "Error (" ++ x) (sym (take-append-drop at text) ∙ ap (λ w. w ++ drop at text) (reason_is (take at text) r e) ∙ ap (λ w. reason_text r ++ w) (stripped_is (codes "): ") (drop at text) line f)) ∙ simp append_assoc;
}

error_by : (text : List ℕ) (o : Option ℕ) (t : Reply) → error_at o text ≡ Some t → SpellsReply (codes "Error (" ++ text) t
error_by text None t h = absurd (cc)
error_by text (Some at) t h = error_parts (codes "Error (" ++ text) (reason_of (take at text)) (rest_after_prefix (codes "): ") (drop at text)) t (λ r line e f g. error_reports text at r line e f g) h

pong_reports : (text : List ℕ) (t : Reply) → pong_reply_in text ≡ Some t → SpellsReply (codes "pong " ++ text) t
pong_reports text t h =
    let b = bind_some short_pong (number_in_64_bits text) t h in
    let c = cond_some (ltb b.0 (2 ^ 32)) (cecp.Pong b.0) t b.2 in
    let low : b.0 < 2 ^ 32 = grind (arith, nat_tests, c.0) in
    subst (λ (u : Reply). SpellsReply (codes "pong " ++ text) u) c.1 (record { form = tt; fits = low; text = ap (λ x. codes "pong " ++ x) (written_is text b.0 b.1).0 })

move_reports : (prefix text : List ℕ) (says : AnyMove → Reply) (t : Reply) → ((m : AnyMove) → IsWritable m → SpellsReply (prefix ++ text_of_move m) (says m)) → of_move says text ≡ Some t → SpellsReply (prefix ++ text) t
move_reports prefix text says t k h =
    let b = map_some says (written_move text) t h in
    let w = written_move_is text b.0 b.1 in
    subst (λ (u : Reply). SpellsReply (prefix ++ text) u) b.2 (subst (λ (x : List ℕ). SpellsReply (prefix ++ x) (says b.0)) (sym w.0) (k b.0 w.1))

behind_by : (line prefix : List ℕ) (o : Option (List ℕ)) (read : List ℕ → Option Reply) (other : Option Reply) (t : Reply) → rest_after_prefix prefix line ≡ o → ((text : List ℕ) → read text ≡ Some t → SpellsReply (prefix ++ text) t) → (other ≡ Some t → SpellsReply line t) → behind o read other ≡ Some t → SpellsReply line t
behind_by line prefix None read other t e k l h = l h
behind_by line prefix (Some text) read other t e k l h = subst (λ (x : List ℕ). SpellsReply x t) (sym (stripped_is prefix line text e)) (k text h)

-- STAT01

last_by : (text : List ℕ) (o : Option ℕ) (p : ℕ × Option AnyMove) → position is_space text ≡ o → last_at o text ≡ Some p → (p.0 < 2 ^ 64) × IfSome p.1 IsWritable × (text ≡ decimal p.0 ++ current_text p.1)
last_by text None p e h =
    let b = map_some (λ n. (n, None)) (number_in_64_bits text) p h in
    let w = written_is text b.0 b.1 in
    subst (λ (q : ℕ × Option AnyMove). (q.0 < 2 ^ 64) × IfSome q.1 IsWritable × (text ≡ decimal q.0 ++ current_text q.1)) b.2 (w.1, tt, w.0 ∙ sym (append-nil (decimal b.0)))
last_by text (Some at) p e h =
    let b = bind_some (λ n. option_map (λ m. (n, Some m)) (written_move (drop (at + 1) text))) (number_in_64_bits (take at text)) p h in
    let d = map_some (λ m. (b.0, Some m)) (written_move (drop (at + 1) text)) p b.2 in
    let w = written_is (take at text) b.0 b.1 in
    let m = written_move_is (drop (at + 1) text) d.0 d.1 in
    subst (λ (q : ℕ × Option AnyMove). (q.0 < 2 ^ 64) × IfSome q.1 IsWritable × (text ≡ decimal q.0 ++ current_text q.1)) d.2
    (w.1, m.1, at_byte 32 text at e ∙ ap (λ x. x ++ (32 ∷ drop (at + 1) text)) w.0 ∙ ap (λ x. decimal b.0 ++ (32 ∷ x)) m.0)

-- five numbers and a move, each after a blank
pub stat_text : (prefix a b c d e f : List ℕ) → prefix ++ (a ++ (32 ∷ (b ++ (32 ∷ (c ++ (32 ∷ (d ++ (32 ∷ (e ++ f))))))))) ≡ prefix ++ field a ++ field b ++ field c ++ field d ++ e ++ f
stat_text prefix a b c d e f = simp append_assoc

stat01_reports : (text : List ℕ) (t : Reply) → stat01_in text ≡ Some t → SpellsReply (codes "stat01: " ++ text) t
stat01_reports text t h =
    let time = bind_some (λ time. option_and_then (λ nodes. option_and_then (λ depth. option_and_then (λ left. option_map (λ last. cecp.Stat01 time.0 nodes.0 depth.0 left.0 last.0 last.1) (last_in left.1)) (number_field depth.1)) (number_field nodes.1)) (number_field time.1)) (number_field text) t h in
    let nodes = bind_some (λ nodes. option_and_then (λ depth. option_and_then (λ left. option_map (λ last. cecp.Stat01 time.0.0 nodes.0 depth.0 left.0 last.0 last.1) (last_in left.1)) (number_field depth.1)) (number_field nodes.1)) (number_field time.0.1) t time.2 in
    let depth = bind_some (λ depth. option_and_then (λ left. option_map (λ last. cecp.Stat01 time.0.0 nodes.0.0 depth.0 left.0 last.0 last.1) (last_in left.1)) (number_field depth.1)) (number_field nodes.0.1) t nodes.2 in
    let left = bind_some (λ left. option_map (λ last. cecp.Stat01 time.0.0 nodes.0.0 depth.0.0 left.0 last.0 last.1) (last_in left.1)) (number_field depth.0.1) t depth.2 in
    let last = map_some (λ last. cecp.Stat01 time.0.0 nodes.0.0 depth.0.0 left.0.0 last.0 last.1) (last_in left.0.1) t left.2 in
    let a = number_is text time.0 time.1 in
    let b = number_is time.0.1 nodes.0 nodes.1 in
    let c = number_is nodes.0.1 depth.0 depth.1 in
    let d = number_is depth.0.1 left.0 left.1 in
    let e = last_by left.0.1 (position is_space left.0.1) last.0 refl last.1 in
    let whole : text ≡ decimal time.0.0 ++ (32 ∷ (decimal nodes.0.0 ++ (32 ∷ (decimal depth.0.0 ++ (32 ∷ (decimal left.0.0 ++ (32 ∷ (decimal last.0.0 ++ current_text last.0.1)))))))) =
    a.0 ∙ ap (λ x. decimal time.0.0 ++ (32 ∷ x)) (b.0 ∙ ap (λ x. decimal nodes.0.0 ++ (32 ∷ x)) (c.0 ∙ ap (λ x. decimal depth.0.0 ++ (32 ∷ x)) (d.0 ∙ ap (λ x. decimal left.0.0 ++ (32 ∷ x)) e.2))) in
    subst (λ (u : Reply). SpellsReply (codes "stat01: " ++ text) u) last.2 (record {
      form = e.1;
      fits = (a.1, b.1, c.1, d.1, e.0);
      text = ap (λ x. codes "stat01: " ++ x) whole ∙ stat_text (codes "stat01: ") (decimal time.0.0) (decimal nodes.0.0) (decimal depth.0.0) (decimal left.0.0) (decimal last.0.0) (current_text last.0.1);
    })

-- THINKING

some_is : (o : Option AnyMove) → is_some o ≡ true → (m : AnyMove) × (o ≡ Some m)
some_is None h = absurd (cc)
some_is (Some m) h = (m, refl)

text_is : (s : Spelling) (t : List ℕ) → is_move_text s t ≡ true → IsMoveText s t
text_is Coordinates t h =
    let m = some_is (written_move t) h in
    let w = written_move_is t m.0 m.1 in
    record { move = m.0; writable = w.1; is = w.0 }
text_is San t h = h

texts_are : (s : Spelling) (ts : List (List ℕ)) → list_all (is_move_text s) ts ≡ true → AllByRecursion (IsMoveText s) ts
texts_are s [] h = tt
texts_are s (t ∷ ts) h = let both = and_parts (is_move_text s t) (list_all (is_move_text s) ts) h in (text_is s t both.0, texts_are s ts both.1)

list_of_moves : (s : Spelling) (pv : List ℕ) → are_moves s pv ≡ true → AreMoves s pv
list_of_moves s pv h = record {
  texts = slice_split is_space pv;
  some = omega (arith, length-slice_split is_space pv);
  moves = texts_are s (slice_split is_space pv) h;
  text = sym (join_with_byte-slice_split 32 pv);
}

hint_has : (s : Spelling) (hint : Option (List ℕ)) → is_hint s hint ≡ true → IfSome hint (IsMoveText s)
hint_has s None h = tt
hint_has s (Some t) h = text_is s t h

have_by : (s : Spelling) (hint : Option (List ℕ)) (pv : List ℕ) → have_spelling s hint pv ≡ true → IfSome hint (IsMoveText s) × AreMoves s pv
have_by s hint pv h = let both = and_parts (is_hint s hint) (are_moves s pv) h in (hint_has s hint both.0, list_of_moves s pv both.1)

chosen_by : (hint : Option (List ℕ)) (pv : List ℕ) (a b : Bool) (s : Spelling) → have_spelling Coordinates hint pv ≡ a → have_spelling San hint pv ≡ b
    → cond a (Some Coordinates) (cond b (Some San) None) ≡ Some s → IfSome hint (IsMoveText s) × AreMoves s pv
chosen_by hint pv true b s e f h = let same : Coordinates ≡ s = cc in subst (λ (x : Spelling). IfSome hint (IsMoveText x) × AreMoves x pv) same (have_by Coordinates hint pv e)
chosen_by hint pv false true s e f h = let same : San ≡ s = cc in subst (λ (x : Spelling). IfSome hint (IsMoveText x) × AreMoves x pv) same (have_by San hint pv f)
chosen_by hint pv false false s e f h = absurd (cc)

-- the spelling that is read is that of the hint and of the moves
spelling_is : (hint : Option (List ℕ)) (pv : List ℕ) (s : Spelling) → spelling_of_moves hint pv ≡ Some s → IfSome hint (IsMoveText s) × AreMoves s pv
spelling_is hint pv s h = chosen_by hint pv (have_spelling Coordinates hint pv) (have_spelling San hint pv) s refl refl h

hint_inner : (text inner : List ℕ) (o : Option ℕ) (p : Option (List ℕ) × List ℕ) → rest_after_prefix (codes "(") text ≡ Some inner → hint_at o inner ≡ Some p → text ≡ hint_in_parentheses p.0 ++ p.1
hint_inner text inner None p e h = absurd (cc)
hint_inner text inner (Some at) p e h =
    let d = map_some (λ pv. (Some (take at inner), pv)) (rest_after_prefix (codes ") ") (drop at inner)) p h in
    let whole : inner ≡ take at inner ++ (codes ") " ++ d.0) = sym (take-append-drop at inner) ∙ ap (λ x. take at inner ++ x) (stripped_is (codes ") ") (drop at inner) d.0 d.1) in
    subst (λ (q : Option (List ℕ) × List ℕ). text ≡ hint_in_parentheses q.0 ++ q.1) d.2
    (stripped_is (codes "(") text inner e ∙ ap (λ x. 40 ∷ x) whole ∙ simp append_assoc)

hint_by : (text : List ℕ) (o : Option (List ℕ)) (p : Option (List ℕ) × List ℕ) → rest_after_prefix (codes "(") text ≡ o → hint_of o text ≡ Some p → text ≡ hint_in_parentheses p.0 ++ p.1
hint_by text None p e h =
    let same : (None, text) ≡ p = cc in
    subst (λ (q : Option (List ℕ) × List ℕ). text ≡ hint_in_parentheses q.0 ++ q.1) same refl
hint_by text (Some inner) p e h = hint_inner text inner (position is_paren inner) p e h

pub thinking_text : (a b c d e f : List ℕ) → a ++ (32 ∷ (b ++ (32 ∷ (c ++ (32 ∷ (d ++ (32 ∷ (e ++ f)))))))) ≡ field a ++ field b ++ field c ++ field d ++ e ++ f
thinking_text a b c d e f = simp append_assoc

thinking_reports : (text : List ℕ) (t : Reply) → thinking_in text ≡ Some t → SpellsReply text t
thinking_reports text t h =
    let depth = bind_some (λ depth. option_and_then (λ score. option_and_then (λ time. option_and_then (λ nodes. option_and_then (thinking_of depth.0 score.0 time.0 nodes.0) (hint_in_reply nodes.1)) (number_field time.1)) (number_field score.1)) (score_field depth.1)) (number_field text) t h in
    let score = bind_some (λ score. option_and_then (λ time. option_and_then (λ nodes. option_and_then (thinking_of depth.0.0 score.0 time.0 nodes.0) (hint_in_reply nodes.1)) (number_field time.1)) (number_field score.1)) (score_field depth.0.1) t depth.2 in
    let time = bind_some (λ time. option_and_then (λ nodes. option_and_then (thinking_of depth.0.0 score.0.0 time.0 nodes.0) (hint_in_reply nodes.1)) (number_field time.1)) (number_field score.0.1) t score.2 in
    let nodes = bind_some (λ nodes. option_and_then (thinking_of depth.0.0 score.0.0 time.0.0 nodes.0) (hint_in_reply nodes.1)) (number_field time.0.1) t time.2 in
    let hint = bind_some (thinking_of depth.0.0 score.0.0 time.0.0 nodes.0.0) (hint_in_reply nodes.0.1) t nodes.2 in
    let spelling = map_some (λ spelling. cecp.Thinking depth.0.0 score.0.0 time.0.0 nodes.0.0 spelling hint.0.0 hint.0.1) (spelling_of_moves hint.0.0 hint.0.1) t hint.2 in
    let form = spelling_is hint.0.0 hint.0.1 spelling.0 spelling.1 in
    let a = number_is text depth.0 depth.1 in
    let b = score_is depth.0.1 score.0 score.1 in
    let c = number_is score.0.1 time.0 time.1 in
    let d = number_is time.0.1 nodes.0 nodes.1 in
    let e = hint_by nodes.0.1 (rest_after_prefix (codes "(") nodes.0.1) hint.0 refl hint.1 in
    let whole : text ≡ field (decimal depth.0.0) ++ field (signed_decimal score.0.0) ++ field (decimal time.0.0) ++ field (decimal nodes.0.0) ++ hint_in_parentheses hint.0.0 ++ hint.0.1 =
    a.0 ∙ ap (λ x. decimal depth.0.0 ++ (32 ∷ x)) (b.0 ∙ ap (λ x. signed_decimal score.0.0 ++ (32 ∷ x)) (c.0 ∙ ap (λ x. decimal time.0.0 ++ (32 ∷ x)) (d.0 ∙ ap (λ x. decimal nodes.0.0 ++ (32 ∷ x)) e)))
    ∙ thinking_text (decimal depth.0.0) (signed_decimal score.0.0) (decimal time.0.0) (decimal nodes.0.0) (hint_in_parentheses hint.0.0) hint.0.1 in
    subst (λ (u : Reply). SpellsReply text u) spelling.2 (record { form = form; fits = (a.1, b.1, c.1, d.1); text = whole })

-- THE RESULT OF A LOST GAME

lost_by : (side : Side) (prefix text : List ℕ) (o : Option ℕ) (t : Reply) → ((answer : List ℕ) → prefix ++ (answer ++ (125 ∷ [])) ≡ lost_text side (IllegalMove (Some answer))) → lost_at side o text ≡ Some t → SpellsReply (prefix ++ text) t
lost_by side prefix text None t k h = absurd (cc)
lost_by side prefix text (Some at) t k h =
    let c = cond_some (bytes_eq (drop at text) (codes "}") && is_quotable (take at text)) (cecp.Lost side (IllegalMove (Some (take at text)))) t h in
    let both = and_parts (bytes_eq (drop at text) (codes "}")) (is_quotable (take at text)) c.0 in
    let whole : text ≡ take at text ++ codes "}" = sym (take-append-drop at text) ∙ ap (λ r. take at text ++ r) ((bytes_eq-Decides (drop at text) (codes "}")).0 both.0) in
    subst (λ (u : Reply). SpellsReply (prefix ++ text) u) c.1 (record { form = tt; fits = both.1; text = ap (λ x. prefix ++ x) whole ∙ k (take at text) })

score_reports : (line : List ℕ) (t : Reply) → with_score line ≡ Some t → SpellsReply line t
score_reports line t h =
    behind_by line (codes "0-1 {Illegal move by engine: ") (rest_after_prefix (codes "0-1 {Illegal move by engine: ") line) (lost_in White) _ t refl
    (λ text k. lost_by White (codes "0-1 {Illegal move by engine: ") text (position is_brace text) t (λ answer. refl) k)
    (behind_by line (codes "1-0 {Illegal move by engine: ") (rest_after_prefix (codes "1-0 {Illegal move by engine: ") line) (lost_in Black) (thinking_in line) t refl
    (λ text k. lost_by Black (codes "1-0 {Illegal move by engine: ") text (position is_brace text) t (λ answer. refl) k)
    (λ k. thinking_reports line t k)) h

-- ALL

prefix_reports : (line : List ℕ) (t : Reply) → with_prefix line ≡ Some t → SpellsReply line t
prefix_reports line t h =
    behind_by line (codes "feature ") (rest_after_prefix (codes "feature ") line) feature_in _ t refl (λ text k. feature_by text (position is_equals text) t refl k)
    (behind_by line (codes "move ") (rest_after_prefix (codes "move ") line) (of_move (λ m. cecp.Move m)) _ t refl (λ text k. move_reports (codes "move ") text (λ m. cecp.Move m) t (λ m w. record { form = w; fits = tt; text = refl }) k)
    (behind_by line (codes "Illegal move: ") (rest_after_prefix (codes "Illegal move: ") line) (of_move (λ m. cecp.Illegal m)) _ t refl (λ text k. move_reports (codes "Illegal move: ") text (λ m. cecp.Illegal m) t (λ m w. record { form = w; fits = tt; text = refl }) k)
    (behind_by line (codes "Illegal move (game too long): ") (rest_after_prefix (codes "Illegal move (game too long): ") line) (of_move (λ m. cecp.IllegalLong m)) _ t refl (λ text k. move_reports (codes "Illegal move (game too long): ") text (λ m. cecp.IllegalLong m) t (λ m w. record { form = w; fits = tt; text = refl }) k)
    (behind_by line (codes "Error (") (rest_after_prefix (codes "Error (") line) error_in _ t refl (λ text k. error_by text (position is_paren text) t k)
    (behind_by line (codes "pong ") (rest_after_prefix (codes "pong ") line) pong_reply_in _ t refl (λ text k. pong_reports text t k)
    (behind_by line (codes "Hint: ") (rest_after_prefix (codes "Hint: ") line) (of_move (λ m. cecp.Hint m)) _ t refl (λ text k. move_reports (codes "Hint: ") text (λ m. cecp.Hint m) t (λ m w. record { form = w; fits = tt; text = refl }) k)
    (behind_by line (codes "stat01: ") (rest_after_prefix (codes "stat01: ") line) stat01_in (with_score line) t refl (λ text k. stat01_reports text t k)
    (λ k. score_reports line t k)))))))) h

reported_by : (line : List ℕ) (o : Option CodeReply) (t : Reply) → fixed_of line ≡ o → or_prefix o line ≡ Some t → SpellsReply line t
reported_by line None t e h = prefix_reports line t h
reported_by line (Some r) t e h = let same : reply_of r ≡ t = cc in subst (λ (u : Reply). SpellsReply line u) same (fixed_reports line r e)

pub reported_reports : (line : List ℕ) (t : Reply) → reply_in line ≡ Some t → SpellsReply line t
reported_reports line t h = reported_by line (fixed_of line) t refl h
