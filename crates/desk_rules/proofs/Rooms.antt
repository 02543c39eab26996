-- The lengths of the texts of lines.
use Rattle.std.proofs.Common.{◌≡◌, ℕ, ◌+◌, ◌^◌, ◌<◌, ◌≤◌, List, [], ◌∷◌, ◌++◌, length, map, take, get_or, Bool, true, false, not, ◌&&◌, nat_le, Option, Some, None, decimal, arith, length-append, append_assoc, append-nil, lit<, refl, ap, sym, ◌∙◌}
use Rattle.std.specs.Option.{option_to_list, is_some}
use Rattle.std.proofs.lemmas.List.{take_more}
use Rattle.std.proofs.lemmas.Fmt.{length-decimal-le}
use Rattle.std.proofs.lemmas.Bool.Decides.{nat_tests}
use Rattle.line_io.specs.Event.{is_line, has_feed}
use Rattle.line_io.specs.Out.{Text, with}
use Rattle.chess_board.specs.Position.{Position}
use Rattle.cecp_lines.specs.declared.reply.Spelling.{Spelling}
use Rattle.cecp_lines.specs.declared.reply.Spelling.TheVariants.{Coordinates, San}
use Rattle.cecp_lines.specs.Replies.{Reply, Pong, HasFieldRanges, borrowed_length, reply_text}
use Rattle.cecp_lines.proofs.Lengths.{reported_short}
use Rattle.uci_lines.specs.Info.{Info as AnyInfo}
use Rattle.uci_lines.specs.Messages.{Info}
use Rattle.think_text.specs.declared.line.Pondered.{Pondered}
use Rattle.think_text.specs.Line.{thinking_line, text_with_line, ThinkingLineHasRoom, IsPlayableAsHint}
use Rattle.think_text.specs.Short.{most_bytes}
use Rattle.option_map.specs.DeclaredOptions.Settings.{OptionSetting, text_size}
use Rattle.option_map.specs.FeatureLists.Features.{feature_list, reply_line, reply_lines}
use Rattle.option_map.proofs.DeclaredOptions.Lists.{short_list}
use Rattle.desk_rules.specs.Fits.{IsSaid}
use Rattle.think_text.proofs.Short.{lines_short}

pub pong_le : (n : ℕ) → n < 2 ^ 32 → length (reply_line (Pong n)) ≤ 16
pong_le n h =
    let short = length-decimal-le 10 n (lit< tt) (omega arith) (omega arith) in
    omega (arith, length-append (decimal n) (10 ∷ []))

-- LINES ONE BY ONE

pub lines-one : (t : Reply) → reply_lines (t ∷ []) ≡ reply_line t
lines-one t = append-nil (reply_line t)

pub lines-append : (ts us : List Reply) → reply_lines (ts ++ us) ≡ reply_lines ts ++ reply_lines us
lines-append [] us = refl
lines-append (t ∷ ts) us = ap (λ l. reply_line t ++ l) (lines-append ts us) ∙ sym (append_assoc (reply_line t) (reply_lines ts) (reply_lines us))

-- a reply that borrows nothing
pub brief_le : (t : Reply) → HasFieldRanges t → borrowed_length t ≡ 0 → length (reply_line t) ≤ 129
brief_le t f b = omega (arith, reported_short t f, b, length-append (reply_text t) (10 ∷ []))

-- as much as a line, and as its list
pub one_line : (old new : Text) (t : Reply) → new ≡ with old (reply_line t) → new ≡ with old (reply_lines (t ∷ []))
one_line old new t e = e ∙ ap (λ (l : List ℕ). with old l) (sym (lines-one t))

pub one_le : (n : ℕ) (t : Reply) → length (reply_line t) ≤ n → length (reply_lines (t ∷ [])) ≤ n
one_le n t h = omega (arith, h, ap length (lines-one t))

-- a reply and its line feed
pub line_put : (old mid new : Text) (t : Reply) → mid ≡ with old (reply_text t) → new ≡ with mid (10 ∷ []) → new ≡ with old (reply_line t)
line_put old mid new t e f = f ∙ ap (λ (x : Text). with x (10 ∷ [])) e ∙ ap (λ (l : List ℕ). let x : Text = record { text = l; room = old.room } in x) (append_assoc old.text (reply_text t) (10 ∷ []))

-- two puts in a row
pub two_lines : (old mid new : Text) (ts us : List Reply) → mid ≡ with old (reply_lines ts) → new ≡ with mid (reply_lines us) → new ≡ with old (reply_lines (ts ++ us))
two_lines old mid new ts us e f =
    f ∙ ap (λ (t : Text). with t (reply_lines us)) e
    ∙ ap (λ (l : List ℕ). let t : Text = record { text = l; room = old.room } in t) (append_assoc old.text (reply_lines ts) (reply_lines us) ∙ ap (λ l. old.text ++ l) (sym (lines-append ts us)))

-- how much was put
pub put_le : (old new : Text) (piece : List ℕ) (n : ℕ) → new ≡ with old piece → length piece ≤ n → (length new.text ≤ length old.text + n) × (new.room ≡ old.room)
put_le old new piece n e h = (omega (arith, h, ap (λ (t : Text). length t.text) e, length-append old.text piece), ap (λ (t : Text). t.room) e)

-- LISTS AND THINKING

pub list_le : (os : List OptionSetting) (said : List ℕ) → text_size os ≤ 65536 → length os ≤ 256 → length (reply_lines (feature_list os said)) ≤ 67000
list_le os said h k = omega (arith, h, k, short_list os said)

pub line_le : (line : List ℕ) → is_line line ≡ true → length line ≤ 65536
line_le line h = first (length line) (not (has_feed line)) h where
  first : (n : ℕ) (b : Bool) → (nat_le n 65536 && b) ≡ true → n ≤ 65536
  first n true h = grind (arith, nat_tests)
  first n false h = grind (arith, nat_tests)

thought_le : (o : Option Reply) → ((t : Reply) → o ≡ Some t → length (reply_text t) ≤ 128 + 104857) → length (reply_lines (option_to_list o)) ≤ 105021
thought_le None h = omega arith
thought_le (Some t) h = omega (arith, h t refl, ap length (lines-one t), length-append (reply_text t) (10 ∷ []))

-- the room for a thinking line
pub thought_room : (out : Text) (o : Option Reply) → length (reply_lines (option_to_list o)) ≤ 105021 → length out.text + 105021 ≤ out.room → ThinkingLineHasRoom out o
thought_room out None h r = tt
thought_room out (Some t) h r = omega (arith, h, r, ap length (lines-one t), length-append (reply_text t) (10 ∷ []))

-- and for its line feed
pub feed_room : (old new : Text) (o : Option Reply) → new ≡ text_with_line old o → is_some o ≡ true → length (reply_lines (option_to_list o)) ≤ 105021 → length old.text + 105021 ≤ old.room → length new.text + 1 ≤ new.room
feed_room old new None e s h r = absurd (cc)
feed_room old new (Some t) e s h r =
    omega (arith, h, r, ap (λ (x : Text). length x.text) e, ap (λ (x : Text). x.room) e, length-append old.text (reply_text t), ap length (lines-one t), length-append (reply_text t) (10 ∷ []))

pub most_le : (s : Spelling) (n : ℕ) → n ≤ 65536 → most_bytes s n ≤ 128 + 104857
most_le Coordinates n h = omega (arith, h)
most_le San n h = omega (arith, h)

pub thinking_le : (s : Spelling) (facts : AnyInfo) (p : Position) (hint : Option Pondered) → IsPlayableAsHint hint → IsSaid (Info facts) → length (reply_lines (option_to_list (thinking_line s facts p hint))) ≤ 105021
thinking_le s facts p hint i said =
    thought_le (thinking_line s facts p hint) (λ t e. let l = most_le s (length said.line) (line_le said.line said.is_line) in omega (arith, l, lines_short s said.line facts p hint t i said.says e))

-- PONGS

map-append : (ns ms : List ℕ) → map Pong (ns ++ ms) ≡ map Pong ns ++ map Pong ms
map-append [] ms = refl
map-append (n ∷ ns) ms = ap (λ l. Pong n ∷ l) (map-append ns ms)

-- one pong more
pub pong_more : (start ns : List ℕ) (i : ℕ) → i < length ns → (start ++ reply_lines (map Pong (take i ns))) ++ reply_line (Pong (get_or ns i 0)) ≡ start ++ reply_lines (map Pong (take (i + 1) ns))
pong_more start ns i h =
    append_assoc start (reply_lines (map Pong (take i ns))) (reply_line (Pong (get_or ns i 0)))
    ∙ ap (λ l. start ++ l) (
    ap (λ l. reply_lines (map Pong (take i ns)) ++ l) (sym (append-nil (reply_line (Pong (get_or ns i 0)))))
    ∙ sym (lines-append (map Pong (take i ns)) (Pong (get_or ns i 0) ∷ []))
    ∙ ap reply_lines (sym (map-append (take i ns) (get_or ns i 0 ∷ [])))
    ∙ ap (λ l. reply_lines (map Pong l)) (sym (take_more ns i 0 h))
    )
