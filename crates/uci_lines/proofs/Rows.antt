-- The message that is read of a line is the one that the line spells.
use Rattle.std.proofs.Common.{◌≡◌, ℕ, ℤ, int_lt, ◌↔◌, List, [], Bool, true, false, ◌||◌, Option, Some, None, codes, cond, refl, sym, ap, ◌∙◌, subst}
use Rattle.std.specs.Int.{int_min, int_max}
use Rattle.chess_board.specs.declared.board.Move.{Move}
use Rattle.protocol_tokens.specs.Tokens.{tokens, trimmed, first_token, rest_after_token}
use Rattle.uci_lines.specs.Cuts.{Found, found_token, is_word, is_known, is_choice}
use Rattle.uci_lines.specs.Choices.{values, before_choice, choice_text}
use Rattle.chess_board.specs.Spelling.{move_spelled_by}
use Rattle.uci_lines.specs.Options.{is_on, range_from, no_range, spin, spin_in, option_text_shown, text_after, shape_named, uci_option_line, option_with, option_said}
use Rattle.uci_lines.specs.Infos.{no_facts, facts_in}
use Rattle.uci_lines.specs.Engine.{name_said, hint_in_bestmove, best_said, said_after, behind_bestmove, answer_text, found_message, engine_message}
use Rattle.uci_lines.specs.Messages.{OptionKind, Check, Spin, Combo, Button, Text, EngineMsg, Name, UciOk, ReadyOk, Best, OptionLine, Info, Nothing}
use Rattle.uci_lines.specs.Spells.{FirstTokenPasses, PerhapsMove, UpToChoice, HasShape, Declares, FirstKnownWordIs, HasForm, SpellsMessage, SpellsOneEngineMessage}
use Rattle.uci_lines.proofs.Counts.{same_text}
use Rattle.uci_lines.proofs.FirstTokens.{first_cut, cut_first}
use Rattle.uci_lines.proofs.Listings.{after_cut, behind_cut, cut_behind, perhaps_is, is_perhaps, up_to, is_up, values_are, has_values}
use Rattle.uci_lines.proofs.Ranges.{default_is, min_is, max_is, last_is, is_last}
use Rattle.uci_lines.proofs.Tellings.{reports_is, reports}

-- the reading after a word, by the text that follows it
hint_by : (o : Option Found) → hint_in_bestmove o ≡ move_spelled_by (first_token (after_cut o))
unfolding move_spelled_by
hint_by None = refl
hint_by (Some part) = refl

on_by : (o : Option Found) → is_on o ≡ is_word (codes "true") (first_token (after_cut o))
on_by None = refl
on_by (Some part) = refl

text_by : (o : Option Found) → text_after o ≡ option_text_shown (trimmed (after_cut o))
text_by None = refl
text_by (Some part) = refl

up_from : List ℕ → List ℕ
up_from text = trimmed (before_choice (found_token is_choice true text) text)

chosen_by : (o : Option Found) → choice_text o ≡ up_from (after_cut o)
unfolding up_from
chosen_by None = refl
chosen_by (Some part) = refl

default_cut : List ℕ → Option Found
default_cut text = found_token (is_word (codes "default")) true text

-- FROM THE RELATION TO WHAT IS READ

spin_is : (ts : List (List ℕ)) (n min max d : ℤ) → (range_from no_range ts).default ≡ Some n → (range_from no_range ts).min ≡ Some min → (range_from no_range ts).max ≡ Some max → int_lt max min ≡ false → d ≡ int_max min (int_min n max) → spin_in (range_from no_range ts) ≡ Some (Spin d min max)
spin_is ts n min max d e f g l k =
    ap (λ o. spin o (range_from no_range ts).min (range_from no_range ts).max) e
    ∙ ap (λ o. spin (Some n) o (range_from no_range ts).max) f
    ∙ ap (λ o. spin (Some n) (Some min) o) g
    ∙ ap (λ b. cond b None (Some (Spin (int_max min (int_min n max)) min max))) l
    ∙ ap (λ i. Some (Spin i min max)) (sym k)

shape_is : (word text : List ℕ) (shape : OptionKind) → HasShape word text shape → shape_named word text ≡ Some shape
unfolding up_from default_cut
shape_is word text (Check on) h =
    ap (λ w. shape_named w text) h.0
    ∙ ap (λ b. Some (Check b)) (on_by (default_cut text) ∙ ap (λ t. is_word (codes "true") (first_token t)) (sym (behind_cut (codes "default") text h.1 refl h.2)) ∙ sym h.3)
shape_is word text (Spin default min max) h =
    ap (λ w. shape_named w text) h.0
    ∙ spin_is (tokens text) h.1 min max default
    (default_is no_range (tokens text) ∙ last_is (codes "default") (tokens text) h.1 refl h.2)
    (min_is no_range (tokens text) ∙ last_is (codes "min") (tokens text) min refl h.3)
    (max_is no_range (tokens text) ∙ last_is (codes "max") (tokens text) max refl h.4)
    h.5 h.6
shape_is word text (Combo default vs) h =
    let d = h.1 in
    ap (λ w. shape_named w text) h.0
    ∙ ap (λ t. Some (Combo t (values text))) (chosen_by (default_cut text) ∙ ap up_from (sym (behind_cut (codes "default") text d.0 refl d.1)) ∙ sym (up_to d.0 default d.2))
    ∙ ap (λ v. Some (Combo default v)) (values_are text vs h.2)
shape_is word text Button h = ap (λ w. shape_named w text) h
shape_is word text (Text default) h =
    ap (λ w. shape_named w text) h.0
    ∙ ap (λ t. Some (Text t)) (text_by (default_cut text) ∙ ap (λ t. option_text_shown (trimmed t)) (sym (behind_cut (codes "default") text h.1 refl h.2)) ∙ sym h.3)

begun : (line word text : List ℕ) → FirstKnownWordIs line word text → engine_message line ≡ said_after word text
unfolding engine_message
begun line word text b =
    ap found_message (first_cut is_known line b.0 refl b.1) ∙ ap (λ w. said_after w (b.0).after) b.2 ∙ ap (said_after word) b.3

-- the token behind `bestmove`
pub answer_is : (line text : List ℕ) → FirstKnownWordIs line (codes "bestmove") text → answer_text line ≡ first_token text
unfolding answer_text
answer_is line text b =
    ap behind_bestmove (first_cut is_known line b.0 refl b.1) ∙ ap (λ w. cond (is_word (codes "bestmove") w) (first_token (b.0).after) []) b.2 ∙ ap first_token b.3

name_is : (text : List ℕ) (t : List ℕ) → first_token text ≡ codes "name" → t ≡ rest_after_token text → name_said text ≡ Name t
name_is text t e f = ap (λ w. cond (is_word (codes "name") w) (Name (rest_after_token text)) Nothing) e ∙ ap (λ r. Name r) (sym f)

best_is : (text others : List ℕ) (best hint : Option Move) → PerhapsMove (first_token text) best → others ≡ after_cut (found_token (is_word (codes "ponder")) true (rest_after_token text)) → PerhapsMove (first_token others) hint → best_said text ≡ Best best hint
best_is text others best hint b e h =
    ap (λ m. Best m (hint_in_bestmove (found_token (is_word (codes "ponder")) true (rest_after_token text)))) (sym (perhaps_is (first_token text) best b))
    ∙ ap (λ m. Best best m) (hint_by (found_token (is_word (codes "ponder")) true (rest_after_token text)) ∙ ap (λ t. move_spelled_by (first_token t)) (sym e) ∙ sym (perhaps_is (first_token others) hint h))

option_is : (text name : List ℕ) (shape : OptionKind) → Declares text name shape → option_said text ≡ OptionLine name shape
unfolding option_said
option_is text name shape h =
    ap (λ w. cond (is_word (codes "name") w) (option_with (found_token (is_word (codes "type")) true (rest_after_token text))) Nothing) h.0
    ∙ ap option_with (first_cut (is_word (codes "type")) (rest_after_token text) h.1 refl h.2)
    ∙ ap (uci_option_line (trimmed (h.1).before)) (shape_is (first_token (h.1).after) (rest_after_token (h.1).after) shape h.4)
    ∙ ap (λ n. OptionLine n shape) (sym h.3)

form_is : (line : List ℕ) (m : EngineMsg) → HasForm line m → engine_message line ≡ m
unfolding facts_in
form_is line (Name name) h = begun line (codes "id") h.0 h.1 ∙ name_is h.0 name h.2 h.3
form_is line UciOk h = begun line (codes "uciok") h.0 h.1
form_is line ReadyOk h = begun line (codes "readyok") h.0 h.1
form_is line (Best best hint) h =
    begun line (codes "bestmove") h.0 h.1 ∙ best_is h.0 h.3 best hint h.2 (behind_cut (codes "ponder") (rest_after_token h.0) h.3 refl h.4) h.5
form_is line (OptionLine name shape) h = begun line (codes "option") h.0 h.1 ∙ option_is h.0 name shape h.2
form_is line (Info facts) h = begun line (codes "info") h.0 h.1 ∙ ap (λ f. Info f) (reports_is no_facts (tokens h.0) facts h.2)
form_is line Nothing h = absurd h

-- FROM WHAT IS READ TO THE RELATION

-- a shape that is read is there
Fits : List ℕ → List ℕ → Option OptionKind → Type 0
Fits word text None = Unit {0}
Fits word text (Some shape) = HasShape word text shape

spin_by : (word text : List ℕ) (n min max : ℤ) (t : Bool) → word ≡ codes "spin" → int_lt max min ≡ t → (range_from no_range (tokens text)).default ≡ Some n → (range_from no_range (tokens text)).min ≡ Some min → (range_from no_range (tokens text)).max ≡ Some max → Fits word text (cond t None (Some (Spin (int_max min (int_min n max)) min max)))
unfolding Fits
spin_by word text n min max true w l e f g = tt
spin_by word text n min max false w l e f g = (
  w,
  n,
  is_last (codes "default") (tokens text) n (sym (default_is no_range (tokens text)) ∙ e),
  is_last (codes "min") (tokens text) min (sym (min_is no_range (tokens text)) ∙ f),
  is_last (codes "max") (tokens text) max (sym (max_is no_range (tokens text)) ∙ g),
  l,
  refl,
)

spin_fits : (word text : List ℕ) (a b c : Option ℤ) → word ≡ codes "spin" → (range_from no_range (tokens text)).default ≡ a → (range_from no_range (tokens text)).min ≡ b → (range_from no_range (tokens text)).max ≡ c → Fits word text (spin a b c)
unfolding Fits
spin_fits word text None b c w e f g = tt
spin_fits word text (Some n) None c w e f g = tt
spin_fits word text (Some n) (Some min) None w e f g = tt
spin_fits word text (Some n) (Some min) (Some max) w e f g = spin_by word text n min max (int_lt max min) w refl e f g

kind_or : (b : Bool) (word w text : List ℕ) (o other : Option OptionKind) → is_word w word ≡ b → (word ≡ w → Fits word text o) → Fits word text other → Fits word text (cond b o other)
kind_or true word w text o other e f h = f (same_text word w e)
kind_or false word w text o other e f h = h

shape_fits : (word text : List ℕ) → Fits word text (shape_named word text)
unfolding Fits up_from default_cut
shape_fits word text =
    kind_or (is_word (codes "check") word) word (codes "check") text _ _ refl
    (λ w. (w, after_cut (default_cut text), cut_behind (codes "default") text refl, on_by (default_cut text)))
    (kind_or (is_word (codes "spin") word) word (codes "spin") text _ _ refl
    (λ w. spin_fits word text (range_from no_range (tokens text)).default (range_from no_range (tokens text)).min (range_from no_range (tokens text)).max w refl refl refl)
    (kind_or (is_word (codes "combo") word) word (codes "combo") text _ _ refl
    (λ w. (w, (after_cut (default_cut text), cut_behind (codes "default") text refl, subst (λ (t : List ℕ). UpToChoice (after_cut (default_cut text)) t) (sym (chosen_by (default_cut text))) (is_up (after_cut (default_cut text)))), has_values text))
    (kind_or (is_word (codes "button") word) word (codes "button") text _ _ refl (λ w. w)
    (kind_or (is_word (codes "string") word) word (codes "string") text _ None refl
    (λ w. (w, after_cut (default_cut text), cut_behind (codes "default") text refl, text_by (default_cut text)))
    tt))))

-- a message that is read has its form
Holds : List ℕ → EngineMsg → Type 0
Holds line Nothing = Unit {0}
Holds line (Name name) = HasForm line (Name name)
Holds line UciOk = HasForm line UciOk
Holds line ReadyOk = HasForm line ReadyOk
Holds line (Best best hint) = HasForm line (Best best hint)
Holds line (OptionLine name shape) = HasForm line (OptionLine name shape)
Holds line (Info facts) = HasForm line (Info facts)

name_holds : (b : Bool) (line text : List ℕ) → is_word (codes "name") (first_token text) ≡ b → FirstKnownWordIs line (codes "id") text → Holds line (cond b (Name (rest_after_token text)) Nothing)
unfolding Holds
name_holds true line text e b = (text, b, same_text (first_token text) (codes "name") e, refl)
name_holds false line text e b = tt

best_holds : (line text : List ℕ) → FirstKnownWordIs line (codes "bestmove") text → Holds line (best_said text)
unfolding Holds
best_holds line text b =
    let o = found_token (is_word (codes "ponder")) true (rest_after_token text) in (
      text,
      b,
      is_perhaps (first_token text),
      after_cut o,
      cut_behind (codes "ponder") (rest_after_token text) refl,
      subst (λ (m : Option Move). PerhapsMove (first_token (after_cut o)) m) (sym (hint_by o)) (is_perhaps (first_token (after_cut o))),
    )

shape_holds : (line text : List ℕ) (part : Found) (o : Option OptionKind) → FirstKnownWordIs line (codes "option") text → first_token text ≡ codes "name" → FirstTokenPasses (is_word (codes "type")) (rest_after_token text) part → Fits (first_token part.after) (rest_after_token part.after) o → Holds line (uci_option_line (trimmed part.before) o)
unfolding Holds Fits
shape_holds line text part None b n f s = tt
shape_holds line text part (Some shape) b n f s = (text, b, (n, part, f, refl, s))

part_holds : (line text : List ℕ) (o : Option Found) → FirstKnownWordIs line (codes "option") text → first_token text ≡ codes "name" → found_token (is_word (codes "type")) true (rest_after_token text) ≡ o → Holds line (option_with o)
unfolding Holds
part_holds line text None b n e = tt
part_holds line text (Some part) b n e =
    shape_holds line text part (shape_named (first_token part.after) (rest_after_token part.after)) b n (cut_first (is_word (codes "type")) (rest_after_token text) part refl e) (shape_fits (first_token part.after) (rest_after_token part.after))

option_by : (t : Bool) (line text : List ℕ) → is_word (codes "name") (first_token text) ≡ t → FirstKnownWordIs line (codes "option") text → Holds line (cond t (option_with (found_token (is_word (codes "type")) true (rest_after_token text))) Nothing)
unfolding Holds
option_by true line text e b = part_holds line text (found_token (is_word (codes "type")) true (rest_after_token text)) b (same_text (first_token text) (codes "name") e) refl
option_by false line text e b = tt

option_holds : (line text : List ℕ) → FirstKnownWordIs line (codes "option") text → Holds line (option_said text)
unfolding option_said
option_holds line text b = option_by (is_word (codes "name") (first_token text)) line text refl b

info_holds : (line text : List ℕ) → FirstKnownWordIs line (codes "info") text → Holds line (Info (facts_in text))
unfolding Holds facts_in
info_holds line text b = (text, b, reports no_facts (tokens text))

word_holds : (b : Bool) (line word w : List ℕ) (m other : EngineMsg) → is_word w word ≡ b → (word ≡ w → Holds line m) → (b ≡ false → Holds line other) → Holds line (cond b m other)
word_holds true line word w m other e f h = f (same_text word w e)
word_holds false line word w m other e f h = h refl

last_or : (a b c d e f : Bool) → a ≡ false → b ≡ false → c ≡ false → d ≡ false → e ≡ false → (a || b || c || d || e || f) ≡ true → f ≡ true
last_or a b c d e f p q r s t h = sym (rw (p, q, r, s, t) refl) ∙ h

part_message : (line : List ℕ) (part : Found) → FirstTokenPasses is_known line part → Holds line (said_after part.word part.after)
unfolding Holds
part_message line part f =
    word_holds (is_word (codes "id") part.word) line part.word (codes "id") _ _ refl (λ w. name_holds (is_word (codes "name") (first_token part.after)) line part.after refl (part, f, w, refl)) (λ a.
    word_holds (is_word (codes "uciok") part.word) line part.word (codes "uciok") _ _ refl (λ w. (part.after, (part, f, w, refl))) (λ b.
    word_holds (is_word (codes "readyok") part.word) line part.word (codes "readyok") _ _ refl (λ w. (part.after, (part, f, w, refl))) (λ c.
    word_holds (is_word (codes "bestmove") part.word) line part.word (codes "bestmove") _ _ refl (λ w. best_holds line part.after (part, f, w, refl)) (λ d.
    word_holds (is_word (codes "info") part.word) line part.word (codes "info") _ _ refl (λ w. info_holds line part.after (part, f, w, refl)) (λ e.
    option_holds line part.after (part, f, same_text part.word (codes "option") (last_or (is_word (codes "id") part.word) (is_word (codes "uciok") part.word) (is_word (codes "readyok") part.word) (is_word (codes "bestmove") part.word) (is_word (codes "info") part.word) (is_word (codes "option") part.word) a b c d e f.passes), refl))))))

message_by : (line : List ℕ) (o : Option Found) → found_token is_known true line ≡ o → Holds line (found_message o)
unfolding Holds
message_by line None e = tt
message_by line (Some part) e = part_message line part (cut_first is_known line part refl e)

message_holds : (line : List ℕ) → Holds line (engine_message line)
unfolding engine_message
message_holds line = message_by line (found_token is_known true line) refl

holds_spells : (line : List ℕ) (m : EngineMsg) → engine_message line ≡ m → Holds line m → SpellsMessage line m
unfolding Holds
holds_spells line Nothing e h = λ k f. subst (λ (n : EngineMsg). HasForm line n) (sym (form_is line k f) ∙ e) f
holds_spells line (Name name) e h = h
holds_spells line UciOk e h = h
holds_spells line ReadyOk e h = h
holds_spells line (Best best hint) e h = h
holds_spells line (OptionLine name shape) e h = h
holds_spells line (Info facts) e h = h

pub read_spells : (line : List ℕ) (m : EngineMsg) → engine_message line ≡ m → SpellsMessage line m
read_spells line m e = holds_spells line m e (subst (λ (k : EngineMsg). Holds line k) e (message_holds line))

-- a line that has no form is read as Nothing
none_by : (line : List ℕ) (k : EngineMsg) → engine_message line ≡ k → Holds line k → ((m : EngineMsg) → HasForm line m → ⊥) → k ≡ Nothing
unfolding Holds
none_by line Nothing e h n = refl
none_by line (Name name) e h n = absurd (n (Name name) h)
none_by line UciOk e h n = absurd (n UciOk h)
none_by line ReadyOk e h n = absurd (n ReadyOk h)
none_by line (Best best hint) e h n = absurd (n (Best best hint) h)
none_by line (OptionLine name shape) e h n = absurd (n (OptionLine name shape) h)
none_by line (Info facts) e h n = absurd (n (Info facts) h)

pub spells_read : (line : List ℕ) (m : EngineMsg) → SpellsMessage line m → engine_message line ≡ m
spells_read line Nothing h = none_by line (engine_message line) refl (message_holds line) h
spells_read line (Name name) h = form_is line (Name name) h
spells_read line UciOk h = form_is line UciOk h
spells_read line ReadyOk h = form_is line ReadyOk h
spells_read line (Best best hint) h = form_is line (Best best hint) h
spells_read line (OptionLine name shape) h = form_is line (OptionLine name shape) h
spells_read line (Info facts) h = form_is line (Info facts) h

pub spelled : (line : List ℕ) (k : EngineMsg) → k ≡ engine_message line → (m : EngineMsg) → (k ≡ m) ↔ SpellsMessage line m
spelled line k e m = (λ h. read_spells line m (sym e ∙ h), λ s. e ∙ spells_read line m s)

pub one_message : SpellsOneEngineMessage
one_message line = (engine_message line, read_spells line (engine_message line) refl, λ k s. sym (spells_read line k s))
