-- The canonical spelling of each message that some line spells, spells it.
use Rattle.std.proofs.Common.{◌≡◌, ℕ, ◌+◌, ◌*◌, ◌/◌, ◌%◌, ◌^◌, ◌<◌, ◌≤◌, List, [], ◌∷◌, ◌++◌, Bool, true, false, not, ◌&&◌, eqb, ltb, leb, cond, length, take, drop, Option, Some, None, refl, sym, ap, ◌∙◌, subst, inl, arith, add_comm, add-one, append_assoc}
use Rattle.std.specs.Prelude.{codes, position}
use Rattle.std.specs.Option.{option_map}
use Rattle.std.specs.List.{list_all, position_or_len}
use Rattle.std.specs.Fmt.{decimal}
use Rattle.std.specs.Char.{is_ascii_digit}
use Rattle.std.proofs.lemmas.Bool.Decides.{nat_tests}
use Rattle.std.proofs.lemmas.Option.{cond_some}
use Rattle.std.proofs.Math.Seq.{take-append_seam}
use Rattle.chess_board.specs.declared.board.Move.{Move}
use Rattle.chess_board.specs.Text.{text_of_move}
use Rattle.chess_board.proofs.Texts.{reads-back}
use Rattle.chess_board.proofs.TextBytes.{text_high}
use Rattle.protocol_tokens.specs.Tokens.{is_white, is_token, is_blank, first_token, rest_after_token, trimmed, trim_left, trim_right, token_end, tokens}
use Rattle.protocol_tokens.specs.Numbers.{digits, seconds_text}
use Rattle.protocol_tokens.proofs.Trims.{trimmed_again, trim_left_trimmed, trim_right_again}
use Rattle.std.proofs.lemmas.List.{append-nil, append_cancel_left}
use Rattle.std.proofs.lemmas.List.Folds.{list_all-append}
use Rattle.std.proofs.lemmas.Bool.{and_parts}
use mathlib.Core.Bool.{and-false}
use Rattle.protocol_tokens.proofs.Runs.{high_token, token_first, token_rest, all_of, starts_black}
use Rattle.protocol_tokens.proofs.TokenLists.{tokens_more, tokens_alone, tokens_trimmed, tokens_some, first_is_token, no_first}
use Rattle.protocol_tokens.proofs.Written.{decimal_token, decimal_digits, digits_decimal, seconds_read, one_digit}
use Rattle.protocol_tokens.proofs.Lengths.{trim_left_length}
use Rattle.protocol_tokens.proofs.Sizes.{digits_small}
use Rattle.cecp_lines.specs.Words.{is_ignored}
use Rattle.cecp_lines.specs.Messages as says
use Rattle.cecp_lines.specs.Messages.{IfaceMsg}
use Rattle.cecp_engine_lines.specs.Texts.{message_text, after_blank, two_digits_of, base_text, option_value_text}
use Rattle.cecp_lines.specs.Reading.{is_colon, minutes_seconds, base_at, base_time, is_equals, name_at, value_at, HasLevel, HasMove, HasSetting, SpellsIfaceMsg}
use Rattle.cecp_lines.proofs.Officers.{move_writable}
use Rattle.cecp_lines.proofs.LineTokens.{heads}
use Rattle.cecp_engine_lines.proofs.Hears.{map_some, at_byte}
use Rattle.cecp_engine_lines.proofs.Rereads.{cut_position, no_position, after_cut}
use Rattle.cecp_engine_lines.proofs.Spoken.{number_again, centis_again, seconds_again, seconds_below, seconds_token, longer_token, black_over}

-- MOVES

move_token : (m : Move) → is_token (text_of_move m) ≡ true
move_token m = let some : 0 < length (text_of_move m) = omega arith in high_token (text_of_move m) some (text_high m)

move_again : (line : List ℕ) (m : Move) → HasMove line m → HasMove (codes "usermove " ++ text_of_move m) m
move_again line m h = inl (text_of_move m, tokens_more (codes "usermove") (text_of_move m) 32 refl refl ∙ ap (λ ts. codes "usermove" ∷ ts) (tokens_alone (text_of_move m) (move_token m)), reads-back m (move_writable line m h))

-- RESTS

rest_again : (line : List ℕ) → trimmed (rest_after_token line) ≡ rest_after_token line
rest_again line = trimmed_again (drop (token_end (trim_left line)) (trim_left line))

board_by : (text : List ℕ) → trimmed text ≡ text → SpellsIfaceMsg (codes "setboard" ++ after_blank text) (says.SetBoard text)
board_by [] h = (refl, refl)
board_by (b ∷ bs) h = (token_first (codes "setboard") (b ∷ bs) 32 refl refl, sym (token_rest (codes "setboard") (b ∷ bs) 32 refl refl ∙ h))

board_again : (line text : List ℕ) → text ≡ rest_after_token line → SpellsIfaceMsg (codes "setboard" ++ after_blank text) (says.SetBoard text)
board_again line text e = board_by text (ap trimmed e ∙ rest_again line ∙ sym e)

-- IGNORED LINES

ignored_by : (line f : List ℕ) → first_token line ≡ f → is_ignored f ≡ true → first_token (trimmed line) ≡ f
ignored_by line [] e h = absurd (cc)
ignored_by line (c ∷ cs) e h = (heads (trimmed line) (c ∷ cs) (tokens (rest_after_token line)) (tokens_trimmed line ∙ tokens_some line c cs e)).first

ignored_again : (line text : List ℕ) → is_ignored (first_token line) ≡ true → text ≡ trimmed line → SpellsIfaceMsg text (says.Ignored text)
ignored_again line text h e =
    let first : first_token text ≡ first_token line = ap first_token e ∙ ignored_by line (first_token line) refl h in
    (ap is_ignored first ∙ h, e ∙ sym (trimmed_again line) ∙ sym (ap trimmed e))

-- LEVEL

two_read : (a b : ℕ) → a < 10 → b < 10 → digits 2 ((48 + a) ∷ (48 + b) ∷ []) ≡ Some (a * 10 + b)
two_read a b ha hb =
    let x = one_digit a ha in
    let y = one_digit b hb in
    rw (x.0, y.0, x.1, y.1) (ap Some (omega arith))

not_colon : (c : ℕ) → is_ascii_digit c ≡ true → not (eqb c 58) ≡ true
not_colon c h = grind (arith, nat_tests)

pub record IsBase (ms : ℕ) : Type 0 where
  pub minutes : ms / 60000 < 10 ^ 4
  pub whole : ms % 1000 ≡ 0

base_parts : (a b : Option ℕ) (ms : ℕ) → ((m : ℕ) → a ≡ Some m → m < 10 ^ 4) → minutes_seconds a b ≡ Some ms → IsBase ms
base_parts (Some m) (Some s) ms k h =
    let c = cond_some (leb s 59) (m * 60000 + s * 1000) ms h in
    let le : s ≤ 59 = grind (arith, nat_tests, c.0) in
    let low = k m refl in
    let same = c.1 in
    record { minutes = omega arith; whole = omega arith }
base_parts (Some m) None ms k h = absurd (cc)
base_parts None b ms k h = absurd (cc)

base_by : (t : List ℕ) (o : Option ℕ) (ms : ℕ) → base_at o t ≡ Some ms → IsBase ms
base_by t None ms h =
    let m = map_some (λ n. n * 60000) (digits 4 t) ms h in
    let low = digits_small 4 t m.0 m.1 in
    let same = m.2 in
    record { minutes = omega arith; whole = omega arith }
base_by t (Some at) ms h = base_parts (digits 4 (take at t)) (digits 2 (drop (at + 1) t)) ms (digits_small 4 (take at t)) h

base_below : (t : List ℕ) (ms : ℕ) → base_time t ≡ Some ms → IsBase ms
base_below t ms h = base_by t (position is_colon t) ms h

decimal_no_colon : (n : ℕ) → n < 2 ^ 64 → list_all (λ b. not (eqb b 58)) (decimal n) ≡ true
decimal_no_colon n h = all_of is_ascii_digit (λ b. not (eqb b 58)) not_colon (decimal n) (decimal_digits n h)

base_with : (m s : ℕ) → m < 10 ^ 4 → s ≤ 59 → base_time (decimal m ++ (58 ∷ two_digits_of s)) ≡ Some (m * 60000 + s * 1000)
base_with m s h k =
    let le : leb s 59 ≡ true = grind (arith, nat_tests) in
    let two : digits 2 (two_digits_of s) ≡ Some s = two_read (s / 10) (s % 10) (omega arith) (omega arith) ∙ ap Some (omega arith) in
    ap (λ o. base_at o (decimal m ++ (58 ∷ two_digits_of s))) (cut_position 58 (decimal m) (two_digits_of s) (decimal_no_colon m (omega arith)))
    ∙ ap (λ t. minutes_seconds (digits 4 t) (digits 2 (drop (length (decimal m) + 1) (decimal m ++ (58 ∷ two_digits_of s))))) (take-append_seam (decimal m) (58 ∷ two_digits_of s))
    ∙ ap (λ t. minutes_seconds (digits 4 (decimal m)) (digits 2 t)) (after_cut 58 (decimal m) (two_digits_of s))
    ∙ ap (λ o. minutes_seconds o (digits 2 (two_digits_of s))) (digits_decimal 4 m (omega arith) (omega arith) h)
    ∙ ap (λ o. minutes_seconds (Some m) o) two
    ∙ ap (λ b. cond b (Some (m * 60000 + s * 1000)) None) le

base_without : (m : ℕ) → m < 10 ^ 4 → base_time (decimal m) ≡ Some (m * 60000)
base_without m h =
    ap (λ o. base_at o (decimal m)) (no_position 58 (decimal m) (decimal_no_colon m (omega arith)))
    ∙ ap (option_map (λ k. k * 60000)) (digits_decimal 4 m (omega arith) (omega arith) h)

base_read_by : (ms : ℕ) (b : Bool) → eqb (ms / 1000 % 60) 0 ≡ b → IsBase ms → base_time (cond b (decimal (ms / 60000)) (decimal (ms / 60000) ++ (58 ∷ two_digits_of (ms / 1000 % 60)))) ≡ Some ms
base_read_by ms true e h =
    let z : ms / 1000 % 60 ≡ 0 = grind (arith, nat_tests) in
    let low = h.minutes in
    let whole = h.whole in
    base_without (ms / 60000) low ∙ ap Some (omega arith)
base_read_by ms false e h =
    let low = h.minutes in
    let whole = h.whole in
    base_with (ms / 60000) (ms / 1000 % 60) low (omega arith) ∙ ap Some (omega arith)

base_read : (ms : ℕ) → IsBase ms → base_time (base_text ms) ≡ Some ms
base_read ms h = base_read_by ms (eqb (ms / 1000 % 60) 0) refl h

two_black : (n : ℕ) → list_all (λ b. not (is_white b)) (58 ∷ two_digits_of n) ≡ true
two_black n =
    let a = black_over (48 + n / 10) (omega arith) in
    let b = black_over (48 + n % 10) (omega arith) in
    rw (a, b) refl

base_token_by : (ms : ℕ) (b : Bool) → IsBase ms → is_token (cond b (decimal (ms / 60000)) (decimal (ms / 60000) ++ (58 ∷ two_digits_of (ms / 1000 % 60)))) ≡ true
base_token_by ms true h = let low = h.minutes in decimal_token (ms / 60000) (omega arith)
base_token_by ms false h = let low = h.minutes in longer_token (decimal (ms / 60000)) (58 ∷ two_digits_of (ms / 1000 % 60)) (decimal_token (ms / 60000) (omega arith)) (two_black (ms / 1000 % 60))

base_token : (ms : ℕ) → IsBase ms → is_token (base_text ms) ≡ true
base_token ms h = base_token_by ms (eqb (ms / 1000 % 60) 0) h

level_words : (word a b c : List ℕ) → is_token word ≡ true → is_token a ≡ true → is_token b ≡ true → is_token c ≡ true → tokens (word ++ (32 ∷ (a ++ (32 ∷ (b ++ (32 ∷ c)))))) ≡ word ∷ a ∷ b ∷ c ∷ []
level_words word a b c hw ha hb hc =
    tokens_more word (a ++ (32 ∷ (b ++ (32 ∷ c)))) 32 hw refl
    ∙ ap (λ ts. word ∷ ts) (tokens_more a (b ++ (32 ∷ c)) 32 ha refl
    ∙ ap (λ ts. a ∷ ts) (tokens_more b c 32 hb refl ∙ ap (λ ts. b ∷ ts) (tokens_alone c hc)))

level_text : (a b c : List ℕ) → codes "level " ++ a ++ codes " " ++ b ++ codes " " ++ c ≡ codes "level" ++ (32 ∷ (a ++ (32 ∷ (b ++ (32 ∷ c)))))
level_text a b c = simp append_assoc

level_again : (line : List ℕ) (mps base inc : ℕ) → HasLevel line mps base inc → HasLevel (codes "level " ++ decimal mps ++ codes " " ++ base_text base ++ codes " " ++ seconds_text inc) mps base inc
level_again line mps base inc h =
    let few = digits_small 4 h.0 mps h.4 in
    let is = base_below h.1 base h.5 in
    let low = seconds_below h.2 inc h.6 in (
      decimal mps,
      base_text base,
      seconds_text inc,
      ap tokens (level_text (decimal mps) (base_text base) (seconds_text inc)) ∙ level_words (codes "level") (decimal mps) (base_text base) (seconds_text inc) refl (decimal_token mps (omega arith)) (base_token base is) (seconds_token inc low),
      digits_decimal 4 mps (omega arith) (omega arith) few,
      base_read base is,
      seconds_read inc low,
    )

-- WHAT IS TRIMMED

blank_by : (xs : List ℕ) (b : Bool) → is_blank xs ≡ b → 0 < length xs → trim_right xs ≡ xs → is_blank xs ≡ false
blank_by xs false e l h = e
blank_by [] true e l h = absurd (omega arith)
blank_by (x ∷ xs) true e l h = absurd (cc (sym (ap (λ b. cond b [] (x ∷ trim_right xs)) e) ∙ h))

blank_false : (xs : List ℕ) → 0 < length xs → trim_right xs ≡ xs → is_blank xs ≡ false
blank_false xs l h = blank_by xs (is_blank xs) refl l h

blank_more : (xs ys : List ℕ) → is_blank ys ≡ false → is_blank (xs ++ ys) ≡ false
blank_more xs ys h = list_all-append is_white xs ys ∙ ap (λ b. is_blank xs && b) h ∙ and-false (is_blank xs)

-- an end that is not blank keeps the bytes before it
right_over : (xs ys : List ℕ) → is_blank ys ≡ false → trim_right (xs ++ ys) ≡ xs ++ trim_right ys
right_over [] ys h = refl
right_over (x ∷ xs) ys h = rw (ap (λ b. is_white x && b) (blank_more xs ys h) ∙ and-false (is_white x), right_over xs ys h) refl

-- THE REST OF A LINE IS TRIMMED AT BOTH ENDS

right_kept : (xs ys : List ℕ) → 0 < length ys → trim_right ys ≡ ys → trim_right (xs ++ ys) ≡ xs ++ ys
right_kept xs ys l h = right_over xs ys (blank_false ys l h) ∙ ap (λ t. xs ++ t) h

-- KIND AND PATH

path_token : (line f : List ℕ) → first_token line ≡ f → 0 < length (rest_after_token line) → is_token f ≡ true
path_token line [] e l = absurd (omega (arith, ap (λ t. length (trimmed (drop (token_end t) t))) (no_first line e)))
path_token line (c ∷ cs) e l = first_is_token line c cs e

right_trimmed : (line : List ℕ) → trim_right (rest_after_token line) ≡ rest_after_token line
right_trimmed line = trim_right_again (trim_left (drop (token_end (trim_left line)) (trim_left line)))

path_by : (kind path : List ℕ) → is_token kind ≡ true → 0 < length path → trim_right path ≡ path → trimmed path ≡ path → SpellsIfaceMsg (codes "egtpath" ++ (32 ∷ (kind ++ (32 ∷ path)))) (says.EgtPath kind path)
path_by kind path k l right both =
    let more : rest_after_token (codes "egtpath" ++ (32 ∷ (kind ++ (32 ∷ path)))) ≡ kind ++ (32 ∷ path) =
    token_rest (codes "egtpath") (kind ++ (32 ∷ path)) 32 refl refl
    ∙ ap trim_right (starts_black kind (32 ∷ path) k)
    ∙ right_over kind (32 ∷ path) (blank_false path l right)
    ∙ ap (λ b. kind ++ cond b [] (32 ∷ trim_right path)) (blank_false path l right)
    ∙ ap (λ t. kind ++ (32 ∷ t)) right in (
      token_first (codes "egtpath") (kind ++ (32 ∷ path)) 32 refl refl,
      sym (ap first_token more ∙ token_first kind path 32 k refl),
      sym (ap rest_after_token more ∙ token_rest kind path 32 k refl ∙ both),
      l,
    )

path_text : (kind path : List ℕ) → codes "egtpath " ++ kind ++ codes " " ++ path ≡ codes "egtpath" ++ (32 ∷ (kind ++ (32 ∷ path)))
path_text kind path = simp append_assoc

path_again : (line kind path : List ℕ) → kind ≡ first_token (rest_after_token line) → path ≡ rest_after_token (rest_after_token line) → 0 < length path → SpellsIfaceMsg (codes "egtpath " ++ kind ++ codes " " ++ path) (says.EgtPath kind path)
path_again line kind path e f l =
    let long : 0 < length (rest_after_token (rest_after_token line)) = subst (λ (p : List ℕ). 0 < length p) f l in
    let token : is_token kind ≡ true = ap is_token e ∙ path_token (rest_after_token line) (first_token (rest_after_token line)) refl long in
    let right : trim_right path ≡ path = ap trim_right f ∙ right_trimmed (rest_after_token line) ∙ sym f in
    let both : trimmed path ≡ path = ap trimmed f ∙ rest_again (rest_after_token line) ∙ sym f in
    subst (λ (t : List ℕ). SpellsIfaceMsg t (says.EgtPath kind path)) (sym (path_text kind path)) (path_by kind path token l right both)

-- NAME AND VALUE

left_shrinks : (xs : List ℕ) (x : ℕ) → trim_left xs ≡ x ∷ xs → ⊥
left_shrinks xs x h = omega (arith, trim_left_length xs, ap length h)

left_no_by : (p : ℕ → Bool) (white : Bool) (x : ℕ) (xs : List ℕ) → list_all p (x ∷ xs) ≡ true → list_all p (trim_left xs) ≡ true → list_all p (cond white (trim_left xs) (x ∷ xs)) ≡ true
left_no_by p true x xs h k = k
left_no_by p false x xs h k = h

right_no_by : (p : ℕ → Bool) (blank : Bool) (x : ℕ) (xs : List ℕ) → p x ≡ true → list_all p xs ≡ true → list_all p (cond blank [] (x ∷ xs)) ≡ true
right_no_by p true x xs h k = refl
right_no_by p false x xs h k = rw (h, k) refl

before_no_by : (k : ℕ) (b : Bool) (x : ℕ) (xs : List ℕ) → eqb x k ≡ b → list_all (λ c. not (eqb c k)) (take (position_or_len (λ c. eqb c k) xs) xs) ≡ true → list_all (λ c. not (eqb c k)) (take (cond (not b) (1 + position_or_len (λ c. eqb c k) xs) 0) (x ∷ xs)) ≡ true
before_no_by k true x xs e h = refl
before_no_by k false x xs e h = rw (add_comm 1 (position_or_len (λ c. eqb c k) xs), add-one) (rw (e, h) refl)

left_name_by : (white : Bool) (x : ℕ) (xs more : List ℕ) → is_white x ≡ white → cond white (trim_left xs) (x ∷ xs) ≡ x ∷ xs → cond white (trim_left (xs ++ more)) (x ∷ (xs ++ more)) ≡ x ∷ (xs ++ more)
left_name_by true x xs more e h = absurd (left_shrinks xs x h)
left_name_by false x xs more e h = refl

left_no : (p : ℕ → Bool) (xs : List ℕ) → list_all p xs ≡ true → list_all p (trim_left xs) ≡ true
left_no p [] h = refl
left_no p (x ∷ xs) h = left_no_by p (is_white x) x xs h (left_no p xs (and_parts (p x) (list_all p xs) h).1)

right_no : (p : ℕ → Bool) (xs : List ℕ) → list_all p xs ≡ true → list_all p (trim_right xs) ≡ true
right_no p [] h = refl
right_no p (x ∷ xs) h = let both = and_parts (p x) (list_all p xs) h in right_no_by p (is_blank (x ∷ xs)) x (trim_right xs) both.0 (right_no p xs both.1)

before_no : (k : ℕ) (xs : List ℕ) → list_all (λ b. not (eqb b k)) (take (position_or_len (λ b. eqb b k) xs) xs) ≡ true
before_no k [] = refl
before_no k (x ∷ xs) = before_no_by k (eqb x k) x xs refl (before_no k xs)

cut_no : (k : ℕ) (xs : List ℕ) (at : ℕ) → position (λ b. eqb b k) xs ≡ Some at → list_all (λ b. not (eqb b k)) (take at xs) ≡ true
cut_no k xs at h =
    let c = cond_some (ltb (position_or_len (λ b. eqb b k) xs) (length xs)) (position_or_len (λ b. eqb b k) xs) at h in
    subst (λ (n : ℕ). list_all (λ b. not (eqb b k)) (take n xs) ≡ true) c.1 (before_no k xs)

-- the value after the first `=` of a trimmed text is trimmed at its end
value_right : (prefix value : List ℕ) → trim_right (prefix ++ (61 ∷ value)) ≡ prefix ++ (61 ∷ value) → trim_right (61 ∷ value) ≡ 61 ∷ value
value_right prefix value h = append_cancel_left prefix (trim_right (61 ∷ value)) (61 ∷ value) (sym (right_over prefix (61 ∷ value) refl) ∙ h)

trimmed_left : (name : List ℕ) → trimmed name ≡ name → trim_left name ≡ name
trimmed_left name h = sym (ap trim_left h) ∙ trim_left_trimmed name ∙ h

-- a trimmed text that is not empty stays so at its start, whatever follows
left_name : (name more : List ℕ) → 0 < length name → trim_left name ≡ name → trim_left (name ++ more) ≡ name ++ more
left_name [] more l h = absurd (omega arith)
left_name (x ∷ xs) more l h = left_name_by (is_white x) x xs more refl h

setting_rest : (name value : List ℕ) → 0 < length name → trimmed name ≡ name → trim_right (61 ∷ value) ≡ 61 ∷ value → rest_after_token (codes "option" ++ (32 ∷ (name ++ (61 ∷ value)))) ≡ name ++ (61 ∷ value)
setting_rest name value l t v =
    token_rest (codes "option") (name ++ (61 ∷ value)) 32 refl refl
    ∙ ap trim_right (left_name name (61 ∷ value) l (trimmed_left name t))
    ∙ right_over name (61 ∷ value) refl
    ∙ ap (λ w. name ++ w) v

setting_kept : (name value : List ℕ) → 0 < length name → trimmed name ≡ name → list_all (λ b. not (eqb b 61)) name ≡ true → HasSetting (name ++ (61 ∷ value)) name (Some value)
setting_kept name value l t clean =
    let at = cut_position 61 name value clean in (
      l,
      sym (ap (λ o. name_at o (name ++ (61 ∷ value))) at ∙ ap trimmed (take-append_seam name (61 ∷ value)) ∙ t),
      sym (ap (λ o. value_at o (name ++ (61 ∷ value))) at ∙ ap (λ w. Some w) (after_cut 61 name value)),
    )

option_text : (name value : List ℕ) → codes "option " ++ name ++ (61 ∷ value) ≡ codes "option" ++ (32 ∷ (name ++ (61 ∷ value)))
option_text name value = simp append_assoc

valued : (text name value : List ℕ) (at : ℕ) → position is_equals text ≡ Some at → trim_right text ≡ text → 0 < length name → name ≡ trimmed (take at text) → value ≡ drop (at + 1) text → SpellsIfaceMsg (codes "option " ++ name ++ (61 ∷ value)) (says.SetOption name (Some value))
valued text name value at e right l n v =
    let parts : text ≡ take at text ++ (61 ∷ value) = at_byte 61 text at e ∙ ap (λ w. take at text ++ (61 ∷ w)) (sym v) in
    let tail : trim_right (61 ∷ value) ≡ 61 ∷ value = value_right (take at text) value (sym (ap trim_right parts) ∙ right ∙ parts) in
    let trim : trimmed name ≡ name = ap trimmed n ∙ trimmed_again (take at text) ∙ sym n in
    let none : list_all (λ b. not (eqb b 61)) name ≡ true = ap (list_all (λ b. not (eqb b 61))) n ∙ right_no (λ b. not (eqb b 61)) (trim_left (take at text)) (left_no (λ b. not (eqb b 61)) (take at text) (cut_no 61 text at e)) in
    let more = setting_rest name value l trim tail in
    subst (λ (t : List ℕ). SpellsIfaceMsg t (says.SetOption name (Some value))) (sym (option_text name value))
    (token_first (codes "option") (name ++ (61 ∷ value)) 32 refl refl, subst (λ (r : List ℕ). HasSetting r name (Some value)) (sym more) (setting_kept name value l trim none))

bare_option : (line name : List ℕ) → name ≡ rest_after_token line → HasSetting (rest_after_token line) name None → SpellsIfaceMsg (codes "option " ++ name ++ []) (says.SetOption name None)
bare_option line name e h =
    let more : rest_after_token (codes "option" ++ (32 ∷ name)) ≡ rest_after_token line = token_rest (codes "option") name 32 refl refl ∙ ap trimmed e ∙ rest_again line in
    subst (λ (t : List ℕ). SpellsIfaceMsg t (says.SetOption name None)) (sym (append-nil (codes "option " ++ name)))
    (token_first (codes "option") name 32 refl refl, subst (λ (r : List ℕ). HasSetting r name None) (sym more) h)

option_by : (line name : List ℕ) (value : Option (List ℕ)) (o : Option ℕ) → position is_equals (rest_after_token line) ≡ o → 0 < length name → name ≡ name_at o (rest_after_token line) → value ≡ value_at o (rest_after_token line) → HasSetting (rest_after_token line) name value → SpellsIfaceMsg (codes "option " ++ name ++ option_value_text value) (says.SetOption name value)
option_by line name None None e l n v h = bare_option line name n h
option_by line name (Some value) None e l n v h = absurd (cc)
option_by line name None (Some at) e l n v h = absurd (cc)
option_by line name (Some value) (Some at) e l n v h = let same : value ≡ drop (at + 1) (rest_after_token line) = cc in valued (rest_after_token line) name value at e (right_trimmed line) l n same

option_again : (line name : List ℕ) (value : Option (List ℕ)) → HasSetting (rest_after_token line) name value → SpellsIfaceMsg (codes "option " ++ name ++ option_value_text value) (says.SetOption name value)
option_again line name value h = option_by line name value (position is_equals (rest_after_token line)) refl h.0 h.1 h.2 h

-- ALL

pub again : (line : List ℕ) (m : IfaceMsg) → SpellsIfaceMsg line m → SpellsIfaceMsg (message_text m) m
again line (says.Ignored text) h = ignored_again line text h.0 h.1
again line (says.Protover n) h = (number_again (codes "protover") line n refl h.0, h.1)
again line (says.Ping n) h = number_again (codes "ping") line n refl h
again line (says.UserMove m) h = move_again line m h
again line (says.SetBoard text) h = board_again line text h.1
again line (says.Level mps base inc) h = level_again line mps base inc h
again line (says.St ms) h = seconds_again (codes "st") line ms refl h
again line (says.Sd n) h = number_again (codes "sd") line n refl h
again line (says.Time n) h = centis_again (codes "time") line n refl h
again line (says.Otim n) h = centis_again (codes "otim") line n refl h
again line (says.SetOption name value) h = option_again line name value h.1
again line (says.Memory n) h = number_again (codes "memory") line n refl h
again line (says.Cores n) h = number_again (codes "cores") line n refl h
again line (says.EgtPath kind path) h = path_again line kind path h.1 h.2 h.3
again line m h = refl
