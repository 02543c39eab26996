-- Numbers and moves as they are written: what is read so is written so, and the other way round.
use Rattle.std.proofs.Common.{◌≡◌, ℕ, zero, suc, ◌^◌, ◌<◌, ◌≤◌, List, true, ltb, cond, length, get_or, Some, None, refl, sym, ap, ◌∙◌, subst, arith}
use Rattle.std.proofs.lemmas.Bool.Decides.{nat_tests}
use Rattle.std.proofs.lemmas.Option.{cond_some}
use Rattle.std.proofs.lemmas.Slice.Eq.{bytes_eq-Decides}
use Rattle.std.proofs.lemmas.Fmt.{decimal-digits_value, decimal_is_IsNumeral, first_decimal, length-decimal-le, decimal_digit}
use Rattle.std.proofs.lemmas.Str.Parse.{IsNumeralModel}
use Rattle.std.specs.Option.{option_and_then}
use Rattle.std.specs.List.{list_all}
use Rattle.std.specs.Fmt.{decimal}
use Rattle.std.specs.Char.{is_ascii_digit}
use Rattle.std.specs.Str.{bytes_eq}
use Rattle.std.specs.Str.Parse.{digits_value, AllDigits}
use Rattle.chess_board.specs.declared.board.Move.{Move}
use Rattle.chess_board.specs.Text.{text_of_move}
use Rattle.chess_board.proofs.Texts.{reads-back}
use Rattle.protocol_tokens.proofs.Written.{decimal_digits}
use Rattle.protocol_tokens.proofs.Sizes.{all_digits}
use Rattle.chess_board.specs.Spelling.{move_spelled_by}
use Rattle.cecp_lines.specs.Replies.{IsWritable}
use Rattle.cecp_engine_lines.specs.ReplyReading.{is_plain, plain_number, of_64_bits, number_in_64_bits, move_if_same_text, written_move}
use Rattle.chess_board.proofs.Spelled.{spells_move, read_officer}
use Rattle.cecp_lines.proofs.Spellings.{bind_some}

model : IsNumeralModel (AllDigits 10) (digits_value 10)
model = record { to = λ ds h. h; from = λ ds h. h; same = λ ds h. refl }

-- the tests of plain digits
plain_tests : (text : List ℕ) → is_plain text ≡ true → (0 < length text) × (get_or text 0 0 ≡ 48 → length text ≡ 1) × (list_all is_ascii_digit text ≡ true)
plain_tests text h = (grind (arith, nat_tests), grind (arith, nat_tests), grind (arith, nat_tests))

pub written_is : (text : List ℕ) (n : ℕ) → number_in_64_bits text ≡ Some n → (text ≡ decimal n) × (n < 2 ^ 64)
written_is text n h =
    let b = bind_some of_64_bits (plain_number text) n h in
    let small = cond_some (ltb b.0 (2 ^ 64)) b.0 n b.2 in
    let value = cond_some (is_plain text) (digits_value 10 text) b.0 b.1 in
    let tests = plain_tests text value.0 in
    let fits : digits_value 10 text < 2 ^ 64 = grind (arith, nat_tests, small.0, value.1) in
    let back = decimal-digits_value model text (all_digits text tests.2) tests.0 tests.1 fits in
    (sym back ∙ ap decimal (value.1 ∙ small.1), (let same = value.1 ∙ small.1 in omega arith))

zero_first : (n : ℕ) → n < 2 ^ 64 → get_or (decimal n) 0 0 ≡ 48 → length (decimal n) ≡ 1
zero_first zero h e = ap length (decimal_digit 0 (omega arith))
zero_first (suc k) h e = absurd (omega (arith, first_decimal (suc k) (omega arith) h))

plain_by : (ds : List ℕ) → 0 < length ds → length ds ≤ 20 → (get_or ds 0 0 ≡ 48 → length ds ≡ 1) → list_all is_ascii_digit ds ≡ true → is_plain ds ≡ true
plain_by ds a b c d = grind (arith, nat_tests)

pub decimal_written : (n : ℕ) → n < 2 ^ 64 → number_in_64_bits (decimal n) ≡ Some n
decimal_written n h =
    let is = decimal_is_IsNumeral n h in
    let good = plain_by (decimal n) is.0.0 (length-decimal-le 20 n (omega arith) (omega arith) h) (zero_first n h) (decimal_digits n h) in
    let low : ltb n (2 ^ 64) ≡ true = grind (arith, nat_tests) in
    ap (λ b. option_and_then of_64_bits (cond b (Some (digits_value 10 (decimal n))) None)) good
    ∙ ap of_64_bits is.1
    ∙ ap (λ b. cond b (Some n) None) low

pub written_move_is : (text : List ℕ) (m : Move) → written_move text ≡ Some m → (text ≡ text_of_move m) × IsWritable m
written_move_is text m h =
    let b = bind_some (move_if_same_text text) (move_spelled_by text) m h in
    let k = cond_some (bytes_eq (text_of_move b.0) text) b.0 m b.2 in
    let same : text_of_move b.0 ≡ text = (bytes_eq-Decides (text_of_move b.0) text).0 k.0 in
    (sym same ∙ ap text_of_move k.1, subst IsWritable k.1 (read_officer text b.0 b.1))

pub move_written : (m : Move) → IsWritable m → written_move (text_of_move m) ≡ Some m
move_written m h =
    ap (option_and_then (move_if_same_text (text_of_move m))) (spells_move (text_of_move m) m (reads-back m h))
    ∙ ap (λ b. cond b (Some m) None) ((bytes_eq-Decides (text_of_move m) (text_of_move m)).1 refl)
