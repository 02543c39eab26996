-- Each line to an engine spells its message.
use Rattle.std.proofs.Common.{◌≡◌, ℕ, ◌+◌, ◌*◌, ◌/◌, ◌%◌, ◌^◌, ◌<◌, ◌≤◌, List, [], ◌∷◌, ◌++◌, Bool, true, false, not, eqb, leb, cond, length, take, drop, Some, None, Ok, refl, sym, ap, ◌∙◌, subst, inl, inr, arith, append_assoc}
use Rattle.std.specs.Prelude.{codes, pos}
use Rattle.std.specs.Option.{option_map}
use Rattle.std.specs.List.{list_all}
use Rattle.std.specs.Fmt.{decimal}
use Rattle.std.specs.Char.{is_ascii_digit}
use Rattle.std.proofs.lemmas.Bool.Decides.{nat_tests}
use Rattle.std.proofs.Math.Seq.{take-append_seam}
use Rattle.chess_board.specs.declared.board.Move.{Move}
use Rattle.chess_board.specs.Position.{Position}
use Rattle.chess_board.specs.Text.{text_of_move, IsOfficer}
use Rattle.chess_board.proofs.Texts.{reads-back}
use Rattle.fen_text.specs.Fen.{position_of, position_of_fields}
use Rattle.fen_text.specs.Written.{position_fen, IsNormal}
use Rattle.fen_text.proofs.Back.{reads_back}
use Rattle.game_record.specs.Game.{Ply, with_ply}
use Rattle.game_record.specs.Line.{ply_text}
use Rattle.protocol_tokens.specs.Tokens.{is_white, is_token, first_token, rest_after_token, trimmed, tokens}
use Rattle.protocol_tokens.specs.Numbers.{centis, digits, number, seconds, seconds_at, milliseconds, is_point}
use Rattle.protocol_tokens.proofs.Runs.{token_first, token_rest, all_of}
use Rattle.protocol_tokens.proofs.TokenLists.{tokens_more, tokens_alone, tokens_trimmed}
use Rattle.protocol_tokens.proofs.Written.{decimal_token, decimal_digits, digits_decimal, number_decimal, centis_decimal_read, one_digit}
use Rattle.uci_lines.proofs.MoveTokens.{move_token}
use Rattle.cecp_lines.specs.Words.{is_ignored}
use Rattle.cecp_lines.specs.Messages.{IfaceMsg}
use Rattle.cecp_lines.specs.Messages as says
use Rattle.cecp_lines.specs.Reading.{base_at, base_time, minutes_seconds, HasMove, SpellsIfaceMsg}
use Rattle.cecp_engine_lines.proofs.Rereads.{cut_position, no_position, after_cut}
use Rattle.cecp_engine_lines.proofs.Spoken.{one_word, black_over, longer_token}
use Rattle.driver_state_machine.specs.Lines.{DownLine, XBoard, Protover, Quit, New, Force, Post, SetBoard, Played, St, Level, Time, Otim, Sd, Go, Analyze, OrderMoveNow, Exit, Ping, Accepted, Rejected, driver_move_text, two_digits}
use Rattle.cecp_driver.specs.Said.{EngineLineCanBeRead}
use Rattle.judge_and_driver_laws.proofs.Driver.Fed.{bare_fed}
use Rattle.judge_and_driver_laws.specs.Driver.Wire.{IsCecp, LinesAreCecp, game_at_position, text_without_feed}

-- MOVES

pub move_spelled : (has_usermove : Bool) (m : Move) → IsOfficer m.promotion → HasMove (driver_move_text has_usermove (text_of_move m)) m
move_spelled true m o =
    inl (text_of_move m, tokens_more (codes "usermove") (text_of_move m) 32 refl refl ∙ ap (λ ts. codes "usermove" ∷ ts) (tokens_alone (text_of_move m) (move_token m)), reads-back m o)
move_spelled false m o = inr (text_of_move m, tokens_alone (text_of_move m) (move_token m), reads-back m o)

played_cecp : (has_usermove : Bool) (m : Ply) → EngineLineCanBeRead (Played has_usermove m) → (msg : IfaceMsg) × IsCecp (Played has_usermove m) msg
played_cecp has_usermove m s =
    let move = s.0 in
    let same : text_of_move move ≡ ply_text m = ap ply_text s.1.0 in (
      says.UserMove move,
      record {
        whole = refl;
        no_feed = bare_fed (Played has_usermove m) s;
        spelled = subst (λ (t : List ℕ). HasMove (driver_move_text has_usermove t) move) same (move_spelled has_usermove move s.1.1);
        is = (move, (s.1.0, refl));
        sets = λ g. ap (with_ply g) (sym s.1.0);
      },
    )

-- NUMBERS

no_byte : (k : ℕ) → ((c : ℕ) → is_ascii_digit c ≡ true → not (eqb c k) ≡ true) → (n : ℕ) → n < 2 ^ 64 → list_all (λ b. not (eqb b k)) (decimal n) ≡ true
no_byte k h n small = all_of is_ascii_digit (λ b. not (eqb b k)) h (decimal n) (decimal_digits n small)

not_colon : (c : ℕ) → is_ascii_digit c ≡ true → not (eqb c 58) ≡ true
not_colon c h = grind (arith, nat_tests)

not_point : (c : ℕ) → is_ascii_digit c ≡ true → not (eqb c 46) ≡ true
not_point c h = grind (arith, nat_tests)

-- whole seconds
seconds_whole : (n : ℕ) → n < 10 ^ 6 → seconds (decimal n) ≡ Some (n * 1000)
seconds_whole n h =
    ap (λ o. seconds_at o (decimal n)) (no_position 46 (decimal n) (no_byte 46 not_point n (omega arith)))
    ∙ ap (λ o. milliseconds o (Some 0)) (digits_decimal 6 n (omega arith) (omega arith) h)
    ∙ ap (λ k. Some k) (omega arith)

two_read : (a b : ℕ) → a < 10 → b < 10 → digits 2 ((48 + a) ∷ (48 + b) ∷ []) ≡ Some (a * 10 + b)
two_read a b ha hb =
    let x = one_digit a ha in
    let y = one_digit b hb in
    rw (x.0, y.0, x.1, y.1) (ap (λ k. Some k) (omega arith))

base_with : (m s : ℕ) → m < 10 ^ 4 → s ≤ 59 → base_time (decimal m ++ (58 ∷ two_digits s)) ≡ Some (m * 60000 + s * 1000)
base_with m s h k =
    let le : leb s 59 ≡ true = grind (arith, nat_tests) in
    let two : digits 2 (two_digits s) ≡ Some s = two_read (s / 10) (s % 10) (omega arith) (omega arith) ∙ ap (λ n. Some n) (omega arith) in
    ap (λ o. base_at o (decimal m ++ (58 ∷ two_digits s))) (cut_position 58 (decimal m) (two_digits s) (no_byte 58 not_colon m (omega arith)))
    ∙ ap (λ t. minutes_seconds (digits 4 t) (digits 2 (drop (length (decimal m) + 1) (decimal m ++ (58 ∷ two_digits s))))) (take-append_seam (decimal m) (58 ∷ two_digits s))
    ∙ ap (λ t. minutes_seconds (digits 4 (decimal m)) (digits 2 t)) (after_cut 58 (decimal m) (two_digits s))
    ∙ ap (λ o. minutes_seconds o (digits 2 (two_digits s))) (digits_decimal 4 m (omega arith) (omega arith) h)
    ∙ ap (λ o. minutes_seconds (Some m) o) two
    ∙ ap (λ b. cond b (Some (m * 60000 + s * 1000)) None) le

base_read : (s : ℕ) → s < 60 * 10 ^ 4 → base_time (decimal (s / 60) ++ (58 ∷ two_digits (s % 60))) ≡ Some (s * 1000)
base_read s h = base_with (s / 60) (s % 60) (omega arith) (omega arith) ∙ ap (λ k. Some k) (omega arith)

two_black : (n : ℕ) → list_all (λ b. not (is_white b)) (58 ∷ two_digits n) ≡ true
two_black n =
    let a = black_over (48 + n / 10) (omega arith) in
    let b = black_over (48 + n % 10) (omega arith) in
    rw (a, b) refl

base_token : (s : ℕ) → s < 60 * 10 ^ 4 → is_token (decimal (s / 60) ++ (58 ∷ two_digits (s % 60))) ≡ true
base_token s h = longer_token (decimal (s / 60)) (58 ∷ two_digits (s % 60)) (decimal_token (s / 60) (omega arith)) (two_black (s % 60))

level_words : (word a b c : List ℕ) → is_token word ≡ true → is_token a ≡ true → is_token b ≡ true → is_token c ≡ true → tokens (word ++ (32 ∷ (a ++ (32 ∷ (b ++ (32 ∷ c)))))) ≡ word ∷ a ∷ b ∷ c ∷ []
level_words word a b c hw ha hb hc =
    tokens_more word (a ++ (32 ∷ (b ++ (32 ∷ c)))) 32 hw refl
    ∙ ap (λ ts. word ∷ ts) (tokens_more a (b ++ (32 ∷ c)) 32 ha refl
    ∙ ap (λ ts. a ∷ ts) (tokens_more b c 32 hb refl ∙ ap (λ ts. b ∷ ts) (tokens_alone c hc)))

level_text : (a b c d : List ℕ) → codes "level " ++ a ++ codes " " ++ b ++ codes ":" ++ c ++ codes " " ++ d ≡ codes "level" ++ (32 ∷ (a ++ (32 ∷ ((b ++ (58 ∷ c)) ++ (32 ∷ d)))))
level_text a b c d = simp append_assoc

level_whole : (a b c d : List ℕ) → codes "level " ++ a ++ codes " " ++ b ++ codes ":" ++ c ++ codes " " ++ d ++ 10 ∷ [] ≡ (codes "level " ++ a ++ codes " " ++ b ++ codes ":" ++ c ++ codes " " ++ d) ++ 10 ∷ []
level_whole a b c d = simp append_assoc

level_cecp : (k s i : ℕ) → EngineLineCanBeRead (Level k s i) → (msg : IfaceMsg) × IsCecp (Level k s i) msg
level_cecp k s i h = (
  says.Level k (s * 1000) (i * 1000),
  record {
    whole = level_whole (decimal k) (decimal (s / 60)) (two_digits (s % 60)) (decimal i);
    no_feed = bare_fed (Level k s i) h;
    spelled = (
      decimal k,
      decimal (s / 60) ++ (58 ∷ two_digits (s % 60)),
      decimal i,
      ap tokens (level_text (decimal k) (decimal (s / 60)) (two_digits (s % 60)) (decimal i))
          ∙ level_words (codes "level") (decimal k) (decimal (s / 60) ++ (58 ∷ two_digits (s % 60))) (decimal i) refl (decimal_token k (omega (arith, h.0))) (base_token s h.1) (decimal_token i (omega (arith, h.2))),
      digits_decimal 4 k (omega arith) (omega arith) h.0,
      base_read s h.1,
      seconds_whole i h.2,
    );
    is = refl;
    sets = λ g. refl;
  },
)

-- A POSITION

board_read : (p : Position) → IsNormal p → position_of (trimmed (position_fen p)) ≡ Ok p
unfolding position_of
board_read p h = ap (λ (ts : List (List ℕ)). position_of_fields ts) (tokens_trimmed (position_fen p)) ∙ reads_back p h

board_cecp : (p : Position) → IsNormal p → (msg : IfaceMsg) × IsCecp (SetBoard p) msg
board_cecp p h =
    let read = board_read p h in (
      says.SetBoard (trimmed (position_fen p)),
      record {
        whole = refl;
        no_feed = bare_fed (SetBoard p) h;
        spelled = (token_first (codes "setboard") (position_fen p) 32 refl refl, sym (token_rest (codes "setboard") (position_fen p) 32 refl refl));
        is = (trimmed (position_fen p), (refl, read));
        sets = λ g. sym (ap (game_at_position g) read);
      },
    )

-- ALL

pub cecp : LinesAreCecp
cecp XBoard s = (says.Ignored (codes "xboard"), record { whole = refl; no_feed = bare_fed XBoard s; spelled = (refl, refl); is = (codes "xboard", refl); sets = λ g. refl })
cecp Protover s = (says.Protover 2, record { whole = refl; no_feed = bare_fed Protover s; spelled = (one_word number (codes "protover") (codes "2") 2 refl refl refl, omega arith); is = refl; sets = λ g. refl })
cecp Quit s = (says.Quit, record { whole = refl; no_feed = bare_fed Quit s; spelled = refl; is = refl; sets = λ g. refl })
cecp New s = (says.New, record { whole = refl; no_feed = bare_fed New s; spelled = refl; is = refl; sets = λ g. refl })
cecp Force s = (says.Force, record { whole = refl; no_feed = bare_fed Force s; spelled = refl; is = refl; sets = λ g. refl })
cecp Post s = (says.Post, record { whole = refl; no_feed = bare_fed Post s; spelled = refl; is = refl; sets = λ g. refl })
cecp (SetBoard p) s = board_cecp p s
cecp (Played has_usermove m) s = played_cecp has_usermove m s
cecp (St n) s = (
  says.St (n * 1000),
  record { whole = refl; no_feed = bare_fed (St n) s; spelled = one_word seconds (codes "st") (decimal n) (n * 1000) refl (decimal_token n (omega (arith, s))) (seconds_whole n s); is = refl; sets = λ g. refl },
)
cecp (Level k n i) s = level_cecp k n i s
cecp (Time n) s = (
  says.Time (pos n),
  record { whole = refl; no_feed = bare_fed (Time n) s; spelled = one_word centis (codes "time") (decimal n) (pos n) refl (decimal_token n (omega (arith, s))) (centis_decimal_read (pos n) s); is = refl; sets = λ g. refl },
)
cecp (Otim n) s = (
  says.Otim (pos n),
  record { whole = refl; no_feed = bare_fed (Otim n) s; spelled = one_word centis (codes "otim") (decimal n) (pos n) refl (decimal_token n (omega (arith, s))) (centis_decimal_read (pos n) s); is = refl; sets = λ g. refl },
)
cecp (Sd n) s = (
  says.Sd n,
  record { whole = refl; no_feed = bare_fed (Sd n) s; spelled = one_word number (codes "sd") (decimal n) n refl (decimal_token n (omega (arith, s))) (number_decimal n s); is = refl; sets = λ g. refl },
)
cecp Go s = (says.Go, record { whole = refl; no_feed = bare_fed Go s; spelled = refl; is = refl; sets = λ g. refl })
cecp Analyze s = (says.Analyze, record { whole = refl; no_feed = bare_fed Analyze s; spelled = refl; is = refl; sets = λ g. refl })
cecp OrderMoveNow s = (says.MoveNow, record { whole = refl; no_feed = bare_fed OrderMoveNow s; spelled = refl; is = refl; sets = λ g. refl })
cecp Exit s = (says.Exit, record { whole = refl; no_feed = bare_fed Exit s; spelled = refl; is = refl; sets = λ g. refl })
cecp (Ping n) s = (
  says.Ping n,
  record { whole = refl; no_feed = bare_fed (Ping n) s; spelled = one_word number (codes "ping") (decimal n) n refl (decimal_token n (omega (arith, s))) (number_decimal n s); is = refl; sets = λ g. refl },
)
cecp (Accepted name) s = (
  says.Ignored (trimmed (codes "accepted " ++ name)),
  record { whole = refl; no_feed = bare_fed (Accepted name) s; spelled = (ap is_ignored (token_first (codes "accepted") name 32 refl refl), refl); is = (trimmed (codes "accepted " ++ name), refl); sets = λ g. refl },
)
cecp (Rejected name) s = (
  says.Ignored (trimmed (codes "rejected " ++ name)),
  record { whole = refl; no_feed = bare_fed (Rejected name) s; spelled = (ap is_ignored (token_first (codes "rejected") name 32 refl refl), refl); is = (trimmed (codes "rejected " ++ name), refl); sets = λ g. refl },
)
