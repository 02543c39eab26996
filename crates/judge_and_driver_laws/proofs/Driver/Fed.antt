-- A line to an engine has no line feed.
use Rattle.std.proofs.Common.{◌≡◌, ℕ, ◌+◌, ◌<◌, ◌≤◌, ◌/◌, ◌%◌, ◌^◌, List, [], ◌∷◌, ◌++◌, Bool, true, false, not, ◌||◌, nat_eq, ltb, length, decimal, Option, Some, None, refl, ap, subst, ◌∙◌, arith}
use Rattle.std.specs.Prelude.{codes}
use Rattle.std.specs.List.{AllByRecursion, join_with_byte, list_all}
use Rattle.std.specs.Char.{is_ascii_digit}
use Rattle.std.proofs.lemmas.Bool.{and_parts, or_from}
use Rattle.std.proofs.lemmas.Bool.Decides.{nat_tests}
use Rattle.std.proofs.lemmas.List.Folds.{list_any-append}
use Rattle.line_io.specs.Event.{has_feed}
use Rattle.line_io.specs.Lines.{line_feed}
use Rattle.chess_board.specs.declared.board.Kind.{Kind}
use Rattle.chess_board.specs.declared.board.Kind.TheVariants.{Pawn, Knight, Bishop, Rook, Queen, King}
use Rattle.chess_board.specs.declared.board.Move.{Move}
use Rattle.chess_board.specs.Board.{file_of, rank_of_square}
use Rattle.chess_board.specs.Position.{Position}
use Rattle.chess_board.specs.Play.{IsPosition}
use Rattle.chess_board.specs.Text.{promotion_text, text_of_move}
use Rattle.fen_text.specs.Written.{board_text, en_passant_text, rights_text, side_text, position_fen}
use Rattle.fen_text.proofs.Boards.{word-board}
use Rattle.fen_text.proofs.Cut.{Above}
use Rattle.fen_text.proofs.Others.{word-passant, word-rights, word-side}
use Rattle.game_record.specs.Line.{ply_text}
use Rattle.protocol_tokens.proofs.Written.{decimal_digits}
use Rattle.driver_state_machine.specs.Lines.{DownLine, XBoard, Protover, Quit, New, Force, Post, SetBoard, Played, St, Level, Time, Otim, Sd, Go, Analyze, OrderMoveNow, Exit, Ping, Accepted, Rejected, driver_move_text, two_digits}
use Rattle.cecp_driver.specs.Said.{EngineLineCanBeRead}
use Rattle.judge_and_driver_laws.specs.Driver.Wire.{text_without_feed}

-- BYTES

pub both : (a b : List ℕ) → has_feed a ≡ false → has_feed b ≡ false → has_feed (a ++ b) ≡ false
both a b h k = list_any-append (λ c. nat_eq c line_feed) a b ∙ or_from (has_feed a) (has_feed b) h k

high : (n k : ℕ) → 10 < n → nat_eq (n + k) 10 ≡ false
high n k h = grind (arith, nat_tests)

digit_fed : (c : ℕ) → is_ascii_digit c ≡ true → nat_eq c 10 ≡ false
digit_fed c h = grind (arith, nat_tests)

digits_fed : (ds : List ℕ) → list_all is_ascii_digit ds ≡ true → has_feed ds ≡ false
digits_fed [] h = refl
digits_fed (d ∷ ds) h = let p = and_parts (is_ascii_digit d) (list_all is_ascii_digit ds) h in or_from (nat_eq d 10) (has_feed ds) (digit_fed d p.0) (digits_fed ds p.1)

number_fed : (n : ℕ) → n < 2 ^ 64 → has_feed (decimal n) ≡ false
number_fed n h = digits_fed (decimal n) (decimal_digits n h)

two_fed : (n : ℕ) → has_feed (two_digits n) ≡ false
two_fed n = or_from (nat_eq (48 + n / 10) 10) (has_feed ((48 + n % 10) ∷ [])) (high 48 (n / 10) (omega arith)) (or_from (nat_eq (48 + n % 10) 10) false (high 48 (n % 10) (omega arith)) refl)

-- A POSITION

above_fed : (w : List ℕ) → Above 32 w → has_feed w ≡ false
above_fed [] a = refl
above_fed (c ∷ cs) a = let h : 32 < c = a.0 in let b : nat_eq c 10 ≡ false = grind (arith, nat_tests) in or_from (nat_eq c 10) (has_feed cs) b (above_fed cs a.1)

joined_fed : (w : List ℕ) (ws : List (List ℕ)) → AllByRecursion (λ t. has_feed t ≡ false) (w ∷ ws) → has_feed (join_with_byte 32 (w ∷ ws)) ≡ false
joined_fed w [] a = a.0
joined_fed w (v ∷ ws) a = both w _ a.0 (both (32 ∷ []) (join_with_byte 32 (v ∷ ws)) refl (joined_fed v ws a.1))

written_fed : (p : Position) → IsPosition p → has_feed (position_fen p) ≡ false
unfolding position_fen
written_fed p h =
    joined_fed (board_text p.pieces) (side_text p.side ∷ rights_text p.rights ∷ en_passant_text p.passant ∷ decimal p.half ∷ decimal p.full ∷ []) (
      above_fed (board_text p.pieces) (word-board p.pieces).1,
      (
        above_fed (side_text p.side) (word-side p.side).1,
        (
          above_fed (rights_text p.rights) (word-rights p.rights).1,
          (above_fed (en_passant_text p.passant) (word-passant p.passant).1, (number_fed p.half (omega (arith, h.half)), (number_fed p.full (omega (arith, h.full.1)), tt))),
        ),
      ),
    )

-- A MOVE

promotion_fed : (p : Option Kind) → has_feed (promotion_text p) ≡ false
promotion_fed None = refl
promotion_fed (Some Pawn) = refl
promotion_fed (Some King) = refl
promotion_fed (Some Queen) = refl
promotion_fed (Some Rook) = refl
promotion_fed (Some Bishop) = refl
promotion_fed (Some Knight) = refl

pub move_fed : (m : Move) → has_feed (text_of_move m) ≡ false
move_fed m =
    rw (high 97 (file_of m.from.index) (omega arith), high 49 (rank_of_square m.from.index) (omega arith), high 97 (file_of m.to.index) (omega arith), high 49 (rank_of_square m.to.index) (omega arith), promotion_fed m.promotion) refl

played_fed : (has_usermove : Bool) (text : List ℕ) → has_feed text ≡ false → has_feed (driver_move_text has_usermove text) ≡ false
played_fed true text h = both (codes "usermove ") text refl h
played_fed false text h = h

-- A LINE

level_fed : (k s i : ℕ) → EngineLineCanBeRead (Level k s i) → has_feed (text_without_feed (Level k s i)) ≡ false
level_fed k s i h =
    let a : List ℕ = codes "level " ++ decimal k in
    let b : List ℕ = (a ++ codes " ") ++ decimal (s / 60) in
    let c : List ℕ = (b ++ codes ":") ++ two_digits (s % 60) in
    let moves : has_feed a ≡ false = both (codes "level ") (decimal k) refl (number_fed k (omega (arith, h.0))) in
    let minutes : has_feed b ≡ false = both (a ++ codes " ") (decimal (s / 60)) (both a (codes " ") moves refl) (number_fed (s / 60) (omega (arith, h.1))) in
    let seconds : has_feed c ≡ false = both (b ++ codes ":") (two_digits (s % 60)) (both b (codes ":") minutes refl) (two_fed (s % 60)) in
    both (c ++ codes " ") (decimal i) (both c (codes " ") seconds refl) (number_fed i (omega (arith, h.2)))

pub bare_fed : (line : DownLine) → EngineLineCanBeRead line → has_feed (text_without_feed line) ≡ false
bare_fed XBoard h = refl
bare_fed Protover h = refl
bare_fed Quit h = refl
bare_fed New h = refl
bare_fed Force h = refl
bare_fed Post h = refl
bare_fed (SetBoard p) h = both (codes "setboard ") (position_fen p) refl (written_fed p h.0)
bare_fed (Played has_usermove m) h = played_fed has_usermove (ply_text m) (subst (λ (t : List ℕ). has_feed t ≡ false) (ap ply_text h.1.0) (move_fed h.0))
bare_fed (St n) h = both (codes "st ") (decimal n) refl (number_fed n (omega (arith, h)))
bare_fed (Level k s i) h = level_fed k s i h
bare_fed (Time n) h = both (codes "time ") (decimal n) refl (number_fed n (omega (arith, h)))
bare_fed (Otim n) h = both (codes "otim ") (decimal n) refl (number_fed n (omega (arith, h)))
bare_fed (Sd n) h = both (codes "sd ") (decimal n) refl (number_fed n (omega (arith, h)))
bare_fed Go h = refl
bare_fed Analyze h = refl
bare_fed OrderMoveNow h = refl
bare_fed Exit h = refl
bare_fed (Ping n) h = both (codes "ping ") (decimal n) refl (number_fed n (omega (arith, h)))
bare_fed (Accepted name) h = both (codes "accepted ") name refl h.one_line
bare_fed (Rejected name) h = both (codes "rejected ") name refl h.one_line
