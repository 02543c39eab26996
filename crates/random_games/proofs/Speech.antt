-- Lines with moves are lines that the core may hear.
use Rattle.std.proofs.Common.{◌≡◌, ℕ, ◌+◌, ◌≤◌, List, ◌∷◌, ◌++◌, length, true, false, not, ◌&&◌, nat_le, nat_eq, Option, Some, None, codes, refl, ap, ◌∙◌, inl, arith, length-append}
use Rattle.std.proofs.lemmas.Bool.Decides.{nat_tests}
use Rattle.std.proofs.lemmas.List.Folds.{list_any-append}
use Rattle.std.proofs.lemmas.Bool.{or_from}
use Rattle.chess_board.specs.declared.board.Kind.{Kind}
use Rattle.chess_board.specs.declared.board.Kind.TheVariants.{Pawn, Knight, Bishop, Rook, Queen, King}
use Rattle.chess_board.specs.declared.board.Move.{Move}
use Rattle.chess_board.specs.Board.{file_of, rank_of_square}
use Rattle.chess_board.specs.Text.{text_of_move, promotion_text, IsOfficer}
use Rattle.chess_board.proofs.Texts.{reads-back}
use Rattle.chess_board.proofs.TextLengths.{move_length}
use Rattle.protocol_tokens.proofs.TokenLists.{tokens_alone, tokens_more}
use Rattle.line_io.specs.Event.{has_feed, is_line}
use Rattle.cecp_lines.specs.Messages as says
use Rattle.cecp_lines.specs.Messages.{IfaceMsg}
use Rattle.cecp_lines.specs.Reading.{HasMove}
use Rattle.cecp_lines.proofs.Complete.{spells_reading}
use Rattle.uci_lines.proofs.MoveTokens.{move_token}
use Rattle.protocol_tokens.specs.Quit.{is_quit}
use Rattle.cecp_lines.specs.Quit.{is_quit_message}
use Rattle.random_games.specs.Sent.{IsSpeech}

no_feed_over : (c : ℕ) → 49 ≤ c → nat_eq c 10 ≡ false
no_feed_over c h = grind (arith, nat_tests)

promotion_bare : (p : Option Kind) → has_feed (promotion_text p) ≡ false
promotion_bare None = refl
promotion_bare (Some Pawn) = refl
promotion_bare (Some King) = refl
promotion_bare (Some Queen) = refl
promotion_bare (Some Rook) = refl
promotion_bare (Some Bishop) = refl
promotion_bare (Some Knight) = refl

move_bare : (m : Move) → has_feed (text_of_move m) ≡ false
move_bare m =
    let a = no_feed_over (97 + file_of m.from.index) (omega arith) in
    let b = no_feed_over (49 + rank_of_square m.from.index) (omega arith) in
    let c = no_feed_over (97 + file_of m.to.index) (omega arith) in
    let d = no_feed_over (49 + rank_of_square m.to.index) (omega arith) in
    rw (a, b, c, d, promotion_bare m.promotion) refl

bare_behind : (words text : List ℕ) → has_feed words ≡ false → has_feed text ≡ false → has_feed (words ++ text) ≡ false
bare_behind words text e f = list_any-append (λ b. nat_eq b 10) words text ∙ or_from (has_feed words) (has_feed text) e f

-- a short text without a line feed is a line
is_short_line : (text : List ℕ) → length text ≤ 72 → has_feed text ≡ false → is_line text ≡ true
is_short_line text s b = let n : nat_le (length text) 65536 ≡ true = grind (arith, nat_tests) in rw (n, b) refl

-- words and a move
pub is_move_line : (words : List ℕ) (m : Move) → length words ≤ 48 → has_feed words ≡ false → is_line (words ++ text_of_move m) ≡ true
is_move_line words m s b = is_short_line (words ++ text_of_move m) (omega (arith, s, move_length m, length-append words (text_of_move m))) (bare_behind words (text_of_move m) b (move_bare m))

-- an answer with a hint
pub is_hint_line : (m hint : Move) → is_line (codes "bestmove " ++ (text_of_move m ++ (codes " ponder " ++ text_of_move hint))) ≡ true
is_hint_line m hint =
    let behind = text_of_move m ++ (codes " ponder " ++ text_of_move hint) in
    let bare = bare_behind (text_of_move m) (codes " ponder " ++ text_of_move hint) (move_bare m) (bare_behind (codes " ponder ") (text_of_move hint) refl (move_bare hint)) in
    is_short_line (codes "bestmove " ++ behind)
    (omega (arith, move_length m, move_length hint, length-append (text_of_move m) (codes " ponder " ++ text_of_move hint), length-append (codes " ponder ") (text_of_move hint), length-append (codes "bestmove ") behind))
    (bare_behind (codes "bestmove ") behind refl bare)

-- an entered move does not end the session
entry_speaks : (m : Move) → IsOfficer m.promotion → is_quit (codes "usermove " ++ text_of_move m) ≡ false
entry_speaks m h = refl

pub entry_heard : (m : Move) → IsOfficer m.promotion → IsSpeech (codes "usermove " ++ text_of_move m)
entry_heard m h = (is_move_line (codes "usermove ") m (omega arith) refl, entry_speaks m h)
