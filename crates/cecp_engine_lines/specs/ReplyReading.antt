-- The reply that a line spells, as a function.
use Rattle.std.specs.Prelude.{ℕ, ℤ, pos, neg_ℤ, ◌+◌, ◌^◌, List, [], ◌∷◌, length, take, drop}
use Rattle.std.specs.Prelude.{position, slice_index, codes, Bool, true, not, ◌&&◌, ◌||◌, ◌==◌}
use Rattle.std.specs.Prelude.{if◌then◌else◌, nat_lt, nat_le, is_some, Option, Some, None}
use Rattle.std.specs.Option.{option_map, option_and_then}
use Rattle.std.specs.List.{list_all, slice_split}
use Rattle.std.specs.Str.{bytes_eq}
use Rattle.std.specs.Str.Parse.{digits_value, starts_with_minus}
use Rattle.std.specs.Char.{is_ascii_digit}
use Rattle.std.specs.Map.{lookup}
use Rattle.chess_board.specs.declared.board.Move.{Move as AnyMove}
use Rattle.chess_board.specs.declared.board.Side.{Side}
use Rattle.chess_board.specs.declared.board.Side.TheVariants.{White, Black}
use Rattle.chess_board.specs.Text.{text_of_move}
use Rattle.protocol_tokens.specs.Tokens.{trimmed}
use Rattle.chess_board.specs.Spelling.{move_spelled_by}
use Rattle.cecp_lines.specs.Reading.{is_equals}
use Rattle.cecp_lines.specs.declared.reply.Reason.{Reason}
use Rattle.cecp_lines.specs.declared.reply.Reason.TheVariants as reasons
use Rattle.cecp_lines.specs.declared.reply.UserError.TheVariants as user_errors
use Rattle.cecp_lines.specs.declared.reply.Outcome.TheVariants as outcomes
use Rattle.cecp_lines.specs.declared.reply.Loss.TheVariants as losses
use Rattle.cecp_lines.specs.Losses as cecp_losses
use Rattle.cecp_lines.specs.Losses.{is_quotable, right_brace}
use Rattle.cecp_lines.specs.San.{is_san}
use Rattle.cecp_lines.specs.declared.reply.Spelling.{Spelling}
use Rattle.cecp_lines.specs.declared.reply.Spelling.TheVariants.{Coordinates, San}
use Rattle.cecp_lines.specs.declared.reply.Reply.{Reply as CodeReply}
use Rattle.cecp_lines.specs.declared.reply.Reply.TheVariants as replies
use Rattle.cecp_lines.specs.Replies as cecp
use Rattle.cecp_lines.specs.Replies.{Reply, reply_of, is_feature_name}
use Rattle.protocol_tokens.specs.Bytes.{digit_zero, blank, right_parenthesis}

-- the text behind a prefix
abbrev pub rest_after_prefix : List ℕ → List ℕ → Option (List ℕ)
rest_after_prefix [] line = Some line
rest_after_prefix (f ∷ fs) [] = None
rest_after_prefix (f ∷ fs) (b ∷ bs) = if f == b then rest_after_prefix fs bs else None

-- up to 20 digits without a leading zero
abbrev pub is_plain : List ℕ → Bool
is_plain text =
    nat_lt 0 (length text) && (not (slice_index text 0 == digit_zero) || length text == 1)
    && nat_le (length text) 20 && list_all is_ascii_digit text

abbrev pub plain_number : List ℕ → Option ℕ
plain_number text = if is_plain text then Some (digits_value 10 text) else None

abbrev pub of_64_bits : ℕ → Option ℕ
of_64_bits n = if nat_lt n (2 ^ 64) then Some n else None

-- a number below 2^64 as it is written
abbrev pub number_in_64_bits : List ℕ → Option ℕ
number_in_64_bits text = option_and_then of_64_bits (plain_number text)

abbrev pub positive_score : Option ℕ → Option ℤ
positive_score None = None
positive_score (Some n) = if nat_lt n (2 ^ 63) then Some (pos n) else None

abbrev pub negative_score : Option ℕ → Option ℤ
negative_score None = None
negative_score (Some n) = if nat_le 1 n && nat_le n (2 ^ 63) then Some (neg_ℤ (pos n)) else None

abbrev pub written_signed : List ℕ → Option ℤ
written_signed text =
    if starts_with_minus text then negative_score (number_in_64_bits (drop 1 text))
    else positive_score (number_in_64_bits text)

abbrev pub move_if_same_text : List ℕ → AnyMove → Option AnyMove
move_if_same_text text m = if bytes_eq (text_of_move m) text then Some m else None

-- a move as it is written
abbrev pub written_move : List ℕ → Option AnyMove
written_move text = option_and_then (move_if_same_text text) (move_spelled_by text)

abbrev pub is_space : ℕ → Bool
is_space b = b == blank

-- a move in a spelling
abbrev pub is_move_text : Spelling → List ℕ → Bool
is_move_text Coordinates text = is_some (written_move text)
is_move_text San text = is_san text

-- moves in a spelling, with one blank between
abbrev pub are_moves : Spelling → List ℕ → Bool
are_moves spelling text = list_all (is_move_text spelling) (slice_split is_space text)

-- the parts of a text before and after its first blank
abbrev pub cut_at : Option ℕ → List ℕ → Option (List ℕ × List ℕ)
cut_at None text = None
cut_at (Some at) text = Some (take at text, drop (at + 1) text)

abbrev pub parts_at_space : List ℕ → Option (List ℕ × List ℕ)
parts_at_space text = cut_at (position is_space text) text

-- a number, a blank, and what follows
abbrev pub with_rest : {A : Type 0} → Option A → List ℕ → Option (A × List ℕ)
with_rest None others = None
with_rest (Some x) others = Some (x, others)

abbrev pub field_of : {A : Type 0} → (List ℕ → Option A) → Option (List ℕ × List ℕ)
    → Option (A × List ℕ)
field_of read None = None
field_of read (Some parts) = with_rest (read parts.0) parts.1

abbrev pub number_field : List ℕ → Option (ℕ × List ℕ)
number_field text = field_of number_in_64_bits (parts_at_space text)

abbrev pub score_field : List ℕ → Option (ℤ × List ℕ)
score_field text = field_of written_signed (parts_at_space text)

-- THE LINES WITHOUT ARGUMENTS

abbrev pub fixed_lines : List (List ℕ × CodeReply)
fixed_lines =
    (codes "offer draw", replies.OfferDraw) ∷ (codes "resign", replies.Resign)
    ∷ (codes "tellusererror Illegal position", replies.TellError user_errors.Position)
    ∷ (codes "tellusererror Illegal move by engine", replies.TellError user_errors.Move)
    ∷ (codes "tellusererror Engine ended", replies.TellError user_errors.Ended)
    ∷ (codes "1-0 {White mates}", replies.Result outcomes.WhiteMates)
    ∷ (codes "0-1 {Black mates}", replies.Result outcomes.BlackMates)
    ∷ (codes "1/2-1/2 {Stalemate}", replies.Result outcomes.Stalemate)
    ∷ (codes "1/2-1/2 {Draw by insufficient material}", replies.Result outcomes.Dead)
    ∷ (codes "1/2-1/2 {Draw by repetition}", replies.Result outcomes.Repetition)
    ∷ (codes "1/2-1/2 {Draw by fifty-move rule}", replies.Result outcomes.Fifty)
    ∷ (codes "0-1 {Illegal move by engine}", replies.Lost White (losses.IllegalMove None))
    ∷ (codes "1-0 {Illegal move by engine}", replies.Lost Black (losses.IllegalMove None))
    ∷ (codes "0-1 {Engine ended}", replies.Lost White losses.Ended)
    ∷ (codes "1-0 {Engine ended}", replies.Lost Black losses.Ended) ∷ []

abbrev pub fixed_of : List ℕ → Option CodeReply
fixed_of line = lookup (bytes_eq line) fixed_lines

abbrev pub reason_words : List (List ℕ × Reason)
reason_words =
    (codes "unknown command", reasons.UnknownCommand) ∷ (codes "bad argument", reasons.BadArgument)
    ∷ (codes "engine ended", reasons.EngineEnded) ∷ (codes "not analyzing", reasons.NotAnalyzing)
    ∷ (codes "no move to undo", reasons.NoMoveToUndo)
    ∷ (codes "unknown option", reasons.UnknownOption) ∷ (codes "bad value", reasons.BadValue)
    ∷ (codes "too many settings", reasons.TooManySettings)
    ∷ (codes "too many pings", reasons.TooManyPings) ∷ (codes "line too long", reasons.LineTooLong)
    ∷ []

abbrev pub reason_of : List ℕ → Option Reason
reason_of words = lookup (bytes_eq words) reason_words

-- THE LINES WITH ARGUMENTS

abbrev pub named_feature : List ℕ → List ℕ → Option Reply
named_feature name value = if is_feature_name name then Some (cecp.Feature name value) else None

abbrev pub feature_at : Option ℕ → List ℕ → Option Reply
feature_at None text = None
feature_at (Some at) text = named_feature (take at text) (drop (at + 1) text)

abbrev pub feature_in : List ℕ → Option Reply
feature_in text = feature_at (position is_equals text) text

abbrev pub is_repeated : Reason → List ℕ → Bool
is_repeated reasons.LineTooLong line = bytes_eq line (codes "...")
is_repeated _ line = bytes_eq (trimmed line) line

abbrev pub error_of : Option Reason → Option (List ℕ) → Option Reply
error_of (Some reason) (Some line) =
    if is_repeated reason line then Some (cecp.Error reason line) else None
error_of (Some reason) None = None
error_of None line = None

abbrev pub is_paren : ℕ → Bool
is_paren b = b == right_parenthesis

abbrev pub error_at : Option ℕ → List ℕ → Option Reply
error_at None text = None
error_at (Some at) text =
    error_of (reason_of (take at text)) (rest_after_prefix (codes "): ") (drop at text))

abbrev pub error_in : List ℕ → Option Reply
error_in text = error_at (position is_paren text) text

abbrev pub is_brace : ℕ → Bool
is_brace b = b == right_brace

-- an answer that is quoted up to a brace, with which the line ends
abbrev pub lost_at : Side → Option ℕ → List ℕ → Option Reply
lost_at side None text = None
lost_at side (Some at) text =
    if bytes_eq (drop at text) (codes "}") && is_quotable (take at text)
    then Some (cecp.Lost side (cecp_losses.IllegalMove (Some (take at text)))) else None

abbrev pub lost_in : Side → List ℕ → Option Reply
lost_in side text = lost_at side (position is_brace text) text

abbrev pub short_pong : ℕ → Option Reply
short_pong n = if nat_lt n (2 ^ 32) then Some (cecp.Pong n) else None

abbrev pub pong_reply_in : List ℕ → Option Reply
pong_reply_in text = option_and_then short_pong (number_in_64_bits text)

-- the last number and the current move of a `stat01` line
abbrev pub last_at : Option ℕ → List ℕ → Option (ℕ × Option AnyMove)
last_at None text = option_map (λ n. (n, None)) (number_in_64_bits text)
last_at (Some at) text =
    option_and_then (λ n. option_map (λ m. (n, Some m)) (written_move (drop (at + 1) text)))
    (number_in_64_bits (take at text))

abbrev pub last_in : List ℕ → Option (ℕ × Option AnyMove)
last_in text = last_at (position is_space text) text

abbrev pub stat01_in : List ℕ → Option Reply
stat01_in text =
    option_and_then (λ time. option_and_then (λ nodes.
    option_and_then (λ depth. option_and_then (λ left.
    option_map (λ last. cecp.Stat01 time.0 nodes.0 depth.0 left.0 last.0 last.1) (last_in left.1))
    (number_field depth.1)) (number_field nodes.1)) (number_field time.1)) (number_field text)

-- a hint in parentheses before a blank, if the text begins with one
abbrev pub hint_at : Option ℕ → List ℕ → Option (Option (List ℕ) × List ℕ)
hint_at None text = None
hint_at (Some at) text =
    option_map (λ pv. (Some (take at text), pv)) (rest_after_prefix (codes ") ") (drop at text))

abbrev pub hint_of : Option (List ℕ) → List ℕ → Option (Option (List ℕ) × List ℕ)
hint_of None text = Some (None, text)
hint_of (Some inner) text = hint_at (position is_paren inner) inner

abbrev pub hint_in_reply : List ℕ → Option (Option (List ℕ) × List ℕ)
hint_in_reply text = hint_of (rest_after_prefix (codes "(") text) text

abbrev pub is_hint : Spelling → Option (List ℕ) → Bool
is_hint spelling None = true
is_hint spelling (Some text) = is_move_text spelling text

-- the hint and all moves have the spelling
abbrev pub have_spelling : Spelling → Option (List ℕ) → List ℕ → Bool
have_spelling spelling hint pv = is_hint spelling hint && are_moves spelling pv

-- No text has both spellings.
abbrev pub spelling_of_moves : Option (List ℕ) → List ℕ → Option Spelling
spelling_of_moves hint pv =
    if have_spelling Coordinates hint pv then Some Coordinates
    else (if have_spelling San hint pv then Some San else None)

abbrev pub thinking_of : ℕ → ℤ → ℕ → ℕ → Option (List ℕ) × List ℕ → Option Reply
thinking_of depth score time nodes end =
    option_map (λ spelling. cecp.Thinking depth score time nodes spelling end.0 end.1)
    (spelling_of_moves end.0 end.1)

abbrev pub thinking_in : List ℕ → Option Reply
thinking_in text =
    option_and_then (λ depth. option_and_then (λ score.
    option_and_then (λ time. option_and_then (λ nodes.
    option_and_then (thinking_of depth.0 score.0 time.0 nodes.0) (hint_in_reply nodes.1))
    (number_field time.1)) (number_field score.1)) (score_field depth.1)) (number_field text)

-- the reading after a prefix, or else
abbrev pub behind : Option (List ℕ) → (List ℕ → Option Reply) → Option Reply → Option Reply
behind None read other = other
behind (Some text) read other = read text

abbrev pub of_move : (AnyMove → Reply) → List ℕ → Option Reply
of_move says text = option_map says (written_move text)

-- a reply that begins with a number
abbrev pub with_score : List ℕ → Option Reply
with_score line =
    behind (rest_after_prefix (codes "0-1 {Illegal move by engine: ") line) (lost_in White)
    (behind (rest_after_prefix (codes "1-0 {Illegal move by engine: ") line) (lost_in Black)
    (thinking_in line))

abbrev pub with_prefix : List ℕ → Option Reply
with_prefix line =
    behind (rest_after_prefix (codes "feature ") line) feature_in
    (behind (rest_after_prefix (codes "move ") line) (of_move (λ m. cecp.Move m))
    (behind (rest_after_prefix (codes "Illegal move: ") line) (of_move (λ m. cecp.Illegal m))
    (behind (rest_after_prefix (codes "Illegal move (game too long): ") line)
    (of_move (λ m. cecp.IllegalLong m))
    (behind (rest_after_prefix (codes "Error (") line) error_in
    (behind (rest_after_prefix (codes "pong ") line) pong_reply_in
    (behind (rest_after_prefix (codes "Hint: ") line) (of_move (λ m. cecp.Hint m))
    (behind (rest_after_prefix (codes "stat01: ") line) stat01_in
    (with_score line))))))))

abbrev pub or_prefix : Option CodeReply → List ℕ → Option Reply
or_prefix (Some reply) line = Some (reply_of reply)
or_prefix None line = with_prefix line

abbrev pub reply_in : List ℕ → Option Reply
reply_in line = or_prefix (fixed_of line) line
