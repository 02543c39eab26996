-- The replies to the interface, whatever memory their bytes lie in, and how they are written.
use Rattle.std.specs.Prelude.{◌≡◌, ℕ, ℤ, ◌+◌, ◌<◌, ◌≤◌, ◌^◌, List, [], ◌∷◌, ◌++◌}
use Rattle.std.specs.Prelude.{length, map, Bool, true, false, not, ◌&&◌, ◌||◌, ◌==◌}
use Rattle.std.specs.Prelude.{nat_lt, codes, decimal, Option, Some, None, IfSome}
use Rattle.std.specs.Fmt.{signed_decimal}
use Rattle.std.specs.Int.RustNames.{FitsSigned}
use Rattle.std.specs.Option.{option_map}
use mir.Syntax.{w64}
use Rattle.std.specs.List.{list_all, join_with_byte, AllByRecursion}
use Rattle.chess_board.specs.declared.board.Move.{Move as AnyMove}
use Rattle.chess_board.specs.declared.board.Side.{Side}
use Rattle.chess_board.specs.Text.{text_of_move, IsOfficer}
use Rattle.protocol_tokens.specs.Tokens.{is_white, trimmed}
use Rattle.cecp_lines.specs.declared.reply.Reason.{Reason}
use Rattle.cecp_lines.specs.declared.reply.Reason.TheVariants as reasons
use Rattle.cecp_lines.specs.declared.reply.UserError.{UserError}
use Rattle.cecp_lines.specs.declared.reply.UserError.TheVariants as user_errors
use Rattle.cecp_lines.specs.declared.reply.Outcome.{Outcome}
use Rattle.cecp_lines.specs.declared.reply.Outcome.TheVariants as outcomes
use Rattle.cecp_lines.specs.Losses.{Loss, loss_of, lost_text, IsQuoted}
use Rattle.cecp_lines.specs.San.{is_san}
use Rattle.cecp_lines.specs.declared.reply.Spelling.{Spelling}
use Rattle.cecp_lines.specs.declared.reply.Spelling.TheVariants as spellings
use Rattle.cecp_lines.specs.declared.reply.Reply.{Reply as CodeReply}
use Rattle.cecp_lines.specs.declared.reply.Reply.TheVariants as replies
use Rattle.protocol_tokens.specs.Bytes.{blank, left_parenthesis, right_parenthesis, equals}

pub data Reply : Type 0 where
  Feature : (name value : List ℕ) → Reply
  Move : (shown : AnyMove) → Reply
  Illegal : (played : AnyMove) → Reply
  IllegalLong : (played : AnyMove) → Reply
  Error : (reason : Reason) (line : List ℕ) → Reply
  TellError : (user_error : UserError) → Reply
  Pong : (n : ℕ) → Reply
  OfferDraw : Reply
  Resign : Reply
  Lost : (side : Side) (loss : Loss) → Reply
  Hint : (hint : AnyMove) → Reply
  Result : (outcome : Outcome) → Reply
  Thinking : (depth : ℕ) (score : ℤ) (time nodes : ℕ) (spelling : Spelling) (hint : Option (List ℕ))
      (pv : List ℕ) → Reply
  Stat01 : (time nodes depth left all : ℕ) (current : Option AnyMove) → Reply

abbrev pub reply_of : CodeReply → Reply
reply_of (replies.Feature name value) = Feature name.now value.now
reply_of (replies.Move m) = Move m
reply_of (replies.Illegal m) = Illegal m
reply_of (replies.IllegalLong m) = IllegalLong m
reply_of (replies.Error reason line) = Error reason line.now
reply_of (replies.TellError user_error) = TellError user_error
reply_of (replies.Pong n) = Pong n
reply_of replies.OfferDraw = OfferDraw
reply_of replies.Resign = Resign
reply_of (replies.Lost side loss) = Lost side (loss_of loss)
reply_of (replies.Hint m) = Hint m
reply_of (replies.Result outcome) = Result outcome
reply_of (replies.Thinking depth score time nodes spelling hint pv) =
    Thinking depth score time nodes spelling (option_map (λ h. h.now) hint) pv.now
reply_of (replies.Stat01 time nodes depth left all current) =
    Stat01 time nodes depth left all current

abbrev pub reason_text : Reason → List ℕ
reason_text reasons.UnknownCommand = codes "unknown command"
reason_text reasons.BadArgument = codes "bad argument"
reason_text reasons.EngineEnded = codes "engine ended"
reason_text reasons.NotAnalyzing = codes "not analyzing"
reason_text reasons.NoMoveToUndo = codes "no move to undo"
reason_text reasons.UnknownOption = codes "unknown option"
reason_text reasons.BadValue = codes "bad value"
reason_text reasons.TooManySettings = codes "too many settings"
reason_text reasons.TooManyPings = codes "too many pings"
reason_text reasons.LineTooLong = codes "line too long"

abbrev pub user_error_text : UserError → List ℕ
user_error_text user_errors.Position = codes "tellusererror Illegal position"
user_error_text user_errors.Move = codes "tellusererror Illegal move by engine"
user_error_text user_errors.Ended = codes "tellusererror Engine ended"

abbrev pub outcome_text : Outcome → List ℕ
outcome_text outcomes.WhiteMates = codes "1-0 {White mates}"
outcome_text outcomes.BlackMates = codes "0-1 {Black mates}"
outcome_text outcomes.Stalemate = codes "1/2-1/2 {Stalemate}"
outcome_text outcomes.Dead = codes "1/2-1/2 {Draw by insufficient material}"
outcome_text outcomes.Repetition = codes "1/2-1/2 {Draw by repetition}"
outcome_text outcomes.Fifty = codes "1/2-1/2 {Draw by fifty-move rule}"

-- a number and a blank
abbrev pub field : List ℕ → List ℕ
field number = number ++ (blank ∷ [])

-- the hint of a ponder search, in parentheses and before a blank
abbrev pub hint_in_parentheses : Option (List ℕ) → List ℕ
hint_in_parentheses None = []
hint_in_parentheses (Some text) = left_parenthesis ∷ (text ++ (right_parenthesis ∷ blank ∷ []))

abbrev pub current_text : Option AnyMove → List ℕ
current_text None = []
current_text (Some m) = blank ∷ text_of_move m

-- the text of a reply, without its line feed
abbrev pub reply_text : Reply → List ℕ
reply_text (Feature name value) = codes "feature " ++ name ++ codes "=" ++ value
reply_text (Move m) = codes "move " ++ text_of_move m
reply_text (Illegal m) = codes "Illegal move: " ++ text_of_move m
reply_text (IllegalLong m) = codes "Illegal move (game too long): " ++ text_of_move m
reply_text (Error reason line) = codes "Error (" ++ reason_text reason ++ codes "): " ++ line
reply_text (TellError user_error) = user_error_text user_error
reply_text (Pong n) = codes "pong " ++ decimal n
reply_text OfferDraw = codes "offer draw"
reply_text Resign = codes "resign"
reply_text (Lost side loss) = lost_text side loss
reply_text (Hint m) = codes "Hint: " ++ text_of_move m
reply_text (Result outcome) = outcome_text outcome
reply_text (Thinking depth score time nodes spelling hint pv) =
    field (decimal depth) ++ field (signed_decimal score) ++ field (decimal time)
    ++ field (decimal nodes) ++ hint_in_parentheses hint ++ pv
reply_text (Stat01 time nodes depth left all current) =
    codes "stat01: " ++ field (decimal time) ++ field (decimal nodes) ++ field (decimal depth)
    ++ field (decimal left) ++ decimal all ++ current_text current

-- a reply that reports the search
abbrev pub is_search_report : Reply → Bool
is_search_report (Thinking depth score time nodes spelling hint pv) = true
is_search_report (Stat01 time nodes depth left all current) = true
is_search_report reply = false

-- neither empty, nor with white space or `=` in it
abbrev pub is_name_byte : ℕ → Bool
is_name_byte b = not (is_white b || b == equals)

abbrev pub is_feature_name : List ℕ → Bool
is_feature_name name = nat_lt 0 (length name) && list_all is_name_byte name

abbrev pub IsWritable : AnyMove → Type 0
IsWritable m = IsOfficer m.promotion

-- the text of a move by its squares
pub record AreSquares (text : List ℕ) : Type 0 where
  pub move : AnyMove
  pub writable : IsWritable move
  pub is : text ≡ text_of_move move

-- the text is a move in a spelling
abbrev pub IsMoveText : Spelling → List ℕ → Type 0
IsMoveText spellings.Coordinates text = AreSquares text
IsMoveText spellings.San text = is_san text ≡ true

-- one or more moves in a spelling, with one blank between
pub record AreMoves (spelling : Spelling) (pv : List ℕ) : Type 0 where
  pub texts : List (List ℕ)
  pub some : 0 < length texts
  pub moves : AllByRecursion (IsMoveText spelling) texts
  pub text : pv ≡ join_with_byte blank texts

-- the line that a refusal repeats is trimmed, and one that was too long is not repeated
abbrev pub IsRepeated : Reason → List ℕ → Type 0
IsRepeated reasons.LineTooLong line = line ≡ codes "..."
IsRepeated _ line = trimmed line ≡ line

-- the conditions on the fields of a reply that some line spells, besides the range of their types
abbrev pub IsReply : Reply → Type 0
IsReply (Feature name value) = is_feature_name name ≡ true
IsReply (Move m) = IsWritable m
IsReply (Illegal m) = IsWritable m
IsReply (IllegalLong m) = IsWritable m
IsReply (Error reason line) = IsRepeated reason line
IsReply (Hint m) = IsWritable m
IsReply (Thinking depth score time nodes spelling hint pv) =
    IfSome hint (IsMoveText spelling) × AreMoves spelling pv
IsReply (Stat01 time nodes depth left all current) = IfSome current IsWritable
IsReply _ = Unit {0}

-- the moves of a reply can be written
abbrev pub HasWritableMoves : Reply → Type 0
HasWritableMoves (Move m) = IsWritable m
HasWritableMoves (Illegal m) = IsWritable m
HasWritableMoves (IllegalLong m) = IsWritable m
HasWritableMoves (Hint m) = IsWritable m
HasWritableMoves (Stat01 time nodes depth left all current) = IfSome current IsWritable
HasWritableMoves _ = Unit {0}

-- the numbers are those of the fields' types, and what is quoted can be
abbrev pub HasFieldRanges : Reply → Type 0
HasFieldRanges (Pong n) = n < 2 ^ 32
HasFieldRanges (Lost side loss) = IsQuoted loss
HasFieldRanges (Thinking depth score time nodes spelling hint pv) =
    (depth < 2 ^ 64) × FitsSigned w64 score × (time < 2 ^ 64) × (nodes < 2 ^ 64)
HasFieldRanges (Stat01 time nodes depth left all current) =
    (time < 2 ^ 64) × (nodes < 2 ^ 64) × (depth < 2 ^ 64) × (left < 2 ^ 64) × (all < 2 ^ 64)
HasFieldRanges _ = Unit {0}

-- A line is the text of a reply.
pub record SpellsReply (line : List ℕ) (t : Reply) : Type 0 where
  pub form : IsReply t
  pub fits : HasFieldRanges t
  pub text : line ≡ reply_text t

abbrev pub hint_size : Option (List ℕ) → ℕ
hint_size None = 0
hint_size (Some text) = length text

-- how many bytes of a reply's text are borrowed
abbrev pub borrowed_length : Reply → ℕ
borrowed_length (Feature name value) = length name + length value
borrowed_length (Error reason line) = length line
borrowed_length (Thinking depth score time nodes spelling hint pv) = hint_size hint + length pv
borrowed_length _ = 0

-- No text is longer than its borrowed bytes and 128 more.
abbrev pub RepliesAreShort : Type 0
RepliesAreShort = (t : Reply) → HasFieldRanges t → length (reply_text t) ≤ 128 + borrowed_length t
