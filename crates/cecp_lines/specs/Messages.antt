-- The messages of the interface, whatever memory their bytes lie in.
use Rattle.std.specs.Prelude.{ℕ, ℤ, List, Option, Result as Answer, Ok, Err}
use Rattle.std.specs.Option.{option_map}
use Rattle.chess_board.specs.declared.board.Move.{Move}
use Rattle.cecp_lines.specs.declared.iface.IfaceMsg.{IfaceMsg as CodeIfaceMsg}
use Rattle.cecp_lines.specs.declared.iface.IfaceMsg.TheVariants as says
use Rattle.cecp_lines.specs.declared.iface.IfaceFault.{IfaceFault}

pub data IfaceMsg : Type 0 where
  Blank : IfaceMsg
  Ignored : (text : List ℕ) → IfaceMsg
  New : IfaceMsg
  Quit : IfaceMsg
  Force : IfaceMsg
  Go : IfaceMsg
  PlayOther : IfaceMsg
  MoveNow : IfaceMsg
  Draw : IfaceMsg
  Hint : IfaceMsg
  Undo : IfaceMsg
  Remove : IfaceMsg
  Hard : IfaceMsg
  Easy : IfaceMsg
  Post : IfaceMsg
  NoPost : IfaceMsg
  Analyze : IfaceMsg
  Exit : IfaceMsg
  Dot : IfaceMsg
  Result : IfaceMsg
  Protover : (n : ℕ) → IfaceMsg
  Ping : (n : ℕ) → IfaceMsg
  UserMove : (played : Move) → IfaceMsg
  SetBoard : (text : List ℕ) → IfaceMsg
  Level : (mps base_ms inc_ms : ℕ) → IfaceMsg
  St : (ms : ℕ) → IfaceMsg
  Sd : (n : ℕ) → IfaceMsg
  Time : (n : ℤ) → IfaceMsg
  Otim : (n : ℤ) → IfaceMsg
  SetOption : (name : List ℕ) (value : Option (List ℕ)) → IfaceMsg
  Memory : (n : ℕ) → IfaceMsg
  Cores : (n : ℕ) → IfaceMsg
  EgtPath : (kind path : List ℕ) → IfaceMsg

abbrev pub message_of : CodeIfaceMsg → IfaceMsg
message_of says.Blank = Blank
message_of (says.Ignored text) = Ignored text.now
message_of says.New = New
message_of says.Quit = Quit
message_of says.Force = Force
message_of says.Go = Go
message_of says.PlayOther = PlayOther
message_of says.MoveNow = MoveNow
message_of says.Draw = Draw
message_of says.Hint = Hint
message_of says.Undo = Undo
message_of says.Remove = Remove
message_of says.Hard = Hard
message_of says.Easy = Easy
message_of says.Post = Post
message_of says.NoPost = NoPost
message_of says.Analyze = Analyze
message_of says.Exit = Exit
message_of says.Dot = Dot
message_of says.Result = Result
message_of (says.Protover n) = Protover n
message_of (says.Ping n) = Ping n
message_of (says.UserMove m) = UserMove m
message_of (says.SetBoard text) = SetBoard text.now
message_of (says.Level mps base_ms inc_ms) = Level mps base_ms inc_ms
message_of (says.St ms) = St ms
message_of (says.Sd n) = Sd n
message_of (says.Time n) = Time n
message_of (says.Otim n) = Otim n
message_of (says.SetOption name value) = SetOption name.now (option_map (λ v. v.now) value)
message_of (says.Memory n) = Memory n
message_of (says.Cores n) = Cores n
message_of (says.EgtPath kind path) = EgtPath kind.now path.now

-- the message that was read, or why none was
abbrev pub read_as : Answer CodeIfaceMsg IfaceFault → Answer IfaceMsg IfaceFault
read_as (Ok msg) = Ok (message_of msg)
read_as (Err fault) = Err fault
