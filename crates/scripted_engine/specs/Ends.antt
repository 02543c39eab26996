-- The end of a run of the program.
use Rattle.std.specs.Prelude.{◌≡◌, ◌⊎◌, ℕ, ◌^◌, ◌<◌, ◌≤◌, List, [], ◌∷◌, ◌++◌, length}
use Rattle.std.specs.Prelude.{Bool, true, false, if◌then◌else◌, Some, None, IsSome}
use Rattle.std.specs.List.{list_any}
use Rattle.std.specs.Io.KnownBytes.{Appends, IsAtEnd}
use Rattle.line_io.specs.Source.{Received}
use Rattle.line_io.specs.Causes.{Rose}
use Rattle.line_io.specs.Lines.{Piece, Whole, TooLong, SourceGave, items}
use Rattle.line_io.specs.Runs.{whole}
use Rattle.line_io.specs.Taken.{IsOver}
use Rattle.line_io.specs.Source.{Supplied}
use Rattle.protocol_tokens.specs.Quit.{is_quit}
use Rattle.scripted_engine.specs.Blocks.{Block}
use Rattle.scripted_engine.specs.Answers.{scripted_answer}
use Rattle.scripted_engine.specs.Script.{first_bad, blocks_of}
use Rattle.scripted_engine.specs.declared.ending.ScriptedEnding.{ScriptedEnding}
use Rattle.scripted_engine.specs.declared.ending.ScriptedEnding.TheVariants.{Done, Usage, NoMemory}
use Rattle.scripted_engine.specs.declared.ending.ScriptedEnding.TheVariants.{ReadFailed}
use Rattle.scripted_engine.specs.declared.ending.ScriptedEnding.TheVariants.{WriteFailed, BadScript}
use Rattle.scripted_engine.specs.declared.ending.ScriptedEnding.TheVariants.{TooLarge, Endless}
use Rattle.scripted_engine.specs.declared.run.TheConstants.{SCRIPT_LIMIT}
use Rattle.line_io.specs.declared.limits.TheConstants.{PEER_LINE}

-- the exit status
abbrev pub scripted_status : ScriptedEnding → ℕ
scripted_status Done = 0
scripted_status Usage = 2
scripted_status NoMemory = 3
scripted_status ReadFailed = 4
scripted_status WriteFailed = 5
scripted_status BadScript = 6
scripted_status TooLarge = 7
scripted_status Endless = 8

-- the lines that are answered, without the long ones, up to the first that begins with `quit`
abbrev pub until_quit : List Piece → List (List ℕ)
until_quit [] = []
until_quit (TooLong ∷ ps) = until_quit ps
until_quit (Whole line ∷ ps) = line ∷ (if is_quit line then [] else until_quit ps)

-- one of the lines begins with `quit`
abbrev pub has_quit_line : List (List ℕ) → Bool
has_quit_line lines = list_any is_quit lines

-- the answers to some lines, after earlier ones
abbrev pub replies_after : List Block → List (List ℕ) → List (List ℕ) → List ℕ
replies_after blocks earlier [] = []
replies_after blocks earlier (line ∷ lines) =
    scripted_answer blocks earlier line ++ replies_after blocks (earlier ++ line ∷ []) lines

-- the answers to lines, up to the first that begins with `quit`
abbrev pub scripted_replies : List Block → List Piece → List ℕ
scripted_replies blocks pieces = replies_after blocks [] (until_quit pieces)

abbrev pub ReadingFailedAt : Supplied → Supplied → Type 0
ReadingFailedAt old new = Rose old.faults new.faults

-- the file was read to its end, and is no longer than the limit
pub record ScriptIsRead (file : Supplied) (script : List ℕ) : Type 0 where
  pub fits : length script ≤ SCRIPT_LIMIT
  pub at_end : IsAtEnd file.left

-- why there is no script
abbrev pub NoScript : Supplied → Supplied → List ℕ → ScriptedEnding → Type 0
NoScript old new script Done = ⊥
NoScript old new script Usage = ⊥
NoScript old new script NoMemory = length script ≤ SCRIPT_LIMIT
NoScript old new script ReadFailed = (length script ≤ SCRIPT_LIMIT) × ReadingFailedAt old new
NoScript old new script WriteFailed = ⊥
NoScript old new script BadScript = ScriptIsRead new script × IsSome (first_bad script)
NoScript old new script TooLarge = SCRIPT_LIMIT < length script
NoScript old new script Endless = ⊥

-- All lines were answered, up to the first `quit` or to the end: whatever is left after them, and
-- nothing is left if the end was seen.
pub record AnswersAll (blocks : List Block) (old new : Supplied)
    (heard replied : List ℕ) : Type 0 where
  pub ended : Bool
  pub all : (left : List ℕ) → (ended ≡ true → left ≡ [])
      → replied ≡ scripted_replies blocks (items PEER_LINE (heard ++ left))
  pub at_end : ended ≡ true → IsOver old new
  pub at_quit : ended ≡ false → has_quit_line (until_quit (items PEER_LINE heard)) ≡ true

-- the written bytes are a prefix of all answers, whatever is left after them, and nothing is
-- left if the end was seen
pub record AnswersPrefix (blocks : List Block) (old new : Supplied)
    (heard replied : List ℕ) : Type 0 where
  pub ended : Bool
  pub prefix : (left : List ℕ) → (ended ≡ true → left ≡ [])
      → (more : List ℕ) × (replied ++ more ≡ scripted_replies blocks (items PEER_LINE (heard ++ left)))
  pub at_end : ended ≡ true → IsOver old new

-- the whole lines that came were answered, and none of them begins with `quit`
pub record AnswersWhole (blocks : List Block) (heard replied : List ℕ) : Type 0 where
  pub all : replied ≡ scripted_replies blocks (whole PEER_LINE heard)
  pub no_quit : has_quit_line (until_quit (whole PEER_LINE heard)) ≡ false

-- the reports of the file, the input and the output
pub record ScriptedStreams : Type 0 where
  pub file : Supplied
  pub input : Supplied
  pub output : Received

abbrev pub scripted_streams : Supplied → Supplied → Received → ScriptedStreams
scripted_streams file input output = record { file = file; input = input; output = output }

-- how the answers to the lines of the input end
abbrev pub LinesEnd : ScriptedEnding → List Block → ScriptedStreams → ScriptedStreams → List ℕ → List ℕ → Type 0
LinesEnd Done blocks old new heard replied = AnswersAll blocks old.input new.input heard replied
LinesEnd Usage blocks old new heard replied = ⊥
LinesEnd NoMemory blocks old new heard replied = ⊥
LinesEnd ReadFailed blocks old new heard replied =
    ReadingFailedAt old.input new.input × AnswersWhole blocks heard replied
LinesEnd WriteFailed blocks old new heard replied =
    Rose old.output.faults new.output.faults × AnswersPrefix blocks old.input new.input heard replied
LinesEnd BadScript blocks old new heard replied = ⊥
LinesEnd TooLarge blocks old new heard replied = ⊥
LinesEnd Endless blocks old new heard replied =
    (2 ^ 32 ≤ length heard) × AnswersWhole blocks heard replied

-- The input gave some bytes, and the output took some.
pub record Answered (ending : ScriptedEnding) (blocks : List Block)
    (old new : ScriptedStreams) : Type 0 where
  pub heard : List ℕ
  pub replied : List ℕ
  pub gave : SourceGave old.input new.input heard
  pub took : Appends old.output.taken new.output.taken replied
  pub ends : LinesEnd ending blocks old new heard replied

-- there is no script, nothing is read of the input, and nothing is written
pub record HasNoScript (ending : ScriptedEnding) (script heard replied : List ℕ)
    (old new : ScriptedStreams) : Type 0 where
  pub why : NoScript old.file new.file script ending
  pub none_heard : heard ≡ []
  pub none_replied : replied ≡ []

-- the lines were answered by a script that is good
pub record HasScript (ending : ScriptedEnding) (script heard replied : List ℕ)
    (old new : ScriptedStreams) : Type 0 where
  pub read : ScriptIsRead new.file script
  pub good : first_bad script ≡ None
  pub ends : LinesEnd ending (blocks_of script) old new heard replied

-- The file gave this script, the input these bytes, and the output took this. The run had no
-- script, or answered the lines by it.
pub record Session (ending : ScriptedEnding) (old new : ScriptedStreams) : Type 0 where
  pub script : List ℕ
  pub heard : List ℕ
  pub replied : List ℕ
  pub from_file : SourceGave old.file new.file script
  pub from_input : SourceGave old.input new.input heard
  pub to_output : Appends old.output.taken new.output.taken replied
  pub ends :
      HasNoScript ending script heard replied old new ⊎ HasScript ending script heard replied old new

-- The file gave a good script within the limit, the input gave fewer than 2^32 bytes, and no count
-- rose.
pub record GoesWell (script heard : List ℕ) (old new : ScriptedStreams) : Type 0 where
  pub script_replied : old.file.left ≡ Some script
  pub fits : length script ≤ SCRIPT_LIMIT
  pub good : first_bad script ≡ None
  pub input_replied : old.input.left ≡ Some heard
  pub few : length heard < 2 ^ 32
  pub file_reads : ReadingFailedAt old.file new.file → ⊥
  pub input_reads : ReadingFailedAt old.input new.input → ⊥
  pub output_writes : Rose old.output.faults new.output.faults → ⊥

-- A run that goes well is done, or there was no memory.
abbrev pub CompletesScripted : ℕ → ScriptedStreams → ScriptedStreams → Type 0
CompletesScripted code old new =
    (script heard : List ℕ) → GoesWell script heard old new → (code ≡ 0) ⊎ (code ≡ 3)

-- If both report their bytes and the run is done, the output took the answers to all lines of the
-- input, up to `quit`.
abbrev pub AnswersInput : ℕ → ScriptedStreams → ScriptedStreams → Type 0
AnswersInput code old new =
    (script heard : List ℕ) → old.file.left ≡ Some script → old.input.left ≡ Some heard → code ≡ 0
    → Appends old.output.taken new.output.taken (scripted_replies (blocks_of script) (items PEER_LINE heard))
