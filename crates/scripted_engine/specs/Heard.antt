-- The answers that a script has given.
use Rattle.std.specs.Prelude.{◌≡◌, ◌≤◌, ⊤, ℕ, List, [], ◌++◌, true, false}
use Rattle.std.specs.Io.KnownBytes.{Appends}
use Rattle.line_io.specs.Causes.{Rose}
use Rattle.line_io.specs.Lines.{Piece}
use Rattle.line_io.specs.Source.{Received}
use Rattle.line_io.specs.LineConsumers.{ConsumerMeaning}
use Rattle.line_io.specs.declared.consumer.LinesEnd.{LinesEnd}
use Rattle.line_io.specs.declared.consumer.LinesEnd.TheVariants as ends
use Rattle.scripted_engine.specs.Blocks.{Block}
use Rattle.scripted_engine.specs.Queues.{ScriptedAnswers}
use Rattle.scripted_engine.specs.Answers.{ScriptAfterLines}
use Rattle.scripted_engine.specs.Ends.{until_quit, has_quit_line, scripted_replies}
use Rattle.scripted_engine.specs.declared.answering.Stop.{Stop}
use Rattle.scripted_engine.specs.declared.answering.Stop.TheVariants as stops
use Rattle.scripted_engine.specs.declared.ending.ScriptedEnding.{ScriptedEnding}
use Rattle.scripted_engine.specs.declared.ending.ScriptedEnding.TheVariants as endings

abbrev pub ending_of : LinesEnd Stop → ScriptedEnding
ending_of (ends.Stopped stops.Quit) = endings.Done
ending_of (ends.Stopped stops.WriteFailed) = endings.WriteFailed
ending_of ends.Ended = endings.Done
ending_of ends.ReadFailed = endings.ReadFailed
ending_of ends.Endless = endings.Endless

-- these lines were answered, and none of them begins with `quit`
pub record LinesAnswered (blocks : List Block) (pieces : List Piece) (table : ScriptedAnswers)
    (output0 output : Received) : Type 0 where
  pub replied : List ℕ
  pub took : Appends output0.taken output.taken replied
  pub writes : output0.faults ≤ output.faults
  pub stands : ScriptAfterLines table blocks (until_quit pieces)
  pub answered : replied ≡ scripted_replies blocks pieces
  pub no_quit : has_quit_line (until_quit pieces) ≡ false

-- the answers to these lines were written, or a prefix if a write failed
abbrev pub StopsBy : Stop → List Block → List Piece → List ℕ → Received → Received → Type 0
StopsBy stops.Quit blocks pieces replied output0 output =
    (replied ≡ scripted_replies blocks pieces) × (has_quit_line (until_quit pieces) ≡ true)
StopsBy stops.WriteFailed blocks pieces replied output0 output =
    Rose output0.faults output.faults × ((more : List ℕ) × (replied ++ more ≡ scripted_replies blocks pieces))

pub record ScriptedHalted (stop : Stop) (blocks : List Block) (pieces : List Piece)
    (output0 output : Received) : Type 0 where
  pub replied : List ℕ
  pub took : Appends output0.taken output.taken replied
  pub stops : StopsBy stop blocks pieces replied output0 output

-- the answers to lines
abbrev pub answers_of : {O : Type 0} → (O → Received) → ConsumerMeaning ScriptedAnswers O Stop
answers_of {O} see = record {
  took =
      λ table0 output0 pieces table output. (blocks : List Block) → ScriptAfterLines table0 blocks []
      → LinesAnswered blocks pieces table (see output0) (see output);
  stopped =
      λ table0 output0 pieces stop table output. (blocks : List Block) → ScriptAfterLines table0 blocks []
      → ScriptedHalted stop blocks pieces (see output0) (see output);
  may = λ table. ⊤;
  is_written = λ table. ⊤;
}
