-- The promise of the command `moves`.
use Rattle.std.specs.Prelude.{◌≡◌, ◌⊎◌, ℕ, List, Result, Err, IsOk}
use Rattle.std.specs.Io.KnownBytes.{Appends}
use Rattle.chess_board.specs.Position.{Position}
use Rattle.fen_text.specs.Fen.{position_of}
use Rattle.fen_text.specs.declared.fault.FenFault.{FenFault}
use Rattle.replay_command_base.specs.Diagnostics.{position_fault}
use Rattle.replay_commands_on_core.specs.Moves.{FindsNoPosition, Lists, ListsAll, ListsPrefix}
use Rattle.replay_command_base.specs.Ran.{WritingBroke}
use Rattle.replay_command_base.specs.Streams.{FilterStreams, HasNoFault}

-- The moves of a text that spells a position are written, or there was no memory.
abbrev pub CompletesList : Result Position FenFault → FilterStreams → FilterStreams → ℕ → Type 0
CompletesList spelled before after code = IsOk spelled → HasNoFault before after → (code ≡ 0)
    ⊎ (code ≡ 3)

-- The fault of a text that spells none is reported, or there was no memory.
abbrev pub ReportsPositionFault : Result Position FenFault → FilterStreams → FilterStreams → ℕ → Type 0
ReportsPositionFault spelled before after code =
    (fault : FenFault) → spelled ≡ Err fault → HasNoFault before after
    → ((code ≡ 2) × Appends before.diag.taken after.diag.taken (position_fault fault)) ⊎ (code ≡ 3)

-- exactly the legal moves were written, and nothing to the diagnostic
pub record MovesWritten (spelled : Result Position FenFault) (Silent : Type 0)
    (before after : FilterStreams) : Type 0 where
  pub moves : ListsAll spelled before.output after.output
  pub silent : Silent
  pub no_failure : after.output.faults ≡ before.output.faults

-- The moves of the position that the text spells. `Unread`, `Kept` and `Silent` say that the
-- input, the output and the diagnostic are
-- just as they were.
pub record Listed (text : List ℕ) (Unread Kept Silent : Type 0) (before after : FilterStreams)
    (code : ℕ) : Type 0 where
  pub unread : Unread
  pub ended : Lists (position_of text) Kept Silent code before.output after.output before.diag
      after.diag
  -- the meaning of each status
  pub all_listed : code ≡ 0 → MovesWritten (position_of text) Silent before after
  pub no_position : code ≡ 2 → Kept × FindsNoPosition (position_of text) before.diag after.diag
  pub no_memory : code ≡ 3 → Kept
  pub writing_failed : code ≡ 5
      → WritingBroke before after × (Kept ⊎ ListsPrefix (position_of text) before.output
      after.output)
  pub no_reading : (code ≡ 4 → ⊥) × (code ≡ 6 → ⊥)
  -- which status comes
  pub complete : CompletesList (position_of text) before after code
  pub fault_announced : ReportsPositionFault (position_of text) before after code
