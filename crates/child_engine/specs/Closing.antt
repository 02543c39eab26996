-- A writer that can be closed.
use Rattle.std.specs.Prelude.{ℕ, List, take, Bool, Option, None, Some, is_some, Result, ⊤}
use Rattle.std.specs.Io.KnownBytes.{Appends, WriteAppends}
use Rattle.line_io.specs.Source.{Received}
use Rattle.child_engine.specs.declared.closing.Closing.{Closing}

-- it reports nothing of what was taken, since nobody keeps that once the writer is gone
abbrev pub shown_by_closing : {W : Type 0} → Closing W → Received
shown_by_closing sink = record { taken = None; faults = sink.faults }

-- the writer was not closed yet
abbrev pub is_writer_held : {W : Type 0} → Closing W → Bool
is_writer_held sink = is_some sink.writer

-- A writer that is still there took what is answered of the piece, as far as it tells what it took;
-- of one that is gone nothing is said.
abbrev pub HandsOn : {W E : Type 0} → (W → Option (List ℕ)) → Option W → Option W → Result ℕ E
    → List ℕ → Type 0
HandsOn took (Some old) (Some new) result piece = WriteAppends (took old) (took new) result piece
HandsOn took old new result piece = ⊤

-- Also a writer that the call closed took what is answered of the piece, before it was closed.
abbrev pub TookFirst : {W : Type 0} → (W → Option (List ℕ)) → Option W → ℕ → List ℕ → Type 0
TookFirst {W} took (Some old) n piece = (new : W) × Appends (took old) (took new) (take n piece)
TookFirst took None n piece = ⊤
