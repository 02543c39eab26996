-- The input of an engine.
use Rattle.std.specs.Prelude.{ℕ, ◌==◌, ◌&&◌, ◌||◌, Bool, List, [], ◌∷◌, ◌++◌, length, codes, nat_eq}
use Rattle.std.specs.List.{ends_with}
use Rattle.line_io.specs.Source.{Received}
use Rattle.child_engine.specs.Closing as closing
use Rattle.child_engine.specs.declared.input.EngineInput.{EngineInput}
use Rattle.line_io.specs.Lines.{line_feed}

-- it reports nothing of what was taken, since nobody keeps that after `quit`
abbrev pub shown_by_input : {W : Type 0} → EngineInput W → Received
shown_by_input input = closing.shown_by_closing input.sink

-- the writer is held: it was not closed, and took no line `quit`
abbrev pub is_input_open : {W : Type 0} → EngineInput W → Bool
is_input_open input = closing.is_writer_held input.sink

abbrev pub quit_line : List ℕ
quit_line = codes "quit" ++ line_feed ∷ []

-- the last of the lines is `quit`
abbrev pub ends_with_quit : List ℕ → Bool
ends_with_quit lines =
    ends_with nat_eq lines (line_feed ∷ quit_line)
    || (length lines == 5 && ends_with nat_eq lines quit_line)
