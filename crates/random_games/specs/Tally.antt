-- The counts of a drill.
use Rattle.std.specs.Prelude.{ℕ, ◌+◌, ◌-◌, List, [], ◌∷◌, ◌++◌, length, codes, decimal}
use Rattle.line_io.specs.Lines.{parts_by_feed, line_feed}
use Rattle.adapter_core.specs.Shown.{moves_shown}
use Rattle.adapter_core.specs.Trace.{Step, iface_text, engine_text}
use Rattle.random_games.specs.declared.tally.Tally.{Tally}

abbrev pub nothing : Tally
nothing = record { steps = 0; to_iface = 0; to_engine = 0; shown = 0 }

-- one step more, with the lines that it wrote to both peers and the moves that it showed
abbrev pub games_tally_after : Tally → Step → Tally
games_tally_after t step = record {
  steps = t.steps + 1;
  to_iface = t.to_iface + length (parts_by_feed (iface_text step));
  to_engine = t.to_engine + length (parts_by_feed (engine_text step));
  shown = t.shown + length (moves_shown step.replies);
}

-- the counts of a trace, whose newest step stands first
abbrev pub tally_of : List Step → Tally
tally_of [] = nothing
tally_of (step ∷ trace) = games_tally_after (tally_of trace) step

-- the line of a drill: Open is not counted
abbrev pub drill_report_line : ℕ → ℕ → Tally → List ℕ → List ℕ
drill_report_line number count t fen =
    codes "drill " ++ decimal number ++ codes " " ++ decimal count ++ codes ": "
    ++ decimal (t.steps - 1) ++ codes " events, " ++ decimal t.to_iface
    ++ codes " lines to the interface, " ++ decimal t.to_engine ++ codes " lines to the engine, "
    ++ decimal t.shown ++ codes " moves shown, " ++ fen ++ line_feed ∷ []
