-- None of the texts before has a line feed.
use Rattle.std.proofs.Common.{◌≡◌, drop, map}
use Rattle.std.specs.List.{list_any}
use Rattle.line_io.specs.Event.{has_feed}
use Rattle.bridge_command_line.proofs.lines.text_with_feed.Given as goal

abbrev pub invariant-loop-text : goal.invariant-loop-text
invariant-loop-text l = record {
  rest : list_any has_feed (map (λ s. s.now) (drop l.text-index l.texts)) ≡ list_any has_feed (map (λ s. s.now) l.texts);
}
