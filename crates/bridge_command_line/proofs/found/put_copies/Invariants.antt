-- The rest of the texts completes the copies.
use Rattle.std.proofs.Common.{◌≡◌, ◌++◌, drop, map, string_bytes}
use Rattle.bridge_command_line.proofs.found.put_copies.Given as goal

abbrev pub invariant-loop-text : goal.invariant-loop-text
invariant-loop-text l = record {
  copies : map string_bytes l.copies.items ++ map (λ s. s.now) (drop l.text-index l.texts) ≡ map string_bytes l.initial.copies.items ++ map (λ s. s.now) l.texts;
}
