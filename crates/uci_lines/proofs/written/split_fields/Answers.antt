use Rattle.std.proofs.Common.{◌+◌, ℕ, ◌∙◌, take, drop, sym, ap, arith}
use Rattle.uci_lines.specs.Written.{fields_before}
use Rattle.uci_lines.proofs.Parts.{moved, byte_passed, blank_passed, blank_is, blank_is_not}
use Rattle.uci_lines.proofs.written.split_fields.Goals as goal
use Rattle.uci_lines.proofs.written.split_fields.Goals.{then-byte-eq32+else-blanks-eq0, else-byte-eq32}

pub loop-i-preserved : goal.loop-i-preserved
loop-i-preserved c =
    let text = c.args.text.now in
    let i = c.loop-i.i in
    let later = λ (n : ℕ). moved (take (i + 1) text) (fields_before n (drop (i + 1) text)) in
    elim c.if-byte-eq32.branch [
      | then-byte-eq32+else-blanks-eq0 w ↦ blank_passed text i c.loop-i.blanks _ (omega arith) (blank_is _ w.if-byte-eq32.true) (omega arith) c.loop-i.invariant ∙ ap later (sym w.blanks-is)
      | else-byte-eq32 w ↦ byte_passed text i c.loop-i.blanks _ (omega arith) (blank_is_not _ w.if-byte-eq32.false) c.loop-i.invariant ∙ ap later (sym w.blanks-is)
    ]
