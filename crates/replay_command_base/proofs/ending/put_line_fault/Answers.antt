use Rattle.std.proofs.Common.{◌∙◌, ap, codes, decimal, List, ℕ}
use Rattle.line_io.specs.Out.{Text, with}
use Rattle.replay_command_base.proofs.Pieces.{three}
use Rattle.replay_command_base.proofs.ending.put_line_fault.Goals as goal

pub returns : goal.returns
returns c =
    let digits = c.as_bytes.ensures.value ∙ c.format.ensures.text in
    c.put-3.ensures ∙ ap (λ (t : Text). with t c.args.tail.now) (c.put-2.ensures ∙ ap (λ (l : List ℕ). with c.put.new.self l) digits ∙ ap (λ (t : Text). with t (decimal c.args.line)) c.put.ensures)
    ∙ three c.args.out.now (codes "replay: line ") (decimal c.args.line) c.args.tail.now
