use Rattle.std.proofs.Common.{ℕ, List, ap, sym, ◌∙◌, append_assoc}
use Rattle.std.specs.Prelude.{codes}
use Rattle.std.specs.Option.{option_map}
use Rattle.line_io.specs.Out.{Text, with}
use Rattle.cecp_lines.specs.declared.reply.Loss.{Loss as CodeLoss}
use Rattle.cecp_lines.specs.Losses.{loss_of, loss_text, quoted_text}
use Rattle.cecp_lines.proofs.losses.put_loss.Goals as goal

pub returns-in-IllegalMove : goal.returns-in-IllegalMove
returns-in-IllegalMove c =
    let text = quoted_text (option_map (λ a. a.now) c.in-IllegalMove.answer) in
    c.put_quoted.ensures
    ∙ ap (λ (t : Text). with t text) c.put.ensures
    ∙ ap (λ (l : List ℕ). let t : Text = record { text = l; room = c.args.out.now.room } in t) (append_assoc c.args.out.now.text (codes "Illegal move by engine") text)
    ∙ ap (λ (x : CodeLoss). with c.args.out.now (loss_text (loss_of x))) (sym c.in-IllegalMove.is)
