use Rattle.std.proofs.Common.{◌∙◌, ap}
use Rattle.san_text.specs.LongForm.{long_read}
use Rattle.san_text.proofs.LongForms.{long_is}
use Rattle.san_text.proofs.long_form.read_long_form.Goals as goal

pub returns : goal.returns
returns c =
    long_is c.args.at.now c.args.text.now c.read_piece.result
    (c.read_piece.ensures ∙ ap (long_read c.args.at.now) c.unmarked.ensures)
