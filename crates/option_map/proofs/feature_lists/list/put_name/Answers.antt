use Rattle.std.proofs.Common.{ap, ◌∙◌, codes}
use Rattle.line_io.specs.Out.{Text, with}
use Rattle.option_map.proofs.DeclaredOptions.Lists.{named}
use Rattle.option_map.proofs.feature_lists.list.put_name.Goals as goal

pub returns : goal.returns
returns c =
    c.put-3.ensures ∙ ap (λ (t : Text). with t (codes "\"\n")) (c.put-2.ensures ∙ ap (λ (t : Text). with t c.args.name.now) c.put.ensures) ∙ named c.args.out.now c.args.name.now
