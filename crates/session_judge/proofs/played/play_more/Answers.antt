use Rattle.std.proofs.Common.{sym, ◌∙◌}
use Rattle.session_judge.proofs.Lines.{plays_on, leads_on}
use Rattle.session_judge.proofs.played.play_more.Goals as goal

pub returns-in_err-end : goal.returns-in_err-end
returns-in_err-end c =
    c.from_residual.ensures ∙ sym c.in_err-end.was ∙ c.play_all.ensures
    ∙ sym (plays_on c.args.line.now c.args.at c.args.more.now c.requires)

pub keep-requires : goal.keep-requires
keep-requires c = leads_on c.args.line.now c.args.at c.in_ok-end.end c.args.more.now c.requires (sym c.play_all.ensures ∙ c.in_ok-end.was)

pub returns : goal.returns
returns c = sym (plays_on c.args.line.now c.args.at c.args.more.now c.requires ∙ sym c.play_all.ensures ∙ c.in_ok-end.was)
