use Rattle.std.proofs.Common.{Some, sym, ◌∙◌}
use Rattle.std.proofs.lemmas.Slice.Eq.{strip_prefix_is}
use Rattle.std.proofs.lemmas.Bool.Decides.{Decides-eqb}
use Rattle.session_judge.proofs.played.added.Goals as goal

pub returns-then-begins_white : goal.returns-then-begins_white
returns-then-begins_white c = record {
  whole = strip_prefix_is Decides-eqb c.args.line.now c.args.known.now (Some c.in_ok-more.more) c.in_ok-more.ensures.cases;
  apart = sym c.begins_white.ensures ∙ c.if-begins_white.true;
}
