-- Of the pieces that `split` gives the one with the number.
use Rattle.std.proofs.Common.{rules}
use borrow.Author.Tests.{tests}
use Rattle.std.proofs.lemmas.Iterator.Consumers.{nth_from_yields_List}
use Rattle.std.proofs.lemmas.Iterator.Splits.{YieldsList-from_slice_split}
use Rattle.fen_text.specs.Squares.{is_slash}
use Rattle.fen_text.proofs.squares.nth_rank.Goals as goal

pub returns : goal.returns
returns c = nth_from_yields_List c.nth.result _ c.args.n c.nth.ensures.ran
    (YieldsList-from_slice_split _ is_slash c.args.field.now c.split.ensures.rest c.split.ensures.done c.split.ensures.closure (λ x r q k. search (rules, tests)))
