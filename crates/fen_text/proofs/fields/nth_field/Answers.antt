-- The pieces that `split` gives, those with a byte, and of these the one with the number.
use Rattle.std.proofs.Common.{rules}
use borrow.Author.Tests.{tests}
use Rattle.std.proofs.lemmas.Iterator.Consumers.{nth_from_yields_List, YieldsList-from_filter}
use Rattle.std.proofs.lemmas.Iterator.Splits.{YieldsList-from_slice_split}
use Rattle.protocol_tokens.specs.Tokens.{is_white}
use Rattle.fen_text.proofs.Cut.{is_field}
use Rattle.fen_text.proofs.fields.nth_field.Goals as goal

pub returns : goal.returns
returns c = nth_from_yields_List c.nth.result _ c.args.n c.nth.ensures.ran
    (YieldsList-from_filter _ is_field
    (YieldsList-from_slice_split _ is_white c.args.text.now (cc) (cc) (cc) (λ x r q k. search (rules, tests)))
    c.filter.ensures.closure (λ x r q k. search (rules, tests)))
