use Rattle.std.proofs.Common.{◌≡◌, ◌↔◌, ◌∙◌, ap, sym, subst, take, filter, List, Result, Err}
use Rattle.std.specs.List.{Contains, AllPairs}
use Rattle.chess_board.specs.declared.board.Move.{Move}
use Rattle.chess_board.specs.Laws.{IsLegal}
use Rattle.chess_board.specs.Text.{ComesBefore}
use Rattle.san_text.specs.Fit.{agrees, SanReads}
use Rattle.san_text.specs.Spelling.{plain_spelling, plains}
use Rattle.san_text.specs.declared.fault.SanFault.{SanFault}
use Rattle.san_text.specs.declared.fault.SanFault.TheVariants.{BadSan, Ambiguous}
use Rattle.san_text.proofs.Written.{read_written}
use Rattle.san_text.proofs.Found.{found_more, found_same, read_end, read_two, all_found}
use Rattle.san_text.proofs.reading.read_san.Goals as goal

pub returns-then-is_some-clause-read : goal.returns-then-is_some-clause-read
returns-then-is_some-clause-read c =
    let xs = c.as_slice-m-items.result.now in
    let is = c.as_slice-m-items.ensures.value in
    let each = subst (λ (ys : List Move). (m : Move) → Contains ys m ↔ IsLegal c.args.at.now m.from.index m.to.index m.promotion) (sym is) c.moves.ensures.each in
    let ordered = subst (λ (ys : List Move). AllPairs ComesBefore ys) (sym is) c.moves.ensures.ordered in
    read_two c.args.at.now c.args.text.now (plain_spelling c.in-Some.spelling) xs c.loop-m.m-index c.m-item.result c.loop-m.found (sym c.read_spelling.ensures ∙ ap plains c.in-Some.is) each ordered c.loop-m-test.true c.m-item.is
    (sym c.agrees.ensures ∙ c.if-agrees.true) c.loop-m.invariant (sym c.is_some.ensures ∙ c.if-is_some.true)

pub returns-clause-read : goal.returns-clause-read
returns-clause-read c =
    let xs = c.as_slice-m-items.result.now in
    let is = c.as_slice-m-items.ensures.value in
    let each = subst (λ (ys : List Move). (m : Move) → Contains ys m ↔ IsLegal c.args.at.now m.from.index m.to.index m.promotion) (sym is) c.moves.ensures.each in
    subst (λ (r : Result Move SanFault). SanReads c.args.at.now c.args.text.now r) (sym c.ok_or.ensures.value)
    (read_end c.args.at.now c.args.text.now (plain_spelling c.in-Some.spelling) xs c.loop-m.found (sym c.read_spelling.ensures ∙ ap plains c.in-Some.is) each
    (all_found (agrees c.args.at.now (plain_spelling c.in-Some.spelling)) xs c.loop-m.m-index c.loop-m.found c.loop-m-test.false c.loop-m.invariant))

pub returns-then-is_some-clause-written : goal.returns-then-is_some-clause-written
returns-then-is_some-clause-written c = λ m h w. read_written c.args.at.now m c.args.text.now (Err Ambiguous) h w (returns-then-is_some-clause-read c)

pub returns-clause-written : goal.returns-clause-written
returns-clause-written c = λ m h w. read_written c.args.at.now m c.args.text.now c.ok_or.result h w (returns-clause-read c)

pub returns-in_default-clause-written : goal.returns-in_default-clause-written
returns-in_default-clause-written c = λ m h w. read_written c.args.at.now m c.args.text.now (Err BadSan) h w (sym c.read_spelling.ensures ∙ ap plains c.in_default.is)
