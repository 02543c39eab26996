use Rattle.std.proofs.Common.{◌∙◌, ◌++◌, ap, subst}
use Rattle.chess_board.specs.Position.{Position}
use Rattle.san_text.specs.Writing.{IsCheckMark}
use Rattle.san_text.proofs.Signs.{the_text}
use Rattle.san_text.proofs.Written.{read_back}
use Rattle.san_text.proofs.writing.write_san.Goals as goal

pub returns-clause-written : goal.returns-clause-written
returns-clause-written c = record {
  mark = c.mark.result.now;
  fits = subst (λ (p : Position). IsCheckMark p c.mark.result.now) c.play.ensures c.mark.ensures.fits;
  whole = c.put.ensures.items ∙ ap (λ t. t ++ c.mark.result.now) c.body-text.ensures.items;
}

pub returns-clause-text : goal.returns-clause-text
returns-clause-text c = (the_text c.args.at.now c.args.m c.put.new.text.items).0 (returns-clause-written c)

pub returns-clause-alone : goal.returns-clause-alone
returns-clause-alone c = read_back c.args.at.now c.args.m c.put.new.text.items c.requires (returns-clause-written c)
