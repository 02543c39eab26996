use Rattle.std.proofs.Common.{◌∙◌, ◌+◌, ◌≡◌, length, [], ℕ, ap, sym, arith, List}
use Rattle.scripted_engine.specs.Blocks.{Block}
use Rattle.scripted_engine.specs.Script.{script_line_in, lines_of, some_stand}
use Rattle.scripted_engine.specs.Faults.{IsFirstBad}
use Rattle.scripted_engine.proofs.Made.{continued, bad_after, continued_grown, stand_grown, bad_step, lines_cut, less_behind, continued_end, not_zero, none_left, first_of_all, same_fault}
use Rattle.scripted_engine.proofs.script.read_blocks.Goals as goal

pub returns-in_err-add_line-clause-bad : goal.returns-in_err-add_line-clause-bad
returns-in_err-add_line-clause-bad c =
    let some = not_zero (length c.loop-rest.rest.now) (sym c.is_empty.ensures ∙ c.loop-rest-test.true) in
    let cut = lines_cut c.loop-rest.rest.now c.split_line.result.0.now c.split_line.result.1.now some c.split_line.ensures.line c.split_line.ensures.rest in
    same_fault c.from_residual.result c.in_err-add_line.field-0.0 (IsFirstBad c.args.script.now) c.from_residual.ensures.1
    (first_of_all c.args.script.now c.loop-rest.number (some_stand c.loop-rest.blocks.items) (script_line_in c.split_line.result.0.now) (lines_of c.split_line.result.1.now) c.in_err-add_line.field-0.0
    (ap (λ l. bad_after c.loop-rest.number (some_stand c.loop-rest.blocks.items) l) (sym cut) ∙ c.loop-rest.invariant.bad) c.in_err-add_line.ensures.bad)

pub loop-rest-preserved : goal.loop-rest-preserved
loop-rest-preserved c =
    let some = not_zero (length c.loop-rest.rest.now) (sym c.is_empty.ensures ∙ c.loop-rest-test.true) in
    let turns = c.loop-rest.blocks.items in
    let number = c.loop-rest.number in
    let said = script_line_in c.split_line.result.0.now in
    let after = lines_of c.split_line.result.1.now in
    let cut = lines_cut c.loop-rest.rest.now c.split_line.result.0.now c.split_line.result.1.now some c.split_line.ensures.line c.split_line.ensures.rest in
    let grows = c.in_ok-add_line.ensures.grown in
    let fits = c.in_ok-add_line.ensures.ok in
    record {
      blocks = ap (λ (ts : List Block). continued ts after) grows ∙ continued_grown turns said after fits ∙ ap (λ l. continued turns l) (sym cut) ∙ c.loop-rest.invariant.blocks;
      bad = ap (λ (ts : List Block). bad_after (number + 1) (some_stand ts) after) grows ∙ ap (λ v. bad_after (number + 1) v after) (stand_grown turns said) ∙ sym (bad_step number (some_stand turns) said after fits) ∙ ap (λ l. bad_after number (some_stand turns) l) (sym cut) ∙ c.loop-rest.invariant.bad;
      count = omega (arith, less_behind c.loop-rest.rest.now c.split_line.result.1.now some c.split_line.ensures.rest, c.loop-rest.invariant.count);
    }

pub returns-clause-blocks : goal.returns-clause-blocks
returns-clause-blocks c =
    let none : c.loop-rest.rest.now ≡ [] = none_left c.loop-rest.rest.now (sym c.is_empty.ensures ∙ c.loop-rest-test.false) in
    sym (continued_end c.loop-rest.blocks.items) ∙ ap (λ (l : List ℕ). continued c.loop-rest.blocks.items (lines_of l)) (sym none) ∙ c.loop-rest.invariant.blocks
