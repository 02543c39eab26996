use Rattle.std.proofs.Common.{◌∙◌, refl}
use Rattle.reviver_runner.proofs.ReadSteps.{turn_as, opens, goes_more, read_done, read_fault, read_cut, read_none}
use Rattle.reviver_runner.proofs.reading.read_lines.Goals as goal

pub returns-in_default-clause-read : goal.returns-in_default-clause-read
returns-in_default-clause-read g c = read_none _ _

pub loop-init : goal.loop-init
loop-init g c = record { keeps = (c.requires.sender, refl, refl); read = opens c.in-Ok.lines _ _ c.in-Ok.ensures c.requires.going }

pub loop-preserved : goal.loop-preserved
loop-preserved g c =
    record {
      keeps = (c.read_turn.ensures.keeps.0, c.read_turn.ensures.keeps.1 ∙ c.loop.invariant.keeps.1, c.read_turn.ensures.keeps.2 ∙ c.loop.invariant.keeps.2);
      read = goes_more _ _ _ _ _ _ _ _ c.loop.invariant.read (turn_as _ _ _ _ _ _ _ _ c.in-More.is c.read_turn.ensures.goes);
    }

pub returns-in-Done-clause-read : goal.returns-in-Done-clause-read
returns-in-Done-clause-read g c =
    read_done _ _ _ _ _ _ _ _ c.loop.invariant.read c.lines_of_all_calls.ensures.at_end (turn_as _ _ _ _ _ _ _ _ c.in-Done.is c.read_turn.ensures.goes)

pub returns-in-Fault-clause-read : goal.returns-in-Fault-clause-read
returns-in-Fault-clause-read g c =
    read_fault _ _ _ _ _ _ _ _ c.loop.invariant.read _ c.lines_of_all_calls.ensures.at_fault (turn_as _ _ _ _ _ _ _ _ c.in-Fault.is c.read_turn.ensures.goes)

pub returns-in-NoMemory-clause-read : goal.returns-in-NoMemory-clause-read
returns-in-NoMemory-clause-read g c =
    read_cut _ _ _ _ _ _ _ _ c.loop.invariant.read c.lines_of_all_calls.ensures.so_far (turn_as _ _ _ _ _ _ _ _ c.in-NoMemory.is c.read_turn.ensures.goes)
