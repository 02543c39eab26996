use Rattle.engine_revival.proofs.Agrees.{given_is_waited_for, answers_are_waited_for}
use Rattle.engine_revival.proofs.laws.lines_up_are_waited_for.Goals as goal

pub returns-clause-given : goal.returns-clause-given
returns-clause-given c = given_is_waited_for

pub returns-clause-answers : goal.returns-clause-answers
returns-clause-answers c = answers_are_waited_for
