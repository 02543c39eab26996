use Rattle.scripted_engine.proofs.Hearing.{heard_long}
use Rattle.scripted_engine.proofs.answering.ScriptedLineConsumer.long.Goals as goal

pub returns-clause-takes : goal.returns-clause-takes
returns-clause-takes g c = λ s0 o0 pieces t number blocks stands. heard_long blocks pieces _ _ _ (t blocks stands)
