use Rattle.std.proofs.Common.{◌≡◌, ℕ, suc, refl, ap, sym, subst, arith}
use Rattle.line_io.specs.Lines.{Held}
use Rattle.line_io.specs.Taken.{Place}
use Rattle.line_io.specs.LineConsumers.{ConsumerMeaning}
use Rattle.line_io.specs.Turns.{ConsumerReached, work}
use Rattle.line_io.proofs.turns.take_held.Goals as goal

-- the state that was reached, said of an equal one
at_same : {S O X : Type 0} (means : ConsumerMeaning S O X) (limit : ℕ) (first now : Place S O) (before held : Held) (calls number : ℕ) → held ≡ before → ConsumerReached means limit first now before calls number → ConsumerReached means limit first now held calls number
at_same means limit first now before held calls number same r = subst (λ (h : Held). ConsumerReached means limit first now h calls number) (sym same) r

pub returns-in-Some-clause-drained : goal.returns-in-Some-clause-drained
returns-in-Some-clause-drained g c = λ first limit calls h. let i = c.loop-is_ready.invariant.reached first limit calls h in c.in-Some.ensures.after first limit i.0 i.2

pub loop-is_ready-preserved : goal.loop-is_ready-preserved
loop-is_ready-preserved g c =
    let same = c.is_ready-is_ready-in-loop-is_ready.ensures.same in
    record {
      ready = c.is_ready-is_ready-in-loop-is_ready.ensures.ready;
      waits = c.is_ready-is_ready-in-loop-is_ready.ensures.waiting;
      may = c.in_default.ensures.may refl;
      few = omega (arith, c.loop-is_ready.invariant.few, c.in_default.ensures.count, c.in_default.ensures.falls refl (c.loop-is_ready.invariant.ready c.loop-is_ready-test.true), ap work same);
      reached = λ first limit calls h.
          let i = c.loop-is_ready.invariant.reached first limit calls h in
          (suc i.0, omega (arith, i.1), at_same g.T.LineConsumer.means limit first _ _ _ (suc i.0) _ same (c.in_default.ensures.after first limit i.0 i.2));
    }
