use Rattle.std.proofs.Common.{List, ℕ, ◌∙◌, ap, arith}
use Rattle.adapter_core.specs.Trace.{iface_text}
use Rattle.random_games.specs.Sent.{counted_texts}
use Rattle.random_games.specs.declared.tally.Tally.{Tally}
use Rattle.random_games.proofs.Shows.{counts_step}
use Rattle.random_games.proofs.session.step.Goals as goal

pub returns : goal.returns
returns c =
    let x = c.step-lines.follows.holds-at-none in
    let t = c.args.tally.now in
    let texts = c.count.ensures.counted ∙ ap (λ (l : List ℕ). counted_texts t l c.step-lines.result.engine.now) x.iface_is ∙ ap (λ (l : List ℕ). counted_texts t (iface_text x.step) l) x.engine_is in
    record {
      step = x.step;
      event = x.event;
      extends = x.extends;
      tally_is = λ o trace l. texts ∙ counts_step o x.step trace t l;
      few = record {
        to_iface = omega (arith, c.count.ensures.to_iface, c.requires.few.1.to_iface, ap (λ (k : Tally). k.steps) c.count.ensures.counted);
        to_engine = omega (arith, c.count.ensures.to_engine, c.requires.few.1.to_engine, ap (λ (k : Tally). k.steps) c.count.ensures.counted);
        shown = omega (arith, c.count.ensures.shown, c.requires.few.1.shown, ap (λ (k : Tally). k.steps) c.count.ensures.counted);
      };
    }
