use Rattle.std.proofs.Common.{◌≤◌, List, ℕ, subst, ◌∙◌, ◌++◌, take, length, ap, sym, arith, length-append}
use Rattle.line_io.specs.Lines.{SourceGave}
use Rattle.scripted_engine.proofs.Reading.{gave_none, gave_taken, gave_kept, none_taken, prefix_taken, no_memory}
use Rattle.scripted_engine.proofs.Hearing.{rose_later}
use Rattle.scripted_engine.proofs.run.read_script.Goals as goal

pub loop-script-init : goal.loop-script-init
loop-script-init g c =
    let file = g.F.Source.state c.args.file.now in
    record {
      gave = gave_none file c.new-script.result.items c.new-script.ensures.items;
      fits = omega (arith, ap length c.new-script.ensures.items);
      chunk = c.in_ok-chunk.ensures.len;
      later = omega arith;
    }

pub returns-in-Err : goal.returns-in-Err
returns-in-Err g c =
    let old = g.F.Source.state c.args.file.now in
    let now = g.F.Source.state c.loop-script.file in
    let new = g.F.Source.state c.read.new.self in
    let i = c.loop-script.invariant in (
      c.loop-script.script.items,
      gave_kept old now new c.loop-script.script.items i.gave c.in-Err.ensures.gives c.in-Err.ensures.takes,
      (i.fits, rose_later old.faults now.faults new.faults i.later c.in-Err.ensures.cause.failed),
    )

pub returns-in-Ok-eq0 : goal.returns-in-Ok-eq0
returns-in-Ok-eq0 g c =
    let old = g.F.Source.state c.args.file.now in
    let now = g.F.Source.state c.loop-script.file in
    let new = g.F.Source.state c.read.new.self in
    let i = c.loop-script.invariant in
    let got = take c.in-Ok-eq0.field-0 c.read.new.buf in
    let same = none_taken c.loop-script.script.items c.read.new.buf c.in-Ok-eq0.field-0 c.in-Ok-eq0.field-0-test in (
      c.loop-script.script.items ++ got,
      gave_taken old now new c.loop-script.script.items got i.gave c.in-Ok-eq0.ensures.gives c.in-Ok-eq0.ensures.takes.0,
      (same, record { fits = omega (arith, ap length same, i.fits); at_end = c.in-Ok-eq0.ensures.takes.1 c.in-Ok-eq0.field-0-test }),
    )

pub returns-then-count-len : goal.returns-then-count-len
returns-then-count-len g c =
    let old = g.F.Source.state c.args.file.now in
    let now = g.F.Source.state c.loop-script.file in
    let new = g.F.Source.state c.read.new.self in
    let i = c.loop-script.invariant in
    let got = take c.in-Ok.count c.read.new.buf in (
      c.loop-script.script.items ++ got,
      gave_taken old now new c.loop-script.script.items got i.gave c.in-Ok.ensures.gives c.in-Ok.ensures.takes.0,
      omega (arith, length-append c.loop-script.script.items got, c.in-Ok.ensures.bound.1, c.len.ensures, c.if-count-len.true, i.fits),
    )

pub loop-script-preserved : goal.loop-script-preserved
loop-script-preserved g c =
    let old = g.F.Source.state c.args.file.now in
    let now = g.F.Source.state c.loop-script.file in
    let new = g.F.Source.state c.read.new.self in
    let i = c.loop-script.invariant in
    let got = take c.in-Ok.count c.read.new.buf in
    let fits : length (c.loop-script.script.items ++ got) ≤ 16777216 = omega (arith, length-append c.loop-script.script.items got, c.in-Ok.ensures.bound.1, c.len.ensures, c.if-count-len.false, i.fits) in
    let prefix = ap (λ l. take c.in-Ok.count l) c.deref.ensures.value ∙ prefix_taken c.in-Ok.count c.loop-script.chunk.len c.read.new.buf _ c.in-Ok.ensures.bound.0 (omega (arith, c.in-Ok.ensures.bound.0, c.deref_mut.ensures.len, c.read.auto.buf)) in
    let items = c.in_ok-extend_from_slice-in-Ok.ensures.items ∙ ap (λ l. c.loop-script.script.items ++ l) prefix in
    record {
      gave = subst (λ (l : List ℕ). SourceGave old new l) (sym items) (gave_taken old now new c.loop-script.script.items got i.gave c.in-Ok.ensures.gives c.in-Ok.ensures.takes.0);
      fits = omega (arith, ap length items, fits);
      chunk = i.chunk;
      later = omega (arith, i.later, c.in-Ok.ensures.cause.later);
    }

pub returns-in_err-extend_from_slice-in-Ok : goal.returns-in_err-extend_from_slice-in-Ok
returns-in_err-extend_from_slice-in-Ok g c =
    let old = g.F.Source.state c.args.file.now in
    let now = g.F.Source.state c.loop-script.file in
    let new = g.F.Source.state c.read.new.self in
    let i = c.loop-script.invariant in
    let got = take c.in-Ok.count c.read.new.buf in
    let fits : length (c.loop-script.script.items ++ got) ≤ 16777216 = omega (arith, length-append c.loop-script.script.items got, c.in-Ok.ensures.bound.1, c.len.ensures, c.if-count-len.false, i.fits) in (
      c.loop-script.script.items ++ got,
      gave_taken old now new c.loop-script.script.items got i.gave c.in-Ok.ensures.gives c.in-Ok.ensures.takes.0,
      no_memory c.from_residual-in_err-extend_from_slice-in-Ok.result old new (c.loop-script.script.items ++ got) c.from_residual-in_err-extend_from_slice-in-Ok.ensures.1 fits,
    )
