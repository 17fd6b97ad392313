-- `calls_path::write_path`: the path so far, and the lent slot has its length. The measure is the folders whose names are still to be written.
use mathlib.Core.Path.{sym, ◌∙◌}
use native.Mathlib.Omega.{arith}
use Rattle.calls_path.proofs.Spans.{path-starts, length-now, span_fits, span-on, path-ends}
use Rattle.calls_path.proofs.write_path.Goals as goal

pub loop-below-init : goal.loop-below-init
loop-below-init c = let p = c.requires in (p.whole.1, path-starts p.path_fits)

pub write_span-at-requires : goal.write_span-at-requires
write_span-at-requires c =
    let p = c.requires in
    let so_far = c.loop-below.invariant in record { led = p.led; whole = (p.whole.0, so_far.0); span_fits = span_fits so_far.1 c.loop-below-test.true }

pub loop-below-smaller : goal.loop-below-smaller
loop-below-smaller c = omega (arith, c.loop-below-test.true)

pub loop-below-preserved : goal.loop-below-preserved
loop-below-preserved c =
    let so_far = c.loop-below.invariant in
    (c.write_span-at.auto.slot ∙ so_far.0, span-on so_far.1 c.loop-below-test.true c.write_span-at.ensures)

pub shape_of-slot : goal.shape_of-slot
shape_of-slot c = c.loop-below.invariant.0 ∙ sym c.requires.whole.1

pub shape_of-out : goal.shape_of-out
shape_of-out c = length-now c.loop-below.invariant.1

pub returns : goal.returns
returns c = path-ends c.loop-below.invariant.1 (omega (arith, c.loop-below-test.false))
