-- `climbs::climb`: what is left of the climb after the turns so far.
use Rattle.std.proofs.lemmas.Result.{err_from_is_err_and}
use Rattle.base.proofs.Tells.{number-ne}
use Prim.Native.Nat.{◌+◌, ◌-◌}
use mathlib.Core.Path.{◌≡◌, refl}
use native.Mathlib.Omega.{arith}
use Rattle.climbs.proofs.Climbs.{climb-starts, way-met, way-root, way-ends, way-stuck, way-lost, way_on}
use Rattle.climbs.proofs.climb.Goals as goal

pub loop-k-init : goal.loop-k-init
loop-k-init c = climb-starts _ _ _ _

pub returns-then-at-c : goal.returns-then-at-c
returns-then-at-c c = way-met _ _ _ _ _ _ _ _ c.loop-k.invariant c.if-at-c.true

pub returns-then-at-eq2 : goal.returns-then-at-eq2
returns-then-at-eq2 c = way-root _ _ _ _ _ _ _ _ c.loop-k.invariant c.if-at-c.false c.if-at-eq2.true

pub returns-in_err-folder : goal.returns-in_err-folder
returns-in_err-folder c =
    let p = err_from_is_err_and c.from_residual.result c.from_residual.ensures.1 in
    rw (p.1, p.2) (way-stuck _ _ _ _ _ _ _ _ (rw c.in_err-folder.was at c.loop-k.invariant) (omega (arith, c.loop-k-test.true)) c.if-at-c.false c.if-at-eq2.false (number-ne c.in_err-folder.field-0.0))

pub returns-in_err-at : goal.returns-in_err-at
returns-in_err-at c =
    let p = err_from_is_err_and c.from_residual-in_err-at.result c.from_residual-in_err-at.ensures.1 in
    rw (p.1, p.2) (way-lost _ _ _ _ _ _ _ _ (rw c.in_ok-folder.was at c.loop-k.invariant) (omega (arith, c.loop-k-test.true)) c.if-at-c.false c.if-at-eq2.false refl (c.in_err-at.ensures c.args.mem.now) (number-ne c.in_err-at.field-0.0))

pub loop-k-preserved : goal.loop-k-preserved
loop-k-preserved c =
    let q : (4096 - c.loop-k.k) - 1 ≡ 4096 - (c.loop-k.k + 1) = omega arith in
    rw (← q) (way_on _ _ _ _ (4096 - c.loop-k.k) _ _ _ (rw c.in_ok-folder.was at c.loop-k.invariant) (omega (arith, c.loop-k-test.true)) c.if-at-c.false c.if-at-eq2.false refl (c.in_ok-at.ensures c.args.mem.now) refl c.record_on-noted.ensures)

pub returns : goal.returns
returns c = way-ends _ _ _ _ _ _ _ _ c.loop-k.invariant (omega (arith, c.loop-k-test.false)) c.climb_end.ensures
