-- `fsck_climb::reaches_root`: each step leads to an id of the maps.
use native.Mathlib.Omega.{arith}
use Rattle.fsck_climb.proofs.Ways.{climb-none, climb-more, past-none, past_more, reach-yes, reach-no}
use Rattle.fsck_climb.proofs.reaches_root.Goals as goal

pub loop-init : goal.loop-init
loop-init c =
    (c.requires.1, (climb-none c.args.parents.now c.args.id, past-none c.args.parents.now c.args.id))

pub returns-then-at-eq2 : goal.returns-then-at-eq2
returns-then-at-eq2 c =
    reach-yes c.args.parents.now c.args.id 4097 c.loop.counter c.loop.at (omega arith) c.loop.invariant.1.1 c.loop.invariant.1.0 c.if-at-eq2.true

pub loop-preserved : goal.loop-preserved
loop-preserved c =
    let e = c.index16-at.ensures in (
      omega (arith, e, c.requires.0.each c.loop.at (omega arith)),
      (
        climb-more c.args.parents.now c.args.id c.loop.counter c.loop.at c.index16-at.result c.loop.invariant.1.0 e,
        past_more c.args.parents.now c.args.id c.loop.counter c.loop.at c.loop.invariant.1.0 c.if-at-eq2.false c.loop.invariant.1.1,
      ),
    )

pub returns : goal.returns
returns c =
    reach-no c.args.parents.now c.args.id 4097 c.loop.counter (omega arith) c.loop.invariant.1.1
