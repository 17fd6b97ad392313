-- `calls_walk::run`: what the turns so far keep. The measure is two for each link left and one for each rest.
use Rattle.calls_walk.proofs.Runs.{running-starts, running-on, running-ends}
use Rattle.mem.specs.State.{fs_at}
use borrow.Author.Tests.{not-true, not-false}
use Rattle.calls_walk.proofs.run.Goals as goal

pub loop-at-init : goal.loop-at-init
loop-at-init c = running-starts (fs_at c.args.arena.now c.args.mem.now) c.args.path.now c.args.links.now c.args.marks.now c.args.g c.requires.stands.0 c.requires.stands.1

pub turn-at-requires : goal.turn-at-requires
turn-at-requires c = record { admitted = c.requires.admitted; stands = (c.loop-at.invariant.stands (not-true _ c.loop-at-test.true), not-true _ c.loop-at-test.true) }

pub loop-at-smaller : goal.loop-at-smaller
loop-at-smaller c = c.turn-at.ensures.less

pub loop-at-preserved : goal.loop-at-preserved
loop-at-preserved c = running-on c.loop-at.invariant c.turn-at.ensures

pub shape_of-marks : goal.shape_of-marks
shape_of-marks c = c.loop-at.invariant.marks

pub returns : goal.returns
returns c = running-ends c.loop-at.invariant (not-false _ c.loop-at-test.false)
