-- `calls_walk::follow_link`: 20 or 19 before anything is laid; then the target is entered.
use mathlib.Core.Path.{refl}
use Rattle.calls_walk.proofs.Follows.{not-read, was_read}
use Rattle.mem.specs.State.{fs_at}
use Rattle.calls_walk.proofs.follow_link.Goals as goal

pub returns-in-Err : goal.returns-in-Err
returns-in-Err c = not-read (fs_at c.args.arena.now c.args.mem.now) c.args.links.now c.args.g c.args.p c.requires.used_in_bounds.0 c.read_target.new.out c.in-Err.ensures.0 c.in-Err.reason refl c.stopped.ensures

pub returns : goal.returns
returns c = was_read (fs_at c.args.arena.now c.args.mem.now) c.args.links.now c.args.g c.args.p c.requires.used_in_bounds.0 c.read_target.new.out c.in-Ok.ensures.0 c.in-Ok.ensures.1 refl c.land.ensures
