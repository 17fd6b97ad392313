-- `calls_walk::walk_from`: the path is entered, and then the walk runs.
use Rattle.calls_walk.proofs.Runs.{begins, begins-as}
use Rattle.mem.specs.State.{fs_at}
use mathlib.Core.Path.{refl, subst}
use Prim.Native.Nat.{ℕ}
use lib.ListN.{length}
use Rattle.walk.specs.Walk.{spot, enter}
use Rattle.walk_parts.specs.States.{Entered}
use Rattle.calls_walk.proofs.walk_from.Goals as goal

pub run-requires : goal.run-requires
run-requires c = record { admitted = c.requires; stands = (begins (fs_at c.args.arena.now c.args.mem.now) (spot c.args.id c.args.rec) c.args.path.now c.args.links.now _ refl _ (subst (λ (x : ℕ). Entered c.entry-g.result (enter (fs_at c.args.arena.now c.args.mem.now) (spot c.args.id c.args.rec) c.args.path.now) 8 0 0 x (length c.args.path.now)) c.skip.ensures.0 (c.entry-g.ensures _ c.enter-e.ensures)), (subst (λ (x : ℕ). Entered c.entry-g.result (enter (fs_at c.args.arena.now c.args.mem.now) (spot c.args.id c.args.rec) c.args.path.now) 8 0 0 x (length c.args.path.now)) c.skip.ensures.0 (c.entry-g.ensures _ c.enter-e.ensures)).used) }

pub returns : goal.returns
returns c = begins-as (fs_at c.args.arena.now c.args.mem.now) (spot c.args.id c.args.rec) c.args.path.now c.args.links.now _ refl _ (subst (λ (x : ℕ). Entered c.entry-g.result (enter (fs_at c.args.arena.now c.args.mem.now) (spot c.args.id c.args.rec) c.args.path.now) 8 0 0 x (length c.args.path.now)) c.skip.ensures.0 (c.entry-g.ensures _ c.enter-e.ensures)) c.run.ensures
