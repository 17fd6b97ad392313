-- `walk_parts::land`: the target is entered, with the places behind those that are used.
use Rattle.mem.specs.State.{fs_at}
use mathlib.Core.Path.{subst}
use Prim.Native.Nat.{ℕ, ◌+◌, ◌-◌}
use lib.ListN.{length}
use Rattle.walk.specs.Walk.{spot, enter}
use Rattle.walk_parts.specs.States.{Entered}
use Rattle.walk_parts.proofs.land.Goals as goal

pub returns : goal.returns
returns c = subst (λ (x : ℕ). Entered c.entry.result (enter (fs_at c.args.arena.now c.args.mem.now) (spot c.args.p.id c.args.p.rec) c.args.text.now) (c.args.g.left - 1) (c.args.g.used + length c.args.text.now) (c.args.g.depth + 1) (c.args.g.used + x) (c.args.g.used + length c.args.text.now)) c.skip.ensures.0 (c.entry.ensures _ c.enter-e.ensures)
