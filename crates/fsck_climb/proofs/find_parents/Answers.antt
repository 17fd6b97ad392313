-- `fsck_climb::find_parents`: id after id.
use mathlib.Core.Path.{subst}
use Prim.Native.Nat.{ℕ}
use native.Mathlib.Omega.{arith}
use Rattle.base.proofs.Lists.{Stored, stored-none, stored_more}
use Rattle.mem.specs.Mem.{table_in}
use Rattle.fsck_climb.specs.Way.{up}
use Rattle.fsck_climb.proofs.Ways.{ups-all}
use Rattle.fsck_climb.proofs.find_parents.Goals as goal

pub loop-id-init : goal.loop-id-init
loop-id-init c =
    subst (λ (n : ℕ). Stored n (up c.args.arena.now (table_in c.args.mem.now)) c.args.parents.now 0) c.requires.loaded.1 (stored-none (up c.args.arena.now (table_in c.args.mem.now)) c.args.parents.now)

pub loop-id-preserved : goal.loop-id-preserved
loop-id-preserved c =
    stored_more 4096 (up c.args.arena.now (table_in c.args.mem.now)) c.loop-id.parents c.loop-id.id c.parent_at.result (omega arith) c.parent_at.ensures.0 c.loop-id.invariant

pub returns : goal.returns
returns c =
    ups-all c.args.arena.now (table_in c.args.mem.now) c.loop-id.parents c.loop-id.id (omega arith) c.loop-id.invariant
