-- `files::store::put_at`: the length is raised, then the blocks are written.
use Prim.Native.Nat.{◌+◌}
use native.Mathlib.Omega.{arith}
use lib.ListN.{length}
use Rattle.arena.specs.Fields.{file}
use Rattle.overlay.specs.View.{view}
use Rattle.overlay.specs.Steps.{Changed}
use Rattle.files.specs.Store.{raise}
use Rattle.files.proofs.Finds.{there-yes}
use Rattle.files.proofs.Puts.{did-put-none, did-put-two, raise-is}
use Rattle.files.proofs.store.put_at.Goals as goal
use Rattle.files.proofs.store.put_at.Goals.{After-raise}

raised : (c : After-raise) → Changed c.args.arena.now c.args.work.now c.raise.new.work (raise (view c.args.arena.now c.args.work.now) (file c.args.which c.args.name.now) (c.args.pos + length c.args.src.now)) 1
raised c =
    rw (raise-is (view c.args.arena.now c.args.work.now) (file c.args.which c.args.name.now) c.args.k (c.args.pos + length c.args.src.now) c.requires.k_value.0 (there-yes _ _ c.requires.fine.0 (file c.args.which c.args.name.now) _ c.requires.k_value.0 c.requires.k_value.1)) at c.raise.ensures

pub returns-then-src-eq0 : goal.returns-then-src-eq0
returns-then-src-eq0 c =
    did-put-none (file c.args.which c.args.name.now) c.args.pos c.args.src.now c.if-src-eq0.true (raised (goal.at.returns-then-src-eq0 c).After-raise)

pub returns : goal.returns
returns c =
    did-put-two (file c.args.which c.args.name.now) c.args.pos c.args.src.now (omega arith) c.requires.name_len.1.1 (raised (goal.at.returns c).After-raise) c.put_blocks.ensures
