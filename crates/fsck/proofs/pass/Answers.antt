-- `fsck::pass`: an arena has no more free blocks than blocks, and the counts are the definition's.
use native.Mathlib.Omega.{arith}
use Rattle.fsck.proofs.Verdicts.{pass-is, free-most}
use Rattle.fsck.proofs.pass.Goals as goal

pub overflow_cast-result : goal.overflow_cast-result
overflow_cast-result c =
    omega (arith, c.free_count-free.ensures, free-most c.args.arena.now, c.requires.arena_bound)

pub returns : goal.returns
returns c =
    pass-is c.args.arena.now c.args.mem.now _ _ _ c.requires.loaded.1 (c.count_nodes-nodes.ensures _ c.requires.loaded.1) c.super_at-unused.ensures c.free_count-free.ensures
