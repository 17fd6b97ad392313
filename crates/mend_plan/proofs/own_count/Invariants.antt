-- `mend_plan::own_count`: the name and the kind of block k are the file's.
use mathlib.Core.Path.{◌≡◌}
use Prim.Native.Nat.{◌+◌, ◌≤◌}
use lib.ListN.{get_or}
use Rattle.base.specs.Count.{count_to}
use Rattle.arena.specs.Blocks.{blk}
use Rattle.arena.specs.Fields.{file}
use Rattle.files.specs.Store.{is_of}
use Rattle.mend_plan.proofs.own_count.Given as goal

abbrev pub invariant-loop-i : goal.invariant-loop-i
invariant-loop-i l = (l.c ≤ l.i) × (l.c ≡ count_to (λ j. is_of (file (get_or l.arena (l.s + 1) 0) l.name) (blk l.arena j)) l.i)
