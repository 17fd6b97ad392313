-- `mend_stores::put_meta`: after i turns the first i blocks.
use mathlib.Core.Path.{◌≡◌}
use Prim.Native.Nat.{◌≤◌}
use Rattle.base.specs.Out.{done}
use Rattle.arena.specs.Fields.{File}
use Rattle.arena.specs.Places.{free_of}
use Rattle.files.specs.Store.{put_to}
use Rattle.sefs.specs.Meta.{meta_file}
use Rattle.chains.specs.Led.{head_at}
use Rattle.mend_plan.specs.Plan.{Placed}
use Rattle.mend_stores.proofs.put_meta.Given as goal

abbrev pub invariant-loop-i : goal.invariant-loop-i
invariant-loop-i l =
    (put_to l.initial.arena meta_file l.pos l.src l.i ≡ done l.arena)
    × (l.at ≤ free_of l.arena)
    × Placed l.arena l.places
    × ((g : File) → head_at l.arena g ≡ head_at l.initial.arena g)
