-- `range_stores::put_zeros`: the length first; after i turns the first i blocks.
use mathlib.Core.Path.{◌≡◌}
use mathlib.Core.Bool.{true}
use mathlib.Core.List.{List}
use Prim.Native.Nat.{ℕ, ◌≤◌}
use lib.ListN.{replicate}
use Rattle.base.specs.Out.{done}
use Rattle.arena.specs.Fields.{file}
use Rattle.arena.specs.Places.{free_of}
use Rattle.files.specs.Read.{there}
use Rattle.files.specs.Store.{put_to}
use Rattle.plans.specs.Plan.{Planned}
use Rattle.range_stores.proofs.put_zeros.Given as goal

abbrev pub invariant-loop-i : goal.invariant-loop-i
invariant-loop-i l =
    ((a : List ℕ) → there a (file 1 l.name) ≡ true → Planned a (file 1 l.name) l.pos l.n l.plan → put_to a (file 1 l.name) l.pos (replicate l.n 0) 0 ≡ done l.initial.arena
    → (put_to a (file 1 l.name) l.pos (replicate l.n 0) l.i ≡ done l.arena) × (l.from ≤ free_of l.arena))
