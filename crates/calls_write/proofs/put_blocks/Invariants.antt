-- `calls_write::put_blocks`: the length first; after i turns the first i blocks.
use mathlib.Core.Path.{◌≡◌}
use mathlib.Core.Bool.{true}
use mathlib.Core.List.{List}
use Prim.Native.Nat.{ℕ, ◌+◌, ◌≤◌}
use lib.ListN.{length}
use Rattle.base.specs.Out.{done}
use Rattle.arena.specs.Fields.{file}
use Rattle.arena.specs.Places.{free_of}
use Rattle.files.specs.Read.{there}
use Rattle.files.specs.Store.{longest, put_to}
use Rattle.plans.specs.Plan.{Planned}
use Rattle.calls_write.proofs.put_blocks.Given as goal

abbrev pub invariant-loop-i : goal.invariant-loop-i
invariant-loop-i l =
    (length l.arena ≡ length l.initial.arena)
    × ((a : List ℕ) → there a (file 1 l.name) ≡ true → l.pos + length l.src ≤ longest → Planned a (file 1 l.name) l.pos (length l.src) l.plan → put_to a (file 1 l.name) l.pos l.src 0 ≡ done l.initial.arena
    → (put_to a (file 1 l.name) l.pos l.src l.i ≡ done l.arena) × (l.from ≤ free_of l.arena))
