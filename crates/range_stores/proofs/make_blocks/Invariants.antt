-- `range_stores::make_blocks`: after k turns the blocks of the first k pieces.
use mathlib.Core.Path.{◌≡◌}
use mathlib.Core.Bool.{true}
use Prim.Native.Nat.{◌≤◌}
use Rattle.base.specs.Out.{done}
use Rattle.arena.specs.Fields.{file}
use Rattle.arena.specs.Places.{free_of}
use Rattle.files.specs.Read.{there}
use Rattle.files.specs.Store.{touched}
use Rattle.pieces.specs.Made.{made_to}
use Rattle.plans.specs.Plan.{Places}
use Rattle.range_stores.proofs.make_blocks.Given as goal

abbrev pub invariant-loop-k : goal.invariant-loop-k
invariant-loop-k l =
    (there l.arena (file 1 l.name) ≡ true) × (made_to l.initial.arena (file 1 l.name) l.dst l.n l.k ≡ done l.arena)
    × Places l.arena (file 1 l.name) l.dst l.plan (touched l.dst l.n) × (l.from ≤ free_of l.arena)
