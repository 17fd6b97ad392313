-- `range_stores::move_down`: after i turns the first i blocks of one write.
use mathlib.Core.Path.{◌≡◌}
use Prim.Native.Nat.{◌≤◌}
use Rattle.base.specs.Out.{done}
use Rattle.base.specs.Parts.{tab}
use Rattle.arena.specs.Fields.{file}
use Rattle.arena.specs.Places.{free_of}
use Rattle.files.specs.Read.{byte_at}
use Rattle.files.specs.Store.{put_to}
use Rattle.range_stores.proofs.move_down.Given as goal

abbrev pub invariant-loop-i : goal.invariant-loop-i
invariant-loop-i l =
    (put_to l.initial.arena (file 1 l.name) l.dst (tab (byte_at l.initial.arena (file 1 l.name)) l.src l.n) l.i ≡ done l.arena) × (l.from ≤ free_of l.arena)
