-- A move that changes nothing.
use mathlib.Core.Path.{◌≡◌, sym, ◌∙◌, ap}
use mathlib.Core.List.{List}
use Prim.Native.Nat.{ℕ}
use Rattle.base.specs.Out.{Out, done}
use Rattle.table.specs.declared.Table.{Table}
use Rattle.sefs.specs.Create.{After}
use Rattle.steps.specs.Ends.{Ended, went}

-- a move whose names are one node's: memory's table is v again
pub own_same : {o : Out After} {a : List ℕ} {u v : Table} → o ≡ done (record { arena = a; table = u }) → v ≡ u → Ended o a a v 0
own_same {a = a} e q = went (e ∙ ap (λ (x : Table). done (record { arena = a; table = x })) (sym q))
