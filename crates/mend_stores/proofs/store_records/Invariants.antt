-- `mend_stores::store_records`: after id turns, those of the first id records that change are stored, whichever the arena was.
use mathlib.Core.List.{List}
use Prim.Native.Nat.{ℕ}
use Rattle.mend_stores.specs.Stores.{Begun, StoredTo}
use Rattle.mend_stores.proofs.store_records.Given as goal

abbrev pub invariant-loop-id : goal.invariant-loop-id
invariant-loop-id l = ((a m : List ℕ) → Begun a m l.initial.arena l.work l.initial.places l.n → StoredTo a l.arena m l.places l.id l.from)
