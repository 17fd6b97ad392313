-- What a search in the table found, for callers.
use Prim.Native.Nat.{ℕ, ◌<◌}
use mathlib.Core.Path.{◌≡◌, ap}
use lib.Dec.{eqb}
use borrow.Author.Tests.{eqb-true, eqb-false, eq-eqb}
use Rattle.base.proofs.Finds.{search-at, search-nothing, search-finds, search-cong}
use Rattle.std.specs.Prelude.{Some, None}
use Rattle.table.specs.declared.Table.{Table}
use Rattle.table.specs.Table.{row_at, is_row, row_of}

-- ---- by id

pub row-found : (t : Table) (id i : ℕ) → row_of t id ≡ Some i → (i < 34) × ((row_at t i).id ≡ id)
unfolding row_of
row-found t id i e = let s = search-at (is_row t id) 34 i e in (s.0, eqb-true _ id s.1)

pub row-missing : (t : Table) (id : ℕ) → row_of t id ≡ None → (j : ℕ) → j < 34 → (row_at t j).id ≡ id → ⊥
unfolding row_of
row-missing t id e j l = eqb-false _ id (search-nothing (is_row t id) 34 e j l)

-- a row with that id is there: one is found
pub row-there : (t : Table) (id j : ℕ) → j < 34 → (row_at t j).id ≡ id → (i : ℕ) × (row_of t id ≡ Some i)
unfolding row_of
row-there t id j l e = (_, search-finds (is_row t id) 34 j l (eq-eqb _ id e))

-- the ids alone decide
pub row_same : (t u : Table) (id : ℕ) → ((j : ℕ) → j < 34 → (row_at t j).id ≡ (row_at u j).id) → row_of t id ≡ row_of u id
unfolding row_of
row_same t u id h = search-cong (is_row t id) (is_row u id) 34 (λ j l. ap (λ (m : ℕ). eqb m id) (h j l))
