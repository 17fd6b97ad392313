-- What a well-formed table and a live handle are, as mathematics.
use Rattle.std.specs.Prelude.{ℕ, ◌<◌, ◌≤◌, ◌≡◌, ◌⊎◌, length}
use Rattle.table.specs.declared.Table.{Table}
use Rattle.table.specs.declared.Handle.{Handle}
use Rattle.table.specs.Zero.{zero_row, zero_hold}
use Rattle.table.specs.Table.{row_at, hold_at, own_holds}

-- "an owner from 1 to 4"
pub record Owner (w : ℕ) : Type 0 where
  pub least : 1 ≤ w
  pub most : w ≤ 4

-- a live hold that names the row
pub record Holder (t : Table) (row : ℕ) : Type 0 where
  pub hold : ℕ
  pub is-hold : hold < 32
  pub live : (hold_at t hold).stamp ≡ 0 → ⊥
  pub names : (hold_at t hold).row ≡ row

-- Well formed, but for rows that a running call has opened for itself: those are in use and need no hold.
pub record Formed (own : ℕ → Type 0) (t : Table) : Type 0 where
  -- "34 rows [..], 32 holds"
  pub rows-34 : length t.rows ≡ 34
  pub holds-32 : length t.holds ≡ 32
  -- "live holds name rows in use"
  pub named : (i : ℕ) → i < 32 → ((hold_at t i).stamp ≡ 0 → ⊥) → (hold_at t i).row < 34
  pub in_use : (i : ℕ) → i < 32 → ((hold_at t i).stamp ≡ 0 → ⊥) → (row_at t (hold_at t i).row).id ≡ 0 → ⊥
  -- "every used row has a hold"
  pub held : (i : ℕ) → i < 34 → ((row_at t i).id ≡ 0 → ⊥) → own i ⊎ Holder t i
  -- "no id has two rows"
  pub one-row : (i j : ℕ) → i < 34 → j < 34 → ((row_at t i).id ≡ 0 → ⊥) → (row_at t i).id ≡ (row_at t j).id → i ≡ j
  -- "free rows and holds are all zero"
  pub free-row : (i : ℕ) → i < 34 → (row_at t i).id ≡ 0 → row_at t i ≡ zero_row
  pub free-hold : (i : ℕ) → i < 32 → (hold_at t i).stamp ≡ 0 → hold_at t i ≡ zero_hold
  -- "live stamps differ and are below the next"
  pub one-stamp : (i j : ℕ) → i < 32 → j < 32 → ((hold_at t i).stamp ≡ 0 → ⊥) → (hold_at t i).stamp ≡ (hold_at t j).stamp → i ≡ j
  pub stamp-below : (i : ℕ) → i < 32 → ((hold_at t i).stamp ≡ 0 → ⊥) → (hold_at t i).stamp < t.next
  -- "itself at least 1"
  pub next_one : 1 ≤ t.next
  -- order 5: "owners 1 to 4 with at most 8 each"
  pub owned : (i : ℕ) → i < 32 → ((hold_at t i).stamp ≡ 0 → ⊥) → Owner (hold_at t i).owner
  pub few : (w : ℕ) → Owner w → own_holds t w ≤ 8

-- no row is a call's own
abbrev pub none : ℕ → Type 0
none i = ⊥

-- row i is a call's own, too
abbrev pub also : (ℕ → Type 0) → ℕ → ℕ → Type 0
also own i j = own j ⊎ (j ≡ i)

-- document 01's rule: between calls
abbrev pub WellFormed : Table → Type 0
WellFormed t = Formed none t

-- a handle that is live, and w's, on that row
pub record Live (t : Table) (w : ℕ) (h : Handle) (row : ℕ) : Type 0 where
  pub is-hold : h.hold < 32
  pub given : h.stamp ≡ 0 → ⊥
  pub stamp : (hold_at t h.hold).stamp ≡ h.stamp
  pub owner : (hold_at t h.hold).owner ≡ w
  pub names : (hold_at t h.hold).row ≡ row
  pub is_row : row < 34
