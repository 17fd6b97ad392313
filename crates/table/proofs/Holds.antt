-- Holds, case by case, as the code goes through them.
use Prim.Native.Nat.{ℕ, ◌<◌, ◌≤◌}
use mathlib.Core.Path.{◌≡◌}
use mathlib.Core.Bool.{Bool, true, false, not, ◌&&◌}
use native.Mathlib.Omega.{arith}
use lib.Dec.{eqb, ltb}
use borrow.Author.Tests.{lt-ltb, le-ltb, ltb-true}
use Rattle.base.specs.Search.{found_below}
use Rattle.std.specs.Prelude.{Option, Some, None}
use Rattle.base.proofs.Bools.{and_parts}
use Rattle.base.proofs.Searches.{at-found}
use Rattle.table.specs.Zero.{zero_hold}
use Rattle.table.specs.Table.{hold_at, with_hold, row_of, hold_of, free_hold, live_row, own_holds, can_hold, add_at, add_hold, row_used, close_hold}
use Rattle.table.specs.declared.Table.{Table}
use Rattle.table.specs.declared.Handle.{Handle}
use Rattle.table.specs.declared.Closed.{Closed}

module _ (t : Table) (w : ℕ) (h : Handle) (n : ℕ) where
  -- the stamp is a live one, and that of the hold at n, which is w's
  abbrev stamped : Bool
  stamped = (not (eqb h.stamp 0) && eqb (hold_at t n).stamp h.stamp) && eqb (hold_at t n).owner w

  pub live-past : n ≡ h.hold → 32 ≤ n → None ≡ live_row t w h
  unfolding live_row
  live-past e l = let b : ltb h.hold 32 ≡ false = le-ltb h.hold 32 (omega arith) in rw b

  pub live-not : n ≡ h.hold → n < 32 → stamped ≡ false → None ≡ live_row t w h
  unfolding live_row
  live-not e l s = let b : ltb h.hold 32 ≡ true = lt-ltb h.hold 32 (omega arith) in rw (b, rw e at s)

pub live-found : (t : Table) (w : ℕ) (h : Handle) (n m : ℕ) → n ≡ h.hold → n < 32 → ((not (eqb h.stamp 0) && eqb (hold_at t n).stamp h.stamp) && eqb (hold_at t n).owner w) ≡ true → m ≡ (hold_at t n).row → found_below m 34 ≡ live_row t w h
unfolding live_row
live-found t w h n m e l s r = let b : ltb h.hold 32 ≡ true = lt-ltb h.hold 32 (omega arith) in rw (b, rw e at s, r, e)

-- what a search found is a row, or a hold
pub row_below : (t : Table) (id i : ℕ) → row_of t id ≡ Some i → i < 34
unfolding row_of
row_below t id i e = (at-found _ 34 i e).1

pub hold-below : (t : Table) (stamp i : ℕ) → hold_of t stamp ≡ Some i → i < 32
unfolding hold_of
hold-below t stamp i e = (at-found _ 32 i e).1

-- where a hold can be given, the next stamp is below the last
pub can-next : (t : Table) (w : ℕ) → can_hold t w ≡ true → t.next < 18446744073709551615
unfolding can_hold
can-next t w e = ltb-true _ _ (and_parts (ltb (own_holds t w) 8) (ltb t.next 18446744073709551615) e).1

-- a hold added, case by case
module _ (t : Table) (w row : ℕ) where
  pub add-full : can_hold t w ≡ false → add_at t w row None ≡ add_hold t w row
  unfolding add_hold
  add-full e = rw e

  pub add-found : (f : Option ℕ) → can_hold t w ≡ true → free_hold t ≡ f → add_at t w row f ≡ add_hold t w row
  unfolding add_hold
  add-found f e q = rw (e, q)

-- a hold closed, case by case
pub close-in : (t : Table) (hold n : ℕ) (used : Bool) → n ≡ hold → n < 32 → used ≡ row_used (with_hold t n zero_hold) (hold_at t n).row
    → ◌≡◌ {A = Closed} (record { last = not used; table = with_hold t n zero_hold }) (close_hold t hold)
unfolding close_hold
close-in t hold n used e l u = let b : ltb hold 32 ≡ true = lt-ltb hold 32 (omega arith) in rw (b, u, e)

pub close-out : (t : Table) (hold n : ℕ) → n ≡ hold → 32 ≤ n → ◌≡◌ {A = Closed} (record { last = false; table = t }) (close_hold t hold)
unfolding close_hold
close-out t hold n e l = let b : ltb hold 32 ≡ false = le-ltb hold 32 (omega arith) in rw b
