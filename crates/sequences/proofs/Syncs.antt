-- Sync: every dirty row is stored, and each store keeps.
use mathlib.Core.Path.{refl, ◌≡◌}
use Rattle.sefs_laws.proofs.Clear.{Clear, clear-17}
use Prim.Native.Nat.{ℕ, zero, suc, ◌<◌}
use native.Mathlib.Omega.{arith}
use lib.Dec.{ltb}
use borrow.Author.Tests.{ltb-true}
use Rattle.base.specs.Out.{bind, Ok, went}
use Rattle.base.proofs.Outs.{ok-bind, ok-weaken}
use Rattle.base.proofs.Bools.{and_parts}
use Rattle.base.proofs.Finds.{search-at}
use Rattle.std.specs.Prelude.{Option, Some, None}
use Rattle.table.specs.declared.Table.{Table}
use Rattle.table.specs.Table.{row_at, is_next, next_row}
use Rattle.sefs.specs.State.{Fs}
use Rattle.sefs.specs.Nodes.{id_at, sync_row}
use Rattle.sefs.specs.Ask.{start}
use Rattle.sefs.specs.Create.{After}
use Rattle.sefs.specs.Close.{with_next, sync_from, call_sync}
use Rattle.sequences.specs.Pairs.{Pair, pair}
use Rattle.sequences.specs.Calls.{sync, does}
use Rattle.sequences.proofs.Passing.{Spelled, allowed, midway-spelled, spelled-midway}
use Rattle.sefs_laws.proofs.Says.{says_is}
use Rattle.tree.specs.Tree.{Spelling}
use Rattle.image.specs.Midway.{Used}
use Rattle.image.proofs.Handles.{admitted}
use Rattle.image.proofs.Stores.{sync-mid}

-- a row of a passed pair
pub sync-law : {style : Spelling} (s : Fs) → Spelled style (pair s.arena s.table) → (i : ℕ) → Used s.table i → Ok (λ (d : Fs). Spelled style (pair d.arena d.table)) (λ r. r ≡ 17) (sync_row s i)
sync-law s p i u = ok-weaken (λ d S. midway-spelled d.arena d.table S.mid) (λ r e. e) (sync-mid s (spelled-midway s.arena s.table p) i u)

-- ---- sync

next-used : (t : Table) (low i : ℕ) → next_row t low ≡ Some i → Used t i
unfolding next_row is_next
next-used t low i e =
    let h = search-at (is_next t low) 34 i e in
    let l : low < (row_at t i).id = ltb-true low (row_at t i).id (and_parts (ltb low (row_at t i).id) _ h.1).0 in
    record { below = h.0; node = λ z. omega arith }

from-law : {style : Spelling} (s : Fs) (low n : ℕ) → Spelled style (pair s.arena s.table) → Ok (λ (d : Fs). Spelled style (pair d.arena d.table)) (λ r. r ≡ 17) (sync_from s low n)
unfolding sync_from
from-law s low zero p = went p
from-law {style = style} s low (suc n) p = go (next_row s.table low) refl (λ u m q. from-law u m n q)
  where
    Q : Fs → Type 0
    Q d = Spelled style (pair d.arena d.table)

    go : (f : Option ℕ) → next_row s.table low ≡ f → ((u : Fs) (m : ℕ) → Spelled style (pair u.arena u.table) → Ok (λ (d : Fs). Spelled style (pair d.arena d.table)) (λ r. r ≡ 17) (sync_from u m n))
        → Ok (λ (d : Fs). Spelled style (pair d.arena d.table)) (λ r. r ≡ 17) (with_next f s (λ i. bind (sync_row s i) (λ d. sync_from d (id_at s i) n)))
    go (Some i) e rest = ok-bind (sync-law s p i (next-used s.table low i e)) λ d q. rest d (id_at s i) q
    go None e rest = went p

sync-call : {style : Spelling} (p : Pair) → Spelled style p → Ok (λ (x : After). Spelled style (pair x.arena x.table)) Clear (call_sync p.arena p.table)
unfolding call_sync
sync-call p y =
    ok-bind (says_is (admitted p.arena p.table (allowed p y.passes))) λ _ _.
    ok-bind (ok-weaken (λ s q. q) clear-17 (from-law (start p.arena p.table) 0 34 y)) λ s q. went q

pub keeps_sync : {style : Spelling} (p : Pair) → Spelled style p → Ok (Spelled style) Clear (does sync p)
unfolding does
keeps_sync p y = ok-bind (sync-call p y) λ x q. went q
