-- `fsck_links::count_folder`: slot after slot.
use mathlib.Core.Path.{◌≡◌}
use Prim.Native.Nat.{ℕ, ◌+◌, ◌-◌, ◌≤◌}
use lib.ListN.{length}
use Rattle.fsck_links.specs.Counts.{Holds, names_to}
use Rattle.fsck_links.proofs.count_folder.Given as goal

abbrev pub invariant-loop-k : goal.invariant-loop-k
invariant-loop-k l = (l.k - 2 ≤ l.k-end - 2) × ((length l.slot ≡ 264) × ((f : ℕ → ℕ) → Holds l.initial.counts f → Holds l.counts (λ i. f i + names_to l.arena l.rec (l.k - 2) i)))
