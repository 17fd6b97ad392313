-- The row with the lowest id above another, row by row.
use mathlib.Core.Path.{◌≡◌, ◌∙◌}
use mathlib.Core.Bool.{true, false, ◌&&◌, ◌||◌}
use Prim.Native.Nat.{ℕ, ◌+◌, ◌<◌}
use lib.Dec.{eqb, ltb}
use Rattle.table.proofs.Next.{Best, best-take, best-keep}

-- the id of row n is looked at: it is taken, or passed
module _ (f : ℕ → ℕ) (after n best least id : ℕ) (q : id ≡ f n) (b : Best f after n best least) where
  pub id-taken : n < 34 → (ltb after id && (eqb best 34 || ltb id least)) ≡ true → (k m : ℕ) → k ≡ n → m ≡ id → Best f after (n + 1) k m
  id-taken l e k m x y = best-take f after n best least l b (rw q at e) k m x (y ∙ q)

  pub id-passed : (ltb after id && (eqb best 34 || ltb id least)) ≡ false → (k m : ℕ) → k ≡ best → m ≡ least → Best f after (n + 1) k m
  id-passed e k m x y = best-keep f after n best least b (rw q at e) k m x y
