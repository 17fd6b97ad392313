-- Laws of outcomes that more than these calls can use.
use mathlib.Core.Path.{◌≡◌}
use Prim.Native.Nat.{ℕ}
use Rattle.base.specs.Out.{Out, done, bind, Went, well, ill}

-- a chain whose last step gives something else
pub went-last : {A B : Type 0} {o : Out A} {v : A} {P Q : Type 0} {r : ℕ} (f : A → B) → (P → Q) → Went o v P r → Went (bind o (λ x. done (f x))) (f v) Q r
went-last f q (well e p) = well (rw e) (q p)
went-last f q (ill l e) = ill l (rw e)

-- an outcome by another name
pub went-as : {A : Type 0} {o q : Out A} {v : A} {P : Type 0} {r : ℕ} → q ≡ o → Went o v P r → Went q v P r
went-as e g = rw e g
