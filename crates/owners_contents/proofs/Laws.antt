-- Get entry at the C edge, from what laying its slot over the output says.
use mathlib.Core.Path.{◌≡◌, refl}
use mathlib.Core.List.{List}
use Prim.Native.Nat.{ℕ}
use Rattle.base.specs.Out.{Out}
use Rattle.base.specs.Parts.{paste}
use Rattle.calls.specs.Answers.{Laid, lay, leave}
use Rattle.edge.specs.Edge.{Answers}

pub own-laid : {o p : Out (List ℕ)} {x y : List ℕ} {k n : ℕ} → p ≡ o → Laid o x y k n → Answers p (paste x 0) x y n
own-laid e (lay f l k) = rw (e, f) (record { number = refl; places = k })
own-laid e (leave l f k) = rw (e, f) (record { number = refl; places = k })
