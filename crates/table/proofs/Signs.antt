-- A signed number that fits is zero where its bits are.
use native.Mathlib.Omega.{arith}
use mathlib.Core.Path.{◌≡◌, refl}
use lib.Dec.{eqb}
use lib.IntN.{ℤ, pos, negsuc}
use mir.Val.{of_z, SFits}
use mir.Syntax.{w64}
use borrow.Author.Tests.{ne_eqb}
use Rattle.table.specs.Zero.{is_zero_z}

pub zero_z : (z : ℤ) → SFits w64 z → eqb (of_z w64 z) 0 ≡ is_zero_z z
zero_z (pos n) h = refl
zero_z (negsuc n) h = ne_eqb (of_z w64 (negsuc n)) 0 (λ e. omega (arith, h.sfits))
