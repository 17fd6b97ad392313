-- The laws of signed numbers as 64 bits.
use mathlib.Core.Path.{◌≡◌, refl, ap, ◌∙◌}
use mathlib.Core.Bool.{true, false}
use mathlib.Core.Logic.{⊎_elim}
use Prim.Native.Nat.{ℕ, zero, suc, ◌-◌, ◌^◌, ◌<◌, ◌≤◌}
use native.Mathlib.Omega.{arith}
use lib.ListN.{replicate}
use lib.IntN.{ℤ, pos, negsuc, ◌-ℤ◌, nat_abs}
use lib.Signed.{le_z}
use borrow.Author.Tests.{le-ltb, lt-ltb, leb-false}
use mir.Syntax.{w64}
use mir.Val.{to_z, of_z, SFits}
use mir.ValLaws.{to_z-of_z, of_z-to_z, to_z-Fits, of_z_fits}
use Rattle.base.proofs.Numbers.{lt-or-le}
use Rattle.le.specs.Le.{le_of, le_at}
use Rattle.le.specs.Signed.{signed, bits_of}

-- the upper half counts down from -1
pub signed_high : (x : ℕ) → 9223372036854775808 ≤ x → signed x ≡ negsuc (18446744073709551615 - x)
unfolding signed
signed_high x h = rw (le-ltb x 9223372036854775808 h)

-- `signed` and `bits_of` are what the machine does with 64 bits
pub signed_is : (x : ℕ) → x < 2 ^ 64 → signed x ≡ to_z w64 x
unfolding signed
signed_is x h = ⊎_elim (λ l. rw (lt-ltb x 9223372036854775808 l)) (λ g. rw (le-ltb x 9223372036854775808 g) (ap negsuc (omega arith))) (lt-or-le x 9223372036854775808)

pub bits_of-is : (z : ℤ) → bits_of z ≡ of_z w64 z
unfolding bits_of
bits_of-is (pos n) = refl
bits_of-is (negsuc n) = omega arith

-- both round trips
pub signed-bits_of : (z : ℤ) → SFits w64 z → signed (bits_of z) ≡ z
signed-bits_of z h = ap signed (bits_of-is z) ∙ signed_is (of_z w64 z) (of_z_fits w64 z h).fits ∙ to_z-of_z w64 z h

pub bits_of-signed : (x : ℕ) → x < 2 ^ 64 → bits_of (signed x) ≡ x
bits_of-signed x h = ap bits_of (signed_is x h) ∙ bits_of-is (to_z w64 x) ∙ of_z-to_z w64 x (record { fits = h })

pub signed-fits : (x : ℕ) → x < 2 ^ 64 → SFits w64 (signed x)
signed-fits x h = rw (signed_is x h) (to_z-Fits w64 x (record { fits = h }))

pub bits_of-fits : (z : ℤ) → SFits w64 z → bits_of z < 2 ^ 64
bits_of-fits z h = rw (bits_of-is z) (of_z_fits w64 z h).fits

-- exact at -1, at 0 and at both ends of the range, both ways
pub ends :
    (signed 18446744073709551615 ≡ negsuc 0) × ((signed 0 ≡ pos 0) × ((signed 9223372036854775807 ≡ pos 9223372036854775807) × (signed 9223372036854775808 ≡ negsuc 9223372036854775807)))
unfolding signed
ends = (refl, (refl, (refl, refl)))

pub ends-back :
    (bits_of (negsuc 0) ≡ 18446744073709551615) × ((bits_of (pos 0) ≡ 0) × ((bits_of (pos 9223372036854775807) ≡ 9223372036854775807) × (bits_of (negsuc 9223372036854775807) ≡ 9223372036854775808)))
unfolding bits_of
ends-back = (refl, (refl, (refl, refl)))

-- "Eight bytes FF: -1."
pub eight-ff : signed (le_at (replicate 8 255) 0 8) ≡ negsuc 0
unfolding signed le_at le_of
eight-ff = refl

-- ---- as the code has it: counting from -1

pub minus_pos : (m : ℕ) → negsuc 0 -ℤ pos m ≡ negsuc m
minus_pos zero = refl
minus_pos (suc m) = ap negsuc (omega arith)

pub minus-neg : (z : ℤ) (n : ℕ) → z ≡ negsuc n → negsuc 0 -ℤ z ≡ pos n
minus-neg z n e = rw (e, le-ltb (suc n) 1 (omega arith)) (ap pos (omega arith))

-- what the test for 0 or more tells
pub not-below : (z : ℤ) → SFits w64 z → le_z (pos 0) z ≡ true → (n : ℕ) × (z ≡ pos n) × (n < 9223372036854775808)
not-below (pos n) f h = (n, refl, omega (arith, f.sfits))
not-below (negsuc n) f h = let z : ◌≡◌ {A = ℕ} 0 1 = cc in absurd (omega arith)

pub is_below : (z : ℤ) → SFits w64 z → le_z (pos 0) z ≡ false → (n : ℕ) × (z ≡ negsuc n) × (n < 9223372036854775808)
is_below (pos n) f h = absurd (omega (arith, leb-false 0 n h))
is_below (negsuc n) f h = (n, refl, omega (arith, f.sfits))

pub bits_of-pos : (z : ℤ) (n : ℕ) → z ≡ pos n → nat_abs z ≡ bits_of z
unfolding bits_of
bits_of-pos z n e = rw e refl

pub bits_of-neg : (z : ℤ) (n : ℕ) → z ≡ negsuc n → 18446744073709551615 - n ≡ bits_of z
unfolding bits_of
bits_of-neg z n e = rw e refl
