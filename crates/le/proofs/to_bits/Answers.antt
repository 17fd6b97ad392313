-- `le::to_bits`: a number from 0 on as it is; one below is 2^64 - 1 less what is missing to -1.
use Prim.Native.Nat.{ℕ, ◌<◌}
use mathlib.Core.Path.{◌≡◌}
use native.Mathlib.Omega.{arith}
use lib.IntN.{pos, negsuc, ◌-ℤ◌}
use mir.Syntax.{w64}
use mir.Val.{to_z, of_z}
use mir.ValLaws.{to_z-of_z, to_z_pos}
use Rattle.le.proofs.Signs.{minus-neg, not-below, is_below, bits_of-pos, bits_of-neg}
use Rattle.le.proofs.to_bits.Goals as goal
use Rattle.le.proofs.to_bits.Goals.{Else-z-ge0, Start, Then-z-ge0}

own : (c : Start) → to_z w64 (of_z w64 c.args.z) ≡ c.args.z
own c = to_z-of_z w64 c.args.z c.ranges.z

up : (c : Then-z-ge0) → (n : ℕ) × (c.args.z ≡ pos n) × (n < 9223372036854775808)
up c = not-below c.args.z c.ranges.z (rw (own c.before) at c.if-z-ge0.true)

down : (c : Else-z-ge0) → (n : ℕ) × (c.args.z ≡ negsuc n) × (n < 9223372036854775808)
down c = is_below c.args.z c.ranges.z (rw (own c.before) at c.if-z-ge0.false)

m-is : (c : Else-z-ge0) → negsuc 0 -ℤ to_z w64 (of_z w64 c.args.z) ≡ pos (down c).0
m-is c = rw (own c.before) (minus-neg c.args.z (down c).0 (down c).1)

u-is : (c : Else-z-ge0) → to_z w64 (of_z w64 (negsuc 0 -ℤ to_z w64 (of_z w64 c.args.z))) ≡ pos (down c).0
u-is c = rw (m-is c) (to_z_pos w64 (down c).0 (down c).2)

pub overflow_cast-result : goal.overflow_cast-result
overflow_cast-result c = rw (own c.before, (up c).1) (tt, record { fits = omega (arith, (up c).2) })

pub returns-then-z-ge0 : goal.returns-then-z-ge0
returns-then-z-ge0 c = rw (own c.before) (bits_of-pos c.args.z (up c).0 (up c).1)

pub overflow_sub-below : goal.overflow_sub-below
overflow_sub-below c = rw (m-is c) (record { sfits = omega (arith, (down c).2) })

pub overflow_cast-u : goal.overflow_cast-u
overflow_cast-u c = rw (u-is c) (tt, record { fits = omega (arith, (down c).2) })

pub overflow_sub-result : goal.overflow_sub-result
overflow_sub-result c = rw (u-is c) (omega (arith, (down c).2))

pub returns : goal.returns
returns c = rw (u-is c) (bits_of-neg c.args.z (down c).0 (down c).1)
