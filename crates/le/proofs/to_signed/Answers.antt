-- `le::to_signed`: the lower half as it is; the upper half is -1 less what is missing to 2^64 - 1.
use Prim.Native.Nat.{◌-◌}
use mathlib.Core.Path.{◌≡◌, sym, ◌∙◌}
use native.Mathlib.Omega.{arith}
use lib.IntN.{negsuc, ◌-ℤ◌}
use mir.Syntax.{w64}
use mir.Val.{to_z, SFits}
use mir.ValLaws.{to_z-of_z, to_z_pos}
use Rattle.le.proofs.Signs.{signed_is, signed_high, minus_pos}
use Rattle.le.proofs.to_signed.Goals as goal

value : (c : goal.Else-x-lt9223372036854775808) → negsuc 0 -ℤ to_z w64 (18446744073709551615 - c.args.x) ≡ negsuc (18446744073709551615 - c.args.x)
value c = rw (to_z_pos w64 (18446744073709551615 - c.args.x) (omega arith)) (minus_pos (18446744073709551615 - c.args.x))

fits : (c : goal.Else-x-lt9223372036854775808) → SFits w64 (negsuc (18446744073709551615 - c.args.x))
fits c = record { sfits = omega arith }

pub returns-then-x-lt9223372036854775808 : goal.returns-then-x-lt9223372036854775808
returns-then-x-lt9223372036854775808 c = sym (signed_is _ (omega arith))

pub overflow_sub-result : goal.overflow_sub-result
overflow_sub-result c = rw (value c) (fits c)

pub returns : goal.returns
returns c = rw (value c) (to_z-of_z w64 _ (fits c) ∙ sym (signed_high _ (omega arith)))
