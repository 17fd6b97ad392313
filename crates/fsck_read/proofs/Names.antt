-- A slot's name: which bytes it is.
use mathlib.Core.Path.{◌≡◌, sym, ap, ◌∙◌}
use mathlib.Core.List.{List}
use Prim.Native.Nat.{ℕ, ◌+◌, ◌-◌, ◌≤◌}
use native.Mathlib.Omega.{arith}
use lib.ListN.{length, take}
use Rattle.base.specs.Parts.{part}
use Rattle.base.proofs.Lists.{length_part}
use Rattle.base.proofs.Parts.{part-part}
use Rattle.structs.specs.Layout.{entry_of}
use Rattle.utf8.specs.Names.{zero_at, name_of}
use Rattle.utf8.proofs.Names.{zero_at-le}

-- a name ends within its 256 bytes
pub zero-most : (l : List ℕ) (z : ℕ) → length l ≡ 264 → z ≡ zero_at (part l 4 260) → z ≤ 256
zero-most l z size e = omega (arith, zero_at-le (part l 4 260), length_part l 4 260 (omega arith) (omega arith))

pub name-is : (l : List ℕ) (z : ℕ) → length l ≡ 264 → z ≡ zero_at (part l 4 260) → part l 4 (4 + z) ≡ name_of (entry_of l).name
unfolding entry_of
name-is l z size e =
    sym (part-part l 4 260 0 z (omega (arith, zero-most l z size e))) ∙ ap (λ (x : ℕ). take x (part l 4 260)) (let n : z - 0 ≡ zero_at (part l 4 260) = omega arith in n)
