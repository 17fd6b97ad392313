-- `maps::count_set`: after i turns the count is that of the first i bits.
use Prim.Native.Nat.{ℕ, ◌+◌}
use mathlib.Core.Path.{◌≡◌, refl, sym, ap, ap₂, ◌∙◌}
use native.Mathlib.Omega.{arith}
use Rattle.base.specs.Count.{bit}
use Rattle.maps.specs.Maps.{set_bits}
use Rattle.maps.proofs.Bits.{set_bits-none, set_bits-more, set_bits-le}
use Rattle.maps.proofs.count_set.Goals as goal
use Rattle.maps.proofs.count_set.Goals.{then-bit_at, else-bit_at}

pub loop-i-init : goal.loop-i-init
loop-i-init c = sym (set_bits-none _)

pub overflow_add-count : goal.overflow_add-count
overflow_add-count c = omega (arith, set_bits-le c.args.maps.now c.loop-i.i)

pub loop-i-preserved : goal.loop-i-preserved
loop-i-preserved c =
    let one : c.if-bit_at.count ≡ c.loop-i.count + bit c.bit_at.result =
    elim c.if-bit_at.branch [ then-bit_at w ↦ rw (w.count-is, w.if-bit_at.true) refl | else-bit_at w ↦ rw (w.count-is, w.if-bit_at.false) (omega arith) ] in
    one ∙ ap₂ (λ (a b : ℕ). a + b) c.loop-i.invariant (ap bit c.bit_at.ensures) ∙ sym (set_bits-more c.args.maps.now c.loop-i.i)

pub returns : goal.returns
returns c = c.loop-i.invariant ∙ ap (set_bits c.args.maps.now) (omega arith)
