-- `arena::block_check`: after i bytes the sum is the definition's at i, and at most 508 * 255 for each byte.
use mathlib.Core.Path.{◌≡◌, refl, sym, ap, ap₂, ◌∙◌}
use mathlib.Core.List.{List}
use Prim.Native.Nat.{ℕ, ◌+◌, ◌*◌, ◌≤◌, ◌<◌}
use native.Mathlib.Nat.{mul-le-mul_right, le_trans}
use native.Mathlib.Omega.{arith}
use lib.ListN.{length, get_or, take, length-take}
use Rattle.std.proofs.lemmas.List.{get_or-take}
use Rattle.base.specs.Count.{sum_to}
use Rattle.base.proofs.Counts.{sum_to-more}
use Rattle.arena.specs.Fields.{check_of}
use Rattle.arena.proofs.block_check.Goals as goal

-- byte i of the first 508, and that its weighed value is at most 508 * 255
weighed : (part : List ℕ) (i x : ℕ) → i < length (take 508 part) → x ≡ get_or (take 508 part) i 0 → get_or part i 0 < 256
    → (i < 508) × (x ≡ get_or part i 0) × ((i + 1) * x ≤ 129540)
weighed part i x l e b =
    let n : i < 508 = omega (arith, length-take 508 part) in
    let is : x ≡ get_or part i 0 = e ∙ get_or-take 508 part i 0 n in
    let w : i + 1 ≤ 508 = omega arith in
    (n, is, le_trans (mul-le-mul_right x w) (omega arith))

pub slice_bounds-byte-items-end : goal.slice_bounds-byte-items-end
slice_bounds-byte-items-end c = omega (arith, length-take 508 c.args.part.now)

pub loop-i-init : goal.loop-i-init
unfolding sum_to
loop-i-init c = (refl, omega arith)

pub overflow_cast-sum : goal.overflow_cast-sum
overflow_cast-sum c = omega (arith, length-take 508 c.args.part.now)

pub overflow_add-sum : goal.overflow_add-sum
overflow_add-sum c = omega (arith, length-take 508 c.args.part.now)

pub overflow_mul-sum : goal.overflow_mul-sum
overflow_mul-sum c =
    omega (arith, weighed c.args.part.now c.loop-i.i c.from.result c.loop-i-test.true c.from.ensures (c.type_inv.part c.loop-i.i).fits)

pub overflow_add-sum-in-loop-i : goal.overflow_add-sum-in-loop-i
overflow_add-sum-in-loop-i c =
    omega (arith, weighed c.args.part.now c.loop-i.i c.from.result c.loop-i-test.true c.from.ensures (c.type_inv.part c.loop-i.i).fits)

pub loop-i-preserved : goal.loop-i-preserved
loop-i-preserved c =
    let f : ℕ → ℕ = λ j. (j + 1) * get_or c.args.part.now j 0 in
    let w = weighed c.args.part.now c.loop-i.i c.from.result c.loop-i-test.true c.from.ensures (c.type_inv.part c.loop-i.i).fits in (
      ap₂ (λ (a b : ℕ). a + (c.loop-i.i + 1) * b) c.loop-i.invariant.0 w.1 ∙ sym (sum_to-more f c.loop-i.i),
      omega arith,
    )

pub returns : goal.returns
unfolding check_of
returns c =
    let i508 : c.loop-i.i ≡ 508 = omega (arith, length-take 508 c.args.part.now) in
    c.loop-i.invariant.0 ∙ ap (sum_to (λ j. (j + 1) * get_or c.args.part.now j 0)) i508
