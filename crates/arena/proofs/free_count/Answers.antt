-- `arena::free_count`: after k turns the count is the definition's at k.
use mathlib.Core.Path.{◌≡◌, refl, ap, ap₂, ◌∙◌, sym}
use mathlib.Core.Bool.{Bool}
use Prim.Native.Nat.{ℕ, ◌+◌}
use native.Mathlib.Omega.{arith}
use Rattle.base.specs.Count.{sum_to, count_to, bit}
use Rattle.base.proofs.Counts.{bit_le, count_to-more}
use Rattle.arena.specs.Blocks.{blk}
use Rattle.arena.specs.Fields.{is_free}
use Rattle.arena.specs.Places.{free_count}
use Rattle.arena.proofs.free_count.Goals as goal
use Rattle.arena.proofs.free_count.Goals.{then-is_free, else-is_free}

pub loop-k-init : goal.loop-k-init
unfolding count_to sum_to
loop-k-init c = (refl, omega arith)

pub loop-k-preserved : goal.loop-k-preserved
unfolding blk
loop-k-preserved c =
    let free : ℕ → Bool = λ j. is_free (blk c.args.arena.now j) in
    let one : c.if-is_free.count ≡ c.loop-k.count + bit c.is_free.result =
    elim c.if-is_free.branch [ then-is_free w ↦ rw (w.count-is, w.if-is_free.true) refl | else-is_free w ↦ rw (w.count-is, w.if-is_free.false) (omega arith) ] in (
      one ∙ ap₂ (λ (a b : ℕ). a + b) c.loop-k.invariant.0 (ap bit c.is_free.ensures) ∙ sym (count_to-more free c.loop-k.k),
      omega (arith, bit_le c.is_free.result),
    )

pub returns : goal.returns
unfolding free_count
returns c =
    c.loop-k.invariant.0 ∙ ap (count_to (λ j. is_free (blk c.args.arena.now j))) (omega arith)
