-- `sound::block::all_zero`: the bits joined are none where the bytes passed are zero.
use mathlib.Core.Path.{◌≡◌, refl, ap, ◌∙◌, sym}
use mathlib.Core.Bool.{Bool, ◌&&◌}
use Prim.Native.Nat.{ℕ}
use native.Mathlib.Omega.{arith}
use lib.Dec.{eqb}
use lib.ListN.{length, get_or}
use Rattle.base.proofs.Sames.{or-zero, all_to-suc, every-all_to}
use Rattle.base.specs.Count.{all_to}
use Rattle.sound.specs.Sound.{all_zero}
use Rattle.sound.proofs.block.all_zero.Goals as goal

pub loop-byte-init : goal.loop-byte-init
unfolding all_to
loop-byte-init c = refl

pub loop-byte-preserved : goal.loop-byte-preserved
loop-byte-preserved c =
    let zero-at : ℕ → Bool = λ j. eqb (get_or c.args.part.now j 0) 0 in
    or-zero c.loop-byte.joined (get_or c.args.part.now c.loop-byte.byte-index 0)
    ∙ ap (λ (b : Bool). b && zero-at c.loop-byte.byte-index) c.loop-byte.invariant
    ∙ sym (all_to-suc zero-at c.loop-byte.byte-index)

pub returns : goal.returns
unfolding all_zero
returns c =
    let p = c.args.part.now in
    let e : c.loop-byte.byte-index ≡ length p = omega arith in
    c.loop-byte.invariant ∙ ap (all_to (λ j. eqb (get_or p j 0) 0)) e ∙ sym (every-all_to (λ x. eqb x 0) p)
